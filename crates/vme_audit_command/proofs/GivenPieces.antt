-- An audit that was given what comes out of the reader's steps, after one more piece.
use Rattle.std.proofs.Common.{◌≡◌, ◌≤◌, ℕ, List, ◌++◌, true, Option, None, Some, IfNone, IfSome, Ok, Err, take, drop}
use Rattle.std.proofs.Common.{[]}
use Rattle.std.proofs.Common.{length, sym, ap, subst, ◌∙◌, append_assoc, take-append-drop, arith}
use Rattle.vme_trace.specs.Followed.{with_steps}
use Rattle.vme_trace.specs.Streams.{Writing}
use Rattle.vme_trace.specs.Trace.{Trace}
use Rattle.vme_trace.specs.WellFormed.{malformed_step}
use Rattle.vme_trace.specs.declared.step.Step.{Step}
use Rattle.vme_bind.specs.TextReading.{TextReading}
use Rattle.vme_skew.specs.Settling.{Settling}
use Rattle.vme_audit_command.specs.Bodies.{HasGiven, TakesPiece, WritesRest}
use Rattle.vme_audit_command.specs.DumpAudits.{AuditGoesTo, given_recording, lines_of}
use Rattle.vme_dump_input.specs.SettledReadings.{settled_by, settled_so_far}
use Rattle.vme_dump_input.specs.SettledSteps.{ComesOut, GoOnTo}
use Rattle.vme_step_auditor.specs.ReadBy.{GivenSteps, has_stopped}
use Rattle.vme_step_reader.specs.StepReading.{StepReading, whole_reading}
use Rattle.vme_audit_command.specs.declared.written_lines.NoOutcome.TheVariants.{NotWritten}
use Rattle.vme_audit_command.specs.declared.written_lines.WriteFault.{WriteFault}
use Rattle.vme_audit_command.proofs.BodyLemmas.{ReadGoesOn}
use Rattle.vme_dump_input.proofs.ReadSteps.{GivenIsPrefix, StepsFollow, StepsWithin, TimeGoesOn, settled_so_far-formed}
use Rattle.vme_audit_command.proofs.Onward.{ExtendsTo, GoOnTo-next_piece, ExtendsTo-reading}
use Rattle.vme_audit_command.proofs.PieceLemmas.{StopIsRead, StopStays, WritesRest-cut, WritesRest-stopped}

-- a piece is taken, and its steps are given
module _ (front : GivenIsPrefix) (follows : StepsFollow) (within : StepsWithin) (on : TimeGoesOn) (skew : Option ℕ)
    (settler : Option Settling) (audit : GivenSteps) (r : StepReading) (h : HasGiven skew settler audit r)
    (next : StepReading) (steps : List Step) (n : ℕ) (bytes : List ℕ)
    (taken : (rest : List ℕ) → whole_reading r (take n bytes ++ rest) ≡ whole_reading next rest)
    (given : next.given ≡ with_steps r.given steps) (time : ℕ) (now : time ≡ (whole_reading next []).time) where
  -- what is settled after the piece
  abbrev so_far : Trace
  so_far = settled_so_far skew time (with_steps r.given steps)

  -- the steps of the piece may follow those that were given, and none is later than `time`
  pub GoOnTo-piece : malformed_step next.given ≡ None → GoOnTo r.given (whole_reading r []).time steps time
  GoOnTo-piece formed =
      subst (GoOnTo r.given (whole_reading r []).time steps) (sym now)
      (GoOnTo-next_piece follows within on skew settler audit r h front next steps (take n bytes) taken given formed)

  -- reading all bytes gives what the reader after the piece gives from the other bytes on
  whole_reading-after_piece : (rest : List ℕ) → whole_reading r (bytes ++ rest)
      ≡ whole_reading next (drop n bytes ++ rest)
  whole_reading-after_piece rest =
      let split : bytes ++ rest ≡ take n bytes ++ (drop n bytes ++ rest) =
      ap (λ (l : List ℕ). l ++ rest) (sym (take-append-drop n bytes))
      ∙ append_assoc (take n bytes) (drop n bytes) rest in
      ap (whole_reading r) split ∙ taken (drop n bytes ++ rest)

  -- whatever follows the piece, the recording is well formed
  formed-after_piece : (rest : List ℕ) → malformed_step (whole_reading next rest).recorded ≡ None
  formed-after_piece rest =
      ap (λ (x : TextReading). malformed_step x.recorded) (sym (taken rest)) ∙ h.formed (take n bytes ++ rest)

  -- what the reader has given after the piece has at most 21 slots
  slots-after_piece : next.given.opening.slots ≤ 21
  slots-after_piece = subst (λ (t : Trace). t.opening.slots ≤ 21) (sym given) h.few

  -- what the whole text settles to continues what is settled after the piece
  ExtendsTo-after_piece : (rest : List ℕ)
      → ExtendsTo so_far (settled_by skew (whole_reading r (bytes ++ rest))).recorded
  ExtendsTo-after_piece rest =
      subst (λ (x : TextReading). ExtendsTo so_far (settled_by skew x).recorded) (sym (whole_reading-after_piece rest))
      (subst (λ (t : Trace). ExtendsTo (settled_so_far skew time t)
      (settled_by skew (whole_reading next (drop n bytes ++ rest))).recorded) given
      (ExtendsTo-reading front follows on skew next (drop n bytes ++ rest) time (omega (arith, now)) slots-after_piece
      (ap (λ (t : Trace). length t.opening.levels) given ∙ h.whole) formed-after_piece))

  -- not all lines of the piece were written
  pub WritesRest-piece_cut : ReadGoesOn → (head : List ℕ) (u v : Writing) (fault : WriteFault) (t : Trace)
      (rest : List ℕ)
      → AuditGoesTo {A = Unit {0}} head audit so_far u v (Err fault)
      → WritesRest {A = Unit {0}} head audit (lines_of head audit) (settled_by skew (whole_reading r (bytes ++ rest)))
      t u v (Err (NotWritten fault))
  WritesRest-piece_cut law head u v fault t rest goes =
      WritesRest-cut (Unit {0}) (Unit {0}) law head audit (settled_by skew (whole_reading r (bytes ++ rest))) so_far u v
      fault
      t (ExtendsTo-after_piece rest) goes

  module _ (formed : malformed_step next.given ≡ None) (head : List ℕ) (later : GivenSteps)
      (settled : Option Settling) (u v : Writing) (same : later ≡ given_recording audit so_far)
      (goes : AuditGoesTo {A = Unit {0}} head audit so_far u v (Ok tt)) where
    -- the recording that was given to the audit is then what is settled after the piece
    recording-later : later.recording ≡ so_far
    recording-later = ap (λ (a : GivenSteps). a.recording) same

    -- the recording that was given to the audit is then well formed
    pub formed-later : malformed_step later.recording ≡ None
    formed-later =
        ap malformed_step recording-later
        ∙ settled_so_far-formed skew time (with_steps r.given steps) h.whole (sym (ap malformed_step given) ∙ formed)

    -- the audit continues
    TakesPiece-goes_on : n ≤ length bytes → ComesOut skew settled (with_steps r.given steps) time later.recording
        → TakesPiece skew head audit later settled r bytes u v (Ok (Some (next, n)))
    TakesPiece-goes_on fits comes =
        let (text, grown, writes) = goes in (
          fits,
          taken,
          record {
            comes = subst (λ (k : ℕ). ComesOut skew settled next.given k later.recording) now
                (subst (λ (t : Trace). ComesOut skew settled t time later.recording) (sym given) comes);
            few = slots-after_piece;
            whole = ap (λ (t : Trace). length t.opening.levels) given ∙ h.whole;
            formed = formed-after_piece;
          },
          same ∙ ap (given_recording audit) (sym recording-later),
          (text, ap (lines_of head) same ∙ grown, writes),
        )

    -- the audit stops
    WritesRest-piece_stops : StopStays → StopIsRead → has_stopped later ≡ true → (rest : List ℕ)
        → WritesRest {A = Unit {0}} head audit (lines_of head audit)
        (settled_by skew (whole_reading r (bytes ++ rest))) later.recording u v (Ok tt)
    WritesRest-piece_stops stays read stopped rest =
        subst (λ (t : Trace). WritesRest {A = Unit {0}} head audit (lines_of head audit)
        (settled_by skew (whole_reading r (bytes ++ rest))) t u v (Ok tt)) (sym recording-later)
        (WritesRest-stopped stays read head audit (settled_by skew (whole_reading r (bytes ++ rest))) so_far u v
        (ExtendsTo-after_piece rest) (ap has_stopped (sym same) ∙ stopped) goes)

    -- the audit takes the piece and continues, or it stops in the piece
    pub TakesPiece-taken : StopStays → StopIsRead → (going : Option (StepReading × ℕ)) → n ≤ length bytes
        → ComesOut skew settled (with_steps r.given steps) time later.recording
        → IfSome going (λ p. (p.0 ≡ next) × (p.1 ≡ n))
        → (malformed_step later.recording ≡ None → IfNone going (has_stopped later ≡ true))
        → TakesPiece skew head audit later settled r bytes u v (Ok going)
    TakesPiece-taken stays read None fits comes on stopped = WritesRest-piece_stops stays read (stopped formed-later)
    TakesPiece-taken stays read (Some (x, m)) fits comes on stopped =
        subst (λ (k : ℕ). TakesPiece skew head audit later settled r bytes u v (Ok (Some (x, k)))) (sym on.1)
        (subst (λ (y : StepReading). TakesPiece skew head audit later settled r bytes u v (Ok (Some (y, n))))
        (sym on.0) (TakesPiece-goes_on fits comes))
