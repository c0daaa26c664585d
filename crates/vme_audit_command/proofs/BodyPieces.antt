-- The audit of a body that is underway, before the first piece, after one more piece, and where it ends.
use Rattle.std.proofs.Common.{◌≡◌, ℕ, List, [], ◌++◌, Option, None, Some, IfSome, Result, Ok, Err, take, drop, sym}
use Rattle.std.proofs.Common.{ap, subst, ◌∙◌, append_assoc, append-nil, take-append-drop, refl}
use Rattle.std.specs.Io.KnownBytes.{Consumes, IsAtEnd}
use Rattle.std.proofs.KnownBytes.{Consumes-nil, Consumes-trans}
use Rattle.vme_trace.specs.Streams.{Reading, Writing}
use Rattle.vme_trace.specs.Trace.{Trace}
use Rattle.vme_bind.specs.TextReading.{TextReading}
use Rattle.vme_stream.specs.Outputs.{Writes}
use Rattle.vme_stream.proofs.OutputLemmas.{Writes-append, Writes-nothing}
use Rattle.vme_audit_command.specs.Bodies.{AuditsBody, HasGiven, TakesPiece, WritesRest}
use Rattle.vme_audit_command.specs.Definitions.{unread}
use Rattle.vme_audit_command.specs.declared.dump_input.ReadFault.{ReadFault}
use Rattle.vme_audit_command.specs.declared.dump_input.ReadFault.TheVariants as read
use Rattle.vme_audit_command.specs.DumpAudits.{given_recording, lines_of}
use Rattle.vme_dump_input.specs.SettledReadings.{settled_by}
use Rattle.vme_skew.specs.Settling.{Settling}
use Rattle.vme_step_auditor.specs.ReadBy.{GivenSteps}
use Rattle.vme_step_reader.specs.StepReading.{StepReading, whole_reading}
use Rattle.vme_audit_command.specs.declared.written_lines.NoOutcome.{NoOutcome}
use Rattle.vme_audit_command.specs.declared.written_lines.NoOutcome.TheVariants.{CannotRead, NotWritten}
use Rattle.vme_audit_command.specs.declared.written_lines.WriteFault.TheVariants.{Memory}
use Rattle.vme_audit_command.proofs.BodyLemmas.{ReadGoesOn}
use Rattle.vme_dump_input.proofs.ReadSteps.{GivenIsPrefix, StepsFollow, TimeGoesOn}
use Rattle.vme_audit_command.proofs.Onward.{ExtendsTo-given}
use Rattle.vme_audit_command.proofs.PieceLemmas.{WritesRest-after_text, WritesRest-memory}

-- what is left of a source after its first bytes were read
abbrev pub left_of : Option (List ℕ) → List ℕ
left_of None = []
left_of (Some x) = x

-- if the bytes of a source are known, those that were read and those that are left are all of them
pub Consumes-then_left : (a b : Option (List ℕ)) (bytes : List ℕ) → Consumes a b bytes
    → IfSome a (λ told. bytes ++ left_of b
    ≡ told)
Consumes-then_left None b bytes read = tt
Consumes-then_left (Some x) None bytes read = absurd read
Consumes-then_left (Some x) (Some y) bytes read = sym read

-- if the bytes of a source are known, and it is at its end, those that were read are all of them
pub Consumes-to_end : (a b : Option (List ℕ)) (bytes : List ℕ) → Consumes a b bytes → IsAtEnd b
    → IfSome a (λ told. bytes
    ≡ told)
Consumes-to_end None b bytes read end = tt
Consumes-to_end (Some x) None bytes read end = absurd read
Consumes-to_end (Some x) (Some y) bytes read end =
    sym (read ∙ ap (λ (l : List ℕ). bytes ++ l) end ∙ append-nil bytes)

-- if the bytes that are left of a source are known, `left_of` gives them
pub left_of-known : (a : Option (List ℕ)) → IfSome a (λ told. left_of a ≡ told)
left_of-known None = tt
left_of-known (Some x) = refl

-- the audit of a body that began with `held`: `more` was read from `source`; `done` is taken, and `left` is held now;
-- the lines of the breaks so far, `text`, were written
pub record IsUnderway (head : List ℕ) (source now : Reading) (old new : Writing) (first audit : GivenSteps)
    (begun r : StepReading) (held left : List ℕ) : Type 0 where
  pub done : List ℕ
  pub more : List ℕ
  pub text : List ℕ
  pub read : Consumes source.left now.left more
  pub split : held ++ more ≡ done ++ left
  pub passes : (rest : List ℕ) → whole_reading begun (done ++ rest) ≡ whole_reading r rest
  pub same : audit ≡ given_recording first audit.recording
  pub lines : lines_of head audit ≡ lines_of head first ++ text
  pub writes : Writes old new text

-- an audit is underway before anything is taken, read or written
pub IsUnderway-first : (head : List ℕ) (source : Reading) (old : Writing) (audit : GivenSteps) (r : StepReading)
    (held : List ℕ) → IsUnderway head source source old old audit audit r r held held
IsUnderway-first head source old audit r held = record {
  done = [];
  more = [];
  text = [];
  read = Consumes-nil source.left;
  split = append-nil held;
  passes = λ rest. refl;
  same = refl;
  lines = sym (append-nil (lines_of head audit));
  writes = Writes-nothing old;
}

module _ (skew : Option ℕ) (head : List ℕ) (source now : Reading) (old new : Writing) (first audit : GivenSteps)
    (begun r : StepReading) (held left : List ℕ)
    (u : IsUnderway head source now old new first audit begun r held left) where
  -- the audit is underway after the first `n` bytes that are held are taken, and the lines that they add are written
  pub IsUnderway-taken : (later : GivenSteps) (next : StepReading) (n : ℕ) (after : Writing)
      → ((rest : List ℕ) → whole_reading r (take n left ++ rest) ≡ whole_reading next rest)
      → later ≡ given_recording audit later.recording
      → (text : List ℕ) × (lines_of head later ≡ lines_of head audit ++ text) × Writes new after text
      → IsUnderway head source now old after first later begun next held (drop n left)
  IsUnderway-taken later next n after passes same told =
      let (text, lines, writes) = told in
      record {
        done = u.done ++ take n left;
        more = u.more;
        text = u.text ++ text;
        read = u.read;
        split = u.split ∙ ap (λ (l : List ℕ). u.done ++ l) (sym (take-append-drop n left))
            ∙ sym (append_assoc u.done (take n left) (drop n left));
        passes = λ rest. ap (whole_reading begun) (append_assoc u.done (take n left) rest) ∙ u.passes
            (take n left ++ rest)
            ∙ passes rest;
        same = same ∙ ap (λ (a : GivenSteps). given_recording a later.recording) u.same;
        lines = lines ∙ ap (λ (l : List ℕ). l ++ text) u.lines ∙ append_assoc (lines_of head first) u.text text;
        writes = Writes-append old new after u.text text u.writes writes;
      }

  -- the audit is underway after further bytes are read, which are held then
  pub IsUnderway-read : (later : Reading) (bytes grown : List ℕ) → Consumes now.left later.left bytes
      → grown ≡ left ++ bytes → IsUnderway head source later old new first audit begun r held grown
  IsUnderway-read later bytes grown read is = record {
    done = u.done;
    more = u.more ++ bytes;
    text = u.text;
    read = Consumes-trans source.left now.left later.left u.more bytes u.read read;
    split = sym (append_assoc held u.more bytes) ∙ ap (λ (l : List ℕ). l ++ bytes) u.split
        ∙ append_assoc u.done left bytes ∙ ap (λ (l : List ℕ). u.done ++ l) (sym is);
    passes = u.passes;
    same = u.same;
    lines = u.lines;
    writes = u.writes;
  }

  -- what all bytes of the body give is what the reader gives from the held ones on
  whole_reading-underway : (rest : List ℕ) → whole_reading begun (held ++ (u.more ++ rest))
      ≡ whole_reading r (left ++ rest)
  whole_reading-underway rest =
      ap (whole_reading begun) (sym (append_assoc held u.more rest) ∙ ap (λ (l : List ℕ). l ++ rest) u.split
      ∙ append_assoc u.done left rest)
      ∙ u.passes (left ++ rest)

  -- if the rest of the body, from the held bytes on, ends with this result, so does the whole body
  WritesRest-underway : {A : Type 0} (later : GivenSteps) (after : Writing) (result : Result A NoOutcome)
      (rest : List ℕ)
      → WritesRest head audit (lines_of head audit) (settled_by skew (whole_reading r (left ++ rest))) later.recording
      new after result
      → WritesRest head first (lines_of head first) (settled_by skew (whole_reading begun (held ++ (u.more ++ rest))))
      later.recording old after result
  WritesRest-underway {A} later after result rest ends =
      let reading = settled_by skew (whole_reading r (left ++ rest)) in
      let there : WritesRest head audit (lines_of head first ++ u.text) reading later.recording new after result =
      subst (λ (l : List ℕ). WritesRest head audit l reading later.recording new after result) u.lines ends in
      let ours : WritesRest head first (lines_of head first ++ u.text) reading later.recording new after result =
      subst (λ (a : GivenSteps). WritesRest head a (lines_of head first ++ u.text) reading later.recording new after
      result) u.same there in
      let whole = WritesRest-after_text head first (lines_of head first) u.text reading later.recording old new after
      result
      u.writes ours in
      subst (λ (x : TextReading). WritesRest head first (lines_of head first) (settled_by skew x) later.recording old
      after result)
      (sym (whole_reading-underway rest)) whole

  -- if the audit ends with this result, whatever follows the held bytes, the body was audited until it ends
  pub AuditsBody-ends : {A : Type 0} (later : GivenSteps) (after : Writing) (result : Result A NoOutcome)
      → ((rest : List ℕ)
      → WritesRest head audit (lines_of head audit) (settled_by skew (whole_reading r (left ++ rest))) later.recording
      new after result)
      → AuditsBody skew head first later begun held source old after result
  AuditsBody-ends later after result ends = (
    u.more ++ left_of now.left,
    Consumes-then_left source.left now.left u.more u.read,
    WritesRest-underway later after result (left_of now.left) (ends (left_of now.left)),
  )

  -- if the source is at its end, and the audit of the held bytes ends with this result, the body was audited until it
  -- ends
  pub AuditsBody-last : {A : Type 0} (later : GivenSteps) (after : Writing) (result : Result A NoOutcome)
      → IsAtEnd now.left
      → WritesRest head audit (lines_of head audit) (settled_by skew (whole_reading r left)) later.recording new after
      result
      → AuditsBody skew head first later begun held source old after result
  AuditsBody-last later after result end ends = (
    u.more,
    Consumes-to_end source.left now.left u.more u.read end,
    subst (λ (l : List ℕ). WritesRest head first (lines_of head first)
        (settled_by skew (whole_reading begun (held ++ l))) later.recording old after result) (append-nil u.more)
        (WritesRest-underway later after result []
        (subst (λ (l : List ℕ). WritesRest head audit (lines_of head audit) (settled_by skew (whole_reading r l))
        later.recording new after result)
        (sym (append-nil left)) ends)),
  )

-- no more could be read: a prefix of all lines was written
module _ (law : ReadGoesOn) (front : GivenIsPrefix) (follows : StepsFollow) (on : TimeGoesOn) (head : List ℕ)
    (skew : Option ℕ) (settler : Option Settling) (audit : GivenSteps) (r : StepReading)
    (h : HasGiven skew settler audit r) (w : Writing) where
  -- if there is no memory for more bytes, a prefix of the other lines was written, the empty one
  pub WritesRest-no_memory : (A : Type 0) (t : Trace) (rest : List ℕ)
      → WritesRest {A = A} head audit (lines_of head audit) (settled_by skew (whole_reading r rest)) t w w
      (Err (NotWritten Memory))
  WritesRest-no_memory A t rest =
      WritesRest-memory A law head audit (settled_by skew (whole_reading r rest)) t w
      (ExtendsTo-given front follows on skew r rest settler audit h)

  -- if a read fails, a prefix of the other lines was written, the empty one
  pub WritesRest-cannot_read : (A : Type 0) (t : Trace) (rest : List ℕ)
      → WritesRest {A = A} head audit (lines_of head audit) (settled_by skew (whole_reading r rest)) t w w
      (Err CannotRead)
  WritesRest-cannot_read A t rest = WritesRest-no_memory A t rest

  -- if no more is read, because of this fault, a prefix of the other lines was written, the empty one
  pub WritesRest-unread : (fault : ReadFault) (why : NoOutcome) (t : Trace) → why ≡ unread fault → (rest : List ℕ)
      → WritesRest {A = Unit {0}} head audit (lines_of head audit) (settled_by skew (whole_reading r rest)) t w w
      (Err why)
  WritesRest-unread read.Failed why t is rest =
      subst (λ (e : NoOutcome). WritesRest {A = Unit {0}} head audit (lines_of head audit)
      (settled_by skew (whole_reading r rest)) t w w (Err e)) (sym is) (WritesRest-cannot_read (Unit {0}) t rest)
  WritesRest-unread read.Memory why t is rest =
      subst (λ (e : NoOutcome). WritesRest {A = Unit {0}} head audit (lines_of head audit)
      (settled_by skew (whole_reading r rest)) t w w (Err e)) (sym is) (WritesRest-no_memory (Unit {0}) t rest)

-- ---- a piece of a body that is underway

module _ (skew : Option ℕ) (head : List ℕ) (source now : Reading) (old new : Writing) (first audit : GivenSteps)
    (begun r : StepReading) (held left bytes : List ℕ)
    (u : IsUnderway head source now old new first audit begun r held left) (is : bytes ≡ left)
    (later : GivenSteps) (settled : Option Settling) (after : Writing) where
  -- the body ends in this piece with an error
  pub AuditsBody-fails : (why : NoOutcome) → TakesPiece skew head audit later settled r bytes new after (Err why)
      → AuditsBody {A = Unit {0}} skew head first later begun held source old after (Err why)
  AuditsBody-fails why takes =
      AuditsBody-ends skew head source now old new first audit begun r held left u {A = Unit {0}} later after (Err why)
      (subst (λ (l : List ℕ). (rest : List ℕ) → WritesRest {A = Unit {0}} head audit (lines_of head audit)
      (settled_by skew (whole_reading r (l ++ rest))) later.recording new after (Err why)) is takes)

  -- the audit stops in this piece
  pub AuditsBody-stops : (going : Option (StepReading × ℕ)) → going ≡ None
      → TakesPiece skew head audit later settled r bytes new after (Ok going)
      → AuditsBody {A = Unit {0}} skew head first later begun held source old after (Ok tt)
  AuditsBody-stops going none takes =
      let ends = subst (λ (x : Option (StepReading × ℕ)). TakesPiece skew head audit later settled r bytes new after
      (Ok x)) none
      takes
      in
      AuditsBody-ends skew head source now old new first audit begun r held left u {A = Unit {0}} later after (Ok tt)
      (subst (λ (l : List ℕ). (rest : List ℕ) → WritesRest {A = Unit {0}} head audit (lines_of head audit)
      (settled_by skew (whole_reading r (l ++ rest))) later.recording new after (Ok tt)) is ends)

  -- the audit continues after this piece: it was given what comes out of the reader's steps, and is underway
  pub IsUnderway-next : (going : Option (StepReading × ℕ)) (next : StepReading) (n : ℕ) (dropped : List ℕ)
      → going ≡ Some (next, n) → dropped ≡ drop n left
      → TakesPiece skew head audit later settled r bytes new after (Ok going)
      → HasGiven skew settled later next × IsUnderway head source now old after first later begun next held dropped
  IsUnderway-next going next n dropped goes drops takes =
      let goes_on : TakesPiece skew head audit later settled r bytes new after (Ok (Some (next, n))) =
      subst (λ (x : Option (StepReading × ℕ)). TakesPiece skew head audit later settled r bytes new after (Ok x)) goes
      takes in
      let (_, taken, given, same, told) = goes_on in
      let passes = subst (λ (l : List ℕ). (rest : List ℕ) → whole_reading r (take n l ++ rest) ≡ whole_reading next
      rest)
      is taken in (
        given,
        subst (λ (l : List ℕ). IsUnderway head source now old after first later begun next held l) (sym drops)
            (IsUnderway-taken skew head source now old new first audit begun r held left u later next n after passes
            same told),
      )
