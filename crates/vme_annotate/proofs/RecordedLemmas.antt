-- The recording that is listed is one of a dump, and the dump has the times of the recording.
use Rattle.std.proofs.Common.{◌≡◌, ◌+◌, ◌-◌, ◌≤◌, ℕ, Bool, true, false, cond, List, [], length, refl, sym, ap}
use Rattle.std.proofs.Common.{subst, ◌∙◌, arith}
use Rattle.std.specs.Prelude.{IsSome, None, Option, Result, Ok, Err}
use Rattle.vcd_read.specs.Contents.{Contents}
use Rattle.vcd_read.specs.Header.{appended, nothing_declared}
use Rattle.vcd_read.specs.Meaning.{dump_of}
use Rattle.vcd_read.specs.Sections.{Defined, header_of}
use Rattle.vcd_read.specs.Tokens.{Token, tokens}
use Rattle.vcd_read.specs.declared.dump.Variable.{Variable}
use Rattle.vcd_read.specs.declared.fault.VcdFault.{VcdFault}
use Rattle.vcd_read.proofs.DumpLemmas.{contents_of_header, dump_of-header, whole_header}
use Rattle.vme_bind.specs.Binding.{BoundLines}
use Rattle.vme_bind.specs.BoundGroups.{bound_groups_in}
use Rattle.vme_bind.specs.Capture.{levels_after, recording, recording_of}
use Rattle.vme_bind.specs.TextCapture.{or_binding, recording_of_text, recording_read}
use Rattle.vme_bind.specs.declared.fault.BindFault.{BindFault}
use Rattle.vme_bind.proofs.CaptureLemmas.{length-levels_after}
use Rattle.vme_bind.proofs.TextCaptureLemmas.{recording_of_text-formed}
use Rattle.vme_skew.specs.Settled.{IsRecording, settled, settled_or}
use Rattle.vme_skew.proofs.Laws.{IsRecording-settled}
use Rattle.vme_trace.specs.LineNumbers.{line_count}
use Rattle.vme_trace.specs.Trace.{Trace, last_instant, time_at}
use Rattle.vme_trace.specs.WellFormed.{malformed_step}
use Rattle.vme_stream.specs.Answers.{capture_by, or_bad_binding, or_bad_dump, or_too_long, recording_by}
use Rattle.vme_stream.specs.declared.refusal.Refusal.{Refusal}
use Rattle.vme_commands.specs.Judged.{in_blocks}
use Rattle.vme_stream.proofs.AnswerLemmas.{capture_by-or_too_long}
use Rattle.vme_annotation.proofs.SameDumpLemmas.{IsDump, bind-ok, IsDump-dump_of}
use Rattle.vme_annotate.specs.HasTimes.{HasTimes}
use Rattle.vme_annotate.specs.TimedListings.{recording_to_list}
use Rattle.vme_annotate.proofs.HasTimesLemmas.{EachReached, IsReached-time_at, IsAscendingFrom-dump_of}
use Rattle.vme_annotate.proofs.HasTimesLemmas.{IsReached-dump_of, EachReached-recording_of}
use Rattle.vme_annotate.proofs.HasTimesLemmas.{EachReached-settled, time_at-later}
use Rattle.vme_annotate.proofs.ListedInstants.{all_changes-within}

-- ---- from a result that is `Ok` to what it is made of

-- if a choice between `Err r` and `Ok u` is `Ok t`, `u` is `t`
or_refused-ok : (b : Bool) (r : Refusal) (u t : Trace) → cond b (Err r) (Ok u) ≡ Ok t → u ≡ t
or_refused-ok true r u t e = absurd cc
or_refused-ok false r u t e = cc

-- if `read`, settled by `skew`, is `Ok t`, it was a recording `raw`, which settles to `t`
settled_or-ok : {E : Type 0} (skew : ℕ) (read : Result Trace E) (t : Trace) → settled_or skew read ≡ Ok t
    → (raw : Trace) × (read ≡ Ok raw) × (settled skew raw ≡ t)
settled_or-ok skew (Ok raw) t e = (raw, refl, cc)
settled_or-ok skew (Err fault) t e = absurd cc

-- if a choice between `Err fault` and `Ok u` is `Ok t` once its fault is a refusal, `u` is `t`
or_bad_binding-limited : (b : Bool) (fault : BindFault) (u t : Trace) → or_bad_binding (cond b (Err fault) (Ok u))
    ≡ Ok t → u ≡ t
or_bad_binding-limited true fault u t e = absurd cc
or_bad_binding-limited false fault u t e = cc

-- the recording of a result, or else `other`
abbrev trace_in : Trace → Result Trace BindFault → Trace
trace_in other (Ok made) = made
trace_in other (Err fault) = other

-- a result that is `Ok contents` once its fault is a refusal was `Ok contents` before
or_bad_dump-ok : (r : Result Contents VcdFault) (contents : Contents) → or_bad_dump r ≡ Ok contents → r ≡ Ok contents
or_bad_dump-ok (Ok other) contents e = ap (λ (c : Contents). Ok c) cc
or_bad_dump-ok (Err fault) contents e = absurd cc

-- a result that is `Ok t` once its fault is a refusal was `Ok t` before
or_bad_binding-ok : (r : Result Trace BindFault) (t : Trace) → or_bad_binding r ≡ Ok t → r ≡ Ok t
or_bad_binding-ok (Ok other) t e = ap (λ (u : Trace). Ok u) cc
or_bad_binding-ok (Err fault) t e = absurd cc

-- ---- what is listed is the settled recording of a dump

-- `t` is what the recording `raw` settles to, which `binding` makes of `dump`
pub record IsRecorded (skew : ℕ) (binding : BoundLines) (dump : List ℕ) (t : Trace) : Type 0 where
  pub contents : Contents
  pub read_is : dump_of dump ≡ Ok contents
  pub raw : Trace
  pub raw_is : recording_of binding contents ≡ Ok raw
  pub settles : settled skew raw ≡ t

-- the recording that is listed is that which `binding` makes of `dump`, settled by `skew`
pub IsRecorded-listed : (skew : ℕ) (binding : BoundLines) (dump : List ℕ) (block : ℕ) (t : Trace)
    → recording_to_list skew binding (or_bad_dump (dump_of dump)) block ≡ Ok t → IsRecorded skew binding dump t
IsRecorded-listed skew binding dump block t e =
    let read : Result Contents Refusal = or_bad_dump (dump_of dump) in
    let (u, settled_as, cut) = bind-ok (settled_or skew (capture_by binding read)) (in_blocks block) t e in
    let same : u ≡ t = or_refused-ok _ _ u t cut in
    let (raw, captured, settles) = settled_or-ok skew (capture_by binding read) u settled_as in
    let (whole, taken, short) = bind-ok (recording_by binding read) or_too_long raw
    (sym (capture_by-or_too_long binding read) ∙ captured) in
    let all : whole ≡ raw = or_bad_binding-limited _ _ whole raw short in
    let (contents, dumped, made) = bind-ok read _ whole taken in
    record {
      contents = contents;
      read_is = or_bad_dump-ok (dump_of dump) contents dumped;
      raw = raw;
      raw_is = or_bad_binding-ok (recording_of binding contents) raw (made ∙ ap (λ (r : Trace). Ok r) all);
      settles = settles ∙ same;
    }

module _ (skew : ℕ) (binding : BoundLines) (dump : List ℕ) (t : Trace) (is : IsRecorded skew binding dump t) where
  -- the text of the dump makes the recording `raw`
  recording_of_text-raw : recording_of_text binding dump ≡ Ok is.raw
  unfolding recording_of_text
  recording_of_text-raw =
      ap (recording_read binding) is.read_is ∙ ap (λ (r : Result Trace BindFault). or_binding r) is.raw_is

  -- the recording `raw` has levels for all lines, and is well formed
  raw_recording : IsRecording is.raw
  unfolding recording_of recording levels_after
  raw_recording =
      let read = bind-ok (bound_groups_in is.contents.variables binding.assignments) _ is.raw is.raw_is in
      record {
        whole = subst (λ (r : Trace). length r.opening.levels ≡ line_count) (ap (trace_in is.raw) read.2)
            (length-levels_after binding.slots read.0 is.contents.instants 0);
        formed = recording_of_text-formed binding dump is.raw recording_of_text-raw;
      }

  -- the recording `t` is well formed
  formed : malformed_step t ≡ None
  formed = subst (λ (u : Trace). malformed_step u ≡ None) is.settles
      (IsRecording-settled skew is.raw raw_recording).formed

  -- the times of `t` don't descend
  ordered : (i j : ℕ) → i ≤ j → j ≤ last_instant t → time_at t i ≤ time_at t j
  ordered i j le most =
      let all : i + (j - i) ≡ j = omega (arith, le) in
      subst (λ (k : ℕ). time_at t i ≤ time_at t k) all (time_at-later t formed i (j - i) (omega (arith, le, most)))

  -- the dump has the times of the recording `t`
  pub has_times : HasTimes dump t
  has_times =
      let read : IsDump dump is.contents = IsDump-dump_of dump is.contents is.read_is in
      let each = EachReached-recording_of dump binding is.contents is.raw is.raw_is
      (IsReached-dump_of dump is.contents is.read_is) in
      record {
        defined = subst (λ (o : Option (List Token)). IsSome o) (sym read.ends) refl;
        sorted = IsAscendingFrom-dump_of dump is.contents is.read_is;
        ordered = ordered;
        reached = λ i. IsReached-time_at dump t i (subst (λ (u : Trace). EachReached dump u.steps) is.settles
            (EachReached-settled dump skew is.raw each));
        within = all_changes-within t;
      }

  -- the definitions of the dump are read
  pub defines : (d : Defined (List Variable)) × (header_of appended dump (nothing_declared []) (tokens dump) ≡ Ok d)
  defines =
      let read = bind-ok (whole_header dump) contents_of_header is.contents (sym (dump_of-header dump) ∙ is.read_is)
      in
      (read.0, read.1)
