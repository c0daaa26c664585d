-- The deskewed recording of a binding and a dump, and the verdict on it, step by step. Deskewing by 0 changes nothing.
use Rattle.std.proofs.Common.{◌≡◌, ◌≤◌, ℕ, true, false, List, length, refl, sym, ap, subst, ◌∙◌, arith}
use Rattle.std.proofs.lemmas.Bool.{le-ltb}
use Rattle.std.proofs.lemmas.Bool.Decides.{nat_tests}
use Rattle.std.specs.Prelude.{Option, Result, Ok, Err, IfOk, nat_lt}
use Rattle.vcd_read.specs.Contents.{Contents}
use Rattle.vcd_read.specs.Header.{◌>>=◌}
use Rattle.vme_trace.specs.Trace.{Trace}
use Rattle.vme_trace.specs.WellFormed.{capture_limit}
use Rattle.vme_trace.specs.declared.verdict.Verdict.{Verdict}
use Rattle.vme_bind.specs.Binding.{BoundLines}
use Rattle.vme_bind.specs.Capture.{capture_of, limited}
use Rattle.vme_bind.specs.declared.fault.BindFault.{BindFault}
use Rattle.vme_bind.specs.declared.fault.BindFaultKind.TheVariants.{TooManySteps}
use Rattle.vme_skew.specs.Settled.{settled, settled_or}
use Rattle.vme_skew.proofs.CapturesStay.{capture_of-zero_skew}
use Rattle.vme_skew.proofs.Laws.{length-settled}
use Rattle.vme_stream.specs.Answers.{AnswerGives, binding_read, capture_by, capture_read, dump_read, judgement_of}
use Rattle.vme_stream.specs.Answers.{or_bad_binding, recording_read, verdict_in_blocks}
use Rattle.vme_stream.specs.Refusals.{judging_refusal}
use Rattle.vme_stream.specs.declared.refusal.Refusal.{Refusal}
use Rattle.vme_stream.specs.declared.refusal.Refusal.TheVariants.{Memory}
use Rattle.vme_stream.proofs.AnswerLemmas.{capture_read-recorded, capture_read-unrecorded, AnswerGives-then}
use Rattle.vme_stream.proofs.AnswerLemmas.{IsOfText, IsOfText-dump_read}
use Rattle.vme_summary.specs.declared.stream_judge.NoVerdict.TheVariants as NoVerdict
use Rattle.vme_commands.specs.Judged.{GivesUnlimited, in_blocks, judged_in_blocks, limited_in_blocks}
use Rattle.vme_commands.specs.Listings.{recording_in_blocks}
use Rattle.vme_commands.specs.Settled.{settled_judgement, settled_read, settled_recording}
use Rattle.vme_commands.proofs.JudgedLemmas.{verdict_in_blocks-in_blocks}

-- ---- deskewing by 0 changes nothing

-- a recording, or the refusal of the binding, may be deskewed before or after the refusal is made
settled_or-or_bad_binding : (skew : ℕ) (r : Result Trace BindFault) → settled_or skew (or_bad_binding r)
    ≡ or_bad_binding (settled_or skew r)
settled_or-or_bad_binding skew (Ok t) = refl
settled_or-or_bad_binding skew (Err fault) = refl

-- deskewing by 0 leaves what a binding makes of contents of a text as it is
capture_by-zero_skew : (binding : BoundLines) (read : Result Contents Refusal) → IsOfText read → settled_or 0
    (capture_by binding read) ≡ capture_by binding read
capture_by-zero_skew binding (Ok contents) of =
    settled_or-or_bad_binding 0 (capture_of binding contents) ∙ ap (λ (r : Result Trace BindFault). or_bad_binding r)
    (capture_of-zero_skew binding of.0 contents of.1)
capture_by-zero_skew binding (Err r) of = refl

-- deskewing by 0 doesn't change what a binding makes of a dump
pub capture_by-skew_zero : (skew : ℕ) → skew ≡ 0 → (binding : BoundLines) (d : Option (List ℕ))
    → settled_or skew (capture_by binding (dump_read d)) ≡ capture_by binding (dump_read d)
capture_by-skew_zero skew none binding d =
    ap (λ (s : ℕ). settled_or s (capture_by binding (dump_read d))) none
    ∙ capture_by-zero_skew binding (dump_read d) (IsOfText-dump_read d)

-- the recording that a binding makes of the dump, or its refusal
abbrev captured_by : Option (List ℕ) → BoundLines → Result Trace Refusal
captured_by d binding = capture_by binding (dump_read d)

-- the recording that is deskewed by 0 is the recording
pub settled_read-zero_skew : (b d : Option (List ℕ)) → settled_read 0 b d ≡ capture_read b d
unfolding settled_read capture_read
settled_read-zero_skew b d = by_binding (binding_read b)
  where
    -- by whether there is a binding
    by_binding : (r : Result BoundLines Refusal) → settled_or 0 (r >>= captured_by d) ≡ (r >>= captured_by d)
    by_binding (Ok binding) = capture_by-zero_skew binding (dump_read d) (IsOfText-dump_read d)
    by_binding (Err r) = refl

-- the verdict on the recording that is deskewed by 0 is that on the recording
pub settled_judgement-zero_skew : (b d : Option (List ℕ)) (block : ℕ) → settled_judgement 0 b d block
    ≡ judgement_of b d block
unfolding settled_judgement judgement_of
settled_judgement-zero_skew b d block = ap (λ (r : Result Trace Refusal). r >>= verdict_in_blocks block)
    (settled_read-zero_skew b d)

-- the recording that is deskewed by 0, within the blocks, is the recording within the blocks
pub settled_recording-zero_skew : (b d : Option (List ℕ)) (block : ℕ)
    → settled_recording 0 b d block ≡ recording_in_blocks b d block
unfolding settled_recording recording_in_blocks
settled_recording-zero_skew b d block = ap (λ (r : Result Trace Refusal). r >>= in_blocks block)
    (settled_read-zero_skew b d)

-- ---- results for the deskewed recording

-- the result agrees with the recording `read`, or is the same refusal
abbrev GivesTrace : Result Trace Refusal → Result Trace Refusal → Type 0
GivesTrace found read = AnswerGives (λ (t : Trace). t) found read

-- a refusal of a recording is one of the deskewed recording
pub settled_or-refused : (skew : ℕ) (read : Result Trace Refusal) (r : Refusal) → GivesTrace (Err r) read
    → GivesTrace (Err r) (settled_or skew read)
settled_or-refused skew read Memory is = tt
settled_or-refused skew read r is = ap (settled_or skew) is

-- a refusal of the capture is one of the deskewed recording
pub settled_read-refused : (skew : ℕ) (b d : Option (List ℕ)) (r : Refusal) → GivesTrace (Err r) (capture_read b d)
    → GivesTrace (Err r) (settled_read skew b d)
unfolding settled_read
settled_read-refused skew b d r is = settled_or-refused skew (capture_read b d) r is

-- what is read without the limit on steps agrees with the recording that is deskewed by a skew that equals 0
pub GivesUnlimited-skew_zero : (skew : ℕ) → skew ≡ 0 → (b d : Option (List ℕ)) (r : Result Trace Refusal)
    → GivesTrace r (recording_read b d) → GivesUnlimited r (settled_read skew b d)
GivesUnlimited-skew_zero skew none b d r given =
    subst (GivesUnlimited r) (sym (ap (λ (s : ℕ). settled_read s b d) none ∙ settled_read-zero_skew b d))
    (by_result r given)
  where
    -- by whether there is a recording
    by_result : (found : Result Trace Refusal) → GivesTrace found (recording_read b d)
        → GivesUnlimited found (capture_read b d)
    by_result (Ok t) is = capture_read-recorded b d t is
    by_result (Err refusal) refused = capture_read-unrecorded b d refusal refused

-- a result that agrees with what is read, and isn't too long, agrees with it without the limit on steps too
pub GivesUnlimited-short : (read r : Result Trace Refusal) → GivesTrace r read
    → IfOk r (λ (t : Trace). length t.steps ≤ capture_limit) → GivesUnlimited r read
GivesUnlimited-short read (Ok t) is short = rw (le-ltb capture_limit (length t.steps) short) is
GivesUnlimited-short read (Err refusal) refused short = refused

-- ---- the verdict on the deskewed recording, and its listing

-- where `t` was judged, of any length, for the deskewed recording, the judgement is the verdict on `t`, if it is
-- within the limits
pub settled_judgement-taken : (skew : ℕ) (b d : Option (List ℕ)) (block : ℕ) (t : Trace)
    → settled_read skew b d ≡ or_bad_binding (limited t) → settled_judgement skew b d block ≡ judged_in_blocks block t
unfolding settled_judgement
settled_judgement-taken skew b d block t is =
    ap (λ (r : Result Trace Refusal). r >>= verdict_in_blocks block) is
    ∙ verdict_in_blocks-in_blocks block (or_bad_binding (limited t))

-- a refusal of the deskewed recording is one of the judgement
pub settled_judgement-refused : (skew : ℕ) (b d : Option (List ℕ)) (block : ℕ) (r : Refusal)
    → GivesTrace (Err r) (settled_read skew b d)
    → AnswerGives (λ (v : Verdict). v) (Err r) (settled_judgement skew b d block)
unfolding settled_judgement
settled_judgement-refused skew b d block r is = AnswerGives-then r (settled_read skew b d) (verdict_in_blocks block) is

-- where `t` was judged, of any length, for the deskewed recording, that within the blocks is `t`, if it is within the
-- limits
pub settled_recording-taken : (skew : ℕ) (b d : Option (List ℕ)) (block : ℕ) (t : Trace)
    → settled_read skew b d ≡ or_bad_binding (limited t) → settled_recording skew b d block ≡ limited_in_blocks block t
unfolding settled_recording
settled_recording-taken skew b d block t is = ap (λ (r : Result Trace Refusal). r >>= in_blocks block) is

-- a refusal of the deskewed recording is one of it within the blocks
pub settled_recording-refused : (skew : ℕ) (b d : Option (List ℕ)) (block : ℕ) (r : Refusal)
    → GivesTrace (Err r) (settled_read skew b d) → GivesTrace (Err r) (settled_recording skew b d block)
unfolding settled_recording
settled_recording-refused skew b d block r is = AnswerGives-then r (settled_read skew b d) (in_blocks block) is

-- ---- a recording that is deskewed as it is judged

-- a recording that isn't too long is deskewed
pub settled_or-within : (skew : ℕ) (t made : Trace) → nat_lt capture_limit (length t.steps) ≡ false → made
    ≡ settled skew t
    → settled_or skew (or_bad_binding (limited t)) ≡ Ok made
settled_or-within skew t made within is = rw within (ap Ok (sym is))

-- a number that is at most another within the limit is within the limit
le-capture_limit : (n m : ℕ) → nat_lt capture_limit n ≡ false → m ≤ n → m ≤ capture_limit
le-capture_limit n m within few = grind (arith, nat_tests)

-- if a recording isn't too long, neither is the deskewed one
pub length-settled_within : (skew : ℕ) (t made : Trace) → nat_lt capture_limit (length t.steps) ≡ false → made
    ≡ settled skew t
    → length made.steps ≤ capture_limit
length-settled_within skew t made within is =
    le-capture_limit (length t.steps) (length made.steps) within
    (subst (λ (u : Trace). length u.steps ≤ length t.steps) (sym is) (length-settled skew t))

-- a recording that is too long is refused before it is deskewed
pub settled_or-too_long : (skew : ℕ) (t : Trace) → nat_lt capture_limit (length t.steps) ≡ true
    → settled_or skew (or_bad_binding (limited t)) ≡ Err (judging_refusal NoVerdict.TooManySteps)
settled_or-too_long skew t long = rw long refl

-- where there is a recording `t`, of any length, the deskewed recording is that of `t`, or the refusal if `t` is too
-- long
pub settled_read-recorded : (skew : ℕ) (b d : Option (List ℕ)) (t : Trace) → recording_read b d ≡ Ok t
    → settled_read skew b d ≡ settled_or skew (or_bad_binding (limited t))
unfolding settled_read
settled_read-recorded skew b d t is = ap (settled_or skew) (capture_read-recorded b d t is)
