-- The verdict of the judge is that of the recording, and without one the refusal is the recording's.
use Rattle.std.proofs.Common.{◌∙◌, Result, Ok, refl, sym, ap}
use Rattle.vcd_read.specs.Header.{◌>>=◌}
use Rattle.vme_trace.specs.Trace.{Trace}
use Rattle.vme_trace.specs.Verdict.{rules_in_force, verdict_by}
use Rattle.vme_trace.specs.declared.verdict.Verdict.{Verdict}
use Rattle.vme_stream.specs.Refusals.{judging_refusal}
use Rattle.vme_stream.specs.declared.refusal.Refusal.{Refusal}
use Rattle.vme_stream.proofs.AnswerLemmas.{AnswerGives-then}
use Rattle.vme_commands.specs.Judged.{limited_in_blocks}
use Rattle.vme_commands.proofs.JudgedLemmas.{limited_in_blocks-judged, limited_in_blocks-refused}
use Rattle.vme_commands.proofs.check.verdict_of.Goals as goal

-- the verdict on a recording
abbrev or_verdict : Trace → Result Verdict Refusal
or_verdict t = Ok (verdict_by rules_in_force t)

pub returns-in-Ok : goal.returns-in-Ok
returns-in-Ok c =
    let told = c.in-Ok.ensures in
    λ formed.
    ap (λ (r : Result Trace Refusal). r >>= or_verdict)
    (limited_in_blocks-judged c.args.judge c.args.block _ told.too_many_steps
    told.too_many_blocks c.in-Ok.verdict refl)
    ∙ ap Ok (sym (told.verdict formed))

pub returns-in-Err : goal.returns-in-Err
returns-in-Err c =
    let told = c.in-Err.ensures in
    λ formed.
    rw c.of_judging.ensures
    (AnswerGives-then (judging_refusal c.in-Err.why) (limited_in_blocks c.args.block c.args.judge) or_verdict
    (limited_in_blocks-refused c.args.judge c.args.block _ told.too_many_steps told.too_many_blocks c.in-Err.why refl))
