-- All of the dump is read.
use Rattle.std.proofs.Common.{◌≡◌, ℕ, List, [], refl, subst, sym, ◌∙◌}
use Rattle.std.specs.Prelude.{Err, Ok, Result}
use Rattle.vme_trace.specs.Trace.{Trace}
use Rattle.vme_stream.specs.Answers.{AnswerGives, or_bad_dump, recorded_by}
use Rattle.vme_bind.specs.declared.fault.BindFault.{BindFault}
use Rattle.vcd_read.specs.Meaning.{dump_of}
use Rattle.vme_dump_input.specs.BufferedInputs.{FailsAs, IsAllOf}
use Rattle.vme_dump_input.proofs.DumpRefusals.{IsDumpRefused-recorded, IsDumpRefused-fails, capture_of-unusable}
use Rattle.vme_dump_input.proofs.BufferedLemmas.{IsAllOf-whole, IsReading-some}
use Rattle.vme_dump_input.proofs.definitions.unusable.Goals as goal

pub loop-input-init : goal.loop-input-init
loop-input-init g c = record { read = λ old h. h; limit = refl }

pub loop-input-preserved : goal.loop-input-preserved
loop-input-preserved g c = record {
  read = λ old h. c.in_default.ensures.read old [] (c.loop-input.invariant.read old h);
  limit = c.read.ensures.limit ∙ c.loop-input.invariant.limit;
}

pub returns-in-Err-clause-read : goal.returns-in-Err-clause-read
returns-in-Err-clause-read g c old h limit =
    let now = g.D.Source.reading c.read.new.source in
    rw c.unread.ensures (IsDumpRefused-fails old now c.in-Err.fault
    (subst (λ n. FailsAs n old now c.in-Err.fault) (c.loop-input.invariant.limit ∙ limit)
    (c.in-Err.ensures.fails old [] (c.loop-input.invariant.read old h))))

pub returns-in-Ok-Ok-clause-read : goal.returns-in-Ok-Ok-clause-read
returns-in-Ok-Ok-clause-read g c old h limit =
    IsReading-some old (g.D.Source.reading c.loop-input.dump) [] c.loop-input.input (c.loop-input.invariant.read old h)

pub returns-in-Ok-Err-clause-unusable : goal.returns-in-Ok-Err-clause-unusable
returns-in-Ok-Err-clause-unusable g c = (c.in-Ok-Err.fault, refl)

pub returns-in-Ok-Err-clause-read : goal.returns-in-Ok-Err-clause-read
returns-in-Ok-Err-clause-read g c old h limit =
    let binding = c.args.binding.now in
    let now = g.D.Source.reading c.loop-input.dump in
    let input = c.loop-input.input in
    let all = subst (IsAllOf old now input.held) (c.loop-input.invariant.limit ∙ limit)
    (IsAllOf-whole old now [] input (c.loop-input.invariant.read old h)
    (sym c.is_whole.ensures ∙ c.loop-input-test.false))
    in
    let recorded = subst (λ (r : Result Trace BindFault).
    recorded_by binding (or_bad_dump (dump_of c.bytes.result.now)) ≡ Ok r) c.in-Ok-Err.field-0-is c.in-Ok-Err.ensures in
    capture_of-unusable binding old now input.held all (dump_of input.held) refl c.in-Ok-Err.fault
    (subst (λ (l : List ℕ). recorded_by binding (or_bad_dump (dump_of l)) ≡ Ok (Err c.in-Ok-Err.fault))
    c.bytes.ensures.held recorded)

pub returns-in-Err-recorded_in-clause-read : goal.returns-in-Err-recorded_in-clause-read
returns-in-Err-recorded_in-clause-read g c old h limit =
    let binding = c.args.binding.now in
    let now = g.D.Source.reading c.loop-input.dump in
    let input = c.loop-input.input in
    let refusal = c.in-Err-recorded_in.refusal in
    let all = subst (IsAllOf old now input.held) (c.loop-input.invariant.limit ∙ limit)
    (IsAllOf-whole old now [] input (c.loop-input.invariant.read old h)
    (sym c.is_whole.ensures ∙ c.loop-input-test.false))
    in
    IsDumpRefused-recorded binding old now input.held all (dump_of input.held) refl refusal
    (subst (λ (l : List ℕ). AnswerGives (λ (r : Result Trace BindFault). r) (Err refusal)
    (recorded_by binding (or_bad_dump (dump_of l)))) c.bytes.ensures.held c.in-Err-recorded_in.ensures)
