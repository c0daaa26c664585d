-- The dump is read until its first time is determined.
use Rattle.std.proofs.Common.{◌≡◌, ◌++◌, ℕ, List, [], true, ap, append-nil, refl, subst, sym, ◌∙◌}
use Rattle.vcd_start.specs.FirstTimes.{HasFirstTime}
use Rattle.vme_dump_input.specs.BufferedInputs.{FailsAs}
use Rattle.vme_dump_input.proofs.BufferedLemmas.{IsReadOn-grown, IsReadOn-none, IsReading-some}
use Rattle.vme_dump_input.proofs.DumpRefusals.{IsDumpRefused-fails}
use Rattle.vme_part_command.proofs.first_time.read_first_time.Goals as goal

pub returns-then-number-eq0-clause-told : goal.returns-then-number-eq0-clause-told
returns-then-number-eq0-clause-told g c old h limit =
    (h, λ rest ends other. absurd (other c.if-number-eq0.true))

pub returns-then-number-eq0-clause-on : goal.returns-then-number-eq0-clause-on
returns-then-number-eq0-clause-on g c = IsReadOn-none c.args.input.now

pub reading-init : goal.reading-init
reading-init g c = record { read = λ old h. h; on = IsReadOn-none c.args.input.now; limit = refl }

pub reading-preserved : goal.reading-preserved
reading-preserved g c =
    let inv = c.reading.invariant in
    record {
      read = λ old h. c.in_default.ensures.read old [] (inv.read old h);
      on = IsReadOn-grown c.args.input.now c.reading.input c.read.new.self inv.on
          (sym c.is_whole.ensures ∙ c.reading-test.true) c.in_default.ensures.grown;
      limit = c.read.ensures.limit ∙ inv.limit;
    }

pub returns-in-Ok-Determined-clause-told : goal.returns-in-Ok-Determined-clause-told
returns-in-Ok-Determined-clause-told g c old h limit =
    let told = rw c.in-Ok-Determined.field-0-is at c.in-Ok-Determined.ensures in (
      c.reading.invariant.read old h,
      λ rest ends other. subst (λ (l : List ℕ). HasFirstTime (l ++ rest) c.in-Ok-Determined.first_time)
          c.bytes-held.ensures.held (told rest),
    )

pub returns-in-Ok-Determined-clause-on : goal.returns-in-Ok-Determined-clause-on
returns-in-Ok-Determined-clause-on g c = c.reading.invariant.on

pub returns-in-Err-clause-told : goal.returns-in-Err-clause-told
returns-in-Err-clause-told g c old h limit =
    IsReading-some old (g.D.Source.reading c.reading.dump) [] c.reading.input (c.reading.invariant.read old h)

pub returns-in-Err-read-clause-told : goal.returns-in-Err-read-clause-told
returns-in-Err-read-clause-told g c old h limit =
    let inv = c.reading.invariant in
    let now = g.D.Source.reading c.read.new.source in
    rw c.unread.ensures (IsDumpRefused-fails old now c.in-Err-read.fault
    (subst (λ n. FailsAs n old now c.in-Err-read.fault) (inv.limit ∙ limit)
    (c.in-Err-read.ensures.fails old [] (inv.read old h))))

pub returns-in-Ok-clause-told : goal.returns-in-Ok-clause-told
returns-in-Ok-clause-told g c old h limit =
    let input = c.reading.input in
    let start = c.in-Ok.first_time in
    let whole : input.is_whole ≡ true = sym c.is_whole.ensures ∙ c.reading-test.false in
    let starts = subst (λ (l : List ℕ). HasFirstTime l start) c.bytes-text.ensures.held c.in-Ok.ensures in (
      c.reading.invariant.read old h,
      λ rest ends other. subst (λ (l : List ℕ). HasFirstTime l start)
          (sym (ap (λ (l : List ℕ). input.held ++ l) (ends whole) ∙ append-nil input.held)) starts,
    )

pub returns-in-Ok-clause-on : goal.returns-in-Ok-clause-on
returns-in-Ok-clause-on g c = c.reading.invariant.on

pub returns-in-Err-first_time_of_text-clause-told : goal.returns-in-Err-first_time_of_text-clause-told
returns-in-Err-first_time_of_text-clause-told g c old h limit =
    IsReading-some old (g.D.Source.reading c.reading.dump) [] c.reading.input (c.reading.invariant.read old h)
