-- More bytes are held.
use Rattle.std.proofs.Common.{arith, refl, subst, sym, ◌∙◌}
use Rattle.vme_dump_input.specs.BufferedInputs.{FailsAs}
use Rattle.vme_confirm_command.proofs.RowLemmas.{HoldsMore-more, HoldsMore-none}
use Rattle.vme_confirm_command.proofs.row_reading.fill.Goals as goal

pub loop-input-init : goal.loop-input-init
loop-input-init g c = record {
  read = λ old done h. h;
  filled = HoldsMore-none c.args.input.now;
  counted = omega arith;
  room = refl;
  small = λ h. h;
}

pub loop-input-preserved : goal.loop-input-preserved
loop-input-preserved g c =
    let inv = c.loop-input.invariant in
    let grown = c.in_default.ensures.grown in
    record {
      read = λ old done h. c.in_default.ensures.read old done (inv.read old done h);
      filled = HoldsMore-more c.args.input.now c.loop-input.input c.read.new.self grown.more inv.filled grown.held
          c.read.ensures.limit (sym c.is_whole.ensures ∙ c.loop-input-test.true);
      counted = omega (arith, inv.counted, c.read.ensures.counted);
      room = c.read.ensures.room ∙ inv.room;
      small = λ _. c.read.ensures.small;
    }

pub returns-in-Err-clause-fails : goal.returns-in-Err-clause-fails
returns-in-Err-clause-fails g c old done h =
    let inv = c.loop-input.invariant in
    subst (λ n. FailsAs n old (g.L.Source.reading c.read.new.source) c.in-Err.fault) inv.filled.limit
    (c.in-Err.ensures.fails old done (inv.read old done h))
