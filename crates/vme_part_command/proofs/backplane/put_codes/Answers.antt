use Rattle.std.proofs.Common.{arith}
use Rattle.vme_trace.specs.LineNumbers.{line_count}
use Rattle.vme_part_command.specs.Backplane.{line_code}
use Rattle.vme_part_command.proofs.BackplaneLemmas.{codes-all, codes-one_more}
use Rattle.vme_part_command.proofs.backplane.put_codes.Goals as goal

pub loop-number-preserved : goal.loop-number-preserved
loop-number-preserved c =
    let l = c.loop-number in
    codes-one_more (line_code c.args.opening.now) c.args.bytes.now.items l.bytes.items l.number l.invariant
    c.code_at.result
    c.push.new.self.items c.in_ok-push.ensures.items c.code_at.ensures

pub returns : goal.returns
returns c =
    let l = c.loop-number in
    codes-all (line_code c.args.opening.now) c.args.bytes.now.items l.bytes.items l.number l.invariant line_count
    (omega (arith, c.loop-number-test.false))
