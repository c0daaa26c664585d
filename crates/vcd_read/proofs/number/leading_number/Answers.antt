use Rattle.vcd_read.proofs.NumberLemmas.{all_ascii_digits-leading, leading-end, leading-number, leading-within}
use Rattle.vcd_read.proofs.number.leading_number.Goals as goal

pub returns-clause-within : goal.returns-clause-within
returns-clause-within c = leading-within c.args.text.now c.args.from c.read_digits-end.result.0 c.requires
    c.read_digits-end.ensures.end

pub returns-clause-digits : goal.returns-clause-digits
returns-clause-digits c = all_ascii_digits-leading c.args.text.now c.args.from c.read_digits-end.result.0
    c.read_digits-end.ensures.end

pub returns-clause-number : goal.returns-clause-number
returns-clause-number c = leading-number c.args.text.now c.args.from c.read_digits-end.result.0
    c.read_digits-end.result.1 c.requires c.read_digits-end.ensures.end c.read_digits-end.ensures.value

pub returns-clause-end : goal.returns-clause-end
returns-clause-end c = leading-end c.args.text.now c.args.from c.read_digits-end.result.0
    c.read_digits-end.ensures.end
