-- Each line is outside the range, or known, or among those on which the rule is asked.
use Rattle.std.proofs.Common.{◌≡◌, ◌+◌, ◌&&◌, ◌∙◌, ap, false, sym}
use Rattle.std.specs.Prelude.{is_some, nat_le}
use Rattle.vme_trace.proofs.Ranges.{any-fails, is_some-least}
use Rattle.vme_cert.specs.Vocabulary.{any, breaks, least}
use Rattle.vme_cert.proofs.Ranges.{by_either_value, range-of_tests}
use Rattle.vme_cert.proofs.state.State.is_broken_within.Goals as goal

pub returns : goal.returns
returns c t stretch l h e unasked knows outside =
    let p = breaks t stretch c.args.rule c.args.bus.now.instant in
    let first = c.args.first in
    let last = c.args.last in
    let none : any p first (last + 1) ≡ false = sym (is_some-least p first (last + 1))
    ∙ (sym (ap is_some (c.least_line.ensures t stretch h ∙ (ap (λ k. least p k (c.number-end.result + 1))
    c.number.ensures.number ∙ ap (λ n. least p first (n + 1)) c.number-end.ensures.number)))
    ∙ (sym c.is_some.ensures ∙ e)) in
    by_either_value (nat_le first l && nat_le l last)
    (λ within. let (from, below) = range-of_tests first l last within in
    any-fails p first (last + 1) l none from below) outside
