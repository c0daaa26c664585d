use Rattle.std.proofs.Common.{◌≡◌, ℕ, ◌&&◌, not, true, false, sym, ap, ◌∙◌, arith, rules}
use Rattle.std.proofs.lemmas.Bool.{and_from, not_from_false}
use Rattle.vme_trace.specs.Instants.{any}
use Rattle.vme_trace.specs.LineNumbers.{has_line, line_count}
use Rattle.vme_trace.proofs.Ranges.{least-is, least-none}
use Rattle.vme_bind.specs.Binding.{is_bound}
use Rattle.vme_bind.proofs.binding.Binding.least_unbound.Goals as goal

pub returns-then-not-is_bound : goal.returns-then-not-is_bound
returns-then-not-is_bound c =
    let b = c.args.self.now in
    let same : c.in-Some.line ≡ c.loop-number.number = c.in-Some.ensures.1 in
    let has : has_line b.slots c.in-Some.line ≡ true = search rules in
    let free : is_bound b.assignments c.in-Some.line ≡ false = search rules in
    sym (least-is (λ (k : ℕ). has_line b.slots k && not (is_bound b.assignments k)) 0 line_count c.in-Some.line
    (omega arith) (omega (arith, same)) (and_from (has_line b.slots c.in-Some.line)
    (not (is_bound b.assignments c.in-Some.line)) has (not_from_false (is_bound b.assignments c.in-Some.line) free))
    (rw same c.loop-number.invariant))

pub returns : goal.returns
returns c =
    let b = c.args.self.now in
    let end : c.loop-number.number ≡ line_count = omega arith in
    sym (least-none (λ (k : ℕ). has_line b.slots k && not (is_bound b.assignments k)) 0 line_count
    (ap (λ (n : ℕ). any (λ (k : ℕ). has_line b.slots k && not (is_bound b.assignments k)) 0 n) (sym end)
    ∙ c.loop-number.invariant))
