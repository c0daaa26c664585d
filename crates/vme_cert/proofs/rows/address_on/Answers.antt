-- The address so far is that on the lines before the current one.
use Rattle.std.proofs.Common.{◌≡◌, ◌+◌, ◌*◌, ◌^◌, ◌%◌, ◌<◌, ◌≤◌, ℕ, sym, ◌∙◌, ap, arith}
use Rattle.vme_cert.specs.Vocabulary.{Needs, address_to, is_high, is_within, level_at}
use Rattle.vme_cert.proofs.Placing.{weight-bound, weight-fits, weight-next, address_to-bound, is_within-address_line}
use Rattle.vme_cert.proofs.Placing.{is_within-no_address_line}
use Rattle.vme_cert.proofs.Placing.{address_to-high_line, address_to-other_line}
use Rattle.vme_cert.proofs.Breaks.{needs_of-highest_bound}
use Rattle.vme_cert.proofs.rows.address_on.Goals.{then-is_high, else-is_high}
use Rattle.vme_cert.proofs.rows.address_on.Goals as goal

pub overflow_add-address : goal.overflow_add-address
overflow_add-address c =
    let n = c.loop-bit.bit in
    let few : n < 31 = omega arith in
    let same = weight-fits n few in
    let next = weight-next n in
    let below = address_to-bound c.args.lines.now n in
    let weight = weight-bound n few in
    omega (arith, same, next, below, weight, c.loop-bit.invariant.so_far)

pub loop-bit-preserved : goal.loop-bit-preserved
loop-bit-preserved c =
    let n = c.loop-bit.bit in
    let few : n < 31 = omega arith in
    let same = weight-fits n few in
    let shown = ap (λ l. is_high (level_at c.args.lines.now l)) (sym c.address-line.ensures)
    ∙ ap is_high (sym c.level.ensures) ∙ sym c.is_high.ensures in
    let needed = is_within-address_line c.args.needs n few (ap (is_within c.args.needs) (sym c.address-line.ensures)
    ∙ sym c.has.ensures ∙ c.if-not-has.false) in
    elim c.if-is_high.branch [
      | then-is_high w ↦ record {
        so_far = w.address-is ∙ ap (λ a. a + 2 * 2 ^ n % 4294967296) c.loop-bit.invariant.so_far
            ∙ ap (λ k. address_to c.args.lines.now n + k) same
            ∙ sym (address_to-high_line c.args.lines.now n (shown ∙ w.if-is_high.true));
        within = needed;
      }
      | else-is_high w ↦ record {
        so_far = w.address-is ∙ c.loop-bit.invariant.so_far
            ∙ sym (address_to-other_line c.args.lines.now n (shown ∙ w.if-is_high.false));
        within = needed;
      }
    ]

-- a number that is at most m, and at least k, which is m, is k
eq-between : (n m k : ℕ) → m ≡ k → n ≤ m → k ≤ n → n ≡ k
eq-between n m k e h g = omega arith

pub returns-then-not-has : goal.returns-then-not-has
returns-then-not-has c =
    let n = c.loop-bit.bit in
    let past = is_within-no_address_line c.args.needs n (omega arith)
    (ap (is_within c.args.needs) (sym c.address-line.ensures)
    ∙ sym c.has.ensures ∙ c.if-not-has.true) in
    let e = ap (λ (needs : Needs). needs.highest) c.requires in
    c.loop-bit.invariant.so_far ∙ ap (address_to c.args.lines.now) (eq-between n _ _ e c.loop-bit.invariant.within
    (omega (arith, past, e)))

pub returns : goal.returns
returns c =
    let n = c.loop-bit.bit in
    let most = needs_of-highest_bound c.args.lines.now in
    let e = ap (λ (needs : Needs). needs.highest) c.requires in
    c.loop-bit.invariant.so_far ∙ ap (address_to c.args.lines.now) (eq-between n _ _ e c.loop-bit.invariant.within
    (omega (arith, most, e)))
