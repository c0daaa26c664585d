use Rattle.std.proofs.Common.{◌≡◌, ◌+◌, ◌-◌, ◌/◌, ◌%◌, [], ◌∷◌, ◌++◌, length, drop, take, set, refl, sym, ap, ◌∙◌}
use Rattle.std.proofs.Common.{arith, length-append, length-drop, length-set}
use Rattle.std.specs.Prelude.{decimal}
use Rattle.std.proofs.lemmas.Fmt.{decimal_digit, decimal_step, decimal_nonempty, length-decimal-le}
use Rattle.std.proofs.lemmas.Grind.{drop-set_at}
use Rattle.std.proofs.lemmas.List.{append_assoc, append-nil, take_rest}
use Rattle.vme_listing.proofs.Digits.{first_digit, length-decimal}
use Rattle.vme_listing.proofs.text.decimal_digits.Goals as goal

pub loop-rest-init : goal.loop-rest-init
loop-rest-init c = (
  length-decimal-le 20 c.args.number (omega arith) (omega arith) (omega arith),
  omega arith,
  refl,
  append-nil (decimal c.args.number),
)

pub overflow_sub-start : goal.overflow_sub-start
overflow_sub-start c = omega (arith, c.loop-rest.invariant.0, decimal_nonempty c.loop-rest.rest (omega arith))

pub overflow_sub-start-2 : goal.overflow_sub-start-2
overflow_sub-start-2 c = omega (arith, c.loop-rest.invariant.0, decimal_nonempty c.loop-rest.rest (omega arith))

pub loop-rest-preserved : goal.loop-rest-preserved
loop-rest-preserved c =
    let l = c.loop-rest in
    let (enough, most, size, all) = l.invariant in
    let longer = length-decimal l.rest (omega arith) (omega arith) in
    let next : l.start - 1 + 1 ≡ l.start = omega (arith, enough, longer) in (
      omega (arith, enough, longer),
      omega arith,
      length-set l.digits (l.start - 1) _ ∙ size,
      ap (λ later. decimal (l.rest / 10) ++ later) (drop-set_at l.digits (l.start - 1) (l.start - 1) (48 + l.rest % 10)
          refl (omega (arith, enough, longer)))
          ∙ ap (λ n. decimal (l.rest / 10) ++ (48 + l.rest % 10) ∷ drop n l.digits) next
          ∙ sym (append_assoc (decimal (l.rest / 10)) ((48 + l.rest % 10) ∷ []) (drop l.start l.digits))
          ∙ ap (λ ds. ds ++ drop l.start l.digits) (sym (decimal_step l.rest (omega arith) (omega arith)))
          ∙ all,
    )

pub returns-clause-digits : goal.returns-clause-digits
returns-clause-digits c =
    let l = c.loop-rest in
    let (enough, most, size, all) = l.invariant in
    let one = decimal_nonempty l.rest (omega arith) in
    let ds = set l.digits (l.start - 1) (48 + l.rest) in
    ap (λ n. take (n - (l.start - 1)) (drop (l.start - 1) ds)) (sym (length-set l.digits (l.start - 1) (48 + l.rest)
    ∙ size))
    ∙ take_rest ds (l.start - 1)
    ∙ first_digit l.digits l.start l.rest c.args.number (omega arith) (omega (arith, enough, one))
    (omega (arith, most, size)) all

pub returns-clause-start : goal.returns-clause-start
returns-clause-start c =
    let l = c.loop-rest in
    let (enough, most, size, all) = l.invariant in
    let one : length (decimal l.rest) ≡ 1 = ap length (decimal_digit l.rest (omega arith)) in
    omega (
      arith,
      enough,
      most,
      size,
      one,
      ap length all,
      length-append (decimal l.rest) (drop l.start l.digits),
      length-drop l.start l.digits,
    )
