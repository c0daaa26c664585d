use Rattle.std.proofs.Common.{◌≡◌, ◌+◌, ◌*◌, ◌^◌, length, ap, ◌∙◌, refl, arith, rules}
use Rattle.std.proofs.lemmas.List.{take_all}
use Rattle.vme_listing.specs.RowText.{hexadecimal}
use Rattle.vme_listing.proofs.FrontHexadecimals.{pow_16-one_more_digit, pow_16-at_most, hexadecimal-one_more_digit}
use Rattle.vme_listing.proofs.FrontHexadecimals.{are_hexadecimal-not_at}
use Rattle.vme_listing.proofs.line.hexadecimal_word.Goals as goal

pub loop-byte-init : goal.loop-byte-init
unfolding hexadecimal
loop-byte-init c = record { within = omega arith; text = refl; below = omega arith }

pub overflow_mul-number : goal.overflow_mul-number
overflow_mul-number c =
    let l = c.loop-byte in
    omega (arith, pow_16-at_most l.byte-index 7 l.number (omega arith) l.invariant.below)

pub overflow_add-number : goal.overflow_add-number
overflow_add-number c =
    let l = c.loop-byte in
    omega (
      arith,
      pow_16-at_most l.byte-index 7 l.number (omega arith) l.invariant.below,
      c.in-Some.ensures.small,
      c.from.ensures,
    )

pub loop-byte-preserved : goal.loop-byte-preserved
loop-byte-preserved c =
    let l = c.loop-byte in
    let digit = c.in-Some.digit in
    let number : l.number * 16 + c.from.result ≡ l.number * 16 + digit = omega (arith, c.from.ensures) in
    record {
      within = omega arith;
      text = ap (λ n. hexadecimal (l.byte-index + 1) n) number
          ∙ hexadecimal-one_more_digit c.args.word.now l.byte-index l.number digit (omega arith) l.invariant.text
          c.in-Some.ensures.small c.in-Some.ensures.glyph;
      below = omega (
        arith,
        number,
        pow_16-one_more_digit l.byte-index l.number digit l.invariant.below
            c.in-Some.ensures.small,
      );
    }

pub returns-in_default-clause-none : goal.returns-in_default-clause-none
returns-in_default-clause-none c =
    λ _. are_hexadecimal-not_at c.args.word.now c.loop-byte.byte-index (omega arith) (search rules)

pub returns-clause-number : goal.returns-clause-number
returns-clause-number c =
    let l = c.loop-byte in
    let all : length c.args.word.now ≡ l.byte-index = omega arith in
    ap (λ k. hexadecimal k l.number) all ∙ l.invariant.text ∙ take_all l.byte-index c.args.word.now (omega arith)

pub returns-clause-below : goal.returns-clause-below
returns-clause-below c =
    let l = c.loop-byte in
    let all : length c.args.word.now ≡ l.byte-index = omega arith in
    omega (arith, l.invariant.below, ap (λ k. 16 ^ k) all)
