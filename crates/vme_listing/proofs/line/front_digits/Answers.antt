use Rattle.std.proofs.Common.{◌≡◌, get_or, true, arith}
use Rattle.std.specs.Char.{is_ascii_digit}
use Rattle.vme_listing.proofs.FrontDigits.{FirstAreDigits-one_more, is_ascii_digit-at_most, digits_value-one_more}
use Rattle.vme_listing.proofs.FrontDigits.{digits_value-bound}
use Rattle.vme_listing.proofs.line.front_digits.Goals as goal

pub overflow_mul-number : goal.overflow_mul-number
overflow_mul-number c =
    let l = c.loop-count in
    let short = digits_value-bound c.args.text.now l.count 9 (omega arith) l.invariant.within l.invariant.digits in
    omega (arith, short, l.invariant.number)

pub overflow_add-number : goal.overflow_add-number
overflow_add-number c =
    let l = c.loop-count in
    let digit : is_ascii_digit (get_or c.args.text.now l.count 0) ≡ true = cc in
    let short = digits_value-bound c.args.text.now l.count 9 (omega arith) l.invariant.within l.invariant.digits in
    omega (
      arith,
      short,
      l.invariant.number,
      c.from-digit.ensures,
      is_ascii_digit-at_most
          (get_or c.args.text.now l.count 0) digit,
    )

pub loop-count-preserved : goal.loop-count-preserved
loop-count-preserved c =
    let l = c.loop-count in
    let digit : is_ascii_digit (get_or c.args.text.now l.count 0) ≡ true = cc in
    record {
      few = omega arith;
      within = omega arith;
      digits = FirstAreDigits-one_more c.args.text.now l.count l.invariant.digits digit;
      number = omega (
        arith,
        digits_value-one_more c.args.text.now l.count (omega arith) digit,
        l.invariant.number,
        c.from-digit.ensures,
      );
    }
