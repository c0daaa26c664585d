use Rattle.std.proofs.Common.{◌≡◌, ◌+◌, ◌-◌, ◌/◌, ◌%◌, true, [], ◌∷◌, ◌++◌, drop, set, refl, sym, ap, ◌∙◌, arith}
use Rattle.std.proofs.Common.{length-set}
use Rattle.std.specs.Fmt.{digit_glyph}
use Rattle.std.proofs.lemmas.Grind.{drop-set_at}
use Rattle.std.proofs.lemmas.List.{append_assoc, append-nil}
use Rattle.vme_listing.specs.RowText.{hexadecimal}
use Rattle.vme_listing.proofs.Digits.{hexadecimal-last, hexadecimal-no_digits}
use Rattle.vme_listing.proofs.text.hexadecimal_digits.Goals as goal

pub loop-start-init : goal.loop-start-init
loop-start-init c = (omega arith, refl, append-nil (hexadecimal 8 c.args.number))

pub loop-start-preserved : goal.loop-start-preserved
loop-start-preserved c =
    let l = c.loop-start in
    let (most, size, all) = l.invariant in
    let next : l.start - 1 + 1 ≡ l.start = omega arith in
    let glyph = digit_glyph true (l.rest % 16) in (
      omega arith,
      length-set l.glyphs (l.start - 1) _ ∙ size,
      ap (λ g. hexadecimal (l.start - 1) (l.rest / 16) ++ drop (l.start - 1) (set l.glyphs (l.start - 1) g))
          c.hexadecimal_digit.ensures
          ∙ ap (λ later. hexadecimal (l.start - 1) (l.rest / 16) ++ later) (drop-set_at l.glyphs (l.start - 1)
          (l.start - 1) glyph refl (omega arith))
          ∙ ap (λ n. hexadecimal (l.start - 1) (l.rest / 16) ++ glyph ∷ drop n l.glyphs) next
          ∙ sym (append_assoc (hexadecimal (l.start - 1) (l.rest / 16)) (glyph ∷ []) (drop l.start l.glyphs))
          ∙ ap (λ ds. ds ++ drop l.start l.glyphs) (sym (hexadecimal-last l.start l.rest (omega arith)))
          ∙ all,
    )

pub returns : goal.returns
returns c =
    let l = c.loop-start in
    let (most, size, all) = l.invariant in
    let end : l.start ≡ 0 = omega arith in
    ap (λ n. drop n l.glyphs) (sym end)
    ∙ ap (λ ds. ds ++ drop l.start l.glyphs) (sym (hexadecimal-no_digits l.start l.rest (omega arith)))
    ∙ all
