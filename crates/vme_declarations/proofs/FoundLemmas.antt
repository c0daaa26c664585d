-- The groups of the lines that have a bit are found line by line, and the number of slots net by net.
use Rattle.std.proofs.Common.{◌≡◌, ℕ, ◌+◌, Bool, ap, sym, ◌∙◌, add-one}
use Rattle.std.specs.Prelude.{if◌then◌else◌}
use Rattle.vme_declarations.specs.Found.{groups_below, has_net, slots_to, with_group}
use Rattle.vme_declarations.specs.declared.found_lines.FoundLines.{FoundLines}

-- the groups of the lines below `line + 1` are those of the lines below `line`, with that of `line`
pub groups_below_next : (found : FoundLines) (line : ℕ) → groups_below found (line + 1)
    ≡ with_group found line (groups_below found line)
unfolding groups_below
groups_below_next found line = ap (groups_below found) (add-one line)

-- the slots up to the place `before + 1` are `before + 1`, if a net has a bit there, and else those up to `before`
slots_to-next : (found : FoundLines) (before : ℕ) → slots_to found (before + 1)
    ≡ (if has_net found (before + 1) then before + 1 else slots_to found before)
unfolding slots_to
slots_to-next found before = ap (slots_to found) (add-one before)

-- the slots up to the place `before + 1` follow from whether a net has a bit there and the slots up to `before`
pub slots_to-step : (found : FoundLines) (before slots more : ℕ) (has : Bool) → slots ≡ slots_to found before → has
    ≡ has_net found (before + 1) → more ≡ (if has then before + 1 else slots) → more ≡ slots_to found (before + 1)
slots_to-step found before slots more has so_far is_net is_more =
    is_more
    ∙ ap (λ (b : Bool). if b then before + 1 else slots) is_net
    ∙ ap (λ (n : ℕ). if has_net found (before + 1) then before + 1 else n) so_far
    ∙ sym (slots_to-next found before)
