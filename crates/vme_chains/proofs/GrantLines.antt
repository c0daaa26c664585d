-- The lines of a step: what its changes leave as it was, and which lines exist.
use Rattle.std.proofs.Common.{◌≡◌, ℕ, ◌-◌, ◌<◌, ◌≤◌, true, false, ◌&&◌, List, refl, ◌∙◌}
use Rattle.std.proofs.Common.{ap, arith}
use Rattle.std.proofs.lemmas.Bool.Decides.{nat_tests}
use Rattle.vme_trace.specs.LineNumbers.{has_line, is_slot_grant, input_of, grant, BR}
use Rattle.vme_trace.specs.Levels.{Levels, is_low, is_high, seen_level}
use Rattle.vme_trace.specs.Changes.{is_changed}
use Rattle.vme_trace.specs.Trace.{changed}
use Rattle.vme_trace.specs.declared.step.Change.{Change}
use Rattle.vme_trace.proofs.Changing.{slots-kept, level-kept, not_high_and_low, not_low_and_high}
use Rattle.vme_chains.specs.GrantLevels.{falls_between, rises_between}

-- a line that isn't changed keeps its level
pub shown-unchanged : (v : Levels) (cs : List Change) (l : ℕ) → is_changed cs l ≡ false → seen_level (changed v cs) l
    ≡ seen_level v l
shown-unchanged v cs l h = rw (slots-kept v cs, level-kept v cs l h) refl

-- a line that isn't changed doesn't fall
pub falls_between-changed_elsewhere : (v : Levels) (cs : List Change) (l : ℕ) → is_changed cs l ≡ false
    → falls_between v (changed v cs) l
    ≡ false
falls_between-changed_elsewhere v cs l h =
    ap (λ x. is_high (seen_level v l) && is_low x) (shown-unchanged v cs l h) ∙ not_high_and_low (seen_level v l)

-- a line that isn't changed doesn't rise
pub rises_between-changed_elsewhere : (v : Levels) (cs : List Change) (l : ℕ) → is_changed cs l ≡ false
    → rises_between v (changed v cs) l
    ≡ false
rises_between-changed_elsewhere v cs l h =
    ap (λ x. is_low (seen_level v l) && is_high x) (shown-unchanged v cs l h) ∙ not_low_and_high (seen_level v l)

-- a backplane has the nets of its grant chains
pub has_line-net : (slots n k : ℕ) → n < 4 → k ≤ slots → slots ≤ 21 → has_line slots (grant n k) ≡ true
has_line-net slots n k level place few = grind (arith, nat_tests)

-- every backplane has the request lines
pub has_line-request : (slots n : ℕ) → n < 4 → has_line slots (BR n) ≡ true
has_line-request slots n level = grind (arith, nat_tests)

-- a backplane that has the grant output of a slot has its input
pub has_line-input : (slots l : ℕ) → is_slot_grant l ≡ true → has_line slots l ≡ true → has_line slots (l - 1) ≡ true
has_line-input slots l slot h = grind (arith, nat_tests)

-- the input of a slot is the line before its grant output
pub input_of-slot_grant : (l : ℕ) → is_slot_grant l ≡ true → input_of l ≡ l - 1
input_of-slot_grant l slot = grind (arith, nat_tests)
