-- Only a data line is a changed data line.
use Rattle.std.proofs.Common.{◌≡◌, ℕ, ◌<◌, ◌≤◌, false}
use Rattle.std.proofs.Common.{arith}
use Rattle.std.proofs.lemmas.Bool.Decides.{nat_tests}
use Rattle.std.proofs.lemmas.Bool.{and_parts, false_from_ne_true}
use Rattle.vme_trace.specs.LineNumbers.{is_data}
use Rattle.vme_trace.specs.Levels.{Levels}
use Rattle.vme_dtb.specs.StabilityRules.{is_changed_data}
use Rattle.vme_dtb.proofs.HeldData.{is_selected-from, is_selected-to}

-- a line that is no data line isn't a changed data line
pub is_changed_data-not_data : (v w : Levels) (l : ℕ) → is_data l ≡ false → is_changed_data v w l ≡ false
is_changed_data-not_data v w l h =
    false_from_ne_true (is_changed_data v w l) (λ e. let moved = (and_parts _ _ (and_parts _ _ e).1).0 in
    apart l h (is_selected-from v l moved) (is_selected-to v l moved))
  where
    apart : (l : ℕ) → is_data l ≡ false → 159 ≤ l → l < 191 → ⊥
    apart l h k m = grind (arith, nat_tests)

-- a line below 159 is no data line
pub is_data-below : (l : ℕ) → l < 159 → is_data l ≡ false
is_data-below l h = grind (arith, nat_tests)
