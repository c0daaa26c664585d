-- No cycle needs a line below 5.
use Rattle.std.proofs.Common.{◌≡◌, ℕ, zero, suc, ◌<◌, Bool, true, false, ◌&&◌, ◌||◌}
use Rattle.std.proofs.Common.{refl, arith}
use Rattle.vme_trace.specs.Cycle.{Needs, is_within}

-- b and false, or false, is false
or-false_tests : (b : Bool) → ((b && false) || false) ≡ false
or-false_tests true = refl
or-false_tests false = refl

-- no cycle needs AS*, a data strobe or an answer line
pub is_within-not_below_5 : (needs : Needs) (l : ℕ) → l < 5 → is_within needs l ≡ false
is_within-not_below_5 needs zero h = or-false_tests needs.modifier
is_within-not_below_5 needs (suc zero) h = or-false_tests needs.modifier
is_within-not_below_5 needs (suc (suc zero)) h = or-false_tests needs.modifier
is_within-not_below_5 needs (suc (suc (suc zero))) h = or-false_tests needs.modifier
is_within-not_below_5 needs (suc (suc (suc (suc zero)))) h = or-false_tests needs.modifier
is_within-not_below_5 needs (suc (suc (suc (suc (suc l))))) h = absurd (omega arith)
