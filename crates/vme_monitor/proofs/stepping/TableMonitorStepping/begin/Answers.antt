use Rattle.std.specs.Prelude.{Result, Ok, Err, IfOk}
use Rattle.vme_monitor.proofs.stepping.TableMonitorStepping.begin.Goals as goal

both_hold : {A E X : Type 0} (r : Result A E) (P Q : A → X → Type 0) → IfOk r (λ a. (x : X) → P a x)
    → IfOk r (λ a. (x : X) → Q a x) → IfOk r (λ a. (x : X) → P a x × Q a x)
both_hold (Ok a) P Q p q = λ x. (p x, q x)
both_hold (Err e) P Q p q = p

pub returns : goal.returns
returns g c = both_hold c.new.result _ _ c.new.ensures.runs c.new.ensures.apart
