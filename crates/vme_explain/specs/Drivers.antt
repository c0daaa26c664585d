-- Who drives the nets of the daisy chains.
use Rattle.std.specs.Prelude.{ℕ, ◌+◌, ◌-◌, ◌==◌, Option, None, Some, if◌then◌else◌}
use Rattle.vme_trace.specs.LineNumbers.{grant_place, iack, is_grant, is_slot_iack}
use Rattle.vme_explain.specs.declared.driver.Driver.{Driver}
use Rattle.vme_explain.specs.declared.driver.Driver.TheVariants.{Arbiter, Slot}

-- net 0 of a grant chain is the arbiter's, and net k of a chain that of slot k
abbrev pub driver_of : ℕ → Option Driver
driver_of l =
    if is_grant l then (if grant_place l == 0 then Some Arbiter else Some (Slot (grant_place l)))
    else if is_slot_iack l then Some (Slot (l - iack 1 + 1))
    else None
