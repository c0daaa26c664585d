-- What the levels before and after a step show of grants, of requests and of BBSY*.
use Rattle.std.specs.Prelude.{ℕ, ◌+◌, ◌-◌, ◌==◌, Bool, false, not, ◌&&◌, ◌||◌, List, [], ◌∷◌, Option, None, Some}
use Rattle.std.specs.Prelude.{option_map, option_and_then, nat_le, nat_lt, if◌then◌else◌}
use Rattle.std.specs.Option.{is_some}
use Rattle.vme_trace.specs.Instants.{any, every, least, greatest}
use Rattle.vme_trace.specs.LineNumbers.{AS, BBSY, BR, grant, iack, is_grant, is_slot_grant, is_arbiter_grant}
use Rattle.vme_trace.specs.Levels.{Levels, is_low, is_high, seen_level}
use Rattle.vme_trace.specs.declared.rule.Rule.{Rule}
use Rattle.vme_trace.specs.declared.rule.Rule.TheVariants.{G1, G2, G3, G4}
use Rattle.vme_trace.specs.declared.step.Change.{Change}
use Rattle.vme_monitor.specs.declared.mark.BusGrant.{BusGrant}
use Rattle.vme_chains.specs.declared.grant_memory.LevelSet.{LevelSet}

-- the line is there, and low
abbrev pub is_low_in : Levels → ℕ → Bool
is_low_in v l = is_low (seen_level v l)

-- the line is there, and high
abbrev pub is_high_in : Levels → ℕ → Bool
is_high_in v l = is_high (seen_level v l)

-- the line falls at the step
abbrev pub falls_between : Levels → Levels → ℕ → Bool
falls_between v w l = is_high_in v l && is_low_in w l

-- the line rises at the step
abbrev pub rises_between : Levels → Levels → ℕ → Bool
rises_between v w l = is_low_in v l && is_high_in w l

-- low before the step or after it
abbrev pub low_near : Levels → Levels → ℕ → Bool
low_near v w l = is_low_in v l || is_low_in w l

-- high before the step or after it
abbrev pub high_near : Levels → Levels → ℕ → Bool
high_near v w l = is_high_in v l || is_high_in w l

-- the levels that are requested
abbrev pub requested_in : Levels → LevelSet
requested_in v = record {
  zero = is_low_in v (BR 0);
  one = is_low_in v (BR 1);
  two = is_low_in v
      (BR 2);
  three = is_low_in v (BR 3);
}

-- the arbiter begins to grant some level
abbrev pub grant_begins : Levels → Levels → Bool
grant_begins v w = any (λ n. falls_between v w (grant n 0)) 0 4

-- the arbiter grants a level on another net than l
abbrev pub is_other_granted : Levels → ℕ → Bool
is_other_granted v l = any (λ n. not (grant n 0 == l) && is_low_in v (grant n 0)) 0 4

-- the least level that the arbiter grants
abbrev pub granted_level : Levels → Option ℕ
granted_level v = least (λ n. is_low_in v (grant n 0)) 0 4

-- the grant of level n has reached net k of its chain
abbrev pub reaches : Levels → ℕ → ℕ → Bool
reaches v n k = every (λ net. is_low_in v (grant n net)) 0 (k + 1)

-- the slot that the grant of the least granted level has reached
abbrev pub reached_slot : Levels → Option ℕ
reached_slot v = option_map (λ k. 1 + k) (option_and_then (λ n. greatest (reaches v n) 0 (v.slots + 1))
    (granted_level v))

-- a grant by its level and slot
abbrev pub taken_at : Option ℕ → Option ℕ → Option BusGrant
taken_at None slot = None
taken_at (Some n) None = None
taken_at (Some n) (Some s) = Some (record { level = n; slot = s })

-- the grant of the least granted level, with the slot that it has reached
abbrev pub taken_in : Levels → Option BusGrant
taken_in v = taken_at (granted_level v) (reached_slot v)

-- the grant by which a tenure starts at the step: one after the step, or else one before it
abbrev pub taken_between : Levels → Levels → Option BusGrant
taken_between v w = if is_some (granted_level w) then taken_in w else taken_in v

-- no level is granted, neither before the step nor after it
abbrev pub is_ungranted : Levels → Levels → Bool
is_ungranted v w = not (is_some (granted_level v) || is_some (granted_level w))

-- the change of line l breaks a rule on the nets of grants
abbrev pub is_net_broken : Rule → Levels → Levels → ℕ → Bool
is_net_broken G1 v w l = is_slot_grant l && falls_between v w l && not (low_near v w (l - 1))
is_net_broken G2 v w l = is_slot_grant l && rises_between v w l && not (high_near v w (l - 1))
is_net_broken G3 v w l = is_arbiter_grant l && falls_between v w l && is_other_granted w l
is_net_broken G4 v w l = is_grant l && falls_between v w l && not (high_near v w BBSY)
is_net_broken r v w l = false

-- a line of the arbitration bus: BBSY*, a request or a grant
abbrev pub is_arbitration : ℕ → Bool
is_arbitration l = nat_le BBSY l && nat_lt l (iack 1)

-- one of the changes is of such a line
abbrev pub touches_arbitration : List Change → Bool
touches_arbitration [] = false
touches_arbitration (c ∷ cs) = is_arbitration c.line || touches_arbitration cs

-- a cycle starts while the bus isn't busy
abbrev pub is_cycle_unowned : Levels → Levels → Bool
is_cycle_unowned v w = falls_between v w AS && not (low_near v w BBSY)
