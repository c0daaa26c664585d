-- The rules of grants and tenures, as a machine judges them.
use Rattle.std.specs.Prelude.{ℕ, ◌+◌, Bool, false, not, ◌&&◌, ◌||◌, List, [], ◌∷◌, Option, None, Some, option_map}
use Rattle.std.specs.Prelude.{if◌then◌else◌}
use Rattle.std.specs.Option.{option_or}
use Rattle.vme_trace.specs.Changes.{first_changed}
use Rattle.vme_trace.specs.Instants.{least}
use Rattle.vme_trace.specs.LineNumbers.{AS, BBSY, grant}
use Rattle.vme_trace.specs.Levels.{Levels}
use Rattle.vme_trace.specs.Rules.{is_option_equal}
use Rattle.vme_trace.specs.declared.step.Change.{Change}
use Rattle.vme_trace.specs.declared.rule.Rule.{Rule}
use Rattle.vme_trace.specs.declared.rule.Rule.TheVariants.{G1, G2, G3, G4, G5, B1, B2, B3, B4}
use Rattle.vme_monitor.specs.Run.{no_step_marks}
use Rattle.vme_monitor.specs.declared.mark.Fault.{Fault}
use Rattle.vme_monitor.specs.declared.mark.StepMarks.{StepMarks}
use Rattle.vme_monitor.specs.declared.mark.Next.{Next}
use Rattle.vme_monitor.specs.declared.mark.BusGrant.{BusGrant}
use Rattle.vme_chains.specs.GrantLevels.{falls_between, rises_between, is_low_in, is_net_broken}
use Rattle.vme_chains.specs.GrantLevels.{grant_begins, requested_in, taken_between, is_ungranted, touches_arbitration}
use Rattle.vme_chains.specs.GrantLevels.{is_cycle_unowned}
use Rattle.vme_chains.specs.GrantMemory.{is_in, union}
use Rattle.vme_chains.specs.declared.grant.GrantObservation.{GrantObservation}
use Rattle.vme_chains.specs.declared.grant_memory.Arbitration.{Arbitration}
use Rattle.vme_chains.specs.declared.grant_memory.LevelSet.{LevelSet}

-- the rules of grants and tenures
abbrev pub grant_rules : List Rule
grant_rules = G1 ∷ G2 ∷ G3 ∷ G4 ∷ G5 ∷ B1 ∷ B2 ∷ B3 ∷ B4 ∷ []

-- the fault that rule r is broken on the line, if there is a line
abbrev pub fault_on : Rule → Option ℕ → Option Fault
fault_on r lines = option_map (λ l. record { rule = r; line = l }) lines

-- the line, if b is true
abbrev pub line_if : Bool → ℕ → Option ℕ
line_if b l = if b then Some l else None

-- the first of the rules G1 to G4 that the changes break, whatever the memory is (the state of the monitor's automaton)
abbrev pub nets_fault : Levels → Levels → List Change → Option Fault
nets_fault v w cs =
    option_or (fault_on G1 (first_changed (is_net_broken G1 v w) cs))
    (option_or (fault_on G2 (first_changed (is_net_broken G2 v w) cs))
    (option_or (fault_on G3 (first_changed (is_net_broken G3 v w) cs))
    (fault_on G4 (first_changed (is_net_broken G4 v w) cs))))

-- the first level that is granted without being requested
abbrev pub unrequested : Levels → Levels → LevelSet → Option ℕ
unrequested v w requests = least (λ n. falls_between v w (grant n 0) && not (is_in requests n)) 0 4

-- what the step shows, whatever the memory
abbrev pub seen_between : Levels → Levels → List Change → GrantObservation
seen_between v w cs =
    record {
      net_fault = nets_fault v w cs;
      requests = requested_in w;
      grants = grant_begins v w;
      busy_falls = falls_between v w BBSY;
      busy_ungranted = falls_between v w BBSY && is_ungranted v w;
      tenure = (if falls_between v w BBSY then taken_between v w else None);
      busy_rises = rises_between v w BBSY;
      cycle_unowned = is_cycle_unowned v w;
    }

-- the slot of a grant, if there is one
abbrev pub slot_of : Option BusGrant → Option ℕ
slot_of o = option_map (λ x. x.slot) o

-- the first rule that a step breaks; `requests` are the levels requested since the last grant, `granted` says whether
-- there was a grant since the last fall of BBSY*
abbrev pub step_fault : Levels → Levels → LevelSet → Bool → GrantObservation → Option Fault
step_fault v w requests granted seen =
    option_or seen.net_fault
    (option_or (fault_on G5 (if seen.grants then option_map (λ n. grant n 0) (unrequested v w requests) else None))
    (option_or (fault_on B1 (line_if seen.busy_ungranted BBSY))
    (option_or (fault_on B2 (line_if (seen.busy_falls && not granted) BBSY))
    (option_or (fault_on B3 (line_if seen.cycle_unowned AS))
    (fault_on B4 (line_if (is_option_equal (slot_of seen.tenure) (w.slots + 1)) BBSY))))))

-- the memory at the start of a stretch
abbrev pub grant_begin : Levels → Arbitration
grant_begin v = record { requests = requested_in v; granted = false }

-- what is shown where a stretch starts: an open tenure, if the bus is busy
abbrev pub grant_start_marks : Levels → StepMarks
grant_start_marks v = record no_step_marks { opened = is_low_in v BBSY }

-- what the step shows, if a line of the arbitration bus changes or a cycle starts while the bus isn't busy
abbrev pub grant_observation : Levels → Levels → List Change → Option GrantObservation
grant_observation v w cs = if touches_arbitration cs || is_cycle_unowned v w then Some (seen_between v w cs) else None

-- the result of an observed step
abbrev pub grant_next : Arbitration → Levels → Levels → GrantObservation → Next Arbitration
grant_next m v w seen =
    record {
      memory = record {
        requests = (if seen.grants then seen.requests else union m.requests seen.requests);
        granted = not seen.busy_falls && (m.granted || seen.grants);
      };
      fault = step_fault v w (union m.requests seen.requests) (m.granted || seen.grants) seen;
      shown = record no_step_marks { tenure = seen.tenure; tenure_end = seen.busy_rises };
    }
