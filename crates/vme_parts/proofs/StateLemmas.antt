-- The states of the monitors after a segment.
use Rattle.std.proofs.Common.{◌≡◌, ℕ, ◌+◌, ◌<◌, ◌^◌, Bool, false, List, [], ◌++◌, length, refl, ap, sym, subst}
use Rattle.std.proofs.Common.{arith}
use Rattle.std.proofs.Common.{Option, None, get_or}
use Rattle.std.specs.Option.{option_map, option_map_or, option_or}
use Rattle.std.proofs.lemmas.Option.{slice_get-get_or}
use Rattle.vme_trace.specs.Levels.{Levels}
use Rattle.vme_trace.specs.Trace.{levels_after}
use Rattle.vme_trace.specs.declared.step.Step.{Step}
use Rattle.vme_monitor.specs.Outcome.{Outcome, composed_outcome}
use Rattle.vme_part_format.specs.Tables.{TableValue, SegmentValue}
use Rattle.vme_part_format.specs.declared.table.TableEntry.{TableEntry}
use Rattle.vme_part_tables.specs.Runs.{AgreesWithRun, AgreesWithRuns}
use Rattle.vme_part_tables.specs.Ways.{WideOutcome, ended_in, entry_outcome, followed_by, later_break, outcome_in}
use Rattle.vme_part_tables.proofs.Composing.{run_from_leaving}
use Rattle.vme_part_tables.proofs.Joining.{AgreesWithRun-followed_by}
use Rattle.vme_parts.specs.Buddies.{IsTableOf, HasTables}
use Rattle.vme_parts.specs.Progress.{HasState, way_of, FitMemories}
use Rattle.vme_parts.specs.declared.state.State.{State}
use Rattle.vme_parts.proofs.Runs.{IsRun}

-- the outcome w without its marks
abbrev without_marks : WideOutcome → WideOutcome
without_marks w = record { leaving = w.leaving; first_break = w.first_break; marks = [] }

-- if w agrees with a run, w without its marks agrees with it where marks aren't kept
AgreesWithRun-without_marks : {P : Type 0} (listing : Bool) (place : P → ℕ) (w : WideOutcome) (r : Outcome P)
    → AgreesWithRun listing place w r → AgreesWithRun false place (without_marks w) r
AgreesWithRun-without_marks listing place w r t =
    record { leaving = t.leaving; first_break = t.first_break; marks = refl }

-- a run of a table of n memories ends in one of them
leaving-below : (n : ℕ) (t : TableValue) (k : ℕ) → IsTableOf n t → k < n → (outcome_in t k).leaving < n
leaving-below n t k p h =
    let below : k < length t.entries = omega (arith, p.counted, h) in
    let d : TableEntry = record { next = 0; first_break = None } in
    let e : TableEntry = get_or t.entries k d in
    let at : outcome_in t k ≡ entry_outcome t e =
    ap (λ (o : Option TableEntry). option_map_or (entry_outcome t) o (ended_in k))
    (slice_get-get_or t.entries k d below) in
    let left = run_from_leaving (length t.entries) t.nodes e.next p.ways.nodes (p.ways.entries k d below) in
    subst (λ (w : WideOutcome). w.leaving < n) (sym at) (omega (arith, left, p.counted))

-- the memories in which the runs of a segment's tables end are those of their monitors, if the runs begin in such
pub FitMemories-next : {k h b g a known handshake stability grant acknowledge : ℕ} (s : SegmentValue) → HasTables s
    → FitMemories k h b g a → known ≡ (outcome_in s.known k).leaving → handshake ≡ (outcome_in s.handshake h).leaving
    → stability ≡ (outcome_in s.stability b).leaving → grant ≡ (outcome_in s.grant g).leaving
    → acknowledge ≡ (outcome_in s.acknowledge a).leaving → FitMemories known handshake stability grant acknowledge
FitMemories-next s tables fit known handshake stability grant acknowledge =
    record {
      known = rw known (leaving-below 4 s.known _ tables.known fit.known);
      handshake = rw handshake (leaving-below 147 s.handshake _ tables.handshake fit.handshake);
      stability = rw stability (leaving-below 13 s.stability _ tables.stability fit.stability);
      grant = rw grant (leaving-below 35 s.grant _ tables.grant fit.grant);
      acknowledge = rw acknowledge (leaving-below 11 s.acknowledge _ tables.acknowledge fit.acknowledge);
    }

-- if a monitor has the state s after the steps x, and the table t agrees with its runs over y, it has the state r after
-- both
pub HasState-next : {P : Type 0} (run : P → Levels → List Step → Outcome P) → IsRun run → (begin : Levels → P)
    (place : P → ℕ) (listing : Bool) (count : ℕ) (t : TableValue) (s r : State) (o v : Levels) (x y : List Step)
    (steps : ℕ) → r.memory ≡ (outcome_in t s.memory).leaving
    → r.first_break ≡ option_or s.first_break (option_map (later_break steps) (outcome_in t s.memory).first_break) → v
    ≡ levels_after o x
    → steps ≡ length x → length x + length y < 2 ^ 64 → HasState run begin place s o x
    → AgreesWithRuns listing count place t (λ p. run p v y) → HasState run begin place r o (x ++ y)
HasState-next {P} run law begin place listing count t s r o v x y steps memory first_break opens counted fits was
    agrees =
    let p = (run (begin o) o x).leaving in
    let a = was in
    let b : AgreesWithRun false place (without_marks (outcome_in t s.memory)) (run p v y) =
    AgreesWithRun-without_marks listing place (outcome_in t s.memory) (run p v y) (rw a.leaving (agrees.agrees p)) in
    let both = AgreesWithRun-followed_by (length x) (length y) fits place false (way_of s)
    (without_marks (outcome_in t s.memory))
    (run (begin o) o x) (run p v y) a b (law.within p v y) in
    let way : way_of r ≡ followed_by (length x) (way_of s) (without_marks (outcome_in t s.memory)) =
    rw (memory, first_break, counted) refl in
    let whole : run (begin o) o (x ++ y) ≡ composed_outcome (length x) (run (begin o) o x) (run p v y) =
    rw opens (law.joined (begin o) o x y) in
    subst (λ (w : WideOutcome). AgreesWithRun false place w (run (begin o) o (x ++ y))) (sym way)
    (subst (λ (q : Outcome P). AgreesWithRun false place
    (followed_by (length x) (way_of s) (without_marks (outcome_in t s.memory))) q)
    (sym whole) both)
