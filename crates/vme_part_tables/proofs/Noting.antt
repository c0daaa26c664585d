-- The memories in which a table ends are marked as needed, and the marks of the others are left out.
use Rattle.std.proofs.Common.{inl, inr, ◌≡◌, ℕ, zero, suc, ◌+◌, ◌<◌, ◌≤◌, Bool, true, false, List, [], ◌∷◌, get_or}
use Rattle.std.proofs.Common.{length, Option, None, ap, subst, sym, refl, arith}
use Rattle.std.specs.Prelude.{◌⊎◌}
use Rattle.std.specs.Option.{option_map_or}
use Rattle.std.proofs.lemmas.Bool.{cases_lt}
use Rattle.std.proofs.lemmas.Option.{slice_get-get_or}
use Rattle.vme_monitor.specs.Outcome.{IsWithin, Outcome}
use Rattle.vme_part_format.specs.Tables.{TableValue}
use Rattle.vme_part_format.specs.declared.table.TableEntry.{TableEntry}
use Rattle.vme_part_tables.specs.Marked.{if_needed, is_needed}
use Rattle.vme_part_tables.specs.Ways.{HasWays, WideOutcome, ended_in, entry_outcome, outcome_in}
use Rattle.vme_part_tables.proofs.Composing.{run_from_leaving}

-- a run of a table ends in one of its memories
pub outcome_in-leaving_bound : (t : TableValue) (k : ℕ) → HasWays t → k < length t.entries
    → (outcome_in t k).leaving < length t.entries
outcome_in-leaving_bound t k p h =
    let d : TableEntry = record { next = 0; first_break = None } in
    let e : TableEntry = get_or t.entries k d in
    let at : outcome_in t k ≡ entry_outcome t e =
    ap (λ (o : Option TableEntry). option_map_or (entry_outcome t) o (ended_in k)) (slice_get-get_or t.entries k d h) in
    let left = run_from_leaving (length t.entries) t.nodes e.next p.nodes (p.entries k d h) in
    subst (λ (w : WideOutcome). w.leaving < length t.entries) (sym at) left

-- the loop invariant holds after the memory in which the run from n ends is marked
pub marked_leaving-one_more : (t : TableValue) (old new : List Bool) (n : ℕ)
    → ((k : ℕ) → get_or old k false ≡ true → get_or new k false ≡ true)
    → get_or new (outcome_in t n).leaving false ≡ true
    → ((k : ℕ) → k < n → get_or old (outcome_in t k).leaving false ≡ true)
    → (k : ℕ) → k < n + 1 → get_or new (outcome_in t k).leaving false ≡ true
marked_leaving-one_more t old new n more here before k h = by_place (cases_lt k n)
  where
    by_place : ((k < n) ⊎ (n ≤ k)) → get_or new (outcome_in t k).leaving false ≡ true
    by_place (inl i) = more (outcome_in t k).leaving (before k i)
    by_place (inr i) =
        let same : n ≡ k = omega arith in
        subst (λ j. get_or new (outcome_in t j).leaving false ≡ true) same here

-- a memory that is marked is needed
pub is_needed-of_marked : (needs : List Bool) (k : ℕ) → get_or needs k false ≡ true → is_needed needs k ≡ true
is_needed-of_marked [] k e = absurd (cc)
is_needed-of_marked (b ∷ bs) zero e = e
is_needed-of_marked (b ∷ bs) (suc k) e = is_needed-of_marked bs k e

-- if the marks are needed, `if_needed` is the whole run
pub if_needed-whole : {P : Type 0} (b : Bool) (o : Outcome P) → b ≡ true → if_needed b o ≡ o
if_needed-whole b o e = rw e refl

-- if a run is within n steps, it is without its marks
pub IsWithin-if_needed : {P : Type 0} (n : ℕ) (b : Bool) (o : Outcome P) → IsWithin n o → IsWithin n (if_needed b o)
IsWithin-if_needed n true o h = h
IsWithin-if_needed n false o h = (h.0, tt)
