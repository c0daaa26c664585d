-- A table without marks that has an entry for each memory.
use Rattle.std.proofs.Common.{inl, inr, ◌≡◌, ℕ, zero, suc, ◌+◌, ◌<◌, ◌≤◌, ◌^◌, Bool, false, List, [], ◌∷◌, ◌++◌, length}
use Rattle.std.proofs.Common.{refl, ap, subst}
use Rattle.std.proofs.Common.{◌∙◌, arith, Some}
use Rattle.std.specs.Prelude.{◌⊎◌, slice_get}
use Rattle.std.specs.Option.{option_map, option_map_or}
use Rattle.std.proofs.lemmas.Bool.{cases_lt}
use Rattle.std.proofs.lemmas.Option.{get_or_from_slice_get}
use Rattle.vme_trace.proofs.ListLaws.{option_or-none}
use Rattle.vme_monitor.specs.Outcome.{Outcome}
use Rattle.vme_part_format.specs.Tables.{TableValue}
use Rattle.vme_part_format.specs.declared.table.TableEntry.{TableEntry}
use Rattle.vme_part_tables.specs.Runs.{AgreesWithRun, AgreesWithRuns, break_of}
use Rattle.vme_part_tables.specs.Ways.{WideOutcome, ended_in, entry_outcome, outcome_in}

-- an item of xs stands at its index in xs ++ y ∷ [] too
slice_get-push : {X : Type 0} (xs : List X) (x y : X) (k : ℕ) → slice_get xs k ≡ Some x → slice_get (xs ++ y ∷ []) k
    ≡ Some x
slice_get-push [] x y k e = absurd (cc)
slice_get-push (z ∷ zs) x y zero e = e
slice_get-push (z ∷ zs) x y (suc k) e = slice_get-push zs x y k e

-- x stands in xs ++ x ∷ [] at the index after those of xs
slice_get-pushed : {X : Type 0} (xs : List X) (x : X) (k : ℕ) → k ≡ length xs → slice_get (xs ++ x ∷ []) k ≡ Some x
slice_get-pushed [] x zero e = refl
slice_get-pushed [] x (suc k) e = absurd (omega arith)
slice_get-pushed (z ∷ zs) x zero e = absurd (omega arith)
slice_get-pushed (z ∷ zs) x (suc k) e = slice_get-pushed zs x k (omega arith)

-- `place` is the number of a memory, `nth` the memory with a number, and `says` the run from a memory
module _ {P : Type 0} (place : P → ℕ) (nth : ℕ → P) (says : P → Outcome P) where
  -- the entry e agrees with the run from the memory with the number k
  pub record IsRow (k : ℕ) (e : TableEntry) : Type 0 where
    pub next : e.next ≡ place (says (nth k)).leaving
    pub first_break : option_map break_of e.first_break ≡ (says (nth k)).first_break

  -- the first n entries agree with the runs from their memories
  abbrev pub AreRows : List TableEntry → ℕ → Type 0
  AreRows es n = (k : ℕ) → k < n → (e : TableEntry) × (slice_get es k ≡ Some e) × IsRow k e

  -- if n entries agree with the runs from their memories, and so does the entry e, they agree all n + 1
  pub AreRows-push : (es : List TableEntry) (e : TableEntry) (n : ℕ) → length es ≡ n → IsRow n e → AreRows es n
      → AreRows (es ++ e ∷ []) (n + 1)
  AreRows-push es e n count row rows k h = by_place (cases_lt k n)
    where
      by_place : ((k < n) ⊎ (n ≤ k)) → (x : TableEntry) × (slice_get (es ++ e ∷ []) k ≡ Some x) × IsRow k x
      by_place (inl i) = let r = rows k i in (r.0, slice_get-push es r.0 e k r.1, r.2)
      by_place (inr i) =
          let same : n ≡ k = omega arith in
          (e, slice_get-pushed es e k (omega arith), subst (λ j. IsRow j e) same row)

  -- a table without nodes, with one entry for each of the `count` memories that agrees with the run from it, agrees
  -- with the runs
  pub AgreesWithRuns-bare : (count : ℕ) (es : List TableEntry) → count < 2 ^ 32 → length es ≡ count → AreRows es count
      → ((p : P) → place p < count) → ((p : P) → nth (place p) ≡ p)
      → AgreesWithRuns false count place (record { entries = es; nodes = [] }) says
  AgreesWithRuns-bare count es few many rows placed found =
      record {
        counted = many;
        ways = record {
          few = omega (arith, few, many);
          entries = λ k d h.
              let below : k < count = omega arith in
              let r = rows k below in
              let e = get_or_from_slice_get es k r.0 d r.1 in
              let next = ap (λ (x : TableEntry). x.next) e ∙ r.2.next in
              omega (arith, next, placed (says (nth k)).leaving, many);
          nodes = tt;
        };
        agrees = λ p.
            let r = rows (place p) (placed p) in
            let t : TableValue = record { entries = es; nodes = [] } in
            let at : outcome_in t (place p) ≡ entry_outcome t r.0
            = ap (λ o. option_map_or (entry_outcome t) o (ended_in (place p))) r.1 in
            record {
              leaving = ap (λ (w : WideOutcome). w.leaving) at ∙
                  (r.2.next ∙ ap (λ q. place (says q).leaving) (found p));
              first_break = ap (λ (w : WideOutcome). option_map break_of w.first_break) at
                  ∙ (ap (option_map break_of) (option_or-none r.0.first_break)
                  ∙ (r.2.first_break ∙ ap (λ q. (says q).first_break) (found p)));
              marks = ap (λ (w : WideOutcome). w.marks) at;
            };
      }

-- a table that agrees with the runs f agrees with equal runs g
pub AgreesWithRuns-same_runs : {P : Type 0} (listing : Bool) (count : ℕ) (place : P → ℕ) (t : TableValue)
    (f g : P → Outcome P)
    → ((p : P) → f p ≡ g p) → AgreesWithRuns listing count place t f → AgreesWithRuns listing count place t g
AgreesWithRuns-same_runs listing count place t f g e s =
    record {
      counted = s.counted;
      ways = s.ways;
      agrees = λ p. subst (AgreesWithRun listing place (outcome_in t (place p))) (e p) (s.agrees p);
    }
