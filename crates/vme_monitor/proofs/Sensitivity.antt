-- A step that no row of a table notices changes no row; and only a step of threshold 0, which each row notices, can
-- make a row more sensitive.
use Rattle.std.proofs.Common.{◌≡◌, ℕ, ◌<◌, ◌≤◌, List, [], ◌∷◌, length, map, refl, sym, ◌∙◌, ap, append-nil, arith}
use Rattle.std.proofs.Common.{Option, Some}
use Rattle.std.proofs.lemmas.List.{get_or-map, length-map}
use Rattle.std.proofs.lemmas.List.Elements.{All-tail}
use Rattle.std.specs.Prelude.{All, get_or}
use Rattle.vme_trace.specs.Levels.{Levels}
use Rattle.vme_trace.specs.declared.step.Change.{Change}
use Rattle.vme_trace.proofs.ListLaws.{option_or-none}
use Rattle.vme_monitor.specs.Outcome.{Outcome}
use Rattle.vme_monitor.specs.Run.{advanced, extended, machine_step, outcome_at, quiet}
use Rattle.vme_monitor.specs.Walk.{outcome_of}
use Rattle.vme_monitor.specs.declared.link.TableRow.{TableRow}
use Rattle.vme_monitor.specs.declared.mark.Next.{Next}

-- a bound m on the sizes gives each greater bound n
pub All-greater_bound : {A : Type 0} (size : A → ℕ) (m n : ℕ) (xs : List A) → m ≤ n → All (λ x. size x ≤ m) xs
    → All (λ x. size x ≤ n) xs
All-greater_bound size m n xs h a k d b = let small : size (get_or xs k d) ≤ m = a k d b in omega arith

-- a step that leaves the memory as it is, breaks nothing and shows nothing, leaves the outcome as it is
pub extended-quiet : {P : Type 0} (n time : ℕ) (a : Outcome P) (next : Next P) → next ≡ quiet a.leaving
    → extended a (outcome_at n time next) ≡ a
extended-quiet n time a next e = rw (e, option_or-none a.first_break, append-nil a.marks) refl

module _ {P S : Type 0} (observation : Levels → Levels → List Change → Option S) (next : P → Levels → Levels → S
    → Next P) (sensitivity : P → ℕ) (threshold : S → ℕ)
    (unchanged : (p : P) (before after : Levels) (seen : S) → sensitivity p < threshold seen → next p before after seen
    ≡ quiet p) where
  -- a step whose threshold is above `most`, and so above the sensitivity of each row, leaves the rows as they are
  pub rows_unchanged : (before after : Levels) (cs : List Change) (seen : S) (n time most : ℕ)
      (rows : List (TableRow P))
      → observation before after cs ≡ Some seen → most < threshold seen → All (λ row. sensitivity row.memory ≤ most)
      rows
      → map outcome_of rows ≡ map (advanced (machine_step observation next) before after cs n time)
      (map outcome_of rows)
  rows_unchanged before after cs seen n time most [] e h a = refl
  rows_unchanged before after cs seen n time most (row ∷ rows) e h a =
      let here : extended (outcome_of row) (outcome_at n time (next row.memory before after seen))
      ≡ outcome_of row = extended-quiet n time (outcome_of row) (next row.memory before after seen)
      (unchanged row.memory before after seen (first (a 0 row (omega arith)))) in
      rw (
        e,
        here,
        ← rows_unchanged before after cs seen n time most rows e h (All-tail (λ r. sensitivity r.memory ≤ most)
            row rows a),
      ) refl
    where
      first : sensitivity row.memory ≤ most → sensitivity row.memory < threshold seen
      first l = omega arith

  -- if no row is more sensitive than `most`, none is after a step whose threshold isn't 0
  pub rows_sensitivity : ((p : P) (before after : Levels) (seen : S) → 0 < threshold seen
      → sensitivity (next p before after seen).memory ≤ sensitivity p) → (before after : Levels) (cs : List Change)
      (seen : S) (n time most : ℕ) (rows rows' : List (TableRow P))
      → 0 < threshold seen → observation before after cs ≡ Some seen → map outcome_of rows'
      ≡ map (advanced (machine_step observation next) before after cs n time) (map outcome_of rows)
      → All (λ row. sensitivity row.memory ≤ most) rows → All (λ row. sensitivity row.memory ≤ most) rows'
  rows_sensitivity never_more_sensitive before after cs seen n time most rows rows' felt e same a k d b =
      let step = advanced (machine_step observation next) before after cs n time in
      let count : length rows' ≡ length rows = sym (length-map rows' outcome_of)
      ∙ (ap length same ∙ (length-map (map outcome_of rows) step ∙ length-map rows outcome_of)) in
      let there : k < length rows = rw count at b in
      let mapped : k < length (map outcome_of rows) = rw (length-map rows outcome_of) there in
      let one : outcome_of (get_or rows' k d) ≡ step (outcome_of (get_or rows k d)) = sym
      (get_or-map outcome_of rows' k d (outcome_of d) b) ∙ (ap (λ l. get_or l k (outcome_of d)) same
      ∙ (get_or-map step (map outcome_of rows) k (outcome_of d) (outcome_of d) mapped
      ∙ ap step (get_or-map outcome_of rows k d (outcome_of d) there))) in
      let memory : (get_or rows' k d).memory ≡ (next (get_or rows k d).memory before after seen).memory = ap
      (λ o. o.leaving) one ∙ leaves (get_or rows k d) in
      rw memory (later (sensitivity (next (get_or rows k d).memory before after seen).memory)
      (sensitivity (get_or rows k d).memory) (never_more_sensitive (get_or rows k d).memory before after seen felt)
      (a k d there))
    where
      leaves : (r : TableRow P)
          → (advanced (machine_step observation next) before after cs n time (outcome_of r)).leaving
          ≡ (next r.memory before after seen).memory
      leaves r = rw e refl

      later : (x y : ℕ) → x ≤ y → y ≤ most → x ≤ most
      later x y h l = omega arith
