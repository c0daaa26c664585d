-- How many marks a table stores. Runs that have met, i.e. are in the same memory (state of the automaton), share what
-- follows.
use Rattle.std.specs.Prelude.{◌≡◌, ℕ, ◌+◌, ◌≤◌, ◌==◌, Bool, List, [], ◌∷◌, ◌++◌, length, map, Some, slice_get}
use Rattle.std.specs.List.{filter, list_any, range_with_len, sum_by}
use Rattle.vme_trace.specs.Levels.{Levels}
use Rattle.vme_trace.specs.Trace.{levels_after}
use Rattle.vme_trace.specs.declared.step.Step.{Step}
use Rattle.vme_monitor.specs.Outcome.{Outcome}
use Rattle.vme_monitor.specs.Walk.{LinkValue}

-- how many marks a link has
abbrev pub link_marks : LinkValue → ℕ
link_marks link = length link.marks

-- how many marks a layer of links has
abbrev pub layer_marks : List LinkValue → ℕ
layer_marks layer = sum_by link_marks layer

-- how many marks a row has
abbrev pub row_marks : {P : Type 0} → Outcome P → ℕ
row_marks row = length row.marks

-- how many marks all lists of a table have
abbrev pub marks_of : {P : Type 0} → List (List LinkValue) → List (Outcome P) → ℕ
marks_of layers rows = sum_by layer_marks layers + sum_by row_marks rows

-- the memories that rows are in
abbrev pub memories_in : {P : Type 0} → List (Outcome P) → List P
memories_in rows = map (λ row. row.leaving) rows

-- no two memories are at one place
abbrev pub AreDistinct : {P : Type 0} → (P → ℕ) → List P → Type 0
AreDistinct {P} place ms = (i j : ℕ) (p q : P) → slice_get ms i ≡ Some p → slice_get ms j ≡ Some q → place p ≡ place q
    → i ≡ j

-- each memory of a list is one of another
abbrev pub AreAmong : {P : Type 0} → List P → List P → Type 0
AreAmong {P} ms others = (i : ℕ) (p : P) → slice_get ms i ≡ Some p → (j : ℕ) × (slice_get others j ≡ Some p)

-- for each memory of ms, the entry of `last_seen` at its place is its index in ms
abbrev pub AreLastSeen : {P : Type 0} → (P → ℕ) → List P → List ℕ → Type 0
AreLastSeen {P} place ms last_seen = (i : ℕ) (p : P) → slice_get ms i ≡ Some p → slice_get last_seen (place p) ≡ Some i

module _ {P : Type 0} (run : P → Levels → List Step → Outcome P) (count : ℕ) (place : P → ℕ) (nth : ℕ → P) where
  -- whether the steps x after the opening o leave the memory at place k, for some entering memory
  abbrev pub is_left : Levels → List Step → ℕ → Bool
  is_left o x k = list_any (λ j. place (run (nth j) o x).leaving == k) (range_with_len 0 count)

  -- how many marks the step s after x shows, added up over the memories that x may leave
  abbrev pub shown_by : Levels → List Step → Step → ℕ
  shown_by o x s = sum_by (λ k. length (run (nth k) (levels_after o x) (s ∷ [])).marks)
      (filter (is_left o x) (range_with_len 0 count))

  -- how many marks the steps y after x show, each step added up over the memories that the steps before it may leave
  abbrev pub shown_after : Levels → List Step → List Step → ℕ
  shown_after o x [] = 0
  shown_after o x (s ∷ y) = shown_by o x s + shown_after o (x ++ s ∷ []) y

  -- how many marks the steps x show, each step added up over the memories that the steps before it may leave
  abbrev pub shown_apart : Levels → List Step → ℕ
  shown_apart o x = shown_after o [] x

-- the rows of a table of the steps x are in different memories, each of which x leaves for some entering memory, and
-- the table has at most as many marks as `shown_apart` counts
pub record KeepApart {P : Type 0} (run : P → Levels → List Step → Outcome P) (count : ℕ) (place : P → ℕ) (nth : ℕ → P)
    (layers : List (List LinkValue)) (rows : List (Outcome P)) (o : Levels) (x : List Step) : Type 0 where
  pub apart : AreDistinct place (memories_in rows)
  pub left : (i : ℕ) (p : P) → slice_get (memories_in rows) i ≡ Some p → (q : P) × ((run q o x).leaving ≡ p)
  pub few : marks_of layers rows ≤ shown_apart run count place nth o x
