-- How many marks (events of the bus with their instants) a table stores: after a shift or a merge as many as before,
-- and after two tables are put together as many as both.
use Rattle.std.proofs.Common.{◌≡◌, ℕ, ◌+◌, List, [], ◌∷◌, ◌++◌, length, map, refl, ap, ◌∙◌, arith}
use Rattle.std.specs.List.{sum_by}
use Rattle.std.proofs.lemmas.List.{length-map}
use Rattle.std.proofs.lemmas.List.Sums.{sum_by-append, sum_by-cons}
use Rattle.vme_monitor.specs.Meeting.{link_marks, layer_marks, marks_of, row_marks}
use Rattle.vme_monitor.specs.Outcome.{Outcome, nothing_shown}
use Rattle.vme_monitor.specs.Walk.{AllRejoin, LinkValue, link_to_place, later_link_value, later_mark, later_outcome}

-- a layer that is shifted by n has as many marks
sum_by-later_layer : (n : ℕ) (l : List LinkValue) → sum_by link_marks (map (later_link_value n) l) ≡ sum_by link_marks l
sum_by-later_layer n [] = refl
sum_by-later_layer n (h ∷ l) = omega (
  arith,
  sum_by-cons link_marks (later_link_value n h) (map (later_link_value n) l),
  sum_by-cons link_marks h l,
  length-map h.marks (later_mark n),
  sum_by-later_layer n l,
)

-- layers that are shifted by n have as many marks
sum_by-later_layers : (n : ℕ) (ls : List (List LinkValue)) → sum_by layer_marks (map (map (later_link_value n)) ls)
    ≡ sum_by layer_marks ls
sum_by-later_layers n [] = refl
sum_by-later_layers n (l ∷ ls) = omega (
  arith,
  sum_by-cons layer_marks (map (later_link_value n) l)
      (map (map (later_link_value n)) ls),
  sum_by-cons layer_marks l ls,
  sum_by-later_layer n l,
  sum_by-later_layers n ls,
)

module _ {P : Type 0} where
  -- rows that are shifted by n have as many marks
  sum_by-later_rows : (n : ℕ) (rows : List (Outcome P)) → sum_by row_marks (map (later_outcome n) rows)
      ≡ sum_by row_marks rows
  sum_by-later_rows n [] = refl
  sum_by-later_rows n (r ∷ rows) = omega (
    arith,
    sum_by-cons row_marks (later_outcome n r) (map (later_outcome n) rows),
    sum_by-cons row_marks r rows,
    length-map r.marks (later_mark n),
    sum_by-later_rows n rows,
  )

  -- rows have as many marks as links to the places of their memories
  sum_by-link_to_place : (place : P → ℕ) (rows : List (Outcome P)) → sum_by link_marks (map (link_to_place place) rows)
      ≡ sum_by row_marks rows
  sum_by-link_to_place place [] = refl
  sum_by-link_to_place place (r ∷ rows) = omega (
    arith,
    sum_by-cons link_marks (link_to_place place r)
        (map (link_to_place place) rows),
    sum_by-cons row_marks r rows,
    sum_by-link_to_place place rows,
  )

  -- rows that show nothing have no marks
  pub sum_by-nothing_shown : (ms : List P) → sum_by row_marks (map nothing_shown ms) ≡ 0
  sum_by-nothing_shown [] = refl
  sum_by-nothing_shown (m ∷ ms) = omega (
    arith,
    sum_by-cons row_marks (nothing_shown m) (map nothing_shown ms),
    sum_by-nothing_shown ms,
  )

  -- links that rejoin rows have as many marks as these
  sum_by-rejoined : (merged : List P) (rows : List (Outcome P)) (links : List LinkValue) → AllRejoin merged rows links
      → sum_by link_marks links ≡ sum_by row_marks rows
  sum_by-rejoined merged [] [] r = refl
  sum_by-rejoined merged (o ∷ os) (h ∷ hs) r = omega (
    arith,
    sum_by-cons link_marks h hs,
    sum_by-cons row_marks o os,
    ap (λ ms. length ms) r.2,
    sum_by-rejoined merged os hs r.3,
  )
  sum_by-rejoined merged [] (h ∷ hs) r = absurd r
  sum_by-rejoined merged (o ∷ os) [] r = absurd r

  -- rows that are merged keep their marks, in the added layer
  pub marks_of-rejoined : (ls : List (List LinkValue)) (merged : List P) (rows : List (Outcome P))
      (links : List LinkValue)
      → AllRejoin merged rows links → marks_of (ls ++ links ∷ []) (map nothing_shown merged) ≡ marks_of ls rows
  marks_of-rejoined ls merged rows links r =
      let all : sum_by layer_marks (ls ++ links ∷ []) ≡ sum_by layer_marks ls + sum_by layer_marks (links ∷ [])
      = sum_by-append layer_marks ls (links ∷ []) in
      let one : sum_by layer_marks (links ∷ []) ≡ sum_by link_marks links + 0 = sum_by-cons layer_marks links [] in
      omega (arith, all, one, sum_by-nothing_shown merged, sum_by-rejoined merged rows links r)

  -- fresh rows without layers have no marks
  pub marks_of-fresh : (ls : List (List LinkValue)) (ms : List P) (rows : List (Outcome P)) → ls ≡ [] → rows
      ≡ map nothing_shown ms → marks_of ls rows ≡ 0
  marks_of-fresh ls ms rows none fresh =
      let layers : sum_by layer_marks ls ≡ 0 = ap (sum_by layer_marks) none in
      let all : sum_by row_marks rows ≡ 0 = ap (sum_by row_marks) fresh ∙ sum_by-nothing_shown ms in
      omega (arith, layers, all)

  -- a table that is composed of two has as many marks as both
  pub marks_of-composed : (place : P → ℕ) (m n : ℕ) (h1 h2 h3 : List (List LinkValue)) (link_of : List LinkValue)
      (rows : List (Outcome P)) (ls : List (List LinkValue)) (ras : List (Outcome P)) (bs : List (List LinkValue))
      (rbs : List (Outcome P))
      → h1 ≡ map (map (later_link_value m)) ls → link_of ≡ map (link_to_place place) (map (later_outcome m) ras) → h2
      ≡ h1 ++ link_of ∷ [] → h3 ≡ h2 ++ map (map (later_link_value n)) bs → rows ≡ map (later_outcome n) rbs
      → marks_of h3 rows ≡ marks_of ls ras + marks_of bs rbs
  marks_of-composed place m n h1 h2 h3 link_of rows ls ras bs rbs e1 eb e2 e3 er =
      let first : sum_by layer_marks h1 ≡ sum_by layer_marks ls = ap (sum_by layer_marks) e1
      ∙ sum_by-later_layers m ls in
      let between : sum_by link_marks link_of ≡ sum_by row_marks ras = ap (sum_by link_marks) eb
      ∙ sum_by-link_to_place place
      (map (later_outcome m) ras) ∙ sum_by-later_rows m ras in
      let middle : sum_by layer_marks h2 ≡ sum_by layer_marks h1 + sum_by layer_marks (link_of ∷ []) = ap
      (sum_by layer_marks) e2 ∙ sum_by-append layer_marks h1 (link_of ∷ []) in
      let one : sum_by layer_marks (link_of ∷ []) ≡ sum_by link_marks link_of + 0 = sum_by-cons layer_marks link_of
      [] in
      let last : sum_by layer_marks h3 ≡ sum_by layer_marks h2 + sum_by layer_marks (map (map (later_link_value n)) bs)
      = ap (sum_by layer_marks) e3 ∙ sum_by-append layer_marks h2 (map (map (later_link_value n)) bs) in
      let ends : sum_by row_marks rows ≡ sum_by row_marks rbs = ap (sum_by row_marks) er ∙ sum_by-later_rows n rbs in
      omega (arith, first, between, middle, one, last, sum_by-later_layers n bs, ends)

module _ {P : Type 0} (place : P → ℕ) where
  -- a table that takes over another has as many marks as both
  pub marks_of-appended : (n : ℕ) (h1 h2 : List (List LinkValue)) (link_of : List LinkValue) (rows : List (Outcome P))
      (ls : List (List LinkValue)) (ras : List (Outcome P)) (bs : List (List LinkValue)) (rbs : List (Outcome P))
      → link_of ≡ map (link_to_place place) ras → h1 ≡ ls ++ link_of ∷ [] → h2 ≡ h1 ++ map (map (later_link_value n)) bs
      → rows ≡ map (later_outcome n) rbs → marks_of h2 rows ≡ marks_of ls ras + marks_of bs rbs
  marks_of-appended n h1 h2 link_of rows ls ras bs rbs eb e1 e2 er =
      let between : sum_by link_marks link_of ≡ sum_by row_marks ras = ap (sum_by link_marks) eb
      ∙ sum_by-link_to_place place
      ras in
      let middle : sum_by layer_marks h1 ≡ sum_by layer_marks ls + sum_by layer_marks (link_of ∷ []) = ap
      (sum_by layer_marks) e1 ∙ sum_by-append layer_marks ls (link_of ∷ []) in
      let one : sum_by layer_marks (link_of ∷ []) ≡ sum_by link_marks link_of + 0 = sum_by-cons layer_marks link_of
      [] in
      let last : sum_by layer_marks h2 ≡ sum_by layer_marks h1 + sum_by layer_marks (map (map (later_link_value n)) bs)
      = ap (sum_by layer_marks) e2 ∙ sum_by-append layer_marks h1 (map (map (later_link_value n)) bs) in
      let ends : sum_by row_marks rows ≡ sum_by row_marks rbs = ap (sum_by row_marks) er ∙ sum_by-later_rows n rbs in
      omega (arith, between, middle, one, last, sum_by-later_layers n bs, ends)
