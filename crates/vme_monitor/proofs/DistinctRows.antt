-- Rows in different memories that steps may leave show no more marks than the steps show from each such memory once.
use Rattle.std.proofs.Common.{◌≡◌, ◌≢◌, ◌==◌, ℕ, zero, suc, ◌+◌, ◌<◌, ◌≤◌, Bool, true, false, cond, List, [], ◌∷◌, ◌++◌}
use Rattle.std.proofs.Common.{length, map, refl, ap, sym, ◌∙◌, arith, eq-eqb, ne_eqb, Option, Some, None, append_assoc}
use Rattle.std.proofs.Common.{append-nil, length-append, get_or}
use mathlib.Core.Logic.{dite}
use native.Mathlib.Decide.{ℕ_discrete}
use Rattle.std.specs.Prelude.{slice_get}
use Rattle.std.specs.List.{filter, range_with_len, sum_by}
use Rattle.std.proofs.lemmas.List.{length-map}
use Rattle.std.proofs.lemmas.List.FromFn.{get_or-range_with_len, length-range_with_len}
use Rattle.std.proofs.lemmas.List.Folds.{list_any_at}
use Rattle.std.proofs.lemmas.List.Sums.{sum_by-cons}
use Rattle.std.proofs.lemmas.Option.{same_Some}
use Rattle.vme_trace.specs.Levels.{Levels}
use Rattle.vme_trace.specs.Trace.{changed, levels_after}
use Rattle.vme_trace.specs.declared.step.Change.{Change}
use Rattle.vme_trace.specs.declared.step.Step.{Step}
use Rattle.vme_monitor.specs.Meeting.{AreAmong, AreDistinct, KeepApart, is_left, marks_of, memories_in, row_marks}
use Rattle.vme_monitor.specs.Meeting.{shown_after, shown_apart, shown_by}
use Rattle.vme_monitor.specs.Outcome.{Outcome}
use Rattle.vme_monitor.specs.Run.{advanced, kinds_of, mark_at, machine_step, run_of}
use Rattle.vme_monitor.specs.Runs.{run_more, unobserved}
use Rattle.vme_monitor.specs.Walk.{LinkValue}
use Rattle.vme_monitor.specs.declared.mark.Next.{Next}
use Rattle.vme_monitor.proofs.LastSeen.{no_value}

-- h, but 0 at n
abbrev pub without : (ℕ → ℕ) → ℕ → ℕ → ℕ
without h n k = cond (k == n) 0 (h k)

-- at n, `without h n` is 0
without-here : (h : ℕ → ℕ) (n : ℕ) → without h n n ≡ 0
without-here h n = ap (λ b. cond b 0 (h n)) (eq-eqb n n refl)

-- at other numbers than n, `without h n` is h
without-elsewhere : (h : ℕ → ℕ) (n k : ℕ) → k ≢ n → without h n k ≡ h k
without-elsewhere h n k ne = ap (λ b. cond b 0 (h k)) (ne_eqb k n ne)

-- the sum of `without h n` over the `len` numbers from a on is that of h, if n is below a
sum_by-without_outside : (h : ℕ → ℕ) (n a len : ℕ) → n < a → sum_by (without h n) (range_with_len a len)
    ≡ sum_by h (range_with_len a len)
sum_by-without_outside h n a zero past = refl
sum_by-without_outside h n a (suc len) past =
    omega (
      arith,
      sum_by-cons h a (range_with_len (a + 1) len),
      sum_by-cons (without h n) a
          (range_with_len (a + 1) len),
      without-elsewhere h n a (λ e. omega (arith, e)),
      sum_by-without_outside h n (a + 1) len
          (omega (arith, past)),
    )

-- the sum of h over a range that has n is that without n, and h n
sum_by-without : (h : ℕ → ℕ) (n a len : ℕ) → a ≤ n → n < a + len → sum_by h (range_with_len a len)
    ≡ sum_by (without h n)
    (range_with_len a len) + h n
sum_by-without h n a zero from below = absurd (omega arith)
sum_by-without h n a (suc len) from below = dite (ℕ_discrete a n)
    (λ e. omega (
      arith,
      sum_by-cons h a (range_with_len (a + 1) len),
      sum_by-cons (without h n) a
          (range_with_len (a + 1) len),
      ap h e,
      ap (without h n) e,
      without-here h n,
      sum_by-without_outside h n (a + 1) len
          (omega (arith, e)),
    ))
    (λ ne. omega (
      arith,
      sum_by-cons h a (range_with_len (a + 1) len),
      sum_by-cons (without h n) a
          (range_with_len (a + 1) len),
      without-elsewhere h n a ne,
      sum_by-without h n (a + 1) len (omega (arith, from, ne))
          (omega (arith, below)),
    ))

-- a sum over the numbers that a test chooses is the sum over all, with 0 for the others
sum_by-filter : (g : ℕ → ℕ) (test : ℕ → Bool) (xs : List ℕ) → sum_by g (filter test xs)
    ≡ sum_by (λ k. cond (test k) (g k) 0) xs
sum_by-filter g test [] = refl
sum_by-filter g test (x ∷ xs) = by_test (test x) refl (sum_by-filter g test xs)
  where
    by_test : (b : Bool) → test x ≡ b → sum_by g (filter test xs) ≡ sum_by (λ k. cond (test k) (g k) 0) xs
        → sum_by g (cond (test x) (x ∷ filter test xs) (filter test xs)) ≡ sum_by (λ k. cond (test k) (g k) 0) (x ∷ xs)
    by_test true e rest =
        let taken : sum_by g (cond (test x) (x ∷ filter test xs) (filter test xs)) ≡ sum_by g (x ∷ filter test xs) = ap
        (λ c. sum_by g (cond c (x ∷ filter test xs) (filter test xs))) e in
        let one : cond (test x) (g x) 0 ≡ g x = ap (λ c. cond c (g x) 0) e in
        omega (arith, taken, one, sum_by-cons g x (filter test xs), sum_by-cons (λ k. cond (test k) (g k) 0) x xs, rest)
    by_test false e rest =
        let left : sum_by g (cond (test x) (x ∷ filter test xs) (filter test xs)) ≡ sum_by g (filter test xs) = ap
        (λ c. sum_by g (cond c (x ∷ filter test xs) (filter test xs))) e in
        let none : cond (test x) (g x) 0 ≡ 0 = ap (λ c. cond c (g x) 0) e in
        omega (arith, left, none, sum_by-cons (λ k. cond (test k) (g k) 0) x xs, rest)

-- sums over a list are equal if their terms are
sum_by-agree : {A : Type 0} (f g : A → ℕ) (xs : List A) → ((i : ℕ) (x : A) → slice_get xs i ≡ Some x → f x ≡ g x)
    → sum_by f xs ≡ sum_by g xs
sum_by-agree f g [] same = refl
sum_by-agree f g (x ∷ xs) same = omega (
  arith,
  sum_by-cons f x xs,
  sum_by-cons g x xs,
  same 0 x refl,
  sum_by-agree f g xs
      (λ i. same (suc i)),
)

module _ {P : Type 0} (place : P → ℕ) (count : ℕ) (placed : (p : P) → place p < count) where
  -- memories at different places: the sum of h over their places is at most that over all places
  pub sum_by-distinct_places : (h : ℕ → ℕ) (ms : List P) → AreDistinct place ms
      → sum_by (λ m. h (place m)) ms ≤ sum_by h
      (range_with_len 0 count)
  sum_by-distinct_places h [] apart = omega arith
  sum_by-distinct_places h (m ∷ ms) apart =
      let others : sum_by (λ p. h (place p)) ms ≡ sum_by (λ p. without h (place m) (place p)) ms = sum_by-agree
      (λ p. h (place p)) (λ p. without h (place m) (place p)) ms
      (λ i p e. sym (without-elsewhere h (place m) (place p)
      (λ same. omega (arith, apart (suc i) 0 p m e refl same)))) in
      let rest = sum_by-distinct_places (without h (place m)) ms (λ i j p q a b same. let e =
      apart (suc i) (suc j) p q a b same in
      omega (arith, e)) in
      omega (
        arith,
        sum_by-cons (λ p. h (place p)) m ms,
        others,
        rest,
        sum_by-without h (place m) 0 count (omega arith)
            (omega (arith, placed m)),
      )

-- a sum of f over the values of g is the sum of f after g
sum_by-map : {A B : Type 0} (f : B → ℕ) (g : A → B) (xs : List A) → sum_by f (map g xs) ≡ sum_by (λ x. f (g x)) xs
sum_by-map f g [] = refl
sum_by-map f g (x ∷ xs) =
    omega (arith, sum_by-cons f (g x) (map g xs), sum_by-cons (λ y. f (g y)) x xs, sum_by-map f g xs)

module _ {P : Type 0} (next : P → Levels → Levels → List Change → Next P) (count : ℕ) (place : P → ℕ) (nth : ℕ → P)
    (placed : (p : P) → place p < count) (found : (p : P) → nth (place p) ≡ p) where
  -- with one step s more, `shown_after` is one term more, `shown_by` of s
  shown_after-next : (x y : List Step) (s : Step) (o : Levels)
      → shown_after (run_of next) count place nth o x (y ++ s ∷ [])
      ≡ shown_after (run_of next) count place nth o x y + shown_by (run_of next) count place nth o (x ++ y) s
  shown_after-next x [] s o = omega (arith, ap (λ z. shown_by (run_of next) count place nth o z s) (sym (append-nil x)))
  shown_after-next x (t ∷ y) s o = omega (
    arith,
    shown_after-next (x ++ t ∷ []) y s o,
    ap (λ z. shown_by (run_of next) count place nth o
        z s) (append_assoc x (t ∷ []) y),
  )

  -- with one step s more, `shown_apart` is more by `shown_by` of s
  pub shown_apart-next : (x : List Step) (s : Step) (o : Levels)
      → shown_apart (run_of next) count place nth o (x ++ s ∷ [])
      ≡ shown_apart (run_of next) count place nth o x + shown_by (run_of next) count place nth o x s
  shown_apart-next x s o = shown_after-next [] x s o

  -- the place of a memory that x leaves for some entering memory q is left
  is_left-leaving : (o : Levels) (x : List Step) (p q : P) → (run_of next q o x).leaving ≡ p
      → is_left (run_of next) count place
      nth o x (place p) ≡ true
  is_left-leaving o x p q leaves =
      let below : place q < length (range_with_len 0 count) = rw length-range_with_len (placed q) in
      let at : get_or (range_with_len 0 count) (place q) 0 ≡ place q = omega (
        arith,
        get_or-range_with_len 0 count
            (place q) 0 (placed q),
      ) in
      list_any_at (λ j. place (run_of next (nth j) o x).leaving == place p) (range_with_len 0 count) (place q) 0 below
      (ap (λ j. place (run_of next (nth j) o x).leaving == place p) at
      ∙ ap (λ m. place (run_of next m o x).leaving == place p) (found q) ∙ eq-eqb (place (run_of next q o x).leaving)
      (place p) (ap place leaves))

  -- how many marks a step shows from the memory p
  abbrev pub marks_added : Levels → Levels → List Change → P → ℕ
  marks_added before after cs p = length (kinds_of (next p before after cs).shown)

  module _ (before after : Levels) (s : Step) (o : Levels) (x : List Step) (b : before ≡ levels_after o x)
      (a : after ≡ changed before s.changes) where
    -- the run over the step s alone shows as many marks as the step does
    length-marks_of_step : (p : P) → length (run_of next p (levels_after o x) (s ∷ [])).marks
        ≡ marks_added before after s.changes p
    length-marks_of_step p =
        let from = levels_after o x in
        let shown = kinds_of (next p from (changed from s.changes) s.changes).shown in
        ap length (append-nil (map (mark_at 1) shown)) ∙ length-map shown (mark_at 1)
        ∙ ap (λ l. marks_added l (changed l s.changes) s.changes p) (sym b)
        ∙ ap (λ l. marks_added before l s.changes p) (sym a)

    -- rows in different memories that x may leave add no more marks with s than `shown_by` counts
    sum_by-marks_added : (rows : List (Outcome P)) → AreDistinct place (memories_in rows)
        → ((i : ℕ) (p : P) → slice_get (memories_in rows) i ≡ Some p → (q : P) × ((run_of next q o x).leaving ≡ p))
        → sum_by (λ r. marks_added before after s.changes r.leaving) rows ≤ shown_by (run_of next) count place nth o x s
    sum_by-marks_added rows apart left =
        let test = is_left (run_of next) count place nth o x in
        let g = λ (k : ℕ). length (run_of next (nth k) (levels_after o x) (s ∷ [])).marks in
        let h = λ (k : ℕ). cond (test k) (g k) 0 in
        let f = marks_added before after s.changes in
        let term : (p : P) (q : P) → (run_of next q o x).leaving ≡ p → h (place p) ≡ f p =
        λ p q e. ap (λ c. cond c (g (place p)) 0) (is_left-leaving o x p q e)
        ∙ ap (λ m. length (run_of next m (levels_after o x) (s ∷ [])).marks) (found p) ∙ length-marks_of_step p in
        let each : sum_by f (memories_in rows) ≡ sum_by (λ m. h (place m)) (memories_in rows) =
        sum_by-agree f (λ m. h (place m)) (memories_in rows) (λ i p e. let l = left i p e in sym (term p l.0 l.1)) in
        let few = sum_by-distinct_places place count placed h (memories_in rows) apart in
        let moved : sum_by (λ r. f r.leaving) rows ≡ sum_by f (memories_in rows) = sym
        (sum_by-map f (λ (r : Outcome P). r.leaving) rows) in
        let chosen : shown_by (run_of next) count place nth o x s ≡ sum_by h (range_with_len 0 count) = sum_by-filter g
        test (range_with_len 0 count) in
        omega (arith, moved, each, few, chosen)

    -- a step adds its marks to those of a row
    row_marks-advanced : (n time : ℕ) (r : Outcome P) → row_marks (advanced next before after s.changes n time r)
        ≡ row_marks r + marks_added before after s.changes r.leaving
    row_marks-advanced n time r =
        let shown = kinds_of (next r.leaving before after s.changes).shown in
        length-append r.marks (map (mark_at n) shown) ∙ ap (λ k. length r.marks + k) (length-map shown (mark_at n))

    -- a step adds its marks to those of all rows
    sum_by-advanced : (n time : ℕ) (rows : List (Outcome P)) → sum_by row_marks
        (map (advanced next before after s.changes n time) rows) ≡ sum_by row_marks rows + sum_by
        (λ r. marks_added before after s.changes r.leaving) rows
    sum_by-advanced n time [] = refl
    sum_by-advanced n time (r ∷ rows) =
        let step = advanced next before after s.changes n time in
        omega (
          arith,
          sum_by-cons row_marks (step r) (map step rows),
          sum_by-cons row_marks r rows,
          sum_by-cons (λ r. marks_added before after s.changes r.leaving) r rows,
          row_marks-advanced n time r,
          sum_by-advanced n time
              rows,
        )

    -- if the rows' memories are left by x, those after the step are left by x and s
    leaving-advanced : (n time : ℕ) (rows : List (Outcome P))
        → ((i : ℕ) (p : P) → slice_get (memories_in rows) i ≡ Some p
        → (q : P) × ((run_of next q o x).leaving ≡ p))
        → (i : ℕ) (p : P) → slice_get (memories_in (map (advanced next before after s.changes n time) rows)) i ≡ Some p
        → (q : P) × ((run_of next q o (x ++ s ∷ [])).leaving ≡ p)
    leaving-advanced n time [] left i p e = absurd (no_value p e)
    leaving-advanced n time (r ∷ rows) left zero p e =
        let l = left 0 r.leaving refl in
        let here : (run_of next l.0 o (x ++ s ∷ [])).leaving ≡ p =
        ap (λ (w : Outcome P). w.leaving) (run_more next x s l.0 o before after b a)
        ∙ ap (λ m. (next m before after s.changes).memory) l.1 ∙ same_Some _ p e in
        (l.0, here)
    leaving-advanced n time (r ∷ rows) left (suc i) p e = leaving-advanced n time rows (λ j. left (suc j)) i p e

    -- rows that are advanced by a step, and then merged, keep apart
    pub KeepApart-advanced : (n time : ℕ) (ls ls' : List (List LinkValue)) (rows mid rows' : List (Outcome P))
        → mid ≡ map (advanced next before after s.changes n time) rows
        → AreDistinct place (memories_in rows') → AreAmong (memories_in rows') (memories_in mid) → marks_of ls' rows'
        ≡ marks_of ls mid
        → KeepApart (run_of next) count place nth ls rows o x → KeepApart (run_of next) count place nth ls' rows' o
        (x ++ s ∷ [])
    KeepApart-advanced n time ls ls' rows mid rows' stepped apart among marks g =
        record {
          apart = apart;
          left = λ i p e. let w = among i p e in
              leaving-advanced n time rows g.left w.0 p (ap (λ m. slice_get (memories_in m) w.0) (sym stepped) ∙ w.1);
          few =
              let now : marks_of ls' rows' ≡ marks_of ls (map (advanced next before after s.changes n time) rows)
              = marks ∙ ap (λ m. marks_of ls m) stepped in
              omega (
                arith,
                now,
                sum_by-advanced n time rows,
                sum_by-marks_added rows g.apart g.left,
                g.few,
                shown_apart-next x s o,
              );
        }

  -- rows keep apart over a step that changes no memory
  pub KeepApart-same_memories : (s : Step) (o : Levels) (x : List Step) (ls : List (List LinkValue))
      (rows : List (Outcome P))
      → ((p : P) → (run_of next p o (x ++ s ∷ [])).leaving ≡ (run_of next p o x).leaving)
      → KeepApart (run_of next) count place nth ls rows o x → KeepApart (run_of next) count place nth ls rows o
      (x ++ s ∷ [])
  KeepApart-same_memories s o x ls rows same g =
      record {
        apart = g.apart;
        left = λ i p e. let l = g.left i p e in (l.0, same l.0 ∙ l.1);
        few = omega (arith, g.few, shown_apart-next x s o);
      }

-- rows keep apart over a step without an observation
pub KeepApart-unobserved : {P S : Type 0} (observation : Levels → Levels → List Change → Option S) (next : P → Levels
    → Levels
    → S → Next P) (count : ℕ) (place : P → ℕ) (nth : ℕ → P) (placed : (p : P) → place p < count)
    (found : (p : P) → nth (place p) ≡ p)
    (before after : Levels) (s : Step) (o : Levels) (x : List Step) → before ≡ levels_after o x → after
    ≡ changed before s.changes → observation before after s.changes ≡ None → (ls : List (List LinkValue))
    (rows : List (Outcome P))
    → KeepApart (run_of (machine_step observation next)) count place nth ls rows o x
    → KeepApart (run_of (machine_step observation next)) count place nth ls rows o (x ++ s ∷ [])
KeepApart-unobserved observation next count place nth placed found before after s o x b a none ls rows g =
    KeepApart-same_memories (machine_step observation next) count place nth placed found s o x ls rows
    (λ p. ap (λ (r : Outcome _). r.leaving) (run_more (machine_step observation next) x s p o before after b a
    ∙ unobserved observation next before after s.changes (length x + 1) s.time
    (run_of (machine_step observation next) p o
    x) none))
    g

-- rows of no steps keep apart if their memories are different and they have no marks
pub KeepApart-fresh : {P : Type 0} (next : P → Levels → Levels → List Change → Next P) (count : ℕ) (place : P → ℕ)
    (nth : ℕ → P) (ls : List (List LinkValue)) (rows : List (Outcome P)) (o : Levels)
    → AreDistinct place (memories_in rows) → marks_of ls rows ≡ 0 → KeepApart (run_of next) count place nth ls rows o []
KeepApart-fresh next count place nth ls rows o apart none = record {
  apart = apart;
  left = λ i p e. (p, refl);
  few = omega (arith, none);
}
