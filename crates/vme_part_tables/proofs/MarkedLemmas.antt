-- The outcomes through nodes that lie in the order in which they are made, and the table that is made of them.
use Rattle.std.proofs.Common.{inl, inr, ◌≡◌, ℕ, zero, suc, ◌+◌, ◌-◌, ◌^◌, ◌<◌, ◌≤◌, get_or, Bool, true, List, []}
use Rattle.std.proofs.Common.{◌∷◌, ◌++◌, length, map, reverse}
use Rattle.std.proofs.Common.{Option, Some, None, refl, ap, sym, subst, ◌∙◌, arith, length-append, append-nil}
use Rattle.std.proofs.Common.{eqb}
use Rattle.std.specs.Prelude.{◌⊎◌, All, slice_get}
use Rattle.std.specs.Option.{option_map, option_map_or, option_or}
use Rattle.std.proofs.lemmas.Bool.{lt-ltb, le-ltb, cases_lt, eqb-true}
use Rattle.std.proofs.lemmas.List.Elements.{All-append}
use Rattle.std.proofs.lemmas.List.{length-map, length-reverse, map-append, reverse-append}
use Rattle.std.proofs.lemmas.Option.{get_or_from_slice_get, slice_get_cases}
use Rattle.vme_trace.specs.declared.verdict.Break.{Break}
use Rattle.vme_trace.proofs.ListLaws.{option_map-option_or, option_or-none}
use Rattle.vme_monitor.specs.Outcome.{Outcome}
use Rattle.vme_monitor.specs.declared.mark.Mark.{Mark}
use Rattle.vme_part_format.specs.Tables.{NodeValue, TableValue, node_value}
use Rattle.vme_part_format.specs.declared.table.TableEntry.{TableEntry}
use Rattle.vme_part_format.specs.declared.table.TableNode.{TableNode}
use Rattle.vme_part_format.specs.declared.wide.WideBreak.{WideBreak}
use Rattle.vme_part_format.specs.declared.wide.WideMark.{WideMark}
use Rattle.vme_part_tables.specs.Ways.{HasWays, WideOutcome, ended_in, entry_outcome, outcome_in, run_from}
use Rattle.vme_part_tables.specs.Ways.{with_break_before, with_marks_before}
use Rattle.vme_part_tables.specs.Runs.{AgreesWithRun, AgreesWithRuns, break_of, mark_of}
use Rattle.vme_part_tables.specs.Marked.{AddsBefore, AgreeBelow, AreMade, MadeGoOn, entry_made, if_needed, is_needed}
use Rattle.vme_part_tables.specs.Marked.{made_outcome, onward_at, onward_outcome, reversed_way}
use Rattle.vme_part_tables.specs.declared.marked.Onward.{Onward}
use Rattle.vme_part_tables.proofs.Walking.{run_from_here, run_from_memory, run_from_past, with_two_breaks_before}

-- a list with one more element at its end, in reverse, begins with that element
reverse-push : (xs : List NodeValue) (n : NodeValue) → reverse (xs ++ n ∷ []) ≡ n ∷ reverse xs
reverse-push xs n = reverse-append xs (n ∷ [])

-- there are m memories
module _ (m : ℕ) where
  -- a memory stays the same way
  reversed_way-memory : (k w : ℕ) → w < m → reversed_way m k w ≡ w
  reversed_way-memory k w h = rw (lt-ltb w m h) refl

  -- the way to a node is counted from the other end
  reversed_way-node : (k w : ℕ) → m ≤ w → reversed_way m k w ≡ m + (k - 1 - (w - m))
  reversed_way-node k w h = rw (le-ltb w m h) refl

  -- a way within the nodes stays within them
  pub reversed_way-bound : (k w : ℕ) → w < m + k → reversed_way m k w < m + k
  reversed_way-bound k w h = by_place (cases_lt w m)
    where
      by_place : ((w < m) ⊎ (m ≤ w)) → reversed_way m k w < m + k
      by_place (inl i) = rw (reversed_way-memory k w i) h
      by_place (inr i) = rw (reversed_way-node k w i) (omega arith)

  -- one more node doesn't change the outcome from the ways there were before
  pub made_outcome-before_new : (made : List NodeValue) (n : NodeValue) (ev : Option WideBreak) (w : ℕ)
      → w < m + length made
      → made_outcome m (made ++ n ∷ []) ev w ≡ made_outcome m made ev w
  made_outcome-before_new made n ev w h = by_place (cases_lt w m)
    where
      count : length (made ++ n ∷ []) ≡ length made + 1
      count = length-append made (n ∷ [])

      by_place : ((w < m) ⊎ (m ≤ w)) → made_outcome m (made ++ n ∷ []) ev w ≡ made_outcome m made ev w
      by_place (inl i) =
          rw (
            reversed_way-memory (length (made ++ n ∷ [])) w i,
            reversed_way-memory (length made) w i,
            run_from_memory m (reverse (made ++ n ∷ [])) w i,
            run_from_memory m (reverse made) w i,
          ) refl
      by_place (inr i) =
          let to : reversed_way m (length (made ++ n ∷ [])) w ≡ reversed_way m (length made) w + 1
          = reversed_way-node (length (made ++ n ∷ [])) w i
          ∙ (ap (λ k. m + (k - 1 - (w - m))) count ∙ rw (reversed_way-node (length made) w i) (omega arith)) in
          let past : m < reversed_way m (length made) w + 1 = rw (reversed_way-node (length made) w i) (omega arith) in
          let e : reversed_way m (length made) w + 1 - 1 ≡ reversed_way m (length made) w = omega arith in
          rw (to, reverse-push made n, run_from_past m n (reverse made) (reversed_way m (length made) w + 1) past, e)
          refl

  -- the outcome from the new node is its marks and its break, and then the outcome from its `next`
  pub made_outcome-new_node : (made : List NodeValue) (n : NodeValue)
      → made_outcome m (made ++ n ∷ []) None (m + length made)
      ≡ with_marks_before n.marks (with_break_before n.first_break (run_from m (reverse made) n.next))
  made_outcome-new_node made n =
      let count : length (made ++ n ∷ []) ≡ length made + 1 = length-append made (n ∷ []) in
      let to : reversed_way m (length (made ++ n ∷ [])) (m + length made) ≡ m
      = reversed_way-node (length (made ++ n ∷ [])) (m + length made) (omega arith)
      ∙ (ap (λ k. m + (k - 1 - (m + length made - m))) count ∙ omega arith) in
      rw (to, reverse-push made n, run_from_here m n (reverse made)) refl

  -- if made nodes continue with memories or with nodes made before, they do with one more node that does so
  pub MadeGoOn-push : (made : List NodeValue) (n : NodeValue) → MadeGoOn m made → n.next < m + length made
      → MadeGoOn m (made ++ n ∷ [])
  MadeGoOn-push made n g h = rw (reverse-push made n) (rw (length-reverse made) h, g)

-- `with_break_before` adds a break before the outcome w
pub AddsBefore-break : (ev : Option WideBreak) (w : WideOutcome) → AddsBefore (option_map break_of ev) [] w
    (with_break_before ev w)
AddsBefore-break ev w =
    record { leaving = refl; first_break = option_map-option_or break_of ev w.first_break; marks = refl }

-- marks, and before them a break, are added before the outcome w
pub AddsBefore-marks : (ev : Option WideBreak) (ws : List WideMark) (ms : List Mark) (w : WideOutcome) → map mark_of ws
    ≡ ms
    → AddsBefore (option_map break_of ev) ms w (with_marks_before ws (with_break_before ev w))
AddsBefore-marks ev ws ms w e =
    record {
      leaving = refl;
      first_break = option_map-option_or break_of ev w.first_break;
      marks = map-append mark_of ws w.marks ∙ ap (λ k. k ++ map mark_of w.marks) e;
    }

-- without marks, the break alone is added before the outcome from w
pub AddsBefore-without_marks : (m : ℕ) (made : List NodeValue) (ev on : Option WideBreak) (w : ℕ)
    → AddsBefore (option_map break_of ev) [] (made_outcome m made on w) (made_outcome m made (option_or ev on) w)
AddsBefore-without_marks m made ev on w =
    subst (AddsBefore (option_map break_of ev) [] (made_outcome m made on w))
    (sym (with_two_breaks_before ev on (run_from m (reverse made) (reversed_way m (length made) w))))
    (AddsBefore-break ev (made_outcome m made on w))

-- with marks, the new node adds the break and the marks before the outcome from w
pub AddsBefore-new_node : (m : ℕ) (made : List NodeValue) (n : NodeValue) (ev on : Option WideBreak) (w : ℕ)
    (ms : List Mark)
    → n.first_break ≡ option_or ev on → n.next ≡ reversed_way m (length made) w → map mark_of n.marks ≡ ms
    → AddsBefore (option_map break_of ev) ms (made_outcome m made on w)
    (made_outcome m (made ++ n ∷ []) None (m + length made))
AddsBefore-new_node m made n ev on w ms first_break next marks =
    let rest = run_from m (reverse made) in
    let same : made_outcome m (made ++ n ∷ []) None (m + length made)
    ≡ with_marks_before n.marks (with_break_before ev (made_outcome m made on w)) =
    made_outcome-new_node m made n
    ∙ (ap (λ k. with_marks_before n.marks (with_break_before k (rest n.next))) first_break
    ∙ (ap (λ k. with_marks_before n.marks (with_break_before (option_or ev on) (rest k))) next
    ∙ ap (with_marks_before n.marks) (with_two_breaks_before ev on (rest (reversed_way m (length made) w))))) in
    subst (AddsBefore (option_map break_of ev) ms (made_outcome m made on w)) (sym same)
    (AddsBefore-marks ev n.marks ms (made_outcome m made on w) marks)

-- an outcome r with the break `ev` and the marks ms that ends in the memory p agrees with this run
pub AgreesWithRun-of_outcome : {P : Type 0} (place : P → ℕ) (m : ℕ) (made : List NodeValue) (p : P) (ev : Option Break)
    (ms : List Mark)
    (r : WideOutcome) → place p < m → AddsBefore ev ms (made_outcome m made None (place p)) r
    → AgreesWithRun true place r (record { leaving = p; first_break = ev; marks = ms })
AgreesWithRun-of_outcome place m made p ev ms r h s =
    let ends : made_outcome m made None (place p) ≡ ended_in (place p) =
    ap (λ k. with_break_before None (run_from m (reverse made) k)) (reversed_way-memory m (length made) (place p) h)
    ∙ ap (with_break_before None) (run_from_memory m (reverse made) (place p) h) in
    let s = subst (λ w. AddsBefore ev ms w r) ends s in
    record { leaving = s.leaving; first_break = s.first_break ∙ option_or-none ev; marks = s.marks ∙ append-nil ms }

-- one more item doesn't change the items before it
pub onward_at-before_new : (os : List Onward) (o : Onward) (k : ℕ) → k < length os
    → onward_at (os ++ o ∷ []) k ≡ onward_at os k
onward_at-before_new [] o k h = absurd (omega arith)
onward_at-before_new (x ∷ xs) o zero h = refl
onward_at-before_new (x ∷ xs) o (suc k) h = onward_at-before_new xs o k (omega arith)

-- the new item is the last one
pub onward_at-new : (os : List Onward) (o : Onward) (k : ℕ) → k ≡ length os → onward_at (os ++ o ∷ []) k ≡ o
onward_at-new [] o zero e = refl
onward_at-new [] o (suc k) e = absurd (omega arith)
onward_at-new (x ∷ xs) o zero e = absurd (omega arith)
onward_at-new (x ∷ xs) o (suc k) e = onward_at-new xs o k (omega arith)

-- a function may be applied before or after a list is reversed
pub map-reverse : {A B : Type 0} (f : A → B) (xs : List A) → map f (reverse xs) ≡ reverse (map f xs)
map-reverse f [] = refl
map-reverse f (x ∷ xs) =
    ap (map f) (reverse-append (x ∷ []) xs)
    ∙ (map-append f (reverse xs) (x ∷ [])
    ∙ (ap (λ k. k ++ f x ∷ []) (map-reverse f xs) ∙ sym (reverse-append (f x ∷ []) (map f xs))))

-- the node n was pushed to the nodes `old`
module _ (m : ℕ) (old new : List TableNode) (n : TableNode) (pushed : new ≡ old ++ n ∷ []) where
  -- the values are those of the old nodes, and that of n
  map-node_value_push : map node_value new ≡ map node_value old ++ node_value n ∷ []
  map-node_value_push = ap (map node_value) pushed ∙ map-append node_value old (n ∷ [])

  -- the outcomes from the ways there were before stay the same
  pub made_outcome-old_ways : (ev : Option WideBreak) (w : ℕ) → w < m + length old
      → made_outcome m (map node_value new) ev w ≡ made_outcome m (map node_value old) ev w
  made_outcome-old_ways ev w h =
      ap (λ l. made_outcome m l ev w) map-node_value_push
      ∙ made_outcome-before_new m (map node_value old) (node_value n) ev w (rw (length-map old node_value) h)

  -- the nodes continue with memories or with nodes made before, if the old ones do, and n does
  pub MadeGoOn-pushed : MadeGoOn m (map node_value old) → n.next < m + length old → MadeGoOn m (map node_value new)
  MadeGoOn-pushed g h =
      subst (MadeGoOn m) (sym map-node_value_push)
      (MadeGoOn-push m (map node_value old) (node_value n) g (rw (length-map old node_value) h))

  -- the outcome from n is its break and its marks before the outcome from the way that it continues with
  pub AddsBefore-pushed : (ev on : Option WideBreak) (w k : ℕ) (ms : List Mark) → k ≡ m + length old
      → n.first_break ≡ option_or ev on → n.next ≡ reversed_way m (length old) w → map mark_of n.marks.items ≡ ms
      → AddsBefore (option_map break_of ev) ms (made_outcome m (map node_value old) on w)
      (made_outcome m (map node_value new) None k)
  AddsBefore-pushed ev on w k ms at first_break next marks =
      let many = length-map old node_value in
      let made = map node_value old in
      let to : made_outcome m (map node_value new) None k
      ≡ made_outcome m (made ++ node_value n ∷ []) None (m + length made) =
      ap (λ j. made_outcome m (map node_value new) None j) (at ∙ ap (λ j. m + j) (sym many))
      ∙ ap (λ l. made_outcome m l None (m + length made)) map-node_value_push in
      subst (AddsBefore (option_map break_of ev) ms (made_outcome m made on w)) (sym to)
      (AddsBefore-new_node m made (node_value n) ev on w ms first_break (next ∙ ap (λ j. reversed_way m j w) (sym many))
      marks)

-- the table of the nodes in `made`, with the entries es
module _ (m : ℕ) (made ns : List NodeValue) (onward : List Onward) (es : List TableEntry) (some : 0 < m)
    (few : m + length made < 2 ^ 32) (g : MadeGoOn m made) (ways : AreMade m made onward) (count : length es ≡ m)
    (entries : (k : ℕ) → k < m → slice_get es k ≡ Some (entry_made m (length made) (onward_at onward k)))
    (turn : ns ≡ reverse made) where
  -- this table
  abbrev table : TableValue
  table = record { entries = es; nodes = ns }

  -- each item continues with a memory or a made node
  onward_at-way_bound : (k : ℕ) → (onward_at onward k).way < m + length made
  onward_at-way_bound k = by_place (slice_get_cases onward k).1
    where
      by_place : ((x : Onward) × (k < length onward) × (slice_get onward k ≡ Some x) × (get_or onward k x ≡ x))
          ⊎ ((length onward ≤ k) × (slice_get onward k ≡ None)) → (onward_at onward k).way < m + length made
      by_place (inl there) =
          let e = there.2 in
          rw e (subst (λ (x : Onward). x.way < m + length made) there.3 (ways k there.0 there.1))
      by_place (inr past) = let e = past.1 in rw e (omega arith)

  -- the outcome of the table from the memory k is that of the item k
  pub outcome_in-made_table : (k : ℕ) → k < m → outcome_in table k ≡ onward_outcome m made (onward_at onward k)
  outcome_in-made_table k h =
      let o = onward_at onward k in
      let w = reversed_way m (length made) o.way in
      ap (λ e. option_map_or (entry_outcome table) e (ended_in k)) (entries k h)
      ∙ (ap (λ j. with_break_before o.first_break (run_from j ns w)) count
      ∙ ap (λ l. with_break_before o.first_break (run_from m l w)) turn)

  -- each run of the table ends in a memory
  pub HasWays-made_table : HasWays table
  HasWays-made_table =
      let nodes : length ns ≡ length made = ap length turn ∙ length-reverse made in
      record {
        few = rw (count, nodes) few;
        entries = λ k d h.
            let below : k < m = omega arith in
            let e = get_or_from_slice_get es k (entry_made m (length made) (onward_at onward k)) d (entries k below) in
            let next = ap (λ (x : TableEntry). x.next) e in
            let low = reversed_way-bound m (length made) (onward_at onward k).way (onward_at-way_bound k) in
            rw (next, count, nodes) low;
        nodes = rw (count, turn) g;
      }

-- marks whose number is 0 are none
pub length_zero-no_marks : (ms : List Mark) → eqb (length ms) 0 ≡ true → ms ≡ []
length_zero-no_marks [] e = refl
length_zero-no_marks (m ∷ ms) e = let none = eqb-true (length (m ∷ ms)) 0 e in absurd (omega arith)

-- what the only element of a list has, all have
All-one : (P : Onward → Type 0) (o : Onward) → P o → All P (o ∷ [])
All-one P o p zero d h = p
All-one P o p (suc k) d h = absurd (omega arith)

-- `AreMade` holds with one more item
module _ (m : ℕ) (first new : List TableNode) (os ps : List Onward) (o : Onward) (pushed : ps ≡ os ++ o ∷ [])
    (ways : AreMade m (map node_value first) os) (more : length first ≤ length new) (way : o.way < m + length new) where
  -- each item is a way to a memory or a made node, with one more item that is
  pub AreMade-push : AreMade m (map node_value new) ps
  AreMade-push =
      let P : Onward → Type 0 = λ x. x.way < m + length (map node_value new) in
      let a = length-map first node_value in
      let b = length-map new node_value in
      subst (All P) (sym pushed)
      (All-append P os (o ∷ []) (λ k d h. let low = ways k d h in omega (arith, low, a, b, more))
      (All-one P o (omega (arith, b, way))))

-- the way of an item k below the length is below m + length made
pub onward_at-way_within : (m : ℕ) (made : List NodeValue) (os : List Onward) (k : ℕ) → AreMade m made os
    → k < length os
    → (onward_at os k).way < m + length made
onward_at-way_within m made os k ways h = by_place (slice_get_cases os k).1
  where
    by_place : ((x : Onward) × (k < length os) × (slice_get os k ≡ Some x) × (get_or os k x ≡ x))
        ⊎ ((length os ≤ k) × (slice_get os k ≡ None)) → (onward_at os k).way < m + length made
    by_place (inl there) =
        let e = there.2 in
        rw e (subst (λ (x : Onward). x.way < m + length made) there.3 (ways k there.0 there.1))
    by_place (inr past) = absurd (omega arith)

-- the outcomes from the ways to memories and to the nodes `first` stay the same with the nodes `new`
abbrev pub OutcomesStay : ℕ → List TableNode → List TableNode → Type 0
OutcomesStay m first new =
    (ev : Option WideBreak) (w : ℕ) → w < m + length first
    → made_outcome m (map node_value new) ev w ≡ made_outcome m (map node_value first) ev w

-- the loop invariant holds after one more memory, with the number i
pub AgreeBelow-one_more : {P : Type 0} (place : P → ℕ) (m : ℕ) (first new : List TableNode) (os ps : List Onward)
    (o : Onward)
    (says : ℕ → Outcome P) (i : ℕ) → ps ≡ os ++ o ∷ [] → length os ≡ i → AreMade m (map node_value first) os
    → OutcomesStay m first new → AgreesWithRun true place (onward_outcome m (map node_value new) o) (says i)
    → AgreeBelow place m (map node_value first) os i says → AgreeBelow place m (map node_value new) ps (i + 1) says
AgreeBelow-one_more place m first new os ps o says i pushed count ways stays here below k h = by_place (cases_lt k i)
  where
    by_place : ((k < i) ⊎ (i ≤ k)) → AgreesWithRun true place (onward_outcome m (map node_value new) (onward_at ps k))
        (says k)
    by_place (inl j) =
        let inside : k < length os = omega arith in
        let many = length-map first node_value in
        let made = onward_at-way_within m (map node_value first) os k ways inside in
        let at : onward_at ps k ≡ onward_at os k
        = ap (λ (x : List Onward). onward_at x k) pushed ∙ onward_at-before_new os o k inside in
        let still = stays (onward_at os k).first_break (onward_at os k).way (omega (arith, made, many)) in
        subst (λ w. AgreesWithRun true place w (says k))
        (sym (ap (onward_outcome m (map node_value new)) at ∙ still)) (below k j)
    by_place (inr j) =
        let same : i ≡ k = omega arith in
        let last : k ≡ length os = omega arith in
        let at : onward_at ps k ≡ o = ap (λ (x : List Onward). onward_at x k) pushed ∙ onward_at-new os o k last in
        subst (λ w. AgreesWithRun true place w (says k)) (sym (ap (onward_outcome m (map node_value new)) at))
        (subst (λ j. AgreesWithRun true place (onward_outcome m (map node_value new) o) (says j)) same here)

-- if each item of `onward` gives the run of its memory, the table agrees with the runs of all memories
pub AgreesWithRuns-of_onward : {P : Type 0} (place : P → ℕ) (nth : ℕ → P) (count : ℕ) (made : List NodeValue)
    (onward : List Onward) (needs : List Bool) (says : P → Outcome P) (t : TableValue) → ((p : P) → place p < count)
    → ((p : P) → nth (place p) ≡ p)
    → AgreeBelow place count made onward count (λ k. if_needed (is_needed needs k) (says (nth k)))
    → ((k : ℕ) → k < count → outcome_in t k ≡ onward_outcome count made (onward_at onward k)) → length t.entries ≡ count
    → HasWays t → AgreesWithRuns true count place t (λ p. if_needed (is_needed needs (place p)) (says p))
AgreesWithRuns-of_onward place nth count made onward needs says t placed found say told many ways =
    record {
      counted = many;
      ways = ways;
      agrees = λ p.
          let b = is_needed needs (place p) in
          subst (λ w. AgreesWithRun true place w (if_needed b (says p))) (sym (told (place p) (placed p)))
          (subst (λ q. AgreesWithRun true place (onward_outcome count made (onward_at onward (place p)))
          (if_needed b (says q)))
          (found p) (say (place p) (placed p)));
    }
