-- Runs through nodes.
use Rattle.std.proofs.Common.{inl, inr, ◌≡◌, ℕ, suc, ◌+◌, ◌-◌, ◌<◌, ◌≤◌, false, eqb, List, []}
use Rattle.std.proofs.Common.{◌∷◌, ◌++◌}
use Rattle.std.proofs.Common.{length, map, Option, Some, None, refl, ap, sym, ◌∙◌, arith}
use Rattle.std.specs.Prelude.{◌⊎◌}
use Rattle.std.specs.Option.{option_map, option_or}
use Rattle.std.proofs.lemmas.Bool.{cases_order, eq-eqb, le-ltb, lt-ltb}
use Rattle.std.proofs.lemmas.Bool.Decides.{nat_tests}
use Rattle.std.proofs.lemmas.List.{map-append}
use Rattle.vme_part_format.specs.Tables.{NodeValue}
use Rattle.vme_part_format.specs.declared.wide.WideBreak.{WideBreak}
use Rattle.vme_part_format.specs.declared.wide.WideMark.{WideMark}
use Rattle.vme_part_tables.specs.Ways.{WideOutcome, ended_in, later_break, later_mark, later_outcome, run_from}
use Rattle.vme_part_tables.specs.Ways.{with_break_before, with_marks_before}
use Rattle.vme_part_tables.specs.Composed.{later_node}

other_number : (w m : ℕ) → m < w → eqb w m ≡ false
other_number w m h = grind (arith, nat_tests)

-- a way below m is a memory, in which the run ends
pub run_from_memory : (m : ℕ) (ns : List NodeValue) (w : ℕ) → w < m → run_from m ns w ≡ ended_in w
run_from_memory m [] w h = refl
run_from_memory m (n ∷ ns) w h = rw (lt-ltb w m h) refl

-- the way m continues with the first node
pub run_from_here : (m : ℕ) (n : NodeValue) (ns : List NodeValue)
    → run_from m (n ∷ ns) m ≡ with_marks_before n.marks (with_break_before n.first_break (run_from m ns n.next))
run_from_here m n ns = rw (le-ltb m m (omega arith), eq-eqb m m refl) refl

-- a way above m skips the first node
pub run_from_past : (m : ℕ) (n : NodeValue) (ns : List NodeValue) (w : ℕ) → m < w
    → run_from m (n ∷ ns) w ≡ run_from m ns (w - 1)
run_from_past m n ns w h = rw (le-ltb w m (omega arith), other_number w m h) refl

-- with the nodes fs put before the others, the way w + length fs has the outcome that w had
pub run_from_append : (m : ℕ) (fs ns : List NodeValue) (w : ℕ) → m ≤ w
    → run_from m (fs ++ ns) (w + length fs) ≡ run_from m ns w
run_from_append m [] ns w h = let e : w + 0 ≡ w = omega arith in ap (run_from m ns) e
run_from_append m (f ∷ fs) ns w h =
    let e : w + suc (length fs) - 1 ≡ w + length fs = omega arith in
    run_from_past m f (fs ++ ns) (w + suc (length fs)) (omega arith)
    ∙ (ap (run_from m (fs ++ ns)) e ∙ run_from_append m fs ns w h)

-- marks and a break put before an outcome, all of them `by` later, are the outcome with these, `by` later
pub later_outcome-with_both : (by : ℕ) (ms : List WideMark) (ev : Option WideBreak) (r : WideOutcome)
    → with_marks_before (map (later_mark by) ms)
    (with_break_before (option_map (later_break by) ev) (later_outcome by r))
    ≡ later_outcome by (with_marks_before ms (with_break_before ev r))
later_outcome-with_both by ms None r = rw map-append refl
later_outcome-with_both by ms (Some b) r = rw map-append refl

-- the outcome of a run through nodes that are `by` later is `by` later
pub run_from_later : (m by : ℕ) (ns : List NodeValue) (w : ℕ)
    → run_from m (map (later_node by) ns) w ≡ later_outcome by (run_from m ns w)
run_from_later m by [] w = refl
run_from_later m by (n ∷ ns) w = by_order (run_from_later m by ns) w (cases_order w m)
  where
    by_order : ((w : ℕ) → run_from m (map (later_node by) ns) w ≡ later_outcome by (run_from m ns w)) → (w : ℕ)
        → ((w ≡ m) ⊎ ((w < m) ⊎ (m < w)))
        → run_from m (later_node by n ∷ map (later_node by) ns) w ≡ later_outcome by (run_from m (n ∷ ns) w)
    by_order more w (inl e) =
        rw e (run_from_here m (later_node by n) (map (later_node by) ns)
        ∙ (ap (λ r. with_marks_before (map (later_mark by) n.marks)
        (with_break_before (option_map (later_break by) n.first_break)
        r)) (more n.next)
        ∙ (later_outcome-with_both by n.marks n.first_break (run_from m ns n.next)
        ∙ sym (ap (later_outcome by) (run_from_here m n ns)))))
    by_order more w (inr (inl h)) =
        run_from_memory m (later_node by n ∷ map (later_node by) ns) w h
        ∙ sym (ap (later_outcome by) (run_from_memory m (n ∷ ns) w h))
    by_order more w (inr (inr h)) =
        run_from_past m (later_node by n) (map (later_node by) ns) w h
        ∙ (more (w - 1) ∙ sym (ap (later_outcome by) (run_from_past m n ns w h)))

-- `with_break_before` of two breaks in turn is that of the first of the two
pub with_two_breaks_before : (a b : Option WideBreak) (r : WideOutcome)
    → with_break_before (option_or a b) r ≡ with_break_before a (with_break_before b r)
with_two_breaks_before None b r = refl
with_two_breaks_before (Some x) b r = refl
