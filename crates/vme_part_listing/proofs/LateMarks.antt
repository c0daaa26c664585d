-- Marks at instants over 32 bits: a late mark of one monitor is one of all together.
use Rattle.std.proofs.Common.{◌≡◌, inl, inr, ◌<◌, ◌≤◌, ◌^◌, ◌⊎◌, Bool, true, false, List, [], ◌∷◌, ◌++◌, length, map}
use Rattle.std.proofs.Common.{cond, get_or, refl, ap, sym, subst, ◌∙◌, arith, ℕ}
use Rattle.std.specs.Prelude.{Contains}
use Rattle.std.proofs.lemmas.List.{get_or-map, length-map}
use Rattle.std.proofs.lemmas.List.Elements.{Contains-append_cases, Contains-append_left, Contains-append_right}
use Rattle.vme_monitor.specs.BothMonitors.{front, mark_lt, merged, rest}
use Rattle.vme_monitor.specs.declared.mark.Mark.{Mark}
use Rattle.vme_part_format.specs.declared.wide.WideMark.{WideMark}
use Rattle.vme_part_tables.specs.Runs.{mark_of}
use Rattle.vme_part_listing.specs.Late.{HasLateMark}
use Rattle.vme_part_listing.specs.Marks.{marks_of_runs}
use Rattle.vme_part_listing.specs.declared.listing.MonitorRuns.{MonitorRuns}

-- the marks before `a` and those after it are all
front-append_rest : (a : Mark) (bs : List Mark) → front a bs ++ rest a bs ≡ bs
front-append_rest a [] = refl
front-append_rest a (b ∷ bs) = chosen (mark_lt b a) (front-append_rest a bs)
  where
    chosen : (t : Bool) → front a bs ++ rest a bs ≡ bs
        → cond t (b ∷ front a bs) [] ++ cond t (rest a bs) (b ∷ bs) ≡ b ∷ bs
    chosen true e = ap (λ (l : List Mark). b ∷ l) e
    chosen false e = refl

-- the marks of two lists together contain those of the first
Contains-merged_first : (m : Mark) (xs bs : List Mark) → Contains xs m → Contains (merged xs bs) m
Contains-merged_first m [] bs h = absurd (omega (arith, h.1))
Contains-merged_first m (a ∷ xs) bs h =
    by_place (Contains-merged_first m xs (rest a bs)) (Contains-append_cases (a ∷ []) xs m h)
  where
    by_place : (Contains xs m → Contains (merged xs (rest a bs)) m) → (Contains (a ∷ []) m ⊎ Contains xs m)
        → Contains (front a bs ++ a ∷ merged xs (rest a bs)) m
    by_place more (inl k) =
        Contains-append_right (front a bs) (a ∷ merged xs (rest a bs)) m
        (Contains-append_left (a ∷ []) (merged xs (rest a bs)) m k)
    by_place more (inr k) =
        Contains-append_right (front a bs) (a ∷ merged xs (rest a bs)) m
        (Contains-append_right (a ∷ []) (merged xs (rest a bs)) m (more k))

-- the marks of two lists together contain those of the second
Contains-merged_second : (m : Mark) (xs bs : List Mark) → Contains bs m → Contains (merged xs bs) m
Contains-merged_second m [] bs h = h
Contains-merged_second m (a ∷ xs) bs h =
    by_place (Contains-merged_second m xs (rest a bs))
    (Contains-append_cases (front a bs) (rest a bs) m
    (subst (λ (ms : List Mark). Contains ms m) (sym (front-append_rest a bs)) h))
  where
    by_place : (Contains (rest a bs) m → Contains (merged xs (rest a bs)) m)
        → (Contains (front a bs) m ⊎ Contains (rest a bs) m) → Contains (front a bs ++ a ∷ merged xs (rest a bs)) m
    by_place more (inl k) = Contains-append_left (front a bs) (a ∷ merged xs (rest a bs)) m k
    by_place more (inr k) =
        Contains-append_right (front a bs) (a ∷ merged xs (rest a bs)) m
        (Contains-append_right (a ∷ []) (merged xs (rest a bs)) m (more k))

-- a late mark of the first of two lists is one of both together
HasLateMark-merged_first : (xs bs : List Mark) → HasLateMark xs → HasLateMark (merged xs bs)
HasLateMark-merged_first xs bs late = (late.0, Contains-merged_first late.0 xs bs late.1, late.2)

-- a late mark of the second of two lists is one of both together
HasLateMark-merged_second : (xs bs : List Mark) → HasLateMark bs → HasLateMark (merged xs bs)
HasLateMark-merged_second xs bs late = (late.0, Contains-merged_second late.0 xs bs late.1, late.2)

-- a late mark of the run of the monitor of U1 is one of all together
pub HasLateMark-known : (w : MonitorRuns) → HasLateMark (map mark_of w.known.marks.items)
    → HasLateMark (marks_of_runs w)
HasLateMark-known w late =
    let grant = map mark_of w.grant.marks.items in
    let acknowledge = map mark_of w.acknowledge.marks.items in
    let chains = merged grant acknowledge in
    let held = merged (map mark_of w.stability.marks.items) chains in
    let started = merged (map mark_of w.handshake.marks.items) held in
    HasLateMark-merged_first (map mark_of w.known.marks.items) started late

-- a late mark of the run of the monitor of the handshake is one of all together
pub HasLateMark-handshake : (w : MonitorRuns) → HasLateMark (map mark_of w.handshake.marks.items)
    → HasLateMark (marks_of_runs w)
HasLateMark-handshake w late =
    let chains = merged (map mark_of w.grant.marks.items) (map mark_of w.acknowledge.marks.items) in
    let held = merged (map mark_of w.stability.marks.items) chains in
    let handshake = map mark_of w.handshake.marks.items in
    HasLateMark-merged_second (map mark_of w.known.marks.items) (merged handshake held)
    (HasLateMark-merged_first handshake held late)

-- a late mark of the run of the monitor of the lines that have to be stable is one of all together
pub HasLateMark-stability : (w : MonitorRuns) → HasLateMark (map mark_of w.stability.marks.items)
    → HasLateMark (marks_of_runs w)
HasLateMark-stability w late =
    let chains = merged (map mark_of w.grant.marks.items) (map mark_of w.acknowledge.marks.items) in
    let stability = map mark_of w.stability.marks.items in
    let held = merged stability chains in
    let handshake = map mark_of w.handshake.marks.items in
    HasLateMark-merged_second (map mark_of w.known.marks.items) (merged handshake held)
    (HasLateMark-merged_second handshake held (HasLateMark-merged_first stability chains late))

-- a late mark of the two monitors of the chains is one of all together
HasLateMark-chains : (w : MonitorRuns)
    → HasLateMark (merged (map mark_of w.grant.marks.items) (map mark_of w.acknowledge.marks.items))
    → HasLateMark (marks_of_runs w)
HasLateMark-chains w late =
    let chains = merged (map mark_of w.grant.marks.items) (map mark_of w.acknowledge.marks.items) in
    let stability = map mark_of w.stability.marks.items in
    let held = merged stability chains in
    let handshake = map mark_of w.handshake.marks.items in
    HasLateMark-merged_second (map mark_of w.known.marks.items) (merged handshake held)
    (HasLateMark-merged_second handshake held (HasLateMark-merged_second stability chains late))

-- a late mark of the run of the monitor of the arbitration is one of all together
pub HasLateMark-grant : (w : MonitorRuns) → HasLateMark (map mark_of w.grant.marks.items)
    → HasLateMark (marks_of_runs w)
HasLateMark-grant w late =
    HasLateMark-chains w (HasLateMark-merged_first (map mark_of w.grant.marks.items)
    (map mark_of w.acknowledge.marks.items) late)

-- a late mark of the run of the monitor of the interrupt acknowledge is one of all together
pub HasLateMark-acknowledge : (w : MonitorRuns) → HasLateMark (map mark_of w.acknowledge.marks.items)
    → HasLateMark (marks_of_runs w)
HasLateMark-acknowledge w late =
    HasLateMark-chains w (HasLateMark-merged_second (map mark_of w.grant.marks.items)
    (map mark_of w.acknowledge.marks.items) late)

-- the mark x with the index i is late
pub HasLateMark-at_index : (xs : List WideMark) (i : ℕ) (x : WideMark) → i < length xs → x ≡ get_or xs i x
    → 2 ^ 32 ≤ x.instant
    → HasLateMark (map mark_of xs)
HasLateMark-at_index xs i x h e late = (
  mark_of x,
  (
    i,
    omega (arith, h, length-map xs mark_of),
    get_or-map mark_of xs i x (mark_of x) h ∙ ap mark_of (sym e),
  ),
  late,
)
