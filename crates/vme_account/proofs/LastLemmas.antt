-- The moments that are noted step by step are those of the last events.
use Rattle.std.proofs.Common.{◌≡◌, ◌≢◌, ◌+◌, ◌-◌, ◌<◌, ◌≤◌, ℕ, zero, suc, Bool, true, false, List, [], ◌∷◌}
use Rattle.std.proofs.Common.{length, set, get_or}
use Rattle.std.proofs.Common.{Option, None, Some, refl, sym, subst, ap, ◌∙◌, arith, replicate}
use Rattle.std.specs.Prelude.{◌||◌, ◌==◌, is_some, if◌then◌else◌}
use Rattle.std.proofs.lemmas.Bool.Decides.{nat_tests}
use Rattle.std.proofs.lemmas.List.{get_or-set_same, get_or-set_other, length-replicate, length-set}
use Rattle.vme_trace.specs.Changes.{is_changed}
use Rattle.vme_trace.specs.Edges.{starts_between}
use Rattle.vme_trace.specs.Instants.{greatest, least}
use Rattle.vme_trace.specs.Levels.{Levels}
use Rattle.vme_trace.specs.LineNumbers.{AS, BERR, DTACK, line_count}
use Rattle.vme_trace.specs.Trace.{Trace, changed, levels_at, time_at}
use Rattle.vme_trace.specs.declared.step.Change.{Change}
use Rattle.vme_trace.proofs.Ranges.{greatest-empty, least-past}
use Rattle.vme_chains.specs.GrantLevels.{falls_between, rises_between}
use Rattle.vme_chains.proofs.GrantLines.{falls_between-changed_elsewhere, rises_between-changed_elsewhere}
use Rattle.vme_account.proofs.EventLemmas.{greatest-not_at_next, greatest-at_next}
use Rattle.vme_account.proofs.EventLemmas.{since-before, since-now}
use Rattle.vme_account.specs.LastEvents.{AreLast, first_or, handshake_after, last_after, moment, moment_at, no_events}
use Rattle.vme_account.specs.LastEvents.{noted, now_or, unless}
use Rattle.vme_account.specs.RelatedEvents.{happens, happens_between, since}
use Rattle.vme_account.specs.declared.last_events.LastEvents.{LastEvents}
use Rattle.vme_account.specs.declared.last_events.Moment.{Moment}
use Rattle.vme_account.specs.declared.related_event.StepEvent.{StepEvent}
use Rattle.vme_account.specs.declared.related_event.StepEvent.TheVariants.{AnswerFalls, Falls, Rises, TransferStarts}

-- ---- the places of the lines

module _ (is : ℕ → Bool) (m : Moment) where
  -- the table after one change
  abbrev with_change : List (Option Moment) → Change → List (Option Moment)
  with_change table c = if is c.line then set table c.line (Some m) else table

  -- a change doesn't alter the length of the table
  length-with_change : (table : List (Option Moment)) (c : Change) → length (with_change table c) ≡ length table
  length-with_change table c = by_test (is c.line)
    where
      by_test : (b : Bool) → length (if b then set table c.line (Some m) else table) ≡ length table
      by_test true = length-set table c.line (Some m)
      by_test false = refl

  -- changes don't alter the length of the table
  pub length-noted : (cs : List Change) (table : List (Option Moment)) → length (noted is m table cs) ≡ length table
  length-noted [] table = refl
  length-noted (c ∷ cs) table = length-noted cs (with_change table c) ∙ length-with_change table c

  module _ (l : ℕ) where
    -- the moment noted for line `l`
    abbrev noted_for_line : List (Option Moment) → Option Moment
    noted_for_line table = get_or table l None

    -- if `is` doesn't hold of line `l`, no change alters its moment
    with_change-other : is l ≡ false → (table : List (Option Moment)) (c : Change)
        → noted_for_line (with_change table c) ≡ noted_for_line table
    with_change-other none table c = by_tests (is c.line) refl
      where
        by_tests : (b : Bool) → is c.line ≡ b → noted_for_line (if b then set table c.line (Some m) else table)
            ≡ noted_for_line table
        by_tests false e = refl
        by_tests true e = get_or-set_other table c.line l (Some m) None (differs)
          where
            differs : l ≢ c.line
            differs same = absurd (cc (sym none ∙ ap is same ∙ e))

    -- if `is` doesn't hold of line `l`, no changes alter its moment
    pub noted-other : is l ≡ false → (cs : List Change) (table : List (Option Moment))
        → noted_for_line (noted is m table cs)
        ≡ noted_for_line table
    noted-other none [] table = refl
    noted-other none (c ∷ cs) table = noted-other none cs (with_change table c) ∙ with_change-other none table c

    -- once moment `m` is noted for line `l`, other changes leave it
    with_change-stays : (table : List (Option Moment)) (c : Change) → l < length table → noted_for_line table ≡ Some m
        → noted_for_line (with_change table c) ≡ Some m
    with_change-stays table c less here = by_test (is c.line)
      where
        by_place : (same : Bool) → (l == c.line) ≡ same → noted_for_line (set table c.line (Some m)) ≡ Some m
        by_place true e = get_or-set_here (grind (arith, nat_tests, e))
          where
            get_or-set_here : l ≡ c.line → noted_for_line (set table c.line (Some m)) ≡ Some m
            get_or-set_here same = ap (λ (i : ℕ). noted_for_line (set table i (Some m))) (sym same)
                ∙ get_or-set_same table l (Some m) None less
        by_place false e = get_or-set_other table c.line l (Some m) None (grind (arith, nat_tests, e)) ∙ here

        by_test : (b : Bool) → noted_for_line (if b then set table c.line (Some m) else table) ≡ Some m
        by_test true = by_place (l == c.line) refl
        by_test false = here

    -- once moment `m` is noted for line `l`, the changes that follow leave it
    noted-stays : (cs : List Change) (table : List (Option Moment)) → l < length table → noted_for_line table ≡ Some m
        → noted_for_line (noted is m table cs) ≡ Some m
    noted-stays [] table less here = here
    noted-stays (c ∷ cs) table less here =
        noted-stays cs (with_change table c) (rw (length-with_change table c) less)
        (with_change-stays table c less here)

    -- if `is` holds of line `l`, which changes, moment `m` is noted for it
    pub noted-changed : is l ≡ true → (cs : List Change) (table : List (Option Moment)) → l < length table
        → is_changed cs l ≡ true → noted_for_line (noted is m table cs) ≡ Some m
    noted-changed now [] table less h = absurd (cc h)
    noted-changed now (c ∷ cs) table less h =
        by_place (c.line == l) refl h
        (noted-changed now cs (with_change table c) (rw (length-with_change table c) less))
      where
        in_table : l < length (with_change table c)
        in_table = rw (length-with_change table c) less

        here : c.line ≡ l → noted_for_line (with_change table c) ≡ Some m
        here same =
            ap (λ (b : Bool). noted_for_line (if b then set table c.line (Some m) else table)) (ap is same ∙ now)
            ∙ (ap (λ (i : ℕ). noted_for_line (set table i (Some m))) same ∙ get_or-set_same table l (Some m) None less)

        by_place : (same : Bool) → (c.line == l) ≡ same → (same || is_changed cs l) ≡ true
            → (is_changed cs l ≡ true → noted_for_line (noted is m (with_change table c) cs) ≡ Some m)
            → noted_for_line (noted is m (with_change table c) cs) ≡ Some m
        by_place true e o rest = noted-stays cs (with_change table c) in_table (here (grind (arith, nat_tests, e)))
        by_place false e o rest = rest o

-- ---- one more instant

-- the instant before the next one is this one
before-next : (i : ℕ) → i + 1 - 1 ≡ i
before-next i = omega arith

-- an event happens at the next instant exactly if it happens in the step to it
pub happens-next : (t : Trace) (i : ℕ) (v w : Levels) → v ≡ levels_at t i → w ≡ levels_at t (i + 1) → (e : StepEvent)
    → happens t e (i + 1) ≡ happens_between v w e
unfolding happens
happens-next t i v w is_v is_w e =
    ap (λ (j : ℕ). happens_between (levels_at t j) (levels_at t (i + 1)) e) (before-next i)
    ∙ (ap (λ (x : Levels). happens_between x (levels_at t (i + 1)) e) (sym is_v)
    ∙ ap (λ (x : Levels). happens_between v x e) (sym is_w))

module _ (t : Trace) (s i : ℕ) (le : s ≤ i) where
  -- the event happens at the next instant
  abbrev now : StepEvent → Bool
  now e = happens t e (i + 1)

  -- the last instant of an event up to the next instant
  greatest-next : (e : StepEvent) (b : Bool) → now e ≡ b
      → moment t (greatest (happens t e) (s + 1) (i + 1 + 1))
      ≡ now_or b (moment_at t (i + 1)) (moment t (greatest (happens t e) (s + 1) (i + 1)))
  greatest-next e true is = ap (moment t) (greatest-at_next (happens t e) s i le is)
  greatest-next e false is = ap (moment t) (greatest-not_at_next (happens t e) s i is)

  -- the first instant of `p` since `q`
  abbrev found : StepEvent → StepEvent → Option ℕ
  found p q = least (happens t p) (since t q s i) (i + 1)

  -- the first moment of `p` since `q`, up to the next instant, is the one so far, unless `q` happens now, or else now,
  -- if `p` happens now
  least-next : (p q : StepEvent) (now_p now_q : Bool) → now p ≡ now_p → now q ≡ now_q
      → moment t (least (happens t p) (since t q s (i + 1)) (i + 1 + 1))
      ≡ first_or now_p (moment_at t (i + 1)) (unless now_q (moment t (least (happens t p) (since t q s i) (i + 1))))
  least-next p q now_p true is_p is_q =
      ap (moment t) (since-now (happens t p) (happens t q) s i le is_q)
      ∙ (ap (λ (b : Bool). moment t (if b then Some (i + 1) else None)) is_p ∙ by_test now_p)
    where
      by_test : (b : Bool) → moment t (if b then Some (i + 1) else None)
          ≡ (if b then Some (moment_at t (i + 1)) else None)
      by_test true = refl
      by_test false = refl
  least-next p q now_p false is_p is_q =
      ap (moment t) (since-before (happens t p) (happens t q) s i le is_q)
      ∙ (ap (λ (b : Bool). moment t (if is_some (found p q) then found p q else if b then Some (i + 1) else None)) is_p
      ∙ by_found (found p q) now_p)
    where
      by_found : (o : Option ℕ) (b : Bool) → moment t (if is_some o then o else if b then Some (i + 1) else None)
          ≡ first_or b (moment_at t (i + 1)) (moment t o)
      by_found (Some j) b = refl
      by_found None true = refl
      by_found None false = refl

-- ---- all of it

module _ (t : Trace) (s i : ℕ) (le : s ≤ i) (v : Levels) (cs : List Change) (is_v : v ≡ levels_at t i)
    (is_w : changed v cs ≡ levels_at t (i + 1)) (m : Moment) (is_m : m ≡ moment_at t (i + 1)) (e : LastEvents)
    (last : AreLast t s i e) where
  -- the levels after the step
  abbrev w : Levels
  w = changed v cs

  -- an event happens at the next instant just if it happens in the step
  happens-between : (k : StepEvent) → happens t k (i + 1) ≡ happens_between v w k
  happens-between k = happens-next t i v w is_v is_w k

  -- the moment noted of a line's event, which an unchanged line doesn't have, is the last one up to the next instant
  edge-next : (event : ℕ → StepEvent) (was : List (Option Moment)) → length was ≡ line_count
      → ((l : ℕ) → is_changed cs l ≡ false → happens_between v w (event l) ≡ false)
      → ((l : ℕ) → l < line_count → get_or was l None ≡ moment t (greatest (happens t (event l)) (s + 1) (i + 1)))
      → (l : ℕ) → l < line_count → get_or (noted (λ k. happens_between v w (event k)) m was cs) l None
      ≡ moment t (greatest (happens t (event l)) (s + 1) (i + 1 + 1))
  edge-next event was all unchanged before l less = by_test (happens_between v w (event l)) refl
    where
      by_change : (b : Bool) → is_changed cs l ≡ b → happens_between v w (event l) ≡ true → is_changed cs l ≡ true
      by_change true c f = c
      by_change false c f = absurd (cc (sym (unchanged l c) ∙ f))

      by_test : (b : Bool) → happens_between v w (event l) ≡ b
          → get_or (noted (λ k. happens_between v w (event k)) m was cs) l None
          ≡ moment t (greatest (happens t (event l)) (s + 1) (i + 1 + 1))
      by_test true f =
          noted-changed (λ k. happens_between v w (event k)) m l f cs was (rw all less)
          (by_change (is_changed cs l) refl f)
          ∙ (ap (λ (x : Moment). Some x) is_m
          ∙ sym (greatest-next t s i le (event l) true (happens-between (event l) ∙ f)))
      by_test false f =
          noted-other (λ k. happens_between v w (event k)) m l f cs was ∙ (before l less
          ∙ sym (greatest-next t s i le (event l) false (happens-between (event l) ∙ f)))

  -- the moment noted of a line's fall is the last one up to the next instant
  falls-next : (l : ℕ) → l < line_count → get_or (noted (falls_between v w) m e.falls cs) l None
      ≡ moment t (greatest (happens t (Falls l)) (s + 1) (i + 1 + 1))
  falls-next = edge-next (λ l. Falls l) e.falls last.all_falls (falls_between-changed_elsewhere v cs) last.falls

  -- the moment noted of a line's rise is the last one up to the next instant
  rises-next : (l : ℕ) → l < line_count → get_or (noted (rises_between v w) m e.rises cs) l None
      ≡ moment t (greatest (happens t (Rises l)) (s + 1) (i + 1 + 1))
  rises-next = edge-next (λ l. Rises l) e.rises last.all_rises (rises_between-changed_elsewhere v cs) last.rises

  -- the moment kept of the first `p` since `q` is the first one up to the next instant
  first_or-since : (p q : StepEvent) (found : Option Moment)
      → found ≡ moment t (least (happens t p) (since t q s i) (i + 1))
      → first_or (happens_between v w p) m (unless (happens_between v w q) found)
      ≡ moment t (least (happens t p) (since t q s (i + 1)) (i + 1 + 1))
  first_or-since p q found is =
      ap (λ (o : Option Moment). first_or (happens_between v w p) m (unless (happens_between v w q) o)) is
      ∙ (ap (λ (x : Moment). first_or (happens_between v w p) x (unless (happens_between v w q)
      (moment t (least (happens t p) (since t q s i) (i + 1))))) is_m
      ∙ sym (least-next t s i le p q (happens_between v w p) (happens_between v w q) (happens-between p)
      (happens-between q)))

  -- the moment kept of the start of a transfer is the last one up to the next instant
  transfer-next : now_or (starts_between v w) m e.transfer
      ≡ moment t (greatest (happens t TransferStarts) (s + 1) (i + 1 + 1))
  transfer-next =
      ap (λ (o : Option Moment). now_or (starts_between v w) m o) last.transfer
      ∙ (ap (λ (x : Moment). now_or (starts_between v w) x
      (moment t (greatest (happens t TransferStarts) (s + 1) (i + 1)))) is_m
      ∙ sym (greatest-next t s i le TransferStarts (starts_between v w) (happens-between TransferStarts)))

  -- after one more step the last events are those up to the next instant
  pub AreLast-next : AreLast t s (i + 1) (last_after v w cs m e)
  AreLast-next = record {
    all_falls = length-noted (falls_between v w) m cs e.falls ∙ last.all_falls;
    all_rises = length-noted (rises_between v w) m cs e.rises ∙ last.all_rises;
    falls = falls-next;
    rises = rises-next;
    transfer = transfer-next;
    answer_in_transfer = first_or-since AnswerFalls TransferStarts e.answer_in_transfer last.answer_in_transfer;
    answer_in_cycle = first_or-since AnswerFalls (Falls AS) e.answer_in_cycle last.answer_in_cycle;
    dtack_in_cycle = first_or-since (Falls DTACK) (Falls AS) e.dtack_in_cycle last.dtack_in_cycle;
  }

-- the last events `e` with these moments of the first answers
abbrev with_firsts : LastEvents → Option Moment → Option Moment → Option Moment → LastEvents
with_firsts e a b c = record e { answer_in_transfer = a; answer_in_cycle = b; dtack_in_cycle = c }

-- if the event doesn't happen, the moment stays
first_or-false : (m : Moment) (o : Option Moment) → o ≡ first_or false m o
first_or-false m None = refl
first_or-false m (Some n) = refl

-- if none of the answers comes, their moments stay
with_firsts-false : (m : Moment) (e : LastEvents) (a b c : Option Moment) → with_firsts e a b c
    ≡ with_firsts e (first_or false m a) (first_or false m b) (first_or false m c)
with_firsts-false m e a b c =
    ap (λ (o : Option Moment). with_firsts e o b c) (first_or-false m a)
    ∙ (ap (λ (o : Option Moment). with_firsts e (first_or false m a) o c) (first_or-false m b)
    ∙ ap (λ (o : Option Moment). with_firsts e (first_or false m a) (first_or false m b) o) (first_or-false m c))

-- if nothing of the handshake happens at a step, its moments stay
pub handshake_after-nothing : (starts answers begins by_dtack : Bool) (m : Moment) (e : LastEvents) → starts ≡ false
    → answers ≡ false → begins ≡ false → by_dtack ≡ false → e ≡ handshake_after starts answers begins by_dtack m e
handshake_after-nothing true answers begins by_dtack m e p q r s = absurd (cc p)
handshake_after-nothing false true begins by_dtack m e p q r s = absurd (cc q)
handshake_after-nothing false false true by_dtack m e p q r s = absurd (cc r)
handshake_after-nothing false false false true m e p q r s = absurd (cc s)
handshake_after-nothing false false false false m e p q r s =
    with_firsts-false m e e.answer_in_transfer e.answer_in_cycle e.dtack_in_cycle

-- ---- before any step

-- no moment
abbrev nothing : Option Moment
nothing = None

-- the empty table has no moment for any line
get_or-nothing : (l : ℕ) → get_or (replicate line_count nothing) l nothing ≡ nothing
get_or-nothing l = everywhere line_count l
  where
    everywhere : (n l : ℕ) → get_or (replicate n nothing) l nothing ≡ nothing
    everywhere zero l = refl
    everywhere (suc n) zero = refl
    everywhere (suc n) (suc l) = everywhere n l

-- at the start of the stretch, `since` gives the first judged instant
since-start : (t : Trace) (q : StepEvent) (s : ℕ) → since t q s s ≡ s + 1
since-start t q s = rw (greatest-empty (happens t q) (s + 1) (s + 1) (omega arith)) refl

-- at the start of the stretch no event has happened
pub AreLast-start : (t : Trace) (s : ℕ) → AreLast t s s no_events
AreLast-start t s = record {
  all_falls = length-replicate line_count nothing;
  all_rises = length-replicate line_count nothing;
  falls = λ l less. get_or-nothing l ∙ sym (nowhere (Falls l));
  rises = λ l less. get_or-nothing l ∙ sym (nowhere (Rises l));
  transfer = sym (nowhere TransferStarts);
  answer_in_transfer = sym (first_nowhere AnswerFalls TransferStarts);
  answer_in_cycle = sym (first_nowhere AnswerFalls (Falls AS));
  dtack_in_cycle = sym (first_nowhere (Falls DTACK) (Falls AS));
}
  where
    nowhere : (k : StepEvent) → moment t (greatest (happens t k) (s + 1) (s + 1)) ≡ None
    nowhere k = ap (moment t) (greatest-empty (happens t k) (s + 1) (s + 1) (omega arith))

    first_nowhere : (p q : StepEvent) → moment t (least (happens t p) (since t q s s) (s + 1)) ≡ None
    first_nowhere p q = ap (λ (f : ℕ). moment t (least (happens t p) f (s + 1))) (since-start t q s)
        ∙ ap (moment t) (least-past (happens t p) (s + 1) (s + 1) (omega arith))

-- ---- taking a step

-- moments with equal fields are equal
Moment-equal : (m : Moment) (i time : ℕ) (dtack berr : Bool) → m.instant ≡ i → m.time ≡ time → m.dtack_falls ≡ dtack
    → m.berr_falls ≡ berr → m ≡ record { instant = i; time = time; dtack_falls = dtack; berr_falls = berr }
Moment-equal m i time dtack berr p q r s =
    ap (λ (x : ℕ). record { instant = x; time = m.time; dtack_falls = m.dtack_falls; berr_falls = m.berr_falls }) p
    ∙ (ap (λ (x : ℕ). record { instant = i; time = x; dtack_falls = m.dtack_falls; berr_falls = m.berr_falls }) q
    ∙ (ap (λ (x : Bool). record { instant = i; time = time; dtack_falls = x; berr_falls = m.berr_falls }) r
    ∙ ap (λ (x : Bool). record { instant = i; time = time; dtack_falls = dtack; berr_falls = x }) s))

-- if `m` is the moment of the step, the last events after it are those up to the next instant
pub AreLast-step : (t : Trace) (s i : ℕ) → s ≤ i → (v w : Levels) (cs : List Change) → w ≡ changed v cs
    → v ≡ levels_at t i → w ≡ levels_at t (i + 1) → (m : Moment) → m.instant ≡ i + 1 → m.time ≡ time_at t (i + 1)
    → m.dtack_falls ≡ happens_between v w (Falls DTACK) → m.berr_falls ≡ happens_between v w (Falls BERR)
    → (e : LastEvents) → AreLast t s i e → AreLast t s (i + 1) (last_after v w cs m e)
AreLast-step t s i le v w cs is_changed is_v is_w m p q dtack berr e last =
    subst (λ (x : Levels). AreLast t s (i + 1) (last_after v x cs m e)) (sym is_changed)
    (AreLast-next t s i le v cs is_v (sym is_changed ∙ is_w) m
    (Moment-equal m (i + 1) (time_at t (i + 1)) (happens t (Falls DTACK) (i + 1)) (happens t (Falls BERR) (i + 1)) p q
    (dtack ∙ sym (happens-next t i v w is_v is_w (Falls DTACK)))
    (berr ∙ sym (happens-next t i v w is_v is_w (Falls BERR)))) e last)
