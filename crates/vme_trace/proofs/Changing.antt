-- Where a control line is lost, i.e. unknown on a bus that isn't reset, what changes of lines leave as it is, and the
-- first changed line with a property.
use Rattle.std.proofs.Common.{◌≡◌, ℕ, ◌+◌, ◌<◌, ◌≤◌, Bool, true, false, ◌||◌, ◌&&◌, not, List, [], ◌∷◌, refl, sym, ◌∙◌}
use Rattle.std.proofs.Common.{ap, arith, ◌≢◌, cond, drop, get_or, length}
use Rattle.std.specs.Prelude.{None, Some, ◌==◌, nat_le, slice_set}
use Rattle.std.proofs.lemmas.Bool.Decides.{nat_tests}
use Rattle.std.proofs.lemmas.List.{drop_more, get_or-set_other}
use Rattle.std.proofs.lemmas.Option.{unwrap_or-slice_get}
use Rattle.std.proofs.lemmas.Bool.{and_parts, eq-eqb, eqb-true, not-false, not-true, or_parts, or_right}
use Rattle.vme_trace.specs.Instants.{any, least}
use Rattle.vme_trace.specs.LineNumbers.{line_count, SYSRESET, has_line, is_control}
use Rattle.vme_trace.specs.Levels.{Levels, level_at, set_level, rests_high, is_idle, is_idle_on, is_reset, is_lost}
use Rattle.vme_trace.specs.Levels.{is_low, is_high, is_known, loses_control}
use Rattle.vme_trace.specs.Trace.{changed}
use Rattle.vme_trace.specs.WellFormed.{are_changes}
use Rattle.vme_trace.specs.Changes.{first_changed, is_changed, lost_among, touches_control}
use Rattle.vme_trace.specs.declared.level.Level.{Level}
use Rattle.vme_trace.specs.declared.level.Level.TheVariants.{Low, High, Unknown}
use Rattle.vme_trace.specs.declared.step.Change.{Change}
use Rattle.vme_trace.proofs.Ranges.{any-fails, fails-any, any-alike, least-is, least-none, clash, eq-fails_above}
use Rattle.vme_trace.specs.Edges.{falls_between, rises_between}

-- numbers whose test fails differ
eqb-differs : (m l : ℕ) → (m == l) ≡ false → l ≢ m
eqb-differs m l h e = absurd (same m l h e)
  where
    same : (m l : ℕ) → (m == l) ≡ false → l ≡ m → ⊥
    same m l h e = grind (arith, nat_tests)

-- a line other than the one that is set keeps its level
level_at-set_other : (v : Levels) (m l : ℕ) (x : Level) → (m == l) ≡ false → level_at (set_level v m x) l ≡ level_at v l
level_at-set_other v m l x h = unwrap_or-slice_get (slice_set v.levels m x) l Unknown
    ∙ (get_or-set_other v.levels m l x Unknown (eqb-differs m l h) ∙ sym (unwrap_or-slice_get v.levels l Unknown))

-- on an idle bus each line is idle
is_idle_on-each : (v : Levels) (l : ℕ) → is_idle v ≡ true → l < line_count → is_idle_on v l ≡ true
unfolding is_idle
is_idle_on-each v l idle below = not-false _ (any-fails (λ k. not (is_idle_on v k)) 0 line_count l (not-true _ idle)
    (omega arith) below)

-- a line that is idle isn't lost
idle-known : (control strict reset : Bool) (x : Level) → cond (not control) true (cond strict (is_high x) (is_known x))
    ≡ true → (control && not (is_known x) && not reset) ≡ false
idle-known false strict reset x h = refl
idle-known true strict reset Low h = refl
idle-known true strict reset High h = refl
idle-known true true reset Unknown h = absurd (cc)
idle-known true false reset Unknown h = absurd (cc)

-- an idle bus has no lost line
pub idle-unlost : (v : Levels) → is_idle v ≡ true → loses_control v ≡ false
unfolding loses_control
idle-unlost v idle = fails-any (is_lost v) 0 line_count (λ l a b. idle-known (is_control v.slots l) (rests_high l)
    (is_reset v) (level_at v l) (is_idle_on-each v l idle b))

-- a high level isn't low
pub high_not_low : (x : Level) → is_high x ≡ true → is_low x ≡ false
high_not_low Low h = absurd (cc)
high_not_low High h = refl
high_not_low Unknown h = refl

-- no level is high and low
pub not_high_and_low : (x : Level) → (is_high x && is_low x) ≡ false
not_high_and_low Low = refl
not_high_and_low High = refl
not_high_and_low Unknown = refl

-- no level is low and high
pub not_low_and_high : (x : Level) → (is_low x && is_high x) ≡ false
not_low_and_high Low = refl
not_low_and_high High = refl
not_low_and_high Unknown = refl

-- a line that keeps its level doesn't fall
pub falls_between-unchanged : (v w : Levels) (l : ℕ) → level_at w l ≡ level_at v l → falls_between v w l ≡ false
falls_between-unchanged v w l e = rw e (not_high_and_low (level_at v l))

-- a line that keeps its level doesn't rise
pub rises_between-unchanged : (v w : Levels) (l : ℕ) → level_at w l ≡ level_at v l → rises_between v w l ≡ false
rises_between-unchanged v w l e = rw e (not_low_and_high (level_at v l))

-- an idle bus isn't reset
pub idle-unreset : (v : Levels) → is_idle v ≡ true → is_reset v ≡ false
idle-unreset v idle = high_not_low (level_at v SYSRESET) (is_idle_on-each v SYSRESET idle (omega arith))

-- if b is true, a and not b is false
and-not_true : (a b : Bool) → b ≡ true → (a && not b) ≡ false
and-not_true true b h = rw h refl
and-not_true false b h = refl

-- a bus that is reset has no lost line
pub reset-unlost : (v : Levels) → is_reset v ≡ true → loses_control v ≡ false
unfolding loses_control
reset-unlost v reset = fails-any (is_lost v) 0 line_count (λ l a b. and-not_true _ (is_reset v) reset)

-- changes leave the number of slots as it is
pub slots-kept : (v : Levels) (cs : List Change) → (changed v cs).slots ≡ v.slots
unfolding changed
slots-kept v [] = refl
slots-kept v (c ∷ cs) = slots-kept (set_level v c.line c.level) cs

-- a line that isn't changed keeps its level
pub level-kept : (v : Levels) (cs : List Change) (l : ℕ) → is_changed cs l ≡ false → level_at (changed v cs) l
    ≡ level_at v l
unfolding changed
level-kept v [] l h = refl
level-kept v (c ∷ cs) l h =
    let both = or_parts (c.line == l) (is_changed cs l) h in
    level-kept (set_level v c.line c.level) cs l both.1 ∙ level_at-set_other v c.line l c.level both.0

-- where no control line changes, a control line isn't changed
is_changed-no_control : (slots : ℕ) (cs : List Change) (l : ℕ) → touches_control slots cs ≡ false → is_control slots l
    ≡ true
    → is_changed cs l ≡ false
is_changed-no_control slots [] l h k = refl
is_changed-no_control slots (c ∷ cs) l h k =
    let both = or_parts (is_control slots c.line) (touches_control slots cs) h in
    rw (is_changed-no_control slots cs l both.1 k) (other (c.line == l) refl)
  where
    other : (b : Bool) → (c.line == l) ≡ b → (b || false) ≡ false
    other false e = refl
    other true e = absurd (clash (is_control slots l) k (ap (is_control slots) (sym (eqb-true c.line l e))
        ∙ (or_parts (is_control slots c.line) (touches_control slots cs) h).0))

-- where no control line changes, a line is idle after the changes just if it was before
idle_on-kept : (v : Levels) (cs : List Change) (l : ℕ) → touches_control v.slots cs ≡ false → is_idle_on (changed v cs)
    l ≡ is_idle_on v l
idle_on-kept v cs l h = rw (slots-kept v cs) (by_control (is_control v.slots l) refl)
  where
    by_control : (b : Bool) → is_control v.slots l ≡ b → cond (not b) true
        (cond (rests_high l) (is_high (level_at (changed v cs) l)) (is_known (level_at (changed v cs) l)))
        ≡ cond (not b) true (cond (rests_high l) (is_high (level_at v l)) (is_known (level_at v l)))
    by_control false e = refl
    by_control true e = rw (level-kept v cs l (is_changed-no_control v.slots cs l h e)) refl

-- where no control line changes, the bus is idle after the changes just if it was before
pub idle-kept : (v : Levels) (cs : List Change) → touches_control v.slots cs ≡ false → is_idle (changed v cs)
    ≡ is_idle v
unfolding is_idle
idle-kept v cs h = ap not (any-alike (λ l. not (is_idle_on (changed v cs) l)) (λ l. not (is_idle_on v l)) 0 line_count
    (λ l a b. ap not (idle_on-kept v cs l h)))

-- where no control line changes, the bus is reset after the changes just if it was before
pub reset-kept : (v : Levels) (cs : List Change) → touches_control v.slots cs ≡ false → is_reset (changed v cs)
    ≡ is_reset v
reset-kept v cs h = ap is_low (level-kept v cs SYSRESET (is_changed-no_control v.slots cs SYSRESET h refl))

-- if `a && not b` is false, and b is false, then `a && not c` is false
and-not_still_false : (a b c : Bool) → (a && not b) ≡ false → b ≡ false → (a && not c) ≡ false
and-not_still_false true true c h k = absurd (cc)
and-not_still_false true false c h k = absurd (cc)
and-not_still_false false b c h k = refl

-- a line that isn't changed, and isn't lost on a bus that isn't reset, isn't lost after the changes
lost-kept : (v : Levels) (cs : List Change) (l : ℕ) → is_reset v ≡ false → is_lost v l ≡ false → is_changed cs l ≡ false
    → is_lost (changed v cs) l ≡ false
lost-kept v cs l r h k = rw (slots-kept v cs, level-kept v cs l k)
    (and-not_still_false (is_control v.slots l && not (is_known (level_at v l))) (is_reset v)
    (is_reset (changed v cs)) h r)

-- a line below `lowest` isn't among the changed ones
pub is_changed-below : (v : Levels) (lowest l : ℕ) (cs : List Change) → are_changes v lowest cs ≡ true → l < lowest
    → is_changed cs l ≡ false
unfolding are_changes
is_changed-below v lowest l [] h b = refl
is_changed-below v lowest l (c ∷ cs) h b =
    let parts = and_parts _ _ h in
    let low = and_parts _ _ (and_parts _ _ parts.0).0 in
    rw (is_changed-below v (c.line + 1) l cs parts.1 (past lowest c.line l low.0 b).0) (past lowest c.line l low.0 b).1
  where
    past : (k m l : ℕ) → nat_le k m ≡ true → l < k → (l < m + 1) × (((m == l) || false) ≡ false)
    past k m l h b = (before k m l h b, unlike k m l h b)
      where
        before : (k m l : ℕ) → nat_le k m ≡ true → l < k → l < m + 1
        before k m l h b = grind (arith, nat_tests)

        unlike : (k m l : ℕ) → nat_le k m ≡ true → l < k → ((m == l) || false) ≡ false
        unlike k m l h b = grind (arith, nat_tests)

-- each line of a backplane of at most 21 slots has a number below `line_count`
pub exists_below : (slots l : ℕ) → slots ≤ 21 → has_line slots l ≡ true → l < line_count
exists_below slots l few h = grind (arith, nat_tests)

-- each line with a number below 50, the first of the daisy chains, is on every backplane
pub bus_line_exists : (slots l : ℕ) → l < 50 → has_line slots l ≡ true
bus_line_exists slots l h = grind (arith, nat_tests)

-- a number below k is below k + 1
lt-next : (l k : ℕ) → l < k → l < k + 1
lt-next l k h = omega arith

-- the least line with p is the first changed line with q, if p fails on unchanged lines and agrees with q on changed
-- ones, and each line of the backplane with q is below n
module _ (v : Levels) (p q : ℕ → Bool) (n : ℕ)
    (bound : (l : ℕ) → has_line v.slots l ≡ true → q l ≡ true → l < n) where
  -- if no line below that of the first change has p, that line is the least with p if q holds of it, and else the one
  -- found among the rest is
  first_changed-least_here : (c : Change) (cs : List Change) (b : Bool) → q c.line ≡ b
      → has_line v.slots c.line ≡ true → (b ≡ true → p c.line ≡ true) → any p 0 c.line ≡ false
      → (b ≡ false → first_changed q cs ≡ least p 0 n) → cond b (Some c.line) (first_changed q cs) ≡ least p 0 n
  first_changed-least_here c cs true e exists holds none rest =
      sym (least-is p 0 n c.line (omega arith) (bound c.line exists e) (holds refl) none)
  first_changed-least_here c cs false e exists holds none rest = rest refl

  -- if p fails on the line of the first change, it fails on each line that the rest leaves unchanged
  fails-unchanged_rest : (c : Change) (cs : List Change) → ((l : ℕ) → is_changed (c ∷ cs) l ≡ false → p l ≡ false)
      → p c.line ≡ false → (l : ℕ) → is_changed cs l ≡ false → p l ≡ false
  fails-unchanged_rest c cs fails here l h = by_line (c.line == l) refl
    where
      by_line : (b : Bool) → (c.line == l) ≡ b → p l ≡ false
      by_line true e = ap p (sym (eqb-true c.line l e)) ∙ here
      by_line false e = fails l (rw (e, h) refl)

  -- the first changed line with q is the least line with p
  pub first_changed-least_alike : (lowest : ℕ) (cs : List Change) → are_changes v lowest cs ≡ true
      → ((l : ℕ) → is_changed cs l ≡ false → p l ≡ false) → ((l : ℕ) → is_changed cs l ≡ true → p l ≡ q l)
      → first_changed q cs ≡ least p 0 n
  unfolding are_changes
  first_changed-least_alike lowest [] h fails alike =
      sym (least-none p 0 n (fails-any p 0 n (λ l a b. fails l refl)))
  first_changed-least_alike lowest (c ∷ cs) h fails alike =
      let parts = and_parts _ _ h in
      let exists = (and_parts _ _ (and_parts _ _ parts.0).0).1 in
      let here : p c.line ≡ q c.line = alike c.line (rw (eq-eqb c.line c.line refl) refl) in
      first_changed-least_here c cs (q c.line) refl exists (λ e. here ∙ e)
      (fails-any p 0 c.line
      (λ l a b. fails l (rw (
        eq-fails_above c.line l b,
        is_changed-below v (c.line + 1) l cs parts.1 (lt-next l c.line b),
      ) refl)))
      (λ e. first_changed-least_alike (c.line + 1) cs parts.1 (fails-unchanged_rest c cs fails (here ∙ e))
      (λ l k. alike l (or_right (c.line == l) (is_changed cs l) k)))

-- if p fails on unchanged lines, the first changed line with p is the least line with p
pub first_changed-least : (v : Levels) (p : ℕ → Bool) → v.slots ≤ 21 → (lowest : ℕ) (cs : List Change)
    → are_changes v lowest cs ≡ true → ((l : ℕ) → is_changed cs l ≡ false → p l ≡ false)
    → first_changed p cs ≡ least p 0 line_count
first_changed-least v p few lowest cs h fails =
    first_changed-least_alike v p p line_count (λ l exists holds. exists_below v.slots l few exists) lowest cs h fails
    (λ l k. refl)

-- a first change whose line hasn't p can be left out
first_changed-passed : (p : ℕ → Bool) (c : Change) (cs : List Change) → p c.line ≡ false
    → first_changed p (c ∷ cs) ≡ first_changed p cs
first_changed-passed p c cs h = rw h refl

-- if the first changed line with p of all changes is that of the changes from i on, and the line of change i hasn't p,
-- it is that of the changes from i + 1 on
pub first_changed-drop_next : (p : ℕ → Bool) (cs : List Change) (i : ℕ) (c : Change) → i < length cs
    → c ≡ get_or cs i c → p c.line ≡ false → first_changed p (drop i cs) ≡ first_changed p cs
    → first_changed p (drop (i + 1) cs) ≡ first_changed p cs
first_changed-drop_next p cs i c h e fails so_far =
    let split : drop i cs ≡ c ∷ drop (i + 1) cs = drop_more cs i c h ∙ ap (λ x. x ∷ drop (i + 1) cs) (sym e) in
    sym (first_changed-passed p c (drop (i + 1) cs) fails) ∙ (sym (ap (first_changed p) split) ∙ so_far)

-- where control isn't lost, no line is
is_lost-none : (v : Levels) (l : ℕ) → v.slots ≤ 21 → loses_control v ≡ false → is_lost v l ≡ false
unfolding loses_control
is_lost-none v l few h = by_test (is_lost v l) refl
  where
    by_test : (b : Bool) → is_lost v l ≡ b → b ≡ false
    by_test false e = refl
    by_test true e = absurd (clash (is_lost v l) e (any-fails (is_lost v) 0 line_count l h (omega arith)
        (exists_below v.slots l few (and_parts (has_line v.slots l) _ (and_parts (is_control v.slots l) _
        (and_parts _ _ e).0).0).0)))

-- where the bus wasn't reset before and no line was lost, the first changed line that is lost is the least lost line
pub lost-least : (v : Levels) (cs : List Change) → v.slots ≤ 21 → are_changes v 0 cs ≡ true → loses_control v ≡ false
    → is_reset v ≡ false → lost_among (changed v cs) cs ≡ least (is_lost (changed v cs)) 0 line_count
lost-least v cs few h held unreset = first_changed-least v (is_lost (changed v cs)) few 0 cs h
    (λ l k. lost-kept v cs l unreset (is_lost-none v l few held) k)

-- where no control line is among the changed ones, none of them is lost
pub lost-untouched : (now : Levels) (cs : List Change) → touches_control now.slots cs ≡ false → lost_among now cs ≡ None
lost-untouched now [] h = refl
lost-untouched now (c ∷ cs) h =
    let both = or_parts (is_control now.slots c.line) (touches_control now.slots cs) h in
    first_changed-passed (is_lost now) c cs (rw both.0 refl) ∙ lost-untouched now cs both.1
