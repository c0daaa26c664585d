-- The edges of the usual kinds of steps: DTACK* alone falls or rises, AS* alone falls, or the strobes move.
use Rattle.std.proofs.Common.{◌≡◌, ℕ, Bool, true, false, ◌&&◌, ◌||◌, not, refl, Option, Some, None, cond}
use Rattle.std.proofs.lemmas.Bool.{not_from_true}
use Rattle.vme_trace.specs.Edges.{falls_between, rises_between, starts_between}
use Rattle.vme_trace.specs.LineNumbers.{AS, DS0, DS1, DTACK, BERR, WRITE}
use Rattle.vme_trace.specs.Levels.{Levels, level_at, is_low, is_high}
use Rattle.vme_trace.specs.declared.level.Level.{Level}
use Rattle.vme_trace.specs.declared.level.Level.TheVariants.{Low, High, Unknown}
use Rattle.vme_monitor.specs.Run.{no_step_marks}
use Rattle.vme_monitor.specs.declared.mark.CycleStart.{CycleStart}
use Rattle.vme_dtb.specs.Edge.{cycle_start_of, edges_between, closes_between, first_of, is_addressed}
use Rattle.vme_dtb.specs.Edge.{is_answer_not_high, stays_on}
use Rattle.vme_dtb.specs.UsualSteps.{is_answer_alone, is_start_alone, is_strobes_alone}
use Rattle.vme_dtb.specs.declared.edges.Edges.{Edges}
use Rattle.vme_dtb.proofs.StillSteps.{and-five_parts, closes_between-stays, edges_by_tests, edges_by_tests-alike}
use Rattle.vme_dtb.proofs.StillSteps.{falls_between-stays, rises_between-stays, starts_between-stays}

-- the edges of a step that has none, while AS* is low
abbrev no_edges : Edges
no_edges = record {
  shown = no_step_marks;
  answer_not_high = None;
  strobe_rise = None;
  strobe_fall = None;
  answer_fall = None;
  both_fall = false;
  dtack_rises = false;
  berr_rises = false;
  unaddressed = false;
}

-- the edges of a step in which AS* alone falls
abbrev pub start_edges : CycleStart → Edges
start_edges cycle_start = record no_edges { shown = record no_step_marks { cycle = Some cycle_start } }

-- the edges of a step in which DTACK* alone falls while AS* is low
abbrev pub answer_edges : Edges
answer_edges = record no_edges { answer_fall = Some DTACK }

-- the edges of a step in which DTACK* alone rises
abbrev pub ready_edges : Bool → Edges
ready_edges u = record no_edges { dtack_rises = true; unaddressed = u }

-- the edges of a step in which strobes move: `rise` and `fall` are the first strobes that rise and fall, `start` and
-- `close` say whether a transfer starts or closes, `end` whether the cycle ends
abbrev pub strobes_edges : Option ℕ → Option ℕ → Option Bool → Bool → Bool → Edges
strobes_edges rise fall start close end = record no_edges {
  shown = record no_step_marks { cycle_end = end; transfer = start; close = close };
  strobe_rise = rise;
  strobe_fall = fall;
}

-- a line that falls doesn't rise, and is low
falls-not_rises : (x y : Level) → (is_high x && is_low y) ≡ true → ((is_low x && is_high y) ≡ false)
    × (not (is_low x || is_low y) ≡ false)
falls-not_rises High Low h = (refl, refl)
falls-not_rises High High h = absurd (cc)
falls-not_rises High Unknown h = absurd (cc)
falls-not_rises Low y h = absurd (cc)
falls-not_rises Unknown y h = absurd (cc)

-- a line that rises doesn't fall
pub rises-not_falls : (x y : Level) → (is_low x && is_high y) ≡ true → (is_high x && is_low y) ≡ false
rises-not_falls Low High h = refl
rises-not_falls Low Low h = absurd (cc)
rises-not_falls Low Unknown h = absurd (cc)
rises-not_falls High y h = absurd (cc)
rises-not_falls Unknown y h = absurd (cc)

-- a line that is low before a step doesn't fall, and is low before or after it
low-not_falling : (x y : Level) → is_low x ≡ true → ((is_high x && is_low y) ≡ false)
    × (not (is_low x || is_low y) ≡ false)
low-not_falling Low y h = (refl, refl)
low-not_falling High y h = absurd (cc)
low-not_falling Unknown y h = absurd (cc)

-- each of four tests is true if their conjunction is
pub and-four_parts : (a b c d : Bool) → (a && b && c && d) ≡ true → (a ≡ true) × (b ≡ true) × (c ≡ true) × (d ≡ true)
and-four_parts true true true true h = (refl, refl, refl, refl)
and-four_parts false b c d h = absurd (cc)
and-four_parts true false c d h = absurd (cc)
and-four_parts true true false d h = absurd (cc)
and-four_parts true true true false h = absurd (cc)

-- if both answer lines are high wherever a transfer starts, neither is named as not high
answer_not_high-none : (s x y b c : Bool) (k l : ℕ) → (not s || (x && y)) ≡ true
    → cond s (first_of (not (x || b)) k (not (y || c)) l) None ≡ None
answer_not_high-none false x y b c k l h = refl
answer_not_high-none true true true b c k l h = refl
answer_not_high-none true true false b c k l h = absurd (cc)
answer_not_high-none true false y b c k l h = absurd (cc)

-- if the answer lines don't move, and AS* doesn't fall, the edges are those of the strobes and of a rise of AS*
strobes_edges-by_tests : (a b s c r0 r1 f0 f1 d e g h u : Bool) (x : CycleStart) (y : Bool) (o : Option ℕ) → a ≡ false
    → cond s o None ≡ None → d ≡ false → e ≡ false → g ≡ false → h ≡ false → u ≡ false
    → strobes_edges (first_of r0 DS0 r1 DS1) (first_of f0 DS0 f1 DS1) (cond s (Some y) None) c b
    ≡ edges_by_tests a b s c r0 r1
    f0 f1 d e g h u x y o
strobes_edges-by_tests a b s c r0 r1 f0 f1 d e g h u x y o pa po pd pe pg ph pu = rw (pa, po, pd, pe, pg, ph, pu) refl

module _ (v w : Levels) where
  -- the first answer line that is high neither before nor after the step
  abbrev answer_not_high_in : Option ℕ
  answer_not_high_in = first_of (is_answer_not_high v w DTACK) DTACK (is_answer_not_high v w BERR) BERR

  -- a step in which DTACK* alone falls while AS* is low has the edges of an answer
  pub answer_edges-between : is_answer_alone v w ≡ true → falls_between v w DTACK ≡ true → is_addressed v w ≡ true
      → answer_edges
      ≡ edges_between v w
  answer_edges-between alone falls addressed =
      let all = and-four_parts (stays_on v w AS) (stays_on v w DS0) (stays_on v w DS1) (stays_on v w BERR) alone in
      edges_by_tests-alike false false false false false false false false true false false false false
      _ _ _ _ _ _ _ _ _ _ _ _ _ (cycle_start_of w) (is_low (level_at w WRITE)) answer_not_high_in
      (falls_between-stays v w AS all.0)
      (rises_between-stays v w AS all.0) (starts_between-stays v w all.1 all.2) (closes_between-stays v w all.1 all.2)
      (rises_between-stays v w DS0 all.1) (rises_between-stays v w DS1 all.2)
      (falls_between-stays v w DS0 all.1) (falls_between-stays v w DS1 all.2) falls
      (falls_between-stays v w BERR all.3) (falls-not_rises (level_at v DTACK) (level_at w DTACK) falls).0
      (rises_between-stays v w BERR all.3)
      (not_from_true _ addressed)

  -- a step in which DTACK* alone rises has the edges of that
  pub ready_edges-between : is_answer_alone v w ≡ true → rises_between v w DTACK ≡ true
      → ready_edges (not (is_addressed v w))
      ≡ edges_between v w
  ready_edges-between alone rises =
      let all = and-four_parts (stays_on v w AS) (stays_on v w DS0) (stays_on v w DS1) (stays_on v w BERR) alone in
      edges_by_tests-alike false false false false false false false false false false true false
      (not (is_addressed v w)) _ _ _ _ _ _ _ _ _ _ _ _ (not (is_addressed v w)) (cycle_start_of w)
      (is_low (level_at w WRITE)) answer_not_high_in
      (falls_between-stays v w AS all.0) (rises_between-stays v w AS all.0) (starts_between-stays v w all.1 all.2)
      (closes_between-stays v w all.1 all.2) (rises_between-stays v w DS0 all.1)
      (rises_between-stays v w DS1 all.2) (falls_between-stays v w DS0 all.1) (falls_between-stays v w DS1 all.2)
      (rises-not_falls (level_at v DTACK) (level_at w DTACK) rises)
      (falls_between-stays v w BERR all.3) rises (rises_between-stays v w BERR all.3) refl

  -- a step in which AS* alone falls has the edges of the start of a cycle
  pub start_edges-between : is_start_alone v w ≡ true → start_edges (cycle_start_of w) ≡ edges_between v w
  start_edges-between alone =
      let all = and-five_parts (falls_between v w AS) (stays_on v w DS0) (stays_on v w DS1) (stays_on v w DTACK)
      (stays_on v w BERR) alone in
      let fall = falls-not_rises (level_at v AS) (level_at w AS) all.0 in
      edges_by_tests-alike true false false false false false false false false false false false false
      _ _ _ _ _ _ _ _ _ _ _ _ _ (cycle_start_of w)
      (is_low (level_at w WRITE)) answer_not_high_in all.0
      fall.0
      (starts_between-stays v w all.1 all.2) (closes_between-stays v w all.1 all.2) (rises_between-stays v w DS0 all.1)
      (rises_between-stays v w DS1 all.2) (falls_between-stays v w DS0 all.1)
      (falls_between-stays v w DS1 all.2) (falls_between-stays v w DTACK all.3) (falls_between-stays v w BERR all.4)
      (rises_between-stays v w DTACK all.3) (rises_between-stays v w BERR all.4) fall.1

  -- the edges of the strobes and of a rise of AS* between the levels
  abbrev pub strobes_here : Edges
  strobes_here =
      strobes_edges (first_of (rises_between v w DS0) DS0 (rises_between v w DS1) DS1)
      (first_of (falls_between v w DS0) DS0 (falls_between v w DS1) DS1)
      (cond (starts_between v w) (Some (is_low (level_at w WRITE))) None) (closes_between v w) (rises_between v w AS)

  -- a step in which the strobes move, from a low AS*, has the edges `strobes_here`
  pub strobes_here-between : is_strobes_alone v w ≡ true → strobes_here ≡ edges_between v w
  strobes_here-between alone =
      let all = and-four_parts (is_low (level_at v AS)) (stays_on v w DTACK) (stays_on v w BERR)
      (not (starts_between v w) || (is_high (level_at v DTACK) && is_high (level_at v BERR))) alone in
      let low = low-not_falling (level_at v AS) (level_at w AS) all.0 in
      strobes_edges-by_tests _ (rises_between v w AS) (starts_between v w) (closes_between v w) (rises_between v w DS0)
      (rises_between v w DS1) (falls_between v w DS0) (falls_between v w DS1) _ _ _ _ _ (cycle_start_of w)
      (is_low (level_at w WRITE)) answer_not_high_in low.0
      (answer_not_high-none (starts_between v w) (is_high (level_at v DTACK)) (is_high (level_at v BERR))
      (is_high (level_at w DTACK)) (is_high (level_at w BERR)) DTACK BERR all.3) (falls_between-stays v w DTACK all.1)
      (falls_between-stays v w BERR all.2) (rises_between-stays v w DTACK all.1) (rises_between-stays v w BERR all.2)
      low.1
