-- The state of a transfer, i.e. what has happened in it, and its phase say the same of answers and of writes, from one
-- step to the next.
use Rattle.std.proofs.Common.{◌≡◌, Bool, true, false, ◌||◌, ◌&&◌, not, refl, sym, ◌∙◌, cond}
use Rattle.std.specs.Prelude.{Option, None, Some, ℕ}
use Rattle.vme_trace.proofs.Ranges.{clash}
use Rattle.vme_monitor.specs.Tracking.{answered_by, is_writing}
use Rattle.vme_monitor.specs.declared.tracking.TransferPhase.{TransferPhase}
use Rattle.vme_monitor.specs.declared.tracking.TransferPhase.TheVariants as phase
use Rattle.vme_dtb.specs.HoldingNumbers.{has_risen, passed, was_answered, writes_of}
use Rattle.vme_dtb.specs.StabilityRules.{kept}
use Rattle.vme_dtb.specs.declared.holding.TransferState.{TransferState}
use Rattle.vme_dtb.specs.declared.holding.TransferState.TheVariants.{Fresh, RisenInRead, RisenInWrite, Answered, Over}

-- the transfer has an answer
abbrev pub is_answered_state : TransferPhase → Bool
is_answered_state phase.Answered = true
is_answered_state phase.Closed = false
is_answered_state phase.Reading = false
is_answered_state phase.Writing = false

-- no transfer is open
abbrev pub is_closed : TransferPhase → Bool
is_closed phase.Closed = true
is_closed phase.Reading = false
is_closed phase.Writing = false
is_closed phase.Answered = false

-- the state that `passed` makes has an answer as it says
pub was_answered-passed : (a r w : Bool) → was_answered (passed a r w) ≡ a
was_answered-passed true true true = refl
was_answered-passed true true false = refl
was_answered-passed true false true = refl
was_answered-passed true false false = refl
was_answered-passed false true true = refl
was_answered-passed false true false = refl
was_answered-passed false false true = refl
was_answered-passed false false false = refl

-- the state that `passed` makes has a risen strobe as it says
pub has_risen-passed : (a r w : Bool) → has_risen (passed a r w) ≡ r
has_risen-passed true true true = refl
has_risen-passed true true false = refl
has_risen-passed true false true = refl
has_risen-passed true false false = refl
has_risen-passed false true true = refl
has_risen-passed false true false = refl
has_risen-passed false false true = refl
has_risen-passed false false false = refl

-- the state by what a state says of itself is that state
pub passed-parts : (x : TransferState) (d : Bool) → passed (was_answered x) (has_risen x) (writes_of x d) ≡ x
passed-parts Fresh d = refl
passed-parts RisenInRead d = refl
passed-parts RisenInWrite d = refl
passed-parts Answered d = refl
passed-parts Over d = refl

-- if the strobes aren't both high after the step, no strobe has risen exactly if none had and none rises
pub not_risen-next : (k r s : Bool) → k ≡ false → (not r && not s) ≡ not (not k && (r || s))
not_risen-next true r s h = absurd (cc)
not_risen-next false true true h = refl
not_risen-next false true false h = refl
not_risen-next false false true h = refl
not_risen-next false false false h = refl

-- if no strobe had risen and none rises, none has risen
pub not_risen-start : (k r s : Bool) → r ≡ false → s ≡ false → true ≡ not (not k && (r || s))
not_risen-start true r s h j = refl
not_risen-start false r s h j = rw (h, j) refl

-- whether there is a write without an answer after the next step follows from the memory (state of the automaton) and
-- the levels
pub writes_of-next : (p : TransferPhase) (x : TransferState) (a s d e : Bool) → is_answered_state p ≡ was_answered x
    → (is_closed p ≡ true → has_risen x ≡ false) → (is_closed p ≡ true → s ≡ false)
    → (is_closed p ≡ false → writes_of x d ≡ is_writing p)
    → (((not (is_closed p) && not (has_risen x)) && not s) ≡ true → e ≡ d)
    → writes_of (passed (was_answered x || a) (has_risen x || s) (writes_of x d)) e
    ≡ is_writing (answered_by a (cond (is_closed p) (cond e phase.Writing phase.Reading) p))
writes_of-next phase.Closed RisenInRead a s d e h r j w t = absurd (clash true refl (r refl))
writes_of-next phase.Closed RisenInWrite a s d e h r j w t = absurd (clash true refl (r refl))
writes_of-next phase.Closed Answered a s d e h r j w t = absurd (cc)
writes_of-next phase.Closed Over a s d e h r j w t = absurd (clash true refl (r refl))
writes_of-next phase.Closed Fresh a true d e h r j w t = absurd (clash true refl (j refl))
writes_of-next phase.Closed Fresh true false d true h r j w t = refl
writes_of-next phase.Closed Fresh true false d false h r j w t = refl
writes_of-next phase.Closed Fresh false false d true h r j w t = refl
writes_of-next phase.Closed Fresh false false d false h r j w t = refl
writes_of-next phase.Reading Fresh true true d e h r j w t = refl
writes_of-next phase.Reading Fresh true false d e h r j w t = refl
writes_of-next phase.Reading Fresh false true true e h r j w t = absurd (clash true refl (w refl))
writes_of-next phase.Reading Fresh false true false e h r j w t = refl
writes_of-next phase.Reading Fresh false false d e h r j w t = t refl ∙ w refl
writes_of-next phase.Reading RisenInRead true s d e h r j w t = refl
writes_of-next phase.Reading RisenInRead false s d e h r j w t = refl
writes_of-next phase.Reading RisenInWrite a s d e h r j w t = absurd (clash true refl (w refl))
writes_of-next phase.Reading Answered a s d e h r j w t = absurd (cc)
writes_of-next phase.Reading Over a s d e h r j w t = absurd (cc)
writes_of-next phase.Writing Fresh true true d e h r j w t = refl
writes_of-next phase.Writing Fresh true false d e h r j w t = refl
writes_of-next phase.Writing Fresh false true true e h r j w t = refl
writes_of-next phase.Writing Fresh false true false e h r j w t = absurd (clash false (w refl) refl)
writes_of-next phase.Writing Fresh false false d e h r j w t = t refl ∙ w refl
writes_of-next phase.Writing RisenInRead a s d e h r j w t = absurd (clash false (w refl) refl)
writes_of-next phase.Writing RisenInWrite true s d e h r j w t = refl
writes_of-next phase.Writing RisenInWrite false s d e h r j w t = refl
writes_of-next phase.Writing Answered a s d e h r j w t = absurd (cc)
writes_of-next phase.Writing Over a s d e h r j w t = absurd (cc)
writes_of-next phase.Answered Fresh a s d e h r j w t = absurd (cc)
writes_of-next phase.Answered RisenInRead a s d e h r j w t = absurd (cc)
writes_of-next phase.Answered RisenInWrite a s d e h r j w t = absurd (cc)
writes_of-next phase.Answered Answered true true d e h r j w t = refl
writes_of-next phase.Answered Answered true false d e h r j w t = refl
writes_of-next phase.Answered Answered false true d e h r j w t = refl
writes_of-next phase.Answered Answered false false d e h r j w t = refl
writes_of-next phase.Answered Over true s d e h r j w t = refl
writes_of-next phase.Answered Over false s d e h r j w t = refl

-- where no transfer is open, none has an answer
was_answered-closed : (p : TransferPhase) (x : TransferState) → true ≡ is_closed p → is_answered_state p
    ≡ was_answered x
    → false ≡ was_answered x
was_answered-closed phase.Closed x c h = h
was_answered-closed phase.Reading x c h = absurd (cc)
was_answered-closed phase.Writing x c h = absurd (cc)
was_answered-closed phase.Answered x c h = absurd (cc)

-- if the strobes aren't both high after the next step, whether there is a write without an answer then follows from the
-- tests on the levels
pub writes_of-by_strobes : (p : TransferPhase) (x : TransferState) (h l k a s d e : Bool) → h ≡ is_closed p → l ≡ not k
    → k
    ≡ false
    → is_answered_state p ≡ was_answered x
    → (h ≡ true → has_risen x ≡ false) → (h ≡ true → s ≡ false) → (h ≡ false → writes_of x d ≡ is_writing p)
    → (((not h && not (has_risen x)) && not s) ≡ true → e ≡ d)
    → writes_of (passed (not k && (was_answered x || a)) (not k && (has_risen x || s)) (writes_of x d)) e
    ≡ is_writing (cond k phase.Closed (answered_by a (cond (h && l) (cond e phase.Writing phase.Reading) p)))
writes_of-by_strobes p x true l true a s d e c low inside answered risen rises directed still = absurd (cc)
writes_of-by_strobes p x false l true a s d e c low inside answered risen rises directed still = absurd (cc)
writes_of-by_strobes p x true l false a s d e c low inside answered risen rises directed still = rw low (by_state p c)
  where
    unanswered : false ≡ was_answered x
    unanswered = was_answered-closed p x c answered

    by_state : (p : TransferPhase) → true ≡ is_closed p → writes_of (passed (was_answered x || a) (has_risen x || s)
        (writes_of x d)) e ≡ is_writing (answered_by a (cond true (cond e phase.Writing phase.Reading) p))
    by_state phase.Closed c = writes_of-next phase.Closed x a s d e unanswered (λ y. risen refl) (λ y. rises refl)
        (λ y. absurd (clash true refl y)) (λ y. absurd (clash false y refl))
    by_state phase.Reading c = absurd (cc)
    by_state phase.Writing c = absurd (cc)
    by_state phase.Answered c = absurd (cc)
writes_of-by_strobes p x false l false a s d e c low inside answered risen rises directed still =
    by_state p c answered directed
  where
    by_state : (p : TransferPhase) → false ≡ is_closed p → is_answered_state p ≡ was_answered x
        → (false ≡ false → writes_of x d ≡ is_writing p) → writes_of (passed (was_answered x || a) (has_risen x || s)
        (writes_of x d)) e ≡ is_writing (answered_by a p)
    by_state phase.Closed c h w = absurd (cc)
    by_state phase.Reading c h w = writes_of-next phase.Reading x a s d e h (λ y. absurd (clash false y refl))
        (λ y. absurd (clash false y refl)) w still
    by_state phase.Writing c h w = writes_of-next phase.Writing x a s d e h (λ y. absurd (clash false y refl))
        (λ y. absurd (clash false y refl)) w still
    by_state phase.Answered c h w = writes_of-next phase.Answered x a s d e h (λ y. absurd (clash false y refl))
        (λ y. absurd (clash false y refl)) w still

-- whether the instant after the step is in a write that had no answer, by the memory and the levels
pub is_writing-entered : (p : TransferPhase) (h l e z : Bool) → h ≡ is_closed p → (h ≡ false → z ≡ is_writing p)
    → is_writing (cond (h && l) (cond e phase.Writing phase.Reading) p) ≡ cond h (l && e) z
is_writing-entered phase.Closed true true true z c d = refl
is_writing-entered phase.Closed true true false z c d = refl
is_writing-entered phase.Closed true false e z c d = refl
is_writing-entered phase.Closed false l e z c d = absurd (cc)
is_writing-entered phase.Reading true l e z c d = absurd (cc)
is_writing-entered phase.Reading false l e z c d = sym (d refl)
is_writing-entered phase.Writing true l e z c d = absurd (cc)
is_writing-entered phase.Writing false l e z c d = sym (d refl)
is_writing-entered phase.Answered true l e z c d = absurd (cc)
is_writing-entered phase.Answered false l e z c d = sym (d refl)

-- the data of an open write are held if it has had no answer and no rising strobe
pub keeps_data-by_state : (x : TransferState) (a s d : Bool) → (writes_of x d && not a && (not (has_risen x) && not s))
    ≡ ((((true && not (has_risen x)) && not s) && not (was_answered x) && not a) && d)
keeps_data-by_state Fresh true true true = refl
keeps_data-by_state Fresh true true false = refl
keeps_data-by_state Fresh true false true = refl
keeps_data-by_state Fresh true false false = refl
keeps_data-by_state Fresh false true true = refl
keeps_data-by_state Fresh false true false = refl
keeps_data-by_state Fresh false false true = refl
keeps_data-by_state Fresh false false false = refl
keeps_data-by_state RisenInRead true true true = refl
keeps_data-by_state RisenInRead true true false = refl
keeps_data-by_state RisenInRead true false true = refl
keeps_data-by_state RisenInRead true false false = refl
keeps_data-by_state RisenInRead false true true = refl
keeps_data-by_state RisenInRead false true false = refl
keeps_data-by_state RisenInRead false false true = refl
keeps_data-by_state RisenInRead false false false = refl
keeps_data-by_state RisenInWrite true true true = refl
keeps_data-by_state RisenInWrite true true false = refl
keeps_data-by_state RisenInWrite true false true = refl
keeps_data-by_state RisenInWrite true false false = refl
keeps_data-by_state RisenInWrite false true true = refl
keeps_data-by_state RisenInWrite false true false = refl
keeps_data-by_state RisenInWrite false false true = refl
keeps_data-by_state RisenInWrite false false false = refl
keeps_data-by_state Answered true true true = refl
keeps_data-by_state Answered true true false = refl
keeps_data-by_state Answered true false true = refl
keeps_data-by_state Answered true false false = refl
keeps_data-by_state Answered false true true = refl
keeps_data-by_state Answered false true false = refl
keeps_data-by_state Answered false false true = refl
keeps_data-by_state Answered false false false = refl
keeps_data-by_state Over true true true = refl
keeps_data-by_state Over true true false = refl
keeps_data-by_state Over true false true = refl
keeps_data-by_state Over true false false = refl
keeps_data-by_state Over false true true = refl
keeps_data-by_state Over false true false = refl
keeps_data-by_state Over false false true = refl
keeps_data-by_state Over false false false = refl

-- a line is kept if b holds
pub kept-cond : (b : Bool) (o : Option ℕ) → kept b o ≡ cond b o None
kept-cond true None = refl
kept-cond true (Some l) = refl
kept-cond false None = refl
kept-cond false (Some l) = refl
