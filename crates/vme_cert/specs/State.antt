-- What the state of a stretch says: of the cycles and transfers that started before instant `opened`, and of what
-- happened before instant `j`, which is `opened` or the one before it.
use Rattle.std.specs.Prelude.{◌≡◌, ℕ, ◌+◌, ◌-◌, ◌<◌, ◌&&◌, Bool, true, false, get_or, List, [], ◌∷◌, None, Some, not}
use Rattle.std.specs.Prelude.{nat_lt}
use Rattle.vme_cert.specs.Vocabulary.{AS, BBSY, BERR, BR, DTACK, IsStretchOf, Stretch, Trace, answers_of, answers_write}
use Rattle.vme_cert.specs.Vocabulary.{any, class_at, cycle_starts, falls, grant_falls, greatest, in_transfer, is_answer}
use Rattle.vme_cert.specs.Vocabulary.{is_answered, is_judged, has_earlier_answer, is_write, last_before, levels_at, low}
use Rattle.vme_cert.specs.Vocabulary.{needs_of, none, rises, strobe_rises, strobes_high, transfer_starts}
use Rattle.vme_cert.specs.Instant.{IsBusOf}
use Rattle.vme_cert.specs.declared.bus.Bus.{Bus}
use Rattle.vme_cert.specs.declared.state.Cycle.{Cycle}
use Rattle.vme_cert.specs.declared.state.State.{State}
use Rattle.vme_cert.specs.declared.state.Transfer.{Transfer}

-- there are two or more
abbrev pub is_many : List ℕ → Bool
is_many [] = false
is_many (r ∷ []) = false
is_many (r ∷ q ∷ rs) = true

module _ (t : Trace) (stretch : Stretch) where
  -- the first of some answers is that of a write
  abbrev pub writes_first : List ℕ → Bool
  writes_first [] = false
  writes_first (r ∷ rs) = answers_write t stretch r

  -- DTACK* answers a transfer of the cycle that starts at i, before j
  abbrev pub is_answered_by_dtack : ℕ → ℕ → Bool
  is_answered_by_dtack i j = any (λ r. is_answer t stretch r && falls t DTACK r) i j

  -- `c` is the last cycle to start before `opened`, as it is before `j`
  pub record IsLastCycle (opened j : ℕ) (c : Cycle) : Type 0 where
    pub last : greatest (cycle_starts t stretch) (stretch.start + 1) opened ≡ Some c.start
    pub class : c.class ≡ class_at t c.start
    pub needs : c.needs ≡ needs_of (levels_at t c.start)
    pub runs : c.runs ≡ none (rises t AS) (c.start + 1) j
    -- while it runs AS* is low, so none starts; and each earlier one has ended
    pub is_low : c.runs ≡ true → c.start < j → low t AS (j - 1) ≡ true
    pub others : (i : ℕ) → cycle_starts t stretch i ≡ true → i < c.start → none (rises t AS) (i + 1) j ≡ false
    -- its answers before `j`: there is one, the first is that of a write, there are two or more, one is by DTACK*
    pub answered : c.answered ≡ has_earlier_answer (answers_of t stretch c.start j)
    pub first_writes : c.first_writes ≡ writes_first (answers_of t stretch c.start j)
    pub answered_again : c.answered_again ≡ is_many (answers_of t stretch c.start j)
    pub answered_by_dtack : c.answered_by_dtack ≡ is_answered_by_dtack c.start j

  -- `c` is the last cycle to start, or none has started
  pub record IsCycle (opened j : ℕ) (c : Cycle) : Type 0 where
    pub here : c.has_started ≡ true → IsLastCycle opened j c
    pub absent : c.has_started ≡ false → greatest (cycle_starts t stretch) (stretch.start + 1) opened ≡ None

  -- `c` is the last transfer to start before `opened`, as it is before `j`, where it hasn't closed
  pub record IsOpenTransfer (opened j : ℕ) (c : Transfer) : Type 0 where
    pub last : greatest (transfer_starts t stretch) (stretch.start + 1) opened ≡ Some c.start
    pub still : none (strobes_high t) (c.start + 1) j ≡ true
    pub direction : c.is_write ≡ is_write t stretch c.start
    pub answered : c.answered ≡ is_answered t stretch c.start j
    pub rose : c.rose ≡ any (strobe_rises t) (c.start + 1) j

  -- each transfer that starts before `opened` has closed before `j`
  abbrev pub AreClosed : ℕ → ℕ → Type 0
  AreClosed opened j = (i : ℕ) → i < opened → transfer_starts t stretch i ≡ true → any (strobes_high t) (i + 1) j ≡ true

  -- `c` is the open transfer, or each transfer has closed
  pub record IsTransfer (opened j : ℕ) (c : Transfer) : Type 0 where
    pub here : c.is_open ≡ true → IsOpenTransfer opened j c
    pub absent : c.is_open ≡ false → AreClosed opened j

  -- before `j` a strobe rose since line `l` last fell, or since the start of the stretch if it hasn't fallen
  abbrev pub is_freed : ℕ → ℕ → Bool
  is_freed l j = any (strobe_rises t) (last_before t stretch (falls t l) j) j

  -- before `j` level `n` was requested since the last grant, or since the start of the stretch if there was none
  abbrev pub is_requested : ℕ → ℕ → Bool
  is_requested n j = any (low t (BR n)) (last_before t stretch (grant_falls t) j) j

  -- the four flags say which levels were requested
  abbrev pub AreRequested : ℕ → List Bool → Type 0
  AreRequested j levels = (n : ℕ) → n < 4 → get_or levels n false ≡ is_requested n j

  -- before `j` a grant came after the bus last became busy, or after the start of the stretch if it hasn't
  abbrev pub is_granted : ℕ → Bool
  is_granted j = any (grant_falls t) (last_before t stretch (falls t BBSY) j + 1) j

  -- the state is right before instant `j`
  pub record Holds (opened j : ℕ) (state : State) : Type 0 where
    pub cycle : IsCycle opened j state.cycle
    pub transfer : IsTransfer opened j state.transfer
    pub dtack_may_rise : state.dtack_may_rise ≡ is_freed DTACK j
    pub berr_may_rise : state.berr_may_rise ≡ is_freed BERR j
    pub requested : AreRequested j state.requested
    pub granted : state.granted ≡ is_granted j

-- the bus is at a judged instant of a stretch, and the state is that of the instants before it, with the cycle and the
-- transfer that start there
pub record IsStateOf (t : Trace) (stretch : Stretch) (bus : Bus) (state : State) : Type 0 where
  pub at : IsBusOf t bus
  pub is : IsStretchOf t stretch
  pub judged : is_judged stretch bus.instant ≡ true
  pub holds : Holds t stretch (bus.instant + 1) bus.instant state

-- ---- What rules ask of the transfer of an instant.

-- `answer` is the condition at the instant, for each recording and stretch that the levels and the state are of
abbrev pub DecidesCondition : Bus → State → Bool → (Trace → Stretch → ℕ → Bool) → Type 0
DecidesCondition bus state answer condition = (t : Trace) (stretch : Stretch) → IsStateOf t stretch bus state
    → answer ≡ condition t stretch bus.instant

module _ (t : Trace) (stretch : Stretch) where
  -- the transfer of instant `j` started before it, and isn't answered up to it
  abbrev pub is_unanswered : ℕ → Bool
  is_unanswered j = in_transfer t stretch (λ i. nat_lt i j && not (is_answered t stretch i (j + 1))) j

  -- the transfer of instant `j` is a write that started before it, isn't answered up to it, and no strobe rose since
  abbrev pub is_data_held : ℕ → Bool
  is_data_held j =
      in_transfer t stretch (λ i. nat_lt i j && is_write t stretch i && not (is_answered t stretch i (j + 1))
      && none (strobe_rises t) (i + 1) (j + 1)) j
