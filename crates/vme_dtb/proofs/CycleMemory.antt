-- The phase of the last cycle in the memory (the state of the automaton) is that of the definitions.
use Rattle.std.proofs.Common.{◌≡◌, ℕ, suc, ◌+◌, ◌≤◌, Bool, true, false, ◌&&◌, ◌||◌, not, List, [], ◌∷◌, ◌++◌, refl, sym}
use Rattle.std.proofs.Common.{◌∙◌, ap, arith, add-one, Option, Some, None, cond}
use Rattle.std.specs.Option.{option_map_or}
use Rattle.std.proofs.lemmas.List.{append-nil}
use Rattle.vme_trace.specs.Instants.{greatest}
use Rattle.vme_trace.specs.Trace.{Trace, levels_at}
use Rattle.vme_trace.specs.Judged.{Stretch}
use Rattle.vme_trace.specs.Transfers.{is_answer, answers_write}
use Rattle.vme_trace.specs.Cycles.{cycle_starts, class_at, cycle_of, in_cycle, answers_of}
use Rattle.vme_trace.specs.Rules.{is_single, is_block_class, is_interrupt, has_earlier_answer, breaks_read_modify_write}
use Rattle.vme_trace.specs.Rules.{changes_direction, differ}
use Rattle.vme_trace.specs.declared.class.Class.{Class}
use Rattle.vme_trace.specs.declared.class.Class.TheVariants as class
use Rattle.vme_trace.proofs.Ranges.{greatest-empty, those-empty, greatest-below}
use Rattle.vme_dtb.specs.CycleState.{unanswered_of, cycle_entered, after_answer, is_read_modify_write_broken}
use Rattle.vme_dtb.specs.CycleState.{is_direction_changed}
use Rattle.vme_dtb.specs.CycleState.{is_interrupt_acknowledge, is_answered_interrupt_acknowledge}
use Rattle.vme_dtb.specs.Edge.{cycle_start_of}
use Rattle.vme_dtb.specs.declared.cycle.CyclePhase.{CyclePhase}
use Rattle.vme_dtb.specs.declared.cycle.CyclePhase.TheVariants.{Free, Single, SingleRead, SingleDone, Block}
use Rattle.vme_dtb.specs.declared.cycle.CyclePhase.TheVariants.{BlockReading}
use Rattle.vme_dtb.specs.declared.cycle.CyclePhase.TheVariants.{BlockWriting, Interrupt, InterruptDone}
use Rattle.vme_dtb.proofs.Searches.{greatest-next, those-next}

module _ (t : Trace) (stretch : Stretch) where
  -- the phase of a cycle of the class with answers at these instants
  abbrev pub phase_by_answers : Class → List ℕ → CyclePhase
  phase_by_answers class.F rs = Free
  phase_by_answers class.S [] = Single
  phase_by_answers class.S (r ∷ []) = cond (answers_write t stretch r) SingleDone SingleRead
  phase_by_answers class.S (r ∷ q ∷ rs) = SingleDone
  phase_by_answers class.K [] = Block
  phase_by_answers class.K (r ∷ rs) = cond (answers_write t stretch r) BlockWriting BlockReading
  phase_by_answers class.I [] = Interrupt
  phase_by_answers class.I (r ∷ rs) = InterruptDone

  -- the phase of the cycle that starts at i, by its answers before n
  abbrev pub phase_of_cycle : Option ℕ → ℕ → CyclePhase
  phase_of_cycle None n = Free
  phase_of_cycle (Some i) n = phase_by_answers (class_at t i) (answers_of t stretch i n)

  -- the phase of the cycle to which an answer at j belongs, by the answers before j
  abbrev pub cycle_before : ℕ → CyclePhase
  cycle_before j = phase_of_cycle (cycle_of t stretch j) j

  -- the phase of the cycle to which an answer at j belongs, by the answers up to j
  abbrev pub cycle_after : ℕ → CyclePhase
  cycle_after j = phase_of_cycle (cycle_of t stretch j) (suc j)

  -- a cycle without answers has the phase of its class
  phase_by_answers-none : (c : Class) → phase_by_answers c [] ≡ unanswered_of c
  phase_by_answers-none class.S = refl
  phase_by_answers-none class.K = refl
  phase_by_answers-none class.I = refl
  phase_by_answers-none class.F = refl

  -- one more answer, at j, makes the next phase
  phase_by_answers-next : (c : Class) (rs : List ℕ) (j : ℕ) → phase_by_answers c (rs ++ j ∷ [])
      ≡ after_answer (phase_by_answers c rs)
      (answers_write t stretch j)
  phase_by_answers-next class.F rs j = refl
  phase_by_answers-next class.S [] j = by_write (answers_write t stretch j)
    where
      by_write : (b : Bool) → cond b SingleDone SingleRead ≡ after_answer Single b
      by_write true = refl
      by_write false = refl
  phase_by_answers-next class.S (r ∷ []) j = by_write (answers_write t stretch r) (answers_write t stretch j)
    where
      by_write : (a b : Bool) → SingleDone ≡ after_answer (cond a SingleDone SingleRead) b
      by_write true b = refl
      by_write false b = refl
  phase_by_answers-next class.S (r ∷ q ∷ rs) j = refl
  phase_by_answers-next class.K [] j = by_write (answers_write t stretch j)
    where
      by_write : (b : Bool) → cond b BlockWriting BlockReading ≡ after_answer Block b
      by_write true = refl
      by_write false = refl
  phase_by_answers-next class.K (r ∷ rs) j = by_write (answers_write t stretch r) (answers_write t stretch j)
    where
      by_write : (a b : Bool) → cond a BlockWriting BlockReading ≡ after_answer (cond a BlockWriting BlockReading) b
      by_write true b = refl
      by_write false b = refl
  phase_by_answers-next class.I [] j = refl
  phase_by_answers-next class.I (r ∷ rs) j = refl

  -- the last cycle to start up to n + 1: one that starts there, or else the last one up to n
  cycle_of-next : (n : ℕ) → stretch.start ≤ n → cycle_of t stretch (suc n)
      ≡ cond (cycle_starts t stretch (suc n)) (Some (suc n))
      (cycle_of t stretch n)
  unfolding cycle_of
  cycle_of-next n from =
      ap (greatest (cycle_starts t stretch) (stretch.start + 1)) (add-one (suc n))
      ∙ greatest-next (cycle_starts t stretch) (stretch.start + 1) (suc n) (omega arith)
      ∙ ap (λ k. cond (cycle_starts t stretch (suc n)) (Some (suc n))
      (greatest (cycle_starts t stretch) (stretch.start + 1) k))
      (sym (add-one n))

  -- the last cycle to start up to j starts at j or before
  cycle_of-within : (j i : ℕ) → cycle_of t stretch j ≡ Some i → i ≤ j
  unfolding cycle_of
  cycle_of-within j i h = omega (arith, greatest-below (cycle_starts t stretch) (stretch.start + 1) (j + 1) i h)

  -- the answers before j + 1 are those before j, and j if it is an answer
  answers_of-next : (i j : ℕ) → i ≤ j → answers_of t stretch i (suc j) ≡ answers_of t stretch i j
      ++ cond (is_answer t stretch j)
      (j ∷ []) []
  unfolding answers_of
  answers_of-next i j h = those-next (is_answer t stretch) i j h

  -- a cycle has no answers before its start
  answers_of-none : (i : ℕ) → answers_of t stretch i i ≡ []
  unfolding answers_of
  answers_of-none i = those-empty (is_answer t stretch) i i (omega arith)

  -- at the start of the stretch no cycle has started, so its phase is `Free`
  pub cycle_after-start : cycle_after stretch.start ≡ Free
  unfolding cycle_of
  cycle_after-start = ap (λ o. phase_of_cycle o (suc stretch.start))
      (greatest-empty (cycle_starts t stretch) (stretch.start + 1)
      (stretch.start + 1) (omega arith))

  -- instant n + 1 is in the cycle that starts there, or else in that of instant n
  pub cycle_before-next : (n : ℕ) → stretch.start ≤ n → cycle_before (suc n) ≡ cycle_entered (cycle_after n)
      (cond (cycle_starts t stretch (suc n)) (Some (cycle_start_of (levels_at t (suc n)))) None)
  cycle_before-next n from = ap (λ o. phase_of_cycle o (suc n)) (cycle_of-next n from)
      ∙ by_start (cycle_starts t stretch (suc n))
    where
      by_start : (b : Bool) → phase_of_cycle (cond b (Some (suc n)) (cycle_of t stretch n)) (suc n)
          ≡ cycle_entered (cycle_after n) (cond b (Some (cycle_start_of (levels_at t (suc n)))) None)
      by_start true = ap (phase_by_answers (class_at t (suc n))) (answers_of-none (suc n))
          ∙ phase_by_answers-none (class_at t (suc n))
      by_start false = refl

  -- the phase after instant j is that before j, with the answer at j if there is one
  pub cycle_after-answer : (j : ℕ) → cycle_after j ≡ cond (is_answer t stretch j)
      (after_answer (cycle_before j) (answers_write t stretch j)) (cycle_before j)
  cycle_after-answer j = by_cycle (cycle_of t stretch j) refl
    where
      none : (b w : Bool) → Free ≡ cond b (after_answer Free w) Free
      none true w = refl
      none false w = refl

      by_answer : (c : Class) (rs : List ℕ) (b : Bool) → phase_by_answers c (rs ++ cond b (j ∷ []) [])
          ≡ cond b (after_answer (phase_by_answers c rs) (answers_write t stretch j)) (phase_by_answers c rs)
      by_answer c rs true = phase_by_answers-next c rs j
      by_answer c rs false = ap (phase_by_answers c) (append-nil rs)

      by_cycle : (o : Option ℕ) → cycle_of t stretch j ≡ o → phase_of_cycle o (suc j) ≡ cond (is_answer t stretch j)
          (after_answer (phase_of_cycle o j) (answers_write t stretch j)) (phase_of_cycle o j)
      by_cycle None e = none (is_answer t stretch j) (answers_write t stretch j)
      by_cycle (Some i) e = ap (phase_by_answers (class_at t i)) (answers_of-next i j (cycle_of-within j i e))
          ∙ by_answer (class_at t i) (answers_of t stretch i j) (is_answer t stretch j)

  -- whether an answer at j breaks C1, by the class and the phase
  breaks_read_modify_write-phase : (c : Class) (rs : List ℕ) (j : ℕ)
      → (is_single c && breaks_read_modify_write t stretch rs j) ≡ is_read_modify_write_broken (phase_by_answers c rs)
      (answers_write t stretch j)
  unfolding breaks_read_modify_write
  breaks_read_modify_write-phase class.S [] j = refl
  breaks_read_modify_write-phase class.S (r ∷ []) j = by_write (answers_write t stretch r) (answers_write t stretch j)
    where
      by_write : (a b : Bool) → (a || not b) ≡ is_read_modify_write_broken (cond a SingleDone SingleRead) b
      by_write true b = refl
      by_write false b = refl
  breaks_read_modify_write-phase class.S (r ∷ q ∷ rs) j = refl
  breaks_read_modify_write-phase class.K [] j = refl
  breaks_read_modify_write-phase class.K (r ∷ rs) j = by_write (answers_write t stretch r) (answers_write t stretch j)
    where
      by_write : (a b : Bool) → false ≡ is_read_modify_write_broken (cond a BlockWriting BlockReading) b
      by_write true b = refl
      by_write false b = refl
  breaks_read_modify_write-phase class.I [] j = refl
  breaks_read_modify_write-phase class.I (r ∷ rs) j = refl
  breaks_read_modify_write-phase class.F rs j = refl

  -- whether an answer at j changes the direction of a block transfer, by the phase
  changes_direction-phase : (c : Class) (rs : List ℕ) (j : ℕ) → (is_block_class c && changes_direction t stretch rs j)
      ≡ is_direction_changed (phase_by_answers c rs) (answers_write t stretch j)
  unfolding changes_direction
  changes_direction-phase class.S [] j = refl
  changes_direction-phase class.S (r ∷ []) j = by_write (answers_write t stretch r) (answers_write t stretch j)
    where
      by_write : (a b : Bool) → false ≡ is_direction_changed (cond a SingleDone SingleRead) b
      by_write true b = refl
      by_write false b = refl
  changes_direction-phase class.S (r ∷ q ∷ rs) j = refl
  changes_direction-phase class.K [] j = refl
  changes_direction-phase class.K (r ∷ rs) j = by_write (answers_write t stretch r) (answers_write t stretch j)
    where
      by_write : (a b : Bool) → differ a b ≡ is_direction_changed (cond a BlockWriting BlockReading) b
      by_write true true = refl
      by_write true false = refl
      by_write false true = refl
      by_write false false = refl
  changes_direction-phase class.I [] j = refl
  changes_direction-phase class.I (r ∷ rs) j = refl
  changes_direction-phase class.F rs j = refl

  -- a test `f` of the class and the answers of a cycle is the test `is` of the cycle's phase, if it is for each phase
  pub is-phase_by_answers : (f : Class → List ℕ → Bool) (is : CyclePhase → Bool)
      → ((rs : List ℕ) → f class.F rs ≡ is Free) → f class.S [] ≡ is Single
      → ((r : ℕ) → f class.S (r ∷ []) ≡ is SingleRead) → ((r : ℕ) (rs : List ℕ) → f class.S (r ∷ rs) ≡ is SingleDone)
      → f class.K [] ≡ is Block → ((r : ℕ) (rs : List ℕ) → f class.K (r ∷ rs) ≡ is BlockReading)
      → ((r : ℕ) (rs : List ℕ) → f class.K (r ∷ rs) ≡ is BlockWriting) → f class.I [] ≡ is Interrupt
      → ((r : ℕ) (rs : List ℕ) → f class.I (r ∷ rs) ≡ is InterruptDone)
      → (c : Class) (rs : List ℕ) → f c rs ≡ is (phase_by_answers c rs)
  is-phase_by_answers f is free single read done block reading writing started ended class.F rs = free rs
  is-phase_by_answers f is free single read done block reading writing started ended class.S [] = single
  is-phase_by_answers f is free single read done block reading writing started ended class.S (r ∷ []) =
      by_write (answers_write t stretch r)
    where
      by_write : (b : Bool) → f class.S (r ∷ []) ≡ is (cond b SingleDone SingleRead)
      by_write true = done r []
      by_write false = read r
  is-phase_by_answers f is free single read done block reading writing started ended class.S (r ∷ q ∷ rs) =
      done r (q ∷ rs)
  is-phase_by_answers f is free single read done block reading writing started ended class.K [] = block
  is-phase_by_answers f is free single read done block reading writing started ended class.K (r ∷ rs) =
      by_write (answers_write t stretch r)
    where
      by_write : (b : Bool) → f class.K (r ∷ rs) ≡ is (cond b BlockWriting BlockReading)
      by_write true = writing r rs
      by_write false = reading r rs
  is-phase_by_answers f is free single read done block reading writing started ended class.I [] = started
  is-phase_by_answers f is free single read done block reading writing started ended class.I (r ∷ rs) = ended r rs

  -- the same of the test on the cycle at j, by its answers before j
  pub in_cycle-phase : (f : Class → List ℕ → Bool) (is : CyclePhase → Bool) → false ≡ is Free
      → ((c : Class) (rs : List ℕ) → f c rs ≡ is (phase_by_answers c rs))
      → (j : ℕ) → in_cycle t stretch (λ i. f (class_at t i) (answers_of t stretch i j)) j ≡ is (cycle_before j)
  unfolding in_cycle
  in_cycle-phase f is none law j = by_cycle (cycle_of t stretch j)
    where
      by_cycle : (o : Option ℕ) → option_map_or (λ i. f (class_at t i) (answers_of t stretch i j)) o false
          ≡ is (phase_of_cycle o j)
      by_cycle None = none
      by_cycle (Some i) = law (class_at t i) (answers_of t stretch i j)

  -- whether a cycle is an interrupt acknowledge, by its phase
  is_interrupt-phase : (c : Class) (rs : List ℕ) → is_interrupt c ≡ is_interrupt_acknowledge (phase_by_answers c rs)
  is_interrupt-phase =
      is-phase_by_answers (λ c rs. is_interrupt c) is_interrupt_acknowledge (λ rs. refl) refl (λ r. refl) (λ r rs. refl)
      refl (λ r rs. refl) (λ r rs. refl) refl (λ r rs. refl)

  -- whether a cycle is an interrupt acknowledge with an answer, by its phase
  has_earlier_answer-phase : (c : Class) (rs : List ℕ) → (is_interrupt c && has_earlier_answer rs)
      ≡ is_answered_interrupt_acknowledge (phase_by_answers c rs)
  has_earlier_answer-phase =
      is-phase_by_answers (λ c rs. is_interrupt c && has_earlier_answer rs) is_answered_interrupt_acknowledge
      (λ rs. refl) refl (λ r. refl) (λ r rs. refl) refl (λ r rs. refl) (λ r rs. refl) refl (λ r rs. refl)

  -- the test of C1 on a cycle is the one of its phase
  pub in_broken_read_modify_write : (j : ℕ) → in_cycle t stretch (λ i. is_single (class_at t i)
      && breaks_read_modify_write t stretch
      (answers_of t stretch i j) j) j ≡ is_read_modify_write_broken (cycle_before j) (answers_write t stretch j)
  in_broken_read_modify_write j =
      in_cycle-phase (λ c rs. is_single c && breaks_read_modify_write t stretch rs j)
      (λ p. is_read_modify_write_broken p (answers_write t stretch j)) refl
      (λ c rs. breaks_read_modify_write-phase c rs j) j

  -- the test of C2 on a cycle is the one of its phase
  pub in_changed_direction : (j : ℕ) → in_cycle t stretch (λ i. is_block_class (class_at t i)
      && changes_direction t stretch (answers_of t stretch i j) j) j ≡ is_direction_changed (cycle_before j)
      (answers_write t stretch j)
  in_changed_direction j =
      in_cycle-phase (λ c rs. is_block_class c && changes_direction t stretch rs j)
      (λ p. is_direction_changed p (answers_write t stretch j)) refl (λ c rs. changes_direction-phase c rs j) j

  -- the test of I4 on a cycle is the one of its phase
  pub in_interrupt_acknowledge : (j : ℕ) → in_cycle t stretch (λ i. is_interrupt (class_at t i)) j
      ≡ is_interrupt_acknowledge (cycle_before j)
  in_interrupt_acknowledge =
      in_cycle-phase (λ c rs. is_interrupt c) is_interrupt_acknowledge refl is_interrupt-phase

  -- the test of I5 on a cycle is the one of its phase
  pub in_answered_interrupt_acknowledge : (j : ℕ) → in_cycle t stretch (λ i. is_interrupt (class_at t i)
      && has_earlier_answer (answers_of t stretch i j)) j ≡ is_answered_interrupt_acknowledge (cycle_before j)
  in_answered_interrupt_acknowledge =
      in_cycle-phase (λ c rs. is_interrupt c && has_earlier_answer rs) is_answered_interrupt_acknowledge refl
      has_earlier_answer-phase
