-- The times of a body without a fault: they don't go back, and each instant has one of them, or 0.
use Rattle.std.proofs.Common.{◌≡◌, ℕ, Bool, true, false, eqb, List, [], ◌∷◌, Result, Ok, sym, ap, subst}
use Rattle.std.proofs.Common.{true≢false, ◌⊎◌, inl, inr}
use Rattle.std.specs.Prelude.{◌||◌}
use Rattle.std.specs.Result.{result_ok}
use Rattle.std.specs.List.{cons_option}
use Rattle.std.proofs.lemmas.Bool.{eq-eqb, eqb-true, or_cases, or_right}
use Rattle.vcd_read.specs.declared.fault.FaultKind.{FaultKind}
use Rattle.vcd_read.specs.Numbers.{number}
use Rattle.vcd_read.specs.Header.{Net}
use Rattle.vcd_read.specs.Body.{BodyContext, BodyItem, change}
use Rattle.vcd_read.specs.Body.{context_after_all, time_item, wrong}
use Rattle.vcd_read.specs.Meaning.{times_from}
use Rattle.vcd_read.proofs.ContextLemmas.{context_after-time, context_after_all-first, now-now_after}
use Rattle.vcd_places.specs.Places.{item_times}
use Rattle.vcd_places.specs.Times.{IsAscendingFrom, is_among}

module _ (nets : List Net) where
  -- the times of a body don't go back
  pub IsAscendingFrom-item_times : (items : List BodyItem) (s end : BodyContext) → context_after_all nets s items
      ≡ Ok end
      → IsAscendingFrom s.now (item_times items)
  unfolding context_after_all item_times
  IsAscendingFrom-item_times [] s end e = tt
  IsAscendingFrom-item_times (time_item line digits ∷ items) s end e =
      let read = context_after_all-first nets (time_item line digits) items s end e in
      let time = context_after-time nets s read.0 line digits read.1 in
      let rest = IsAscendingFrom-item_times items read.0 end read.2 in
      subst (λ (r : Result ℕ FaultKind). IsAscendingFrom s.now (cons_option (result_ok r) (item_times items)))
      (sym time.0)
      (time.2, subst (λ (n : ℕ). IsAscendingFrom n (item_times items)) time.1 rest)
  IsAscendingFrom-item_times (wrong line kind ∷ items) s end e = absurd cc
  IsAscendingFrom-item_times (item ∷ items) s end e =
      let read = context_after_all-first nets item items s end e in
      subst (λ (n : ℕ). IsAscendingFrom n (item_times items)) (now-now_after nets s read.0 item read.1).0
      (IsAscendingFrom-item_times items read.0 end read.2)

  -- `time` is `now`, or the time of a time item
  abbrev IsKnown : ℕ → ℕ → List BodyItem → Type 0
  IsKnown now time items = (time ≡ now) ⊎ (is_among time (item_times items) ≡ true)

  -- a time that equals `n` passes the test for it, or another
  eqb-or : (n time : ℕ) (b : Bool) → time ≡ n → (eqb n time || b) ≡ true
  eqb-or n time b e = ap (λ (test : Bool). test || b) (eq-eqb n time (sym e))

  -- the time of each time item and each change is `now`, or the time of a time item
  pub IsKnown-times_from : (items : List BodyItem) (s end : BodyContext) (now time : ℕ) → context_after_all nets s items
      ≡ Ok end
      → is_among time (times_from now items) ≡ true → IsKnown now time items
  unfolding context_after_all item_times times_from
  IsKnown-times_from [] s end now time e among = absurd (true≢false (sym among))
  IsKnown-times_from (time_item line digits ∷ items) s end now time e among =
      let read = context_after_all-first nets (time_item line digits) items s end e in
      let n : ℕ = number digits in
      inr (subst (λ (r : Result ℕ FaultKind). is_among time (cons_option (result_ok r) (item_times items)) ≡ true)
      (sym (context_after-time nets s read.0 line digits read.1).0)
      (elim (or_cases (eqb n time) (is_among time (times_from n items)) among) [
        | inl is ↦ eqb-or n time (is_among time (item_times items)) (sym (eqb-true n time is))
        | inr later ↦ elim (IsKnown-times_from items read.0 end n time read.2 later) [
          | inl is ↦ eqb-or n time (is_among time (item_times items)) is
          | inr rest ↦ or_right (eqb n time) (is_among time (item_times items)) rest
        ]
      ]))
  IsKnown-times_from (change line digits code ∷ items) s end now time e among =
      let read = context_after_all-first nets (change line digits code) items s end e in
      elim (or_cases (eqb now time) (is_among time (times_from now items)) among) [
        | inl is ↦ inl (sym (eqb-true now time is))
        | inr later ↦ IsKnown-times_from items read.0 end now time read.2 later
      ]
  IsKnown-times_from (wrong line kind ∷ items) s end now time e among = absurd cc
  IsKnown-times_from (item ∷ items) s end now time e among =
      let read = context_after_all-first nets item items s end e in
      IsKnown-times_from items read.0 end now time read.2 among
