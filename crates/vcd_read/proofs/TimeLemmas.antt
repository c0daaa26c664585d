-- The time that a fold over a body has reached before the first fault is that of the last time item before it.
use Rattle.std.proofs.Common.{◌≡◌, ℕ, Bool, true, false, cond, ◌&&◌, List, [], ◌∷◌, Result, Ok, Err, refl, ap}
use Rattle.std.proofs.Common.{◌∙◌}
use Rattle.std.specs.Prelude.{not, ◌==◌}
use Rattle.vcd_read.specs.declared.dump.Bit.{Bit}
use Rattle.vcd_read.specs.declared.fault.VcdFault.{VcdFault}
use Rattle.vcd_read.specs.Numbers.{number}
use Rattle.vcd_read.specs.Header.{Net}
use Rattle.vcd_read.specs.Body.{BodyItem, time_item}
use Rattle.vcd_read.specs.Body.{BodyContext}
use Rattle.vcd_read.specs.Body.{context_after}
use Rattle.vcd_read.specs.Meaning.{items_before_fault, last_time}
use Rattle.vcd_read.specs.BodyFold.{State, BodyFold, progress_after, reached_before, with_progress}
use Rattle.vcd_read.proofs.BodyLemmas.{reached_after}

module _ {A : Type 0} (with_change : A → ℕ → List Bit → A) (with_instant : A → ℕ → A) (nets : List Net) where
  -- the current time of the fold
  abbrev time_in : BodyFold A → ℕ
  time_in p = p.time

  -- after a time item its time is the current one, whether it ended an instant (`test`) or not
  pub time-advanced : (test : Bool) (p : BodyFold A) (t : ℕ) → time_in (cond test
      (record { accumulator = with_instant p.accumulator p.time; time = t; has_instant = true })
      (record p { time = t; has_instant = true }))
      ≡ t
  time-advanced true p t = refl
  time-advanced false p t = refl

  -- the last time after an item is that of the item and what follows
  last_time-item : (p : BodyFold A) (item : BodyItem) (items : List BodyItem)
      → last_time (progress_after with_change with_instant nets p item).time items
      ≡ last_time p.time (item ∷ items)
  unfolding last_time
  last_time-item p (time_item line digits) items = ap (λ (t : ℕ). last_time t items)
      (time-advanced (p.has_instant && not (number digits == p.time)) p (number digits))
  last_time-item p item items = refl

  -- the current time before the first fault of an item and those after it is the time of the last time item before that
  -- fault, if this holds of the items after it
  time-reached_before_item : (s : State A) (item : BodyItem) (items : List BodyItem)
      (stood : Result BodyContext VcdFault)
      → ((next : State A) → (reached_before with_change with_instant nets next items).progress.time
      ≡ last_time next.progress.time (items_before_fault nets next.context items))
      → (reached_after with_change with_instant nets s items
      (with_progress (progress_after with_change with_instant nets s.progress item) stood)).progress.time
      ≡ last_time s.progress.time (elim stood [
        | Ok next ↦ item ∷ items_before_fault nets next items
        | Err fault ↦ []
      ])
  unfolding last_time
  time-reached_before_item s item items (Ok next) rest =
      let after : State A = record {
        context = next;
        progress = progress_after with_change with_instant nets s.progress item;
      } in
      rest after ∙ last_time-item s.progress item (items_before_fault nets next items)
  time-reached_before_item s item items (Err fault) rest = refl

  -- the current time before the first fault is the time of the last time item before it, or else that at `s`
  pub time-reached_before : (s : State A) (items : List BodyItem)
      → (reached_before with_change with_instant nets s items).progress.time
      ≡ last_time s.progress.time (items_before_fault nets s.context items)
  unfolding reached_before items_before_fault last_time
  time-reached_before s [] = refl
  time-reached_before s (item ∷ items) = time-reached_before_item s item items (context_after nets s.context item)
      (λ next. time-reached_before next items)
