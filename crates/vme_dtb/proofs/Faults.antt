-- The first of some faults. There is none if none of them is there; it is the first rule that is broken if each is the
-- break of its rule.
use Rattle.std.proofs.Common.{◌≡◌, ℕ, Bool, true, false, ◌&&◌, List, [], ◌∷◌, refl, sym, ◌∙◌, ap, Option, None, Some}
use Rattle.std.specs.Prelude.{option_map}
use Rattle.std.specs.Option.{option_or}
use Rattle.vme_trace.specs.declared.rule.Rule.{Rule}
use Rattle.vme_trace.specs.declared.rule.Rule.TheVariants.{C1, C2, I4, I5}
use Rattle.vme_trace.specs.declared.verdict.Break.{Break}
use Rattle.vme_trace.proofs.ListLaws.{option_map-option_or, option_or-assoc}
use Rattle.vme_monitor.specs.declared.mark.Fault.{Fault}
use Rattle.vme_dtb.specs.CycleState.{is_interrupt_acknowledge, is_answered_interrupt_acknowledge}
use Rattle.vme_dtb.specs.CycleState.{is_read_modify_write_broken, is_direction_changed}
use Rattle.vme_dtb.specs.Machine.{fault_if, cycle_fault, cycle_faults, first_of_faults, or_first}
use Rattle.vme_dtb.specs.declared.cycle.CyclePhase.{CyclePhase}

-- there is no fault without a line
pub fault_if-none : (r : Rule) (applies : Bool) → fault_if r applies None ≡ None
fault_if-none r true = refl
fault_if-none r false = refl

-- there is no fault where the rule doesn't apply
pub fault_if-not_applied : (r : Rule) (b : Bool) (o : Option ℕ) → b ≡ false → fault_if r b o ≡ None
fault_if-not_applied r b o e = rw e refl

-- no fault of a list is there
abbrev pub AreNone : List (Option Fault) → Type 0
AreNone [] = Unit {0}
AreNone (f ∷ fs) = (f ≡ None) × AreNone fs

-- if no fault is there, there is no first one
pub first_of_faults-none : (fs : List (Option Fault)) → AreNone fs → first_of_faults fs ≡ None
first_of_faults-none [] h = refl
first_of_faults-none (f ∷ fs) h = ap (λ (o : Option Fault). or_first o fs) h.0 ∙ first_of_faults-none fs h.1

-- no rule of a cycle is broken where there is no answer
pub cycle_fault-no_answer : (c : CyclePhase) (w : Bool) → None ≡ cycle_fault c w None
cycle_fault-no_answer c w =
    sym (first_of_faults-none (cycle_faults c w None) (
      fault_if-none C1 (is_read_modify_write_broken c w),
      (
        fault_if-none C2 (is_direction_changed c w),
        (
          fault_if-none I4 (is_interrupt_acknowledge c && w),
          (fault_if-none I5 (is_answered_interrupt_acknowledge c), tt),
        ),
      ),
    ))

module _ (at : Fault → Break) (of : Rule → Option Break) where
  -- the first break of some rules, or else `later`
  abbrev pub or_break : List Rule → Option Break → Option Break
  or_break [] later = later
  or_break (r ∷ rs) later = option_or (of r) (or_break rs later)

  -- each fault is the break of its rule
  abbrev pub AreBreaksOf : List Rule → List (Option Fault) → Type 0
  AreBreaksOf [] [] = Unit {0}
  AreBreaksOf [] (f ∷ fs) = ⊥
  AreBreaksOf (r ∷ rs) [] = ⊥
  AreBreaksOf (r ∷ rs) (f ∷ fs) = (option_map at f ≡ of r) × AreBreaksOf rs fs

  -- if each fault is the break of its rule, the first fault after `earlier` is the first break after it
  or_first-breaks : (rs : List Rule) (fs : List (Option Fault)) → AreBreaksOf rs fs → (earlier : Option Fault)
      (later : Option Break)
      → option_or (option_map at (or_first earlier fs)) later ≡ option_or (option_map at earlier) (or_break rs later)
  or_first-breaks [] [] h earlier later = refl
  or_first-breaks [] (f ∷ fs) h earlier later = absurd h
  or_first-breaks (r ∷ rs) [] h earlier later = absurd h
  or_first-breaks (r ∷ rs) (f ∷ fs) h earlier later =
      or_first-breaks rs fs h.1 (option_or earlier f) later
      ∙ (ap (λ (o : Option Break). option_or o (or_break rs later)) (option_map-option_or at earlier f)
      ∙ (option_or-assoc (option_map at earlier) (option_map at f) (or_break rs later)
      ∙ ap (λ (o : Option Break). option_or (option_map at earlier) (option_or o (or_break rs later))) h.0))

  -- if each fault is the break of its rule, the first fault is the first break
  pub first_of_faults-breaks : (rs : List Rule) (fs : List (Option Fault)) → AreBreaksOf rs fs → (later : Option Break)
      → option_or (option_map at (first_of_faults fs)) later ≡ or_break rs later
  first_of_faults-breaks rs fs h later = or_first-breaks rs fs h None later

  -- of two lists, the first fault of the first list, or else that of the second, is the first break of the rules of
  -- both
  pub first_of_faults-both : (rs qs : List Rule) (fs gs : List (Option Fault)) → AreBreaksOf rs fs → AreBreaksOf qs gs
      → option_map at (option_or (first_of_faults fs) (first_of_faults gs)) ≡ or_break rs (or_break qs None)
  first_of_faults-both rs qs fs gs h k =
      option_map-option_or at (first_of_faults fs) (first_of_faults gs)
      ∙ (first_of_faults-breaks rs fs h (option_map at (first_of_faults gs))
      ∙ ap (or_break rs) (or_none (option_map at (first_of_faults gs)) ∙ first_of_faults-breaks qs gs k None))
    where
      or_none : (a : Option Break) → a ≡ option_or a None
      or_none None = refl
      or_none (Some x) = refl
