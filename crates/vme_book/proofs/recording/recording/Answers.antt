-- The steps of the blocks, one block after the other.
use Rattle.std.proofs.Common.{◌≡◌, ◌+◌, ◌≤◌, List, [], ◌∷◌, ◌++◌, length, length-append, map}
use Rattle.std.proofs.Common.{append-nil, arith, refl, sym, ◌∙◌, ap, subst, Option, None, Some}
use Rattle.std.specs.Vec.Iter.{into_iter_items}
use Rattle.std.proofs.lemmas.Option.{none-some}
use Rattle.vme_trace.specs.Blocks.{joined_steps}
use Rattle.vme_trace.specs.declared.block.Block.{Block}
use Rattle.vme_trace.specs.declared.step.Step.{Step}
use Rattle.vme_summary.proofs.Whole.{joined_trace-well_formed}
use Rattle.vme_book.proofs.Prefixes.{prefix-of_all, length-places, length-joined_steps_bound, get_or-of_read}
use Rattle.vme_book.proofs.Prefixes.{prefix-value_at, recording-next_block, read-of_get_or, joined_trace-of_all}
use Rattle.vme_book.proofs.recording.recording.Goals as goal

-- where no block is left, the steps so far are all steps
steps-none_left : (items : List (Option Block)) (bs : List Block) (steps all : List Step) → length items ≡ 0 → items
    ≡ map Some bs → steps ++ joined_steps bs ≡ all → steps ≡ all
steps-none_left items [] steps all n e s = sym (append-nil steps) ∙ s
steps-none_left items (b ∷ bs) steps all n e s = let more = ap length e in absurd (omega arith)

-- where all places have blocks, the first place isn't empty
not_None-first_place : (items rest : List (Option Block)) (place : Option Block) (bs : List Block) → items
    ≡ place ∷ rest → items
    ≡ map Some bs → place ≡ None → ⊥
not_None-first_place items rest place [] e m n = let none : place ∷ rest ≡ [] = sym e ∙ m in absurd (cc)
not_None-first_place items rest place (b ∷ bs) e m n =
    let whole : place ∷ rest ≡ Some b ∷ map Some bs = sym e ∙ m in absurd (cc)

pub unreachable-requires : goal.unreachable-requires
unreachable-requires c =
    let items = c.args.blocks.items in
    let bs = c.requires.join.0 in
    let all = c.requires.join.1 in
    let long = length-places items bs all.all in
    let first = prefix-value_at items bs 0 (prefix-of_all items bs all.all) (omega arith) in
    none-some first.0 (sym c.in-None.is ∙ read-of_get_or items 0 c.index.result.now first.0 (omega arith)
    c.index.ensures
    first.1)

pub unreachable-requires-in_default : goal.unreachable-requires-in_default
unreachable-requires-in_default c =
    let bs = c.requires.join.0 in
    let all = c.requires.join.1 in
    let part = c.loop-place.invariant.parts bs all.all in
    not_None-first_place _ _ c.in-Some-place.place part.0 c.in-Some-place.ensures.steps.0 part.1 c.in_default.is

pub unreachable-requires-in_default-append : goal.unreachable-requires-in_default-append
unreachable-requires-in_default-append c =
    let bs = c.requires.join.0 in
    let all = c.requires.join.1 in
    let steps = c.loop-place.steps.items in
    let own = c.into_inner-own.result.items in
    let part = c.loop-place.invariant.parts bs all.all in
    let next = recording-next_block _ _ c.in-Some-place.place c.in-Some-place-2.block steps (steps ++ own) own _
    c.in-Some-place.ensures.steps.0 c.in-Some-place-2.is c.into_inner-own.ensures refl part.0 part.1 part.2 in
    let whole = ap length next.2 ∙ refl in
    let both = length-append (steps ++ own) (joined_steps next.0) in
    let first = length-append steps own in
    let room = c.requires.join.3 in
    let more = c.loop-place.invariant.room in
    let full = c.in_default-append.ensures.full in
    omega arith

pub loop-place-preserved : goal.loop-place-preserved
loop-place-preserved c =
    let inv = c.loop-place.invariant in
    let steps = c.in-Some-place.ensures.steps in
    let whole = ap length steps.0 in
    let count = steps.1 in
    let counted = inv.counted in
    let kept = inv.room in
    let more = c.append.ensures.capacity in
    record {
      next = tt;
      finite = tt;
      counted = omega arith;
      parts = λ bs e.
          let part = inv.parts bs e in
          recording-next_block _ _ c.in-Some-place.place c.in-Some-place-2.block c.loop-place.steps.items
          c.append.new.self.items
          c.into_inner-own.result.items _ steps.0 c.in-Some-place-2.is c.into_inner-own.ensures c.in-Ok.ensures.items
          part.0 part.1 part.2;
      room = omega arith;
    }

pub from_well_formed-requires : goal.from_well_formed-requires
from_well_formed-requires c =
    let items = c.args.blocks.items in
    let bs = c.requires.join.0 in
    let all = c.requires.join.1 in
    let part = c.loop-place.invariant.parts bs all.all in
    let none = c.in-None-place.ensures.steps.0 in
    let steps : c.loop-place.steps.items ≡ joined_steps bs =
    steps-none_left (into_iter_items c.loop-place.place-iterator)
    part.0 _ _ (c.loop-place.invariant.counted ∙ none) part.1 part.2 in
    let first = get_or-of_read items 0 c.index.result.now c.in-Some.first c.requires.some c.index.ensures
    c.in-Some.is in
    joined_trace-well_formed bs _ all.join c.requires.join.2
    (joined_trace-of_all items bs c.in-Some.first c.loop-place.steps.items all.all
    first steps)

pub unreachable-requires-in-None-from_well_formed : goal.unreachable-requires-in-None-from_well_formed
unreachable-requires-in-None-from_well_formed c =
    let items = c.args.blocks.items in
    let bs = c.requires.join.0 in
    let all = c.requires.join.1 in
    let part = c.loop-place.invariant.parts bs all.all in
    let none = c.in-None-place.ensures.steps.0 in
    let steps : c.loop-place.steps.items ≡ joined_steps bs =
    steps-none_left (into_iter_items c.loop-place.place-iterator)
    part.0 _ _ (c.loop-place.invariant.counted ∙ none) part.1 part.2 in
    let long = length-places items bs all.all in
    let few = c.requires.placed.few in
    c.in-None-from_well_formed.ensures (subst (λ (l : List Step). length l ≤ 268435456) (sym steps)
    (length-joined_steps_bound items bs c.requires.placed (prefix-of_all items bs all.all) (omega arith)))
