use Rattle.std.proofs.Common.{rules, ◌≡◌, ℕ, ◌+◌, ◌<◌, List, Option, None, subst, ap, arith, length}
use Rattle.std.specs.Vec.Iter.{into_iter_items}
use Rattle.vme_trace.specs.declared.block.Block.{Block}
use Rattle.vme_floor.proofs.Collecting.{slice_get-stored}
use Rattle.vme_floor.proofs.Uniting.{IsPart, slice_get-block, RefusesBlock-never, IsPart-first, IsPart-next}
use Rattle.vme_floor.proofs.Uniting.{IsPart-skip}
use Rattle.vme_floor.proofs.finish_run.insert_all.Goals as goal

pub loop-content-init : goal.loop-content-init
loop-content-init c =
    let ys : List (Option Block) = c.args.contents.items in
    let all : ys ≡ into_iter_items c.into_iter-content-iterator.result = search rules in
    record {
      next = tt;
      finite = tt;
      part = (
        0,
        subst (λ (l : List (Option Block)). IsPart c.args.book ys 0 c.args.book l) all
            (IsPart-first c.args.book ys),
      );
      counted = search rules;
    }

pub loop-content-preserved-in_default : goal.loop-content-preserved-in_default
loop-content-preserved-in_default c =
    let inv = c.loop-content.invariant in let steps = c.in-Some.ensures.steps in let i : ℕ = inv.part.0 in
    let counted = inv.counted in let less = steps.1 in let long = ap (λ (l : List (Option Block)). length l) steps.0 in
    record {
      next = tt;
      finite = tt;
      part = (
        i + 1,
        IsPart-skip c.args.book c.args.contents.items i c.loop-content.book
            (into_iter_items c.loop-content.content-iterator) (into_iter_items c.next.new.self) c.in-Some.content
            inv.part.1
            steps.0 c.in_default.is,
      );
      counted = omega (arith, counted, less, long);
    }

pub unreachable-requires : goal.unreachable-requires
unreachable-requires c =
    let inv = c.loop-content.invariant in let steps = c.in-Some.ensures.steps in let i : ℕ = inv.part.0 in
    let b : Block = c.in-Some-content.judged in
    let xs : List (Option Block) = c.args.book in let ys : List (Option Block) = c.args.contents.items in
    let rest : List (Option Block) = into_iter_items c.loop-content.content-iterator in
    let more : List (Option Block) = into_iter_items c.next.new.self in
    let number : b.number ≡ i =
    c.requires.numbered i b (slice_get-block xs ys i c.loop-content.book rest more c.in-Some.content
    inv.part.1 steps.0 b c.in-Some-content.is c.requires.apart) in
    RefusesBlock-never xs ys i c.loop-content.book rest more c.in-Some.content inv.part.1 steps.0 b c.in-Some-content.is
    c.requires.apart c.requires.long b.number c.in-Err.fault number c.in-Err.ensures.why c.in_default-fault.not-Memory

pub loop-content-preserved : goal.loop-content-preserved
loop-content-preserved c =
    let inv = c.loop-content.invariant in let steps = c.in-Some.ensures.steps in let i : ℕ = inv.part.0 in
    let b : Block = c.in-Some-content.judged in
    let xs : List (Option Block) = c.args.book in let ys : List (Option Block) = c.args.contents.items in
    let zs : List (Option Block) = c.loop-content.book in
    let rest : List (Option Block) = into_iter_items c.loop-content.content-iterator in
    let more : List (Option Block) = into_iter_items c.next.new.self in
    let insert = c.in_default-insert.ensures in
    let number : b.number ≡ i =
    c.requires.numbered i b (slice_get-block xs ys i zs rest more c.in-Some.content inv.part.1 steps.0
    b c.in-Some-content.is c.requires.apart) in
    let known : b.number < length zs = insert.known in
    let counted = inv.counted in let less = steps.1 in let long = ap (λ (l : List (Option Block)). length l) steps.0 in
    record {
      next = tt;
      finite = tt;
      part = (
        i + 1,
        IsPart-next xs ys i zs rest more c.in-Some.content inv.part.1 steps.0 b c.in-Some-content.is
            c.requires.apart b.number c.insert.new.self number insert.inserted
            (slice_get-stored zs b.number None known insert.free)
            (omega (arith, known, number)),
      );
      counted = omega (arith, counted, less, long);
    }
