-- The span to which the second is appended stands for the blocks of both. Spans are refused as torn exactly if their
-- extents don't meet, that is, if the blocks don't join.
use Rattle.std.proofs.Common.{refl}
use Rattle.std.proofs.Math.Logic.{∥∥₁_map}
use Rattle.vme_summary.proofs.Extents.{BlocksJoin-from_Meets, StandForBlocks-joined, StandFor-joined, Meets-by_test}
use Rattle.vme_summary.proofs.Extents.{BlocksJoin-not_by_test}
use Rattle.vme_summary.proofs.joining.append.Goals as goal

pub returns-then-not-meets-clause-torn : goal.returns-then-not-meets-clause-torn
returns-then-not-meets-clause-torn c =
    λ x y p q. (
      λ e. BlocksJoin-not_by_test c.args.first.extent c.args.second.extent c.meets.result x y c.meets.ensures
          c.if-not-meets.true p.extent q.extent,
      λ e. refl,
    )

pub returns-in-Ok-clause-joined : goal.returns-in-Ok-clause-joined
returns-in-Ok-clause-joined c =
    StandFor-joined c.args.first c.args.second c.joined.result c.append_in.result c.joined.ensures
    (Meets-by_test c.args.first.extent c.args.second.extent c.meets.result c.meets.ensures c.if-not-meets.false)
    (λ o x y p q. c.append_in.ensures.stands o x y ((c.make_room.ensures.stands o x).0 p) q)

pub returns-in-Err-clause-torn : goal.returns-in-Err-clause-torn
returns-in-Err-clause-torn c =
    λ x y p q. (
      λ e. absurd (cc),
      λ torn.
          absurd
          (torn (BlocksJoin-from_Meets c.args.first.extent c.args.second.extent x y p.extent q.extent
          (Meets-by_test c.args.first.extent c.args.second.extent c.meets.result c.meets.ensures
          c.if-not-meets.false))),
    )

pub returns-in-Err-clause-first : goal.returns-in-Err-clause-first
returns-in-Err-clause-first c =
    λ x. (
      λ p. record { extent = p.extent; summary = (c.make_room.ensures.stands _ _).0 p.summary },
      λ p. record { extent = p.extent; summary = (c.make_room.ensures.stands _ _).1 p.summary },
    )

pub invariant_of-result : goal.invariant_of-result
invariant_of-result c =
    record {
      stands = StandForBlocks-joined c.args.first c.args.second c.joined.result c.append_in.result c.joined.ensures
          (Meets-by_test c.args.first.extent c.args.second.extent c.meets.result c.meets.ensures c.if-not-meets.false)
          (λ o x y p q. c.append_in.ensures.stands o x y ((c.make_room.ensures.stands o x).0 p) q);
    }

pub invariant_of-result-in-Err : goal.invariant_of-result-in-Err
invariant_of-result-in-Err c =
    record {
      stands = ∥∥₁_map c.args.first.stands
          (λ x. (x.0, record { extent = x.1.extent; summary = (c.make_room.ensures.stands _ _).0 x.1.summary }));
    }
