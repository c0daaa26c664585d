-- The joined span stands for the blocks of both. Spans are refused as torn exactly if their extents don't meet, that
-- is, if the blocks don't join.
use Rattle.std.proofs.Common.{refl}
use Rattle.vme_summary.proofs.Extents.{BlocksJoin-from_Meets, StandForBlocks-joined, StandFor-joined, Meets-by_test}
use Rattle.vme_summary.proofs.Extents.{BlocksJoin-not_by_test}
use Rattle.vme_summary.proofs.joining.join.Goals as goal

pub returns-then-not-meets-clause-torn : goal.returns-then-not-meets-clause-torn
returns-then-not-meets-clause-torn c =
    λ x y p q. (
      λ e. BlocksJoin-not_by_test c.args.first.now.extent c.args.second.now.extent c.meets.result x y c.meets.ensures
          c.if-not-meets.true p.extent q.extent,
      λ e. refl,
    )

pub returns-in_default-clause-torn : goal.returns-in_default-clause-torn
returns-in_default-clause-torn c =
    λ x y p q. (
      λ e. absurd (cc),
      λ torn.
          absurd
          (torn (BlocksJoin-from_Meets c.args.first.now.extent c.args.second.now.extent x y p.extent q.extent
          (Meets-by_test c.args.first.now.extent c.args.second.now.extent c.meets.result c.meets.ensures
          c.if-not-meets.false))),
    )

pub returns-clause-joined : goal.returns-clause-joined
returns-clause-joined c =
    StandFor-joined c.args.first.now c.args.second.now c.joined.result c.in-Ok.summary c.joined.ensures
    (Meets-by_test c.args.first.now.extent c.args.second.now.extent c.meets.result c.meets.ensures c.if-not-meets.false)
    c.in-Ok.ensures.stands

pub returns-clause-torn : goal.returns-clause-torn
returns-clause-torn c =
    λ x y p q. (
      λ e. absurd (cc),
      λ torn.
          absurd
          (torn (BlocksJoin-from_Meets c.args.first.now.extent c.args.second.now.extent x y p.extent q.extent
          (Meets-by_test c.args.first.now.extent c.args.second.now.extent c.meets.result c.meets.ensures
          c.if-not-meets.false))),
    )

pub invariant_of-result : goal.invariant_of-result
invariant_of-result c =
    record {
      stands = StandForBlocks-joined c.args.first.now c.args.second.now c.joined.result c.in-Ok.summary c.joined.ensures
          (Meets-by_test c.args.first.now.extent c.args.second.now.extent c.meets.result c.meets.ensures
          c.if-not-meets.false)
          c.in-Ok.ensures.stands;
    }
