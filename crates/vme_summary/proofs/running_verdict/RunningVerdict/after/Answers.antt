-- The extents meet exactly if the blocks join.
use Rattle.std.proofs.Common.{◌+◌, ap, refl}
use Rattle.vme_summary.proofs.Extents.{BlocksJoin-from_Meets, Meets-by_test, BlocksJoin-not_by_test}
use Rattle.vme_summary.proofs.Progressing.{HasCome-append}
use Rattle.vme_summary.proofs.running_verdict.RunningVerdict.after.Goals as goal

pub returns-then-not-meets-clause-torn : goal.returns-then-not-meets-clause-torn
returns-then-not-meets-clause-torn c =
    λ x y p q. (
      λ e. BlocksJoin-not_by_test c.args.self.now.extent c.args.next.now.extent c.meets.result x y c.meets.ensures
          c.if-not-meets.true p.extent q.extent,
      λ e. refl,
    )

pub returns-clause-come : goal.returns-clause-come
returns-clause-come c =
    HasCome-append c.args.self.now c.args.next.now c.joined.result _ c.found_after.result c.joined.ensures
    (ap (λ k. c.args.self.now.steps + k) c.steps.ensures.value)
    (Meets-by_test c.args.self.now.extent c.args.next.now.extent c.meets.result c.meets.ensures c.if-not-meets.false)
    c.found_after.ensures

pub returns-clause-torn : goal.returns-clause-torn
returns-clause-torn c =
    λ x y p q. (
      λ e. absurd (cc),
      λ torn.
          absurd
          (torn (BlocksJoin-from_Meets c.args.self.now.extent c.args.next.now.extent x y p.extent q.extent
          (Meets-by_test c.args.self.now.extent c.args.next.now.extent c.meets.result c.meets.ensures
          c.if-not-meets.false))),
    )
