use Rattle.vme_pod_check.proofs.Contents.{MayCome-three_faults}
use Rattle.vme_pod_check.proofs.judge.unjudged_by.Goals as goal

pub unreachable-requires : goal.unreachable-requires
unreachable-requires c = MayCome-three_faults c.args.fault c.requires c.in_default.not-NoWorker c.in_default.not-Memory
    c.in_default.not-Missing
