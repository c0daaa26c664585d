use Rattle.vme_pod_check.proofs.Contents.{AreTakenFrom-blocks_of}
use Rattle.vme_pod_check_tests.proofs.tests.delivered.Goals as goal

pub deliveries_of-requires : goal.deliveries_of-requires
deliveries_of-requires c = rw c.in-Ok.ensures.blocks (AreTakenFrom-blocks_of c.args.capture.now 1)
