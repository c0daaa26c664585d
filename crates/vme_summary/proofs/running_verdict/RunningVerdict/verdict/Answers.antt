-- What the monitors found is what they find of the recording.
use Rattle.std.proofs.Common.{◌≤◌, arith}
use Rattle.vme_summary.proofs.Progressing.{verdict-of_HasCome}
use Rattle.vme_summary.proofs.running_verdict.RunningVerdict.verdict.Goals as goal

pub returns : goal.returns
returns c =
    let few : c.args.self.now.extent.opening.slots ≤ 21 = omega arith in
    verdict-of_HasCome c.args.self.now few c.verdict.result c.verdict.ensures
