use Rattle.vme_skew.proofs.SettlerSteps.{IsRecording-settled_until}
use Rattle.vme_skew.proofs.settled_until_is_recording.Goals as goal

pub returns : goal.returns
returns c = IsRecording-settled_until
