use Rattle.vme_skew.proofs.Laws.{IsRecording-settled, length-settled}
use Rattle.vme_skew.proofs.settled_is_recording.Goals as goal

pub returns : goal.returns
returns c = record { recording = IsRecording-settled; no_longer = length-settled }
