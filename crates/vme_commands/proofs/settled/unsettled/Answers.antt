use Rattle.vme_commands.proofs.SettledLemmas.{settled_judgement-zero_skew, settled_read-zero_skew}
use Rattle.vme_commands.proofs.SettledLemmas.{settled_recording-zero_skew}
use Rattle.vme_commands.proofs.settled.unsettled.Goals as goal

pub returns-clause-read : goal.returns-clause-read
returns-clause-read c = settled_read-zero_skew

pub returns-clause-judgement : goal.returns-clause-judgement
returns-clause-judgement c = settled_judgement-zero_skew

pub returns-clause-recording : goal.returns-clause-recording
returns-clause-recording c = settled_recording-zero_skew
