use Rattle.vme_bind.specs.TextCapture.{recording_of_text}
use Rattle.vme_bind.specs.TextReading.{reading_of_text}
use Rattle.vme_step_reader.proofs.Beginnings.{recording_of_text-definitions_fail, CaptureFailsBy-same_fault, Err-not_Ok}
use Rattle.vme_step_reader.proofs.begin.unended.Goals as goal

pub unreachable-requires : goal.unreachable-requires
unreachable-requires c = Err-not_Ok c.requires.0 _ (recording_of_text c.args.binding.now c.args.text.now)
    (recording_of_text-definitions_fail c.args.binding.now c.args.text.now c.requires.0 c.requires.1)
    c.in-Ok.ensures.gives

pub returns : goal.returns
returns c = CaptureFailsBy-same_fault c.in-Err.fault c.requires.0 (recording_of_text c.args.binding.now c.args.text.now)
    (reading_of_text c.args.binding.now c.args.text.now)
    (recording_of_text-definitions_fail c.args.binding.now c.args.text.now c.requires.0 c.requires.1) c.requires.1
    c.in-Err.ensures.gives
