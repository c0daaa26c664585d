use Rattle.vme_step_reader.proofs.Beginnings.{BeginsAt-from_cut, EndsAfterSpace-take, CaptureFailsBy-from_cut}
use Rattle.vme_step_reader.proofs.begin.begin_steps.Goals as goal

pub returns-clause-begins : goal.returns-clause-begins
returns-clause-begins c =
    let front = c.args.front.now in
    let count = c.whole_tokens-count in
    BeginsAt-from_cut c.args.binding.now front count.result count.ensures.apart c.begin_at.result
    (EndsAfterSpace-take front count.result count.ensures.within count.ensures.space) c.begin_at.ensures.within
    c.begin_at.ensures.line c.begin_at.ensures.begins

pub returns-clause-fails : goal.returns-clause-fails
returns-clause-fails c = CaptureFailsBy-from_cut c.args.binding.now c.args.front.now c.whole_tokens-count.result
    c.whole_tokens-count.ensures.apart c.begin_at.result c.begin_at.ensures.fails
