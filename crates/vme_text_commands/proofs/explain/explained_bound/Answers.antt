use Rattle.std.proofs.Common.{◌∙◌}
use Rattle.vme_text_commands.proofs.ExplainLemmas.{settled_judgement-bound, AnswerGives-binding_refused}
use Rattle.vme_stream.proofs.InputLemmas.{IsReading-unread}
use Rattle.vme_text_commands.proofs.explain.explained_bound.Goals as goal

pub returns-in-Ok-clause-read : goal.returns-in-Ok-clause-read
returns-in-Ok-clause-read g c =
    let (bytes, reading, given) = c.explained_by.ensures.read in
    (bytes, reading, λ b e. rw (settled_judgement-bound c.args.skew b bytes c.in-Ok.bound (e ∙ c.in-Ok.ensures)) given)

pub returns-in-Err-clause-read : goal.returns-in-Err-clause-read
returns-in-Err-clause-read g c =
    let left = IsReading-unread (g.D.Source.reading c.args.dump.now) in
    (left.0, left.1, λ b e. AnswerGives-binding_refused c.args.skew b left.0 c.in-Err.refusal (rw e c.in-Err.ensures))
