use Rattle.std.proofs.Common.{◌+◌, ◌∙◌, ap}
use Rattle.std.proofs.lemmas.Result.{on_ok_weaker}
use Rattle.vme_account.proofs.running_account.RunningAccount.take.Goals as goal

pub take-requires : goal.take-requires
take-requires c =
    let (o, x, keeps, short) = c.requires in
    (o, x, keeps.judged)

pub take-requires-2 : goal.take-requires-2
take-requires-2 c =
    let (o, x, keeps, short) = c.requires in
    (o, x, keeps.kept, short)

pub returns : goal.returns
returns c =
    on_ok_weaker c.take-2.result
    (λ kept o x keeps. record {
      judged = c.in_ok-take.ensures o x keeps.judged (ap (λ n. n + 1) (c.steps.ensures ∙ keeps.kept.counted));
      kept = kept o x keeps.kept;
    })
    c.take-2.ensures
