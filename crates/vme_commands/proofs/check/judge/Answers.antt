-- A reason that there is no recording is one that there is no verdict; else the verdict is on the recording that was
-- judged as its dump was read.
use Rattle.std.proofs.lemmas.Result.{err_from_is_err_and}
use Rattle.vme_commands.proofs.SettledLemmas.{settled_judgement-refused, settled_judgement-taken}
use Rattle.vme_commands.proofs.check.judge.Goals as goal

pub returns-in_err-judge : goal.returns-in_err-judge
returns-in_err-judge g c =
    let p = err_from_is_err_and c.from_residual.result c.from_residual.ensures.1 in
    let refusal = c.in_err-judge.field-0.0 in
    let (bound, bytes, bound_reading, reading, refused) = c.in_err-judge.ensures.gives in
    rw (p.1, p.2) (
      bound,
      bytes,
      bound_reading,
      reading,
      settled_judgement-refused c.args.skew bound bytes c.args.block refusal refused,
    )

pub returns : goal.returns
returns g c =
    let (bound, bytes, bound_reading, reading, taken) = c.in_ok-judge.ensures.gives in (
      bound,
      bytes,
      bound_reading,
      reading,
      rw (settled_judgement-taken c.args.skew bound bytes c.args.block c.in_ok-judge.judge taken)
          (c.verdict_of.ensures c.in_ok-judge.ensures.formed),
    )
