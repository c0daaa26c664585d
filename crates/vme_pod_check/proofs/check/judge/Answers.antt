use Rattle.vme_stream.proofs.AnswerLemmas.{judgement_of-refused, judgement_of-captured}
use Rattle.vme_pod_check.proofs.check.judge.Goals as goal

pub returns-in-Ok : goal.returns-in-Ok
returns-in-Ok g c =
    let (bound, bytes, bound_reading, reading, captured) = c.in-Ok.ensures in (
      bound,
      bytes,
      bound_reading,
      reading,
      rw (judgement_of-captured bound bytes c.args.plan.block _ captured)
          c.verdict_by_pods.ensures.exact,
      c.verdict_by_pods.ensures.alone,
    )

pub returns-in-Err : goal.returns-in-Err
returns-in-Err g c =
    let (bound, bytes, bound_reading, reading, refused) = c.in-Err.ensures in (
      bound,
      bytes,
      bound_reading,
      reading,
      judgement_of-refused bound bytes c.args.plan.block c.in-Err.refusal refused,
      λ is. cc,
    )
