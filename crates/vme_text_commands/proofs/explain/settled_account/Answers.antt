use Rattle.std.proofs.Common.{Result, ap, subst, sym}
use Rattle.vme_stream.specs.Answers.{dump_read}
use Rattle.vme_stream.specs.declared.refusal.Refusal.{Refusal}
use Rattle.vme_skew.specs.Settled.{settled_or}
use Rattle.vme_trace.specs.Trace.{Trace}
use Rattle.vme_text_commands.specs.ExplainedDumps.{GivesAccount}
use Rattle.vme_stream.proofs.AnswerLemmas.{capture_by-or_too_long}
use Rattle.vme_text_commands.proofs.explain.settled_account.Goals as goal

pub returns : goal.returns
returns g c =
    let (bytes, reading, given) = c.taken_dump-taken.ensures.gives in (
      bytes,
      reading,
      subst (GivesAccount c.account_by_skew.result)
          (sym (ap (λ (r : Result Trace Refusal). settled_or g.K.GhostSkew.skew r)
          (capture_by-or_too_long c.args.bound.now (dump_read bytes))))
          (c.account_by_skew.ensures _ given c.taken_dump-taken.ensures.formed),
    )
