use Rattle.std.proofs.Common.{subst, sym}
use Rattle.vme_stream.specs.Answers.{dump_read}
use Rattle.vme_text_commands.specs.ExplainedDumps.{GivesAccount}
use Rattle.vme_stream.proofs.AnswerLemmas.{capture_by-or_too_long}
use Rattle.vme_text_commands.proofs.explain.unsettled_account.Goals as goal

pub returns : goal.returns
returns g c =
    let (bytes, reading, given) = c.taken_dump-taken.ensures.gives in (
      bytes,
      reading,
      subst (GivesAccount c.account_of.result) (sym (capture_by-or_too_long c.args.bound.now (dump_read bytes)))
          (c.account_of.ensures _ given c.taken_dump-taken.ensures.formed),
    )
