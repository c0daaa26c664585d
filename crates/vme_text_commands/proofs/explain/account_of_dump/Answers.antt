use Rattle.std.proofs.Common.{subst, sym}
use Rattle.vme_text_commands.specs.ExplainedDumps.{GivesAccount}
use Rattle.vme_commands.proofs.SettledLemmas.{capture_by-skew_zero}
use Rattle.vme_text_commands.proofs.explain.account_of_dump.Goals as goal

pub returns-then-skew-eq0 : goal.returns-then-skew-eq0
returns-then-skew-eq0 g c =
    let (bytes, reading, given) = c.unsettled_account.ensures in (
      bytes,
      reading,
      subst (GivesAccount c.unsettled_account.result.0)
          (sym (capture_by-skew_zero c.args.skew c.if-skew-eq0.true c.args.bound.now bytes)) given,
    )
