use Rattle.vme_commands.specs.Settled.{settled_read}
use Rattle.vme_commands.proofs.SettledLemmas.{GivesUnlimited-short, GivesUnlimited-skew_zero}
use Rattle.vme_commands.proofs.judged_recording.judged_recording.Goals as goal

pub returns-then-skew-eq0-clause-gives : goal.returns-then-skew-eq0-clause-gives
returns-then-skew-eq0-clause-gives g c =
    let (bound, bytes, bound_reading, reading, given) = c.judged_dump.ensures.gives in (
      bound,
      bytes,
      bound_reading,
      reading,
      GivesUnlimited-skew_zero c.args.skew c.if-skew-eq0.true bound bytes c.judged_dump.result given,
    )

pub returns-else-skew-eq0-clause-gives : goal.returns-else-skew-eq0-clause-gives
returns-else-skew-eq0-clause-gives g c =
    let (bound, bytes, bound_reading, reading, given) = c.judged_settled.ensures.gives in (
      bound,
      bytes,
      bound_reading,
      reading,
      GivesUnlimited-short (settled_read c.args.skew bound bytes) c.judged_settled.result given
          c.judged_settled.ensures.short,
    )
