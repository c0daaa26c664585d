use Rattle.vme_declarations.specs.Surveys.{variables_in}
use Rattle.vme_find.proofs.RecordingLemmas.{MakesRecordings-surveyed}
use Rattle.vme_find.proofs.writing.fits.Goals.{else-is_found, then-is_found}
use Rattle.vme_find.proofs.writing.fits.Goals as goal

pub returns-after-is_found-clause-ok : goal.returns-after-is_found-clause-ok
returns-after-is_found-clause-ok c is =
    elim c.if-is_found.branch [
      | then-is_found w ↦
          MakesRecordings-surveyed c.args.text.now c.in-Ok.binding c.args.dump.now (variables_in c.front.result.now)
          (rw c.as_bytes.ensures at c.in-Ok.ensures) c.front.ensures.variables c.front.ensures.few
          (c.in_ok-is_found-in-Ok.ensures w.if-is_found.true)
      | else-is_found w ↦ absurd (cc (is, w.result-is, w.if-is_found.false))
    ]
