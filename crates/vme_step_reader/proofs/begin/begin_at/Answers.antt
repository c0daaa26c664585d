use Rattle.std.proofs.Common.{◌∙◌, ℕ, List, Option, Result, Ok, ap, subst, sym}
use Rattle.vcd_read.specs.Tokens.{tokens_from}
use Rattle.vme_bind.specs.SpeculativeReading.{with_recording}
use Rattle.vme_bind.specs.TextCapture.{CaptureFailsBy}
use Rattle.vme_bind.specs.TextPieces.{TextReached, text_reached}
use Rattle.vme_bind.specs.TextReading.{TextReading, or_fault, reading_ahead}
use Rattle.vme_bind.specs.declared.fault.BindFault.{BindFault}
use Rattle.vme_bind.specs.declared.fault.CaptureFault.{CaptureFault}
use Rattle.vme_step_reader.proofs.begin.begin_at.Goals as goal

pub returns-in-Ok-clause-begins : goal.returns-in-Ok-clause-begins
returns-in-Ok-clause-begins c whole more e =
    let t : TextReached = text_reached c.in-Ok-Ok.text in
    let r = c.in-Ok.reader in
    let left = c.in-Ok-Ok.left.now in
    let reading = rw (c.in-Ok-Ok.field-0-is) at c.in-Ok-Ok.ensures.reading in
    let begins = rw (c.in-Ok-Ok.field-0-is) at c.in-Ok-Ok.ensures.left in
    reading whole more e
    ∙ ap (λ (f : Option BindFault). or_fault f (reading_ahead t (tokens_from t.body.line left) more))
    c.in-Ok.ensures.fits
    ∙ ap (λ (t : TextReached). Ok (reading_ahead t (tokens_from t.body.line left) more)) c.in-Ok.ensures.reached
    ∙ ap (λ (bytes : List ℕ). Ok (reading_ahead (with_recording r.given r.speculative)
    (tokens_from r.speculative.body.line bytes)
    more)) begins

pub returns-in-Ok-Ok-clause-fails : goal.returns-in-Ok-Ok-clause-fails
returns-in-Ok-Ok-clause-fails c whole more e =
    let t : TextReached = text_reached c.in-Ok-Ok.text in
    let reading = rw (c.in-Ok-Ok.field-0-is) at c.in-Ok-Ok.ensures.reading in
    subst (λ (r : Result TextReading CaptureFault). CaptureFailsBy c.in-Err-before_steps.fault r)
    (sym (reading whole more e))
    (c.in-Err-before_steps.ensures.refused (tokens_from t.body.line c.in-Ok-Ok.left.now) more)
