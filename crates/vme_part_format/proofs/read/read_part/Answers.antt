-- What `read_part` reads is the part whose bytes these are, and bytes that differ from those of a part in one byte are
-- refused.
use Rattle.std.proofs.Common.{◌≡◌, ℕ, List, Result, Ok, Err, refl, ap, subst, ◌∙◌, arith}
use Rattle.std.specs.Prelude.{IfOk, IsErr}
use Rattle.vme_part_format.specs.declared.fault.PartFault.{PartFault}
use Rattle.vme_part_format.specs.declared.fault.ReadError.{ReadError}
use Rattle.vme_part_format.specs.declared.part.Part.{Part}
use Rattle.vme_part_format.specs.Bounds.{FitsPart}
use Rattle.vme_part_format.specs.PartText.{part_bytes}
use Rattle.vme_part_format.specs.Reading.{IsPartReading, part_at}
use Rattle.vme_part_format.specs.Sums.{DifferInOne}
use Rattle.vme_part_format.specs.Tables.{PartValue, part_value}
use Rattle.vme_part_format.proofs.FieldLaws.{IsBytes}
use Rattle.vme_part_format.proofs.PartLaws.{part_at-of_bytes, part_bytes-differ_in_more, part_at-ok}
use Rattle.vme_part_format.proofs.read.read_part.Goals as goal

-- a part that is read from the bytes can be written, and these are its bytes
part_bytes-of_read : (bytes : List ℕ) (r : Result Part ReadError) → IsBytes bytes
    → IsPartReading part_value r (part_at bytes)
    → IfOk r (λ p. FitsPart (part_value p) × (bytes ≡ part_bytes (part_value p)))
part_bytes-of_read bytes (Ok p) fits e = part_at-ok bytes (part_value p) fits e
part_bytes-of_read bytes (Err f) fits e = tt

pub returns-clause-found : goal.returns-clause-found
returns-clause-found c =
    part_bytes-of_read c.args.bytes.now c.read_checked.result (λ i. omega (arith, c.type_inv.bytes i))
    c.read_checked.ensures

pub returns-clause-only : goal.returns-clause-only
returns-clause-only c = λ p fits e.
    subst (λ (read : Result PartValue PartFault). IsPartReading part_value c.read_checked.result read)
    (ap part_at e ∙ part_at-of_bytes p fits) c.read_checked.ensures

-- bytes that differ from those of a part in one byte aren't read as a part
IsErr-one_byte_changed : (bytes : List ℕ) (r : Result Part ReadError) → IsBytes bytes
    → IsPartReading part_value r (part_at bytes)
    → (p : PartValue) → DifferInOne bytes (part_bytes p) → IsErr r
IsErr-one_byte_changed bytes (Ok q) fits e p d =
    absurd (part_bytes-differ_in_more bytes (part_value q) p fits (part_at-ok bytes (part_value q) fits e).1 d)
IsErr-one_byte_changed bytes (Err f) fits e p d = refl

pub returns-clause-changed : goal.returns-clause-changed
returns-clause-changed c =
    IsErr-one_byte_changed c.args.bytes.now c.read_checked.result (λ i. omega (arith, c.type_inv.bytes i))
    c.read_checked.ensures
