use Rattle.vcd_read.proofs.ReadLemmas.{ReadGives-error}
use Rattle.vcd_read.proofs.head.read_definitions.Goals as goal

pub returns-in_err-codes : goal.returns-in_err-codes
returns-in_err-codes g c =
    let h = rw (c.new-reader.ensures.at, c.new-reader.ensures.text, c.new-reader.ensures.line) at
    c.in_err-codes.ensures.header in
    ReadGives-error _ c.from_residual.result c.in_err-codes.field-0.0 _ c.from_residual.ensures.1 h

pub returns : goal.returns
returns g c =
    let h = rw (c.new-reader.ensures.at, c.new-reader.ensures.text, c.new-reader.ensures.line) at
    c.in_ok-codes.ensures.header in
    rw (c.in_ok-codes.ensures.text, c.new-reader.ensures.text, c.new-reader.ensures.line) h
