-- Texts that are dumps.
use Rattle.std.specs.Prelude.{◌≡◌, ℕ, List, Ok}
use Rattle.vcd_read.specs.Contents.{Contents}
use Rattle.vcd_read.specs.Meaning.{dump_of}

-- the text is a dump without a fault
abbrev pub IsDump : List ℕ → Type 0
IsDump text = (contents : Contents) × (dump_of text ≡ Ok contents)
