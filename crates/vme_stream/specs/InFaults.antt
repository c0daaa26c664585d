-- What becomes of the count of failures where a read ends in a fault.
use Rattle.std.specs.Prelude.{◌≡◌, suc}
use Rattle.vme_trace.specs.Streams.{Reading}
use Rattle.vme_stream.specs.declared.input.InFault.{InFault}
use Rattle.vme_stream.specs.declared.input.InFault.TheVariants.{Read, TooLong, Memory}

-- the read failed, or there was no memory for it
abbrev pub InputFailsBy : Reading → Reading → InFault → Type 0
InputFailsBy old new Read = new.failures ≡ suc old.failures
InputFailsBy old new TooLong = ⊥
InputFailsBy old new Memory = new.failures ≡ old.failures
