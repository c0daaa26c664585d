-- What the reads of a dump do to the counts of its source, by how the audit of the dump ends.
use Rattle.std.specs.Prelude.{◌≡◌, ◌+◌, ◌≤◌, ◌⊎◌, ℕ, suc, Result, Err}
use Rattle.vme_trace.specs.Streams.{Reading}
use Rattle.vme_audit_command.specs.declared.written_lines.NoOutcome.{NoOutcome}
use Rattle.vme_audit_command.specs.declared.written_lines.NoOutcome.TheVariants.{CannotRead}

-- how many reads give bytes, at least, before reading a dump is given up
abbrev pub most_dump_reads : ℕ
most_dump_reads = 18446744073709551615

-- no read failed
pub record NoReadFails (old new : Reading) : Type 0 where
  pub failures : new.failures ≡ old.failures
  pub reads : old.reads ≤ new.reads

-- no read failed, and reading was given up: at least `most_dump_reads` reads gave bytes
pub record GivesUpDump (old new : Reading) : Type 0 where
  pub failures : new.failures ≡ old.failures
  pub reads : old.reads + most_dump_reads ≤ new.reads

-- the dump can't be read to its end: a read failed, or reading was given up
abbrev pub CannotBeRead : Reading → Reading → Type 0
CannotBeRead old new = (new.failures ≡ suc old.failures) ⊎ GivesUpDump old new

-- it is reported that a dump can't be read only where that is so, and else no read of it failed
abbrev pub CountsUnread : {A : Type 0} → Reading → Reading → Result A NoOutcome → Type 0
CountsUnread old new (Err CannotRead) = CannotBeRead old new
CountsUnread old new other = NoReadFails old new
