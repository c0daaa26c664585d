-- The first `filled` bytes are those that were read, at least one by each read. Few reads were full.
use Rattle.std.proofs.Common.{◌≡◌, ◌+◌, ◌≤◌, take, vec_len}
use Rattle.std.specs.Io.KnownBytes.{Consumes}
use Rattle.vme_stream.proofs.InputLemmas.{IsRoomy}
use Rattle.vme_stream.proofs.input.read_all.Given as goal

abbrev pub invariant-loop : goal.invariant-loop
invariant-loop g l = record {
  within : l.filled ≤ vec_len l.bytes;
  counted : l.counter ≤ l.filled;
  read : Consumes (g.R.Source.reading l.initial.source).left (g.R.Source.reading l.source).left
      (take l.filled l.bytes.items);
  reads : (g.R.Source.reading l.source).reads ≡ (g.R.Source.reading l.initial.source).reads + l.counter;
  roomy : IsRoomy (g.R.Source.reading l.initial.source) (g.R.Source.reading l.source) l.counter l.filled;
  failures : (g.R.Source.reading l.source).failures ≡ (g.R.Source.reading l.initial.source).failures;
}
