-- Rows after those of the start were read, unless the listing was complete at the start.
use Rattle.std.proofs.Common.{◌≡◌, ◌++◌, ℕ, List, true, [], length}
use Rattle.vme_cert.specs.Vocabulary.{HasRead, Row, ends_listing}
use Rattle.vme_cert.proofs.source.TextRows.fault.Given as goal

abbrev pub invariant-loop-fault : goal.invariant-loop-fault
invariant-loop-fault l =
    record {
      version : l.self.reader.version ≡ l.fn.self.reader.version;
      over : ends_listing l.fn.self.reader.last ≡ true → l.self.reader ≡ l.fn.self.reader;
      read : (text : List ℕ) (rows : List Row) → HasRead text rows l.fn.self.reader
          → (more : List Row) × HasRead text (rows ++ more) l.self.reader
          × (ends_listing l.fn.self.reader.last ≡ true → more ≡ []);
    }

abbrev pub decreases-loop-fault : goal.decreases-loop-fault
decreases-loop-fault l = length l.self.reader.rest
