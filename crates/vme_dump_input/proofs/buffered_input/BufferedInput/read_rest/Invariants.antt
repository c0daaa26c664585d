-- What was held at the start, and what was read after it, was taken or is held.
use Rattle.std.proofs.Common.{◌≡◌, ℕ, List, [], ◌++◌, true}
use Rattle.vme_trace.specs.Streams.{Reading}
use Rattle.vme_dump_input.specs.BufferedInputs.{IsReadTo, reads_left}
use Rattle.vme_dump_input.proofs.buffered_input.BufferedInput.read_rest.Given as goal

abbrev pub invariant-loop-self : goal.invariant-loop-self
invariant-loop-self g l =
    record {
      read : (old : Reading) (done : List ℕ) → IsReadTo old (g.R.Source.reading l.initial.source) done l.initial.self
          → (gone more : List ℕ) × IsReadTo old (g.R.Source.reading l.source) (done ++ gone) l.self
          × (gone ++ l.self.held ≡ l.initial.self.held ++ more)
          × (l.initial.self.is_whole ≡ true → more ≡ []);
      whole : l.initial.self.is_whole ≡ true → l.self.is_whole ≡ true;
      limit : l.self.limit ≡ l.initial.self.limit;
    }

abbrev pub decreases-loop-self : goal.decreases-loop-self
decreases-loop-self g l = reads_left l.self
