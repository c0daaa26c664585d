-- No word was found so far.
use Rattle.std.proofs.Common.{◌≡◌, length}
use Rattle.vme_bind.specs.Text.{words}
use Rattle.vme_bind.proofs.words.LineWords.next.Given as goal

abbrev pub invariant-loop-word : goal.invariant-loop-word
invariant-loop-word l = words l.self.rest.now ≡ words l.fn.self.rest.now

abbrev pub decreases-loop-word : goal.decreases-loop-word
decreases-loop-word l = length l.self.rest.now
