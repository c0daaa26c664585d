-- The loop over numbers: none so far meets the predicate that the test decides.
use Rattle.std.proofs.Common.{◌≡◌, ℕ, Bool, false}
use Rattle.vme_cert.specs.Vocabulary.{any}
use Rattle.vme_cert.specs.Tests.{Tests}
use Rattle.vme_cert.proofs.search.least.Given as goal

abbrev pub invariant-loop-number : goal.invariant-loop-number
invariant-loop-number g l = (p : ℕ → Bool) → Tests (goal.F-post g l.fn.test) l.fn.first l.fn.end p → any p l.fn.first
    l.number ≡ false
