-- The rows of the text are those that the check asked for, and those that `fault` reads after them.
use Rattle.std.proofs.Common.{◌≡◌, ◌++◌, inl, inr, sym, subst}
use Rattle.std.specs.Prelude.{IsSome, None, Option, Some}
use Rattle.vme_cert.specs.Vocabulary.{IsTextOfListing, ListFault, Version, listed, recorded_rows, rows_in}
use Rattle.vme_cert.specs.contracts.source.TextRowsRowSource.TheImpl.{ghosts}
use Rattle.vme_cert.proofs.Comparing.{DecidesListing-all}
use Rattle.vme_cert.proofs.compare.confirm_text.Goals as goal

-- a fault that is none isn't some
none-not_some : (fault : Option ListFault) → fault ≡ None → IsSome fault → ⊥
none-not_some None none some = absurd (cc)
none-not_some (Some x) none some = absurd (cc)

pub returns-in-None-clause-answer : goal.returns-in-None-clause-answer
returns-in-None-clause-answer c =
    let text = c.args.text.now in
    let all = recorded_rows c.args.capture.now in
    let version = c.version-version.result in
    let (answer, source) = c.check-answer.result in
    let found = c.check-answer.ensures (text, version) (c.in-Some.ensures.read, sym c.version-version.ensures, tt) in
    let left = c.fault.ensures.whole text found.0 found.1.0 c.in-None.is in
    let is = subst (λ (v : Version). IsTextOfListing text (listed v (found.0 ++ left.0))) found.1.1 left.1 in (
      listed version (found.0 ++ left.0),
      is.0,
      is.1,
      DecidesListing-all ghosts.is_over found.0 left.0 (rows_in version all) source answer found.2 (λ over. elim over [
        | inl some ↦ absurd (none-not_some source.fault (c.fault.ensures.kept c.in-None.is) some)
        | inr ends ↦ left.2 ends
      ]),
    )

pub returns-in-Some-fault-clause-first : goal.returns-in-Some-fault-clause-first
returns-in-Some-fault-clause-first c =
    let text = c.args.text.now in
    let version = c.version-version.result in
    let found = c.check-answer.ensures (text, version) (c.in-Some.ensures.read, sym c.version-version.ensures, tt) in
    (c.in-Some-fault.ensures.fault text found.0 found.1.0 found.1.2).0

pub returns-in-Some-fault-clause-none : goal.returns-in-Some-fault-clause-none
returns-in-Some-fault-clause-none c =
    let text = c.args.text.now in
    let version = c.version-version.result in
    let found = c.check-answer.ensures (text, version) (c.in-Some.ensures.read, sym c.version-version.ensures, tt) in
    (c.in-Some-fault.ensures.fault text found.0 found.1.0 found.1.2).1
