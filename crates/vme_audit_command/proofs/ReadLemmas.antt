-- By the counts of a dump's source, an audit reports that the dump can't be read only where that is so.
use Rattle.std.proofs.Common.{◌≡◌, ◌≢◌, ◌+◌, ◌≤◌, ℕ, suc, Result, Ok, Err, IfErr, inl, inr, refl, sym, ap, subst, ◌∙◌}
use Rattle.std.proofs.Common.{arith}
use Rattle.vme_trace.specs.Streams.{Reading}
use Rattle.vme_audit_command.specs.Definitions.{unread}
use Rattle.vme_audit_command.specs.DumpAudits.{or_not_written}
use Rattle.vme_audit_command.specs.DumpReads.{CountsUnread, NoReadFails, most_dump_reads}
use Rattle.vme_audit_command.specs.declared.dump_input.ReadFault.{ReadFault}
use Rattle.vme_audit_command.specs.declared.dump_input.ReadFault.TheVariants as read
use Rattle.vme_audit_command.specs.declared.written_lines.NoOutcome.{NoOutcome}
use Rattle.vme_audit_command.specs.declared.written_lines.NoOutcome.TheVariants.{CannotRead, NotWritten, Refused}
use Rattle.vme_audit_command.specs.declared.written_lines.WriteFault.{WriteFault}

-- ---- no read fails

-- where nothing is read, no read fails
pub NoReadFails-refl : (old : Reading) → NoReadFails old old
NoReadFails-refl old = record { failures = refl; reads = omega arith }

-- where no read fails in either of two parts, none fails in both
pub NoReadFails-trans : (old now new : Reading) → NoReadFails old now → NoReadFails now new → NoReadFails old new
NoReadFails-trans old now new one two =
    let first : old.reads ≤ now.reads = one.reads in
    let second : now.reads ≤ new.reads = two.reads in
    record { failures = two.failures ∙ one.failures; reads = omega (arith, first, second) }

-- where `count` reads gave bytes, and the count of failures is the same, no read fails
pub NoReadFails-counted : (old new : Reading) (count : ℕ) → new.failures ≡ old.failures
    → new.reads ≡ old.reads + count → NoReadFails old new
NoReadFails-counted old new count same grown = record { failures = same; reads = omega (arith, grown) }

-- ---- the result of auditing a part of a dump; one that is as `CountsUnread` asks is called right

-- where no read fails, a result is right that gives another reason, or an outcome
pub CountsUnread-other : {A : Type 0} (old new : Reading) (result : Result A NoOutcome)
    → IfErr result (λ why. why ≢ CannotRead) → NoReadFails old new → CountsUnread old new result
CountsUnread-other old new (Ok x) other none = none
CountsUnread-other old new (Err (Refused refusal)) other none = none
CountsUnread-other old new (Err CannotRead) other none = absurd (other refl)
CountsUnread-other old new (Err (NotWritten fault)) other none = none

-- where no read fails, the result of writing is right
pub CountsUnread-or_not_written : {A : Type 0} (old new : Reading) (written : Result A WriteFault)
    → NoReadFails old new → CountsUnread old new (or_not_written written)
CountsUnread-or_not_written old new (Ok x) none = none
CountsUnread-or_not_written old new (Err fault) none = none

-- after a part in which no read failed, a read has this fault: the reason that `unread` gives is right
pub CountsUnread-fault : (A : Type 0) (old now new : Reading) (fault : ReadFault) (why : NoOutcome)
    → why ≡ unread fault → now.failures ≡ old.failures → (fault ≡ read.Failed → new.failures ≡ suc now.failures)
    → (fault ≡ read.Memory → new.failures ≡ now.failures) → old.reads ≤ new.reads
    → CountsUnread {A = A} old new (Err why)
CountsUnread-fault A old now new read.Failed why is same failed memory on =
    subst (λ (e : NoOutcome). CountsUnread {A = A} old new (Err e)) (sym is) (inl (failed refl ∙ ap suc same))
CountsUnread-fault A old now new read.Memory why is same failed memory on =
    subst (λ (e : NoOutcome). CountsUnread {A = A} old new (Err e)) (sym is)
    (record { failures = memory refl ∙ same; reads = on })

-- where `most_dump_reads` reads gave bytes, it is right that the dump can't be read
pub CountsUnread-given_up : (A : Type 0) (old new : Reading) (count : ℕ) → most_dump_reads ≤ count
    → new.failures ≡ old.failures → new.reads ≡ old.reads + count → CountsUnread {A = A} old new (Err CannotRead)
CountsUnread-given_up A old new count most same grown =
    inr (record { failures = same; reads = omega (arith, most, grown) })

-- a result that is right for the second of two parts is right for both, if no read fails in the first
pub CountsUnread-after : {A : Type 0} (old now new : Reading) (result : Result A NoOutcome) → NoReadFails old now
    → CountsUnread now new result → CountsUnread old new result
CountsUnread-after old now new (Ok x) none counts = NoReadFails-trans old now new none counts
CountsUnread-after old now new (Err (Refused refusal)) none counts = NoReadFails-trans old now new none counts
CountsUnread-after old now new (Err CannotRead) none (inl failed) = inl (failed ∙ ap suc none.failures)
CountsUnread-after old now new (Err CannotRead) none (inr up) =
    let first : old.reads ≤ now.reads = none.reads in
    let most : now.reads + most_dump_reads ≤ new.reads = up.reads in
    inr (record { failures = up.failures ∙ none.failures; reads = omega (arith, first, most) })
CountsUnread-after old now new (Err (NotWritten fault)) none counts = NoReadFails-trans old now new none counts

-- a reason that is right for results of one type is right for results of another type
pub CountsUnread-retyped : (A B : Type 0) (old new : Reading) (why : NoOutcome)
    → CountsUnread {A = A} old new (Err why) → CountsUnread {A = B} old new (Err why)
CountsUnread-retyped A B old new (Refused refusal) counts = counts
CountsUnread-retyped A B old new CannotRead counts = counts
CountsUnread-retyped A B old new (NotWritten fault) counts = counts
