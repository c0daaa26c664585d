-- How the definitions of a dump were read, by how the reading of its text begins.
use Rattle.std.proofs.Common.{◌≡◌, ℕ, List, ◌++◌, true, Option, Some, Ok, Err, sym, subst}
use Rattle.std.specs.Io.KnownBytes.{Consumes, IsAtEnd}
use Rattle.std.proofs.KnownBytes.{Consumes-trans}
use Rattle.vme_trace.specs.Streams.{Reading}
use Rattle.vme_bind.specs.Binding.{BoundLines}
use Rattle.vme_bind.specs.TextReading.{reading_of_text}
use Rattle.vme_step_reader.specs.StepReading.{StepReading}
use Rattle.vme_audit_command.specs.Definitions.{AreAllBytesOf, BeginsBody, NotBegun, ReadsDefinitions, unread}
use Rattle.vme_audit_command.specs.declared.dump_input.ReadFault.{ReadFault}
use Rattle.vme_audit_command.specs.declared.dump_input.ReadFault.TheVariants as read
use Rattle.vme_audit_command.specs.declared.written_lines.NoOutcome.{NoOutcome}
use Rattle.vme_audit_command.specs.declared.written_lines.NoOutcome.TheVariants.{CannotRead, NotWritten, Refused}
use Rattle.vme_audit_command.proofs.BodyPieces.{Consumes-to_end, left_of-known, Consumes-then_left, left_of}

-- if `held` was read first, and then `more`, both are what was read
pub Consumes-held : (a b c : Option (List ℕ)) (held more now : List ℕ) → Consumes a b held → Consumes b c more
    → now ≡ held ++ more → Consumes a c now
Consumes-held a b c held more now one two is = subst (Consumes a c) (sym is) (Consumes-trans a b c held more one two)

module _ (binding : BoundLines) (old new : Reading) (left : List ℕ) where
  -- reading all bytes of the source ends before its body: so does reading its definitions
  ReadsDefinitions-not_begun : (text : List ℕ) (why : NoOutcome) → AreAllBytesOf old text
      → NotBegun (reading_of_text binding text) why
      → ReadsDefinitions binding old new left (Err why)
  ReadsDefinitions-not_begun text (Refused refusal) all not = (text, all, not)
  ReadsDefinitions-not_begun text CannotRead all not = tt
  ReadsDefinitions-not_begun text (NotWritten fault) all not = (text, all, not)

  -- if reading ends before the body, whatever follows the bytes that were read, so does reading the definitions
  pub ReadsDefinitions-not_begun_here : (held : List ℕ) (why : NoOutcome) → Consumes old.left new.left held
      → ((rest : List ℕ) → NotBegun (reading_of_text binding (held ++ rest)) why)
      → ReadsDefinitions binding old new left (Err why)
  ReadsDefinitions-not_begun_here held why read not =
      ReadsDefinitions-not_begun (held ++ left_of new.left) why (Consumes-then_left old.left new.left held read)
      (not (left_of new.left))

  -- if the source is at its end, and reading what was read of it ends before the body, so does reading the definitions
  pub ReadsDefinitions-not_begun_at_end : (held : List ℕ) (why : NoOutcome) → Consumes old.left new.left held
      → IsAtEnd new.left
      → NotBegun (reading_of_text binding held) why → ReadsDefinitions binding old new left (Err why)
  ReadsDefinitions-not_begun_at_end held why read end not =
      ReadsDefinitions-not_begun held why (Consumes-to_end old.left new.left held read end) not

  -- if no more is read, because of this fault, reading the definitions ends so
  pub ReadsDefinitions-unread : (fault : ReadFault) (why : NoOutcome) → why ≡ unread fault
      → ReadsDefinitions binding old new left (Err why)
  ReadsDefinitions-unread read.Failed why is =
      subst (λ (e : NoOutcome). ReadsDefinitions binding old new left (Err e)) (sym is) tt
  ReadsDefinitions-unread read.Memory why is =
      subst (λ (e : NoOutcome). ReadsDefinitions binding old new left (Err e)) (sym is)
      (left_of old.left, left_of-known old.left, tt)

  -- if the body begins in the bytes that were read, the definitions were read, and more of the dump may follow
  pub ReadsDefinitions-begun : (held : List ℕ) (found : Option StepReading) (r : StepReading) → found ≡ Some r
      → BeginsBody binding held left (Ok found) → Consumes old.left new.left held
      → ReadsDefinitions binding old new left (Ok (r, true))
  ReadsDefinitions-begun held found r is begins read =
      let (begun, whole) = subst (λ (x : Option StepReading). BeginsBody binding held left (Ok x)) is begins in
      (begun, (held, read, whole))
