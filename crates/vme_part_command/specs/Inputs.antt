-- The parts in the inputs, and the part joined from them.
use Rattle.std.specs.Prelude.{◌≡◌, ℕ, ◌<◌, ◌≤◌, List, All, length, None, Some, Err, slice_get}
use Rattle.vme_trace.specs.Streams.{Reading}
use Rattle.vme_stream.specs.Inputs.{IsReading, longest_input}
use Rattle.vme_part_format.specs.Bounds.{FitsPart}
use Rattle.vme_part_format.specs.PartText.{part_bytes}
use Rattle.vme_part_format.specs.Reading.{part_at}
use Rattle.vme_part_format.specs.Sizes.{IsCompactPart}
use Rattle.vme_part_format.specs.Tables.{PartValue}
use Rattle.vme_parts.specs.Alike.{AreRefused, MakeOne, first_listing}
use Rattle.vme_parts.specs.Files.{JoinsParts}
use Rattle.vme_part_command.specs.declared.inputs.PartInputError.{PartInputError}
use Rattle.vme_part_command.specs.declared.inputs.PartInputError.TheVariants as error
use Rattle.vme_part_command.specs.declared.inputs.PartInputFault.{PartInputFault}
use Rattle.vme_part_command.specs.declared.inputs.PartInputFault.TheVariants as input
use Rattle.vme_part_command.specs.declared.inputs.NoJoin.{NoJoin}
use Rattle.vme_part_command.specs.declared.inputs.NoJoin.TheVariants as none

-- the first n inputs were read, and have the parts ps
pub record HaveRead (old new : List Reading) (n : ℕ) (ps : List PartValue) : Type 0 where
  pub within : n ≤ length old
  pub many : length ps ≡ n
  pub fit : All FitsPart ps
  pub read : (k : ℕ) (a b : Reading) (p : PartValue) → slice_get old k ≡ Some a → slice_get new k ≡ Some b
      → slice_get ps k ≡ Some p → IsReading a b (Some (part_bytes p))

-- all inputs were read, and have the parts ps
pub record ReadParts (old new : List Reading) (ps : List PartValue) : Type 0 where
  pub many : length ps ≡ length old
  pub fit : All FitsPart ps
  pub read : (k : ℕ) (a b : Reading) (p : PartValue) → slice_get old k ≡ Some a → slice_get new k ≡ Some b
      → slice_get ps k ≡ Some p → IsReading a b (Some (part_bytes p))

-- why an input is no part: it can't be read, it is too long, or its bytes have the first fault `fault`
abbrev pub IsFaulty : Reading → Reading → PartInputFault → Type 0
IsFaulty a b input.Unread = IsReading a b None
IsFaulty a b input.TooLong = (bytes : List ℕ) × (longest_input < length bytes) × IsReading a b (Some bytes)
IsFaulty a b (input.Faulty fault) = (bytes : List ℕ) × IsReading a b (Some bytes) × (part_at bytes ≡ Err fault)

-- why an input isn't read as a part, unless memory ran out
abbrev pub IsPartInputError : Reading → Reading → PartInputError → Type 0
IsPartInputError a b error.Memory = Unit {0}
IsPartInputError a b (error.Fault fault) = IsFaulty a b fault

-- the inputs before `place` are parts, and the one at `place` is none, for the reason `fault`
pub record HasFaultAt (old new : List Reading) (place : ℕ) (fault : PartInputFault) : Type 0 where
  pub parts : List PartValue
  pub before : HaveRead old new place parts
  pub was : Reading
  pub becomes : Reading
  pub there : slice_get old place ≡ Some was
  pub left : slice_get new place ≡ Some becomes
  pub is : IsFaulty was becomes fault

-- why no part is joined from the inputs, unless memory ran out: the first input that is no part, or why the parts can't
-- be joined, and whether the first has marks
abbrev pub IsNoJoin : List Reading → List Reading → NoJoin → Type 0
IsNoJoin old new none.Memory = Unit {0}
IsNoJoin old new (none.Input place fault) = HasFaultAt old new place fault
IsNoJoin old new (none.Refused why has_marks) =
    (ps : List PartValue) × ReadParts old new ps × (has_marks ≡ first_listing ps) × AreRefused ps why

-- p is joined from the parts in all inputs, can be written, and is compact if they are
pub record IsJoinOf (old new : List Reading) (p : PartValue) : Type 0 where
  pub parts : List PartValue
  pub read : ReadParts old new parts
  pub joins : JoinsParts parts p
  pub fits : FitsPart p
  pub one : MakeOne parts p
  pub compact : All IsCompactPart parts → IsCompactPart p
