-- A file whose steps are given some at a time.
use Rattle.std.specs.Prelude.{◌≡◌, ℕ, ◌+◌, ◌*◌, ◌^◌, ◌<◌, ◌≤◌, Bool, List, [], length, Option, None, Some}
use Rattle.vme_trace.specs.Followed.{with_steps}
use Rattle.vme_trace.specs.Levels.{Levels}
use Rattle.vme_trace.specs.Trace.{Trace}
use Rattle.vme_trace.specs.WellFormed.{malformed_step}
use Rattle.vme_trace.specs.declared.step.Step.{Step}
use Rattle.vme_part_format.specs.Tables.{SegmentValue, segment_value}
use Rattle.vme_part_format.specs.declared.segment.Segment.{Segment}
use Rattle.vme_part_tables.specs.Runs.{IsComposition}
use Rattle.vme_parts.specs.Files.{StandsForFile}
use Rattle.vme_parts.specs.Joined.{joined_times}
use Rattle.vme_file_part.specs.FileOf.{file_of}
use Rattle.vme_parts.specs.NodeCounts.{HaveNodesAtMost}
use Rattle.vme_file_part.specs.declared.file_so_far.FileSoFar.{FileSoFar}

-- r is s extended by t, which is of later steps of the same file
pub record IsExtended (s t r : SegmentValue) : Type 0 where
  pub first : r.first ≡ s.first
  pub order : r.order ≡ s.order
  pub steps : r.steps ≡ s.steps + t.steps
  pub opening : r.opening ≡ s.opening
  pub left : r.left ≡ t.left
  pub times : r.times ≡ joined_times s.times t.times
  pub known : IsComposition s.steps s.known t.known r.known
  pub handshake : IsComposition s.steps s.handshake t.handshake r.handshake
  pub stability : IsComposition s.steps s.stability t.stability r.stability
  pub grant : IsComposition s.steps s.grant t.grant r.grant
  pub acknowledge : IsComposition s.steps s.acknowledge t.acknowledge r.acknowledge

-- the recording t continued with `steps` is well-formed, and not too long
pub record FileMayGoOn (t : Trace) (steps : List Step) : Type 0 where
  pub formed : malformed_step (with_steps t steps) ≡ None
  pub few : length t.steps + length steps ≤ 268435456

-- if t has steps, the segment stands for the file `number` of t so far, whose dump has the first time `first_time`; if
-- it has none, there is no segment
abbrev pub IsFoundOfFile : ℕ → Bool → Option ℕ → Option Segment → Trace → Type 0
IsFoundOfFile number listing first_time None t = t.steps ≡ []
IsFoundOfFile number listing first_time (Some s) t =
    (0 < length t.steps) × StandsForFile listing (segment_value s) (file_of number first_time t)

-- `IsFoundOfFile`, and t has the levels `opening` before its first step
pub record IsFoundIn (number : ℕ) (listing : Bool) (first_time : Option ℕ) (opening : Levels) (segment : Option Segment)
    (t : Trace) : Type 0 where
  pub opened : opening ≡ t.opening
  pub found : IsFoundOfFile number listing first_time segment t

-- f is the file `number` with the steps of t so far, with marks or without; its dump has the first time `first_time`
pub record IsFileSoFar (number : ℕ) (listing : Bool) (first_time : Option ℕ) (f : FileSoFar) (t : Trace) : Type 0 where
  pub number_is : f.number ≡ number
  pub listing_is : f.listing ≡ listing
  pub first_time_is : f.first_time ≡ first_time
  pub found : IsFoundIn number listing first_time f.opening f.segment t

-- each table of the segment, if there is one, has at most k nodes for each of its memories
abbrev pub HaveNodesSoFar : ℕ → Option Segment → Type 0
HaveNodesSoFar k None = Unit {0}
HaveNodesSoFar k (Some s) = HaveNodesAtMost k (segment_value s)

-- each table of the file f so far has at most k nodes for each of its memories
abbrev pub FileHasNodesAtMost : ℕ → FileSoFar → Type 0
FileHasNodesAtMost k f = HaveNodesSoFar k f.segment

-- k nodes for each memory may be too many: 32 bits can't number them and the memories, where there are 147, the most
-- that a monitor has
abbrev pub AreTooManyNodes : ℕ → Type 0
AreTooManyNodes k = 2 ^ 32 ≤ 147 * (k + 1)
