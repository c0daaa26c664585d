-- One segment joined from two that follow one another.
use Rattle.std.specs.Prelude.{◌≡◌, ◌+◌, ◌<◌, ◌^◌, Option, None, Some}
use Rattle.vme_summary.specs.Extents.{Meets}
use Rattle.vme_part_format.specs.Tables.{SegmentValue}
use Rattle.vme_part_format.specs.declared.segment.SegmentTimes.{SegmentTimes}
use Rattle.vme_part_tables.specs.Runs.{IsComposition}
use Rattle.vme_parts.specs.Stands.{extent_of}

-- the times of the steps of a and then those of b
abbrev pub later_times : SegmentTimes → SegmentTimes → SegmentTimes
later_times a b = record { number = a.number; first = a.first; last = b.last }

-- the times of the steps of a segment and then those of another; `None` for a segment without steps
abbrev pub joined_times : Option SegmentTimes → Option SegmentTimes → Option SegmentTimes
joined_times None b = b
joined_times (Some a) None = Some a
joined_times (Some a) (Some b) = Some (later_times a b)

-- r is joined from s and t, which have the same order, and t continues where s ends
pub record IsOfBoth (s t r : SegmentValue) : Type 0 where
  pub meets : Meets (extent_of s) (extent_of t)
  pub same_order : t.order ≡ s.order
  pub order : r.order ≡ s.order + 1
  pub first : r.first ≡ s.first
  pub steps : r.steps ≡ s.steps + t.steps
  pub counts : r.steps < 2 ^ 64
  pub opening : r.opening ≡ s.opening
  pub left : r.left ≡ t.left
  pub times : r.times ≡ joined_times s.times t.times
  pub known : IsComposition s.steps s.known t.known r.known
  pub handshake : IsComposition s.steps s.handshake t.handshake r.handshake
  pub stability : IsComposition s.steps s.stability t.stability r.stability
  pub grant : IsComposition s.steps s.grant t.grant r.grant
  pub acknowledge : IsComposition s.steps s.acknowledge t.acknowledge r.acknowledge
