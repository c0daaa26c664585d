-- Only with marks a table has nodes, so only with marks it may have too many.
use Rattle.std.specs.Prelude.{◌≡◌, Bool, true}
use Rattle.vme_part_format.specs.Bounds.{HasNodes}
use Rattle.vme_part_format.specs.Tables.{SegmentValue}
use Rattle.vme_parts.specs.declared.part_refusal.PartRefusal.{PartRefusal}
use Rattle.vme_parts.specs.declared.part_refusal.PartRefusal.TheVariants as refusal

-- each table of the segment s has nodes only with marks (`true`)
pub record HaveNodes (listing : Bool) (s : SegmentValue) : Type 0 where
  pub known : HasNodes listing s.known.nodes
  pub handshake : HasNodes listing s.handshake.nodes
  pub stability : HasNodes listing s.stability.nodes
  pub grant : HasNodes listing s.grant.nodes
  pub acknowledge : HasNodes listing s.acknowledge.nodes

-- when a refusal of a file is true: a table has too many nodes only with marks (`true`)
abbrev pub IsRefusedFile : Bool → PartRefusal → Type 0
IsRefusedFile listing refusal.Memory = Unit {0}
IsRefusedFile listing refusal.TooManyNodes = listing ≡ true
