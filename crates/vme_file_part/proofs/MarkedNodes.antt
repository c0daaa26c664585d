-- The tables of a segment that is extended have nodes only with marks, and only with marks they have too many.
use Rattle.std.proofs.Common.{◌≡◌, ◌+◌, ◌≤◌, Bool, true, false, List, length, refl, ap, arith}
use Rattle.std.proofs.lemmas.List.{nil_from_length}
use Rattle.vme_part_format.specs.Bounds.{HasNodes}
use Rattle.vme_part_format.specs.Tables.{NodeValue, SegmentValue, TableValue}
use Rattle.vme_part_tables.specs.Ways.{HasWays}
use Rattle.vme_parts.specs.Buddies.{FewNodes}
use Rattle.vme_parts.specs.NodeCounts.{IsLackOfMemory}
use Rattle.vme_parts.specs.OnlyWithMarks.{HaveNodes, IsRefusedFile}
use Rattle.vme_parts.specs.declared.part_refusal.PartRefusal.{PartRefusal}
use Rattle.vme_parts.specs.declared.part_refusal.PartRefusal.TheVariants as refusal
use Rattle.vme_file_part.specs.Growing.{IsExtended}

-- if c has at most as many nodes as a and b together, and these have nodes only with marks, so has c
HasNodes-of_both : (listing : Bool) (a b c : List NodeValue) → length c ≤ length a + length b → HasNodes listing a
    → HasNodes listing b → HasNodes listing c
HasNodes-of_both true a b c few p q = tt
HasNodes-of_both false a b c few p q =
    let none_of_a : length a ≡ 0 = ap (λ (ns : List NodeValue). length ns) p in
    let none_of_b : length b ≡ 0 = ap (λ (ns : List NodeValue). length ns) q in
    nil_from_length c (omega (arith, few, none_of_a, none_of_b))

-- if the tables of s and t have nodes only with marks, so have those of r, which is s extended by t
pub HaveNodes-extended : (listing : Bool) (s t r : SegmentValue) → IsExtended s t r → HaveNodes listing s
    → HaveNodes listing t → HaveNodes listing r
HaveNodes-extended listing s t r e a b =
    record {
      known = HasNodes-of_both listing s.known.nodes t.known.nodes r.known.nodes e.known.few a.known b.known;
      handshake = HasNodes-of_both listing s.handshake.nodes t.handshake.nodes r.handshake.nodes e.handshake.few
          a.handshake b.handshake;
      stability = HasNodes-of_both listing s.stability.nodes t.stability.nodes r.stability.nodes e.stability.few
          a.stability b.stability;
      grant = HasNodes-of_both listing s.grant.nodes t.grant.nodes r.grant.nodes e.grant.few a.grant b.grant;
      acknowledge = HasNodes-of_both listing s.acknowledge.nodes t.acknowledge.nodes r.acknowledge.nodes
          e.acknowledge.few a.acknowledge b.acknowledge;
    }

-- two tables that have nodes only with marks have too many together only with marks
pub listing-too_many_nodes : (listing : Bool) (a b : TableValue) → HasWays a → HasNodes listing a.nodes
    → HasNodes listing b.nodes → (FewNodes a b → ⊥) → listing ≡ true
listing-too_many_nodes true a b ways p q many = refl
listing-too_many_nodes false a b ways p q many =
    let none_of_a : length a.nodes ≡ 0 = ap (λ (ns : List NodeValue). length ns) p in
    let none_of_b : length b.nodes ≡ 0 = ap (λ (ns : List NodeValue). length ns) q in
    absurd (many (omega (arith, ways.few, none_of_a, none_of_b)))

-- a refusal for lack of memory is true with marks and without
pub IsRefusedFile-of_memory : (listing : Bool) (why : PartRefusal) → IsLackOfMemory why → IsRefusedFile listing why
IsRefusedFile-of_memory listing refusal.Memory h = tt
IsRefusedFile-of_memory listing refusal.TooManyNodes h = absurd h
