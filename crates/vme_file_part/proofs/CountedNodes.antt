-- How many nodes the tables of a file so far have at most, and when two tables have too many together. The table of a
-- monitor has an entry for each memory (state) of the monitor, and nodes, which runs from several memories share;
-- entries and nodes are numbered by 32 bits. The five monitors have 4, 147, 13, 35 and 11 memories.
use Rattle.std.proofs.Common.{inl, inr, ℕ, ◌+◌, ◌*◌, ◌<◌, ◌≤◌, ◌^◌, Option}
use Rattle.std.proofs.Common.{None, Some, arith}
use Rattle.std.specs.Prelude.{◌⊎◌}
use Rattle.std.proofs.Math.Nat.{mul-le-mul_right}
use Rattle.std.proofs.lemmas.Bool.{cases_lt}
use Rattle.vme_part_format.specs.Tables.{SegmentValue, TableValue, segment_value}
use Rattle.vme_part_format.specs.declared.segment.Segment.{Segment}
use Rattle.vme_parts.specs.Buddies.{FewNodes, IsTableOf}
use Rattle.vme_parts.specs.NodeCounts.{HasNodesAtMost, HaveNodesAtMost, IsLackOfMemory, IsPartRefusal}
use Rattle.vme_parts.specs.declared.part_refusal.PartRefusal.{PartRefusal}
use Rattle.vme_parts.specs.declared.part_refusal.PartRefusal.TheVariants as refusal
use Rattle.vme_file_part.specs.Growing.{AreTooManyNodes, HaveNodesSoFar, IsExtended}

-- ---- at most so many

-- at most k nodes for each memory are at most j, if k ≤ j
pub HaveNodesAtMost-more : (k j : ℕ) (s : SegmentValue) → k ≤ j → HaveNodesAtMost k s → HaveNodesAtMost j s
HaveNodesAtMost-more k j s le a =
    record {
      known = omega (arith, le, a.known);
      handshake = omega (arith, le, a.handshake);
      stability = omega (arith, le, a.stability);
      grant = omega (arith, le, a.grant);
      acknowledge = omega (arith, le, a.acknowledge);
    }

-- the same of the segment so far, if there is one
pub HaveNodesSoFar-more : (k j : ℕ) (s : Option Segment) → k ≤ j → HaveNodesSoFar k s → HaveNodesSoFar j s
HaveNodesSoFar-more k j None le a = tt
HaveNodesSoFar-more k j (Some s) le a = HaveNodesAtMost-more k j (segment_value s) le a

-- if the tables of s have at most k nodes for each memory, and those of t at most j, then those of r, which is s
-- extended by t, have at most k + j
pub HaveNodesAtMost-extended : (k j : ℕ) (s t r : SegmentValue) → IsExtended s t r → HaveNodesAtMost k s
    → HaveNodesAtMost j t → HaveNodesAtMost (k + j) r
HaveNodesAtMost-extended k j s t r e a b =
    record {
      known = omega (arith, e.known.few, a.known, b.known);
      handshake = omega (arith, e.handshake.few, a.handshake, b.handshake);
      stability = omega (arith, e.stability.few, a.stability, b.stability);
      grant = omega (arith, e.grant.few, a.grant, b.grant);
      acknowledge = omega (arith, e.acknowledge.few, a.acknowledge, b.acknowledge);
    }

-- ---- too many

-- if a, a table of at most 147 memories, has at most k nodes for each, and b at most j, and 32 bits can't number those
-- of both, then k + j may be too many
AreTooManyNodes-not_few : (n k j : ℕ) (a b : TableValue) → IsTableOf n a → n ≤ 147 → HasNodesAtMost n k a
    → HasNodesAtMost n j b → (FewNodes a b → ⊥) → AreTooManyNodes (k + j)
AreTooManyNodes-not_few n k j a b table small p q many = by_case (cases_lt (147 * (k + j + 1)) (2 ^ 32))
  where
    by_case : ((147 * (k + j + 1) < 2 ^ 32) ⊎ (2 ^ 32 ≤ 147 * (k + j + 1))) → AreTooManyNodes (k + j)
    by_case (inl below) =
        let most : n * (k + j + 1) ≤ 147 * (k + j + 1) = mul-le-mul_right (k + j + 1) small in
        absurd (many (omega (arith, below, most, table.counted, p, q)))
    by_case (inr over) = over

-- the same of a refusal of the tables a and b, of which one was to be made: if it is for too many nodes, k + j may be
-- too many
pub IsPartRefusal-not_few : (n k j : ℕ) (a b : TableValue) (why : PartRefusal) → IsTableOf n a → n ≤ 147
    → HasNodesAtMost n k a → HasNodesAtMost n j b → IsPartRefusal (FewNodes a b → ⊥) why
    → IsPartRefusal (AreTooManyNodes (k + j)) why
IsPartRefusal-not_few n k j a b refusal.Memory table small p q h = tt
IsPartRefusal-not_few n k j a b refusal.TooManyNodes table small p q h =
    AreTooManyNodes-not_few n k j a b table small p q h

-- a refusal for lack of memory isn't one for too many nodes
pub IsPartRefusal-of_memory : (Nodes : Type 0) (why : PartRefusal) → IsLackOfMemory why → IsPartRefusal Nodes why
IsPartRefusal-of_memory Nodes refusal.Memory h = tt
IsPartRefusal-of_memory Nodes refusal.TooManyNodes h = absurd h
