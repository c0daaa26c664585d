-- How many nodes the table of a file has, piece by piece, and that they are never too many.
use Rattle.std.proofs.Common.{inl, inr, ◌≡◌, ℕ, ◌+◌, ◌*◌, ◌<◌, ◌≤◌, ◌^◌, List, [], length, ap, arith}
use Rattle.std.specs.Prelude.{◌⊎◌}
use Rattle.std.proofs.Math.Nat.{mul-le-mul_left, mul-le-mul_right}
use Rattle.std.proofs.lemmas.Bool.{cases_lt}
use Rattle.vme_part_format.specs.Tables.{NodeValue, TableValue}
use Rattle.vme_parts.specs.Buddies.{FewNodes}
use Rattle.vme_parts.specs.NodeCounts.{HasNodesAtMost, IsLackOfMemory, IsPartRefusal, tables_for}
use Rattle.vme_parts.specs.declared.part_refusal.PartRefusal.{PartRefusal}
use Rattle.vme_parts.specs.declared.part_refusal.PartRefusal.TheVariants as refusal

-- a table without nodes has at most k of them for each memory
pub HasNodesAtMost-none : (memories k : ℕ) (t : TableValue) → t.nodes ≡ [] → HasNodesAtMost memories k t
HasNodesAtMost-none memories k t none =
    let count : length t.nodes ≡ 0 = ap (λ (ns : List NodeValue). length ns) none in
    omega (arith, count)

-- if 32 bits can't number the ways of both tables, of which the first has n memories and the second at most n nodes,
-- they can't number those memories, the nodes of the first and n more
pub too_many-not_few : (n : ℕ) (a b : TableValue) → length a.entries ≡ n → length b.nodes ≤ n → (FewNodes a b → ⊥)
    → 2 ^ 32 ≤ n + (length a.nodes + n)
too_many-not_few n a b counted few many = by_case (cases_lt (n + (length a.nodes + n)) (2 ^ 32))
  where
    by_case : ((n + (length a.nodes + n) < 2 ^ 32) ⊎ (2 ^ 32 ≤ n + (length a.nodes + n)))
        → 2 ^ 32 ≤ n + (length a.nodes + n)
    by_case (inl below) = absurd (many (omega (arith, below, counted, few)))
    by_case (inr over) = over

-- after `done` of n steps, t, a table of `memories` memories, has at most as many nodes as memories for each piece so
-- far, and once more
pub record HasPieces (memories done n : ℕ) (t : TableValue) : Type 0 where
  pub pieces : ℕ
  pub few : length t.nodes ≤ memories * (pieces + 1)
  pub whole : done < n → 1024 * pieces ≤ done
  pub within : 1024 * pieces ≤ done + 1023

-- before the first piece, a table has at most as many nodes as memories
pub HasPieces-none : (memories n : ℕ) (t : TableValue) → length t.nodes ≤ memories → HasPieces memories 0 n t
HasPieces-none memories n t few =
    record { pieces = 0; few = omega (arith, few); whole = λ some. omega arith; within = omega arith }

-- a piece adds at most as many nodes as memories; it has 1,024 steps, or is the last
pub HasPieces-more : (memories done end n : ℕ) (a b : TableValue) → done < n → done < end
    → (end < n → done + 1024 ≤ end) → length b.nodes ≤ length a.nodes + memories → HasPieces memories done n a
    → HasPieces memories end n b
HasPieces-more memories done end n a b going up full more p =
    let below : 1024 * p.pieces ≤ done = p.whole going in
    record {
      pieces = p.pieces + 1;
      few = omega (arith, more, p.few);
      whole = λ short.
          let next : done + 1024 ≤ end = full short in
          omega (arith, below, next);
      within = omega (arith, below, up);
    }

-- after all steps, a table has at most as many nodes for each memory as it is composed of tables
pub HasPieces-all : (memories done n : ℕ) (t : TableValue) → done ≤ n → HasPieces memories done n t
    → HasNodesAtMost memories (tables_for n) t
HasPieces-all memories done n t all p =
    let up : p.pieces + 1 ≤ tables_for n = omega (arith, p.within, all) in
    omega (arith, p.few, mul-le-mul_left memories up)

-- before all steps, of which there are few, a table of few memories doesn't have too many nodes
pub IsLackOfMemory-few_pieces : (memories done n : ℕ) (t : TableValue) (why : PartRefusal) → memories ≤ 512
    → n ≤ 268435456 → done < n → HasPieces memories done n t
    → IsPartRefusal (2 ^ 32 ≤ memories + (length t.nodes + memories)) why → IsLackOfMemory why
IsLackOfMemory-few_pieces memories done n t refusal.Memory small few going p h = tt
IsLackOfMemory-few_pieces memories done n t refusal.TooManyNodes small few going p h =
    let below : 1024 * p.pieces ≤ done = p.whole going in
    let most : memories * (p.pieces + 3) ≤ 512 * (p.pieces + 3) = mul-le-mul_right (p.pieces + 3) small in
    let over : 2 ^ 32 ≤ memories + (length t.nodes + memories) = h in
    absurd (omega (arith, below, most, over, p.few, few, going))
