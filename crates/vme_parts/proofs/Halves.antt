-- Two segments that are the halves of one, and the segment that they make.
use Rattle.std.proofs.Common.{inl, inr, ◌≡◌, ℕ, ◌+◌, ◌%◌, ◌^◌, Bool, true, false, sym, ◌∙◌, arith}
use Rattle.std.proofs.Common.{Option, Some, None, refl}
use Rattle.std.specs.Prelude.{◌==◌, ◌&&◌, nat_lt, not}
use Rattle.std.specs.Option.{is_some}
use Rattle.std.proofs.lemmas.Bool.{and_parts, eqb-true, ltb-true}
use Rattle.std.proofs.lemmas.Nat.{pow_pos}
use Rattle.vme_part_format.specs.Tables.{SegmentValue, TableValue}
use Rattle.vme_part_tables.specs.Composed.{CanCompose}
use Rattle.vme_part_tables.specs.Runs.{IsComposition}
use Rattle.vme_parts.specs.Buddies.{AreBuddies, FewNodes, IsTableOf, are_buddies}
use Rattle.vme_parts.specs.Gathering.{IsSegment, Precedes}
use Rattle.vme_parts.specs.Joined.{IsOfBoth}

-- `are_buddies` implies `AreBuddies`
pub AreBuddies-by_test : (s t : SegmentValue) → are_buddies s t ≡ true → AreBuddies s t
AreBuddies-by_test s t e =
    let all = and_parts (s.order == t.order && nat_lt s.order 62 && t.first == s.first + 2 ^ s.order)
    (s.first % 2 ^ (s.order + 1) == 0) e in
    let three_tests = and_parts (s.order == t.order && nat_lt s.order 62) (t.first == s.first + 2 ^ s.order) all.0 in
    let two_tests = and_parts (s.order == t.order) (nat_lt s.order 62) three_tests.0 in
    let begins = eqb-true t.first (s.first + 2 ^ s.order) three_tests.1 in
    record {
      same_order = sym (eqb-true s.order t.order two_tests.0);
      low = ltb-true s.order 62 two_tests.1;
      behind = omega (arith, begins, pow_pos s.order);
      aligned = eqb-true (s.first % 2 ^ (s.order + 1)) 0 all.1;
    }

-- if the test says that there is no value, the option is `None`
pub None-by_test : (o : Option ℕ) (r : Bool) → is_some o ≡ not r → r ≡ true → o ≡ None
None-by_test None r e t = refl
None-by_test (Some x) true e t = absurd (cc)
None-by_test (Some x) false e t = absurd (cc)

-- tables of n memories can be composed if they have few enough nodes together
pub CanCompose-few_nodes : (n : ℕ) (a b : TableValue) → IsTableOf n a → IsTableOf n b → FewNodes a b → CanCompose a b
CanCompose-few_nodes n a b p q few =
    record { first = p.ways; second = q.ways; as_many = q.counted ∙ sym p.counted; few = few }

-- the composition of tables is a table of as many memories as the first
IsTableOf-composition : (n steps : ℕ) (a b c : TableValue) → IsComposition steps a b c → IsTableOf n a → IsTableOf n c
IsTableOf-composition n steps a b c s p = record { ways = s.ways; counted = s.counted ∙ p.counted }

-- r, joined from s and t, satisfies `IsSegment` if s does
pub IsSegment-of_both : (s t r : SegmentValue) → IsOfBoth s t r → AreBuddies s t → IsSegment s → IsSegment r
IsSegment-of_both s t r b h p =
    record {
      numbers = record {
        low = rw b.first p.numbers.low;
        few = omega (arith, b.order, h.low);
        aligned = rw (b.first, b.order) h.aligned;
      };
      tables = record {
        known = IsTableOf-composition 4 s.steps s.known t.known r.known b.known p.tables.known;
        handshake = IsTableOf-composition 147 s.steps s.handshake t.handshake r.handshake b.handshake
            p.tables.handshake;
        stability = IsTableOf-composition 13 s.steps s.stability t.stability r.stability b.stability p.tables.stability;
        grant = IsTableOf-composition 35 s.steps s.grant t.grant r.grant b.grant p.tables.grant;
        acknowledge = IsTableOf-composition 11 s.steps s.acknowledge t.acknowledge r.acknowledge b.acknowledge
            p.tables.acknowledge;
      };
    }

-- r, joined from s and t, precedes each segment that t precedes
pub Precedes-of_both : (s t r n : SegmentValue) → IsOfBoth s t r → AreBuddies s t → Precedes t n → Precedes r n
Precedes-of_both s t r n b h (inl k) = inl (omega (arith, b.first, h.behind, k))
Precedes-of_both s t r n b h (inr k) = inl (omega (arith, b.first, h.behind, k.0))
