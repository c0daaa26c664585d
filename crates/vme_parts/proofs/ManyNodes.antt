-- When the tables of segments have too many nodes together.
use Rattle.std.proofs.Common.{inl, inr, ◌≡◌, ℕ, ◌+◌, ◌*◌, ◌<◌, ◌≤◌, List, [], ◌∷◌, ◌++◌, length, subst, sum_by, arith}
use Rattle.std.specs.Prelude.{◌⊎◌}
use Rattle.std.proofs.lemmas.Bool.{cases_lt}
use Rattle.std.proofs.lemmas.List.Sums.{sum_by-append}
use Rattle.vme_part_format.specs.Sizes.{IsCompact, IsCompactTable}
use Rattle.vme_part_format.specs.Tables.{SegmentValue, TableValue}
use Rattle.vme_part_tables.specs.Runs.{IsComposition}
use Rattle.vme_parts.specs.Alike.{HaveManyNodes, acknowledge_nodes, grant_nodes, handshake_nodes, known_nodes}
use Rattle.vme_parts.specs.Alike.{stability_nodes}
use Rattle.vme_parts.specs.Buddies.{FewNodes, HasTables, HaveFewNodes, IsTableOf}
use Rattle.vme_parts.specs.Gathering.{Gathered, IsNoGreaterJoined}
use Rattle.vme_parts.specs.Joined.{IsOfBoth}
use Rattle.vme_parts.proofs.Gathering.{sum_by-two}

-- if xs have more than n together, and ys no less than they, ys have more than n
lt-sum_by : (f : SegmentValue → ℕ) (n : ℕ) (xs ys : List SegmentValue) → sum_by f xs ≤ sum_by f ys → n < sum_by f xs
    → n < sum_by f ys
lt-sum_by f n xs ys no_more over = omega (arith, no_more, over)

-- `done` have too many nodes if ss have, and if no number that joining doesn't make greater is greater of ss
pub HaveManyNodes-more : (done ss : List SegmentValue)
    → ((f : SegmentValue → ℕ) → IsNoGreaterJoined f → sum_by f ss ≤ sum_by f done) → HaveManyNodes ss
    → HaveManyNodes done
HaveManyNodes-more done ss no_more (inl over) =
    let nodes : SegmentValue → ℕ = λ s. length s.known.nodes in
    inl (lt-sum_by nodes (2 * 4) ss done (no_more nodes (λ s t r both. both.known.few)) over)
HaveManyNodes-more done ss no_more (inr (inl over)) =
    let nodes : SegmentValue → ℕ = λ s. length s.handshake.nodes in
    inr (inl (lt-sum_by nodes (2 * 147) ss done (no_more nodes (λ s t r both. both.handshake.few)) over))
HaveManyNodes-more done ss no_more (inr (inr (inl over))) =
    let nodes : SegmentValue → ℕ = λ s. length s.stability.nodes in
    inr (inr (inl (lt-sum_by nodes (2 * 13) ss done (no_more nodes (λ s t r both. both.stability.few)) over)))
HaveManyNodes-more done ss no_more (inr (inr (inr (inl over)))) =
    let nodes : SegmentValue → ℕ = λ s. length s.grant.nodes in
    inr (inr (inr (inl (lt-sum_by nodes (2 * 35) ss done (no_more nodes (λ s t r both. both.grant.few)) over))))
HaveManyNodes-more done ss no_more (inr (inr (inr (inr over)))) =
    let nodes : SegmentValue → ℕ = λ s. length s.acknowledge.nodes in
    inr (inr (inr (inr (lt-sum_by nodes (2 * 11) ss done (no_more nodes (λ s t r both. both.acknowledge.few)) over))))

-- if the last two of gathered segments have too many nodes, those of which they were gathered have
pub HaveManyNodes-gathered : (done front : List SegmentValue) (s t : SegmentValue)
    → Gathered done (front ++ s ∷ t ∷ []) → HaveManyNodes (s ∷ t ∷ []) → HaveManyNodes done
HaveManyNodes-gathered done front s t g many =
    HaveManyNodes-more done (s ∷ t ∷ [])
    (λ f joined. omega (arith, g.few f joined, sum_by-append f front (s ∷ t ∷ []))) many

-- segments have too many nodes if the first of them have
pub HaveManyNodes-append : (all front rest : List SegmentValue) → front ++ rest ≡ all → HaveManyNodes front
    → HaveManyNodes all
HaveManyNodes-append all front rest e many =
    subst HaveManyNodes e
    (HaveManyNodes-more (front ++ rest) front (λ f joined. omega (arith, sum_by-append f front rest)) many)

-- ---- two segments

-- if two segments have at most n together, so have one and the other
le-sum_by-two : (f : SegmentValue → ℕ) (s t : SegmentValue) (n : ℕ) → sum_by f (s ∷ t ∷ []) ≤ n → f s + f t ≤ n
le-sum_by-two f s t n few = omega (arith, few, sum_by-two f s t)

-- segments have too many nodes if it leads to a contradiction that no monitor's tables have
HaveManyNodes-unless : (ss : List SegmentValue)
    → (known_nodes ss ≤ 2 * 4 → handshake_nodes ss ≤ 2 * 147 → stability_nodes ss ≤ 2 * 13
    → grant_nodes ss ≤ 2 * 35 → acknowledge_nodes ss ≤ 2 * 11 → ⊥)
    → HaveManyNodes ss
HaveManyNodes-unless ss few =
    by_cases (cases_lt (2 * 4) (known_nodes ss)) (cases_lt (2 * 147) (handshake_nodes ss))
    (cases_lt (2 * 13) (stability_nodes ss)) (cases_lt (2 * 35) (grant_nodes ss))
    (cases_lt (2 * 11) (acknowledge_nodes ss))
  where
    by_cases : ((2 * 4 < known_nodes ss) ⊎ (known_nodes ss ≤ 2 * 4))
        → ((2 * 147 < handshake_nodes ss) ⊎ (handshake_nodes ss ≤ 2 * 147))
        → ((2 * 13 < stability_nodes ss) ⊎ (stability_nodes ss ≤ 2 * 13))
        → ((2 * 35 < grant_nodes ss) ⊎ (grant_nodes ss ≤ 2 * 35))
        → ((2 * 11 < acknowledge_nodes ss) ⊎ (acknowledge_nodes ss ≤ 2 * 11)) → HaveManyNodes ss
    by_cases (inl over) b c d e = inl over
    by_cases (inr p) (inl over) c d e = inr (inl over)
    by_cases (inr p) (inr q) (inl over) d e = inr (inr (inl over))
    by_cases (inr p) (inr q) (inr u) (inl over) e = inr (inr (inr (inl over)))
    by_cases (inr p) (inr q) (inr u) (inr v) (inl over) = inr (inr (inr (inr over)))
    by_cases (inr p) (inr q) (inr u) (inr v) (inr w) = absurd (few p q u v w)

-- 32 bits can number the nodes of two tables of n memories that have at most two for a memory together
FewNodes-both : (n : ℕ) (a b : TableValue) → IsTableOf n a → n ≤ 147 → length a.nodes + length b.nodes ≤ 2 * n
    → FewNodes a b
FewNodes-both n a b p small few = omega (arith, p.counted, small, few)

-- the composition of two tables of n memories is compact if both together have at most two nodes for a memory
IsCompactTable-composition : (n steps : ℕ) (a b c : TableValue) → IsComposition steps a b c → IsTableOf n a
    → length a.nodes + length b.nodes ≤ 2 * n → IsCompactTable c
IsCompactTable-composition n steps a b c s p few = omega (arith, s.few, s.counted, p.counted, few)

-- two segments have too many nodes if 32 bits can't number those of both
pub HaveManyNodes-not_few : (s t : SegmentValue) → HasTables s → (HaveFewNodes s t → ⊥) → HaveManyNodes (s ∷ t ∷ [])
HaveManyNodes-not_few s t p not_few =
    HaveManyNodes-unless (s ∷ t ∷ [])
    (λ few_known few_handshake few_stability few_grant few_acknowledge.
    not_few (record {
      known = FewNodes-both 4 s.known t.known p.known (omega arith)
          (le-sum_by-two (λ (x : SegmentValue). length x.known.nodes) s t (2 * 4) few_known);
      handshake = FewNodes-both 147 s.handshake t.handshake p.handshake (omega arith)
          (le-sum_by-two (λ (x : SegmentValue). length x.handshake.nodes) s t (2 * 147) few_handshake);
      stability = FewNodes-both 13 s.stability t.stability p.stability (omega arith)
          (le-sum_by-two (λ (x : SegmentValue). length x.stability.nodes) s t (2 * 13) few_stability);
      grant = FewNodes-both 35 s.grant t.grant p.grant (omega arith)
          (le-sum_by-two (λ (x : SegmentValue). length x.grant.nodes) s t (2 * 35) few_grant);
      acknowledge = FewNodes-both 11 s.acknowledge t.acknowledge p.acknowledge (omega arith)
          (le-sum_by-two (λ (x : SegmentValue). length x.acknowledge.nodes) s t (2 * 11) few_acknowledge);
    }))

-- two segments have too many nodes if one joined from both isn't compact
pub HaveManyNodes-not_compact : (s t r : SegmentValue) → HasTables s → IsOfBoth s t r → (IsCompact r → ⊥)
    → HaveManyNodes (s ∷ t ∷ [])
HaveManyNodes-not_compact s t r p both not_compact =
    HaveManyNodes-unless (s ∷ t ∷ [])
    (λ few_known few_handshake few_stability few_grant few_acknowledge.
    not_compact (record {
      known = IsCompactTable-composition 4 s.steps s.known t.known r.known both.known p.known
          (le-sum_by-two (λ (x : SegmentValue). length x.known.nodes) s t (2 * 4) few_known);
      handshake = IsCompactTable-composition 147 s.steps s.handshake t.handshake r.handshake both.handshake p.handshake
          (le-sum_by-two (λ (x : SegmentValue). length x.handshake.nodes) s t (2 * 147) few_handshake);
      stability = IsCompactTable-composition 13 s.steps s.stability t.stability r.stability both.stability p.stability
          (le-sum_by-two (λ (x : SegmentValue). length x.stability.nodes) s t (2 * 13) few_stability);
      grant = IsCompactTable-composition 35 s.steps s.grant t.grant r.grant both.grant p.grant
          (le-sum_by-two (λ (x : SegmentValue). length x.grant.nodes) s t (2 * 35) few_grant);
      acknowledge = IsCompactTable-composition 11 s.steps s.acknowledge t.acknowledge r.acknowledge both.acknowledge
          p.acknowledge
          (le-sum_by-two (λ (x : SegmentValue). length x.acknowledge.nodes) s t (2 * 11) few_acknowledge);
    }))
