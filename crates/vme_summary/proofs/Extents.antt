-- The blocks of two extents join exactly if the second extent continues where the first ends; then they have the joined
-- extent.
use Rattle.std.proofs.Common.{◌≡◌, zero, suc, ◌+◌, ◌↔◌, IsTrue, Bool, true, false, List, [], ◌∷◌, ◌++◌, sym, ◌∙◌, ap}
use Rattle.std.proofs.Common.{append-nil, subst, arith, Some, None}
use Rattle.std.specs.Prelude.{All, option_map}
use Rattle.std.proofs.Math.Logic.{∥∥₁_elim, ∥∥₁_map, ∥∥₁_prop}
use Rattle.std.proofs.lemmas.List.Elements.{All-append}
use Rattle.vme_trace.specs.Levels.{Levels}
use Rattle.vme_trace.specs.Trace.{levels_after}
use Rattle.vme_trace.specs.Block.{trace_of}
use Rattle.vme_trace.specs.Blocks.{joined_steps}
use Rattle.vme_trace.specs.WellFormed.{malformed_step}
use Rattle.vme_trace.specs.declared.block.Block.{Block}
use Rattle.vme_trace.proofs.CutBlocks.{levels_after-append}
use Rattle.vme_summary.specs.Joins.{BlocksJoin, first_time, last_time, left_by}
use Rattle.vme_summary.specs.Summaries.{SummaryStandsFor, SummaryStandsForBoth}
use Rattle.vme_summary.specs.Extents.{IsExtent, Meets, joined_extent}
use Rattle.vme_summary.specs.Standing.{StandFor, StandForBlocks}
use Rattle.vme_summary.specs.Stands.{SpanStandsFor}
use Rattle.vme_summary.specs.declared.extent.Extent.{Extent}
use Rattle.vme_summary.specs.declared.span.Span.{Span}
use Rattle.vme_summary.specs.declared.summary.MonitorSummaries.{MonitorSummaries}
use Rattle.vme_summary.proofs.Times.{first_time-append, last_or-append, last_time-append}
use Rattle.vme_summary.proofs.Chains.{Boundary, BlocksJoin-from_GoOn, GoOn-of_joined, BlocksJoin-split}
use Rattle.vme_summary.proofs.Chains.{BlocksJoin-append, left_after-last}
use Rattle.vme_summary.proofs.Chains.{number_after-last, left_after, levels_after-joined_steps, number_after}
use Rattle.vme_summary.proofs.Chains.{joined_steps-append}

-- what an extent e says of its first block a and of those after it
record ExtentFields (e : Extent) (a : Block) (rest : List Block) : Type 0 where
  first : a.number ≡ e.first
  last : number_after a.number rest ≡ e.last
  opening : a.opening ≡ e.opening
  left : left_after (left_by a) rest ≡ e.left

-- `ExtentFields` holds of an extent of the blocks a and `rest`
ExtentFields-of_extent : (e : Extent) (a : Block) (rest : List Block) → IsExtent e (a ∷ rest) → ExtentFields e a rest
ExtentFields-of_extent e a rest p =
    let first : Some a.number ≡ Some e.first = p.first in
    let last : Some (number_after a.number rest) ≡ Some e.last = sym (number_after-last a rest) ∙ p.last in
    let opening : Some a.opening ≡ Some e.opening = p.opening in
    let left : Some (left_after (left_by a) rest) ≡ Some e.left = sym (left_after-last a rest) ∙ p.left in
    record { first = cc; last = cc; opening = cc; left = cc }

-- if the extent f continues where e ends, the blocks of f continue those of e
Boundary-of_Meets : (e f : Extent) (a b : Block) (rest bs : List Block) → IsExtent e (a ∷ rest) → IsExtent f (b ∷ bs)
    → Meets e f
    → Boundary a rest b bs
Boundary-of_Meets e f a b rest bs p q m =
    let r = ExtentFields-of_extent e a rest p in
    let s = ExtentFields-of_extent f b bs q in
    record {
      numbered = s.first ∙ m.numbered ∙ ap (λ n. n + 1) (sym r.last);
      opened = s.opening ∙ m.opened ∙ sym r.left;
      later = rw (← p.ends, ← q.starts) m.later;
    }

-- if the blocks of two extents join, the second extent continues where the first ends
pub Meets-from_join : (e f : Extent) (x y : List Block) → IsExtent e x → IsExtent f y → BlocksJoin (x ++ y) → Meets e f
Meets-from_join e f [] y p q j = let none : None ≡ Some e.first = p.first in absurd (cc)
Meets-from_join e f (a ∷ rest) [] p q j = let none : None ≡ Some f.first = q.first in absurd (cc)
Meets-from_join e f (a ∷ rest) (b ∷ bs) p q j =
    let m = (BlocksJoin-split a rest b bs j).2 in
    let r = ExtentFields-of_extent e a rest p in
    let s = ExtentFields-of_extent f b bs q in
    record {
      numbered = sym s.first ∙ m.numbered ∙ ap (λ n. n + 1) r.last;
      opened = sym s.opening ∙ m.opened ∙ r.left;
      later = rw (p.ends, q.starts) m.later;
    }

-- if an extent continues where another ends, their blocks join
pub BlocksJoin-from_Meets : (e f : Extent) (x y : List Block) → IsExtent e x → IsExtent f y → Meets e f
    → BlocksJoin (x ++ y)
BlocksJoin-from_Meets e f [] y p q m = let none : None ≡ Some e.first = p.first in absurd (cc)
BlocksJoin-from_Meets e f (a ∷ rest) [] p q m = let none : None ≡ Some f.first = q.first in absurd (cc)
BlocksJoin-from_Meets e f (a ∷ rest) (b ∷ bs) p q m =
    BlocksJoin-append a rest b bs p.join q.join (Boundary-of_Meets e f a b rest bs p q m)

-- if an extent continues where another ends, the blocks of both have the joined extent
pub IsExtent-joined : (e f : Extent) (x y : List Block) → IsExtent e x → IsExtent f y → Meets e f
    → IsExtent (joined_extent e f) (x ++ y)
IsExtent-joined e f [] y p q m = let none : None ≡ Some e.first = p.first in absurd (cc)
IsExtent-joined e f (a ∷ rest) [] p q m = let none : None ≡ Some f.first = q.first in absurd (cc)
IsExtent-joined e f (a ∷ rest) (b ∷ bs) p q m =
    record {
      join = BlocksJoin-from_Meets e f (a ∷ rest) (b ∷ bs) p q m;
      sound = All-append (λ (b : Block). malformed_step (trace_of b) ≡ None) (a ∷ rest) (b ∷ bs) p.sound q.sound;
      first = p.first;
      last = ap (option_map (λ (b : Block). b.number)) (last_or-append None (a ∷ rest) (b ∷ bs)) ∙ q.last;
      opening = p.opening;
      left = ap (option_map left_by) (last_or-append None (a ∷ rest) (b ∷ bs)) ∙ q.left;
      starts = rw (p.starts, q.starts) (sym (ap first_time (joined_steps-append (a ∷ rest) (b ∷ bs)) ∙ first_time-append
          (joined_steps (a ∷ rest)) (joined_steps (b ∷ bs))));
      ends = rw (p.ends, q.ends) (sym (ap last_time (joined_steps-append (a ∷ rest) (b ∷ bs)) ∙ last_time-append
          (joined_steps (a ∷ rest)) (joined_steps (b ∷ bs))));
    }

-- all steps of the blocks leave the lines that the last block leaves
pub levels_after-extent : (e : Extent) (x : List Block) → IsExtent e x → levels_after e.opening (joined_steps x)
    ≡ e.left
levels_after-extent e [] p = let none : None ≡ Some e.first = p.first in absurd (cc)
levels_after-extent e (a ∷ rest) p =
    let r = ExtentFields-of_extent e a rest p in
    ap (λ v. levels_after v (joined_steps (a ∷ rest))) (sym r.opening) ∙ levels_after-append a.opening a.steps
    (joined_steps rest)
    ∙ levels_after-joined_steps a.number (left_by a) (last_time a.steps) rest (GoOn-of_joined a rest p.join) ∙ r.left

-- if a test of whether two extents meet fails, their blocks don't join
pub BlocksJoin-not_by_test : (e f : Extent) (test : Bool) (x y : List Block) → (IsTrue test ↔ Meets e f) → test ≡ false
    → IsExtent e x → IsExtent f y → ¬ BlocksJoin (x ++ y)
BlocksJoin-not_by_test e f test x y t off p q j = let on : test ≡ true =
    t.1 (Meets-from_join e f x y p q j) in absurd (cc)

-- if a test of whether two extents meet succeeds, they do
pub Meets-by_test : (e f : Extent) (test : Bool) → (IsTrue test ↔ Meets e f) → test ≡ true → Meets e f
Meets-by_test e f test t on = t.0 on

-- the list of a single block joins
pub BlocksJoin-one : (b : Block) → BlocksJoin (b ∷ [])
BlocksJoin-one b = BlocksJoin-from_GoOn b [] tt

-- the list of a single well-formed block is one of well-formed blocks
pub AreSound-one : (b : Block) → malformed_step (trace_of b) ≡ None → All (λ (b : Block). malformed_step (trace_of b)
    ≡ None) (b ∷ [])
AreSound-one b e zero d below = e
AreSound-one b e (suc k) d below = absurd (omega arith)

-- if two spans meet, their joined extent, and a summary for the steps of both, stand for their blocks together
pub StandFor-joined : (s t : Span) (e : Extent) (r : MonitorSummaries) → e ≡ joined_extent s.extent t.extent
    → Meets s.extent t.extent
    → SummaryStandsForBoth s.summary t.summary r
    → (x y : List Block) → SpanStandsFor s x → SpanStandsFor t y → StandFor e r (x ++ y)
StandFor-joined s t e r same m both x y p q =
    let opens : t.extent.opening ≡ levels_after s.extent.opening (joined_steps x) = m.opened
    ∙ sym (levels_after-extent s.extent x p.extent) in
    let second : SummaryStandsFor t.summary (levels_after s.extent.opening (joined_steps x)) (joined_steps y) = subst
    (λ v. SummaryStandsFor t.summary v (joined_steps y)) opens q.summary in
    let whole = both s.extent.opening (joined_steps x) (joined_steps y) p.summary second in
    record {
      extent = subst (λ (k : Extent). IsExtent k (x ++ y)) (sym same) (IsExtent-joined s.extent t.extent x y p.extent
          q.extent m);
      summary = subst (λ (k : Extent). SummaryStandsFor r k.opening (joined_steps (x ++ y))) (sym same)
          (subst (λ steps. SummaryStandsFor r s.extent.opening steps) (sym (joined_steps-append x y)) whole);
    }

-- if two spans meet, their joined extent and summary stand for some blocks
pub StandForBlocks-joined : (s t : Span) (e : Extent) (r : MonitorSummaries) → e ≡ joined_extent s.extent t.extent
    → Meets s.extent t.extent
    → SummaryStandsForBoth s.summary t.summary r → ∥ StandForBlocks e r ∥₁
StandForBlocks-joined s t e r same m both =
    ∥∥₁_elim s.stands ∥∥₁_prop
    (λ x. ∥∥₁_map t.stands (λ y. (x.0 ++ y.0, StandFor-joined s t e r same m both x.0 y.0 x.1 y.1)))

-- the extent of a single block and a summary of its steps stand for that block
pub StandFor-one : (e : Extent) (s : MonitorSummaries) (b : Block) → IsExtent e (b ∷ [])
    → SummaryStandsFor s b.opening b.steps → StandFor e s (b ∷ [])
StandFor-one e s b p q =
    let opens : Some b.opening ≡ Some e.opening = p.opening in
    let same : b.opening ≡ e.opening = cc in
    record {
      extent = p;
      summary = subst (λ (v : Levels). SummaryStandsFor s v (joined_steps (b ∷ []))) same
          (subst (λ steps. SummaryStandsFor s b.opening steps) (sym (append-nil b.steps)) q);
    }
