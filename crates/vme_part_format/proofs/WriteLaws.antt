-- From the bounds of tables and segments follows what the functions that write them ask of each node, entry and
-- segment.
use Rattle.std.proofs.Common.{ℕ, zero, suc, ◌^◌, ◌<◌, ◌≤◌, Bool, List, [], ◌∷◌, length, get_or, map, Option}
use Rattle.std.proofs.Common.{Some}
use Rattle.std.proofs.Common.{arith}
use Rattle.std.specs.Prelude.{All}
use Rattle.std.proofs.lemmas.List.Elements.{All-cons, All-nil}
use Rattle.vme_part_format.specs.declared.segment.Segment.{Segment}
use Rattle.vme_part_format.specs.declared.table.TableNode.{TableNode}
use Rattle.vme_part_format.specs.declared.wide.WideMark.{WideMark}
use Rattle.vme_part_format.specs.Bounds.{AreAscending, CanWrite, FitMarks, FitNodes, FitSegments, FitsSegment}
use Rattle.vme_part_format.specs.Bounds.{FitsTable}
use Rattle.vme_part_format.specs.Tables.{TableValue, last_of, node_value, segment_value}
use Rattle.vme_part_format.proofs.TableLaws.{CanWrite-of_nodes}

-- marks within their bounds ascend from `before` on
pub AreAscending-of_FitMarks : (steps before : ℕ) (ms : List WideMark) → FitMarks steps before ms
    → AreAscending before ms
AreAscending-of_FitMarks steps before [] fits = tt
AreAscending-of_FitMarks steps before (m ∷ ms) fits =
    (fits.0.instant.1, AreAscending-of_FitMarks steps m.instant ms fits.1)

-- each node within its bounds has fewer than 2^32 marks
pub marks_of_nodes-few : (count steps : ℕ) (ns : List TableNode) → FitNodes count steps (map node_value ns)
    → All (λ n. length n.marks.items < 2 ^ 32) ns
marks_of_nodes-few count steps [] fits = All-nil (λ (n : TableNode). length n.marks.items < 2 ^ 32)
marks_of_nodes-few count steps (n ∷ ns) fits =
    All-cons (λ (n : TableNode). length n.marks.items < 2 ^ 32) n ns fits.0.some.1
    (marks_of_nodes-few count steps ns fits.1)

-- the marks of each node within its bounds ascend
pub marks_of_nodes-ascend : (count steps : ℕ) (ns : List TableNode) → FitNodes count steps (map node_value ns)
    → All (λ n. AreAscending 0 n.marks.items) ns
marks_of_nodes-ascend count steps [] fits = All-nil (λ (n : TableNode). AreAscending 0 n.marks.items)
marks_of_nodes-ascend count steps (n ∷ ns) fits =
    All-cons (λ (n : TableNode). AreAscending 0 n.marks.items) n ns
    (AreAscending-of_FitMarks steps 0 n.marks.items fits.0.marks)
    (marks_of_nodes-ascend count steps ns fits.1)

-- the way of each entry of a table within its bounds, with at most 256 memories, can be written
pub CanWrite-entries : (listing : Bool) (memories steps : ℕ) (t : TableValue) → memories ≤ 256
    → FitsTable listing memories steps t → All (λ e. CanWrite listing e.next) t.entries
CanWrite-entries listing memories steps t most fits =
    λ k d lt. CanWrite-of_nodes listing memories t.nodes most fits.few fits.listed _ (fits.entries k d lt).next

-- each of the segments within their bounds is within its own
pub FitsSegment-at : (listing : Bool) (before : Option ℕ) (ss : List Segment) (i : ℕ) (d : Segment) → i < length ss
    → FitSegments listing before (map segment_value ss) → FitsSegment listing (segment_value (get_or ss i d))
FitsSegment-at listing before [] i d lt fits = absurd (omega (arith, lt))
FitsSegment-at listing before (s ∷ ss) zero d lt fits = fits.0
FitsSegment-at listing before (s ∷ ss) (suc i) d lt fits =
    FitsSegment-at listing (Some (last_of s.first s.order)) ss i d (omega (arith, lt)) fits.2
