-- The marks of runs through segments.
use Rattle.std.proofs.Common.{◌≡◌, ℕ, ◌+◌, ◌<◌, ◌^◌, Bool, true, List, [], ◌∷◌, ◌++◌, length, map}
use Rattle.std.proofs.Common.{ap}
use Rattle.std.proofs.Common.{sym, ◌∙◌, Option, Some, None}
use Rattle.vme_trace.specs.Blocks.{joined_steps}
use Rattle.vme_trace.specs.Levels.{Levels}
use Rattle.vme_trace.specs.Judged.{has_any_stretch, judged_stretches}
use Rattle.vme_trace.specs.Trace.{Trace, levels_after}
use Rattle.vme_trace.specs.declared.block.Block.{Block}
use Rattle.vme_trace.specs.declared.step.Step.{Step}
use Rattle.vme_trace.specs.declared.verdict.Break.{Break}
use Rattle.vme_listing.specs.Listed.{Listed, in_newest_version}
use Rattle.vme_listing.specs.Recorded.{listing_of, recorded_rows}
use Rattle.vme_monitor.specs.Outcome.{Outcome, composed_outcome}
use Rattle.vme_monitor.specs.declared.mark.Mark.{Mark}
use Rattle.vme_summary.specs.AllShown.{all_marks}
use Rattle.vme_summary.specs.Joins.{joined_trace}
use Rattle.vme_summary.specs.MarkedRows.{listed}
use Rattle.vme_summary.specs.Summaries.{first_break_of}
use Rattle.vme_summary.proofs.MarkedListing.{listed-recorded_rows}
use Rattle.vme_part_format.specs.Tables.{TableValue}
use Rattle.vme_part_tables.specs.Runs.{AgreesWithRun, AgreesWithRuns, mark_of}
use Rattle.vme_part_tables.specs.Ways.{WideOutcome, later_mark, outcome_in}
use Rattle.vme_part_tables.proofs.Joining.{ShowsMarks-followed_by}
use Rattle.vme_part_listing.specs.Marks.{HasRun}
use Rattle.vme_parts.specs.Progress.{HasJudgedFiles}
use Rattle.vme_parts.specs.declared.judged_segments.JudgedSegments.{JudgedSegments}
use Rattle.vme_part_listing.specs.declared.listing.MonitorRun.{MonitorRun}
use Rattle.vme_summary.specs.declared.extent.Extent.{Extent}
use Rattle.vme_parts.proofs.Runs.{IsRun}

-- if a monitor has the run w over the steps x, and the table t agrees with its runs over y, it has the run r over both
pub HasRun-next : {P : Type 0} (run : P → Levels → List Step → Outcome P) → IsRun run → (begin : Levels → P)
    (place : P → ℕ) (count : ℕ) (t : TableValue) (w r : MonitorRun) (o v : Levels) (x y : List Step) (steps : ℕ)
    → r.memory ≡ (outcome_in t w.memory).leaving
    → r.marks.items ≡ w.marks.items ++ map (later_mark steps) (outcome_in t w.memory).marks → v ≡ levels_after o x
    → steps ≡ length x → length x + length y < 2 ^ 64 → HasRun run begin place w o x
    → AgreesWithRuns true count place t (λ p. run p v y) → HasRun run begin place r o (x ++ y)
HasRun-next {P} run law begin place count t w r o v x y steps memory marks opens counted fits was agrees =
    let p = (run (begin o) o x).leaving in
    let a : WideOutcome = record { leaving = w.memory; first_break = None; marks = w.marks.items } in
    let b : AgreesWithRun true place (outcome_in t w.memory) (run p v y) = rw was.leaving (agrees.agrees p) in
    let both = ShowsMarks-followed_by (length x) (length y) fits place true a (outcome_in t w.memory)
    (run (begin o) o x)
    (run p v y) was.marks b.marks (law.within p v y) in
    let whole : run (begin o) o (x ++ y) ≡ composed_outcome (length x) (run (begin o) o x) (run p v y) =
    rw opens (law.joined (begin o) o x y) in
    let shown : r.marks.items ≡ w.marks.items ++ map (later_mark (length x)) (outcome_in t w.memory).marks =
    marks ∙ ap (λ n. w.marks.items ++ map (later_mark n) (outcome_in t w.memory).marks) counted in
    record {
      leaving = memory ∙ (b.leaving ∙ ap (λ (q : Outcome P). place q.leaving) (sym whole));
      marks = ap (map mark_of) shown ∙ (both ∙ ap (λ (q : Outcome P). q.marks) (sym whole));
    }

-- the opening of the judged files is that of the recording that they make
pub opening-of_recording : (j : JudgedSegments) (e : Extent) (bs : List Block) (t : Trace) (o : Levels)
    → HasJudgedFiles j e bs → o
    ≡ e.opening
    → joined_trace bs ≡ Some t → o ≡ t.opening
opening-of_recording j e [] t o was same is = absurd (cc)
opening-of_recording j e (b ∷ bs) t o was same is =
    let opens : Some b.opening ≡ Some e.opening = was.extent.opening in
    let same_opening : b.opening ≡ e.opening = cc in
    let whole : record { opening = b.opening; steps = joined_steps (b ∷ bs) } ≡ t = cc in
    same ∙ (sym same_opening ∙ ap (λ (k : Trace). k.opening) whole)

-- the listing from the opening, the first break and the marks of a recording is its listing
pub listing_of-of_parts : (t : Trace) (judged : Bool) (first_break : Option Break) (o : Levels) (ms : List Mark)
    (l : Listed)
    → judged ≡ has_any_stretch (judged_stretches t) → first_break ≡ first_break_of t → o ≡ t.opening → ms ≡ all_marks t
    → l ≡ in_newest_version (listed o judged first_break ms) → listing_of t ≡ l
listing_of-of_parts t judged first_break o ms l started first opens seen is =
    let whole = listed-recorded_rows t in
    let rows : recorded_rows t ≡ listed o judged first_break ms = cc in
    ap in_newest_version rows ∙ sym is
