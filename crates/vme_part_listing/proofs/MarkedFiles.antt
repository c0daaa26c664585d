-- The marks of the files of a recording, from the first on.
use Rattle.std.proofs.Common.{◌≡◌, ℕ, ◌+◌, ◌<◌, ◌≤◌, ◌^◌, Bool, true, List, [], ◌∷◌, ◌++◌, length, length-append, map}
use Rattle.std.proofs.Common.{inl, inr, ◌-◌, append_assoc, take, drop}
use Rattle.std.proofs.Common.{get_or, refl, ap, sym, subst, ◌∙◌, arith, Option, Some, None}
use Rattle.std.specs.Prelude.{Err, IfErr, Ok, Result, false}
use Rattle.std.specs.Option.{option_map}
use Rattle.std.proofs.Math.Seq.{take-add}
use Rattle.std.proofs.lemmas.List.{drop_all, length-map}
use Rattle.std.proofs.lemmas.List.Elements.{All-contains, All-head, All-tail}
use Rattle.vme_trace.specs.Blocks.{joined_steps}
use Rattle.vme_trace.specs.Levels.{Levels}
use Rattle.vme_trace.specs.Trace.{Trace, levels_after}
use Rattle.vme_trace.specs.WellFormed.{malformed_step}
use Rattle.vme_trace.specs.declared.block.Block.{Block}
use Rattle.vme_trace.specs.declared.step.Step.{Step}
use Rattle.vme_monitor.specs.declared.mark.Mark.{Mark}
use Rattle.vme_summary.specs.AllShown.{all_marks}
use Rattle.vme_summary.specs.Extents.{joined_extent}
use Rattle.vme_summary.specs.Joins.{BlocksJoin, joined_trace}
use Rattle.vme_summary.specs.Summaries.{first_break_of}
use Rattle.vme_summary.specs.declared.extent.Extent.{Extent}
use Rattle.vme_summary.proofs.Chains.{joined_steps-append}
use Rattle.vme_summary.proofs.Extents.{Meets-from_join, levels_after-extent}
use Rattle.vme_summary.proofs.Whole.{joined_trace-well_formed}
use Rattle.vme_part_format.specs.Tables.{PartValue, SegmentValue, last_of, segment_value}
use Rattle.vme_part_format.specs.declared.segment.Segment.{Segment}
use Rattle.vme_part_format.specs.declared.wide.WideBreak.{WideBreak}
use Rattle.vme_part_tables.specs.Runs.{break_of}
use Rattle.vme_parts.specs.Covering.{AreNext}
use Rattle.vme_parts.specs.Files.{AllStand, AreFiles, files_of}
use Rattle.vme_part_listing.specs.Late.{HasLateMark}
use Rattle.vme_part_listing.specs.Marks.{HasMarks, ListsFiles, ShowLate, ShowsFiles, marks_of_runs}
use Rattle.vme_parts.specs.Progress.{FoundAll, HasJudgedFiles, StopsAt, TellsAll}
use Rattle.vme_parts.specs.Stands.{SegmentStandsFor, extent_of}
use Rattle.vme_part_listing.specs.Listings.{DeterminesListingAnswer}
use Rattle.vme_parts.specs.Telling.{JudgesFiles}
use Rattle.vme_part_listing.specs.declared.answers.ListingAnswer.{ListingAnswer}
use Rattle.vme_part_listing.specs.declared.answers.ListingAnswer.TheVariants as listed
use Rattle.vme_parts.specs.declared.answers.RecordingAnswer.{RecordingAnswer}
use Rattle.vme_parts.specs.declared.judged_segments.JudgedSegments.{JudgedSegments}
use Rattle.vme_parts.specs.declared.judged_segments.JudgingFault.{JudgingFault}
use Rattle.vme_parts.specs.declared.judged_segments.JudgingFault.TheVariants as stop
use Rattle.vme_part_listing.specs.declared.listing.MonitorRuns.{MonitorRuns}
use Rattle.vme_part_listing.proofs.MarkedRuns.{opening-of_recording}
use Rattle.vme_parts.proofs.SegmentLemmas.{TellsAll-stands_for}
use Rattle.vme_parts.proofs.ToldFiles.{Contains-segment_at, drop-segment_values}
use Rattle.vme_parts.proofs.WholeFiles.{HasComeTo, HasComeTo-first, HasComeTo-next, take-and_files_of}
use Rattle.vme_parts.proofs.WholeFiles.{FoundAll-judged_files}
use Rattle.vme_parts.proofs.Covered.{AreNext-not_before}

-- if the runs are `before` after `steps` steps, and the tables of s agree with the steps after these, then the runs are
-- `after` after both
abbrev pub PastMarks : MonitorRuns → MonitorRuns → ℕ → SegmentValue → Type 0
PastMarks before after steps s =
    (o v : Levels) (x y : List Step) → v ≡ levels_after o x → steps ≡ length x → length x + length y < 2 ^ 64
    → HasMarks before o x → TellsAll true s v y → HasMarks after o (x ++ y)

-- j and w are the states of judging and of the runs after the segments of s ∷ ss up to those in `left`
pub record MarksTo (j : JudgedSegments) (w : MonitorRuns) (s : SegmentValue) (ss left : List SegmentValue)
    : Type 0 where
  pub come : (files : List Block) (end : ℕ) → AreFiles files → AllStand true files (s ∷ ss) → AreNext 0 (s ∷ ss) end
      → (n : ℕ) × HasComeTo j s.opening files n × AreNext n left end × HasMarks w s.opening
      (joined_steps (take n files))

-- if j is the state after judging the files of s, and w are the runs after the tables of s, both are those after the
-- first of s ∷ ss
pub MarksTo-first : (j : JudgedSegments) (begun w : MonitorRuns) (s : SegmentValue) (ss : List SegmentValue)
    → j.steps < 2 ^ 64
    → ((listing : Bool) (bs : List Block) → SegmentStandsFor listing s bs → HasJudgedFiles j (extent_of s) bs)
    → HasMarks begun s.opening [] → PastMarks begun w 0 s → MarksTo j w s ss ss
MarksTo-first j begun w s ss small judged none past =
    record {
      come = λ files end are stand next.
          let P : SegmentValue → Type 0 = λ s. SegmentStandsFor true s (files_of files s) in
          let p = All-head P s ss stand in
          let count = (judged true (files_of files s) p).counted in
          let marks_after = past s.opening s.opening [] (joined_steps (files_of files s)) refl refl
          (omega (arith, small, count))
          none (TellsAll-stands_for true s (files_of files s) p) in (
            last_of s.first s.order + 1,
            HasComeTo-first j s true files next.0 p judged,
            next.1,
            subst (λ (bs : List Block). HasMarks w s.opening (joined_steps bs)) (take-and_files_of files 0 s next.0)
                marks_after,
          );
    }

-- the first of some blocks that join join, too
BlocksJoin-front : (xs ys : List Block) → BlocksJoin (xs ++ ys) → BlocksJoin xs
BlocksJoin-front xs ys j =
    record {
      follow = λ before after a b e.
          j.follow before (after ++ ys) a b (ap (λ l. l ++ ys) e ∙ append_assoc before (a ∷ b ∷ after) ys);
    }

-- if the files bs, ys and `rest` follow one another, and 64 bits count their steps, judging doesn't stop at ys
not_StopsAt-joined : (bs ys rest : List Block) (why : JudgingFault) → BlocksJoin ((bs ++ ys) ++ rest)
    → length (joined_steps ((bs ++ ys) ++ rest)) < 2 ^ 64 → StopsAt bs ys why → ⊥
not_StopsAt-joined bs ys rest (stop.Torn k) joins small t =
    let parts_torn : (bs ++ ys) ++ rest ≡ ((bs ++ t.front) ++ t.torn ∷ []) ++ (t.back ++ rest) =
    ap (λ zs. (bs ++ zs) ++ rest) t.parts
    ∙ (append_assoc bs (t.front ++ t.torn ∷ t.back) rest
    ∙ (ap (λ zs. bs ++ zs) (append_assoc t.front (t.torn ∷ t.back) rest)
    ∙ (sym (append_assoc bs t.front (t.torn ∷ (t.back ++ rest)))
    ∙ sym (append_assoc (bs ++ t.front) (t.torn ∷ []) (t.back ++ rest))))) in
    t.there (BlocksJoin-front ((bs ++ t.front) ++ t.torn ∷ []) (t.back ++ rest) (subst BlocksJoin parts_torn joins))
not_StopsAt-joined bs ys rest stop.TooManySteps joins small many =
    absurd (omega (
      arith,
      many.1,
      small,
      ap (λ (z : List Step). length z) (joined_steps-append (bs ++ ys) rest),
      length-append (joined_steps (bs ++ ys)) (joined_steps rest),
    ))

-- j and w are the states of judging and of the runs after the segments before x, which has the index i
module _ (j : JudgedSegments) (w : MonitorRuns) (s : SegmentValue) (xs : List Segment) (i : ℕ) (x : Segment)
    (h : i < length xs) (e : x ≡ get_or xs i x)
    (was : MarksTo j w s (map segment_value xs) (drop i (map segment_value xs))) where
  -- if judging stops at x, the files don't follow one another or have more steps than 64 bits count, so `ShowLate`
  -- holds
  pub ShowLate-stops : {A : Type 0} (r : Result A JudgingFault) (why : JudgingFault) → r ≡ Err why
      → IfErr r (λ (fault : JudgingFault). (listing : Bool) (e : Extent) (bs ys : List Block) → HasJudgedFiles j e bs
      → SegmentStandsFor listing (segment_value x) ys → x.first ≡ e.last + 1 → StopsAt bs ys fault)
      → ShowLate (s ∷ map segment_value xs)
  ShowLate-stops {A} r why stopped stops files end are stand next t made few joins small =
      let P : SegmentValue → Type 0 = λ s. SegmentStandsFor true s (files_of files s) in
      let c = was.come files end are stand next in
      let n = c.0 in
      let to = subst (λ (left : List SegmentValue). AreNext n left end) (drop-segment_values xs i x h e) c.2 in
      let v = segment_value x in
      let p = All-contains P (map segment_value xs) v (All-tail P s (map segment_value xs) stand)
      (Contains-segment_at xs i x h e) in
      let bs = take n files in
      let ys = files_of files v in
      let m = last_of x.first x.order + 1 in
      let rest = take (end - m) (drop m files) in
      let low : m ≤ end = AreNext-not_before m (drop (i + 1) (map segment_value xs)) end to.1 in
      let size : m + (end - m) ≡ end = omega (arith, low) in
      let whole : take end files ≡ (bs ++ ys) ++ rest =
      ap (λ (k : ℕ). take k files) (sym size)
      ∙ (take-add m (end - m) files ∙ ap (λ (zs : List Block). zs ++ rest) (sym (take-and_files_of files n v to.0))) in
      let stops_there : (listing : Bool) (e : Extent) (bs ys : List Block) → HasJudgedFiles j e bs
      → SegmentStandsFor listing v ys → x.first ≡ e.last + 1 → StopsAt bs ys why =
      subst (λ (q : Result A JudgingFault). IfErr q (λ (fault : JudgingFault). (listing : Bool) (e : Extent)
      (bs ys : List Block) → HasJudgedFiles j e bs → SegmentStandsFor listing v ys → x.first ≡ e.last + 1
      → StopsAt bs ys fault)) stopped stops in
      absurd (not_StopsAt-joined bs ys rest why (subst BlocksJoin whole joins)
      (subst (λ (zs : List Block). length (joined_steps zs) < 2 ^ 64) whole small)
      (stops_there true c.1.extent bs ys c.1.judged p (to.0 ∙ sym c.1.last)))

  -- if r and v are j and w after the files of x as well, they are those after the segments up to x
  pub MarksTo-next : (r : JudgedSegments) (v : MonitorRuns) → r.steps < 2 ^ 64
      → ((listing : Bool) (e : Extent) (bs ys : List Block) → HasJudgedFiles j e bs
      → SegmentStandsFor listing (segment_value x) ys → x.first ≡ e.last + 1
      → HasJudgedFiles r (joined_extent e (extent_of (segment_value x))) (bs ++ ys))
      → PastMarks w v j.steps (segment_value x)
      → MarksTo r v s (map segment_value xs) (drop (i + 1) (map segment_value xs))
  MarksTo-next r v small judged past =
      record {
        come = λ files end are stand next.
            let P : SegmentValue → Type 0 = λ s. SegmentStandsFor true s (files_of files s) in
            let c = was.come files end are stand next in
            let n = c.0 in
            let to = subst (λ (left : List SegmentValue). AreNext n left end) (drop-segment_values xs i x h e) c.2 in
            let t = segment_value x in
            let p = All-contains P (map segment_value xs) t (All-tail P s (map segment_value xs) stand)
            (Contains-segment_at xs i x h e) in
            let bs = take n files in
            let ys = files_of files t in
            let f = c.1.extent in
            let both = judged true f bs ys c.1.judged p (to.0 ∙ sym c.1.last) in
            let meets = Meets-from_join f (extent_of t) bs ys c.1.judged.extent p.extent both.extent.join in
            let opens : t.opening ≡ levels_after s.opening (joined_steps bs) =
            meets.opened
            ∙ (sym (levels_after-extent f bs c.1.judged.extent)
            ∙ ap (λ (v : Levels). levels_after v (joined_steps bs)) (sym c.1.opened)) in
            let fits : length (joined_steps bs) + length (joined_steps ys) < 2 ^ 64 =
            omega (
              arith,
              small,
              both.counted,
              ap (λ (z : List Step). length z) (joined_steps-append bs ys),
              length-append (joined_steps bs) (joined_steps ys),
            ) in
            let marks_after = past s.opening t.opening (joined_steps bs) (joined_steps ys) opens c.1.judged.counted fits
            c.3
            (TellsAll-stands_for true t ys p) in (
              last_of x.first x.order + 1,
              HasComeTo-next j r s.opening t true files n to.0 p judged c.1,
              to.1,
              subst (λ (z : List Block). HasMarks v s.opening (joined_steps z)) (take-and_files_of files n t to.0)
                  (subst (HasMarks v s.opening) (sym (joined_steps-append bs ys)) marks_after),
            );
      }

-- the steps of the files are those of the recording that they make
joined_steps-of_recording : (bs : List Block) (t : Trace) → joined_trace bs ≡ Some t → joined_steps bs ≡ t.steps
joined_steps-of_recording [] t is = absurd (cc)
joined_steps-of_recording (b ∷ bs) t is =
    let whole : record { opening = b.opening; steps = joined_steps (b ∷ bs) } ≡ t = cc in
    ap (λ (k : Trace). k.steps) whole

-- if no segments are left, the marks of the runs are those of the recording
pub ShowsFiles-none_left : (j : JudgedSegments) (w : MonitorRuns) (s : SegmentValue) (xs : List Segment) (i : ℕ)
    → length xs ≤ i
    → ((t : Trace) → malformed_step t ≡ None → t.opening.slots ≤ 21 → HasMarks w t.opening t.steps
    → marks_of_runs w ≡ all_marks t)
    → MarksTo j w s (map segment_value xs) (drop i (map segment_value xs))
    → ShowsFiles s.opening (s ∷ map segment_value xs) (marks_of_runs w)
ShowsFiles-none_left j w s xs i h law was files end are stand next t is few =
    let c = was.come files end are stand next in
    let none : drop i (map segment_value xs) ≡ []
    = drop_all i (map segment_value xs) (omega (arith, h, length-map xs segment_value)) in
    let at : c.0 ≡ end = sym (subst (λ (left : List SegmentValue). AreNext c.0 left end) none c.2) in
    let bs = take end files in
    let judged : HasJudgedFiles j c.1.extent bs =
    subst (λ n. HasJudgedFiles j c.1.extent (take n files)) at c.1.judged in
    let opens : s.opening ≡ t.opening = opening-of_recording j c.1.extent bs t s.opening judged c.1.opened is in
    let steps : joined_steps bs ≡ t.steps = joined_steps-of_recording bs t is in
    let marks : HasMarks w s.opening (joined_steps bs)
    = subst (λ n. HasMarks w s.opening (joined_steps (take n files))) at c.3 in (
      law t (joined_trace-well_formed bs t judged.extent.join judged.extent.sound is) few
          (subst (λ (v : Levels). HasMarks w v t.steps) opens (subst (HasMarks w s.opening) steps marks)),
      opens,
    )

-- if no segments are left, and a mark of the runs comes too late, so does one of the recording
pub ShowLate-shown : (o : Levels) (ss : List SegmentValue) (ms : List Mark) → ShowsFiles o ss ms → HasLateMark ms
    → ShowLate ss
ShowLate-shown o ss ms shows late files end are stand next t is few joins small =
    subst HasLateMark (shows files end are stand next t is few).0 late

-- where there is no recording, there is none
None-not_Some : (t : Trace) → None ≡ Some t → ⊥
None-not_Some t e = absurd (cc)

-- without segments there is no recording
pub ListsFiles-no_segments : (j : JudgedSegments) → ListsFiles j [] listed.TooLong
ListsFiles-no_segments j files end are stand next e was t is all =
    absurd (None-not_Some t (subst (λ (n : ℕ). joined_trace (take n files) ≡ Some t) next is))

-- a recording whose first break comes too late is too long for a listing
pub ListsFiles-late_break : (j : JudgedSegments) (ss : List SegmentValue) (found : Option WideBreak) (b : WideBreak)
    → ((t : Trace) → FoundAll j.states t → option_map break_of found ≡ first_break_of t) → found ≡ Some b
    → 2 ^ 32 ≤ b.instant → ListsFiles j ss listed.TooLong
ListsFiles-late_break j ss found b first e late files end are stand next f was t is all =
    inl (break_of b, sym (first t all) ∙ ap (option_map break_of) e, late)

-- a recording of which a mark comes too late is too long for a listing
pub ListsFiles-late_mark : (j : JudgedSegments) (ss : List SegmentValue) → j.steps < 2 ^ 64 → ShowLate ss
    → ListsFiles j ss listed.TooLong
ListsFiles-late_mark j ss small late files end are stand next f was t is all =
    inr (late files end are stand next t is all.few was.extent.join (omega (arith, small, was.counted)))

-- if all files are judged, an answer by `ListsFiles` is true
pub DeterminesListingAnswer-listing : (p : PartValue) (count : Option ℕ) (j : JudgedSegments) (what : ListingAnswer)
    → p.listing ≡ true
    → JudgesFiles p count (Ok j) → ListsFiles j p.segments what → DeterminesListingAnswer p count what
DeterminesListingAnswer-listing p count j (listed.Listing l) marked judges lists files n are part has =
    let r = judges files n are part has in (
      r.0,
      marked,
      (
        r.2.1.extent.join,
        λ t is.
            lists files n are (subst (λ (b : Bool). AllStand b files p.segments) marked part.stands) r.1 t is
            (FoundAll-judged_files j r.2.0 (take n files) t r.2.1 r.2.2 is),
      ),
    )
DeterminesListingAnswer-listing p count j listed.TooLong marked judges lists files n are part has =
    let r = judges files n are part has in (
      r.0,
      marked,
      (
        r.2.1.extent.join,
        λ t is.
            lists files n are (subst (λ (b : Bool). AllStand b files p.segments) marked part.stands) r.1 r.2.0 r.2.1 t
            is (FoundAll-judged_files j r.2.0 (take n files) t r.2.1 r.2.2 is),
      ),
    )
DeterminesListingAnswer-listing p count j listed.Unmarked marked judges lists files n are part has = absurd lists
DeterminesListingAnswer-listing p count j (listed.Refused what) marked judges lists files n are part has = absurd lists

-- for a part without marks the answer `Unmarked` is true
pub DeterminesListingAnswer-unmarked : (p : PartValue) (count : Option ℕ) → p.listing ≡ false
    → DeterminesListingAnswer p count listed.Unmarked
DeterminesListingAnswer-unmarked p count e files n are part has = e

-- the answer in place of judging all files is true
pub DeterminesListingAnswer-refused : (p : PartValue) (count : Option ℕ) (what : RecordingAnswer)
    → JudgesFiles p count (Err what)
    → DeterminesListingAnswer p count (listed.Refused what)
DeterminesListingAnswer-refused p count what judges files n are part has = judges files n are part has
