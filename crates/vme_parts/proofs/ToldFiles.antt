-- The answers about the files of a recording.
use Rattle.std.proofs.Common.{◌≡◌, ℕ, ◌+◌, ◌<◌, ◌≤◌, ◌^◌, Bool, List, [], ◌∷◌, ◌++◌, length, map, get_or}
use Rattle.std.proofs.Common.{take, drop, ap}
use Rattle.std.proofs.Common.{sym, subst, ◌∙◌, arith, Option, Some, None}
use Rattle.std.specs.Prelude.{Contains, Err, Ok, option_map, slice_get}
use Rattle.std.proofs.lemmas.List.{drop_all, drop_more, get_or-map, length-map}
use Rattle.std.proofs.lemmas.List.Elements.{All-contains, All-head, All-tail}
use Rattle.std.proofs.lemmas.Nat.{pow_pos}
use Rattle.vme_trace.specs.Verdict.{rules_in_force, verdict_by}
use Rattle.vme_trace.specs.Levels.{Levels}
use Rattle.vme_trace.specs.Trace.{Trace}
use Rattle.vme_trace.specs.declared.block.Block.{Block}
use Rattle.vme_summary.specs.Extents.{joined_extent}
use Rattle.vme_summary.specs.declared.extent.Extent.{Extent}
use Rattle.vme_part_format.specs.Bounds.{FitSegments}
use Rattle.vme_part_format.specs.Tables.{PartValue, SegmentValue, last_of, segment_value}
use Rattle.vme_part_format.specs.declared.segment.Segment.{Segment}
use Rattle.vme_parts.specs.Covering.{AreNext, HasGap, IsBeyond, AreWithinFiles, LacksFrom}
use Rattle.vme_parts.specs.Files.{AllStand, AreFiles, PartCovers, IsPartOf, files_of}
use Rattle.vme_parts.specs.Gathering.{Ascend}
use Rattle.vme_parts.specs.Progress.{FoundAll, HasJudgedFiles, HaveTooManySteps, IsTornIn, StopsAt}
use Rattle.vme_parts.specs.Stands.{SegmentStandsFor, extent_of}
use Rattle.vme_parts.specs.Telling.{AllCovered, DeterminesRecordingAnswer, HasFiles, JudgesAll, JudgesFiles, answer_of}
use Rattle.vme_parts.specs.Telling.{HasTooManySteps, verdict_of}
use Rattle.vme_parts.specs.declared.answers.RecordingAnswer.{RecordingAnswer}
use Rattle.vme_parts.specs.declared.answers.RecordingAnswer.TheVariants as answer
use Rattle.vme_parts.specs.declared.answers.WideVerdict.{WideVerdict}
use Rattle.vme_parts.specs.declared.judged_segments.JudgedSegments.{JudgedSegments}
use Rattle.vme_parts.specs.declared.judged_segments.JudgingFault.{JudgingFault}
use Rattle.vme_parts.specs.declared.judged_segments.JudgingFault.TheVariants as stop
use Rattle.vme_parts.proofs.Covered.{AllCovered-next, AscendFrom-zero, IsMissing-gap, PartCovers-last}
use Rattle.vme_parts.proofs.Covered.{AreNext-not_before, IsMissing-end}
use Rattle.vme_parts.proofs.Covered.{file_count-of_covered}
use Rattle.vme_parts.proofs.WholeFiles.{HasComeTo, HasComeTo-first, HasComeTo-next, take-and_files_of}
use Rattle.vme_parts.proofs.WholeFiles.{FoundAll-judged_files, torn_number-below, IsTornFile-in_segment}

-- the segments from index i on are the segment x and those from i + 1 on
pub drop-segment_values : (xs : List Segment) (i : ℕ) (x : Segment) → i < length xs → x ≡ get_or xs i x
    → drop i (map segment_value xs) ≡ segment_value x ∷ drop (i + 1) (map segment_value xs)
drop-segment_values xs i x h e =
    let ss = map segment_value xs in
    let at : get_or ss i (segment_value x) ≡ segment_value x =
    get_or-map segment_value xs i x (segment_value x) h ∙ ap segment_value (sym e) in
    drop_more ss i (segment_value x) (omega (arith, h, length-map xs segment_value))
    ∙ ap (λ (s : SegmentValue). s ∷ drop (i + 1) ss) at

-- the segment x with the index i is contained in the list
pub Contains-segment_at : (xs : List Segment) (i : ℕ) (x : Segment) → i < length xs → x ≡ get_or xs i x
    → Contains (map segment_value xs) (segment_value x)
Contains-segment_at xs i x h e = (
  i,
  omega (arith, h, length-map xs segment_value),
  get_or-map segment_value xs i x (segment_value x) h ∙ ap segment_value (sym e),
)

-- ---- judging segments that follow one another

-- j is the state after judging the segments of s ∷ ss up to those in `left`
pub record ComesTo (j : JudgedSegments) (s : SegmentValue) (ss left : List SegmentValue) : Type 0 where
  pub come : (listing : Bool) (files : List Block) (end : ℕ) → AreFiles files → AllStand listing files (s ∷ ss)
      → AreNext 0 (s ∷ ss) end → (n : ℕ) × HasComeTo j s.opening files n × AreNext n left end

-- if j is the state after judging the files of s, it is the state after the first of s ∷ ss
pub ComesTo-first : (j : JudgedSegments) (s : SegmentValue) (ss : List SegmentValue)
    → ((listing : Bool) (bs : List Block) → SegmentStandsFor listing s bs → HasJudgedFiles j (extent_of s) bs)
    → ComesTo j s ss ss
ComesTo-first j s ss judged =
    record {
      come = λ listing files end are stand next.
          let P : SegmentValue → Type 0 = λ s. SegmentStandsFor listing s (files_of files s) in (
            last_of s.first s.order + 1,
            HasComeTo-first j s listing files next.0 (All-head P s ss stand) judged,
            next.1,
          );
    }

-- j is the state after judging the segments before x, which has the index i
module _ (j : JudgedSegments) (s : SegmentValue) (xs : List Segment) (i : ℕ) (x : Segment) (h : i < length xs)
    (e : x ≡ get_or xs i x) (was : ComesTo j s (map segment_value xs) (drop i (map segment_value xs))) where
  -- j is the state after judging the first n files of the recording, and x begins with the file n
  HasComeTo-before : (listing : Bool) (files : List Block) (end : ℕ) → AreFiles files → AllStand listing files
      (s ∷ map segment_value xs)
      → AreNext 0 (s ∷ map segment_value xs) end
      → (n : ℕ) × HasComeTo j s.opening files n
      × AreNext n (segment_value x ∷ drop (i + 1) (map segment_value xs)) end
  HasComeTo-before listing files end are stand next =
      let c = was.come listing files end are stand next in
      (c.0, c.1, subst (λ (left : List SegmentValue). AreNext c.0 left end) (drop-segment_values xs i x h e) c.2)

  -- x stands for its files
  SegmentStandsFor-at : (listing : Bool) (files : List Block) → AllStand listing files (s ∷ map segment_value xs)
      → SegmentStandsFor listing (segment_value x) (files_of files (segment_value x))
  SegmentStandsFor-at listing files stand =
      let P : SegmentValue → Type 0 = λ s. SegmentStandsFor listing s (files_of files s) in
      All-contains P (map segment_value xs) (segment_value x) (All-tail P s (map segment_value xs) stand)
      (Contains-segment_at xs i x h e)

  -- if r is j after the files of x as well, it is the state after judging the segments up to x
  pub ComesTo-next : (r : JudgedSegments)
      → ((listing : Bool) (e : Extent) (bs ys : List Block) → HasJudgedFiles j e bs
      → SegmentStandsFor listing (segment_value x) ys → x.first ≡ e.last + 1
      → HasJudgedFiles r (joined_extent e (extent_of (segment_value x))) (bs ++ ys))
      → ComesTo r s (map segment_value xs) (drop (i + 1) (map segment_value xs))
  ComesTo-next r judged =
      record {
        come = λ listing files end are stand next.
            let c = HasComeTo-before listing files end are stand next in (
              last_of x.first x.order + 1,
              HasComeTo-next j r s.opening (segment_value x) listing files c.0 c.2.0
                  (SegmentStandsFor-at listing files stand) judged c.1,
              c.2.1,
            );
      }

  -- if judging stops at the files of x, that is the answer for all segments
  pub JudgesAll-stops : (why : JudgingFault)
      → ((listing : Bool) (e : Extent) (bs ys : List Block) → HasJudgedFiles j e bs
      → SegmentStandsFor listing (segment_value x) ys → x.first ≡ e.last + 1 → StopsAt bs ys why)
      → JudgesAll (s ∷ map segment_value xs) (Err why)
  JudgesAll-stops stop.TooManySteps stops =
      λ listing files end are stand next.
      let c = HasComeTo-before listing files end are stand next in
      let many = stops listing c.1.extent (take c.0 files) (files_of files (segment_value x)) c.1.judged
      (SegmentStandsFor-at listing files stand) (c.2.0 ∙ sym c.1.last) in (
        last_of x.first x.order + 1,
        AreNext-not_before (last_of x.first x.order + 1) (drop (i + 1) (map segment_value xs)) end c.2.1,
        subst HaveTooManySteps (take-and_files_of files c.0 (segment_value x) c.2.0) many,
      )
  JudgesAll-stops (stop.Torn k) stops =
      λ listing files end are stand next.
      let c = HasComeTo-before listing files end are stand next in
      let torn = stops listing c.1.extent (take c.0 files) (files_of files (segment_value x)) c.1.judged
      (SegmentStandsFor-at listing files stand) (c.2.0 ∙ sym c.1.last) in
      let torn_in_segment : IsTornIn (take c.0 files) (take (2 ^ x.order) (drop c.0 files)) k =
      subst (λ n. IsTornIn (take c.0 files) (take (2 ^ x.order) (drop n files)) k) c.2.0 torn in
      let low = AreNext-not_before (last_of x.first x.order + 1) (drop (i + 1) (map segment_value xs)) end c.2.1 in (
        IsTornFile-in_segment files c.0 (2 ^ x.order) k are torn_in_segment,
        omega (arith, torn_number-below files c.0 (2 ^ x.order) k are torn_in_segment, low, c.2.0, pow_pos x.order),
      )

-- if no segments are left, all are judged
pub JudgesAll-none_left : (j : JudgedSegments) (s : SegmentValue) (xs : List Segment) (i : ℕ) → length xs ≤ i
    → ComesTo j s (map segment_value xs) (drop i (map segment_value xs)) → JudgesAll (s ∷ map segment_value xs) (Ok j)
JudgesAll-none_left j s xs i h was =
    λ listing files end are stand next.
    let c = was.come listing files end are stand next in
    let none : drop i (map segment_value xs) ≡ []
    = drop_all i (map segment_value xs) (omega (arith, h, length-map xs segment_value)) in
    let at : end ≡ c.0 = subst (λ (left : List SegmentValue). AreNext c.0 left end) none c.2 in (
      c.1.extent,
      subst (λ n. HasJudgedFiles j c.1.extent (take n files)) (sym at) c.1.judged,
      ap Some c.1.opened,
    )

-- ---- the files of a part

-- segments that can be written ascend
Ascend-fits : (listing : Bool) (before : Option ℕ) (ss : List SegmentValue) → FitSegments listing before ss
    → Ascend before ss
Ascend-fits listing before [] f = tt
Ascend-fits listing before (s ∷ ss) f = (f.1, Ascend-fits listing (Some (last_of s.first s.order)) ss f.2)

-- if the last file that is covered is beyond those of the recording, the answer is `Beyond`
pub JudgesFiles-beyond : (p : PartValue) (count : Option ℕ) (k : ℕ) → IsBeyond p.segments count k
    → JudgesFiles p count (Err (answer.Beyond k))
JudgesFiles-beyond p count k b files n are part has =
    let has_count : HasFiles p (Some b.files) n = subst (λ (o : Option ℕ). HasFiles p o n) b.counted has in (
      subst (PartCovers p) (sym b.at) (PartCovers-last p b.last b.there),
      omega (arith, has_count.1, b.behind),
    )

-- if there is a gap between the segments, the answer is that the file there is missing
pub JudgesFiles-missing : (p : PartValue) (count : Option ℕ) (k : ℕ) → AreWithinFiles p.segments count
    → HasGap 0 p.segments k
    → JudgesFiles p count (Err (answer.Missing k))
JudgesFiles-missing p count k w g files n are part has =
    IsMissing-gap p (AscendFrom-zero p.segments (Ascend-fits p.listing None p.segments part.fits.segments)) count n k w
    has g

-- the segments of p cover exactly the files below `end`, and none beyond those of the recording
module _ (p : PartValue) (count : Option ℕ) (end : ℕ) (w : AreWithinFiles p.segments count)
    (next : AreNext 0 p.segments end)
  where
    -- if the recording has more than `end` files, the answer is that the file `end` is missing
    pub JudgesFiles-lacking : LacksFrom count end → JudgesFiles p count (Err (answer.Missing end))
    JudgesFiles-lacking l files n are part has =
        IsMissing-end p (AscendFrom-zero p.segments
        (Ascend-fits p.listing None p.segments part.fits.segments)) end next count n has
        l

    -- the recording has no more than `end` files
    module _ (whole : LacksFrom count end → ⊥) where
      -- the recording has `end` files
      file_count-is_end : (files : List Block) (n : ℕ) → IsPartOf files p → HasFiles p count n → n ≡ end
      file_count-is_end files n part has =
          file_count-of_covered p (AscendFrom-zero p.segments
          (Ascend-fits p.listing None p.segments part.fits.segments)) end next count n w
          has whole

      -- all files of the recording are covered
      AllCovered-of_files : (files : List Block) (n : ℕ) → IsPartOf files p → HasFiles p count n → AllCovered p n
      AllCovered-of_files files n part has =
          AllCovered-next p (AscendFrom-zero p.segments (Ascend-fits p.listing None p.segments part.fits.segments)) end
          next n
          (file_count-is_end files n part has)

      -- the opening of the first segment has at most 21 slots
      slots-few : (ss : List SegmentValue) (listing : Bool) (v : Levels) → FitSegments listing None ss
          → option_map (λ (s : SegmentValue). s.opening) (slice_get ss 0) ≡ Some v → v.slots ≤ 21
      slots-few [] listing v f e = absurd (cc)
      slots-few (s ∷ ss) listing v f e =
          let same : s.opening ≡ v = cc in
          subst (λ (l : Levels). l.slots ≤ 21) same f.0.opening.slots.1

      -- if all segments are judged, so are all files
      pub JudgesFiles-judged : (j : JudgedSegments) → JudgesAll p.segments (Ok j) → JudgesFiles p count (Ok j)
      JudgesFiles-judged j judges files n are part has =
          let r = judges p.listing files end are part.stands next in (
            AllCovered-of_files files n part has,
            subst (AreNext 0 p.segments) (sym (file_count-is_end files n part has)) next,
            (
              r.0,
              subst (λ k. HasJudgedFiles j r.0 (take k files)) (sym (file_count-is_end files n part has)) r.1,
              slots-few p.segments p.listing r.0.opening part.fits.segments r.2,
            ),
          )

      -- if judging the segments stops at a torn file, the answer is that this file is torn
      pub JudgesFiles-torn : (k : ℕ) → JudgesAll p.segments (Err (stop.Torn k))
          → JudgesFiles p count (Err (answer.Torn k))
      JudgesFiles-torn k judges files n are part has =
          let r = judges p.listing files end are part.stands next in (
            AllCovered-of_files files n part has,
            r.0,
            omega (arith, r.1, file_count-is_end files n part has),
          )

      -- if judging the segments stops since there are too many steps, that is the answer
      pub JudgesFiles-too_many_steps : JudgesAll p.segments (Err stop.TooManySteps)
          → JudgesFiles p count (Err answer.TooManySteps)
      JudgesFiles-too_many_steps judges files n are part has =
          let r = judges p.listing files end are part.stands next in (
            AllCovered-of_files files n part has,
            subst (HasTooManySteps files) (sym (file_count-is_end files n part has)) r,
          )

      -- if judging the segments stops, the answer says why
      pub JudgesFiles-stopped : (why : JudgingFault) → JudgesAll p.segments (Err why)
          → JudgesFiles p count (Err (answer_of why))
      JudgesFiles-stopped (stop.Torn k) judges = JudgesFiles-torn k judges
      JudgesFiles-stopped stop.TooManySteps judges = JudgesFiles-too_many_steps judges

-- if all files are judged, the verdict by the states is the answer
pub DeterminesRecordingAnswer-verdict : (p : PartValue) (count : Option ℕ) (j : JudgedSegments) (v : WideVerdict)
    → JudgesFiles p count (Ok j)
    → ((t : Trace) → FoundAll j.states t → verdict_by rules_in_force t ≡ verdict_of v)
    → DeterminesRecordingAnswer p count (answer.Verdict v)
DeterminesRecordingAnswer-verdict p count j v judges found files n are part has =
    let r = judges files n are part has in (
      r.0,
      (r.2.1.extent.join, λ t is. found t (FoundAll-judged_files j r.2.0 (take n files) t r.2.1 r.2.2 is)),
    )

-- the answer in place of judging all files is true
pub DeterminesRecordingAnswer-refused : (p : PartValue) (count : Option ℕ) (what : RecordingAnswer)
    → JudgesFiles p count (Err what)
    → DeterminesRecordingAnswer p count what
DeterminesRecordingAnswer-refused p count what judges files n are part has = judges files n are part has
