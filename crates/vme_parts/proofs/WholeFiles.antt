-- The files of a recording, judged from the first on.
use Rattle.std.proofs.Common.{◌≡◌, ℕ, suc, ◌+◌, ◌<◌, ◌≤◌, ◌^◌, Bool, List, [], ◌∷◌, ◌++◌, length}
use Rattle.std.proofs.Common.{take, drop}
use Rattle.std.proofs.Common.{refl, ap, sym, subst, ◌∙◌, arith, append_assoc, length-append, Some}
use Rattle.std.proofs.Math.Seq.{take-add, take-append_seam}
use Rattle.std.proofs.lemmas.List.{length-take, take-append-drop}
use Rattle.std.proofs.lemmas.Nat.{pow_pos}
use Rattle.vme_trace.specs.Blocks.{joined_steps}
use Rattle.vme_trace.specs.Levels.{Levels}
use Rattle.vme_trace.specs.Trace.{Trace}
use Rattle.vme_trace.specs.declared.block.Block.{Block}
use Rattle.vme_trace.proofs.ListLaws.{slice_get-here}
use Rattle.vme_summary.specs.Extents.{joined_extent}
use Rattle.vme_summary.specs.Joins.{BlocksJoin, joined_trace}
use Rattle.vme_summary.specs.declared.extent.Extent.{Extent}
use Rattle.vme_summary.proofs.Whole.{joined_trace-well_formed}
use Rattle.vme_part_format.specs.Tables.{SegmentValue, last_of}
use Rattle.vme_parts.specs.Files.{AreFiles, files_of}
use Rattle.vme_parts.specs.Progress.{FoundAll, HasJudgedFiles, HasStates, IsTornIn}
use Rattle.vme_parts.specs.Stands.{SegmentStandsFor, extent_of}
use Rattle.vme_parts.specs.Telling.{IsTornFile}
use Rattle.vme_parts.specs.declared.judged_segments.JudgedSegments.{JudgedSegments}

-- the states after judging the files bs are those after the recording that the files make
pub FoundAll-judged_files : (j : JudgedSegments) (e : Extent) (bs : List Block) (t : Trace) → HasJudgedFiles j e bs
    → e.opening.slots ≤ 21 → joined_trace bs ≡ Some t → FoundAll j.states t
FoundAll-judged_files j e [] t was few is = absurd (cc)
FoundAll-judged_files j e (b ∷ bs) t was few is =
    let opens : Some b.opening ≡ Some e.opening = was.extent.opening in
    let same : e.opening ≡ b.opening = cc in
    let whole : record { opening = b.opening; steps = joined_steps (b ∷ bs) } ≡ t = cc in
    let here : FoundAll j.states (record { opening = b.opening; steps = joined_steps (b ∷ bs) }) =
    record {
      sound = joined_trace-well_formed (b ∷ bs) (record { opening = b.opening; steps = joined_steps (b ∷ bs) })
          was.extent.join was.extent.sound refl;
      few = subst (λ (v : Levels). v.slots ≤ 21) same few;
      found = subst (λ (v : Levels). HasStates j.states v (joined_steps (b ∷ bs))) same was.found;
    } in
    subst (λ k. FoundAll j.states k) whole here

-- the first n files and then those of the segment s, which begins with n, are the first files up to the last of s
pub take-and_files_of : (files : List Block) (n : ℕ) (s : SegmentValue) → s.first ≡ n
    → take n files ++ files_of files s ≡ take (last_of s.first s.order + 1) files
take-and_files_of files n s e =
    let size : last_of s.first s.order + 1 ≡ n + 2 ^ s.order = omega (arith, e, pow_pos s.order) in
    ap (λ k. take n files ++ take (2 ^ s.order) (drop k files)) e
    ∙ (sym (take-add n (2 ^ s.order) files) ∙ ap (λ k. take k files) (sym size))

-- the number of a file is the number of files before it
number-of_file : (xs ys : List Block) (x : Block) → AreFiles (xs ++ x ∷ ys) → x.number ≡ length xs
number-of_file xs ys x are = are (length xs) x (slice_get-here xs x ys)

-- the first `length xs` + 1 of the files are xs and then x
take-one_more : (xs ys : List Block) (x : Block) → take (length xs + 1) (xs ++ x ∷ ys) ≡ xs ++ x ∷ []
take-one_more [] ys x = refl
take-one_more (z ∷ zs) ys x =
    let e : length (z ∷ zs) + 1 ≡ suc (length zs + 1) = omega arith in
    ap (λ n. take n (z ∷ (zs ++ x ∷ ys))) e ∙ ap (λ k. z ∷ k) (take-one_more zs ys x)

-- if the files xs follow one another, and x, which has the number k, doesn't follow them, k is the least such file
IsTornFile-by_parts : (files xs ys : List Block) (x : Block) (k : ℕ) → AreFiles files → files ≡ xs ++ x ∷ ys → x.number
    ≡ k
    → BlocksJoin xs → (BlocksJoin (xs ++ x ∷ []) → ⊥) → IsTornFile files k
IsTornFile-by_parts files xs ys x k are e number before there =
    let at : length xs ≡ k = sym (number-of_file xs ys x (subst AreFiles e are)) ∙ number in
    record {
      before = subst BlocksJoin (sym (take-append_seam xs (x ∷ ys))
          ∙ (ap (take (length xs)) (sym e) ∙ ap (λ n. take n files) at))
          before;
      there = λ joined.
          there
          (subst BlocksJoin
          (ap (λ n. take (n + 1) files) (sym at) ∙ (ap (take (length xs + 1)) e ∙ take-one_more xs ys x)) joined);
    }

-- files of which one is torn in a segment are those before it, it, and those after it
torn_file-parts : (files : List Block) (n size k : ℕ)
    (t : IsTornIn (take n files) (take size (drop n files)) k)
    → files ≡ (take n files ++ t.front) ++ t.torn ∷ (t.back ++ drop size (drop n files))
torn_file-parts files n size k t =
    let rest = drop size (drop n files) in
    let with_rest : take size (drop n files) ++ rest ≡ drop n files = take-append-drop size (drop n files) in
    let whole : take n files ++ drop n files ≡ files = take-append-drop n files in
    sym whole
    ∙ (ap (λ k. take n files ++ k) (sym with_rest)
    ∙ (ap (λ k. take n files ++ (k ++ rest)) t.parts
    ∙ (ap (λ k. take n files ++ k) (append_assoc t.front (t.torn ∷ t.back) rest)
    ∙ sym (append_assoc (take n files) t.front (t.torn ∷ (t.back ++ rest))))))

-- a file that doesn't follow those before it in a segment is the least such file of the recording
pub IsTornFile-in_segment : (files : List Block) (n size k : ℕ) → AreFiles files
    → IsTornIn (take n files) (take size (drop n files)) k → IsTornFile files k
IsTornFile-in_segment files n size k are t =
    let rest = drop size (drop n files) in
    IsTornFile-by_parts files (take n files ++ t.front) (t.back ++ rest) t.torn k are
    (torn_file-parts files n size k t) t.numbered t.before t.there

-- the number of a file that is torn in a segment is below the segment's end
pub torn_number-below : (files : List Block) (n size k : ℕ) → AreFiles files
    → IsTornIn (take n files) (take size (drop n files)) k → k < n + size
torn_number-below files n size k are t =
    let rest = drop size (drop n files) in
    let at : t.torn.number ≡ length (take n files ++ t.front)
    = number-of_file (take n files ++ t.front) (t.back ++ rest) t.torn
    (subst AreFiles (torn_file-parts files n size k t) are) in
    omega (
      arith,
      at,
      t.numbered,
      length-append (take n files) t.front,
      length-take n files,
      length-take size (drop n files),
      ap (λ (x : List Block). length x) t.parts,
      length-append t.front (t.torn ∷ t.back),
    )

-- j is the state after judging the first n files, which begin with the levels `opening`
pub record HasComeTo (j : JudgedSegments) (opening : Levels) (files : List Block) (n : ℕ) : Type 0 where
  pub extent : Extent
  pub judged : HasJudgedFiles j extent (take n files)
  pub last : extent.last + 1 ≡ n
  pub opened : opening ≡ extent.opening

-- if s begins with the file 0, the state after judging its files is that after the first files up to its last
pub HasComeTo-first : (j : JudgedSegments) (s : SegmentValue) (listing : Bool) (files : List Block) → s.first ≡ 0
    → SegmentStandsFor listing s (files_of files s)
    → ((listing : Bool) (bs : List Block) → SegmentStandsFor listing s bs → HasJudgedFiles j (extent_of s) bs)
    → HasComeTo j s.opening files (last_of s.first s.order + 1)
HasComeTo-first j s listing files e p judged =
    record {
      extent = extent_of s;
      judged = subst (HasJudgedFiles j (extent_of s)) (take-and_files_of files 0 s e)
          (judged listing (files_of files s) p);
      last = refl;
      opened = refl;
    }

-- if j is the state after judging the first n files, and s begins with n, r is the state after the files up to the last
-- of s
pub HasComeTo-next : (j r : JudgedSegments) (o : Levels) (s : SegmentValue) (listing : Bool) (files : List Block)
    (n : ℕ)
    → s.first ≡ n
    → SegmentStandsFor listing s (files_of files s)
    → ((listing : Bool) (e : Extent) (bs ys : List Block) → HasJudgedFiles j e bs → SegmentStandsFor listing s ys
    → s.first ≡ e.last + 1 → HasJudgedFiles r (joined_extent e (extent_of s)) (bs ++ ys))
    → HasComeTo j o files n → HasComeTo r o files (last_of s.first s.order + 1)
HasComeTo-next j r o s listing files n e p judged was =
    record {
      extent = joined_extent was.extent (extent_of s);
      judged = subst (HasJudgedFiles r (joined_extent was.extent (extent_of s))) (take-and_files_of files n s e)
          (judged listing was.extent (take n files) (files_of files s) was.judged p (e ∙ sym was.last));
      last = refl;
      opened = was.opened;
    }
