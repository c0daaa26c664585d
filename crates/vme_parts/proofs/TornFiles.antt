-- The first of the files that doesn't follow those before it.
use Rattle.std.proofs.Common.{inl, inr, ◌≡◌, ℕ, ◌+◌, ◌≤◌, Bool, true, List, [], ◌∷◌, ◌++◌, refl, ap, sym}
use Rattle.std.proofs.Common.{◌∙◌}
use Rattle.std.proofs.Common.{append-nil, arith, subst, Option, Some, None}
use Rattle.std.specs.Option.{option_map, option_or}
use Rattle.std.proofs.lemmas.Bool.{ltb-true}
use Rattle.vme_trace.specs.Block.{trace_of}
use Rattle.vme_trace.specs.Blocks.{joined_steps}
use Rattle.vme_trace.specs.WellFormed.{malformed_step}
use Rattle.vme_trace.specs.declared.block.Block.{Block}
use Rattle.vme_trace.specs.declared.step.Step.{Step}
use Rattle.vme_trace.proofs.ListLaws.{option_or-none}
use Rattle.vme_summary.specs.Extents.{IsExtent}
use Rattle.vme_summary.specs.Joins.{BlocksJoin, first_time, is_later_time, last_time, left_by}
use Rattle.vme_summary.specs.declared.extent.Extent.{Extent}
use Rattle.vme_summary.proofs.Chains.{GoOn, GoOn-split, BlocksJoin-from_GoOn, GoOn-of_joined, left_after-last}
use Rattle.vme_summary.proofs.Chains.{number_after-last, left_after}
use Rattle.vme_summary.proofs.Chains.{number_after, joined_steps-append, GoOn-after_time, GoOn-append}
use Rattle.vme_summary.proofs.Extents.{Meets-from_join, BlocksJoin-one, AreSound-one}
use Rattle.vme_summary.proofs.Times.{last_time-append, is_later_time-none}
use Rattle.vme_part_format.specs.Tables.{SegmentValue}
use Rattle.vme_part_format.specs.declared.segment.SegmentTimes.{SegmentTimes}
use Rattle.vme_parts.specs.Meeting.{IsEarlyFile, IsTornAt, ends_at, starts_at}
use Rattle.vme_parts.specs.Progress.{HasJudgedFiles, IsTornIn}
use Rattle.vme_parts.specs.Stands.{SegmentStandsFor, extent_of, first_with_step}
use Rattle.vme_parts.specs.declared.judged_segments.JudgedSegments.{JudgedSegments}

-- the extent of one block
abbrev extent_of_block : Block → Extent
extent_of_block b =
    record {
      first = b.number;
      last = b.number;
      opening = b.opening;
      left = left_by b;
      starts = first_time b.steps;
      ends = last_time b.steps;
    }

-- a well-formed block has its extent
IsExtent-one_block : (b : Block) → malformed_step (trace_of b) ≡ None → IsExtent (extent_of_block b) (b ∷ [])
IsExtent-one_block b sound =
    record {
      join = BlocksJoin-one b;
      sound = AreSound-one b sound;
      first = refl;
      last = refl;
      opening = refl;
      left = refl;
      starts = ap first_time (sym (append-nil b.steps));
      ends = ap last_time (sym (append-nil b.steps));
    }

-- the files before the first one that has a step, this one, and those after it
record SplitAtFirstStep (ys : List Block) (n : ℕ) : Type 0 where
  front : List Block
  one : Block
  back : List Block
  parts : ys ≡ front ++ one ∷ back
  numbered : one.number ≡ n
  still : joined_steps front ≡ []
  starts : first_time one.steps ≡ first_time (joined_steps ys)

-- a file without steps before ys goes to those before the first with a step
SplitAtFirstStep-cons : (y : Block) (ys : List Block) (n : ℕ) → y.steps ≡ [] → SplitAtFirstStep ys n
    → SplitAtFirstStep (y ∷ ys) n
SplitAtFirstStep-cons y ys n e r =
    record {
      front = y ∷ r.front;
      one = r.one;
      back = r.back;
      parts = ap (λ k. y ∷ k) r.parts;
      numbered = r.numbered;
      still = ap (λ (xs : List Step). xs ++ joined_steps r.front) e ∙ r.still;
      starts = r.starts ∙ ap (λ (xs : List Step). first_time (xs ++ joined_steps ys)) (sym e);
    }

-- a file with a step before ys is the first with a step
SplitAtFirstStep-here : (y : Block) (ys : List Block) (n : ℕ) (x : Step) (xs : List Step) → y.steps ≡ x ∷ xs → y.number
    ≡ n
    → SplitAtFirstStep (y ∷ ys) n
SplitAtFirstStep-here y ys n x xs e number =
    record {
      front = [];
      one = y;
      back = ys;
      parts = refl;
      numbered = number;
      still = refl;
      starts = rw e refl;
    }

-- if a file of ys has a step, ys are split at the first of these
SplitAtFirstStep-of_number : (ys : List Block) (n : ℕ) → Some n ≡ first_with_step ys → SplitAtFirstStep ys n
SplitAtFirstStep-of_number [] n e = absurd (cc)
SplitAtFirstStep-of_number (y ∷ ys) n e = by_steps y.steps refl (SplitAtFirstStep-of_number ys n)
  where
    by_steps : (xs : List Step) → y.steps ≡ xs → (Some n ≡ first_with_step ys → SplitAtFirstStep ys n)
        → SplitAtFirstStep (y ∷ ys) n
    by_steps [] f rest = SplitAtFirstStep-cons y ys n f (rest (rw f at e))
    by_steps (x ∷ xs) f rest =
        let same_number : Some n ≡ Some y.number = rw f at e in
        SplitAtFirstStep-here y ys n x xs f cc

-- j is the state after judging the files bs, and s stands for the files ys that come next
module _ (j : JudgedSegments) (s : SegmentValue) (listing : Bool) (e : Extent) (bs ys : List Block) (k : ℕ)
    (was : HasJudgedFiles j e bs) (p : SegmentStandsFor listing s ys) (n : s.first ≡ e.last + 1) where
  -- if the segment opens with other levels than those before leave, its first file is torn
  IsTornIn-other_levels : (zs : List Block) → IsExtent (extent_of s) zs → (s.opening ≡ j.left → ⊥) → k ≡ s.first
      → IsTornIn bs zs k
  IsTornIn-other_levels [] q other at = let none : None ≡ Some s.first = q.first in absurd (cc)
  IsTornIn-other_levels (z ∷ zs) q other at =
      let opens : Some z.opening ≡ Some s.opening = q.opening in
      let number : Some z.number ≡ Some s.first = q.first in
      let same : z.opening ≡ s.opening = cc in
      let first : z.number ≡ s.first = cc in
      let sound : malformed_step (trace_of z) ≡ None = q.sound 0 z (omega arith) in
      record {
        front = [];
        torn = z;
        back = zs;
        parts = refl;
        numbered = first ∙ sym at;
        before = subst BlocksJoin (sym (append-nil bs)) was.extent.join;
        there = λ joined.
            let meets = Meets-from_join e (extent_of_block z) bs (z ∷ []) was.extent (IsExtent-one_block z sound)
            (subst (λ (xs : List Block). BlocksJoin (xs ++ z ∷ [])) (append-nil bs) joined) in
            other (sym same ∙ (meets.opened ∙ sym was.left));
      }

  -- the case of a step that isn't later than those before it: the files `front` have no step, and `one` has that step
  module _ (a : Block) (rest front back : List Block) (one : Block) (first : bs ≡ a ∷ rest)
      (parts : ys ≡ front ++ one ∷ back) (still : joined_steps front ≡ []) where
    -- the files before `one` join: `front` has no step that could be early
    BlocksJoin-still_files : GoOn (number_after a.number rest) (left_after (left_by a) rest) None ys
        → BlocksJoin (bs ++ front)
    BlocksJoin-still_files g =
        let split_joins = GoOn-split front (one ∷ back) (number_after a.number rest) (left_after (left_by a) rest) None
        (subst (GoOn (number_after a.number rest) (left_after (left_by a) rest) None) parts g) in
        let t = option_or (last_time (joined_steps rest)) (last_time a.steps) in
        let later : is_later_time t (first_time (joined_steps front)) ≡ true = rw still (is_later_time-none t) in
        let j = subst BlocksJoin first was.extent.join in
        rw first
        (BlocksJoin-from_GoOn a (rest ++ front)
        (GoOn-append rest front a.number (left_by a) (last_time a.steps) (GoOn-of_joined a rest j)
        (GoOn-after_time front (number_after a.number rest) (left_after (left_by a) rest) t split_joins.0 later)))

    -- the files `front` add no steps
    joined_steps-still_files : joined_steps (rest ++ front) ≡ joined_steps rest
    joined_steps-still_files = joined_steps-append rest front ∙ (ap (λ (x : List Step). joined_steps rest ++ x) still
        ∙ append-nil (joined_steps rest))

    -- the last time before `one` is the last one of the files bs
    last_time-still_files : option_or (last_time (joined_steps (rest ++ front))) (last_time a.steps) ≡ e.ends
    last_time-still_files =
        ap (λ (x : List Step). option_or (last_time x) (last_time a.steps)) joined_steps-still_files
        ∙ (sym (last_time-append a.steps (joined_steps rest))
        ∙ (ap (λ (x : List Block). last_time (joined_steps x)) (sym first) ∙ sym was.extent.ends))

    -- if the first step of `one` isn't later than the last step before it, `one` doesn't follow the files before it
    not_joined-early_step : (last : ℕ) (start : ℕ) → e.ends ≡ Some last → first_time one.steps ≡ Some start
        → start ≤ last
        → BlocksJoin ((bs ++ front) ++ one ∷ []) → ⊥
    not_joined-early_step last start ends starts early joined =
        let j : BlocksJoin (((a ∷ rest) ++ front) ++ one ∷ [])
        = subst (λ (x : List Block). BlocksJoin ((x ++ front) ++ one ∷ [])) first joined in
        let g = GoOn-split (rest ++ front) (one ∷ []) a.number (left_by a) (last_time a.steps)
        (GoOn-of_joined a ((rest ++ front) ++ one ∷ []) j) in
        let t = option_or (last_time (joined_steps (rest ++ front))) (last_time a.steps) in
        let later : is_later_time (Some last) (Some start) ≡ true =
        subst (λ (u : Option ℕ). is_later_time u (Some start) ≡ true) (last_time-still_files ∙ ends)
        (subst (λ (u : Option ℕ). is_later_time t u ≡ true) starts g.1.2) in
        absurd (omega (arith, ltb-true last start later, early))

  -- if the segment opens with the levels before it, its files follow those before it in all but the time
  GoOn-segment : (a : Block) (rest : List Block) → bs ≡ a ∷ rest → s.opening ≡ j.left → (zs : List Block)
      → IsExtent (extent_of s) zs → GoOn (number_after a.number rest) (left_after (left_by a) rest) None zs
  GoOn-segment a rest first same [] q = tt
  GoOn-segment a rest first same (z ∷ zs) q =
      let was' : IsExtent e (a ∷ rest) = subst (IsExtent e) first was.extent in
      let number : Some (number_after a.number rest) ≡ Some e.last = sym (number_after-last a rest) ∙ was'.last in
      let left : Some (left_after (left_by a) rest) ≡ Some e.left = sym (left_after-last a rest) ∙ was'.left in
      let same_number : Some z.number ≡ Some s.first = q.first in
      let opens : Some z.opening ≡ Some s.opening = q.opening in
      let last : number_after a.number rest ≡ e.last = cc in
      let lines : left_after (left_by a) rest ≡ e.left = cc in
      let begins : z.number ≡ s.first = cc in
      let opening : z.opening ≡ s.opening = cc in (
        begins ∙ (n ∙ ap (λ i. i + 1) (sym last)),
        opening ∙ (same ∙ (was.left ∙ sym lines)),
        refl,
        subst (λ t. GoOn z.number (left_by z) t zs) (sym (option_or-none (last_time z.steps)))
            (GoOn-of_joined z zs q.join),
      )

  -- if the segment opens with the levels before it, and its first step is early, the file with that step is torn
  IsTornIn-early_step : (a : Block) (rest : List Block) → bs ≡ a ∷ rest → s.opening ≡ j.left
      → IsEarlyFile j.times s.times k
      → IsTornIn bs ys k
  IsTornIn-early_step a rest first same early =
      let number : Some early.first.number ≡ first_with_step ys
      = sym (ap (option_map (λ (t : SegmentTimes). t.number)) early.behind) ∙ p.numbered in
      let r = SplitAtFirstStep-of_number ys early.first.number number in
      let ends : e.ends ≡ Some early.last.last = sym was.ends ∙ ap ends_at early.there in
      let starts : first_time r.one.steps ≡ Some early.first.first
      = r.starts ∙ (sym p.extent.starts ∙ ap starts_at early.behind) in
      record {
        front = r.front;
        torn = r.one;
        back = r.back;
        parts = r.parts;
        numbered = r.numbered ∙ sym early.numbered;
        before = BlocksJoin-still_files a rest r.front r.back r.one first r.parts r.still
            (GoOn-segment a rest first same ys p.extent);
        there = not_joined-early_step a rest r.front r.back r.one first r.parts r.still early.last.last
            early.first.first ends
            starts
            early.early;
      }

  -- the file that `IsTornAt` says of the segment is the first of its files that doesn't follow those before it
  pub IsTornIn-torn_at : IsTornAt j.left j.times s.first s.opening s.times k → IsTornIn bs ys k
  IsTornIn-torn_at (inl t) = IsTornIn-other_levels ys p.extent t.0 t.1
  IsTornIn-torn_at (inr t) = by_files bs refl
    where
      by_files : (zs : List Block) → bs ≡ zs → IsTornIn bs ys k
      by_files [] f =
          let none : None ≡ Some e.first = rw f at was.extent.first in
          absurd (cc)
      by_files (a ∷ rest) f = IsTornIn-early_step a rest f t.0 t.1
