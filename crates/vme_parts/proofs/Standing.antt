-- A segment joined from two stands for the files of both.
use Rattle.std.proofs.Common.{◌≡◌, ℕ, ◌+◌, ◌<◌, ◌≤◌, ◌^◌, Bool, List, ◌++◌, length, refl, ap, sym, subst, ◌∙◌}
use Rattle.std.proofs.Common.{arith, length-append, Option, Some, None}
use Rattle.std.specs.Prelude.{find, not}
use Rattle.std.specs.Option.{option_map, option_or}
use Rattle.std.proofs.lemmas.List.Folds.{find-append}
use Rattle.std.proofs.lemmas.Nat.{pow-add, pow_pos}
use Rattle.vme_trace.specs.Blocks.{joined_steps}
use Rattle.vme_trace.specs.Trace.{levels_after}
use Rattle.vme_trace.specs.declared.block.Block.{Block}
use Rattle.vme_monitor.specs.KnownRules.{stateless_place}
use Rattle.vme_monitor.specs.OverStretches.{phase_place}
use Rattle.vme_dtb.specs.MemoryNumbers.{memory_place}
use Rattle.vme_dtb.specs.HoldingNumbers.{holding_place}
use Rattle.vme_chains.specs.GrantMemory.{arbitration_place}
use Rattle.vme_chains.specs.AcknowledgeRules.{acknowledge_memory_place}
use Rattle.vme_summary.specs.Extents.{IsExtent, Meets, joined_extent}
use Rattle.vme_summary.specs.Runs.{known_run, handshake_run, stability_run, grant_run, acknowledge_run}
use Rattle.vme_summary.specs.declared.extent.Extent.{Extent}
use Rattle.vme_summary.proofs.Chains.{joined_steps-append}
use Rattle.vme_summary.proofs.Extents.{IsExtent-joined, levels_after-extent}
use Rattle.vme_part_format.specs.Tables.{SegmentValue, last_of}
use Rattle.vme_part_format.specs.declared.segment.SegmentTimes.{SegmentTimes}
use Rattle.vme_parts.specs.Joined.{IsOfBoth, joined_times}
use Rattle.vme_parts.specs.Progress.{HaveTooManySteps}
use Rattle.vme_parts.specs.Stands.{SegmentStandsFor, extent_of, first_with_step, is_empty}
use Rattle.vme_parts.proofs.Runs.{IsRun-acknowledge, IsRun-grant, IsRun-handshake, IsRun-known, IsRun-stability}
use Rattle.vme_parts.proofs.Runs.{AgreesWithRuns-of_both}

-- 2 ^ (k + 1) is twice 2 ^ k
pub pow-next : (k : ℕ) → 2 ^ (k + 1) ≡ 2 ^ k + 2 ^ k
pow-next k = omega (arith, pow-add 2 k 1)

-- a segment of the next order, from the same first file on, ends with the last file of the second half
last_of-both : (first order second : ℕ) → second ≡ last_of first order + 1
    → last_of first (order + 1) ≡ last_of second order
last_of-both first order second e = omega (arith, pow-next order, pow_pos order)

-- the first time of joined times is that of a, or else that of b
pub first_time-joined_times : (a b : Option SegmentTimes)
    → option_map (λ (t : SegmentTimes). t.first) (joined_times a b)
    ≡ option_or (option_map (λ (t : SegmentTimes). t.first) a) (option_map (λ (t : SegmentTimes). t.first) b)
first_time-joined_times None b = refl
first_time-joined_times (Some a) None = refl
first_time-joined_times (Some a) (Some b) = refl

-- the last time of joined times is that of b, or else that of a
pub last_time-joined_times : (a b : Option SegmentTimes) → option_map (λ (t : SegmentTimes). t.last) (joined_times a b)
    ≡ option_or (option_map (λ (t : SegmentTimes). t.last) b) (option_map (λ (t : SegmentTimes). t.last) a)
last_time-joined_times None None = refl
last_time-joined_times None (Some b) = refl
last_time-joined_times (Some a) None = refl
last_time-joined_times (Some a) (Some b) = refl

-- the number in joined times is that of a, or else that of b
pub number-joined_times : (a b : Option SegmentTimes) → option_map (λ (t : SegmentTimes). t.number) (joined_times a b)
    ≡ option_or (option_map (λ (t : SegmentTimes). t.number) a) (option_map (λ (t : SegmentTimes). t.number) b)
number-joined_times None b = refl
number-joined_times (Some a) None = refl
number-joined_times (Some a) (Some b) = refl

-- the number of the block a, or else of b
number-option_or : (a b : Option Block) → option_map (λ (k : Block). k.number) (option_or a b)
    ≡ option_or (option_map (λ (k : Block). k.number) a) (option_map (λ (k : Block). k.number) b)
number-option_or None b = refl
number-option_or (Some a) b = refl

-- the first file of x ++ y that has a step is that of x, or else that of y
first_with_step-append : (x y : List Block) → first_with_step (x ++ y)
    ≡ option_or (first_with_step x) (first_with_step y)
first_with_step-append x y =
    let has_step : Block → Bool = λ b. not (is_empty b.steps) in
    ap (option_map (λ (k : Block). k.number)) (find-append has_step x y)
    ∙ number-option_or (find has_step x) (find has_step y)

-- the segment r is joined from s and t
module _ (s t r : SegmentValue) (b : IsOfBoth s t r) where
  -- the extent of r is joined from those of s and t
  extent_of-both : extent_of r ≡ joined_extent (extent_of s) (extent_of t)
  extent_of-both =
      let last : last_of s.first (s.order + 1) ≡ last_of t.first t.order
      = rw b.same_order (last_of-both s.first s.order t.first b.meets.numbered) in
      rw (
        b.first,
        b.order,
        b.opening,
        b.left,
        b.times,
        last,
        first_time-joined_times s.times t.times,
        last_time-joined_times s.times t.times,
      ) refl

  -- s stands for the files x, and t for the files y
  module _ (listing : Bool) (x y : List Block) (p : SegmentStandsFor listing s x) (q : SegmentStandsFor listing t y)
    where
      -- the steps of the files x ++ y are those of x and then those of y
      joined_steps-both : joined_steps (x ++ y) ≡ joined_steps x ++ joined_steps y
      joined_steps-both = joined_steps-append x y

      -- t opens with the levels after the steps of s
      opens : t.opening ≡ levels_after s.opening (joined_steps x)
      opens = b.meets.opened ∙ sym (levels_after-extent (extent_of s) x p.extent)

      -- the steps of both are few enough for 64 bits
      fits : length (joined_steps x) + length (joined_steps y) < 2 ^ 64
      fits = omega (arith, b.counts, b.steps, p.counted, q.counted)

      -- r stands for the files x ++ y
      pub SegmentStandsFor-both : SegmentStandsFor listing r (x ++ y)
      SegmentStandsFor-both =
          record {
            extent = subst (λ (e : Extent). IsExtent e (x ++ y)) (sym extent_of-both)
                (IsExtent-joined (extent_of s) (extent_of t) x y p.extent q.extent b.meets);
            as_many =
                length-append x y
                ∙ omega (
                  arith,
                  p.as_many,
                  q.as_many,
                  b.order,
                  ap (λ k. 2 ^ k) b.order,
                  ap (λ k. 2 ^ k) b.same_order,
                  pow-next s.order,
                );
            numbered =
                ap (option_map (λ (k : SegmentTimes). k.number)) b.times
                ∙ (number-joined_times s.times t.times
                ∙ rw (p.numbered, q.numbered) (sym (first_with_step-append x y)));
            counted = rw (joined_steps-both, length-append, ← p.counted, ← q.counted) b.steps;
            known = rw (b.opening, joined_steps-both)
                (AgreesWithRuns-of_both known_run IsRun-known (phase_place stateless_place) listing 4 s.opening
                t.opening (joined_steps x) (joined_steps y) s.known t.known r.known opens fits
                (rw (← p.counted) b.known) p.known q.known);
            handshake = rw (b.opening, joined_steps-both)
                (AgreesWithRuns-of_both handshake_run IsRun-handshake
                (phase_place memory_place) listing 147 s.opening t.opening
                (joined_steps x) (joined_steps y) s.handshake t.handshake r.handshake opens fits
                (rw (← p.counted) b.handshake) p.handshake q.handshake);
            stability = rw (b.opening, joined_steps-both)
                (AgreesWithRuns-of_both stability_run IsRun-stability
                (phase_place holding_place) listing 13 s.opening t.opening
                (joined_steps x) (joined_steps y) s.stability t.stability r.stability opens fits
                (rw (← p.counted) b.stability) p.stability q.stability);
            grant = rw (b.opening, joined_steps-both)
                (AgreesWithRuns-of_both grant_run IsRun-grant (phase_place arbitration_place) listing 35 s.opening
                t.opening
                (joined_steps x) (joined_steps y) s.grant t.grant r.grant opens fits (rw (← p.counted) b.grant) p.grant
                q.grant);
            acknowledge = rw (b.opening, joined_steps-both)
                (AgreesWithRuns-of_both acknowledge_run IsRun-acknowledge
                (phase_place acknowledge_memory_place) listing 11 s.opening
                t.opening (joined_steps x) (joined_steps y) s.acknowledge t.acknowledge r.acknowledge opens fits
                (rw (← p.counted) b.acknowledge) p.acknowledge q.acknowledge);
          }

-- if the steps of s and t, which continues where s ends, are too many together, the files of both have too many steps
pub HaveTooManySteps-both : (s t : SegmentValue) → Meets (extent_of s) (extent_of t) → 2 ^ 64 ≤ s.steps + t.steps
    → (listing : Bool) (x y : List Block) → SegmentStandsFor listing s x → SegmentStandsFor listing t y
    → HaveTooManySteps (x ++ y)
HaveTooManySteps-both s t meets many listing x y p q = (
  (IsExtent-joined (extent_of s) (extent_of t) x y p.extent q.extent meets).join,
  rw (joined_steps-append x y, length-append, ← p.counted, ← q.counted) many,
)
