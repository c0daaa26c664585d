-- What holds of each stretch of a recording: where it starts and ends, and that its control lines are known.
use Rattle.std.proofs.Common.{◌≡◌, ℕ, ◌+◌, ◌<◌, ◌≤◌, Bool, true, false, not, ◌&&◌, refl, ◌∙◌, ap, arith}
use Rattle.vme_trace.specs.LineNumbers.{line_count, is_control}
use Rattle.vme_trace.specs.Levels.{level_at, is_known, is_idle, is_lost, is_reset, loses_control}
use Rattle.vme_trace.specs.Trace.{Trace, levels_at, last_instant}
use Rattle.vme_trace.specs.Judged.{IsStretchOf, Stretch, is_idle_at, is_reset_at, loses_control_at}
use Rattle.vme_trace.proofs.JudgedStretches.{ends_within, stretch_reads, stretch_unlost, stretch_unreset}
use Rattle.vme_trace.proofs.JudgedStretches.{starts_before_end}
use Rattle.vme_trace.proofs.JudgedStretches.{is_idle_at-stretch_start}
use Rattle.vme_trace.proofs.OpenTransfers.{ReadsStrobes}
use Rattle.vme_trace.proofs.Ranges.{any-fails}
use Rattle.vme_trace.proofs.StretchEnds.{slots_at}

-- the stretch starts at an idle instant and is within the recording; at each of its instants
-- every control line is known
pub record IsStretch (t : Trace) (stretch : Stretch) : Type 0 where
  pub idle : is_idle (levels_at t stretch.start) ≡ true
  pub within : stretch.start ≤ last_instant t
  pub first : stretch.start < stretch.end
  pub last : stretch.end ≤ last_instant t + 1
  pub known : (n l : ℕ) → stretch.start ≤ n → n < stretch.end → l < line_count → is_control t.opening.slots l ≡ true
      → is_known (level_at (levels_at t n) l) ≡ true
  pub reads : ReadsStrobes t stretch

-- b is true if a is true and c false, and `a && not b && not c` is false
is_known-of_unlost : (a b c : Bool) → (a && not b && not c) ≡ false → a ≡ true → c ≡ false → b ≡ true
is_known-of_unlost true true c h e f = refl
is_known-of_unlost true false true h e f = absurd (cc)
is_known-of_unlost true false false h e f = absurd (cc)
is_known-of_unlost false b c h e f = absurd (cc)

module _ (t : Trace) (stretch : Stretch) (is : IsStretchOf t stretch) where
  -- a control line is known at each instant of the stretch but its end
  is_known-at : (n l : ℕ) → stretch.start ≤ n → n < stretch.end → l < line_count → is_control t.opening.slots l ≡ true
      → is_known (level_at (levels_at t n) l) ≡ true
  unfolding loses_control loses_control_at is_reset_at
  is_known-at n l from before exists control =
      is_known-of_unlost (is_control (levels_at t n).slots l) (is_known (level_at (levels_at t n) l))
      (is_reset (levels_at t n))
      (any-fails (is_lost (levels_at t n)) 0 line_count l (stretch_unlost t stretch n is from before) (omega arith)
      exists)
      (ap (λ k. is_control k l) (slots_at t n) ∙ control)
      (stretch_unreset t stretch n is from before)

  -- the bus is idle at the start of the stretch
  is_idle-start : is_idle (levels_at t stretch.start) ≡ true
  unfolding is_idle_at
  is_idle-start = is_idle_at-stretch_start t stretch is

  -- each stretch of a recording has the parts of `IsStretch`
  pub stretch_facts : IsStretch t stretch
  stretch_facts =
      record {
        idle = is_idle-start;
        within = is.within;
        first = starts_before_end t stretch is;
        last = ends_within t stretch is;
        known = is_known-at;
        reads = stretch_reads t stretch is;
      }
