-- The marks after a reset don't change the rows of those before it.
use Rattle.std.proofs.Common.{◌≡◌, ℕ, Bool, false, ◌||◌, List, [], ◌∷◌, ◌++◌, refl, sym, ◌∙◌, ap, Option, Some, None}
use Rattle.std.proofs.Common.{cond, append_assoc}
use Rattle.std.specs.Option.{option_map_or, option_to_list}
use Rattle.vme_listing.specs.declared.row.Direction.{Direction}
use Rattle.vme_listing.specs.declared.row.Row.TheVariants as row
use Rattle.vme_monitor.specs.Run.{mark_at}
use Rattle.vme_monitor.specs.declared.mark.MarkKind.{MarkKind}
use Rattle.vme_monitor.specs.declared.mark.MarkKind.TheVariants as kind
use Rattle.vme_monitor.specs.declared.mark.Mark.{Mark}
use Rattle.vme_summary.specs.MarkedRows.{answer_of, cycle_after, first_instant, is_close, is_cycle_end, is_reset}
use Rattle.vme_summary.specs.MarkedRows.{is_tenure_end, is_transfer, marked_answer, marked_cycle, marked_direction}
use Rattle.vme_summary.specs.MarkedRows.{marked_transfer, row_of, rows_of}

-- a reset at w, and the marks after it
module _ (w : ℕ) (rest : List Mark) where
  -- some marks, then the reset at w, and then the rest
  abbrev with_reset : List Mark → List Mark
  with_reset ms = ms ++ mark_at w kind.Reset ∷ rest

  -- a search for a kind other than a reset finds nothing after the reset
  first_instant-with_reset : (is : MarkKind → Bool) → is kind.Reset ≡ false → (ms : List Mark)
      → first_instant is (with_reset ms)
      ≡ first_instant is ms
  first_instant-with_reset is h [] = rw h refl
  first_instant-with_reset is h (m ∷ ms) = ap (λ o. cond (is m.kind) (Some m.instant) (cond (is_reset m.kind) None o))
      (first_instant-with_reset is h ms)

  -- the row of a transfer before the reset doesn't depend on what comes after it
  marked_transfer-with_reset : (i : ℕ) (d : Direction) (close latest : Option ℕ) (ms : List Mark)
      → marked_transfer i d close latest
      (with_reset ms) ≡ marked_transfer i d close latest ms
  marked_transfer-with_reset i d close latest [] = refl
  marked_transfer-with_reset i d close latest (m ∷ ms) =
      ap (λ r. option_map_or (marked_answer i d close m.instant latest) (answer_of m.kind)
      (cond (is_transfer m.kind || is_reset m.kind) (row.PendingTransfer i d) r))
      (marked_transfer-with_reset i d close (cycle_after latest m) ms)

  -- the row of a mark before the reset doesn't depend on what comes after it
  row_of-with_reset : (latest : Option ℕ) (i : ℕ) (ms : List Mark) (k : MarkKind) → row_of latest i (with_reset ms) k
      ≡ row_of latest i ms k
  row_of-with_reset latest i ms kind.Open =
      ap (λ o. Some (row.OpenTenure i o)) (first_instant-with_reset is_tenure_end refl ms)
  row_of-with_reset latest i ms (kind.Tenure level slot) = ap (λ o. Some (row.Tenure i level slot o))
      (first_instant-with_reset is_tenure_end refl ms)
  row_of-with_reset latest i ms (kind.Cycle c modifier address) = ap (λ o. Some (marked_cycle i modifier address o c))
      (first_instant-with_reset is_cycle_end refl ms)
  row_of-with_reset latest i ms (kind.Transfer write) =
      ap (λ o. Some (marked_transfer i (marked_direction write) o latest (with_reset ms)))
      (first_instant-with_reset is_close refl ms)
      ∙ ap Some (marked_transfer-with_reset i (marked_direction write) (first_instant is_close ms) latest ms)
  row_of-with_reset latest i ms k = refl

  -- the rows of some marks, the reset and the rest are those of the marks, that of the reset, and those of the rest,
  -- with no latest cycle
  pub rows_of-with_reset : (latest : Option ℕ) (ms : List Mark) → rows_of latest (with_reset ms) ≡ rows_of latest ms
      ++ row.Reset w ∷ rows_of None rest
  rows_of-with_reset latest [] = refl
  rows_of-with_reset latest (m ∷ ms) =
      ap (λ o. option_to_list o ++ rows_of (cycle_after latest m) (with_reset ms))
      (row_of-with_reset latest m.instant ms m.kind)
      ∙ (ap (λ r. option_to_list (row_of latest m.instant ms m.kind) ++ r)
      (rows_of-with_reset (cycle_after latest m) ms)
      ∙ sym (append_assoc (option_to_list (row_of latest m.instant ms m.kind)) (rows_of (cycle_after latest m) ms)
      (row.Reset w ∷ rows_of None rest)))
