-- The data in the rows of writes are the levels of the data lines.
use Rattle.std.proofs.Common.{◌≡◌, ℕ, ◌+◌, ◌-◌, ◌<◌, ◌≤◌, Bool, true, false, ◌&&◌, not, if◌then◌else◌, refl, sym, ◌∙◌}
use Rattle.std.proofs.Common.{ap}
use Rattle.std.proofs.Common.{arith, All, inl, inr, ◌⊎◌}
use Rattle.std.specs.Prelude.{Option, None, Some, ◌==◌, nat_le}
use Rattle.std.proofs.lemmas.Bool.Decides.{nat_tests}
use Rattle.std.proofs.lemmas.Bool.{false_from_ne_true, eq-eqb, leb-true}
use Rattle.std.proofs.Math.Bool.{not-not}
use Rattle.vme_trace.specs.Instants.{any, least}
use Rattle.vme_trace.specs.Lanes.{lanes_at}
use Rattle.vme_trace.specs.Trace.{Trace, levels_at}
use Rattle.vme_trace.specs.Judged.{Stretch, IsStretchOf}
use Rattle.vme_trace.specs.Transfers.{strobes_high, transfer_starts, lasts, answers, is_write, data_at}
use Rattle.vme_trace.specs.Cycles.{cycle_of}
use Rattle.vme_trace.proofs.Ranges.{any-fails, least-found, clash}
use Rattle.vme_listing.specs.Recorded.{answer_line, answered_row, rows_before, transfer_row}
use Rattle.vme_listing.specs.declared.row.Direction.TheVariants.{Read, Write}
use Rattle.vme_listing.specs.declared.row.Row.TheVariants.{Transfer}
use Rattle.vme_split.specs.Split.{ShowsData}
use Rattle.vme_split.proofs.Lists.{same_or_after}
use Rattle.vme_split.proofs.Unbroken.{IsUnbroken}
use Rattle.vme_split.proofs.Transfers.{transfer_starts-after}
use Rattle.vme_split.proofs.Answering.{strobes_high-at_transfer}
use Rattle.vme_split.proofs.EachRow.{All-rows_before, All-tenure_rows, All-cycle_rows_any, All-transfer_rows}

-- the first part of a conjunction of three that holds is true
pub and-first_of_three : (a b c : Bool) → (a && b && c) ≡ true → a ≡ true
and-first_of_three true b c h = refl
and-first_of_three false b c h = absurd (cc)

-- the second part of a conjunction of three that holds is true
and-second_of_three : (a b c : Bool) → (a && b && c) ≡ true → b ≡ true
and-second_of_three true true c h = refl
and-second_of_three true false c h = absurd (cc)
and-second_of_three false b c h = absurd (cc)

-- the third part of a conjunction of three that holds is true
and-third_of_three : (a b c : Bool) → (a && b && c) ≡ true → c ≡ true
and-third_of_three true true true h = refl
and-third_of_three true true false h = absurd (cc)
and-third_of_three true false c h = absurd (cc)
and-third_of_three false b c h = absurd (cc)

-- a number isn't equal to a greater one
eqb-later : (i r : ℕ) → i + 1 ≤ r → (i == r) ≡ false
eqb-later i r h = grind (arith, nat_tests)

module _ (t : Trace) (stretch : Stretch) (is : IsStretchOf t stretch) (end : ℕ) (within : stretch.start < end)
    (most : end ≤ stretch.end)
    (unbroken : IsUnbroken t stretch end) where
  -- the transfer that starts at i and lasts at r
  module _ (i r : ℕ) (before : i < end) (starts : transfer_starts t stretch i ≡ true)
      (there : lasts t stretch i r ≡ true)
    where
      -- a transfer lasts only from its start on
      lasts-order : i ≤ r
      unfolding lasts
      lasts-order = leb-true i r (and-first_of_three (nat_le i r) _ _ there)

      -- at no instant after its start and before r both strobes are high
      strobes_high-none : any (strobes_high t) (i + 1) r ≡ false
      unfolding lasts
      strobes_high-none =
          sym (not-not (any (strobes_high t) (i + 1) r)) ∙ ap not (and-third_of_three (nat_le i r) _ _ there)

      -- where a transfer starts at r, both strobes were high before
      strobes_high-before : transfer_starts t stretch r ≡ true → strobes_high t (r - 1) ≡ true
      unfolding transfer_starts
      strobes_high-before h = and-second_of_three _ (strobes_high t (r - 1)) _ h

      -- no other transfer starts at r, in the transfer that starts at i
      transfer_starts-none_later : i + 1 ≤ r → transfer_starts t stretch r ≡ true → ⊥
      transfer_starts-none_later later h = by (same_or_after i (r - 1) (omega (arith, later)))
        where
          by : (i ≡ r - 1) ⊎ (i + 1 ≤ r - 1) → ⊥
          by (inl same) = clash (strobes_high t i) (ap (strobes_high t) same ∙ strobes_high-before h)
              (strobes_high-at_transfer t stretch is end within most unbroken i
              (transfer_starts-after t stretch i starts) starts before)
          by (inr more) = clash (strobes_high t (r - 1)) (strobes_high-before h)
              (any-fails (strobes_high t) (i + 1) r (r - 1) strobes_high-none more (omega (arith, later)))

      -- a transfer starts at r, in the transfer that starts at i, just if r is i
      transfer_starts-same : transfer_starts t stretch r ≡ (i == r)
      transfer_starts-same = by (same_or_after i r lasts-order)
        where
          by : (i ≡ r) ⊎ (i + 1 ≤ r) → transfer_starts t stretch r ≡ (i == r)
          by (inl same) = ap (transfer_starts t stretch) (sym same) ∙ (starts ∙ sym (eq-eqb i r same))
          by (inr later) = false_from_ne_true (transfer_starts t stretch r) (transfer_starts-none_later later)
              ∙ sym (eqb-later i r later)

      -- the row of the transfer, answered at r in a cycle, shows its data
      ShowsData-answered : (c : ℕ) → ShowsData t (answered_row t stretch end i r (Some c))
      unfolding data_at
      ShowsData-answered c = by (is_write t stretch i)
        where
          by : (b : Bool) → ShowsData t (Transfer (if b then Write else Read) (answer_line t stretch end r) i c r
              (least (strobes_high t) (i + 1) end) (if b then Some (data_at t stretch r) else None))
          by true = ap (λ (b : Bool). lanes_at (levels_at t (if b then r else r - 1))) transfer_starts-same
          by false = refl

      -- the row of the transfer, answered at r in a cycle or in none, shows its data
      ShowsData-answered_row : (o : Option ℕ) → ShowsData t (answered_row t stretch end i r o)
      ShowsData-answered_row None = tt
      ShowsData-answered_row (Some c) = ShowsData-answered c

  -- a transfer lasts at its answer
  lasts-answers : (i r : ℕ) → answers t stretch i r ≡ true → lasts t stretch i r ≡ true
  unfolding answers
  lasts-answers i r h = and-first_of_three (lasts t stretch i r) _ _ h

  -- the row of a transfer shows its data
  ShowsData-transfer_row : (i : ℕ) → i < end → transfer_starts t stretch i ≡ true → (o : Option ℕ)
      → least (answers t stretch i) i end
      ≡ o
      → ShowsData t (transfer_row t stretch end i o)
  ShowsData-transfer_row i before starts None e = tt
  ShowsData-transfer_row i before starts (Some r) e =
      ShowsData-answered_row i r before starts (lasts-answers i r (least-found (answers t stretch i) i end r e).holds)
      (cycle_of t stretch r)

  -- each row of a transfer shows its data
  pub All-ShowsData : All (ShowsData t) (rows_before t stretch end end)
  All-ShowsData = All-rows_before (ShowsData t) t stretch end
      (λ i before. All-tenure_rows (ShowsData t) t stretch end i (λ e. tt) (λ starts level slot e l s. tt))
      (All-cycle_rows_any (ShowsData t) t stretch end (λ i c m a e. tt) (λ i m e. tt) (λ i l e. tt))
      (λ i before. All-transfer_rows (ShowsData t) t stretch end i
      (λ starts. ShowsData-transfer_row i before starts (least (answers t stretch i) i end) refl))
      end (omega arith)
