-- The marks (events of the bus) of a stretch before an instant are those of the instants before it.
use Rattle.std.proofs.Common.{◌≡◌, ℕ, zero, suc, ◌+◌, ◌-◌, ◌<◌, ◌≤◌, Bool, true, false, ◌&&◌, List, [], ◌∷◌, ◌++◌, map}
use Rattle.std.proofs.Common.{refl, sym, ◌∙◌, ap, arith, cond, append_assoc, append-nil}
use Rattle.std.specs.Prelude.{nat_lt, nat_le}
use Rattle.std.proofs.lemmas.Bool.{le-ltb, lt-leb, lt-ltb}
use Rattle.vme_trace.specs.Judged.{Stretch}
use Rattle.vme_monitor.specs.Run.{mark_at, kinds_of}
use Rattle.vme_monitor.specs.Shows.{marks_on, marks_until}
use Rattle.vme_monitor.specs.declared.mark.MarkKind.{MarkKind}
use Rattle.vme_monitor.specs.declared.mark.StepMarks.{StepMarks}
use Rattle.vme_monitor.specs.declared.mark.Mark.{Mark}
use Rattle.vme_summary.specs.MarkedRows.{marks_before}

-- three tests fail if the second fails
and-second_fails : (a b c : Bool) → b ≡ false → (a && b && c) ≡ false
and-second_fails true b c e = rw e refl
and-second_fails false b c e = refl

-- three tests fail if the third fails
and-third_fails : (a b c : Bool) → c ≡ false → (a && b && c) ≡ false
and-third_fails true true c e = e
and-third_fails true false c e = refl
and-third_fails false b c e = refl

-- marks of an instant j before the end are kept
marks_before-instant_before : (end j : ℕ) (ks : List MarkKind) (ms : List Mark) → j < end
    → marks_before end (map (mark_at j) ks ++ ms)
    ≡ map (mark_at j) ks ++ marks_before end ms
marks_before-instant_before end j [] ms h = refl
marks_before-instant_before end j (k ∷ ks) ms h =
    rw (lt-ltb j end h) (ap (λ x. mark_at j k ∷ x) (marks_before-instant_before end j ks ms h))

-- marks of an instant j from the end on aren't kept
marks_before-instant_after : (end j : ℕ) (ks : List MarkKind) → end ≤ j → marks_before end (map (mark_at j) ks) ≡ []
marks_before-instant_after end j [] h = refl
marks_before-instant_after end j (k ∷ ks) h = rw (le-ltb j end h) refl

-- if none of the last marks ys is kept, the kept marks are those of xs
pub marks_before-first_part : (end : ℕ) (xs ys : List Mark) → marks_before end ys ≡ [] → marks_before end (xs ++ ys)
    ≡ marks_before end xs
marks_before-first_part end [] ys h = h
marks_before-first_part end (x ∷ xs) ys h =
    ap (λ r. cond (nat_lt x.instant end) (x ∷ r) []) (marks_before-first_part end xs ys h)

-- a stretch, at whose instants `shown` is shown
module _ (stretch : Stretch) (shown : ℕ → StepMarks) where
  -- what is shown at an instant before the end, if it is judged, is kept
  marks_before-shown_before : (end j : ℕ) (c : Bool) (ms : List Mark) → j < end → marks_before end
      (cond c (map (mark_at j) (kinds_of (shown j))) [] ++ ms) ≡ cond c (map (mark_at j) (kinds_of (shown j))) []
      ++ marks_before end ms
  marks_before-shown_before end j true ms h = marks_before-instant_before end j (kinds_of (shown j)) ms h
  marks_before-shown_before end j false ms h = refl

  -- what is shown at an instant from the end on isn't kept
  marks_before-shown_after : (end j : ℕ) (c : Bool) → end ≤ j
      → marks_before end (cond c (map (mark_at j) (kinds_of (shown j))) []) ≡ []
  marks_before-shown_after end j true h = marks_before-instant_after end j (kinds_of (shown j)) h
  marks_before-shown_after end j false h = refl

  -- the marks up to an instant before the end, and of the later ones those before the end, are kept
  pub marks_until-kept : (end n : ℕ) (ms : List Mark) → n ≤ end → marks_before end (marks_until stretch shown n ++ ms)
      ≡ marks_until stretch shown n ++ marks_before end ms
  marks_until-kept end zero ms h = refl
  marks_until-kept end (suc n) ms h =
      ap (marks_before end) (append_assoc (marks_until stretch shown n) (marks_on stretch shown n) ms)
      ∙ (marks_until-kept end n (marks_on stretch shown n ++ ms) (omega arith)
      ∙ (ap (λ x. marks_until stretch shown n ++ x) (marks_before-shown_before end n
      (nat_lt 0 n && nat_le stretch.start n && nat_le n stretch.end)
      ms (omega arith))
      ∙ sym (append_assoc (marks_until stretch shown n) (marks_on stretch shown n) (marks_before end ms))))

  -- the marks up to the end are all kept
  pub marks_until-all_kept : (end : ℕ) → marks_before end (marks_until stretch shown end)
      ≡ marks_until stretch shown end
  marks_until-all_kept end = ap (marks_before end) (sym (append-nil (marks_until stretch shown end)))
      ∙ (marks_until-kept end end [] (omega arith) ∙ append-nil (marks_until stretch shown end))

  -- of the marks up to k instants after the end, those before the end are the ones up to it
  marks_until-cut_after : (end k : ℕ) → marks_before end (marks_until stretch shown (k + end))
      ≡ marks_until stretch shown end
  marks_until-cut_after end zero = ap (λ n. marks_before end (marks_until stretch shown n)) none
      ∙ marks_until-all_kept end
    where
      none : 0 + end ≡ end
      none = omega arith
  marks_until-cut_after end (suc k) =
      ap (λ n. marks_before end (marks_until stretch shown n)) suc_moved
      ∙ (marks_before-first_part end (marks_until stretch shown (k + end)) (marks_on stretch shown (k + end))
      (marks_before-shown_after end (k + end)
      (nat_lt 0 (k + end) && nat_le stretch.start (k + end) && nat_le (k + end) stretch.end)
      (omega arith))
      ∙ marks_until-cut_after end k)
    where
      suc_moved : suc k + end ≡ suc (k + end)
      suc_moved = omega arith

  -- of the marks up to an instant from the end on, those before the end are the ones up to it
  pub marks_until-cut : (end n : ℕ) → end ≤ n → marks_before end (marks_until stretch shown n)
      ≡ marks_until stretch shown end
  marks_until-cut end n h = ap (λ m. marks_before end (marks_until stretch shown m)) whole
      ∙ marks_until-cut_after end (n - end)
    where
      whole : n ≡ (n - end) + end
      whole = omega arith

  -- before the start of a stretch there are no marks
  pub marks_on-before_start : (n : ℕ) → n < stretch.start → marks_on stretch shown n ≡ []
  marks_on-before_start n h = ap (λ c. cond c (map (mark_at n) (kinds_of (shown n))) [])
      (and-second_fails (nat_lt 0 n) (nat_le stretch.start n) (nat_le n stretch.end) (lt-leb stretch.start n h))

  -- up to the start of a stretch there are no marks
  pub marks_until-before_start : (n : ℕ) → n ≤ stretch.start → marks_until stretch shown n ≡ []
  marks_until-before_start zero h = refl
  marks_until-before_start (suc n) h = ap (λ ms. ms ++ marks_on stretch shown n)
      (marks_until-before_start n (omega arith))
      ∙ marks_on-before_start n (omega arith)

  -- after the end of a stretch there are no marks
  marks_on-after_end : (n : ℕ) → stretch.end < n → marks_on stretch shown n ≡ []
  marks_on-after_end n h = ap (λ c. cond c (map (mark_at n) (kinds_of (shown n))) [])
      (and-third_fails (nat_lt 0 n) (nat_le stretch.start n) (nat_le n stretch.end) (lt-leb n stretch.end h))

  -- the marks up to k instants past the end of a stretch are those up to the instant after its end
  marks_until-past_end : (k : ℕ) → marks_until stretch shown (k + suc stretch.end)
      ≡ marks_until stretch shown (suc stretch.end)
  marks_until-past_end zero = ap (marks_until stretch shown) none
    where
      none : 0 + suc stretch.end ≡ suc stretch.end
      none = omega arith
  marks_until-past_end (suc k) =
      ap (marks_until stretch shown) suc_moved
      ∙ (ap (λ ms. marks_until stretch shown (k + suc stretch.end) ++ ms)
      (marks_on-after_end (k + suc stretch.end) (omega arith))
      ∙ (append-nil (marks_until stretch shown (k + suc stretch.end))
      ∙ marks_until-past_end k))
    where
      suc_moved : suc k + suc stretch.end ≡ suc (k + suc stretch.end)
      suc_moved = omega arith

  -- the marks up to any instant after the end of a stretch are those up to the instant after its end
  pub marks_until-after_end : (n : ℕ) → stretch.end < n → marks_until stretch shown n
      ≡ marks_until stretch shown (suc stretch.end)
  marks_until-after_end n h = ap (marks_until stretch shown) whole ∙ marks_until-past_end (n - suc stretch.end)
    where
      whole : n ≡ (n - suc stretch.end) + suc stretch.end
      whole = omega arith

-- what is shown alike at each instant before n gives the same marks before n
pub marks_until-same : (stretch : Stretch) (a b : ℕ → StepMarks) (n : ℕ) → ((j : ℕ) → j < n → a j ≡ b j)
    → marks_until stretch a n
    ≡ marks_until stretch b n
marks_until-same stretch a b zero alike = refl
marks_until-same stretch a b (suc n) alike =
    ap (λ xs. xs ++ marks_on stretch a n) (marks_until-same stretch a b n (λ j h. alike j (omega arith)))
    ∙ ap (λ k. marks_until stretch b n ++ cond (nat_lt 0 n && nat_le stretch.start n && nat_le n stretch.end)
    (map (mark_at n) (kinds_of k)) []) (alike n (omega arith))
