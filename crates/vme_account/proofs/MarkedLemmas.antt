-- The rows and counts kept of marks are those of their listing.
use Rattle.std.proofs.Common.{◌≡◌, ℕ, Bool, true, false, List, [], ◌∷◌, ◌++◌, map, None, refl, sym, ap, ◌∙◌}
use Rattle.std.specs.Prelude.{◌&&◌, count_by, if◌then◌else◌}
use Rattle.std.specs.List.{fold}
use Rattle.std.specs.Result.{OnOk}
use Rattle.std.specs.declared.result.Result.{Result}
use Rattle.std.specs.declared.alloc.AllocError.{AllocError}
use Rattle.std.proofs.lemmas.List.{map-append}
use Rattle.std.proofs.lemmas.List.Sums.{fold-append}
use Rattle.std.proofs.lemmas.Result.{on_ok_weaker}
use Rattle.vme_monitor.specs.Run.{mark_at}
use Rattle.vme_monitor.specs.declared.mark.Mark.{Mark}
use Rattle.vme_monitor.specs.declared.mark.MarkKind.{MarkKind}
use Rattle.vme_monitor.specs.declared.mark.MarkKind.TheVariants.{Open, Start}
use Rattle.vme_summary.specs.MarkedRows.{opening_marks, rows_of}
use Rattle.vme_trace.specs.Levels.{Levels, is_idle, is_low, level_at}
use Rattle.vme_trace.specs.LineNumbers.{BBSY}
use Rattle.vme_account.proofs.CountLemmas.{count_in-counts_of}
use Rattle.vme_account.proofs.UnendedLemmas.{open_in-opens}
use Rattle.vme_account.specs.KnownRows.{known_at, knowns_from}
use Rattle.vme_account.specs.Marked.{counts_in, marked, marked_next, nothing_marked}
use Rattle.vme_account.specs.UnendedRows.{open_in, open_next, open_row}
use Rattle.vme_account.specs.RowCounts.{count_in, is_counted, with_row}
use Rattle.vme_account.specs.RowKinds.{is_of}
use Rattle.vme_account.specs.declared.marked.Marked.{Marked}
use Rattle.vme_account.specs.declared.row_kind.Part.{Part}
use Rattle.vme_account.specs.declared.row_kind.RowKind.{RowKind}

-- the open rows and the counts after marks `ms`, each by itself
fold-marked_next : (ms : List Mark) (m : Marked) → fold marked_next m ms
    ≡ record { unended = fold open_next m.unended ms; counts = fold with_row m.counts (knowns_from m.unended ms) }
fold-marked_next [] m = refl
fold-marked_next (k ∷ ms) m =
    fold-marked_next ms (marked_next m k)
    ∙ ap (λ c. record { unended = fold open_next (open_next m.unended k) ms; counts = c })
    (sym (fold-append with_row m.counts (known_at k.instant k.kind m.unended) (knowns_from (open_next m.unended k) ms)))

-- the open rows kept of marks are those of their listing
pub open_in-marked : (m : Marked) (ms : List Mark) (p : Part) → m ≡ marked ms → open_in m.unended p
    ≡ open_row p (rows_of None ms)
open_in-marked m ms p is =
    ap (λ (m : Marked). open_in m.unended p) (is ∙ fold-marked_next ms nothing_marked) ∙ open_in-opens p ms

-- the counts kept of marks are those of their listing
pub count_in-marked : (m : Marked) (ms : List Mark) (k : RowKind) → m ≡ marked ms → is_counted k ≡ true
    → count_in (counts_in m) k ≡ count_by (is_of k) (rows_of None ms)
count_in-marked m ms k is counted =
    ap (λ (m : Marked). count_in (counts_in m) k) (is ∙ fold-marked_next ms nothing_marked)
    ∙ count_in-counts_of k ms counted

-- ---- the kinds that are shown, one after the other

module _ (i : ℕ) where
  -- the state after marks of these kinds at instant `i`
  abbrev pub taken_kinds : Marked → List MarkKind → Marked
  taken_kinds m ks = fold marked_next m (map (mark_at i) ks)

  -- kinds taken in two parts are taken together
  pub taken_kinds-append : (m p q : Marked) (a b : List MarkKind) → p ≡ taken_kinds m a → q ≡ taken_kinds p b
      → q ≡ taken_kinds m (a ++ b)
  taken_kinds-append m p q a b e g =
      g ∙ (ap (λ (x : Marked). taken_kinds x b) e
      ∙ (sym (fold-append marked_next m (map (mark_at i) a) (map (mark_at i) b))
      ∙ ap (λ (ms : List Mark). fold marked_next m ms) (sym (map-append (mark_at i) a b))))

  -- kinds taken in three parts are taken together
  pub taken_kinds-three : (m p q r : Marked) (a b c : List MarkKind) → p ≡ taken_kinds m a → q ≡ taken_kinds p b
      → r ≡ taken_kinds q c → r ≡ taken_kinds m (a ++ (b ++ c))
  taken_kinds-three m p q r a b c e g h = taken_kinds-append m p r a (b ++ c) e (taken_kinds-append p q r b c g h)

  -- kinds taken in ten parts are taken together, if the last part succeeds
  pub taken_kinds-ten : (r : Result (Unit {0}) AllocError) (m0 m1 m2 m3 m4 m5 m6 m7 m8 m9 m10 : Marked)
      (k1 k2 k3 k4 k5 k6 k7 k8 k9 k10 : List MarkKind)
      → m1 ≡ taken_kinds m0 k1 → m2 ≡ taken_kinds m1 k2 → m3 ≡ taken_kinds m2 k3 → m4 ≡ taken_kinds m3 k4
      → m5 ≡ taken_kinds m4 k5 → m6 ≡ taken_kinds m5 k6 → m7 ≡ taken_kinds m6 k7 → m8 ≡ taken_kinds m7 k8
      → m9 ≡ taken_kinds m8 k9 → OnOk r (m10 ≡ taken_kinds m9 k10)
      → OnOk r (m10 ≡ taken_kinds m0 (k1 ++ k2 ++ k3 ++ k4 ++ k5 ++ k6 ++ k7 ++ k8 ++ k9 ++ k10))
  taken_kinds-ten r m0 m1 m2 m3 m4 m5 m6 m7 m8 m9 m10 k1 k2 k3 k4 k5 k6 k7 k8 k9 k10 e1 e2 e3 e4 e5 e6 e7 e8 e9 last =
      let s2 = taken_kinds-append m0 m1 m2 k1 k2 e1 e2 in
      let s3 = taken_kinds-append m0 m2 m3 (k1 ++ k2) k3 s2 e3 in
      let s4 = taken_kinds-append m0 m3 m4 (k1 ++ k2 ++ k3) k4 s3 e4 in
      let s5 = taken_kinds-append m0 m4 m5 (k1 ++ k2 ++ k3 ++ k4) k5 s4 e5 in
      let s6 = taken_kinds-append m0 m5 m6 (k1 ++ k2 ++ k3 ++ k4 ++ k5) k6 s5 e6 in
      let s7 = taken_kinds-append m0 m6 m7 (k1 ++ k2 ++ k3 ++ k4 ++ k5 ++ k6) k7 s6 e7 in
      let s8 = taken_kinds-append m0 m7 m8 (k1 ++ k2 ++ k3 ++ k4 ++ k5 ++ k6 ++ k7) k8 s7 e8 in
      let s9 = taken_kinds-append m0 m8 m9 (k1 ++ k2 ++ k3 ++ k4 ++ k5 ++ k6 ++ k7 ++ k8) k9 s8 e9 in
      on_ok_weaker r (λ e. taken_kinds-append m0 m9 m10 (k1 ++ k2 ++ k3 ++ k4 ++ k5 ++ k6 ++ k7 ++ k8 ++ k9) k10 s9 e)
      last

-- ---- the opening

-- the marks of the opening, by whether it is idle and whether the bus is busy
pub marked-opening : (v : Levels) (idle busy : Bool) → is_idle v ≡ idle → is_low (level_at v BBSY) ≡ busy
    → (if idle && busy then marked (mark_at 0 Start ∷ mark_at 0 Open ∷ []) else nothing_marked)
    ≡ marked (opening_marks v)
marked-opening v false busy e g = rw e refl
marked-opening v true true e g = rw (e, g) refl
marked-opening v true false e g = rw (e, g) started
  where
    started : nothing_marked ≡ marked (mark_at 0 Start ∷ [])
    started = refl
