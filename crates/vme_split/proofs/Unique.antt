-- Rows that split the edges of the same stretch have the same traffic: intervals that come in turn are determined by
-- their starts and their ends.
use Rattle.std.proofs.Common.{◌≡◌, ℕ, ◌+◌, ◌<◌, refl, sym, ◌∙◌, ap, ap₂, subst, List, [], ◌∷◌, ◌++◌, flat_map, Contains}
use Rattle.std.specs.Prelude.{Option, None, Some, MatchOption, option_to_list}
use Rattle.std.proofs.lemmas.List.Elements.{All-contains}
use Rattle.vme_trace.specs.Trace.{Trace}
use Rattle.vme_listing.specs.declared.row.Row.{Row}
use Rattle.vme_split.specs.Split.{Interval, interval, starts_of, ends_of, AreInTurn, SplitsStretch, HaveSameTraffic}
use Rattle.vme_split.specs.Split.{ShowsAcknowledge, ShowsModifier, ShowsAddress, ShowsDirection, ShowsData, IsOfItsCode}
use Rattle.vme_split.proofs.RowsAlike.{cycles_alike, transfers_alike}
use Rattle.vme_split.specs.Split.{cycle_in, transfer_in, answered_by_dtack, answered_by_berr, IsAnsweredInCycle}
use Rattle.vme_split.proofs.Placing.{IsPlaced, IsPlaced-all_equal, IsPlaced-dtack, IsPlaced-berr, dtack_in-answers}
use Rattle.vme_split.proofs.Placing.{berr_in-answers}

-- the empty list isn't one with an element
nil-not_cons : {A : Type 0} {x : A} {xs : List A} → [] ≡ x ∷ xs → ⊥
nil-not_cons h = cc

-- equal lists have the same first element
cons-head : {x y : ℕ} {xs ys : List ℕ} → x ∷ xs ≡ y ∷ ys → x ≡ y
cons-head h = cc

-- equal lists have the same other elements
cons-tail : {x y : ℕ} {xs ys : List ℕ} → x ∷ xs ≡ y ∷ ys → xs ≡ ys
cons-tail h = cc

-- intervals without starts are none
starts_of-nil : (xs : List Interval) → [] ≡ starts_of xs → xs ≡ []
starts_of-nil [] h = refl
starts_of-nil (x ∷ xs) h = absurd (nil-not_cons h)

-- intervals in turn with the same starts and the same ends are the same
pub AreInTurn-equal : (n : ℕ) (xs ys : List Interval) → AreInTurn n xs → AreInTurn n ys → starts_of xs ≡ starts_of ys
    → ends_of xs ≡ ends_of ys → xs ≡ ys
AreInTurn-equal n [] ys a b s e = sym (starts_of-nil ys s)
AreInTurn-equal n (x ∷ xs) [] a b s e = absurd (nil-not_cons (sym s))
AreInTurn-equal n (x ∷ xs) (y ∷ ys) a b s e = by x.end y.end refl refl a.1 b.1 e (λ m p q r. AreInTurn-equal m xs ys p q
    (cons-tail s) r)
  where
    by : (o p : Option ℕ) → x.end ≡ o → y.end ≡ p → MatchOption o (xs ≡ []) (λ k. (x.start < k) × AreInTurn (k + 1) xs)
        → MatchOption p (ys ≡ []) (λ k. (y.start < k) × AreInTurn (k + 1) ys)
        → option_to_list o ++ ends_of xs ≡ option_to_list p ++ ends_of ys
        → ((m : ℕ) → AreInTurn m xs → AreInTurn m ys → ends_of xs ≡ ends_of ys → xs ≡ ys) → x ∷ xs ≡ y ∷ ys
    by None None f g c d h rest = ap₂ (λ (z : Interval) (zs : List Interval). z ∷ zs)
        (ap₂ interval (cons-head s) (f ∙ sym g)) (c ∙ sym d)
    by None (Some k) f g c d h rest = absurd (nil-not_cons (ap ends_of (sym c) ∙ h))
    by (Some j) None f g c d h rest = absurd (nil-not_cons (ap ends_of (sym d) ∙ sym h))
    by (Some j) (Some k) f g c d h rest =
        let same : j ≡ k = cons-head h in
        ap₂ (λ (z : Interval) (zs : List Interval). z ∷ zs) (ap₂ interval (cons-head s) (f ∙ (ap Some same ∙ sym g)))
        (rest (j + 1) c.1 (subst (λ m. AreInTurn (m + 1) ys) (sym same) d.1) (cons-tail h))

module _ (t : Trace) (first end : ℕ) (rows others : List Row) (a : SplitsStretch t first end rows)
    (b : SplitsStretch t first end others) where
  -- the rows have the same cycles
  cycle_in-equal : flat_map cycle_in rows ≡ flat_map cycle_in others
  cycle_in-equal =
      AreInTurn-equal (first + 1) _ _ a.cycles.in_turn b.cycles.in_turn (a.cycles.start ∙ sym b.cycles.start)
      (a.cycles.stop ∙ sym b.cycles.stop)

  -- the rows have the same transfers
  transfer_in-equal : flat_map transfer_in rows ≡ flat_map transfer_in others
  transfer_in-equal = AreInTurn-equal (first + 1) _ _ a.transfers.in_turn b.transfers.in_turn (a.transfers.start
      ∙ sym b.transfers.start) (a.transfers.close ∙ sym b.transfers.close)

  -- each answered transfer of `rows` is answered in a cycle of `rows`
  IsAnsweredInCycle-rows : (r : Row) → Contains rows r → IsAnsweredInCycle (flat_map cycle_in rows) r
  IsAnsweredInCycle-rows r c =
      All-contains (IsAnsweredInCycle (flat_map cycle_in rows)) rows r a.keeps.answers_in_cycles c

  -- each answered transfer of `others` is answered in a cycle of `rows`
  IsAnsweredInCycle-others : (r : Row) → Contains others r → IsAnsweredInCycle (flat_map cycle_in rows) r
  IsAnsweredInCycle-others r c = subst (λ (cycles : List Interval). IsAnsweredInCycle cycles r) (sym cycle_in-equal)
      (All-contains (IsAnsweredInCycle (flat_map cycle_in others)) others r b.keeps.answers_in_cycles c)

  -- rows that split the edges of the stretch have the same traffic
  pub HaveSameTraffic-unique : HaveSameTraffic rows others
  HaveSameTraffic-unique = record {
    tenures = AreInTurn-equal first _ _ a.tenures.in_turn b.tenures.in_turn (a.tenures.start ∙ sym b.tenures.start)
        (a.tenures.stop ∙ sym b.tenures.stop);
    cycles = cycle_in-equal;
    transfers = transfer_in-equal;
    dtack =
        IsPlaced-all_equal (flat_map transfer_in rows) (flat_map cycle_in rows) (first + 1) (first + 1)
        a.transfers.in_turn
        a.cycles.in_turn (flat_map answered_by_dtack rows) (flat_map answered_by_dtack others)
        (IsPlaced-dtack rows (flat_map cycle_in rows) IsAnsweredInCycle-rows)
        (λ x c. subst (λ (transfers : List Interval). IsPlaced transfers (flat_map cycle_in rows) x)
        (sym transfer_in-equal) (IsPlaced-dtack others (flat_map cycle_in rows) IsAnsweredInCycle-others x c))
        (dtack_in-answers rows ∙ (a.answers.dtack ∙ (sym b.answers.dtack ∙ sym (dtack_in-answers others))));
    berr =
        IsPlaced-all_equal (flat_map transfer_in rows) (flat_map cycle_in rows) (first + 1) (first + 1)
        a.transfers.in_turn
        a.cycles.in_turn (flat_map answered_by_berr rows) (flat_map answered_by_berr others)
        (IsPlaced-berr rows (flat_map cycle_in rows) IsAnsweredInCycle-rows)
        (λ x c. subst (λ (transfers : List Interval). IsPlaced transfers (flat_map cycle_in rows) x)
        (sym transfer_in-equal) (IsPlaced-berr others (flat_map cycle_in rows) IsAnsweredInCycle-others x c))
        (berr_in-answers rows ∙ (a.answers.berr ∙ (sym b.answers.berr ∙ sym (berr_in-answers others))));
    each_cycle = λ r s c d. cycles_alike t r s
        (All-contains (ShowsAcknowledge t) rows r a.keeps.acknowledges c)
        (All-contains (ShowsAcknowledge t) others s b.keeps.acknowledges d)
        (All-contains IsOfItsCode rows r a.keeps.codes_of_classes c)
        (All-contains IsOfItsCode others s b.keeps.codes_of_classes d)
        (All-contains (ShowsModifier t) rows r a.keeps.modifiers c)
        (All-contains (ShowsModifier t) others s b.keeps.modifiers d)
        (All-contains (ShowsAddress t) rows r a.keeps.addresses c)
        (All-contains (ShowsAddress t) others s b.keeps.addresses d);
    each_transfer = λ r s c d. transfers_alike t r s
        (All-contains (ShowsDirection t) rows r a.keeps.directions c)
        (All-contains (ShowsDirection t) others s b.keeps.directions d)
        (All-contains (ShowsData t) rows r a.keeps.written_data c)
        (All-contains (ShowsData t) others s b.keeps.written_data d);
  }
