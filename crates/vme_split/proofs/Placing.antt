-- Of intervals in turn at most one covers an instant, so an answer determines its transfer and its cycle.
use Rattle.std.proofs.Common.{◌≡◌, ℕ, zero, suc, ◌+◌, ◌<◌, ◌≤◌, refl, sym, ◌∙◌, ap, ap₂, subst, arith, List, [], ◌∷◌}
use Rattle.std.proofs.Common.{◌++◌, map, flat_map, Contains, inl, inr, ◌⊎◌}
use Rattle.std.specs.Prelude.{Option, None, Some, MatchOption, IfSome}
use Rattle.std.proofs.lemmas.List.{map-append}
use Rattle.std.proofs.lemmas.List.Elements.{Contains-append_left, Contains-append_right, Contains-append_cases}
use Rattle.vme_trace.specs.declared.data.Lanes.{Lanes}
use Rattle.vme_listing.specs.declared.row.AnswerLine.{AnswerLine}
use Rattle.vme_listing.specs.declared.row.AnswerLine.TheVariants.{Dtack, Berr}
use Rattle.vme_listing.specs.declared.row.Direction.{Direction}
use Rattle.vme_listing.specs.declared.row.Row.{Row}
use Rattle.vme_listing.specs.declared.row.Row.TheVariants.{Start, Reset, OpenTenure, Tenure, AddressedCycle, FreeCycle}
use Rattle.vme_listing.specs.declared.row.Row.TheVariants.{InterruptCycle, Transfer, PendingTransfer}
use Rattle.vme_listing.specs.declared.row.Row.TheVariants as row
use Rattle.vme_split.specs.Split.{Interval, interval, AreInTurn, Covers, AnsweredTransfer, answered_transfer}
use Rattle.vme_split.specs.Split.{transfer_in, dtack_in, berr_in, answered_by_dtack, answered_by_berr}
use Rattle.vme_split.specs.Split.{IsAnsweredInCycle}

-- ---- members of a list

-- the empty list has no element
Contains-nil : {A : Type 0} (a : A) → Contains [] a → ⊥
Contains-nil a c = let low = c.1 in omega (arith, low)

-- an element of a list is the first one, or one of the others
Contains-cons_cases : {A : Type 0} (x : A) (xs : List A) (a : A) → Contains (x ∷ xs) a → (x ≡ a) ⊎ Contains xs a
Contains-cons_cases x xs a (zero, low, is) = inl is
Contains-cons_cases x xs a (suc k, low, is) = inr (k, omega (arith, low), is)

-- the first element is one of the list
Contains-first : {A : Type 0} (x : A) (xs : List A) → Contains (x ∷ xs) x
Contains-first x xs = (0, omega arith, refl)

-- an element of the others is one of the list
Contains-later : {A : Type 0} (x : A) (xs : List A) (a : A) → Contains xs a → Contains (x ∷ xs) a
Contains-later x xs a c = (suc c.0, (let low = c.1 in omega (arith, low)), c.2)

-- what `g` gives of an element is among what it gives of the list
Contains-flat_map : {A B : Type 0} (g : A → List B) (xs : List A) (x : A) (y : B) → Contains xs x → Contains (g x) y
    → Contains (flat_map g xs) y
Contains-flat_map g [] x y c d = absurd (Contains-nil x c)
Contains-flat_map g (z ∷ xs) x y c d = elim (Contains-cons_cases z xs x c) [
  | inl is ↦ Contains-append_left (g z) (flat_map g xs) y (subst (λ w. Contains (g w) y) (sym is) d)
  | inr later ↦ Contains-append_right (g z) (flat_map g xs) y (Contains-flat_map g xs x y later d)
]

-- ---- intervals in turn

-- the intervals xs may follow in turn an interval that starts at s and ends at o
abbrev Follow : ℕ → Option ℕ → List Interval → Type 0
Follow s o xs = MatchOption o (xs ≡ []) (λ e. (s < e) × AreInTurn (e + 1) xs)

-- each of the intervals xs starts at s or later, where they follow an interval that starts at s
Follow-start : (s : ℕ) (o : Option ℕ) (xs : List Interval) (a : Interval) → Follow s o xs → Contains xs a
    → ((m : ℕ) → AreInTurn m xs → m ≤ a.start) → s ≤ a.start
Follow-start s None xs a none c rest = absurd (Contains-nil a (subst (λ l. Contains l a) none c))
Follow-start s (Some e) xs a turn c rest = let far = rest (e + 1) turn.1 in omega (arith, far, turn.0)

-- each of intervals that come in turn from n on starts at n or later
AreInTurn-start : (n : ℕ) (xs : List Interval) (a : Interval) → AreInTurn n xs → Contains xs a → n ≤ a.start
AreInTurn-start n [] a turn c = absurd (Contains-nil a c)
AreInTurn-start n (x ∷ xs) a turn c = elim (Contains-cons_cases x xs a c) [
  | inl is ↦ subst (λ (y : Interval). n ≤ y.start) is turn.0
  | inr later ↦ let later_start = Follow-start x.start x.end xs a turn.1 later
      (λ m t. AreInTurn-start m xs a t later) in
      omega (arith, later_start, turn.0)
]

-- where an interval covers instant i, the intervals after it start later than i
Follow-not_covering : (s i : ℕ) (o : Option ℕ) (xs : List Interval) (a : Interval) → Follow s o xs
    → IfSome o (λ e. i ≤ e)
    → Contains xs a → a.start ≤ i → ⊥
Follow-not_covering s i None xs a none covers c begun = Contains-nil a (subst (λ l. Contains l a) none c)
Follow-not_covering s i (Some e) xs a turn covers c begun = let far = AreInTurn-start (e + 1) xs a turn.1 c in
    omega (arith, far, covers, begun)

-- intervals that follow another come in turn from some number on, if there are any
Follow-in_turn : (s : ℕ) (o : Option ℕ) (xs : List Interval) (a : Interval) → Follow s o xs → Contains xs a → (m : ℕ)
    × AreInTurn m xs
Follow-in_turn s None xs a none c = absurd (Contains-nil a (subst (λ l. Contains l a) none c))
Follow-in_turn s (Some e) xs a turn c = (e + 1, turn.1)

-- of intervals in turn at most one covers instant i
pub Covers-at_most_one : (n i : ℕ) (xs : List Interval) (a b : Interval) → AreInTurn n xs → Contains xs a
    → Contains xs b
    → Covers a i → Covers b i → a ≡ b
Covers-at_most_one n i [] a b turn c d covers also = absurd (Contains-nil a c)
Covers-at_most_one n i (x ∷ xs) a b turn c d covers also = elim (Contains-cons_cases x xs a c) [
  | inl is ↦ elim (Contains-cons_cases x xs b d) [
    | inl same ↦ sym is ∙ same
    | inr later ↦ let x_covers : Covers x i = subst (λ (y : Interval). Covers y i) (sym is) covers in
        absurd (Follow-not_covering x.start i x.end xs b turn.1 x_covers.1 later also.0)
  ]
  | inr later_a ↦ elim (Contains-cons_cases x xs b d) [
    | inl same ↦ let x_covers : Covers x i = subst (λ (y : Interval). Covers y i) (sym same) also in
        absurd (Follow-not_covering x.start i x.end xs a turn.1 x_covers.1 later_a covers.0)
    | inr later ↦ let rest =
        Follow-in_turn x.start x.end xs a turn.1 later_a in Covers-at_most_one rest.0 i xs a b rest.1 later_a
        later covers also
  ]
]

-- ---- answered transfers

-- one of the transfers starts at `x.start`, one of the cycles starts at `x.cycle`, and both cover `x.answer`
abbrev pub IsPlaced : List Interval → List Interval → AnsweredTransfer → Type 0
IsPlaced transfers cycles x =
    ((close : Option ℕ) × Contains transfers (interval x.start close) × Covers (interval x.start close) x.answer)
    × ((end : Option ℕ) × Contains cycles (interval x.cycle end) × Covers (interval x.cycle end) x.answer)

module _ (transfers cycles : List Interval) (n : ℕ) (m : ℕ) (apart : AreInTurn n transfers) (also : AreInTurn m cycles)
  where
    -- answered transfers with the same answer are equal
    IsPlaced-equal : (x y : AnsweredTransfer) → IsPlaced transfers cycles x → IsPlaced transfers cycles y
        → x.answer ≡ y.answer → x ≡ y
    IsPlaced-equal x y p q is =
        let transfer = Covers-at_most_one n x.answer transfers (interval x.start p.0.0) (interval y.start q.0.0) apart
        p.0.1
        q.0.1
        p.0.2 (subst (λ (i : ℕ). Covers (interval y.start q.0.0) i) (sym is) q.0.2) in
        let cycle = Covers-at_most_one m x.answer cycles (interval x.cycle p.1.0) (interval y.cycle q.1.0) also p.1.1
        q.1.1
        p.1.2
        (subst (λ (i : ℕ). Covers (interval y.cycle q.1.0) i) (sym is) q.1.2) in
        let starts : x.start ≡ y.start = ap (λ (a : Interval). a.start) transfer in
        let named : x.cycle ≡ y.cycle = ap (λ (a : Interval). a.start) cycle in
        ap (λ (s : ℕ). answered_transfer s x.cycle x.answer) starts
        ∙ (ap (λ (c : ℕ). answered_transfer y.start c x.answer) named
        ∙ ap (λ (a : ℕ). answered_transfer y.start y.cycle a) is)

    -- lists of answered transfers with the same answers are equal
    pub IsPlaced-all_equal : (xs ys : List AnsweredTransfer)
        → ((x : AnsweredTransfer) → Contains xs x → IsPlaced transfers cycles x)
        → ((y : AnsweredTransfer) → Contains ys y → IsPlaced transfers cycles y)
        → map (λ (x : AnsweredTransfer). x.answer) xs ≡ map (λ (y : AnsweredTransfer). y.answer) ys → xs ≡ ys
    IsPlaced-all_equal [] [] p q is = refl
    IsPlaced-all_equal [] (y ∷ ys) p q is = absurd (cc)
    IsPlaced-all_equal (x ∷ xs) [] p q is = absurd (cc)
    IsPlaced-all_equal (x ∷ xs) (y ∷ ys) p q is =
        let here : x.answer ≡ y.answer = head_same is in
        ap₂ (λ (z : AnsweredTransfer) (zs : List AnsweredTransfer). z ∷ zs)
        (IsPlaced-equal x y (p x (Contains-first x xs))
        (q y (Contains-first y ys))
        here)
        (IsPlaced-all_equal xs ys (λ z c. p z (Contains-later x xs z c)) (λ z c. q z (Contains-later y ys z c))
        (tail_same is))
      where
        head_same : {i j : ℕ} {is js : List ℕ} → i ∷ is ≡ j ∷ js → i ≡ j
        head_same h = cc

        tail_same : {i j : ℕ} {is js : List ℕ} → i ∷ is ≡ j ∷ js → is ≡ js
        tail_same h = cc

-- if each row of `all` that has an answer has it in its transfer, and in its cycle, one of `cycles`
module _ (all : List Row) (cycles : List Interval) (answered : (r : Row) → Contains all r → IsAnsweredInCycle cycles r)
  where
    -- an answered transfer is placed, if one of the rows has its transfer, and its answer is in that and in its cycle
    IsPlaced-transfer : (x : AnsweredTransfer) (close : Option ℕ)
        → Contains (flat_map transfer_in all) (interval x.start close)
        → Covers (interval x.start close) x.answer × ((end : Option ℕ) × Contains cycles (interval x.cycle end)
        × Covers (interval x.cycle end) x.answer) → IsPlaced (flat_map transfer_in all) cycles x
    IsPlaced-transfer x close there k = ((close, there, k.0), k.1)

    -- the transfer of a row that `line` answers is placed
    IsPlaced-answered_row : (direction : Direction) (line : AnswerLine) (start cycle answer : ℕ) (close : Option ℕ)
        (lanes : Option Lanes) (x : AnsweredTransfer)
        → Contains all (Transfer direction line start cycle answer close lanes)
        → Contains (answered_transfer start cycle answer ∷ []) x → IsPlaced (flat_map transfer_in all) cycles x
    IsPlaced-answered_row direction line start cycle answer close lanes x there c = elim
        (Contains-cons_cases (answered_transfer start cycle answer) [] x c) [
          | inl is ↦ subst (IsPlaced (flat_map transfer_in all) cycles) is (IsPlaced-transfer
              (answered_transfer start cycle answer) close
              (Contains-flat_map transfer_in all (Transfer direction line start cycle answer close lanes)
              (interval start close)
              there
              (Contains-first (interval start close) []))
              (answered (Transfer direction line start cycle answer close lanes)
              there))
          | inr later ↦ absurd (Contains-nil x later)
        ]

    -- the transfer of a row that DTACK answers is placed
    IsPlaced-dtack_row : (r : Row) (x : AnsweredTransfer) → Contains all r → Contains (answered_by_dtack r) x
        → IsPlaced (flat_map transfer_in all) cycles x
    IsPlaced-dtack_row (Transfer direction Dtack start cycle answer close lanes) x there c =
        IsPlaced-answered_row direction Dtack start cycle answer close lanes x there c
    IsPlaced-dtack_row (Transfer direction Berr start cycle answer close lanes) x there c = absurd (Contains-nil x c)
    IsPlaced-dtack_row (Start i) x there c = absurd (Contains-nil x c)
    IsPlaced-dtack_row (Reset i) x there c = absurd (Contains-nil x c)
    IsPlaced-dtack_row (OpenTenure i e) x there c = absurd (Contains-nil x c)
    IsPlaced-dtack_row (Tenure i l s e) x there c = absurd (Contains-nil x c)
    IsPlaced-dtack_row (AddressedCycle i k m a e) x there c = absurd (Contains-nil x c)
    IsPlaced-dtack_row (FreeCycle i m e) x there c = absurd (Contains-nil x c)
    IsPlaced-dtack_row (InterruptCycle i l e) x there c = absurd (Contains-nil x c)
    IsPlaced-dtack_row (PendingTransfer i d) x there c = absurd (Contains-nil x c)
    IsPlaced-dtack_row (row.Verdict o) x there c = absurd (Contains-nil x c)

    -- the transfer of a row that BERR answers is placed
    IsPlaced-berr_row : (r : Row) (x : AnsweredTransfer) → Contains all r → Contains (answered_by_berr r) x
        → IsPlaced (flat_map transfer_in all) cycles x
    IsPlaced-berr_row (Transfer direction Berr start cycle answer close lanes) x there c =
        IsPlaced-answered_row direction Berr start cycle answer close lanes x there c
    IsPlaced-berr_row (Transfer direction Dtack start cycle answer close lanes) x there c = absurd (Contains-nil x c)
    IsPlaced-berr_row (Start i) x there c = absurd (Contains-nil x c)
    IsPlaced-berr_row (Reset i) x there c = absurd (Contains-nil x c)
    IsPlaced-berr_row (OpenTenure i e) x there c = absurd (Contains-nil x c)
    IsPlaced-berr_row (Tenure i l s e) x there c = absurd (Contains-nil x c)
    IsPlaced-berr_row (AddressedCycle i k m a e) x there c = absurd (Contains-nil x c)
    IsPlaced-berr_row (FreeCycle i m e) x there c = absurd (Contains-nil x c)
    IsPlaced-berr_row (InterruptCycle i l e) x there c = absurd (Contains-nil x c)
    IsPlaced-berr_row (PendingTransfer i d) x there c = absurd (Contains-nil x c)
    IsPlaced-berr_row (row.Verdict o) x there c = absurd (Contains-nil x c)

    -- if the answered transfers that `told` gives of a row are placed, so are those that it gives of several
    IsPlaced-rows : (told : Row → List AnsweredTransfer)
        → ((r : Row) (x : AnsweredTransfer) → Contains all r → Contains (told r) x
        → IsPlaced (flat_map transfer_in all) cycles x)
        → (rows : List Row) → ((r : Row) → Contains rows r → Contains all r) → (x : AnsweredTransfer)
        → Contains (flat_map told rows) x → IsPlaced (flat_map transfer_in all) cycles x
    IsPlaced-rows told of [] within x c = absurd (Contains-nil x c)
    IsPlaced-rows told of (r ∷ rows) within x c = elim (Contains-append_cases (told r) (flat_map told rows) x c) [
      | inl here ↦ of r x (within r (Contains-first r rows)) here
      | inr later ↦ IsPlaced-rows told of rows (λ s d. within s (Contains-later r rows s d)) x later
    ]

    -- the transfers that DTACK answers are placed
    pub IsPlaced-dtack : (x : AnsweredTransfer) → Contains (flat_map answered_by_dtack all) x
        → IsPlaced (flat_map transfer_in all)
        cycles x
    IsPlaced-dtack x c = IsPlaced-rows answered_by_dtack IsPlaced-dtack_row all (λ r d. d) x c

    -- the transfers that BERR answers are placed
    pub IsPlaced-berr : (x : AnsweredTransfer) → Contains (flat_map answered_by_berr all) x
        → IsPlaced (flat_map transfer_in all) cycles x
    IsPlaced-berr x c = IsPlaced-rows answered_by_berr IsPlaced-berr_row all (λ r d. d) x c

-- where `told` gives the answered transfers of a row and `f` their answers, so they do of a list of rows
answers-flat_map : (told : Row → List AnsweredTransfer) (f : Row → List ℕ)
    → ((r : Row) → map (λ (x : AnsweredTransfer). x.answer) (told r) ≡ f r) → (rows : List Row)
    → map (λ (x : AnsweredTransfer). x.answer) (flat_map told rows) ≡ flat_map f rows
answers-flat_map told f same [] = refl
answers-flat_map told f same (r ∷ rows) = map-append (λ (x : AnsweredTransfer). x.answer) (told r) (flat_map told rows)
    ∙ ap₂ (λ (a b : List ℕ). a ++ b) (same r) (answers-flat_map told f same rows)

-- the answer of the transfer of a row that DTACK answers is the row's answer by DTACK
dtack_in-answered_by : (r : Row) → map (λ (x : AnsweredTransfer). x.answer) (answered_by_dtack r) ≡ dtack_in r
dtack_in-answered_by (Transfer direction Dtack start cycle answer close lanes) = refl
dtack_in-answered_by (Transfer direction Berr start cycle answer close lanes) = refl
dtack_in-answered_by (Start i) = refl
dtack_in-answered_by (Reset i) = refl
dtack_in-answered_by (OpenTenure i e) = refl
dtack_in-answered_by (Tenure i l s e) = refl
dtack_in-answered_by (AddressedCycle i k m a e) = refl
dtack_in-answered_by (FreeCycle i m e) = refl
dtack_in-answered_by (InterruptCycle i l e) = refl
dtack_in-answered_by (PendingTransfer i d) = refl
dtack_in-answered_by (row.Verdict o) = refl

-- the answer of the transfer of a row that BERR answers is the row's answer by BERR
berr_in-answered_by : (r : Row) → map (λ (x : AnsweredTransfer). x.answer) (answered_by_berr r) ≡ berr_in r
berr_in-answered_by (Transfer direction Dtack start cycle answer close lanes) = refl
berr_in-answered_by (Transfer direction Berr start cycle answer close lanes) = refl
berr_in-answered_by (Start i) = refl
berr_in-answered_by (Reset i) = refl
berr_in-answered_by (OpenTenure i e) = refl
berr_in-answered_by (Tenure i l s e) = refl
berr_in-answered_by (AddressedCycle i k m a e) = refl
berr_in-answered_by (FreeCycle i m e) = refl
berr_in-answered_by (InterruptCycle i l e) = refl
berr_in-answered_by (PendingTransfer i d) = refl
berr_in-answered_by (row.Verdict o) = refl

-- the answers of the transfers that DTACK answers are the answers by DTACK
pub dtack_in-answers : (rows : List Row) → map (λ (x : AnsweredTransfer). x.answer) (flat_map answered_by_dtack rows)
    ≡ flat_map dtack_in rows
dtack_in-answers = answers-flat_map answered_by_dtack dtack_in dtack_in-answered_by

-- the answers of the transfers that BERR answers are the answers by BERR
pub berr_in-answers : (rows : List Row) → map (λ (x : AnsweredTransfer). x.answer) (flat_map answered_by_berr rows)
    ≡ flat_map berr_in rows
berr_in-answers = answers-flat_map answered_by_berr berr_in berr_in-answered_by
