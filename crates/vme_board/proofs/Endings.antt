-- Which places of a closed board have a block, and how many: by the invariant of its last state, and by what the bench
-- that closes it has filed and taken.
use Rattle.std.proofs.Common.{◌≡◌, ℕ, zero, suc, ◌+◌, ◌*◌, ◌/◌, ◌%◌, ◌<◌, ◌≤◌, ◌==◌, ◌⊎◌, cond, Bool, true, false, List}
use Rattle.std.proofs.Common.{[], ◌∷◌, ◌++◌, length, length-append, get_or, slice_get, sym, refl, ap, ◌∙◌, subst, arith}
use Rattle.std.proofs.Common.{inl, inr, Option, Some, None}
use mathlib.Core.Option.{some, some-injective, some-ne-none}
use mathlib.Core.Logic.{dite}
use native.Mathlib.Decide.{ℕ_discrete}
use Rattle.std.proofs.lemmas.Option.{slice_get-get_or, slice_get_within}
use Rattle.std.proofs.Math.ListN.{get_or-append}
use Rattle.std.proofs.Math.Seq.{get_or-append_seam}
use lib.ListN.{get_elem?}
use Rattle.std.specs.Int.{bit_at}
use Rattle.atomic_table.specs.Table.{Final, Seen}
use Rattle.vme_trace.specs.declared.block.Block.{Block}
use Rattle.vme_core.specs.declared.view.View.{View}
use Rattle.vme_core.specs.Counting.{HasPair, occurrences, numbers, sum_below, missing_count}
use Rattle.vme_core.specs.BoardInvariant.{BoardInvariant}
use Rattle.vme_core.specs.Stages.{rank, seen}
use Rattle.vme_core.proofs.StageRanks.{seen-Free}
use Rattle.vme_core.specs.Shares.{IsWholeShare}
use Rattle.vme_core.proofs.Sums.{occurrences-of_pair, HasPair-of_occurrences}
use Rattle.vme_core.proofs.SumsBelow.{sum_below-plus, sum_below-agree, sum_below-limit}
use Rattle.vme_core.proofs.InvariantSteps.{own_draws, own_claims, own_takes, whole_listed, whole_taken, unlisted}
use Rattle.vme_core.proofs.InvariantSteps.{is_taken, list_length_bound, takes_length_bound, all_listed, all_taken}
use Rattle.vme_core.proofs.InvariantSteps.{content-one}
use Rattle.vme_board.specs.Words.{AreKept, bit_of, Homes, IsEmpty, IsFilled, Holds, kept}
use Rattle.vme_board.specs.Contents.{DidAll, HasBlock, filled_bit, filled_at, filled_count}
use Rattle.vme_board.proofs.Bits.{bit_of-at_most_one}

-- an element of a list is what is read at its index
get_elem-get_or : {A : Type 0} (l : List A) (i : ℕ) (a d : A) → get_elem? l i ≡ some a → get_or l i d ≡ a
get_elem-get_or [] i a d e = absurd (some-ne-none a (sym e))
get_elem-get_or (x ∷ xs) zero a d e = some-injective x a e
get_elem-get_or (x ∷ xs) (suc i) a d e = get_elem-get_or xs i a d e

-- if the first n items are those of F, and F n is pushed, the first n + 1 items are
pub slice_get-pushed : {A : Type 0} (xs items : List A) (x : A) (n : ℕ) (F : ℕ → A) → items ≡ xs ++ x ∷ [] → length xs
    ≡ n → x
    ≡ F n → ((k : ℕ) → k < n → slice_get xs k ≡ Some (F k)) → (k : ℕ) → k < n + 1 → slice_get items k ≡ Some (F k)
slice_get-pushed {A} xs items x n F is long here old k l =
    let more = length-append xs (x ∷ []) in ap (λ ys. slice_get ys k) is ∙ dite (ℕ_discrete k n)
    (λ e. slice_get-get_or (xs ++ x ∷ []) k x (omega (arith, more, long, l))
    ∙ (ap (λ (y : ℕ). Some (get_or (xs ++ x ∷ []) y x)) (e ∙ sym long)
    ∙ (ap (λ (y : A). Some y) (get_or-append_seam xs x [] x)
    ∙ (ap (λ (y : A). Some y) here ∙ ap (λ (y : ℕ). Some (F y)) (sym e)))))
    (λ ne. slice_get-get_or (xs ++ x ∷ []) k x (omega (arith, more, long, l))
    ∙ (ap (λ (y : A). Some y) (get_or-append xs (x ∷ []) x k (omega (arith, long, l, ne)))
    ∙ (sym (slice_get-get_or xs k x (omega (arith, long, l, ne))) ∙ old k (omega (arith, l, ne)))))

-- the bit of n that was read in a word is its bit in the row
pub bit_of-read : (k : ℕ) (ws : List ℕ) (n word b : ℕ) → get_elem? ws (4 * (n / 64) + k) ≡ some word → b
    ≡ bit_at word (n % 64) → b ≡ bit_of k ws n
bit_of-read k ws n word b e is = is
    ∙ sym (ap (λ (y : ℕ). bit_at y (n % 64)) (get_elem-get_or ws (4 * (n / 64) + k) word 0 e))

-- the value that `pick` keeps of a slot is `kept`
pub kept-picked : (ws : List ℕ) (xs : List (Option Block)) (n f t : ℕ) (x o : Option Block) → f ≡ bit_of 1 ws n → t
    ≡ bit_of 2 ws n → get_elem? xs n ≡ some x → o ≡ cond (f == 1) (cond (t == 1) None x) None → o ≡ kept (bit_of 1 ws n)
    (bit_of 2 ws n) xs n
kept-picked ws xs n f t x o a b e is = is ∙ (ap (λ (y : ℕ). cond (y == 1) (cond (t == 1) None x) None) a
    ∙ (ap (λ (y : ℕ). cond (bit_of 1 ws n == 1) (cond (y == 1) None x) None) b
    ∙ ap (λ (y : Option Block). cond (bit_of 1 ws n == 1) (cond (bit_of 2 ws n == 1) None y) None)
    (sym (get_elem-get_or xs n x None e))))

-- a place doesn't both have no block and a block
no_block-not_block : {b : Block} → ◌≡◌ {A = Option (Option Block)} (Some None) (Some (Some b)) → ⊥
no_block-not_block e = cc

-- a place has at most one block
place-one_block : {b c : Block} → ◌≡◌ {A = Option (Option Block)} (Some (Some b)) (Some (Some c)) → b ≡ c
place-one_block e = cc

-- an element of a list is at an index below its length
slice_get-within : {A : Type 0} (l : List A) (i : ℕ) (a : A) → slice_get l i ≡ Some a → i < length l
slice_get-within l i a e = slice_get_within l i a e

-- a choice between None and None is None
cond-none : (b : Bool) → ◌≡◌ {A = Option Block} (cond b None None) None
cond-none true = refl
cond-none false = refl

-- nothing is kept of a slot whose number isn't filed, or is taken
kept-none : (f t : ℕ) (xs : List (Option Block)) (n : ℕ) → (f ≡ 0) ⊎ (t ≡ 1) → kept f t xs n ≡ None
kept-none f t xs n (inl e) = ap (λ (y : ℕ). kept y t xs n) e
kept-none f t xs n (inr e) = ap (λ (y : ℕ). kept f y xs n) e ∙ cond-none (f == 1)

-- a board of `total` numbers is closed: `items` has what is kept of its words `ws` and slots `xs`, which are those of
-- the last state of its table, in which the bench `id`, which closes it, has the view v
pub record IsClosed (width id : ℕ) (v : View) (ws : List ℕ) (xs items : List (Option Block)) (total : ℕ) : Type 0 where
  pub long : length xs ≡ total
  pub last : Final (Seen (Holds width) id v) ws xs
  pub each : AreKept ws xs total items

module _ {width id : ℕ} {v : View} {ws : List ℕ} {xs items : List (Option Block)} {total : ℕ}
    (closed : IsClosed width id v ws xs items total) where
  -- the slots of the last state
  abbrev homes : Homes
  homes = closed.last.0.homes

  -- the views of the benches in the last state
  abbrev views : List View
  views = closed.last.0.views

  -- the contents of the last state
  abbrev K : ℕ → Option Block
  K = closed.last.1.0.1.0

  -- the bit `filed` of a number
  abbrev F : ℕ → ℕ
  F = bit_of 1 ws

  -- the bit `taken` of a number
  abbrev T : ℕ → ℕ
  T = bit_of 2 ws

  -- the invariant of the last state
  r : BoardInvariant total (bit_of 3 ws) (bit_of 0 ws) F T K (IsEmpty homes) (IsFilled homes) views
  r = subst (λ (z : ℕ × List ℕ). BoardInvariant z.0 (bit_of 3 z.1) (bit_of 0 z.1) (bit_of 1 z.1) (bit_of 2 z.1) K
      (IsEmpty homes) (IsFilled homes) views)
      (λ i. ((closed.last.3 ∙ closed.long) i, closed.last.2 i)) closed.last.1.0.1.1

  -- the bench that closes the board has the view v in the last state
  get_elem-own_view : get_elem? views id ≡ some v
  get_elem-own_view = closed.last.1.1

  -- the place of a number that is filed and not taken has its content; any other place has no block (`place-no_block`)
  place-untaken : (n : ℕ) (b : Block) → n < total → F n ≡ 1 → T n ≡ 0 → K n ≡ Some b → slice_get items n ≡ Some (Some b)
  place-untaken n b low f t k =
      let w = r.contents.filed_is_stored n f t in let same : w.0 ≡ b = content-one (K n) w.0 b w.1 k in
      let there : get_elem? xs n ≡ some (Some w.0) = closed.last.4 n (Some w.0) w.2 in
      closed.each n low ∙ ap (λ (o : Option Block). Some o) (ap (λ (y : ℕ). kept y (T n) xs n) f
      ∙ (ap (λ (y : ℕ). kept 1 y xs n) t ∙ (get_elem-get_or xs n (Some w.0) None there
      ∙ ap (λ (y : Block). Some y) same)))

  -- the place of a number that isn't filed, or is taken, has no block
  place-no_block : (n : ℕ) → n < total → (F n ≡ 0) ⊎ (T n ≡ 1) → slice_get items n ≡ Some None
  place-no_block n low h = closed.each n low ∙ ap (λ (o : Option Block). Some o) (kept-none (F n) (T n) xs n h)

  -- a block that the bench filed is the content of a filed number below `total`
  filed-of_listed : (n : ℕ) (b : Block) → HasPair v.list n b → (n < total) × (F n ≡ 1) × (K n ≡ Some b)
  filed-of_listed n b has =
      let some_of = occurrences-of_pair v.list n b has in let small = bit_of-at_most_one 1 ws n in
      let f : F n ≡ 1 = dite (ℕ_discrete (F n) 0)
      (λ z. absurd (omega (
        arith,
        some_of,
        unlisted total (bit_of 3 ws) (bit_of 0 ws) F T K (IsEmpty homes)
            (IsFilled homes) views r id v get_elem-own_view n z,
      ))) (λ ne. omega (arith, ne, small)) in (
        r.stages.in_range n (omega (arith, f, r.stages.pending_once n)),
        f,
        r.contents.listed id v get_elem-own_view n b
            has,
      )

  -- each block that the bench filed is at its place, or the place has no block
  pub HasList-closed : (n : ℕ) (b : Block) → HasPair v.list n b
      → (slice_get items n ≡ Some (Some b)) ⊎ (slice_get items n
      ≡ Some None)
  HasList-closed n b has = let l = filed-of_listed n b has in let small = bit_of-at_most_one 2 ws n in
      dite (ℕ_discrete (T n) 0) (λ z. inl (place-untaken n b l.0 l.1 z l.2))
      (λ ne. inr (place-no_block n l.0 (inr (omega (arith, ne, small)))))

  -- the place of each number that the bench took has no block
  pub LacksTakes-closed : (n : ℕ) → 0 < occurrences n (numbers v.takes) → slice_get items n ≡ Some None
  LacksTakes-closed n h = let t = is_taken total (bit_of 3 ws) (bit_of 0 ws) F T K (IsEmpty homes)
      (IsFilled homes) views
      r id v get_elem-own_view n h in
      place-no_block n (r.stages.in_range n (omega (arith, t, r.stages.taken_is_filed n, r.stages.pending_once n)))
      (inr t)

  -- the bench filed, and saw others file, at most as many numbers as are filed
  pub list_length-bound : missing_count v.filed (numbers v.list) total + length v.list ≤ sum_below F total
  list_length-bound = list_length_bound total (bit_of 3 ws) (bit_of 0 ws) F T K (IsEmpty homes)
      (IsFilled homes) views r
      id v
      get_elem-own_view

  -- the bench took, and saw others take, at most as many numbers as are taken
  pub takes_length-bound : missing_count v.taken (numbers v.takes) total + length v.takes ≤ sum_below T total
  takes_length-bound = takes_length_bound total (bit_of 3 ws) (bit_of 0 ws) F T K (IsEmpty homes)
      (IsFilled homes) views r
      id v
      get_elem-own_view

  -- the case that the bench has the whole share: it did all that was done
  module _ (all : IsWholeShare v.share) where
    -- a bench with the whole share filed all numbers that are filed
    pub filed_sum-whole_share : sum_below F total ≡ length v.list
    filed_sum-whole_share = whole_listed total (bit_of 3 ws) (bit_of 0 ws) F T K (IsEmpty homes)
        (IsFilled homes) views r id
        v get_elem-own_view all

    -- a bench with the whole share took all numbers that are taken
    pub taken_sum-whole_share : sum_below T total ≡ length v.takes
    taken_sum-whole_share = whole_taken total (bit_of 3 ws) (bit_of 0 ws) F T K (IsEmpty homes)
        (IsFilled homes) views r id v
        get_elem-own_view all

    -- a number that was seen claimed, filed or taken is claimed
    claimed-of_seen : (n : ℕ) → 1 ≤ rank (seen v n) → bit_of 0 ws n ≡ 1
    claimed-of_seen n h = let b = r.stages.bit n in let p = r.stages.pending_once n in let t =
        r.stages.taken_is_filed n in
        dite (ℕ_discrete (occurrences n v.taken) 0)
        (λ a. dite (ℕ_discrete (occurrences n v.filed) 0)
        (λ c. dite (ℕ_discrete (occurrences n v.claimed) 0)
        (λ d. let z : rank (seen v n) ≡ 0 = ap rank (seen-Free v n a c d) in absurd (omega (arith, h, z)))
        (λ ne. r.stages.saw_claimed id v get_elem-own_view n (omega (arith, ne))))
        (λ ne. let f = r.stages.saw_filed id v get_elem-own_view n (omega (arith, ne)) in omega (arith, b, p, f)))
        (λ ne. let f = r.stages.saw_taken id v get_elem-own_view n (omega (arith, ne)) in omega (arith, b, p, t, f))

    -- with nothing pending, it did all that it has seen done
    pub DidAll-whole_share : v.pending ≡ [] → DidAll v
    DidAll-whole_share none = record {
      draws = λ d h. sym (own_draws total (bit_of 3 ws) (bit_of 0 ws) F T K (IsEmpty homes) (IsFilled homes) views
          r id v get_elem-own_view all d) ∙ r.draws.found id v get_elem-own_view d h;
      list = λ n h. let p : occurrences n v.pending ≡ 0 = ap (occurrences n) none in
          omega (
            arith,
            own_claims total (bit_of 3 ws) (bit_of 0 ws) F T K (IsEmpty homes) (IsFilled homes) views r
                id v get_elem-own_view all n,
            claimed-of_seen n h,
            p,
          );
      takes = λ n h. sym (own_takes total (bit_of 3 ws) (bit_of 0 ws) F T K (IsEmpty homes) (IsFilled homes) views
          r id v get_elem-own_view all n) ∙ r.stages.saw_taken id v get_elem-own_view n h;
    }

  -- if all taken numbers were taken by the bench, a block that it filed and didn't take is at its place
  pub HasUntaken-closed : (n : ℕ) (b : Block) → sum_below T total ≤ length v.takes → HasPair v.list n b
      → occurrences n (numbers v.takes) ≡ 0 → slice_get items n ≡ Some (Some b)
  HasUntaken-closed n b all has none = let l = filed-of_listed n b has in
      place-untaken n b l.0 l.1 (all_taken total (bit_of 3 ws) (bit_of 0 ws) F T K (IsEmpty homes)
      (IsFilled homes) views r
      id v get_elem-own_view all n l.0 ∙ none) l.2

  -- if all filed numbers were filed by the bench, the place of a number that it didn't file has no block
  pub LacksOthers-closed : (n : ℕ) → sum_below F total ≤ length v.list → n < total → occurrences n (numbers v.list) ≡ 0
      → slice_get items n ≡ Some None
  LacksOthers-closed n all low none = place-no_block n low
      (inl (all_listed total (bit_of 3 ws) (bit_of 0 ws) F T K (IsEmpty homes)
      (IsFilled homes) views r id v get_elem-own_view all n low ∙ none))

  -- the block at a place is the content of its number
  content-of_place : (n : ℕ) (b : Block) → n < total → HasBlock items n b → K n ≡ Some b
  content-of_place n b low has = let o = r.stages.taken_is_filed n in let f = bit_of-at_most_one 1 ws n in
      dite (ℕ_discrete (F n) 0) (λ z. absurd (no_block-not_block (sym (place-no_block n low (inl z)) ∙ has)))
      (λ ne. dite (ℕ_discrete (T n) 0)
      (λ z. let w = r.contents.filed_is_stored n (omega (arith, ne, f)) z in
      w.1 ∙ ap (λ (y : Block). Some y) (place-one_block (sym (place-untaken n w.0 low (omega (arith, ne, f)) z w.1)
      ∙ has)))
      (λ nt. absurd (no_block-not_block (sym (place-no_block n low (inr (omega (arith, nt, o, f)))) ∙ has))))

  -- each block is at the place of its number
  pub AreNumbered-closed : length items ≡ total → (n : ℕ) (b : Block) → HasBlock items n b → b.number ≡ n
  AreNumbered-closed long_items n b has = closed.last.1.0.1.2 n b
      (content-of_place n b (omega (arith, long_items, slice_get-within items n (Some b) has)) has)

  -- if all filed numbers were filed by the bench, each block at a place was filed by it
  pub HasOnlyList-closed : length items ≡ total → sum_below F total ≤ length v.list → (n : ℕ) (b : Block)
      → HasBlock items n b
      → HasPair v.list n b
  HasOnlyList-closed long_items all n b has =
      let low : n < total = omega (arith, long_items, slice_get-within items n (Some b) has) in
      dite (ℕ_discrete (occurrences n (numbers v.list)) 0)
      (λ z. absurd (no_block-not_block (sym (LacksOthers-closed n all low z) ∙ has)))
      (λ ne. let pair = HasPair-of_occurrences v.list n (omega (arith, ne)) in
      let same : pair.0 ≡ b = content-one (K n) pair.0 b (filed-of_listed n pair.0 pair.1).2
      (content-of_place n b low has) in
      subst (λ (y : Block). HasPair v.list n y) same pair.1)

  -- a number is filed exactly if its place has a block or it is taken, which is never both
  filled_at-plus_taken : (n : ℕ) → n < total → filled_at items n + T n ≡ F n
  filled_at-plus_taken n low = let o = r.stages.taken_is_filed n in let f = bit_of-at_most_one 1 ws n in
      dite (ℕ_discrete (F n) 0) (λ z. let e : filled_at items n ≡ 0 = ap filled_bit (place-no_block n low (inl z)) in
      omega (arith, e, z, o))
      (λ ne. dite (ℕ_discrete (T n) 0)
      (λ z. let w = r.contents.filed_is_stored n (omega (arith, ne, f)) z in let e : filled_at items n ≡ 1 = ap
      filled_bit
      (place-untaken n w.0 low (omega (arith, ne, f)) z w.1) in omega (arith, e, z, ne, f))
      (λ nt. let e : filled_at items n ≡ 0 = ap filled_bit (place-no_block n low (inr (omega (arith, nt, o, f)))) in
      omega (arith, e, nt, ne, f, o)))

  -- the places with a block and the taken numbers are as many as the filed numbers
  pub filled_count-plus_taken : length items ≡ total → filled_count items + sum_below T total ≡ sum_below F total
  filled_count-plus_taken long_items = ap (λ (m : ℕ). sum_below (filled_at items) m + sum_below T total) long_items
      ∙ sym (sum_below-plus (filled_at items) T total) ∙ sum_below-agree (λ n. filled_at items n + T n) F total
      filled_at-plus_taken

  -- at most `total` numbers are filed
  pub filed_sum-limit : sum_below F total ≤ total
  filed_sum-limit = sum_below-limit F total (bit_of-at_most_one 1 ws)
