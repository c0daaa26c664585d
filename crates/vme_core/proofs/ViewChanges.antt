-- Each part of the invariant is preserved if one view changes, one is added, or two are joined.
use Rattle.std.proofs.Common.{◌≡◌, ℕ, zero, suc, ◌+◌, ◌<◌, ◌≤◌, ◌≢◌, List, [], ◌∷◌, ◌++◌, length, set, sym, refl, ap}
use Rattle.std.proofs.Common.{◌∙◌, arith, subst, ⊎_elim, le_refl, Option, Some, None}
use mathlib.Core.Option.{some, some-injective, some-ne-none}
use lib.ListN.{get_elem?}
use Rattle.vme_trace.specs.declared.block.Block.{Block}
use Rattle.vme_core.specs.declared.view.View.{View}
use Rattle.std.specs.Prelude.{sum_by}
use Rattle.std.proofs.lemmas.List.Sums.{sum_by_push}
use Rattle.vme_core.specs.Counting.{occurrences, numbers, HasPair}
use Rattle.vme_core.specs.Views.{first_view, kept_view, split_view}
use Rattle.vme_core.specs.BoardInvariant.{DrawInvariant, StageInvariant, ContentInvariant, HasNothing, ShareInvariant}
use Rattle.vme_core.specs.Shares.{weight, FitsIn, kept_share}
use Rattle.vme_core.proofs.ShareSums.{FitsIn-append, weight-append, FitsIn-kept_share, FitsIn-split_share, weight-split}
use Rattle.vme_core.proofs.ShareSums.{AllWhole-finer}
use mathlib.Core.Logic.{dite}
use native.Mathlib.Decide.{ℕ_discrete}
use Rattle.vme_core.proofs.Sums.{sum_by-set, get_elem-of_set, get_elem-of_push, get_elem-set_other}
use Rattle.vme_core.proofs.Sums.{occurrences-cons_other, occurrences-append, each-by_cases}

-- a list with an element isn't empty
pub cons-not_empty : {x : ℕ} {xs : List ℕ} → x ∷ xs ≡ [] → ⊥
cons-not_empty z = omega (arith, ap length z)

-- F holds of each view after the view i became w, if it held of each view before, and holds of w
pub each-after_set : (F : View → Type 0) (vs : List View) (i : ℕ) (w : View) → F w
    → ((j : ℕ) (u : View) → get_elem? vs j
    ≡ some u → F u) → (j : ℕ) (u : View) → get_elem? (set vs i w) j ≡ some u → F u
each-after_set F vs i w new old j u e = ⊎_elim (λ t. subst F t.1 new) (λ t. old j u t.1) (get_elem-of_set vs i j w u e)

-- F holds of each view after the view w was added, if it held of each view before, and holds of w
pub each-after_append : (F : View → Type 0) (vs : List View) (w : View) → F w
    → ((j : ℕ) (u : View) → get_elem? vs j ≡ some u
    → F u) → (j : ℕ) (u : View) → get_elem? (vs ++ w ∷ []) j ≡ some u → F u
each-after_append F vs w new old j u e = ⊎_elim (λ a. old j u a) (λ a. subst F a new) (get_elem-of_push vs w u j e)

-- F holds of each view after the views i and j became b and s, if it held of each view before, and holds of b and s
each-after_two_set : (F : View → Type 0) (vs : List View) (i j : ℕ) (b s : View) → F b → F s
    → ((k : ℕ) (u : View) → get_elem? vs k ≡ some u → F u) → (k : ℕ) (u : View) → get_elem? (set (set vs i b) j s) k
    ≡ some u → F u
each-after_two_set F vs i j b s mine spent old = each-after_set F (set vs i b) j s spent
    (each-after_set F vs i b mine old)

-- the sum of g doesn't change if the views i and j change and the sum over these two doesn't
pub sum_by-two_set : (g : View → ℕ) (vs : List View) (i j : ℕ) (v w b s : View) → get_elem? vs i ≡ some v → j ≢ i
    → get_elem? vs j ≡ some w → g b + g s ≡ g v + g w → sum_by g (set (set vs i b) j s) ≡ sum_by g vs
sum_by-two_set g vs i j v w b s e ne f same = omega (
  arith,
  sum_by-set g vs i v b e,
  sum_by-set g (set vs i b) j w s
      (get_elem-set_other vs i j b ne ∙ f),
  same,
)

-- a share that is empty after a split was empty before
kept_share-empty : (es : List ℕ) → kept_share es ≡ [] → es ≡ []
kept_share-empty [] z = refl
kept_share-empty (e ∷ es) z = absurd (cons-not_empty z)

-- two lists that, appended, are empty are both empty
append-empty : (xs ys : List ℕ) → xs ++ ys ≡ [] → (xs ≡ []) × (ys ≡ [])
append-empty [] ys z = (refl, z)
append-empty (x ∷ xs) ys z = absurd (cons-not_empty z)

module _ (drawn : ℕ → ℕ) (vs : List View) (r : DrawInvariant drawn vs) where
  -- `DrawInvariant` holds after the view i became w, if w has won, beyond what it had, just the draws that are newly
  -- drawn, and has found drawn draws alone
  pub DrawInvariant-set : (drawn' : ℕ → ℕ) (i : ℕ) (v w : View) → get_elem? vs i ≡ some v → ((d : ℕ) → drawn' d ≤ 1)
      → ((d : ℕ) → drawn d ≤ drawn' d)
      → ((d : ℕ) → occurrences d w.draws + drawn d ≡ occurrences d v.draws + drawn' d)
      → ((d : ℕ) → 0 < occurrences d w.found → drawn' d ≡ 1) → DrawInvariant drawn' (set vs i w)
  DrawInvariant-set drawn' i v w e bit more count found = record {
    bit = bit;
    won_once = λ d. omega (arith, sum_by-set (λ (u : View). occurrences d u.draws) vs i v w e, r.won_once d, count d);
    found = each-after_set (λ u. (d : ℕ) → 0 < occurrences d u.found → drawn' d ≡ 1) vs i w found
        (λ j u there d saw. omega (arith, r.found j u there d saw, bit d, more d));
  }

  -- `DrawInvariant` holds after a view w was added that has won no draw and found drawn draws alone
  pub DrawInvariant-append : (w : View) → ((d : ℕ) → occurrences d w.draws ≡ 0)
      → ((d : ℕ) → 0 < occurrences d w.found → drawn d
      ≡ 1) → DrawInvariant drawn (vs ++ w ∷ [])
  DrawInvariant-append w none found = record {
    bit = r.bit;
    won_once = λ d. omega (arith, sum_by_push (λ (u : View). occurrences d u.draws) vs w, r.won_once d, none d);
    found = each-after_append (λ u. (d : ℕ) → 0 < occurrences d u.found → drawn d ≡ 1) vs w found r.found;
  }

  -- `DrawInvariant` holds after the views i and j became b and s, which together have won the draws that the two had
  -- won, and have found drawn draws alone
  pub DrawInvariant-join : (i j : ℕ) (v w b s : View) → get_elem? vs i ≡ some v → j ≢ i → get_elem? vs j ≡ some w
      → ((d : ℕ) → occurrences d b.draws + occurrences d s.draws ≡ occurrences d v.draws + occurrences d w.draws)
      → ((d : ℕ) → 0 < occurrences d b.found → drawn d ≡ 1) → ((d : ℕ) → 0 < occurrences d s.found → drawn d ≡ 1)
      → DrawInvariant drawn (set (set vs i b) j s)
  DrawInvariant-join i j v w b s e ne f same mine spent = record {
    bit = r.bit;
    won_once = λ d. omega (
      arith,
      sum_by-two_set (λ (u : View). occurrences d u.draws) vs i j v w b s e ne f (same d),
      r.won_once d,
    );
    found = each-after_two_set (λ u. (d : ℕ) → 0 < occurrences d u.found → drawn d ≡ 1) vs i j b s mine spent r.found;
  }

module _ (vs : List View) (r : ShareInvariant vs) where
  -- `ShareInvariant` holds if one view changes to w, but not its share, and w satisfies `HasNothing` if the share is
  -- empty
  pub ShareInvariant-set : (i : ℕ) (v w : View) → get_elem? vs i ≡ some v → w.share ≡ v.share
      → (v.share ≡ [] → HasNothing w)
      → ShareInvariant (set vs i w)
  ShareInvariant-set i v w e same none = record {
    k = r.k;
    fit = each-after_set (λ u. FitsIn r.k u.share) vs i w (subst (FitsIn r.k) (sym same) (r.fit i v e)) r.fit;
    whole = omega (arith, sum_by-set (λ (u : View). weight r.k u.share) vs i v w e, r.whole, ap (weight r.k) same);
    no_share_has_nothing = each-after_set (λ u. u.share ≡ [] → HasNothing u) vs i w (λ z. none (sym same ∙ z))
        r.no_share_has_nothing;
  }

  -- `ShareInvariant` holds after a view was added that has no share and nothing else
  pub ShareInvariant-append : (w : View) → w.share ≡ [] → HasNothing w → ShareInvariant (vs ++ w ∷ [])
  ShareInvariant-append w lacks none = record {
    k = r.k;
    fit = each-after_append (λ u. FitsIn r.k u.share) vs w (subst (FitsIn r.k) (sym lacks) tt) r.fit;
    whole = omega (arith, sum_by_push (λ (u : View). weight r.k u.share) vs w, r.whole, ap (weight r.k) lacks);
    no_share_has_nothing = each-after_append (λ u. u.share ≡ [] → HasNothing u) vs w (λ _. none) r.no_share_has_nothing;
  }

  -- `ShareInvariant` holds after a split
  pub ShareInvariant-split : (i : ℕ) (v : View) → get_elem? vs i ≡ some v
      → ShareInvariant (set vs i (kept_view v) ++ split_view v ∷ [])
  ShareInvariant-split i v e = let f = r.fit i v e in let more =
      AllWhole-finer (λ (u : View). u.share) r.k vs (r.fit, r.whole) in
      let n : ℕ = suc r.k in let ws : List View = set vs i (kept_view v) in record {
        k = n;
        fit = each-after_append (λ u. FitsIn n u.share) ws (split_view v) (FitsIn-split_share r.k v.share f)
            (each-after_set (λ u. FitsIn n u.share) vs i (kept_view v) (FitsIn-kept_share r.k v.share f) more.0);
        whole = omega (
          arith,
          sum_by_push (λ (u : View). weight n u.share) ws (split_view v),
          sum_by-set (λ (u : View). weight n u.share) vs i v (kept_view v) e,
          more.1,
          weight-split r.k v.share f,
        );
        no_share_has_nothing = each-after_append (λ u. u.share ≡ [] → HasNothing u) ws (split_view v)
            (λ _. record { list = refl; takes = refl; draws = refl; pending = refl })
            (each-after_set (λ u. u.share ≡ [] → HasNothing u) vs i (kept_view v)
            (λ z. let h = r.no_share_has_nothing i v e (kept_share-empty v.share z) in
            record { list = h.list; takes = h.takes; draws = h.draws; pending = h.pending }) r.no_share_has_nothing);
      }

  -- `ShareInvariant` holds after a join: b has both shares, and s has none
  pub ShareInvariant-join : (i j : ℕ) (v w b s : View) → get_elem? vs i ≡ some v → j ≢ i → get_elem? vs j ≡ some w
      → b.share
      ≡ v.share ++ w.share → s.share ≡ [] → HasNothing s → (v.share ≡ [] → w.share ≡ [] → HasNothing b)
      → ShareInvariant (set (set vs i b) j s)
  ShareInvariant-join i j v w b s e ne g both lacks spent none = let k : ℕ = r.k in record {
    k = k;
    fit = each-after_two_set (λ u. FitsIn k u.share) vs i j b s
        (subst (FitsIn k) (sym both) (FitsIn-append k v.share w.share (r.fit i v e) (r.fit j w g)))
        (subst (FitsIn k) (sym lacks) tt) r.fit;
    whole = omega (
      arith,
      sum_by-two_set (λ (u : View). weight k u.share) vs i j v w b s e ne g
          (omega (arith, ap (weight k) both, ap (weight k) lacks, weight-append k v.share w.share)),
      r.whole,
    );
    no_share_has_nothing = each-after_two_set (λ u. u.share ≡ [] → HasNothing u) vs i j b s
        (λ z. let parts = append-empty v.share w.share
        (sym both ∙ z) in none parts.0 parts.1) (λ _. spent) r.no_share_has_nothing;
  }

-- what the view w has seen is so
pub record Sighted (c f t : ℕ → ℕ) (w : View) : Type 0 where
  pub claimed : (n : ℕ) → 0 < occurrences n w.claimed → c n ≡ 1
  pub filed : (n : ℕ) → 0 < occurrences n w.filed → f n ≡ 1
  pub taken : (n : ℕ) → 0 < occurrences n w.taken → t n ≡ 1

-- c, f and t are the bits `claimed`, `filed` and `taken`
module _ (limit : ℕ) (c f t : ℕ → ℕ) (vs : List View) (r : StageInvariant limit c f t vs) where
  -- what each view has seen is so
  pub Sighted-each : (i : ℕ) (v : View) → get_elem? vs i ≡ some v → Sighted c f t v
  Sighted-each i v e = record { claimed = r.saw_claimed i v e; filed = r.saw_filed i v e; taken = r.saw_taken i v e }

  -- `StageInvariant` holds after the view i became w and the bits c', f' and t', if these bits are in order and none
  -- went back, w differs in what it has pending, filed and took by just what the bits gained, and what it has seen is
  -- so
  pub StageInvariant-set : (c' f' t' : ℕ → ℕ) (i : ℕ) (v w : View) → get_elem? vs i ≡ some v → ((n : ℕ) → c' n ≤ 1)
      → ((n : ℕ) → 0 < c' n → n < limit) → ((n : ℕ) → t' n ≤ f' n)
      → ((n : ℕ) → c n ≤ c' n) → ((n : ℕ) → f n ≤ f' n) → ((n : ℕ) → t n ≤ t' n)
      → ((n : ℕ) → occurrences n w.pending + f' n + c n ≡ occurrences n v.pending + f n + c' n)
      → ((n : ℕ) → occurrences n (numbers w.list) + f n ≡ occurrences n (numbers v.list) + f' n)
      → ((n : ℕ) → occurrences n (numbers w.takes) + t n ≡ occurrences n (numbers v.takes) + t' n) → Sighted c' f' t' w
      → StageInvariant limit c' f' t' (set vs i w)
  StageInvariant-set c' f' t' i v w e bit within order mc mf mt pend list take saw =
      let pends : (n : ℕ) → sum_by (λ (u : View). occurrences n u.pending) (set vs i w) + f' n ≡ c' n = λ n. omega
      (arith, sum_by-set (λ (u : View). occurrences n u.pending) vs i v w e, r.pending_once n, pend n) in record {
        bit = bit;
        in_range = within;
        taken_is_filed = order;
        pending_once = pends;
        filed_once = λ n. omega (
          arith,
          sum_by-set (λ (u : View). occurrences n (numbers u.list)) vs i v w e,
          r.filed_once n,
          list n,
        );
        taken_once = λ n. omega (
          arith,
          sum_by-set (λ (u : View). occurrences n (numbers u.takes)) vs i v w e,
          r.taken_once n,
          take n,
        );
        saw_claimed = each-after_set (λ u. (n : ℕ) → 0 < occurrences n u.claimed → c' n ≡ 1) vs i w saw.claimed
            (λ j u there n s. omega (arith, r.saw_claimed j u there n s, bit n, mc n));
        saw_filed = each-after_set (λ u. (n : ℕ) → 0 < occurrences n u.filed → f' n ≡ 1) vs i w saw.filed
            (λ j u there n s. omega (arith, r.saw_filed j u there n s, bit n, mf n, pends n));
        saw_taken = each-after_set (λ u. (n : ℕ) → 0 < occurrences n u.taken → t' n ≡ 1) vs i w saw.taken
            (λ j u there n s. omega (arith, r.saw_taken j u there n s, bit n, mt n, order n, pends n));
      }

  -- `StageInvariant` holds if one view saw other numbers, which satisfy `Sighted`, and nothing else changed
  pub StageInvariant-saw : (i : ℕ) (v w : View) → get_elem? vs i ≡ some v → ((n : ℕ) → occurrences n w.pending
      ≡ occurrences n v.pending) → ((n : ℕ) → occurrences n (numbers w.list) ≡ occurrences n (numbers v.list))
      → ((n : ℕ) → occurrences n (numbers w.takes) ≡ occurrences n (numbers v.takes))
      → Sighted c f t w → StageInvariant limit c f t (set vs i w)
  StageInvariant-saw i v w e p l k saw = StageInvariant-set c f t i v w e r.bit r.in_range r.taken_is_filed
      (λ n. le_refl _)
      (λ n. le_refl _) (λ n. le_refl _) (λ n. omega (arith, p n)) (λ n. omega (arith, l n)) (λ n. omega (arith, k n))
      saw

  -- `StageInvariant` holds after a view w was added that has nothing pending, filed and took no number, and satisfies
  -- `Sighted`
  pub StageInvariant-append : (w : View) → ((n : ℕ) → occurrences n w.pending ≡ 0)
      → ((n : ℕ) → occurrences n (numbers w.list)
      ≡ 0) → ((n : ℕ) → occurrences n (numbers w.takes) ≡ 0) → Sighted c f t w → StageInvariant limit c f t
      (vs ++ w ∷ [])
  StageInvariant-append w p l k saw = record {
    bit = r.bit;
    in_range = r.in_range;
    taken_is_filed = r.taken_is_filed;
    pending_once = λ n. omega (arith, sum_by_push (λ (u : View). occurrences n u.pending) vs w, r.pending_once n, p n);
    filed_once = λ n. omega (
      arith,
      sum_by_push (λ (u : View). occurrences n (numbers u.list)) vs w,
      r.filed_once n,
      l n,
    );
    taken_once = λ n. omega (
      arith,
      sum_by_push (λ (u : View). occurrences n (numbers u.takes)) vs w,
      r.taken_once n,
      k n,
    );
    saw_claimed = each-after_append (λ u. (n : ℕ) → 0 < occurrences n u.claimed → c n
        ≡ 1) vs w saw.claimed r.saw_claimed;
    saw_filed = each-after_append (λ u. (n : ℕ) → 0 < occurrences n u.filed → f n ≡ 1) vs w saw.filed r.saw_filed;
    saw_taken = each-after_append (λ u. (n : ℕ) → 0 < occurrences n u.taken → t n ≡ 1) vs w saw.taken r.saw_taken;
  }

  -- `StageInvariant` holds after the views i and j became b and s, which together have the same numbers pending, filed
  -- and taken as the two had, and satisfy `Sighted`
  pub StageInvariant-join : (i j : ℕ) (v w b s : View) → get_elem? vs i ≡ some v → j ≢ i → get_elem? vs j ≡ some w
      → ((n : ℕ) → occurrences n b.pending + occurrences n s.pending ≡ occurrences n v.pending + occurrences n
      w.pending)
      → ((n : ℕ) → occurrences n (numbers b.list) + occurrences n (numbers s.list) ≡ occurrences n (numbers v.list) +
      occurrences n (numbers w.list))
      → ((n : ℕ) → occurrences n (numbers b.takes) + occurrences n (numbers s.takes) ≡ occurrences n (numbers v.takes) +
      occurrences n (numbers w.takes)) → Sighted c f t b → Sighted c f t s → StageInvariant limit c f t
      (set (set vs i b) j s)
  StageInvariant-join i j v w b s e ne has p l k mine spent = record {
    bit = r.bit;
    in_range = r.in_range;
    taken_is_filed = r.taken_is_filed;
    pending_once = λ n. omega (
      arith,
      sum_by-two_set (λ (u : View). occurrences n u.pending) vs i j v w b s e ne has (p n),
      r.pending_once n,
    );
    filed_once = λ n. omega (
      arith,
      sum_by-two_set (λ (u : View). occurrences n (numbers u.list)) vs i j v w b s e ne has
          (l n),
      r.filed_once n,
    );
    taken_once = λ n. omega (
      arith,
      sum_by-two_set (λ (u : View). occurrences n (numbers u.takes)) vs i j v w b s e ne has
          (k n),
      r.taken_once n,
    );
    saw_claimed = each-after_two_set (λ u. (n : ℕ) → 0 < occurrences n u.claimed → c n
        ≡ 1) vs i j b s mine.claimed spent.claimed
        r.saw_claimed;
    saw_filed = each-after_two_set (λ u. (n : ℕ) → 0 < occurrences n u.filed → f n
        ≡ 1) vs i j b s mine.filed spent.filed
        r.saw_filed;
    saw_taken = each-after_two_set (λ u. (n : ℕ) → 0 < occurrences n u.taken → t n
        ≡ 1) vs i j b s mine.taken spent.taken
        r.saw_taken;
  }

-- each block that the view w filed or took is the content of its number
pub record Holding (content : ℕ → Option Block) (w : View) : Type 0 where
  pub listed : (n : ℕ) (b : Block) → HasPair w.list n b → content n ≡ Some b
  pub took : (n : ℕ) (b : Block) → HasPair w.takes n b → content n ≡ Some b

-- the part of `ContentInvariant` that isn't about views: how the bits, the contents and the slots agree
pub record Placed (c f t : ℕ → ℕ) (K : ℕ → Option Block) (E : ℕ → Type 0) (H : ℕ → Block → Type 0) : Type 0 where
  pub free_is_empty : (n : ℕ) → c n ≡ 0 → E n
  pub unfiled_is_none : (n : ℕ) → f n ≡ 0 → K n ≡ None
  pub filed_is_stored : (n : ℕ) → f n ≡ 1 → t n ≡ 0 → (b : Block) × (K n ≡ Some b) × H n b
  pub stored_is_filed : (n : ℕ) (b : Block) → H n b → (f n ≡ 1) × (t n ≡ 0) × (K n ≡ Some b)

-- c, f and t are the bits `claimed`, `filed` and `taken`, K is `content`, E is `IsEmpty`, and H is `IsFilled`
module _ (c f t : ℕ → ℕ) (K : ℕ → Option Block) (E : ℕ → Type 0) (H : ℕ → Block → Type 0) (vs : List View)
    (r : ContentInvariant c f t K E H vs) where
  -- `ContentInvariant` implies `Placed`, the part that isn't about views
  pub Placed-contents : Placed c f t K E H
  Placed-contents = record {
    free_is_empty = r.free_is_empty;
    unfiled_is_none = r.unfiled_is_none;
    filed_is_stored
        = r.filed_is_stored;
    stored_is_filed = r.stored_is_filed;
  }

  -- the blocks that each view filed or took are the contents of their numbers
  pub Holding-each : (i : ℕ) (v : View) → get_elem? vs i ≡ some v → Holding K v
  Holding-each i v e = record { listed = r.listed i v e; took = r.took i v e }

  -- `ContentInvariant` holds after the view i became w, and the bits, contents and slots others that satisfy `Placed`,
  -- if no content was lost and w satisfies `Holding`
  pub ContentInvariant-set : (c' f' t' : ℕ → ℕ) (K' : ℕ → Option Block) (E' : ℕ → Type 0) (H' : ℕ → Block → Type 0)
      (i : ℕ)
      (w : View) → Placed c' f' t' K' E' H' → ((n : ℕ) (b : Block) → K n ≡ Some b → K' n ≡ Some b) → Holding K' w
      → ContentInvariant c' f' t' K' E' H' (set vs i w)
  ContentInvariant-set c' f' t' K' E' H' i w p stays mine = record {
    free_is_empty = p.free_is_empty;
    unfiled_is_none = p.unfiled_is_none;
    filed_is_stored = p.filed_is_stored;
    stored_is_filed = p.stored_is_filed;
    listed = each-after_set (λ u. (n : ℕ) (b : Block) → HasPair u.list n b → K' n ≡ Some b) vs i w mine.listed
        (λ j u there n b has. stays n b (r.listed j u there n b has));
    took = each-after_set (λ u. (n : ℕ) (b : Block) → HasPair u.takes n b → K' n ≡ Some b) vs i w mine.took
        (λ j u there n b has. stays n b (r.took j u there n b has));
  }

  -- `ContentInvariant` holds if one view changes to w, which satisfies `Holding`, and no bit, content or slot changes
  pub ContentInvariant-saw : (i : ℕ) (w : View) → Holding K w → ContentInvariant c f t K E H (set vs i w)
  ContentInvariant-saw i w mine = ContentInvariant-set c f t K E H i w Placed-contents (λ _ _ h. h) mine

  -- `ContentInvariant` holds after a view was added that satisfies `Holding`
  pub ContentInvariant-append : (w : View) → Holding K w → ContentInvariant c f t K E H (vs ++ w ∷ [])
  ContentInvariant-append w mine = record {
    free_is_empty = r.free_is_empty;
    unfiled_is_none = r.unfiled_is_none;
    filed_is_stored = r.filed_is_stored;
    stored_is_filed = r.stored_is_filed;
    listed = each-after_append (λ u. (n : ℕ) (b : Block) → HasPair u.list n b → K n ≡ Some b) vs w mine.listed r.listed;
    took = each-after_append (λ u. (n : ℕ) (b : Block) → HasPair u.takes n b → K n ≡ Some b) vs w mine.took r.took;
  }

  -- `ContentInvariant` holds after the views i and j became b and s, which satisfy `Holding`
  pub ContentInvariant-join : (i j : ℕ) (b s : View) → Holding K b → Holding K s → ContentInvariant c f t K E H
      (set (set vs i b) j s)
  ContentInvariant-join i j b s mine spent = record {
    free_is_empty = r.free_is_empty;
    unfiled_is_none = r.unfiled_is_none;
    filed_is_stored = r.filed_is_stored;
    stored_is_filed = r.stored_is_filed;
    listed = each-after_two_set (λ u. (n : ℕ) (x : Block) → HasPair u.list n x → K n ≡ Some x) vs i j b s mine.listed
        spent.listed r.listed;
    took = each-after_two_set (λ u. (n : ℕ) (x : Block) → HasPair u.takes n x → K n
        ≡ Some x) vs i j b s mine.took spent.took
        r.took;
  }

-- if the bit of n is 1, and that of each number of a list, so is that of each number of n and the list
pub bits-cons : (c : ℕ → ℕ) (n : ℕ) (xs : List ℕ) → c n ≡ 1 → ((m : ℕ) → 0 < occurrences m xs → c m ≡ 1) → (m : ℕ)
    → 0 < occurrences m (n ∷ xs) → c m ≡ 1
bits-cons c n xs here old = each-by_cases n (λ m. 0 < occurrences m (n ∷ xs) → c m ≡ 1) (λ _. here)
    (λ m ne h. old m (omega (arith, occurrences-cons_other m n xs ne)))

-- if the bit of each number of two lists is 1, so is that of each number of both, appended
pub bits-append : (c : ℕ → ℕ) (xs ys : List ℕ) → ((m : ℕ) → 0 < occurrences m xs → c m ≡ 1)
    → ((m : ℕ) → 0 < occurrences m ys → c m ≡ 1) → (m : ℕ) → 0 < occurrences m (xs ++ ys) → c m ≡ 1
bits-append c xs ys a b m h = dite (ℕ_discrete (occurrences m xs) 0)
    (λ z. b m (omega (arith, occurrences-append m xs ys, z))) (λ nz. a m (omega arith))

-- what is in a list of one element is this element
get_elem-of_one : {A : Type 0} (a b : A) (i : ℕ) → get_elem? (a ∷ []) i ≡ some b → a ≡ b
get_elem-of_one a b zero e = some-injective a b e
get_elem-of_one a b (suc i) e = absurd (some-ne-none b (sym e))

-- what holds of `first_view` holds of each view of a board with that view alone
pub each-of_first_view : (F : View → Type 0) → F first_view → (i : ℕ) (v : View) → get_elem? (first_view ∷ []) i
    ≡ some v → F v
each-of_first_view F f i v e = subst F (get_elem-of_one first_view v i e) f

-- `ShareInvariant` holds of a board with the first view alone, which has the whole share
pub ShareInvariant-first : ShareInvariant (first_view ∷ [])
ShareInvariant-first = record {
  k = 0;
  fit = each-of_first_view (λ v. FitsIn 0 v.share) (omega arith, tt);
  whole = refl;
  no_share_has_nothing = each-of_first_view (λ v. v.share ≡ [] → HasNothing v) (λ z. absurd (cons-not_empty z));
}
