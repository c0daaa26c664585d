-- Each step of one bench preserves the invariant (`BoardInvariant`), for any source of the bits and the slots.
use Rattle.std.proofs.Common.{◌≡◌, ℕ, ◌+◌, ◌<◌, ◌≤◌, ◌≢◌, List, [], ◌∷◌, ◌++◌, length, set, sym, refl, ap, ◌∙◌, arith}
use Rattle.std.proofs.Common.{subst, ⊎_elim, le_refl, Option, Some, None}
use mathlib.Core.Option.{some}
use lib.ListN.{get_elem?}
use Rattle.vme_trace.specs.declared.block.Block.{Block}
use Rattle.vme_core.specs.declared.view.View.{View}
use Rattle.vme_core.specs.Counting.{occurrences, sum_below, numbers, HasPair, missing_at}
use Rattle.vme_core.specs.Views.{empty_view, kept_view, split_view, joint_view, after_claim, after_filing, after_take}
use Rattle.vme_core.specs.Views.{after_draw}
use Rattle.vme_core.specs.BoardInvariant.{BoardInvariant}
use Rattle.vme_core.specs.Shares.{IsWholeShare}
use Rattle.std.specs.Prelude.{sum_by}
use Rattle.vme_core.proofs.ShareSums.{sum_of_sole_owner}
use Rattle.vme_core.proofs.Sums.{le-sum_by, occurrences-cons_same, occurrences-cons_other, occurrences-append}
use Rattle.vme_core.proofs.Sums.{numbers-append}
use Rattle.vme_core.proofs.Sums.{HasPair-append, each-by_cases}
use Rattle.vme_core.proofs.ViewChanges.{DrawInvariant-set, DrawInvariant-append, DrawInvariant-join, cons-not_empty}
use Rattle.vme_core.proofs.ViewChanges.{ShareInvariant-set, ShareInvariant-split}
use Rattle.vme_core.proofs.ViewChanges.{ShareInvariant-join, Sighted, Sighted-each, StageInvariant-set}
use Rattle.vme_core.proofs.ViewChanges.{StageInvariant-saw, StageInvariant-append, StageInvariant-join}
use Rattle.vme_core.proofs.ViewChanges.{Holding, Holding-each, ContentInvariant-set, ContentInvariant-saw}
use Rattle.vme_core.proofs.ViewChanges.{ContentInvariant-append, ContentInvariant-join}
use Rattle.vme_core.proofs.ViewChanges.{bits-cons, bits-append}
use Rattle.vme_core.proofs.SumsBelow.{missing-at_most_sum, length-numbers, occurrences-exact, sum_below-agree}
use Rattle.vme_core.proofs.SumsBelow.{length-sum_below}

-- the invariant depends only on the values of D, C, F and T at each number
pub equal_bits_preserve : (limit : ℕ) (D D' C C' F F' T T' : ℕ → ℕ) (K : ℕ → Option Block) (E : ℕ → Type 0)
    (H : ℕ → Block → Type 0) (vs : List View) → ((n : ℕ) → D' n ≡ D n) → ((n : ℕ) → C' n ≡ C n) → ((n : ℕ) → F' n ≡ F n)
    → ((n : ℕ) → T' n ≡ T n)
    → BoardInvariant limit D C F T K E H vs → BoardInvariant limit D' C' F' T' K E H vs
equal_bits_preserve limit D D' C C' F F' T T' K E H vs d c f t r =
    subst (λ (z : (ℕ → ℕ) × (ℕ → ℕ) × (ℕ → ℕ) × (ℕ → ℕ)). BoardInvariant limit z.0 z.1 z.2 z.3 K E H vs)
    (λ i. ((λ n. sym (d n) i), (λ n. sym (c n) i), (λ n. sym (f n) i), λ n. sym (t n) i)) r

-- two empty lists, appended, are empty
append-both_empty : {A : Type 0} {xs ys : List A} → xs ≡ [] → ys ≡ [] → xs ++ ys ≡ []
append-both_empty a b i = a i ++ b i

-- a number has one content
pub content-one : (k : Option Block) (b c : Block) → k ≡ Some b → k ≡ Some c → b ≡ c
content-one k b c p q = cc

-- there isn't both no content and a content
pub None-not_Some : (b : Block) → ◌≡◌ {A = Option Block} None (Some b) → ⊥
None-not_Some b e = cc

-- D, C, F and T are the bits `drawn`, `claimed`, `filed` and `taken`, K is `content`, E is `IsEmpty`, H is `IsFilled`,
-- and vs are the views of the benches
module _ (limit : ℕ) (D C F T : ℕ → ℕ) (K : ℕ → Option Block) (E : ℕ → Type 0) (H : ℕ → Block → Type 0) (vs : List View)
    (r : BoardInvariant limit D C F T K E H vs) where
  -- returning the emptied slot of a taken number keeps the invariant (`give`)
  pub give_preserves : (E' : ℕ → Type 0) (H' : ℕ → Block → Type 0) (n : ℕ) → T n ≡ 1 → ((m : ℕ) → m ≢ n → E m → E' m)
      → ((m : ℕ) (x : Block) → m ≢ n → H m x → H' m x) → ((m : ℕ) (x : Block) → m ≢ n → H' m x → H m x)
      → ((x : Block) → H' n x → ⊥)
      → BoardInvariant limit D C F T K E' H' vs
  give_preserves E' H' n t1 e_else h_else h_back bare = let o = r.stages.taken_is_filed n in
      let p = r.stages.pending_once n in record {
        draws = r.draws;
        shares = r.shares;
        stages = r.stages;
        contents = record {
          free_is_empty = each-by_cases n (λ m. C m ≡ 0 → E' m) (λ z. absurd (omega (arith, z, t1, o, p)))
              (λ m ne z. e_else m ne (r.contents.free_is_empty m z));
          unfiled_is_none = r.contents.unfiled_is_none;
          filed_is_stored = each-by_cases n (λ m. F m ≡ 1 → T m ≡ 0 → (b : Block) × (K m ≡ Some b) × H' m b)
              (λ _ z. absurd (omega (arith, z, t1))) (λ m ne a z. let g = r.contents.filed_is_stored m a z in
              (g.0, g.1, h_else m g.0 ne g.2));
          stored_is_filed = each-by_cases n (λ m. (b : Block) → H' m b → (F m ≡ 1) × (T m ≡ 0) × (K m ≡ Some b))
              (λ b h. absurd (bare b h)) (λ m ne b h. r.contents.stored_is_filed m b (h_back m b ne h));
          listed = r.contents.listed;
          took = r.contents.took;
        };
      }

  module _ (i : ℕ) (v : View) (e : get_elem? vs i ≡ some v) where
    -- what the bench has seen is so
    abbrev seen : Sighted C F T v
    seen = Sighted-each limit C F T vs r.stages i v e

    -- each block that the bench filed or took is the content of its number
    abbrev held : Holding K v
    held = Holding-each C F T K E H vs r.contents i v e

    -- the invariant holds if the bench saw the draws fo and the numbers cl, fi and ta, whose bits are 1, and nothing
    -- else changed
    pub seeing_preserves : (fo cl fi ta : List ℕ) → ((d : ℕ) → 0 < occurrences d fo → D d ≡ 1)
        → ((n : ℕ) → 0 < occurrences n cl → C n ≡ 1) → ((n : ℕ) → 0 < occurrences n fi → F n ≡ 1)
        → ((n : ℕ) → 0 < occurrences n ta → T n ≡ 1)
        → BoardInvariant limit D C F T K E H (set vs i (record v { found = fo; claimed = cl; filed = fi; taken = ta }))
    seeing_preserves fo cl fi ta a b c d = let w : View = record v { found = fo; claimed = cl; filed = fi; taken = ta }
        in
        record {
          draws = DrawInvariant-set D vs r.draws D i v w e r.draws.bit (λ d. le_refl _) (λ d. refl) a;
          shares = ShareInvariant-set vs r.shares i v w e refl (λ z. let h = r.shares.no_share_has_nothing i v e z in
              record { list = h.list; takes = h.takes; draws = h.draws; pending = h.pending });
          stages = StageInvariant-saw limit C F T vs r.stages i v w e (λ n. refl) (λ n. refl) (λ n. refl)
              (record { claimed = b; filed = c; taken = d });
          contents = ContentInvariant-saw C F T K E H vs r.contents i w
              (record { listed = held.listed; took = held.took });
        }

    -- a bench with a share that wins the draw d, which wasn't drawn, keeps the invariant (`draw`)
    pub draw_preserves : v.share ≢ [] → (D' : ℕ → ℕ) (d : ℕ) → D d ≡ 0 → D' d ≡ 1 → ((m : ℕ) → m ≢ d → D' m ≡ D m)
        → BoardInvariant limit D' C F T K E H (set vs i (after_draw v d))
    draw_preserves has_share D' d d0 d1 d_else =
        let w : View = after_draw v d in
        let bit : (m : ℕ) → D' m ≤ 1 = each-by_cases d (λ m. D' m ≤ 1) (omega (arith, d1))
        (λ m ne. omega (arith, d_else m ne, r.draws.bit m)) in let more : (m : ℕ) → D m ≤ D' m = each-by_cases d
        (λ m. D m ≤ D' m) (omega (arith, d0)) (λ m ne. omega (arith, d_else m ne)) in record {
          draws = DrawInvariant-set D vs r.draws D' i v w e bit more
              (each-by_cases d (λ m. occurrences m w.draws + D m ≡ occurrences m v.draws + D' m)
              (omega (arith, d1, d0, occurrences-cons_same d v.draws))
              (λ m ne. omega (arith, d_else m ne, occurrences-cons_other m d v.draws ne)))
              (bits-cons D' d v.found d1 (λ m h. omega (arith, r.draws.found i v e m h, more m, bit m)));
          shares = ShareInvariant-set vs r.shares i v w e refl (λ z. absurd (has_share z));
          stages = StageInvariant-saw limit C F T vs r.stages i v w e (λ n. refl) (λ n. refl) (λ n. refl)
              (record { claimed = seen.claimed; filed = seen.filed; taken = seen.taken });
          contents = ContentInvariant-saw C F T K E H vs r.contents i w
              (record { listed = held.listed; took = held.took });
        }

    -- a draw that the bench won is drawn, and was won once
    draws_at_most_drawn : (d : ℕ) → occurrences d v.draws ≤ D d
    draws_at_most_drawn d = omega (
      arith,
      le-sum_by (λ (u : View). occurrences d u.draws) vs i v e,
      r.draws.won_once d,
    )

    -- a number that is in the bench's list is filed, and is there once
    listed_at_most_filed : (n : ℕ) → occurrences n (numbers v.list) ≤ F n
    listed_at_most_filed n = omega (
      arith,
      le-sum_by (λ (u : View). occurrences n (numbers u.list)) vs i v e,
      r.stages.filed_once n,
    )

    -- a number that is in the bench's takes is taken, and is there once
    takes_at_most_taken : (n : ℕ) → occurrences n (numbers v.takes) ≤ T n
    takes_at_most_taken n = omega (
      arith,
      le-sum_by (λ (u : View). occurrences n (numbers u.takes)) vs i v e,
      r.stages.taken_once n,
    )

    -- the bit of a filed number is at most 1
    filed_at_most_one : (n : ℕ) → F n ≤ 1
    filed_at_most_one n = omega (arith, r.stages.pending_once n, r.stages.bit n)

    -- the bench hasn't won a draw that isn't drawn
    pub undrawn : (d : ℕ) → D d ≡ 0 → occurrences d v.draws ≡ 0
    undrawn d is = omega (arith, draws_at_most_drawn d, is)

    -- a number that isn't filed isn't in the bench's list
    pub unlisted : (n : ℕ) → F n ≡ 0 → occurrences n (numbers v.list) ≡ 0
    unlisted n is = omega (arith, listed_at_most_filed n, is)

    -- a number that isn't taken isn't in the bench's takes
    pub untaken : (n : ℕ) → T n ≡ 0 → occurrences n (numbers v.takes) ≡ 0
    untaken n is = omega (arith, takes_at_most_taken n, is)

    -- a number in the bench's takes is taken
    pub is_taken : (n : ℕ) → 0 < occurrences n (numbers v.takes) → T n ≡ 1
    is_taken n is = omega (arith, takes_at_most_taken n, r.stages.taken_is_filed n, filed_at_most_one n, is)

    -- a bench with a share and nothing pending that claims n, which wasn't claimed, keeps the invariant (`claim`)
    pub claim_preserves : v.share ≢ [] → (C' : ℕ → ℕ) (E' : ℕ → Type 0) (H' : ℕ → Block → Type 0) (n : ℕ)
        → v.pending ≡ [] → n < limit → C n ≡ 0 → C' n ≡ 1 → ((m : ℕ) → m ≢ n → C' m ≡ C m)
        → ((m : ℕ) → m ≢ n → E m → E' m)
        → ((m : ℕ) (x : Block) → m ≢ n → H m x → H' m x) → ((m : ℕ) (x : Block) → m ≢ n → H' m x → H m x)
        → ((x : Block) → H' n x → ⊥) → BoardInvariant limit D C' F T K E' H' (set vs i (after_claim v n))
    claim_preserves has_share C' E' H' n none low c0 c1 c_else e_else h_else h_back bare =
        let w : View = after_claim v n in let p0 = λ (m : ℕ). let g : occurrences m v.pending ≡ 0 = ap (occurrences m)
        none in g in let pend = r.stages.pending_once n in let f0 : F n ≡ 0 = omega (arith, c0, pend) in
        let bit : (m : ℕ) → C' m ≤ 1 = each-by_cases n (λ m. C' m ≤ 1) (omega (arith, c1))
        (λ m ne. omega (arith, c_else m ne, r.stages.bit m)) in
        let more : (m : ℕ) → C m ≤ C' m = each-by_cases n (λ m. C m ≤ C' m) (omega (arith, c0))
        (λ m ne. omega (arith, c_else m ne)) in record {
          draws = DrawInvariant-set D vs r.draws D i v w e r.draws.bit (λ d. le_refl _) (λ d. refl)
              (r.draws.found i v e);
          shares = ShareInvariant-set vs r.shares i v w e refl (λ z. absurd (has_share z));
          stages = StageInvariant-set limit C F T vs r.stages C' F T i v w e bit
              (each-by_cases n (λ m. 0 < C' m → m < limit) (λ _. low)
              (λ m ne z. r.stages.in_range m (omega (arith, z, c_else m ne)))) r.stages.taken_is_filed more
              (λ m. le_refl _) (λ m. le_refl _)
              (each-by_cases n (λ m. occurrences m w.pending + F m + C m ≡ occurrences m v.pending + F m + C' m)
              (omega (arith, c0, c1, f0, occurrences-cons_same n [], p0 n))
              (λ m ne. omega (arith, c_else m ne, occurrences-cons_other m n [] ne, p0 m)))
              (λ m. refl) (λ m. refl)
              (record {
                claimed = bits-cons C' n v.claimed c1 (λ m h. omega (arith, seen.claimed m h, more m, bit m));
                filed = seen.filed;
                taken = seen.taken;
              });
          contents = ContentInvariant-set C F T K E H vs r.contents C' F T K E' H' i w (record {
            free_is_empty = each-by_cases n (λ m. C' m ≡ 0 → E' m) (λ z. absurd (omega (arith, z, c1)))
                (λ m ne z. e_else m ne (r.contents.free_is_empty m (sym (c_else m ne) ∙ z)));
            unfiled_is_none = r.contents.unfiled_is_none;
            filed_is_stored = each-by_cases n (λ m. F m ≡ 1 → T m ≡ 0 → (b : Block) × (K m ≡ Some b) × H' m b)
                (λ a _. absurd (omega (arith, a, f0))) (λ m ne a z. let g = r.contents.filed_is_stored m a z in
                (g.0, g.1, h_else m g.0 ne g.2));
            stored_is_filed = each-by_cases n (λ m. (b : Block) → H' m b → (F m ≡ 1) × (T m ≡ 0) × (K m ≡ Some b))
                (λ b h. absurd (bare b h)) (λ m ne b h. r.contents.stored_is_filed m b (h_back m b ne h));
          }) (λ _ _ h. h) (record { listed = held.listed; took = held.took });
        }

    -- a number that is pending with the bench is claimed and not filed
    pub is_pending : (n : ℕ) → v.pending ≡ n ∷ [] → (C n ≡ 1) × (F n ≡ 0)
    is_pending n one = let p1 : occurrences n v.pending ≡ 1 = ap (occurrences n) one ∙ occurrences-cons_same n [] in
        let owned = le-sum_by (λ (u : View). occurrences n u.pending) vs i v e in
        let pend = r.stages.pending_once n in
        let small = r.stages.bit n in
        (omega (arith, p1, owned, pend, small), omega (arith, p1, owned, pend, small))

    -- a bench that files the block b of n, which is pending with it, keeps the invariant (`file`)
    pub file_preserves : (F' : ℕ → ℕ) (K' : ℕ → Option Block) (E' : ℕ → Type 0) (H' : ℕ → Block → Type 0) (n : ℕ)
        (b : Block) → v.pending ≡ n ∷ [] → F' n ≡ 1 → ((m : ℕ) → m ≢ n → F' m ≡ F m) → K' n ≡ Some b
        → ((m : ℕ) → m ≢ n → K' m ≡ K m)
        → ((m : ℕ) → m ≢ n → E m → E' m) → ((m : ℕ) (x : Block) → m ≢ n → H m x → H' m x)
        → ((m : ℕ) (x : Block) → m ≢ n → H' m x → H m x) → H' n b → ((x : Block) → H' n x → x ≡ b)
        → BoardInvariant limit D C F' T K' E' H' (set vs i (after_filing v n b))
    file_preserves F' K' E' H' n b one f1 f_else k1 k_else e_else h_else h_back here alone =
        let w : View = after_filing v n b in let was = is_pending n one in let c0 = was.0 in let f0 = was.1 in
        let p1 : occurrences n v.pending ≡ 1 = ap (occurrences n) one ∙ occurrences-cons_same n [] in
        let p_else = λ (m : ℕ) (ne : m ≢ n). let g : occurrences m v.pending ≡ 0 = ap (occurrences m) one
        ∙ occurrences-cons_other m n [] ne in g in
        let t0 : T n ≡ 0 = omega (arith, f0, r.stages.taken_is_filed n) in
        let more : (m : ℕ) → F m ≤ F' m = each-by_cases n (λ m. F m ≤ F' m) (omega (arith, f0))
        (λ m ne. omega (arith, f_else m ne)) in
        let stays : (m : ℕ) (x : Block) → K m ≡ Some x → K' m ≡ Some x = each-by_cases n
        (λ m. (x : Block) → K m ≡ Some x → K' m
        ≡ Some x) (λ x h. absurd (None-not_Some x (sym (r.contents.unfiled_is_none n f0) ∙ h))) (λ m ne x h. k_else m ne
        ∙ h) in record {
          draws = DrawInvariant-set D vs r.draws D i v w e r.draws.bit (λ d. le_refl _) (λ d. refl)
              (r.draws.found i v e);
          shares = ShareInvariant-set vs r.shares i v w e refl
              (λ z. absurd (cons-not_empty (sym one ∙ (r.shares.no_share_has_nothing i v e z).pending)));
          stages = StageInvariant-set limit C F T vs r.stages C F' T i v w e r.stages.bit r.stages.in_range
              (λ m. omega (arith, r.stages.taken_is_filed m, more m)) (λ m. le_refl _) more (λ m. le_refl _)
              (each-by_cases n (λ m. occurrences m w.pending + F' m + C m ≡ occurrences m v.pending + F m + C m)
              (omega (arith, f0, f1, p1)) (λ m ne. omega (arith, f_else m ne, p_else m ne)))
              (each-by_cases n (λ m. occurrences m (numbers w.list) + F m ≡ occurrences m (numbers v.list) + F' m)
              (omega (arith, f0, f1, occurrences-cons_same n (numbers v.list)))
              (λ m ne. omega (arith, f_else m ne, occurrences-cons_other m n (numbers v.list) ne)))
              (λ m. refl) (record {
                claimed = bits-cons C n v.claimed c0 seen.claimed;
                filed = bits-cons F' n v.filed f1
                    (each-by_cases n (λ m. 0 < occurrences m v.filed → F' m ≡ 1) (λ _. f1) (λ m ne h. f_else m ne
                    ∙ seen.filed m h));
                taken = seen.taken;
              });
          contents = ContentInvariant-set C F T K E H vs r.contents C F' T K' E' H' i w (record {
            free_is_empty = each-by_cases n (λ m. C m ≡ 0 → E' m) (λ z. absurd (omega (arith, z, c0)))
                (λ m ne z. e_else m ne (r.contents.free_is_empty m z));
            unfiled_is_none = each-by_cases n (λ m. F' m ≡ 0 → K' m ≡ None) (λ z. absurd (omega (arith, z, f1)))
                (λ m ne z. k_else m ne ∙ r.contents.unfiled_is_none m (sym (f_else m ne) ∙ z));
            filed_is_stored = each-by_cases n (λ m. F' m ≡ 1 → T m ≡ 0 → (x : Block) × (K' m ≡ Some x) × H' m x)
                (λ _ _. (b, k1, here)) (λ m ne a z. let g = r.contents.filed_is_stored m (sym (f_else m ne) ∙ a) z in
                (g.0, k_else m ne ∙ g.1, h_else m g.0 ne g.2));
            stored_is_filed = each-by_cases n (λ m. (x : Block) → H' m x → (F' m ≡ 1) × (T m ≡ 0) × (K' m ≡ Some x))
                (λ x h. (f1, t0, k1 ∙ ap (λ (y : Block). Some y) (sym (alone x h))))
                (λ m ne x h. let g = r.contents.stored_is_filed m x (h_back m x ne h) in
                (f_else m ne ∙ g.0, g.1, k_else m ne ∙ g.2));
          }) stays (record {
            listed = λ m x has. ⊎_elim (λ t. subst (λ (y : ℕ). K' y ≡ Some x) t.0 (k1 ∙ ap (λ (y : Block). Some y) t.1))
                (λ old. stays m x (held.listed m x old)) has;
            took = λ m x has. stays m x (held.took m x has);
          });
        }

    -- a bench with a share that takes n, which is filed and wasn't taken, keeps the invariant (`take`)
    pub take_preserves : v.share ≢ [] → (T' : ℕ → ℕ) (E' : ℕ → Type 0) (H' : ℕ → Block → Type 0) (n : ℕ) (b : Block)
        → F n ≡ 1 → T n ≡ 0 → T' n ≡ 1 → ((m : ℕ) → m ≢ n → T' m ≡ T m) → K n ≡ Some b
        → ((m : ℕ) → m ≢ n → E m → E' m) → ((m : ℕ) (x : Block) → m ≢ n → H m x → H' m x)
        → ((m : ℕ) (x : Block) → m ≢ n → H' m x → H m x) → ((x : Block) → H' n x → ⊥)
        → BoardInvariant limit D C F T' K E' H' (set vs i (after_take v n b))
    take_preserves has_share T' E' H' n b f1 t0 t1 t_else kb e_else h_else h_back bare =
        let w : View = after_take v n b in let c1 : C n ≡ 1 = omega (arith, f1, r.stages.pending_once n, r.stages.bit n)
        in
        let more : (m : ℕ) → T m ≤ T' m = each-by_cases n (λ m. T m ≤ T' m) (omega (arith, t0))
        (λ m ne. omega (arith, t_else m ne)) in record {
          draws = DrawInvariant-set D vs r.draws D i v w e r.draws.bit (λ d. le_refl _) (λ d. refl)
              (r.draws.found i v e);
          shares = ShareInvariant-set vs r.shares i v w e refl (λ z. absurd (has_share z));
          stages = StageInvariant-set limit C F T vs r.stages C F T' i v w e r.stages.bit r.stages.in_range
              (each-by_cases n (λ m. T' m ≤ F m) (omega (arith, f1, t1))
              (λ m ne. omega (arith, t_else m ne, r.stages.taken_is_filed m))) (λ m. le_refl _) (λ m. le_refl _) more
              (λ m. refl) (λ m. refl)
              (each-by_cases n (λ m. occurrences m (numbers w.takes) + T m ≡ occurrences m (numbers v.takes) + T' m)
              (omega (arith, t0, t1, occurrences-cons_same n (numbers v.takes)))
              (λ m ne. omega (arith, t_else m ne, occurrences-cons_other m n (numbers v.takes) ne)))
              (record {
                claimed = bits-cons C n v.claimed c1 seen.claimed;
                filed = bits-cons F n v.filed f1 seen.filed;
                taken = bits-cons T' n v.taken t1 (each-by_cases n (λ m. 0 < occurrences m v.taken → T' m ≡ 1) (λ _. t1)
                    (λ m ne h. t_else m ne ∙ seen.taken m h));
              });
          contents = ContentInvariant-set C F T K E H vs r.contents C F T' K E' H' i w (record {
            free_is_empty = each-by_cases n (λ m. C m ≡ 0 → E' m) (λ z. absurd (omega (arith, z, c1)))
                (λ m ne z. e_else m ne (r.contents.free_is_empty m z));
            unfiled_is_none = r.contents.unfiled_is_none;
            filed_is_stored = each-by_cases n (λ m. F m ≡ 1 → T' m ≡ 0 → (x : Block) × (K m ≡ Some x) × H' m x)
                (λ _ z. absurd (omega (arith, z, t1))) (λ m ne a z. let g = r.contents.filed_is_stored m a
                (sym (t_else m ne) ∙ z) in (g.0, g.1, h_else m g.0 ne g.2));
            stored_is_filed = each-by_cases n (λ m. (x : Block) → H' m x → (F m ≡ 1) × (T' m ≡ 0) × (K m ≡ Some x))
                (λ x h. absurd (bare x h)) (λ m ne x h. let g = r.contents.stored_is_filed m x (h_back m x ne h) in
                (g.0, t_else m ne ∙ g.1, g.2));
          }) (λ _ _ h. h) (record {
            listed = held.listed;
            took = λ m x has. ⊎_elim (λ t. subst (λ (y : ℕ). K y ≡ Some x) t.0 (kb ∙ ap (λ (y : Block). Some y) t.1))
                (λ old. held.took m x old) has;
          });
        }

    -- a bench that splits keeps the invariant (`split`)
    pub split_preserves : BoardInvariant limit D C F T K E H (set vs i (kept_view v) ++ split_view v ∷ [])
    split_preserves = let w : View = kept_view v in let ws : List View = set vs i w in record {
      draws = DrawInvariant-append D ws (DrawInvariant-set D vs r.draws D i v w e r.draws.bit (λ d. le_refl _)
          (λ d. refl)
          (r.draws.found i v e)) (split_view v) (λ _. refl) (r.draws.found i v e);
      shares = ShareInvariant-split vs r.shares i v e;
      stages = StageInvariant-append limit C F T ws (StageInvariant-saw limit C F T vs r.stages i v w e (λ n. refl)
          (λ n. refl)
          (λ n. refl) (record { claimed = seen.claimed; filed = seen.filed; taken = seen.taken })) (split_view v)
          (λ _. refl) (λ _. refl) (λ _. refl) (record {
            claimed = seen.claimed;
            filed = seen.filed;
            taken = seen.taken;
          });
      contents = ContentInvariant-append C F T K E H ws (ContentInvariant-saw C F T K E H vs r.contents i w
          (record { listed = held.listed; took = held.took })) (split_view v)
          (record { listed = λ _ _ h. absurd h; took = λ _ _ h. absurd h });
    }

    -- a bench that another one is joined to keeps the invariant (`join`)
    pub join_preserves : (j : ℕ) (w : View) → j ≢ i → get_elem? vs j ≡ some w → BoardInvariant limit D C F T K E H
        (set (set vs i (joint_view v w)) j empty_view)
    join_preserves j w ne f = let theirs = Sighted-each limit C F T vs r.stages j w f in
        let has = Holding-each C F T K E H vs r.contents j w f in record {
          draws = DrawInvariant-join D vs r.draws i j v w (joint_view v w) empty_view e ne f
              (λ d. omega (arith, occurrences-append d v.draws w.draws))
              (bits-append D v.found w.found (r.draws.found i v e)
              (r.draws.found j w f)) (λ _ h. absurd (omega arith));
          shares = ShareInvariant-join vs r.shares i j v w (joint_view v w) empty_view e ne f refl refl
              (record { list = refl; takes = refl; draws = refl; pending = refl })
              (λ a b. let x = r.shares.no_share_has_nothing i v e a in let y = r.shares.no_share_has_nothing j w f b in
              record {
                list = append-both_empty x.list y.list;
                takes = append-both_empty x.takes y.takes;
                draws = append-both_empty x.draws
                    y.draws;
                pending = append-both_empty x.pending y.pending;
              });
          stages = StageInvariant-join limit C F T vs r.stages i j v w (joint_view v w) empty_view e ne f
              (λ n. omega (arith, occurrences-append n v.pending w.pending))
              (λ n. omega (
                arith,
                ap (occurrences n) (numbers-append v.list w.list),
                occurrences-append n (numbers v.list)
                    (numbers w.list),
              ))
              (λ n. omega (
                arith,
                ap (occurrences n) (numbers-append v.takes w.takes),
                occurrences-append n
                    (numbers v.takes) (numbers w.takes),
              ))
              (record {
                claimed = bits-append C v.claimed w.claimed seen.claimed theirs.claimed;
                filed = bits-append F v.filed
                    w.filed seen.filed theirs.filed;
                taken = bits-append T v.taken w.taken seen.taken theirs.taken;
              })
              (record {
                claimed = λ _ h. absurd (omega arith);
                filed = λ _ h. absurd (omega arith);
                taken = λ _ h. absurd
                    (omega arith);
              });
          contents = ContentInvariant-join C F T K E H vs r.contents i j (joint_view v w) empty_view
              (record {
                listed = λ n x h. ⊎_elim (held.listed n x) (has.listed n x) (HasPair-append v.list w.list n x h);
                took = λ n x h. ⊎_elim (held.took n x) (has.took n x) (HasPair-append v.takes w.takes n x h);
              })
              (record { listed = λ _ _ h. absurd h; took = λ _ _ h. absurd h });
        }

    -- the draws, the list and the takes of a view have no duplicates
    pub view_has_no_duplicates : ((d : ℕ) → occurrences d v.draws ≤ 1) × ((n : ℕ) → occurrences n (numbers v.list) ≤ 1)
        × ((n : ℕ) → occurrences n (numbers v.takes) ≤ 1)
    view_has_no_duplicates = (
      (λ d. omega (arith, draws_at_most_drawn d, r.draws.bit d)),
      (λ n. omega (arith, listed_at_most_filed n, filed_at_most_one n)),
      λ n. omega (arith, takes_at_most_taken n, r.stages.taken_is_filed n, filed_at_most_one n),
    )

    -- if the bench filed and took a number, it took the block that it filed
    pub filed_and_taken_agree : (n : ℕ) (b c : Block) → HasPair v.list n b → HasPair v.takes n c → b ≡ c
    filed_and_taken_agree n b c h t = content-one (K n) b c (held.listed n b h) (held.took n c t)

    -- a filed number is below `limit`
    filed_in_range : (n : ℕ) → 0 < F n → n < limit
    filed_in_range n h = r.stages.in_range n (omega (arith, h, r.stages.pending_once n))

    -- a taken number is below `limit`
    taken_in_range : (n : ℕ) → 0 < T n → n < limit
    taken_in_range n h = filed_in_range n (omega (arith, h, r.stages.taken_is_filed n))

    -- the numbers that the bench saw filed and didn't file, and those that it filed, are at most as many as are filed
    pub list_length_bound : sum_below (missing_at v.filed (numbers v.list)) limit + length v.list ≤ sum_below F limit
    list_length_bound = omega (
      arith,
      missing-at_most_sum F limit filed_in_range (numbers v.list) listed_at_most_filed v.filed seen.filed,
      length-numbers v.list,
    )

    -- the numbers that the bench saw taken and didn't take, and those that it took, are at most as many as are taken
    pub takes_length_bound : sum_below (missing_at v.taken (numbers v.takes)) limit + length v.takes ≤ sum_below T limit
    takes_length_bound = omega (
      arith,
      missing-at_most_sum T limit taken_in_range (numbers v.takes) takes_at_most_taken v.taken seen.taken,
      length-numbers v.takes,
    )

    -- if the bench's list is at least as long as there are filed numbers, each filed number is in it
    pub all_listed : sum_below F limit ≤ length v.list → (n : ℕ) → n < limit → F n ≡ occurrences n (numbers v.list)
    all_listed full = occurrences-exact F limit (numbers v.list) filed_in_range listed_at_most_filed
        (omega (arith, full, length-numbers v.list))

    -- if the bench's takes are at least as long as there are taken numbers, each taken number is in them
    pub all_taken : sum_below T limit ≤ length v.takes → (n : ℕ) → n < limit → T n ≡ occurrences n (numbers v.takes)
    all_taken full = occurrences-exact T limit (numbers v.takes) taken_in_range takes_at_most_taken
        (omega (arith, full, length-numbers v.takes))

    -- the bench that has the whole share won each draw that was won, filed each number that was filed, and took each
    -- that was taken, and no other bench has a number pending
    module _ (all : IsWholeShare v.share) where
      -- the sum of g over all views is g v, if g is 0 for a view without list, takes, draws and pending numbers
      sum_by-whole_share : (g : View → ℕ)
          → ((u : View) → u.list ≡ [] → u.takes ≡ [] → u.draws ≡ [] → u.pending ≡ [] → g u ≡ 0)
          → sum_by g vs ≡ g v
      sum_by-whole_share g none = sum_of_sole_owner (λ (u : View). u.share) r.shares.k vs (r.shares.fit, r.shares.whole)
          i v e all g
          (λ j u at z. let h = r.shares.no_share_has_nothing j u at z in none u h.list h.takes h.draws h.pending)

      -- the bench won each draw that was won
      pub own_draws : (d : ℕ) → D d ≡ occurrences d v.draws
      own_draws d = sym (r.draws.won_once d)
          ∙ sum_by-whole_share (λ u. occurrences d u.draws) (λ u a b c z. ap (occurrences d) c)

      -- the bench filed each number that was filed
      pub own_list : (n : ℕ) → F n ≡ occurrences n (numbers v.list)
      own_list n = sym (r.stages.filed_once n) ∙ sum_by-whole_share (λ u. occurrences n (numbers u.list))
          (λ u a b c z. ap (λ (l : List (ℕ × Block)). occurrences n (numbers l)) a)

      -- the bench took each number that was taken
      pub own_takes : (n : ℕ) → T n ≡ occurrences n (numbers v.takes)
      own_takes n = sym (r.stages.taken_once n) ∙ sum_by-whole_share (λ u. occurrences n (numbers u.takes))
          (λ u a b c z. ap (λ (l : List (ℕ × Block)). occurrences n (numbers l)) b)

      -- each claimed number is pending with the bench or in its list
      pub own_claims : (n : ℕ) → C n ≡ occurrences n v.pending + occurrences n (numbers v.list)
      own_claims n = omega (
        arith,
        r.stages.pending_once n,
        own_list n,
        sum_by-whole_share (λ u. occurrences n u.pending)
            (λ u a b c z. ap (occurrences n) z),
      )

      -- the bench's list is as long as there are filed numbers
      pub whole_listed : sum_below F limit ≡ length v.list
      whole_listed = sum_below-agree F (λ n. occurrences n (numbers v.list)) limit (λ n _. own_list n)
          ∙ (sym (length-sum_below (numbers v.list) limit (λ n h. filed_in_range n (omega (arith, h, own_list n))))
          ∙ length-numbers v.list)

      -- the bench's takes are as long as there are taken numbers
      pub whole_taken : sum_below T limit ≡ length v.takes
      whole_taken = sum_below-agree T (λ n. occurrences n (numbers v.takes)) limit (λ n _. own_takes n)
          ∙ (sym (length-sum_below (numbers v.takes) limit (λ n h. taken_in_range n (omega (arith, h, own_takes n))))
          ∙ length-numbers v.takes)
