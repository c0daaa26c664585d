-- The invariant holds at the start, and each event keeps it, so each run does.
use Rattle.std.proofs.Common.{◌≡◌, ℕ, zero, suc, ◌+◌, ◌*◌, ◌<◌, ◌≤◌, ◌≢◌, List, [], ◌∷◌, ◌++◌, set, sym, refl, ap, ◌∙◌}
use Rattle.std.proofs.Common.{arith, subst, Option, Some, None}
use mathlib.Core.Option.{some}
use lib.ListN.{get_elem?}
use Rattle.vme_trace.specs.declared.block.Block.{Block}
use Rattle.vme_core.specs.declared.view.View.{View}
use Rattle.vme_core.specs.Counting.{occurrences, numbers, HasPair, update, set_bits}
use Rattle.vme_core.specs.declared.stage.Stage.{Stage}
use Rattle.vme_core.specs.declared.stage.Stage.TheVariants.{Free, Claimed, Filed, Taken}
use Rattle.vme_core.specs.Stages.{claimed_bit, filed_bit, taken_bit}
use Rattle.vme_core.specs.Views.{empty_view, with_claimed, with_filed, with_taken, after_claim, after_filing}
use Rattle.vme_core.specs.Views.{after_take}
use Rattle.vme_core.specs.Machine.{Slot, empty, away, filled, BenchProgress, Core, WordRow, claimed_row, filed_row}
use Rattle.vme_core.specs.Machine.{taken_row, BoardEvent, make, split, join, claim, put, file, look, draw, take, lift}
use Rattle.vme_core.specs.Machine.{give, load, with_views, after_claim_step, after_file_step, after_draw_step}
use Rattle.vme_core.specs.Machine.{after_take_step, after_look, Happens, IsRun, start}
use Rattle.vme_core.specs.BoardInvariant.{Invariant}
use Rattle.vme_core.proofs.Sums.{update-same, update-other, each-by_cases}
use Rattle.vme_core.proofs.SetBits.{set_bits-are}
use Rattle.vme_core.proofs.ViewChanges.{ShareInvariant-append, ShareInvariant-first, Sighted, Sighted-each}
use Rattle.vme_core.proofs.ViewChanges.{StageInvariant-append, DrawInvariant-append}
use Rattle.vme_core.proofs.ViewChanges.{ContentInvariant-append, bits-cons, bits-append, each-of_first_view}
use Rattle.vme_core.proofs.InvariantSteps.{equal_bits_preserve, seeing_preserves, draw_preserves, claim_preserves}
use Rattle.vme_core.proofs.InvariantSteps.{is_pending, file_preserves, take_preserves, give_preserves, split_preserves}
use Rattle.vme_core.proofs.InvariantSteps.{join_preserves, is_taken}

-- the bit `claimed` is at most 1
claimed_bit-at_most_one : (a : Stage) → claimed_bit a ≤ 1
claimed_bit-at_most_one Free = omega arith
claimed_bit-at_most_one Claimed = omega arith
claimed_bit-at_most_one Filed = omega arith
claimed_bit-at_most_one Taken = omega arith

-- a slot that is checked out has no block
away-not_filled : (x : Block) → away ≡ filled x → ⊥
away-not_filled x e = cc

-- an empty slot has no block
empty-not_filled : (x : Block) → empty ≡ filled x → ⊥
empty-not_filled x e = cc

-- slots that are filled alike have the same block
filled-injective : (x b : Block) → filled x ≡ filled b → x ≡ b
filled-injective x b e = cc

module _ (limit : ℕ) (s : Core) (r : Invariant limit s) where
  -- the bit `claimed` of a number
  abbrev C : ℕ → ℕ
  C n = claimed_bit (s.stage n)

  -- the bit `filed` of a number
  abbrev F : ℕ → ℕ
  F n = filed_bit (s.stage n)

  -- the bit `taken` of a number
  abbrev T : ℕ → ℕ
  T n = taken_bit (s.stage n)

  -- the slot of a number is empty
  abbrev E : ℕ → Type 0
  E n = s.home n ≡ empty

  -- the slot of a number has the block
  abbrev H : ℕ → Block → Type 0
  H n b = s.home n ≡ filled b

  module _ (i : ℕ) (v : View) (e : get_elem? s.views i ≡ some v) where
    -- what the bench has seen is so
    abbrev saw : Sighted C F T v
    saw = Sighted-each limit C F T s.views r.stages i v e

    -- the invariant holds after the bench saw the numbers ns claimed
    Invariant-saw_claimed : (ns : List ℕ) → ((n : ℕ) → 0 < occurrences n ns → C n ≡ 1) → Invariant limit
        (with_views s (set s.views i (with_claimed v ns)))
    Invariant-saw_claimed ns c = seeing_preserves limit s.drawn C F T s.content E H s.views r i v e v.found
        (ns ++ v.claimed) v.filed
        v.taken
        (r.draws.found i v e) (bits-append C ns v.claimed c saw.claimed) saw.filed saw.taken

    -- a filed number is claimed
    claimed-of_filed : (n : ℕ) → F n ≡ 1 → C n ≡ 1
    claimed-of_filed n f = omega (arith, f, r.stages.pending_once n, r.stages.bit n)

    -- a taken number is filed
    filed-of_taken : (n : ℕ) → T n ≡ 1 → F n ≡ 1
    filed-of_taken n t = omega (arith, t, r.stages.taken_is_filed n, r.stages.pending_once n, r.stages.bit n)

    -- the invariant holds after the bench saw the numbers ns filed
    Invariant-saw_filed : (ns : List ℕ) → ((n : ℕ) → 0 < occurrences n ns → F n ≡ 1) → Invariant limit
        (with_views s (set s.views i (with_filed v ns)))
    Invariant-saw_filed ns f = seeing_preserves limit s.drawn C F T s.content E H s.views r i v e v.found
        (ns ++ v.claimed)
        (ns ++ v.filed)
        v.taken (r.draws.found i v e) (bits-append C ns v.claimed (λ n h. claimed-of_filed n (f n h)) saw.claimed)
        (bits-append F ns v.filed f saw.filed) saw.taken

    -- the invariant holds after the bench saw the numbers ns taken
    Invariant-saw_taken : (ns : List ℕ) → ((n : ℕ) → 0 < occurrences n ns → T n ≡ 1) → Invariant limit
        (with_views s (set s.views i (with_taken v ns)))
    Invariant-saw_taken ns t = seeing_preserves limit s.drawn C F T s.content E H s.views r i v e v.found
        (ns ++ v.claimed)
        (ns ++ v.filed)
        (ns ++ v.taken) (r.draws.found i v e)
        (bits-append C ns v.claimed (λ n h. claimed-of_filed n (filed-of_taken n (t n h))) saw.claimed)
        (bits-append F ns v.filed (λ n h. filed-of_taken n (t n h)) saw.filed) (bits-append T ns v.taken t saw.taken)

    -- the invariant holds after the bench looked at a word
    Invariant-look : (row : WordRow) (g : ℕ) → Invariant limit (with_views s (set s.views i (after_look s v row g)))
    Invariant-look claimed_row g = Invariant-saw_claimed (set_bits (64 * g) (λ k. C (64 * g + k)) 64) (set_bits-are C g)
    Invariant-look filed_row g = Invariant-saw_filed (set_bits (64 * g) (λ k. F (64 * g + k)) 64) (set_bits-are F g)
    Invariant-look taken_row g = Invariant-saw_taken (set_bits (64 * g) (λ k. T (64 * g + k)) 64) (set_bits-are T g)

    -- if the bit of n is 1, so is that of each number of the list of n alone
    bit-of_only : (c : ℕ → ℕ) (n m : ℕ) → c n ≡ 1 → 0 < occurrences m (n ∷ []) → c m ≡ 1
    bit-of_only c n m is = bits-cons c n [] is (λ k h. absurd (omega (arith, h))) m

    -- the invariant holds after a bench with a share and nothing pending tried to claim n
    Invariant-claim : v.share ≢ [] → (n : ℕ) (b : Block) → n < limit → v.pending ≡ [] → (x : ℕ) → C n ≡ x
        → Invariant limit
        (after_claim_step s i n b v x)
    Invariant-claim has_share n b low none (suc k) is = Invariant-saw_claimed (n ∷ [])
        (λ m. bit-of_only C n m (omega (arith, is, claimed_bit-at_most_one (s.stage n))))
    Invariant-claim has_share n b low none zero is =
        let st : ℕ → Stage = update s.stage n Claimed in let C' : ℕ → ℕ = λ m. claimed_bit (st m) in
        let home' : ℕ → Slot = update s.home n away in
        let stage_else = λ (m : ℕ) (ne : m ≢ n). let g : st m ≡ s.stage m = update-other s.stage n Claimed m ne in g in
        let home_else = λ (m : ℕ) (ne : m ≢ n). let g : home' m ≡ s.home m = update-other s.home n away m ne in g in
        let f0 : F n ≡ 0 = omega (arith, is, r.stages.pending_once n) in
        let t0 : T n ≡ 0 = omega (arith, f0, r.stages.taken_is_filed n) in
        equal_bits_preserve limit s.drawn s.drawn C' C' F (λ m. filed_bit (st m)) T (λ m. taken_bit (st m)) s.content
        (λ m. home' m ≡ empty) (λ m x. home' m ≡ filled x) (set s.views i (after_claim v n)) (λ _. refl) (λ _. refl)
        (each-by_cases n (λ m. filed_bit (st m) ≡ F m) (ap filed_bit (update-same s.stage n Claimed) ∙ sym f0)
        (λ m ne. ap filed_bit (stage_else m ne)))
        (each-by_cases n (λ m. taken_bit (st m) ≡ T m) (ap taken_bit (update-same s.stage n Claimed) ∙ sym t0)
        (λ m ne. ap taken_bit (stage_else m ne)))
        (claim_preserves limit s.drawn C F T s.content E H s.views r i v e has_share C' (λ m. home' m ≡ empty)
        (λ m x. home' m ≡ filled x) n none low is (ap claimed_bit (update-same s.stage n Claimed))
        (λ m ne. ap claimed_bit (stage_else m ne))
        (λ m ne h. home_else m ne ∙ h) (λ m x ne h. home_else m ne ∙ h) (λ m x ne h. sym (home_else m ne) ∙ h)
        (λ x h. let here = update-same s.home n away in away-not_filled x (sym here ∙ h)))

    -- the invariant holds after the bench filed n, which was pending with it
    Invariant-file : (n : ℕ) (b : Block) → v.pending ≡ n ∷ [] → Invariant limit (after_file_step s i n b v)
    Invariant-file n b one =
        let st : ℕ → Stage = update s.stage n Filed in let F' : ℕ → ℕ = λ m. filed_bit (st m) in
        let home' : ℕ → Slot = update s.home n (filled b) in let content' : ℕ → Option Block = update s.content n
        (Some b) in
        let stage_else = λ (m : ℕ) (ne : m ≢ n). let g : st m ≡ s.stage m = update-other s.stage n Filed m ne in g in
        let home_else = λ (m : ℕ) (ne : m ≢ n). let g : home' m ≡ s.home m = update-other s.home n (filled b) m ne in
        g in
        let was = is_pending limit s.drawn C F T s.content E H s.views r i v e n one in let c1 = was.0 in
        let f0 = was.1 in let t0 : T n ≡ 0 = omega (arith, f0, r.stages.taken_is_filed n) in
        equal_bits_preserve limit s.drawn s.drawn C (λ m. claimed_bit (st m)) F' F' T (λ m. taken_bit (st m)) content'
        (λ m. home' m ≡ empty) (λ m x. home' m ≡ filled x) (set s.views i (after_filing v n b)) (λ _. refl)
        (each-by_cases n (λ m. claimed_bit (st m) ≡ C m) (ap claimed_bit (update-same s.stage n Filed) ∙ sym c1)
        (λ m ne. ap claimed_bit (stage_else m ne))) (λ _. refl)
        (each-by_cases n (λ m. taken_bit (st m) ≡ T m) (ap taken_bit (update-same s.stage n Filed) ∙ sym t0)
        (λ m ne. ap taken_bit (stage_else m ne)))
        (file_preserves limit s.drawn C F T s.content E H s.views r i v e F' content' (λ m. home' m ≡ empty)
        (λ m x. home' m ≡ filled x) n b one (ap filed_bit (update-same s.stage n Filed))
        (λ m ne. ap filed_bit (stage_else m ne)) (update-same s.content n (Some b)) (update-other s.content n (Some b))
        (λ m ne h. home_else m ne ∙ h) (λ m x ne h. home_else m ne ∙ h) (λ m x ne h. sym (home_else m ne) ∙ h)
        (update-same s.home n (filled b)) (λ x h. let here = update-same s.home n (filled b) in
        filled-injective x b (sym h ∙ here)))

    -- the invariant holds after a bench with a share tried the draw d
    Invariant-draw : v.share ≢ [] → (d : ℕ) (x : ℕ) → s.drawn d ≡ x → Invariant limit (after_draw_step s i d v x)
    Invariant-draw has_share d (suc k) is = seeing_preserves limit s.drawn C F T s.content E H s.views r i v e
        (d ∷ v.found)
        v.claimed
        v.filed v.taken (bits-cons s.drawn d v.found (omega (arith, is, r.draws.bit d)) (r.draws.found i v e))
        saw.claimed
        saw.filed saw.taken
    Invariant-draw has_share d zero is = draw_preserves limit s.drawn C F T s.content E H s.views r i v e has_share
        (update s.drawn d 1) d
        is (update-same s.drawn d 1) (update-other s.drawn d 1)

    -- the invariant holds after a bench with a share tried to take n, which it saw filed
    Invariant-take : v.share ≢ [] → (n : ℕ) → 0 < occurrences n v.filed → (x : ℕ) (c : Option Block) → T n ≡ x
        → s.content n
        ≡ c → Invariant limit (after_take_step s i n v x c)
    Invariant-take has_share n saw_it (suc k) c is has = Invariant-saw_taken (n ∷ [])
        (λ m. bit-of_only T n m (omega (arith, is, r.stages.taken_is_filed n, r.stages.pending_once n, r.stages.bit n)))
    Invariant-take has_share n saw_it zero None is has = r
    Invariant-take has_share n saw_it zero (Some b) is has =
        let st : ℕ → Stage = update s.stage n Taken in let T' : ℕ → ℕ = λ m. taken_bit (st m) in
        let home' : ℕ → Slot = update s.home n away in
        let stage_else = λ (m : ℕ) (ne : m ≢ n). let g : st m ≡ s.stage m = update-other s.stage n Taken m ne in g in
        let home_else = λ (m : ℕ) (ne : m ≢ n). let g : home' m ≡ s.home m = update-other s.home n away m ne in g in
        let f1 : F n ≡ 1 = saw.filed n saw_it in let c1 : C n ≡ 1 = claimed-of_filed n f1 in
        equal_bits_preserve limit s.drawn s.drawn C (λ m. claimed_bit (st m)) F (λ m. filed_bit (st m)) T' T' s.content
        (λ m. home' m ≡ empty) (λ m x. home' m ≡ filled x) (set s.views i (after_take v n b)) (λ _. refl)
        (each-by_cases n (λ m. claimed_bit (st m) ≡ C m) (ap claimed_bit (update-same s.stage n Taken) ∙ sym c1)
        (λ m ne. ap claimed_bit (stage_else m ne)))
        (each-by_cases n (λ m. filed_bit (st m) ≡ F m) (ap filed_bit (update-same s.stage n Taken) ∙ sym f1)
        (λ m ne. ap filed_bit (stage_else m ne))) (λ _. refl)
        (take_preserves limit s.drawn C F T s.content E H s.views r i v e has_share T' (λ m. home' m ≡ empty)
        (λ m x. home' m ≡ filled x) n b f1 is (ap taken_bit (update-same s.stage n Taken))
        (λ m ne. ap taken_bit (stage_else m ne)) has
        (λ m ne h. home_else m ne ∙ h) (λ m x ne h. home_else m ne ∙ h) (λ m x ne h. sym (home_else m ne) ∙ h)
        (λ x h. let here = update-same s.home n away in away-not_filled x (sym here ∙ h)))

    -- the invariant holds after the emptied slot of n, which the bench took, was returned
    Invariant-give : (n : ℕ) (h : ℕ → BenchProgress) → 0 < occurrences n (numbers v.takes) → Invariant limit
        (record s { home = update s.home n empty; progress = h })
    Invariant-give n h mine =
        let home' : ℕ → Slot = update s.home n empty in let home_else = λ (m : ℕ) (ne : m ≢ n). let g : home' m
        ≡ s.home m = update-other s.home n empty m ne in g in
        give_preserves limit s.drawn C F T s.content E H s.views r (λ m. home' m ≡ empty) (λ m x. home' m ≡ filled x) n
        (is_taken limit s.drawn C F T s.content E H s.views r i v e n mine)
        (λ m ne h. home_else m ne ∙ h) (λ m x ne h. home_else m ne ∙ h) (λ m x ne h. sym (home_else m ne) ∙ h)
        (λ x h. let here = update-same s.home n empty in empty-not_filled x (sym here ∙ h))

  -- the invariant holds after a bench without a share was made
  Invariant-make : Invariant limit (with_views s (s.views ++ empty_view ∷ []))
  Invariant-make = record {
    draws = DrawInvariant-append s.drawn s.views r.draws empty_view (λ _. refl) (λ _ h. absurd (omega arith));
    shares = ShareInvariant-append s.views r.shares empty_view refl
        (record { list = refl; takes = refl; draws = refl; pending = refl });
    stages = StageInvariant-append limit C F T s.views r.stages empty_view (λ _. refl) (λ _. refl) (λ _. refl)
        (record {
          claimed = λ _ h. absurd (omega arith);
          filed = λ _ h. absurd (omega arith);
          taken = λ _ h. absurd
              (omega arith);
        });
    contents = ContentInvariant-append C F T s.content E H s.views r.contents empty_view
        (record { listed = λ _ _ h. absurd h; took = λ _ _ h. absurd h });
  }

  -- each event keeps the invariant
  pub Invariant-event : (draws : ℕ) (e : BoardEvent) (t : Core) → Happens limit draws s e t → Invariant limit t
  Invariant-event draws make t is = subst (Invariant limit) (sym is) Invariant-make
  Invariant-event draws (split i) t (v, e, _, is) = subst (Invariant limit) (sym is)
      (split_preserves limit s.drawn C F T s.content E H s.views r i v e)
  Invariant-event draws (join i j) t (v, w, ne, e, f, _, _, is) = subst (Invariant limit) (sym is)
      (join_preserves limit s.drawn C F T s.content E H s.views r i v e j w ne f)
  Invariant-event draws (claim i n b) t (v, low, e, has_share, none, is) = subst (Invariant limit) (sym is)
      (Invariant-claim i v e has_share n b low none (C n) refl)
  Invariant-event draws (put i n b) t (v, _, _, _, is) = subst (Invariant limit) (sym is)
      (record { draws = r.draws; shares = r.shares; stages = r.stages; contents = r.contents })
  Invariant-event draws (file i n b) t (v, e, one, _, is) =
      subst (Invariant limit) (sym is) (Invariant-file i v e n b one)
  Invariant-event draws (look i row g) t (v, e, is) = subst (Invariant limit) (sym is) (Invariant-look i v e row g)
  Invariant-event draws (draw i d) t (v, _, e, has_share, is) = subst (Invariant limit) (sym is)
      (Invariant-draw i v e has_share d (s.drawn d) refl)
  Invariant-event draws (take i n) t (v, e, has_share, saw_it, is) = subst (Invariant limit) (sym is)
      (Invariant-take i v e has_share n saw_it (T n) (s.content n) refl refl)
  Invariant-event draws (lift i n) t (v, b, _, _, is) = subst (Invariant limit) (sym is)
      (record { draws = r.draws; shares = r.shares; stages = r.stages; contents = r.contents })
  Invariant-event draws (give i n) t (v, b, e, mine, _, is) = subst (Invariant limit) (sym is)
      (Invariant-give i v e n (update s.progress i BenchProgress.idle) mine)
  Invariant-event draws (load i) t (v, _, is) = subst (Invariant limit) (sym is) r

-- a run keeps the invariant
pub Invariant-run : (limit draws : ℕ) (es : List BoardEvent) (s t : Core) → Invariant limit s → IsRun limit draws s es t
    → Invariant limit t
Invariant-run limit draws [] s t r is = subst (Invariant limit) (sym is) r
Invariant-run limit draws (e ∷ es) s t r (u, h, more) =
    Invariant-run limit draws es u t (Invariant-event limit s r draws e u h)
    more

-- the invariant holds at the start
pub Invariant-start : (limit : ℕ) → Invariant limit start
Invariant-start limit = record {
  shares = ShareInvariant-first;
  draws = record {
    bit = λ _. omega arith;
    won_once = λ _. omega arith;
    found = each-of_first_view
        (λ v. (d : ℕ) → 0 < occurrences d v.found → 0 ≡ 1) (λ d h. absurd (omega arith));
  };
  stages = record {
    bit = λ _. omega arith;
    in_range = λ _ h. absurd (omega arith);
    taken_is_filed = λ _. omega arith;
    pending_once = λ _. omega arith;
    filed_once = λ _. omega arith;
    taken_once = λ _. omega arith;
    saw_claimed = each-of_first_view (λ v. (n : ℕ) → 0 < occurrences n v.claimed → 0 ≡ 1) (λ d h. absurd (omega arith));
    saw_filed = each-of_first_view (λ v. (n : ℕ) → 0 < occurrences n v.filed → 0 ≡ 1) (λ d h. absurd (omega arith));
    saw_taken = each-of_first_view (λ v. (n : ℕ) → 0 < occurrences n v.taken → 0 ≡ 1) (λ d h. absurd (omega arith));
  };
  contents = record {
    free_is_empty = λ _ _. refl;
    unfiled_is_none = λ _ _. refl;
    filed_is_stored = λ n z. absurd (omega (arith, z));
    stored_is_filed = λ n b e. absurd (empty-not_filled b e);
    listed = each-of_first_view (λ v. (n : ℕ) (b : Block) → HasPair v.list n b → None ≡ Some b) (λ n b h. absurd h);
    took = each-of_first_view (λ v. (n : ℕ) (b : Block) → HasPair v.takes n b → None ≡ Some b) (λ n b h. absurd h);
  };
}
