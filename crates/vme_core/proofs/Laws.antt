-- The invariant implies the law of a state, and no event takes anything back.
use Rattle.std.proofs.Common.{◌≡◌, ℕ, zero, suc, ◌≤◌, List, [], ◌∷◌, ◌++◌, set, sym, refl, ap, ◌∙◌, arith, subst}
use Rattle.std.proofs.Common.{le_refl, Option, Some, None}
use Rattle.vme_trace.specs.declared.block.Block.{Block}
use Rattle.vme_core.specs.declared.stage.Stage.{Stage}
use Rattle.vme_core.specs.declared.stage.Stage.TheVariants.{Claimed, Filed, Taken}
use Rattle.vme_core.specs.declared.view.View.{View}
use Rattle.vme_core.specs.Counting.{occurrences, numbers, update}
use Rattle.vme_core.specs.Stages.{rank, claimed_bit, filed_bit, taken_bit}
use Rattle.vme_core.specs.Views.{empty_view, kept_view, split_view, joint_view}
use Rattle.vme_core.specs.Machine.{Core, BoardEvent, empty, filled, idle, has_put, has_lifted, make, split, join, claim}
use Rattle.vme_core.specs.Machine.{put, file, look, draw, take, lift, give, load, with_views, after_claim_step}
use Rattle.vme_core.specs.Machine.{after_file_step, after_draw_step, after_take_step, after_look, Happens, IsRun}
use Rattle.vme_core.specs.BoardInvariant.{Invariant}
use Rattle.vme_core.specs.Law.{IsLawful, OnlyGrows}
use Rattle.vme_core.proofs.Sums.{sum_by-plus, update-same, update-other, each-by_cases}
use Rattle.vme_core.proofs.StageRanks.{Bits-of, rank-stage_of}
use Rattle.vme_core.proofs.InvariantSteps.{own_draws, own_list, own_takes, own_claims, is_pending, None-not_Some}
use Rattle.vme_core.proofs.Runs.{Invariant-event}

-- at the stage Filed the bit `filed` is 1 and `taken` 0
bits-Filed : (x : Stage) → x ≡ Filed → (filed_bit x ≡ 1) × (taken_bit x ≡ 0)
bits-Filed x is = (ap filed_bit is, ap taken_bit is)

-- a state with the invariant is lawful
pub IsLawful-Invariant : (limit : ℕ) (s : Core) → Invariant limit s → IsLawful s
IsLawful-Invariant limit s r = let C : ℕ → ℕ = λ n. claimed_bit (s.stage n) in let F : ℕ → ℕ =
    λ n. filed_bit (s.stage n) in
    let T : ℕ → ℕ = λ n. taken_bit (s.stage n) in let E : ℕ → Type 0 = λ n. s.home n ≡ empty in
    let H : ℕ → Block → Type 0 = λ n b. s.home n ≡ filled b in record {
      one_owner = λ n. omega (
        arith,
        sum_by-plus (λ (v : View). occurrences n v.pending)
            (λ v. occurrences n (numbers v.list)) s.views,
        r.stages.pending_once n,
        r.stages.filed_once n,
        r.stages.bit n,
      );
      filed_once = r.stages.filed_once;
      taken_once = r.stages.taken_once;
      listed = r.contents.listed;
      took = r.contents.took;
      filed_is_stored = λ n is. let f = bits-Filed (s.stage n) is in r.contents.filed_is_stored n f.0 f.1;
      won_once = r.draws.won_once;
      whole_share_did_all = λ i v e all. record {
        draws = own_draws limit s.drawn C F T s.content E H s.views r i v e all;
        filed = own_list limit s.drawn C F T s.content E H s.views r i v e all;
        taken = own_takes limit s.drawn C F T s.content E H s.views r i v e all;
        claimed = own_claims limit s.drawn C F T s.content E H s.views r i v e all;
      };
      seen_is_so = λ i v e n. rank-stage_of (occurrences n v.taken) (occurrences n v.filed) (occurrences n v.claimed)
          (s.stage n) (r.stages.saw_claimed i v e n) (r.stages.saw_filed i v e n) (r.stages.saw_taken i v e n);
      found_is_drawn = r.draws.found;
    }

-- `OnlyGrows` holds if the stages, the contents and the drawn bits don't change
OnlyGrows-unchanged : (s t : Core) → s.stage ≡ t.stage → s.content ≡ t.content → s.drawn ≡ t.drawn → OnlyGrows s t
OnlyGrows-unchanged s t a b d = record {
  stages = λ n. omega (arith, ap (λ (f : ℕ → Stage). rank (f n)) a);
  contents = λ n x h. sym (ap (λ (f : ℕ → Option Block). f n) b) ∙ h;
  draws = λ n. omega (arith, ap (λ (f : ℕ → ℕ). f n) d);
}

-- `OnlyGrows` holds if the stage of n becomes x, which isn't earlier, and no other stage, content or drawn bit changes
OnlyGrows-stage : (s t : Core) (n : ℕ) (x : Stage) → t.stage ≡ update s.stage n x → rank (s.stage n) ≤ rank x
    → ((m : ℕ) (b : Block) → s.content m ≡ Some b → t.content m ≡ Some b) → s.drawn ≡ t.drawn → OnlyGrows s t
OnlyGrows-stage s t n x is up stay d = record {
  stages = λ m. subst (λ (f : ℕ → Stage). rank (s.stage m) ≤ rank (f m)) (sym is)
      (each-by_cases n (λ m. rank (s.stage m) ≤ rank (update s.stage n x m))
      (omega (arith, up, ap rank (update-same s.stage n x)))
      (λ m ne. omega (arith, ap rank (update-other s.stage n x m ne))) m);
  contents = stay;
  draws = λ n. omega (arith, ap (λ (f : ℕ → ℕ). f n) d);
}

module _ (limit : ℕ) (s : Core) (r : Invariant limit s) where
  -- a try to claim n takes nothing back
  OnlyGrows-claim : (i n : ℕ) (b : Block) (v : View) (x : ℕ) → claimed_bit (s.stage n) ≡ x
      → OnlyGrows s (after_claim_step s i n b v x)
  OnlyGrows-claim i n b v (suc k) is = OnlyGrows-unchanged s _ refl refl refl
  OnlyGrows-claim i n b v zero is = let bits = Bits-of (s.stage n) in OnlyGrows-stage s
      (after_claim_step s i n b v zero) n Claimed
      refl (omega (arith, is, bits.sum, bits.filed, bits.taken)) (λ m x h. h) refl

  -- the filing of n, which isn't filed, takes nothing back
  OnlyGrows-file : (i n : ℕ) (b : Block) (v : View) → filed_bit (s.stage n) ≡ 0
      → OnlyGrows s (after_file_step s i n b v)
  OnlyGrows-file i n b v none = let bits = Bits-of (s.stage n) in OnlyGrows-stage s (after_file_step s i n b v) n Filed
      refl
      (omega (arith, none, bits.sum, bits.taken, bits.claimed))
      (λ m x. each-by_cases n (λ m. s.content m ≡ Some x → update s.content n (Some b) m ≡ Some x)
      (λ z. absurd (None-not_Some x (sym (r.contents.unfiled_is_none n none) ∙ z))) (λ m ne z. update-other s.content n
      (Some b) m ne ∙ z) m) refl

  -- a try to take n takes nothing back
  OnlyGrows-take : (i n : ℕ) (v : View) (x : ℕ) (c : Option Block) → OnlyGrows s (after_take_step s i n v x c)
  OnlyGrows-take i n v (suc k) c = OnlyGrows-unchanged s _ refl refl refl
  OnlyGrows-take i n v zero None = OnlyGrows-unchanged s s refl refl refl
  OnlyGrows-take i n v zero (Some b) = let bits = Bits-of (s.stage n) in OnlyGrows-stage s
      (after_take_step s i n v zero (Some b)) n
      Taken refl (omega (arith, bits.sum, bits.claimed, bits.filed, bits.taken)) (λ m x h. h) refl

  -- a try of the draw d takes nothing back
  OnlyGrows-draw : (i d : ℕ) (v : View) (x : ℕ) → s.drawn d ≡ x → OnlyGrows s (after_draw_step s i d v x)
  OnlyGrows-draw i d v (suc k) is = OnlyGrows-unchanged s _ refl refl refl
  OnlyGrows-draw i d v zero is = record {
    stages = λ n. le_refl _;
    contents = λ n b h. h;
    draws = each-by_cases d (λ m. s.drawn m ≤ update s.drawn d 1 m) (omega (arith, is, update-same s.drawn d 1))
        (λ m ne. omega (arith, update-other s.drawn d 1 m ne));
  }

  -- no event takes anything back
  OnlyGrows-event : (draws : ℕ) (e : BoardEvent) (t : Core) → Happens limit draws s e t → OnlyGrows s t
  OnlyGrows-event draws make t is = subst (OnlyGrows s) (sym is)
      (OnlyGrows-unchanged s (with_views s (s.views ++ empty_view ∷ [])) refl
      refl refl)
  OnlyGrows-event draws (split i) t (v, e, _, is) = subst (OnlyGrows s) (sym is)
      (OnlyGrows-unchanged s (with_views s (set s.views i (kept_view v) ++ split_view v ∷ [])) refl refl refl)
  OnlyGrows-event draws (join i j) t (v, w, ne, e, f, _, _, is) = subst (OnlyGrows s) (sym is)
      (OnlyGrows-unchanged s (with_views s (set (set s.views i (joint_view v w)) j empty_view)) refl refl refl)
  OnlyGrows-event draws (claim i n b) t (v, _, e, _, none, is) = subst (OnlyGrows s) (sym is)
      (OnlyGrows-claim i n b v (claimed_bit (s.stage n)) refl)
  OnlyGrows-event draws (put i n b) t (v, _, _, _, is) = subst (OnlyGrows s) (sym is)
      (OnlyGrows-unchanged s (record s { progress = update s.progress i (has_put n b) }) refl refl refl)
  OnlyGrows-event draws (file i n b) t (v, e, one, _, is) =
      let was = is_pending limit s.drawn (λ n. claimed_bit (s.stage n)) (λ n. filed_bit (s.stage n))
      (λ n. taken_bit (s.stage n)) s.content (λ n. s.home n ≡ empty) (λ n b. s.home n ≡ filled b) s.views r i v e n
      one in
      subst (OnlyGrows s) (sym is) (OnlyGrows-file i n b v was.1)
  OnlyGrows-event draws (look i row g) t (v, e, is) = subst (OnlyGrows s) (sym is)
      (OnlyGrows-unchanged s (with_views s (set s.views i (after_look s v row g))) refl refl refl)
  OnlyGrows-event draws (draw i d) t (v, _, e, _, is) = subst (OnlyGrows s) (sym is)
      (OnlyGrows-draw i d v (s.drawn d) refl)
  OnlyGrows-event draws (take i n) t (v, e, _, saw_it, is) = subst (OnlyGrows s) (sym is)
      (OnlyGrows-take i n v (taken_bit (s.stage n)) (s.content n))
  OnlyGrows-event draws (lift i n) t (v, b, _, _, is) = subst (OnlyGrows s) (sym is)
      (OnlyGrows-unchanged s (record s { progress = update s.progress i (has_lifted n b) }) refl refl refl)
  OnlyGrows-event draws (give i n) t (v, b, e, mine, _, is) = subst (OnlyGrows s) (sym is)
      (OnlyGrows-unchanged s (record s { home = update s.home n empty; progress = update s.progress i idle }) refl refl
      refl)
  OnlyGrows-event draws (load i) t (v, _, is) = subst (OnlyGrows s) (sym is) (OnlyGrows-unchanged s s refl refl refl)

-- no run takes anything back
pub OnlyGrows-run : (limit draws : ℕ) (es : List BoardEvent) (s t : Core) → Invariant limit s → IsRun limit draws s es t
    → OnlyGrows s t
OnlyGrows-run limit draws [] s t r is = subst (OnlyGrows s) (sym is) (OnlyGrows-unchanged s s refl refl refl)
OnlyGrows-run limit draws (e ∷ es) s t r (u, h, more) = let a = OnlyGrows-event limit s r draws e u h in
    let b = OnlyGrows-run limit draws es u t (Invariant-event limit s r draws e u h) more in record {
      stages = λ n. let x = a.stages n in let y = b.stages n in omega (arith, x, y);
      contents = λ n x h. b.contents n x (a.contents n x h);
      draws = λ n. let x = a.draws n in let y = b.draws n in omega (arith, x, y);
    }
