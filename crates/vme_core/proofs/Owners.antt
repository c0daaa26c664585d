-- A number is filed by its owner, and taken when it is filed.
use Rattle.std.proofs.Common.{◌≡◌, ℕ, zero, suc, ◌<◌, ◌≢◌, [], ◌∷◌, ◌++◌, set, sym, refl, ap, ◌∙◌, arith, subst, Option}
use Rattle.std.proofs.Common.{Some, None}
use Rattle.vme_trace.specs.declared.block.Block.{Block}
use Rattle.vme_core.specs.declared.stage.Stage.{Stage}
use Rattle.vme_core.specs.declared.stage.Stage.TheVariants.{Free, Claimed, Filed, Taken}
use Rattle.vme_core.specs.declared.view.View.{View}
use Rattle.vme_core.specs.Counting.{numbers, update}
use Rattle.vme_core.specs.Stages.{claimed_bit, filed_bit, taken_bit}
use Rattle.vme_core.specs.Views.{empty_view, kept_view, split_view, joint_view, after_filing, after_take}
use Rattle.vme_core.specs.Machine.{Core, BoardEvent, empty, idle, has_put, has_lifted, make, split, join, claim, put}
use Rattle.vme_core.specs.Machine.{file, look, draw, take, lift, give, load, with_views, HasView, after_claim_step}
use Rattle.vme_core.specs.Machine.{after_file_step, after_draw_step, after_take_step, after_look, Happens}
use Rattle.vme_core.specs.BoardInvariant.{Invariant}
use Rattle.vme_core.specs.Law.{IsFiledByOwner, IsTakenWhenFiled, IsRightStep}
use Rattle.vme_core.proofs.Sums.{occurrences-cons_same, update-same, update-other, each-by_cases, get_elem-set_same}

-- `IsRightStep` holds if the stages don't change
IsRightStep-same_stages : (s t : Core) → s.stage ≡ t.stage → IsRightStep s t
IsRightStep-same_stages s t e = record {
  files = λ n more. absurd (let same = ap (λ (f : ℕ → Stage). filed_bit (f n)) e in omega (arith, more, same));
  takes = λ n more. absurd (let same = ap (λ (f : ℕ → Stage). taken_bit (f n)) e in omega (arith, more, same));
}

-- the case that only the stage of n changes, to x
module _ (s t : Core) (n : ℕ) (x : Stage) (is : t.stage ≡ update s.stage n x) where
  -- a bit of the stage of n is that of x
  stage-changed : (g : Stage → ℕ) → g (t.stage n) ≡ g x
  stage-changed g = ap (λ (f : ℕ → Stage). g (f n)) is ∙ ap g (update-same s.stage n x)

  -- a bit of the stage of another number is as it was
  stage-other : (g : Stage → ℕ) (m : ℕ) → m ≢ n → g (t.stage m) ≡ g (s.stage m)
  stage-other g m ne = ap (λ (f : ℕ → Stage). g (f m)) is ∙ ap g (update-other s.stage n x m ne)

  -- `IsRightStep` holds if n is filed by its owner where the change to x files it, and taken when it is filed where the
  -- change takes it
  IsRightStep-one_stage : (filed_bit (s.stage n) < filed_bit x → IsFiledByOwner s t n)
      → (taken_bit (s.stage n) < taken_bit x
      → IsTakenWhenFiled s t n) → IsRightStep s t
  IsRightStep-one_stage files takes = record {
    files = each-by_cases n (λ m. filed_bit (s.stage m) < filed_bit (t.stage m) → IsFiledByOwner s t m)
        (λ more. files (omega (arith, more, stage-changed filed_bit)))
        (λ m ne more. absurd (omega (arith, more, stage-other filed_bit m ne)));
    takes = each-by_cases n (λ m. taken_bit (s.stage m) < taken_bit (t.stage m) → IsTakenWhenFiled s t m)
        (λ more. takes (omega (arith, more, stage-changed taken_bit)))
        (λ m ne more. absurd (omega (arith, more, stage-other taken_bit m ne)));
  }

-- a stage whose bit `filed` is 1 and `taken` 0 is Filed
Filed-by_bits : (x : Stage) → filed_bit x ≡ 1 → taken_bit x ≡ 0 → x ≡ Filed
Filed-by_bits Free f t = absurd (omega arith)
Filed-by_bits Claimed f t = absurd (omega arith)
Filed-by_bits Filed f t = refl
Filed-by_bits Taken f t = absurd (omega arith)

-- a try to claim a number files and takes none
IsRightStep-claim : (s : Core) (i n : ℕ) (b : Block) (v : View) (x : ℕ) → IsRightStep s (after_claim_step s i n b v x)
IsRightStep-claim s i n b v (suc k) = IsRightStep-same_stages s _ refl
IsRightStep-claim s i n b v zero = IsRightStep-one_stage s (after_claim_step s i n b v zero) n Claimed refl
    (λ more. absurd (omega arith))
    (λ more. absurd (omega arith))

-- a try of a draw files and takes no number
IsRightStep-draw : (s : Core) (i d : ℕ) (v : View) (x : ℕ) → IsRightStep s (after_draw_step s i d v x)
IsRightStep-draw s i d v zero = IsRightStep-same_stages s _ refl
IsRightStep-draw s i d v (suc k) = IsRightStep-same_stages s _ refl

-- a number that is filed is filed by its owner, with which it is pending
IsRightStep-file : (s : Core) (i n : ℕ) (b : Block) (v : View) → HasView s i v → v.pending ≡ n ∷ []
    → IsRightStep s (after_file_step s i n b v)
IsRightStep-file s i n b v e one = IsRightStep-one_stage s (after_file_step s i n b v) n Filed refl
    (λ more. (
      i,
      v,
      after_filing v n b,
      e,
      get_elem-set_same s.views i (after_filing v n b) v e,
      one,
      (let found = occurrences-cons_same n (numbers v.list) in omega (arith, found)),
    )) (λ more. absurd (omega arith))

-- a try to take a filed number takes it at the stage Filed, or takes none
IsRightStep-take : (s : Core) (i n : ℕ) (v : View) (x : ℕ) (c : Option Block) → HasView s i v → filed_bit (s.stage n)
    ≡ 1
    → IsRightStep s (after_take_step s i n v x c)
IsRightStep-take s i n v (suc k) c e full = IsRightStep-same_stages s _ refl
IsRightStep-take s i n v zero None e full = IsRightStep-same_stages s s refl
IsRightStep-take s i n v zero (Some b) e full = IsRightStep-one_stage s (after_take_step s i n v zero (Some b)) n Taken
    refl
    (λ more. absurd (omega (arith, more, full)))
    (λ more. (
      Filed-by_bits (s.stage n) full (omega (arith, more)),
      (
        i,
        after_take v n b,
        get_elem-set_same s.views i (after_take v n b) v e,
        (let found = occurrences-cons_same n (numbers v.takes) in omega (arith, found)),
      ),
    ))

-- each event, in a state with the invariant, is a right step
pub IsRightStep-event : (limit : ℕ) (s : Core) → Invariant limit s → (draws : ℕ) (e : BoardEvent) (t : Core)
    → Happens limit draws s e t → IsRightStep s t
IsRightStep-event limit s r draws make t is = subst (IsRightStep s) (sym is)
    (IsRightStep-same_stages s (with_views s (s.views ++ empty_view ∷ [])) refl)
IsRightStep-event limit s r draws (split i) t (v, e, _, is) = subst (IsRightStep s) (sym is)
    (IsRightStep-same_stages s (with_views s (set s.views i (kept_view v) ++ split_view v ∷ [])) refl)
IsRightStep-event limit s r draws (join i j) t (v, w, ne, e, f, _, _, is) = subst (IsRightStep s) (sym is)
    (IsRightStep-same_stages s (with_views s (set (set s.views i (joint_view v w)) j empty_view)) refl)
IsRightStep-event limit s r draws (claim i n b) t (v, _, e, _, _, is) = subst (IsRightStep s) (sym is)
    (IsRightStep-claim s i n b v (claimed_bit (s.stage n)))
IsRightStep-event limit s r draws (put i n b) t (v, _, _, _, is) = subst (IsRightStep s) (sym is)
    (IsRightStep-same_stages s (record s { progress = update s.progress i (has_put n b) }) refl)
IsRightStep-event limit s r draws (file i n b) t (v, e, one, _, is) =
    subst (IsRightStep s) (sym is) (IsRightStep-file s i n b v e one)
IsRightStep-event limit s r draws (look i row g) t (v, e, is) = subst (IsRightStep s) (sym is)
    (IsRightStep-same_stages s (with_views s (set s.views i (after_look s v row g))) refl)
IsRightStep-event limit s r draws (draw i d) t (v, _, e, _, is) =
    subst (IsRightStep s) (sym is) (IsRightStep-draw s i d v (s.drawn d))
IsRightStep-event limit s r draws (take i n) t (v, e, _, saw, is) = subst (IsRightStep s) (sym is)
    (IsRightStep-take s i n v (taken_bit (s.stage n)) (s.content n) e (r.stages.saw_filed i v e n saw))
IsRightStep-event limit s r draws (lift i n) t (v, b, _, _, is) = subst (IsRightStep s) (sym is)
    (IsRightStep-same_stages s (record s { progress = update s.progress i (has_lifted n b) }) refl)
IsRightStep-event limit s r draws (give i n) t (v, b, _, _, _, is) = subst (IsRightStep s) (sym is)
    (IsRightStep-same_stages s (record s { home = update s.home n empty; progress = update s.progress i idle }) refl)
IsRightStep-event limit s r draws (load i) t (v, _, is) =
    subst (IsRightStep s) (sym is) (IsRightStep-same_stages s s refl)
