-- The work of a bench (`IsWork`) after one more delivery, after a join of two benches, and the draws that are still to
-- be found.
use Rattle.std.proofs.Common.{◌≡◌, ◌==◌, ℕ, zero, suc, ◌+◌, ◌<◌, ◌≤◌, cond, List, [], ◌∷◌, ◌++◌, length, slice_get}
use Rattle.std.proofs.Common.{Option, Some, None, sym, refl, ap, ◌∙◌, subst, arith, inl, inr, ne_eqb, ◌≢◌}
use Rattle.std.specs.Prelude.{Bool, true, false, nat_lt, if◌then◌else◌}
use Rattle.std.proofs.lemmas.Bool.Decides.{nat_tests}
use Rattle.std.proofs.lemmas.Option.{none-some}
use mathlib.Core.Logic.{dite}
use native.Mathlib.Decide.{ℕ_discrete}
use Rattle.vme_trace.specs.declared.block.Block.{Block}
use Rattle.vme_core.specs.Counting.{occurrences, numbers, HasPair}
use Rattle.vme_core.specs.Views.{joint_view}
use Rattle.vme_core.specs.declared.view.View.{View}
use Rattle.vme_core.specs.Stages.{rank, seen, HasSeen, SeesMore}
use Rattle.vme_core.specs.declared.stage.Stage.TheVariants.{Claimed}
use Rattle.vme_core.proofs.StageRanks.{rank-seen_grows}
use Rattle.vme_board.specs.Views.{AllFound}
use Rattle.vme_core.proofs.Sums.{occurrences-append, numbers-append}
use Rattle.vme_floor.specs.Answering.{first_refusal, IsRightAnswer}
use Rattle.vme_floor.specs.declared.answer.Answer.{Answer}
use Rattle.vme_floor.specs.declared.answer.Answer.TheVariants.{Filed, Stranger, TooLong, Malformed, Doubled, Memory}
use Rattle.vme_floor.specs.declared.answer.Reply.{Reply}
use Rattle.vme_floor.specs.Accounts.{reply_of}
use Rattle.vme_floor.specs.Works.{number_in, number_at, filing, filings, replied, Each, IsListed, IsSeenIf}
use Rattle.vme_floor.specs.Works.{IsOldOrFiled, IsReply, IsWork, IsListAfter, unfound_below}
use Rattle.vme_floor.proofs.Weighing.{filing-positive}

-- if there is no refusal, the number is below `total`
lt-no_refusal : (total n : ℕ) (test : Bool) (rest : Option Answer) → nat_lt n total ≡ test
    → (if test then rest else Some Stranger) ≡ None → n < total
lt-no_refusal total n true rest e none = grind (arith, nat_tests)
lt-no_refusal total n false rest e none = absurd (none-some Stranger (sym none))

-- the number of a block without a refusal of its own is below `total`
pub number-below_total : (total : ℕ) (b : Block) → first_refusal total b ≡ None → b.number < total
number-below_total total b none = lt-no_refusal total b.number (nat_lt b.number total) _ refl none

-- P holds of each item of both lists, if it does of each item of each
Each-append : {A : Type 0} (P : A → Type 0) (xs ys : List A) → Each P xs → Each P ys → Each P (xs ++ ys)
Each-append P [] ys e f = f
Each-append P (x ∷ xs) ys e f = (e.0, Each-append P xs ys e.1 f)

-- if P implies Q, P of each item implies Q of each item
Each-map : {A : Type 0} (P Q : A → Type 0) → ((x : A) → P x → Q x) → (xs : List A) → Each P xs → Each Q xs
Each-map P Q f [] e = tt
Each-map P Q f (x ∷ xs) e = (f x e.0, Each-map P Q f xs e.1)

-- the replies of two lists, appended, that say that n is filed are as many as those of both together
filings-append : (ds : List Block) (xs ys : List Reply) (n : ℕ) → filings ds (xs ++ ys) n ≡ filings ds xs n + filings ds
    ys n
filings-append ds [] ys n = omega arith
filings-append ds (x ∷ xs) ys n = omega (arith, filings-append ds xs ys n)

-- the deliveries with a reply in both lists are those of each
replied-append : (xs ys : List Reply) → replied (xs ++ ys) ≡ replied xs ++ replied ys
replied-append [] ys = refl
replied-append (x ∷ xs) ys = ap (λ (l : List ℕ). x.delivery ∷ l) (replied-append xs ys)

-- a pair of the first list is one of both
HasPair-append_left : (xs ys : List (ℕ × Block)) (n : ℕ) (b : Block) → HasPair xs n b → HasPair (xs ++ ys) n b
HasPair-append_left [] ys n b h = absurd h
HasPair-append_left (x ∷ xs) ys n b h = elim h [ inl e ↦ inl e | inr t ↦ inr (HasPair-append_left xs ys n b t) ]

-- a pair of the second list is one of both
HasPair-append_right : (xs ys : List (ℕ × Block)) (n : ℕ) (b : Block) → HasPair ys n b → HasPair (xs ++ ys) n b
HasPair-append_right [] ys n b h = h
HasPair-append_right (x ∷ xs) ys n b h = inr (HasPair-append_right xs ys n b h)

-- each pair of xs is in ys
abbrev IsSubset : List (ℕ × Block) → List (ℕ × Block) → Type 0
IsSubset xs ys = (n : ℕ) (b : Block) → HasPair xs n b → HasPair ys n b

-- if `IsListed` holds of xs, it holds of each list ys that has the pairs of xs
IsListed-more : (xs ys : List (ℕ × Block)) → IsSubset xs ys → (a : Answer) (b : Block) → IsListed xs b a
    → IsListed ys b a
IsListed-more xs ys f Filed b r = f b.number b r
IsListed-more xs ys f Stranger b r = tt
IsListed-more xs ys f TooLong b r = tt
IsListed-more xs ys f (Malformed step) b r = tt
IsListed-more xs ys f Doubled b r = tt
IsListed-more xs ys f Memory b r = tt

-- if `IsReply` holds of each reply with the list xs, it does with each list ys that has the pairs of xs
IsReply-more : (total : ℕ) (ds : List Block) (xs ys : List (ℕ × Block)) → IsSubset xs ys → (rs : List Reply)
    → Each (IsReply total ds xs) rs → Each (IsReply total ds ys) rs
IsReply-more total ds xs ys f = Each-map (IsReply total ds xs) (IsReply total ds ys)
    (λ t r. (r.0, λ b e. let s = r.1 b e in (s.0, IsListed-more xs ys f t.answer b s.1)))

-- `IsSeenIf` holds of a bench that has seen more
IsSeenIf-more : (ds : List Block) (v w : View) → SeesMore v w → (rs : List Reply) → Each (IsSeenIf ds v) rs
    → Each (IsSeenIf ds w) rs
IsSeenIf-more ds v w more = Each-map (IsSeenIf ds v) (IsSeenIf ds w)
    (λ r f is. let a : 1 ≤ rank (seen v (number_at ds r.delivery)) = f is in
    let b = rank-seen_grows v w (number_at ds r.delivery) more in let g : 1 ≤ rank (seen w (number_at ds r.delivery)) =
    omega
    (arith, a, b) in g)

-- after a join a bench has seen what the first had
SeesMore-joint_left : (v w u : View) → u ≡ joint_view v w → SeesMore v u
SeesMore-joint_left v w u is = subst (SeesMore v) (sym is)
    (record {
      found = λ d. omega (arith, occurrences-append d v.found w.found);
      claimed = λ d. omega
          (arith, occurrences-append d v.claimed w.claimed);
      filed = λ d. omega (arith, occurrences-append d v.filed w.filed);
      taken = λ d. omega (arith, occurrences-append d v.taken w.taken);
    })

-- after a join a bench has seen what the second had
SeesMore-joint_right : (v w u : View) → u ≡ joint_view v w → SeesMore w u
SeesMore-joint_right v w u is = subst (SeesMore w) (sym is)
    (record {
      found = λ d. omega (arith, occurrences-append d v.found w.found);
      claimed = λ d. omega
          (arith, occurrences-append d v.claimed w.claimed);
      filed = λ d. omega (arith, occurrences-append d v.filed w.filed);
      taken = λ d. omega (arith, occurrences-append d v.taken w.taken);
    })

-- after a join, the bench has found each draw that the first has found
pub AllFound-joint : (v w u : View) (k : ℕ) → u ≡ joint_view v w → AllFound v k → AllFound u k
AllFound-joint v w u k is all d low =
    let a = all d low in let b = (SeesMore-joint_left v w u is).found d in omega (arith, a, b)

-- a delivery adds the number of its block to the list if it is filed, and else nothing
module _ (old new : List (ℕ × Block)) (b : Block) where
  -- the numbers of the list after the delivery, counted
  occurrences-list_after : (a : Answer) → IsListAfter old new b a → (n : ℕ) → occurrences n (numbers new)
      ≡ filing a b.number n +
      occurrences
      n (numbers old)
  occurrences-list_after Filed r n = ap (λ (xs : List (ℕ × Block)). occurrences n (numbers xs)) r.1
  occurrences-list_after Stranger r n = omega (arith, ap (λ (xs : List (ℕ × Block)). occurrences n (numbers xs)) r)
  occurrences-list_after TooLong r n = omega (arith, ap (λ (xs : List (ℕ × Block)). occurrences n (numbers xs)) r)
  occurrences-list_after (Malformed step) r n =
      omega (arith, ap (λ (xs : List (ℕ × Block)). occurrences n (numbers xs)) r)
  occurrences-list_after Doubled r n = omega (arith, ap (λ (xs : List (ℕ × Block)). occurrences n (numbers xs)) r)
  occurrences-list_after Memory r n = omega (arith, ap (λ (xs : List (ℕ × Block)). occurrences n (numbers xs)) r)

  -- each pair of a list is one of the same list
  IsSubset-same : new ≡ old → IsSubset old new
  IsSubset-same e n c h = subst (λ (xs : List (ℕ × Block)). HasPair xs n c) (sym e) h

  -- each pair of the list before the delivery is one of the list after it
  IsSubset-list_after : (a : Answer) → IsListAfter old new b a → IsSubset old new
  IsSubset-list_after Filed r n c h = subst (λ (xs : List (ℕ × Block)). HasPair xs n c) (sym r.1) (inr h)
  IsSubset-list_after Stranger r n c h = IsSubset-same r n c h
  IsSubset-list_after TooLong r n c h = IsSubset-same r n c h
  IsSubset-list_after (Malformed step) r n c h = IsSubset-same r n c h
  IsSubset-list_after Doubled r n c h = IsSubset-same r n c h
  IsSubset-list_after Memory r n c h = IsSubset-same r n c h

  -- the block that was delivered is in the list after it, if it was filed
  IsListed-list_after : (a : Answer) → IsListAfter old new b a → IsListed new b a
  IsListed-list_after Filed r = subst (λ (xs : List (ℕ × Block)). HasPair xs b.number b) (sym r.1) (inl (refl, refl))
  IsListed-list_after Stranger r = tt
  IsListed-list_after TooLong r = tt
  IsListed-list_after (Malformed step) r = tt
  IsListed-list_after Doubled r = tt
  IsListed-list_after Memory r = tt

  -- a number that occurs at most once in a list does so in the same list
  occurrences-once_same : new ≡ old → (n : ℕ) → occurrences n (numbers old) ≤ 1 → occurrences n (numbers new) ≤ 1
  occurrences-once_same e n o =
      let z = ap (λ (xs : List (ℕ × Block)). occurrences n (numbers xs)) e in omega (arith, z, o)

  -- a number that occurs at most once in the list before the delivery does so after it
  occurrences-once : (a : Answer) → IsListAfter old new b a → (n : ℕ) → occurrences n (numbers old) ≤ 1 → occurrences n
      (numbers new) ≤ 1
  occurrences-once Filed r n o = let e = ap (λ (xs : List (ℕ × Block)). occurrences n (numbers xs)) r.1 in
      dite (ℕ_discrete n b.number) (λ s. let z = subst (λ (y : ℕ). occurrences y (numbers old) ≡ 0) (sym s) r.0 in
      grind (arith, nat_tests)) (λ ne. let t = ap {B = ℕ} (λ t. cond t 1 0) (ne_eqb n b.number ne) in
      omega (arith, e, o, t))
  occurrences-once Stranger r n o = occurrences-once_same r n o
  occurrences-once TooLong r n o = occurrences-once_same r n o
  occurrences-once (Malformed step) r n o = occurrences-once_same r n o
  occurrences-once Doubled r n o = occurrences-once_same r n o
  occurrences-once Memory r n o = occurrences-once_same r n o

-- an option has one value
Some-equal : (b c : Block) (o : Option Block) → o ≡ Some b → o ≡ Some c → b ≡ c
Some-equal b c o e f = cc

-- `IsWork` holds after one more draw and its delivery
pub IsWork-next : (total : ℕ) (ds : List Block) (u v w : View) (rs : List Reply) (d : ℕ) (b : Block) (a : Answer)
    → IsWork total ds u rs
    → occurrences d u.draws ≡ 0 → v.draws ≡ d ∷ u.draws → v.list ≡ u.list → w.draws ≡ v.draws → IsRightAnswer total b a
    → IsListAfter v.list w.list b a → d < length ds → slice_get ds d ≡ Some b
    → SeesMore u w → (a ≡ Doubled → HasSeen w b.number Claimed) → IsWork total ds w (rs ++ reply_of d a ∷ [])
IsWork-next total ds u v w rs d b a k fresh drew same_list more suits changed near at sees second =
    let one : List Reply = reply_of d a ∷ [] in
    let lists : IsListAfter u.list w.list b a = subst (λ (xs : List (ℕ × Block)). IsListAfter xs w.list b a) same_list
    changed in
    let n_is : number_at ds d ≡ b.number = ap number_in at in
    let draws : (e : ℕ) → occurrences e w.draws ≡ cond (e == d) 1 0 + occurrences e u.draws = λ e. ap (occurrences e)
    (more ∙ drew) in
    record {
      drew = λ e. let x = draws e in let y = k.drew e in let z = ap (occurrences e) (replied-append rs one) in
          let t = occurrences-append e (replied rs) (replied one) in omega (arith, x, y, z, t);
      filed = λ n. let x = occurrences-list_after u.list w.list b a lists n in let y = k.filed n in
          let z = filings-append ds rs one n in let t = ap (λ (m : ℕ). filing a m n) n_is in omega (arith, x, y, z, t);
      right = Each-append (IsReply total ds w.list) rs one (IsReply-more total ds u.list w.list
          (IsSubset-list_after u.list w.list b a lists) rs k.right) (
            (
              near,
              λ c e. subst (λ (x : Block). IsRightAnswer total x a × IsListed w.list x a)
                  (Some-equal b c (slice_get ds d) at e) (suits, IsListed-list_after u.list w.list b a lists),
            ),
            tt,
          );
      doubled = Each-append (IsSeenIf ds w) rs one (IsSeenIf-more ds u w sees rs k.doubled)
          ((λ is. subst (λ (m : ℕ). HasSeen w m Claimed) (sym n_is) (second is)), tt);
      draws_once = λ e. let x = draws e in let o = k.draws_once e in
          dite (ℕ_discrete e d) (λ s. let z = subst (λ (y : ℕ). occurrences y u.draws ≡ 0) (sym s) fresh in
          grind (arith, nat_tests)) (λ ne. let t = ap {B = ℕ} (λ t. cond t 1 0) (ne_eqb e d ne) in
          omega (arith, x, o, t));
      files_once = λ n. occurrences-once u.list w.list b a lists n (k.files_once n);
    }

-- `IsWork` holds after a join of two benches, with the replies of both
pub IsWork-joint : (total : ℕ) (ds : List Block) (v w u : View) (xs ys : List Reply) → u ≡ joint_view v w
    → IsWork total ds v xs → IsWork total ds w ys
    → ((d : ℕ) → occurrences d v.draws + occurrences d w.draws ≤ 1)
    → ((n : ℕ) → occurrences n (numbers v.list) + occurrences n (numbers w.list) ≤ 1) → IsWork total ds u (xs ++ ys)
IsWork-joint total ds v w u xs ys is a b d n =
    let list : u.list ≡ v.list ++ w.list = ap (λ (x : View). x.list) is in let draws : u.draws ≡ v.draws
    ++ w.draws = ap (λ (x : View). x.draws) is in
    let drew : (k : ℕ) → occurrences k u.draws ≡ occurrences k v.draws + occurrences k w.draws = λ k. ap (occurrences k)
    draws ∙ occurrences-append k v.draws w.draws in
    let filed : (k : ℕ) → occurrences k (numbers u.list) ≡ occurrences k (numbers v.list) + occurrences k
    (numbers w.list) = λ k. ap (λ (l : List (ℕ × Block)). occurrences k (numbers l)) list
    ∙ (ap (occurrences k) (numbers-append v.list w.list) ∙ occurrences-append k (numbers v.list) (numbers w.list)) in
    record {
      drew = λ k. let x = drew k in let y = a.drew k in let z = b.drew k in
          let t = ap (occurrences k) (replied-append xs ys) in let s = occurrences-append k (replied xs) (replied ys) in
          omega (arith, x, y, z, t, s);
      filed = λ k. let x = filed k in let y = a.filed k in let z = b.filed k in let t = filings-append ds xs ys k in
          omega (arith, x, y, z, t);
      right = Each-append (IsReply total ds u.list) xs ys
          (IsReply-more total ds v.list u.list (λ m c h. subst (λ (l : List (ℕ × Block)). HasPair l m c) (sym list)
          (HasPair-append_left v.list w.list m c h)) xs a.right)
          (IsReply-more total ds w.list u.list (λ m c h. subst (λ (l : List (ℕ × Block)). HasPair l m c) (sym list)
          (HasPair-append_right v.list w.list m c h)) ys b.right);
      doubled = Each-append (IsSeenIf ds u) xs ys (IsSeenIf-more ds v u (SeesMore-joint_left v w u is) xs a.doubled)
          (IsSeenIf-more ds w u (SeesMore-joint_right v w u is) ys b.doubled);
      draws_once = λ k. let x = drew k in let y = d k in omega (arith, x, y);
      files_once = λ k. let x = filed k in let y = n k in omega (arith, x, y);
    }

-- `IsWork` holds still of a bench that has drawn and filed nothing more, and has seen at least what it had
pub IsWork-more : (total : ℕ) (ds : List Block) (v w : View) (rs : List Reply) → w.list ≡ v.list → w.draws ≡ v.draws
    → SeesMore v w → IsWork total ds v rs → IsWork total ds w rs
IsWork-more total ds v w rs list draws sees k = record {
  drew = λ d. ap (occurrences d) draws ∙ k.drew d;
  filed = λ n. ap (λ (l : List (ℕ × Block)). occurrences n (numbers l)) list ∙ k.filed n;
  right = subst (λ (l : List (ℕ × Block)). Each (IsReply total ds l) rs) (sym list) k.right;
  doubled = IsSeenIf-more ds v w sees rs k.doubled;
  draws_once = λ d. let z = ap (occurrences d) draws in let o = k.draws_once d in omega (arith, z, o);
  files_once = λ n. let z = ap (λ (l : List (ℕ × Block)). occurrences n (numbers l)) list in let o = k.files_once n in
      omega (arith, z, o);
}

-- each number of the list after a delivery was there before, or is that of the delivery, which was filed
pub IsOldOrFiled-list_after : (ds : List Block) (old new : List (ℕ × Block)) (d : ℕ) (b : Block) (a : Answer)
    → slice_get ds d
    ≡ Some b → IsListAfter old new b a → (n : ℕ) → 0 < occurrences n (numbers new) → IsOldOrFiled ds old (reply_of d a)
    n
IsOldOrFiled-list_after ds old new d b a at lists n some = dite (ℕ_discrete (occurrences n (numbers old)) 0)
    (λ z. let c = occurrences-list_after old new b a lists n in let f =
    filing-positive a b.number n (omega (arith, c, z, some)) in
    inr (f.0, ap number_in at ∙ sym f.1))
    (λ ne. inl (omega (arith, ne)))

-- 1 if `count` is 0, else 0
abbrev is_none : ℕ → ℕ
is_none count = cond (count == 0) 1 0

-- a draw that isn't found counts 1
is_none-none : (k : ℕ) (found : List ℕ) → occurrences k found ≡ 0 → is_none (occurrences k found) ≡ is_none 0
is_none-none k found none = ap is_none none

-- a draw that is found counts 0
is_none-some : (k : ℕ) (found : List ℕ) → occurrences k found ≢ 0 → is_none (occurrences k found) ≡ is_none 1
is_none-some k found some = ap {B = ℕ} (λ t. cond t 1 0) (ne_eqb (occurrences k found) 0 some)

-- where as many draws or more were found, as many or fewer are left
unfound_below-le : (k : ℕ) (f g : List ℕ) → ((e : ℕ) → occurrences e f ≤ occurrences e g) → unfound_below k g ≤
    unfound_below k f
unfound_below-le zero f g more = omega arith
unfound_below-le (suc k) f g more = let h = unfound_below-le k f g more in let m = more k in dite
    (ℕ_discrete (occurrences k g) 0)
    (λ z. let a = is_none-none k f (omega (arith, m, z)) in let b = is_none-none k g z in omega (arith, h, a, b))
    (λ ne. let b = is_none-some k g ne in omega (arith, h, b))

-- if one more draw was found, fewer are left
pub unfound_below-lt : (k : ℕ) (f g : List ℕ) → ((e : ℕ) → occurrences e f ≤ occurrences e g) → (d : ℕ) → d < k
    → occurrences d f ≡ 0 → 0 < occurrences d g → unfound_below k g < unfound_below k f
unfound_below-lt zero f g more d near none some = absurd (omega arith)
unfound_below-lt (suc k) f g more d near none some = dite (ℕ_discrete d k)
    (λ is. let h = unfound_below-le k f g more in
    let a = is_none-none k f (ap (λ (y : ℕ). occurrences y f) (sym is) ∙ none) in
    let s : 0 < occurrences k g = subst (λ (y : ℕ). 0 < occurrences y g) is some in
    let b = is_none-some k g (λ z. omega (arith, z, s)) in omega (arith, h, a, b))
    (λ ne. let h = unfound_below-lt k f g more d (omega (arith, near, ne)) none some in let m = more k in
    dite (ℕ_discrete (occurrences k g) 0)
    (λ z. let a = is_none-none k f (omega (arith, m, z)) in let b = is_none-none k g z in omega (arith, h, a, b))
    (λ nz. let b = is_none-some k g nz in omega (arith, h, b)))
