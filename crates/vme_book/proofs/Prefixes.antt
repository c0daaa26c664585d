-- Prefixes of the places of a book: lists of what is at the numbers from 0 on, with nothing missing. What a book keeps
-- holds after each block that is inserted, joined or judged.
use Rattle.std.proofs.Common.{◌≡◌, ℕ, zero, suc, ◌+◌, ◌*◌, ◌<◌, ◌≤◌, List, [], ◌∷◌, ◌++◌, length, length-append, map}
use Rattle.std.proofs.Common.{take, get_or, set, replicate, true, false, Option, Some, None, Result, Ok, Err}
use Rattle.std.proofs.Common.{append-nil, append_assoc, refl, sym, ◌∙◌, ap, subst, arith, inl, inr, ◌⊎◌}
use Rattle.std.specs.Prelude.{OnOk}
use Rattle.std.specs.Option.{is_some}
use Rattle.std.specs.Result.{is_err}
use Rattle.std.specs.Global.{Vec}
use Rattle.std.proofs.Math.ListN.{get_or-eq_default}
use Rattle.std.proofs.lemmas.List.{get_or_default, get_or-set_other, get_or-set_same, length-replicate, length-set}
use Rattle.std.proofs.lemmas.List.{length-take, set-get_or, take_all, take-set-le}
use Rattle.std.proofs.Math.Seq.{take-append_seam}
use Rattle.std.proofs.lemmas.Option.{none-some, same_Some}
use Rattle.std.proofs.lemmas.Bool.{cases_eq}
use Rattle.vme_trace.specs.Blocks.{joined_steps}
use Rattle.vme_trace.specs.declared.block.Block.{Block}
use Rattle.vme_trace.specs.declared.step.Step.{Step}
use Rattle.vme_summary.specs.Joins.{BlocksJoin, joined_trace}
use Rattle.vme_book.specs.Inserted.{IsJoinedPrefix, IsLeastTorn, IsLongestPrefix, stored}
use Rattle.vme_summary.specs.Progressed.{HasCome}
use Rattle.vme_summary.specs.Stands.{SpanStandsFor, first_number}
use Rattle.vme_summary.specs.declared.running_verdict.RunningVerdict.{RunningVerdict}
use Rattle.vme_summary.specs.declared.span.Span.{Span}
use Rattle.vme_summary.proofs.Chains.{nil-without_neighbours, joined_steps-append}
use Rattle.vme_summary.proofs.Progressing.{BlocksJoin-of_HasCome, first_number-of_span}
use Rattle.vme_book.specs.BookState.{AreAtOwnNumbers, AreJoinedTo, HaveSpans, IsBlockNumbered, IsEnd, IsJudgedPrefix}
use Rattle.vme_book.specs.BookState.{IsStateAfter, Keeps, StandsForSome}
use Rattle.vme_book.specs.declared.joined.JoinedPrefix.{JoinedPrefix}
use Rattle.vme_book.specs.declared.places.BookSlots.{BookSlots}

-- an option that has a value has one
pub is_some-value : {A : Type 0} (o : Option A) → is_some o ≡ true → (a : A) × (o ≡ Some a)
is_some-value None e = absurd (cc)
is_some-value (Some a) e = (a, refl)

-- what was read at a number within the list is what is there
pub get_or-of_read : {A : Type 0} (places : List (Option A)) (n : ℕ) (x : Option A) (a : A) → n < length places → x
    ≡ get_or places n x → x ≡ Some a → get_or places n None ≡ Some a
get_or-of_read places n x a below is e = get_or_default places n None x below ∙ sym is ∙ e

-- what is at a number is what was read there
pub read-of_get_or : {A : Type 0} (places : List (Option A)) (n : ℕ) (x : Option A) (a : A) → n < length places → x
    ≡ get_or places n x → get_or places n None ≡ Some a → x ≡ Some a
read-of_get_or places n x a below is e = is ∙ get_or_default places n x None below ∙ e

-- m is at most n, or n is below m
at_most_or_below : (m n : ℕ) → (m ≤ n) ⊎ (n < m)
at_most_or_below m n = grind arith

-- a number at which something is is below the number of places
pub length-above_stored : {A : Type 0} (places : List (Option A)) (n : ℕ) (a : A) → get_or places n None ≡ Some a
    → n < length places
length-above_stored places n a e = elim (at_most_or_below (length places) n) [
  | inl past ↦ let none : get_or places n None ≡ None = get_or-eq_default places None past in absurd (cc)
  | inr below ↦ below
]

-- of two prefixes of the places, the longer begins with the shorter
pub prefix-of_longer : {A : Type 0} (places : List (Option A)) (xs ys : List A) → take (length xs) places ≡ map Some xs
    → take (length ys) places ≡ map Some ys → length xs ≤ length ys
    → (rest : List A) × (ys ≡ xs ++ rest)
prefix-of_longer places [] ys e f le = (ys, refl)
prefix-of_longer [] (x ∷ xs) ys e f le = absurd (cc)
prefix-of_longer (p ∷ places) (x ∷ xs) [] e f le = absurd (omega arith)
prefix-of_longer (p ∷ places) (x ∷ xs) (y ∷ ys) e f le =
    let first : p ∷ take (length xs) places ≡ Some x ∷ map Some xs = e in
    let second : p ∷ take (length ys) places ≡ Some y ∷ map Some ys = f in
    let same : y ≡ x = cc in
    let e' : take (length xs) places ≡ map Some xs = cc in
    let f' : take (length ys) places ≡ map Some ys = cc in
    let r = prefix-of_longer places xs ys e' f' (omega arith) in
    (r.0, ap (λ h. h ∷ ys) same ∙ ap (λ l. x ∷ l) r.1)

-- something is at each number of a prefix
pub prefix-value_at : {A : Type 0} (places : List (Option A)) (xs : List A) (n : ℕ) → take (length xs) places
    ≡ map Some xs
    → n < length xs → (x : A) × (get_or places n None ≡ Some x)
prefix-value_at places [] n e below = absurd (omega arith)
prefix-value_at [] (x ∷ xs) n e below = absurd (cc)
prefix-value_at (p ∷ places) (x ∷ xs) zero e below =
    let whole : p ∷ take (length xs) places ≡ Some x ∷ map Some xs = e in
    (x, cc)
prefix-value_at (p ∷ places) (x ∷ xs) (suc n) e below =
    let whole : p ∷ take (length xs) places ≡ Some x ∷ map Some xs = e in
    let rest : take (length xs) places ≡ map Some xs = cc in
    prefix-value_at places xs n rest (omega arith)

-- a prefix xs with x appended, which is at the next number, is a prefix
pub prefix-append : {A : Type 0} (places : List (Option A)) (xs : List A) (x : A) → take (length xs) places
    ≡ map Some xs
    → get_or places (length xs) None ≡ Some x
    → take (length (xs ++ x ∷ [])) places ≡ map Some (xs ++ x ∷ [])
prefix-append [] [] x e f = absurd (cc)
prefix-append (p ∷ places) [] x e f = let first : p ≡ Some x = f in ap (λ h. h ∷ []) first
prefix-append [] (y ∷ xs) x e f = absurd (cc)
prefix-append (p ∷ places) (y ∷ xs) x e f =
    let whole : p ∷ take (length xs) places ≡ Some y ∷ map Some xs = e in
    let first : p ≡ Some y = cc in
    let rest : take (length xs) places ≡ map Some xs = cc in
    let more : take (length (xs ++ x ∷ [])) places ≡ map Some (xs ++ x ∷ []) = prefix-append places xs x rest f in
    ap (λ h. h ∷ take (length (xs ++ x ∷ [])) places) first ∙ ap (λ l. Some y ∷ l) more

-- the first of some blocks that join join, too
pub BlocksJoin-front : (xs ys : List Block) → BlocksJoin (xs ++ ys) → BlocksJoin xs
BlocksJoin-front xs ys j = record {
  follow = λ before after a b e. j.follow before (after ++ ys) a b (ap (λ l. l ++ ys) e
      ∙ append_assoc before (a ∷ b ∷ after) ys);
}

-- a prefix that is no longer than one of blocks that join joins
pub BlocksJoin-shorter_prefix : (inserted : List (Option Block)) (xs ys : List Block) → take (length xs) inserted
    ≡ map Some xs
    → IsJoinedPrefix inserted ys → length xs ≤ length ys → BlocksJoin xs
BlocksJoin-shorter_prefix inserted xs ys e p le =
    let f = prefix-of_longer inserted xs ys e p.there le in
    BlocksJoin-front xs f.0 (subst BlocksJoin f.1 p.join)

-- the first blocks, which join, are the longest list where the next block doesn't join them
pub IsLongestPrefix-by_end : (inserted : List (Option Block)) (bs : List Block) → IsJoinedPrefix inserted bs
    → IsEnd inserted (length bs) bs → IsLongestPrefix inserted bs
IsLongestPrefix-by_end inserted bs p end =
    record {
      prefix = p;
      longest = λ cs q. elim (at_most_or_below (length cs) (length bs)) [
        | inl le ↦ le
        | inr more ↦
            let x = prefix-value_at inserted cs (length bs) q.there more in
            let one : length (bs ++ x.0 ∷ []) ≤ length cs = omega (arith, length-append bs (x.0 ∷ [])) in
            absurd (end.torn x.0 x.1 (BlocksJoin-shorter_prefix inserted (bs ++ x.0 ∷ []) cs
            (prefix-append inserted bs x.0 p.there x.1)
            q one))
      ];
    }

-- where something is at each number, there is the list of all of it
pub places-all_filled : {A : Type 0} (places : List (Option A)) → ((n : ℕ) → n < length places → (x : A)
    × (get_or places n None ≡ Some x)) → (xs : List A) × (places ≡ map Some xs)
places-all_filled [] each = ([], refl)
places-all_filled (p ∷ places) each =
    let first = each zero (omega arith) in
    let rest = places-all_filled places (λ n below. each (suc n) (omega (arith, below))) in
    let head : p ≡ Some first.0 = first.1 in
    (first.0 ∷ rest.0, ap (λ h. h ∷ places) head ∙ ap (λ l. Some first.0 ∷ l) rest.1)

-- a list has as many elements as their options
length-map_Some : {A : Type 0} (xs : List A) → length (map Some xs) ≡ length xs
length-map_Some [] = refl
length-map_Some (x ∷ xs) = let r = length-map_Some xs in omega arith

-- there are as many places as the list of all of what is there has elements
pub length-places : {A : Type 0} (places : List (Option A)) (xs : List A) → places ≡ map Some xs → length places
    ≡ length xs
length-places places xs e = ap length e ∙ length-map_Some xs

-- where something is at each number, the list of all of it is a prefix
pub prefix-of_all : {A : Type 0} (places : List (Option A)) (xs : List A) → places ≡ map Some xs
    → take (length xs) places
    ≡ map Some xs
prefix-of_all places xs e = let n = length-places places xs e in take_all (length xs) places (omega arith) ∙ e

-- a prefix that is as long as the places is all of what is there
pub places-of_prefix : {A : Type 0} (places : List (Option A)) (xs : List A) → take (length xs) places ≡ map Some xs
    → length xs ≡ length places → places ≡ map Some xs
places-of_prefix places xs e n = sym (take_all (length xs) places (omega arith)) ∙ e

-- where the first n blocks join and block n doesn't join them, block n is the first that doesn't join
pub IsLeastTorn-by_end : (inserted : List (Option Block)) (bs all : List Block) (n : ℕ) → inserted ≡ map Some all
    → IsJoinedPrefix inserted bs → IsEnd inserted n bs → length bs ≡ n → n < length inserted → IsLeastTorn inserted n
    all
IsLeastTorn-by_end inserted bs all n whole p end count below =
    let long = length-places inserted all whole in
    let each = prefix-of_all inserted all whole in
    let next = prefix-value_at inserted all n each (omega arith) in
    let here : get_or inserted (length bs) None ≡ Some next.0 = ap (λ (k : ℕ). get_or inserted k None) count ∙ next.1 in
    let more = prefix-append inserted bs next.0 p.there here in
    let f = prefix-of_longer inserted bs all p.there each (omega arith) in
    let one : length (bs ++ next.0 ∷ []) ≡ n + 1 = omega (arith, length-append bs (next.0 ∷ [])) in
    let g = prefix-of_longer inserted (bs ++ next.0 ∷ []) all more each (omega arith) in
    let first : take n all ≡ bs = ap (λ (k : ℕ). take k all) (sym count) ∙ ap (take (length bs)) f.1 ∙ take-append_seam
    bs f.0 in
    let second : take (n + 1) all ≡ bs ++ next.0 ∷ [] = ap (λ (k : ℕ). take k all) (sym one)
    ∙ ap (take (length (bs ++ next.0 ∷ []))) g.1 ∙ take-append_seam (bs ++ next.0 ∷ []) g.0 in
    record {
      all = whole;
      within = omega arith;
      join = subst BlocksJoin (sym first) p.join;
      torn = λ j. end.torn next.0 next.1 (subst BlocksJoin second j);
    }

-- blocks of at most 65,536 steps each have together at most 65,536 times as many steps as there are blocks
length-joined_steps_of_prefix : (inserted : List (Option Block)) (bs : List Block) → take (length bs) inserted
    ≡ map Some bs
    → ((n : ℕ) (b : Block) → stored inserted n ≡ Some b → length b.steps ≤ 65536) → length (joined_steps bs) ≤ 65536 *
    length bs
length-joined_steps_of_prefix inserted [] e short = omega arith
length-joined_steps_of_prefix [] (b ∷ bs) e short = absurd (cc)
length-joined_steps_of_prefix (p ∷ inserted) (b ∷ bs) e short =
    let whole : p ∷ take (length bs) inserted ≡ Some b ∷ map Some bs = e in
    let first : p ≡ Some b = cc in
    let rest : take (length bs) inserted ≡ map Some bs = cc in
    let here = short zero b first in
    let others = length-joined_steps_of_prefix inserted bs rest (λ n c f. short (suc n) c f) in
    omega (arith, here, others, length-append b.steps (joined_steps bs))

-- the blocks of a prefix, at most 4,096, have at most 268,435,456 steps together
pub length-joined_steps_bound : (inserted : List (Option Block)) (bs : List Block) → AreAtOwnNumbers inserted
    → take (length bs) inserted ≡ map Some bs → length bs ≤ 4096 → length (joined_steps bs) ≤ 268435456
length-joined_steps_bound inserted bs placed e few = let k =
    length-joined_steps_of_prefix inserted bs e (λ n b f. (placed.each n b f).short) in
    omega (arith, k, few)

-- the steps of a prefix and of the block after it are at most 268,435,456
pub length-one_more_block_bound : (inserted : List (Option Block)) (bs : List Block) (b : Block) (m n : ℕ)
    → AreAtOwnNumbers inserted
    → take (length bs) inserted ≡ map Some bs → stored inserted (length bs) ≡ Some b
    → m ≡ length (joined_steps bs) → n ≡ length (joined_steps (b ∷ [])) → m + n ≤ 268435456
length-one_more_block_bound inserted bs b m n placed e f p q =
    let below = length-above_stored inserted (length bs) b f in
    let more = prefix-append inserted bs b e f in
    let few = placed.few in
    let k = length-joined_steps_bound inserted (bs ++ b ∷ []) placed more (omega (arith, length-append bs (b ∷ []))) in
    let whole = ap length (joined_steps-append bs (b ∷ [])) ∙ length-append (joined_steps bs) (joined_steps (b ∷ [])) in
    omega (arith, k, whole, p, q)

-- the blocks from n + 1 on still have their spans where the span at n is replaced
pub HaveSpans-after_replacing : (inserted : List (Option Block)) (spans : List (Option Span)) (n from : ℕ)
    (y : Option Span)
    → HaveSpans inserted spans n → from ≡ n + 1 → HaveSpans inserted (set spans n y) from
HaveSpans-after_replacing inserted spans n from y h e =
    record {
      as_many = length-set spans n y ∙ h.as_many;
      each = λ m b le there.
          let s = h.each m b (omega arith) there in
          (s.0, get_or-set_other spans n m y None (λ same. omega arith) ∙ s.1, s.2);
    }

-- the blocks have their spans where the span at n is replaced, and then put back
pub HaveSpans-after_putting_back : (inserted : List (Option Block)) (spans : List (Option Span)) (n from : ℕ)
    (y : Option Span) (s : Span)
    → HaveSpans inserted spans from → get_or spans n None ≡ Some s → HaveSpans inserted (set (set spans n y) n (Some s))
    from
HaveSpans-after_putting_back inserted spans n from y s h there =
    subst (λ (l : List (Option Span)). HaveSpans inserted l from)
    (sym (set_again spans n y (Some s) ∙ (ap (set spans n) (sym there) ∙ set-get_or spans n None))) h
  where
    set_again : {A : Type 0} (xs : List A) (n : ℕ) (y z : A) → set (set xs n y) n z ≡ set xs n z
    set_again [] n y z = refl
    set_again (x ∷ xs) zero y z = refl
    set_again (x ∷ xs) (suc n) y z = ap (λ l. x ∷ l) (set_again xs n y z)

-- where the next block is counted, and the span stands for the blocks with it, the blocks with it are those that are
-- joined
pub AreJoinedTo-one_more : (inserted : List (Option Block)) (old new : JoinedPrefix) (xs : List Block) (b : Block)
    → AreJoinedTo inserted old xs → stored inserted old.count ≡ Some b → new.count ≡ old.count + 1
    → StandsForSome new.span (xs ++ b ∷ []) → AreJoinedTo inserted new (xs ++ b ∷ [])
AreJoinedTo-one_more inserted old new xs b a there more stands =
    record {
      there = prefix-append inserted xs b a.there (ap (λ (k : ℕ). get_or inserted k None) a.count ∙ there);
      count = length-append xs (b ∷ []) ∙ ap (λ (k : ℕ). k + 1) a.count ∙ sym more;
      stands = stands;
    }

-- where p is the state of judging after one more block, block b, it is that after the first n + 1 blocks
pub IsJudgedPrefix-one_more : (inserted : List (Option Block)) (progress : Option RunningVerdict) (p : RunningVerdict)
    (n : ℕ)
    (bs : List Block) (b : Block) {before : Option RunningVerdict} → IsJudgedPrefix inserted before n bs
    → stored inserted (length bs) ≡ Some b
    → progress ≡ Some p → HasCome p (bs ++ b ∷ []) → IsJudgedPrefix inserted progress (n + 1) (bs ++ b ∷ [])
IsJudgedPrefix-one_more inserted progress p n bs b past there e come =
    record {
      prefix = record {
        there = prefix-append inserted bs b past.prefix.there there;
        join = BlocksJoin-of_HasCome p (bs ++ b ∷ []) come;
      };
      count = length-append bs (b ∷ []) ∙ ap (λ (k : ℕ). k + 1) past.count;
      come = subst (λ (q : Option RunningVerdict). IsStateAfter q (bs ++ b ∷ [])) (sym e) come;
    }

-- the span that is read at the number of a block stands for that block
pub SpanStandsFor-stored : (inserted : List (Option Block)) (spans : List (Option Span)) (from n : ℕ) (b : Block)
    (x : Option Span)
    (s : Span) → HaveSpans inserted spans from → from ≤ n → stored inserted n ≡ Some b → x ≡ get_or spans n x → x
    ≡ Some s
    → SpanStandsFor s (b ∷ [])
SpanStandsFor-stored inserted spans from n b x s h le there is e =
    let own = h.each n b le there in
    let long = h.as_many in
    let below = length-above_stored inserted n b there in
    let read = read-of_get_or spans n x own.0 (omega arith) is own.1 in
    let same : own.0 ≡ s = same_Some own.0 s (sym read ∙ e) in
    subst (λ t. SpanStandsFor t (b ∷ [])) same own.2

-- at the number of a block from `from` on there is a span
pub stored-has_span : (inserted : List (Option Block)) (spans : List (Option Span)) (from n : ℕ) (b : Block)
    (x : Option Span)
    → HaveSpans inserted spans from → from ≤ n → stored inserted n ≡ Some b → x ≡ get_or spans n x → x ≡ None → ⊥
stored-has_span inserted spans from n b x h le there is e =
    let own = h.each n b le there in
    let long = h.as_many in
    let below = length-above_stored inserted n b there in
    let read = read-of_get_or spans n x own.0 (omega arith) is own.1 in
    none-some own.0 (sym e ∙ read)

-- in a list of n times nothing, nothing is at each number
replicate-none : {A : Type 0} (total n : ℕ) → ◌≡◌ {A = Option A} (get_or (replicate total None) n None) None
replicate-none zero n = refl
replicate-none (suc total) zero = refl
replicate-none (suc total) (suc n) = replicate-none total n

-- `Keeps` holds of a book with nothing inserted
pub Keeps-nothing : (places : BookSlots) (start : JoinedPrefix) (total : ℕ) → 0 < total → total ≤ 4096
    → places.blocks.items ≡ replicate total None → places.spans.items ≡ replicate total None → start.count ≡ 0
    → start.span ≡ None
    → Keeps places None 0 start [] []
Keeps-nothing places start total some few blocks spans count span =
    let none : (n : ℕ) (b : Block) → stored places.blocks.items n ≡ Some b → ⊥ = λ n b e. none-some b
    (sym (replicate-none total n) ∙ ap (λ (l : List (Option Block)). get_or l n None) (sym blocks) ∙ e) in
    let long : length places.blocks.items ≡ total = ap length blocks ∙ length-replicate total None in
    let long' : length places.spans.items ≡ total = ap length spans ∙ length-replicate total None in
    record {
      some = omega arith;
      placed = record { few = omega arith; each = λ n b e. absurd (none n b e) };
      waiting = record { as_many = long' ∙ sym long; each = λ n b le e. absurd (none n b e) };
      past = record {
        prefix = record {
          there = refl;
          join = record {
            follow = λ before after a b e. absurd
                (nil-without_neighbours before after a b e);
          };
        };
        count = refl;
        come = refl;
      };
      ended = record { torn = λ b e j. none 0 b e };
      joined = record {
        there = refl;
        count = sym count;
        stands = subst (λ (o : Option Span). StandsForSome o [])
            (sym span) refl;
      };
      within = omega arith;
    }

-- block b is inserted at the number n
module _ (inserted : List (Option Block)) (n : ℕ) (b : Block) (below : n < length inserted) where
  -- each block is at its number, if b has the number n, and at most 65,536 steps
  pub AreAtOwnNumbers-inserted : AreAtOwnNumbers inserted → b.number ≡ n → length b.steps ≤ 65536
      → AreAtOwnNumbers (set inserted n (Some b))
  AreAtOwnNumbers-inserted p number short =
      let long = length-set inserted n (Some b) in
      let few = p.few in
      record {
        few = omega arith;
        each = λ m c e. elim (cases_eq m n) [
          | inl same ↦
              let here : Some b ≡ Some c = sym (get_or-set_same inserted n (Some b) None below)
              ∙ ap (λ (k : ℕ). get_or (set inserted n (Some b)) k None) (sym same) ∙ e in
              subst (λ (c : Block). IsBlockNumbered m c) (same_Some b c here)
              (record { number = number ∙ sym same; short = short })
          | inr other ↦ p.each m c (sym (get_or-set_other inserted n m (Some b) None other) ∙ e)
        ];
      }

  -- each block has its span, if a span that stands for b is put at n
  pub HaveSpans-inserted : (spans : List (Option Span)) (from : ℕ) (s : Span) → HaveSpans inserted spans from
      → SpanStandsFor s
      (b ∷ []) → HaveSpans (set inserted n (Some b)) (set spans n (Some s)) from
  HaveSpans-inserted spans from s h stands =
      let long = h.as_many in
      let below' : n < length spans = omega arith in
      record {
        as_many = length-set spans n (Some s) ∙ h.as_many ∙ sym (length-set inserted n (Some b));
        each = λ m c le e. elim (cases_eq m n) [
          | inl same ↦
              let here : Some b ≡ Some c = sym (get_or-set_same inserted n (Some b) None below)
              ∙ ap (λ (k : ℕ). get_or (set inserted n (Some b)) k None) (sym same) ∙ e in (
                s,
                ap (λ (k : ℕ). get_or (set spans n (Some s)) k None) same ∙ get_or-set_same spans n (Some s) None
                    below',
                subst (λ (c : Block). SpanStandsFor s (c ∷ [])) (same_Some b c here) stands,
              )
          | inr other ↦
              let own = h.each m c le (sym (get_or-set_other inserted n m (Some b) None other) ∙ e) in
              (own.0, get_or-set_other spans n m (Some s) None other ∙ own.1, own.2)
        ];
      }

  -- a prefix stays one, if nothing was at n
  prefix-inserted : (bs : List Block) → stored inserted n ≡ None → take (length bs) inserted ≡ map Some bs
      → take (length bs)
      (set inserted n (Some b)) ≡ map Some bs
  prefix-inserted bs free e = elim (at_most_or_below (length bs) n) [
    | inl le ↦ take-set-le (length bs) inserted n (Some b) le ∙ e
    | inr more ↦ let x = prefix-value_at inserted bs n e more in absurd (none-some x.0 (sym free ∙ x.1))
  ]

  -- a judged prefix stays one, if nothing was at n
  pub IsJudgedPrefix-inserted : (progress : Option RunningVerdict) (m : ℕ) (bs : List Block) → stored inserted n ≡ None
      → IsJudgedPrefix inserted progress m bs → IsJudgedPrefix (set inserted n (Some b)) progress m bs
  IsJudgedPrefix-inserted progress m bs free p = record {
    prefix = record { there = prefix-inserted bs free p.prefix.there; join = p.prefix.join };
    count = p.count;
    come = p.come;
  }

  -- the blocks that are joined stay so, if nothing was at n
  pub AreJoinedTo-inserted : (start : JoinedPrefix) (xs : List Block) → stored inserted n ≡ None
      → AreJoinedTo inserted start xs
      → AreJoinedTo (set inserted n (Some b)) start xs
  AreJoinedTo-inserted start xs free a =
      record { there = prefix-inserted xs free a.there; count = a.count; stands = a.stands }

-- the blocks from a later number on have their spans, too
pub HaveSpans-later : (inserted : List (Option Block)) (spans : List (Option Span)) (from to : ℕ)
    → HaveSpans inserted spans
    from → from ≤ to → HaveSpans inserted spans to
HaveSpans-later inserted spans from to h le =
    record { as_many = h.as_many; each = λ n b m e. h.each n b (omega arith) e }

-- a judged prefix after which no block joins is the longest
pub IsLongestPrefix-of_judged : (inserted : List (Option Block)) (progress : Option RunningVerdict) (n : ℕ)
    (bs : List Block)
    → IsJudgedPrefix inserted progress n bs → IsEnd inserted n bs → IsLongestPrefix inserted bs
IsLongestPrefix-of_judged inserted progress n bs past end =
    IsLongestPrefix-by_end inserted bs past.prefix (subst (λ (k : ℕ). IsEnd inserted k bs)
    (sym past.count) end)

-- a book after one more block was inserted, before judging continues
pub record IsReady (inserted : List (Option Block)) (spans : List (Option Span)) (progress : Option RunningVerdict)
    (reached : ℕ) (start : JoinedPrefix) (bs xs : List Block) : Type 0 where
  pub some : 0 < length inserted
  pub placed : AreAtOwnNumbers inserted
  pub waiting : HaveSpans inserted spans start.count
  pub past : IsJudgedPrefix inserted progress reached bs
  pub joined : AreJoinedTo inserted start xs
  pub within : start.count ≤ reached

-- an option that has no value is none
pub is_some-none : {A : Type 0} (o : Option A) → is_some o ≡ false → o ≡ None
is_some-none None e = refl
is_some-none (Some a) e = absurd (cc)

-- where nothing was read at a number, nothing is there
pub get_or-of_none : {A : Type 0} (places : List (Option A)) (n : ℕ) (x : Option A) → n < length places → x
    ≡ get_or places n x
    → x ≡ None → get_or places n None ≡ None
get_or-of_none places n x below is e = get_or_default places n None x below ∙ sym is ∙ e

-- after a block and its span were put at a number at which nothing was, the book is ready to judge on
pub IsReady-inserted : (old : BookSlots) (progress : Option RunningVerdict) (reached : ℕ) (before start : JoinedPrefix)
    (bs xs ys : List Block) (blocks : Vec (Option Block)) (spans : List (Option Span)) (n : ℕ) (b : Block) (s : Span)
    → Keeps old progress reached before bs xs → blocks ≡ old.blocks → HaveSpans old.blocks.items spans start.count
    → AreJoinedTo old.blocks.items start ys → start.count ≤ reached → n < length old.blocks.items
    → stored old.blocks.items n ≡ None → b.number ≡ n → length b.steps ≤ 65536 → SpanStandsFor s (b ∷ [])
    → IsReady (set blocks.items n (Some b)) (set spans n (Some s)) progress reached start bs ys
IsReady-inserted old progress reached before start bs xs ys blocks spans n b s kept same waiting joined le below free
    number
    short stands =
    let inserted = old.blocks.items in
    let long = length-set inserted n (Some b) in
    let ready : IsReady (set inserted n (Some b)) (set spans n (Some s)) progress reached start bs ys = record {
      some = omega arith;
      placed = AreAtOwnNumbers-inserted inserted n b below kept.placed number short;
      waiting = HaveSpans-inserted inserted n b below spans start.count s waiting stands;
      past = IsJudgedPrefix-inserted inserted n b below progress reached bs free kept.past;
      joined = AreJoinedTo-inserted inserted n b below start ys free joined;
      within = le;
    } in
    subst (λ (v : Vec (Option Block)). IsReady (set v.items n (Some b)) (set spans n (Some s)) progress reached start bs
    ys) (sym same) ready

-- `Keeps` holds of a book that was ready, after judging as far as blocks join
pub Keeps-after_judging : (places : BookSlots) (progress further : Option RunningVerdict) (reached end : ℕ)
    (start : JoinedPrefix) (bs cs xs : List Block)
    → IsReady places.blocks.items places.spans.items progress reached start bs xs → reached ≤ end
    → IsJudgedPrefix places.blocks.items further end cs → IsEnd places.blocks.items end cs
    → Keeps places further end start cs xs
Keeps-after_judging places progress further reached end start bs cs xs ready le past ended =
    let within = ready.within in
    record {
      some = ready.some;
      placed = ready.placed;
      waiting = ready.waiting;
      past = past;
      ended = ended;
      joined
          = ready.joined;
      within = omega arith;
    }

-- two prefixes of the places of the same length are equal
pub prefix-unique : {A : Type 0} (places : List (Option A)) (xs ys : List A) → take (length xs) places ≡ map Some xs
    → take (length ys) places ≡ map Some ys → length xs ≡ length ys → xs ≡ ys
prefix-unique places xs ys e f n =
    let r = prefix-of_longer places xs ys e f (omega arith) in
    let whole = ap length r.1 ∙ length-append xs r.0 in
    let none : r.0 ≡ [] = no_length r.0 (omega arith) in
    sym (r.1 ∙ ap (λ l. xs ++ l) none ∙ append-nil xs)
  where
    no_length : {A : Type 0} (l : List A) → length l ≡ 0 → l ≡ []
    no_length [] e = refl
    no_length (x ∷ l) e = absurd (omega arith)

-- a span of all blocks starts at number 0
pub first_number-zero : (inserted : List (Option Block)) (s : Span) (bs : List Block) → AreAtOwnNumbers inserted
    → inserted
    ≡ map Some bs → 0 < length inserted → SpanStandsFor s bs → first_number s ≡ 0
first_number-zero inserted s [] placed e some stands = let none = ap length e in absurd (omega arith)
first_number-zero inserted s (b ∷ bs) placed e some stands =
    let here : stored inserted 0 ≡ Some b = ap (λ (l : List (Option Block)). get_or l 0 None) e in
    first_number-of_span s b bs stands ∙ (placed.each 0 b here).number

-- the opening of the first block and the steps of all blocks are the recording of all blocks
pub joined_trace-of_all : (items : List (Option Block)) (bs : List Block) (first : Block) (steps : List Step) → items
    ≡ map Some bs
    → stored items 0 ≡ Some first → steps ≡ joined_steps bs
    → joined_trace bs ≡ Some (record { opening = first.opening; steps = steps })
joined_trace-of_all items [] first steps e f s = let here : stored items 0 ≡ None =
    ap (λ (l : List (Option Block)). get_or l 0
    None) e in absurd (none-some first (sym here ∙ f))
joined_trace-of_all items (b ∷ bs) first steps e f s =
    let here : stored items 0 ≡ Some b = ap (λ (l : List (Option Block)). get_or l 0 None) e in
    let same : b ≡ first = same_Some b first (sym here ∙ f) in
    rw (s, same) refl

-- after the steps of the next block were appended, the steps so far and those of the other blocks are still all steps
pub recording-next_block : (items rest : List (Option Block)) (place : Option Block) (block : Block)
    (steps further own all : List Step) → items ≡ place ∷ rest → place ≡ Some block → own ≡ block.steps → further
    ≡ steps
    ++ own
    → (bs : List Block) → items ≡ map Some bs → steps ++ joined_steps bs ≡ all → (cs : List Block)
    × (rest ≡ map Some cs) × (further ++ joined_steps cs ≡ all)
recording-next_block items rest place block steps further own all e p o f [] m s = let none : place ∷ rest ≡ [] =
    sym e ∙ m in
    absurd (cc)
recording-next_block items rest place block steps further own all e p o f (b ∷ bs) m s =
    let whole : place ∷ rest ≡ Some b ∷ map Some bs = sym e ∙ m in
    let first : place ≡ Some b = cc in
    let others : rest ≡ map Some bs = cc in
    let same : block ≡ b = same_Some block b (sym p ∙ first) in
    let own' : own ≡ b.steps = o ∙ ap (λ (c : Block). c.steps) same in (
      bs,
      others,
      ap (λ (l : List Step). l ++ joined_steps bs) (f ∙ ap (λ l. steps ++ l) own') ∙ append_assoc steps
          b.steps (joined_steps bs) ∙ s,
    )

-- what holds on success holds where there is no error
pub OnOk-without_error : {A E : Type 0} {P : Type 0} (r : Result A E) → is_err r ≡ false → OnOk r P → P
OnOk-without_error (Ok a) e p = p
OnOk-without_error (Err fault) e p = absurd (cc)

-- a prefix is no longer than the places
pub prefix-at_most : {A : Type 0} (places : List (Option A)) (xs : List A) → take (length xs) places ≡ map Some xs
    → length xs ≤ length places
prefix-at_most places xs e =
    let a = length-map_Some xs in
    let b = length-take (length xs) places in
    let c = ap length e in
    omega arith
