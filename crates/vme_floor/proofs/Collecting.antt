-- The blocks that the calling thread has taken off the board, step by step.
use Rattle.std.proofs.Common.{◌≡◌, ◌≢◌, ℕ, zero, suc, ◌+◌, ◌<◌, ◌≤◌, List, [], ◌∷◌, ◌++◌, length, length-set, slice_get}
use Rattle.std.proofs.Common.{set, replicate, Option, Some, None, sym, refl, ap, ◌∙◌, subst, arith, inl, inr, ⊎_elim}
use Rattle.std.proofs.lemmas.Option.{none-some, same_Some, slice_get-get_or}
use Rattle.std.proofs.lemmas.List.{length-replicate}
use mathlib.Core.Logic.{dite}
use native.Mathlib.Decide.{ℕ_discrete}
use Rattle.vme_trace.specs.declared.block.Block.{Block}
use Rattle.vme_trace.proofs.ListLaws.{slice_get-set_here, slice_get-set_elsewhere}
use Rattle.vme_core.specs.Counting.{occurrences, numbers, HasPair}
use Rattle.vme_core.specs.Stages.{rank, seen, SeesMore}
use Rattle.vme_core.specs.Views.{joint_view}
use Rattle.vme_core.specs.declared.stage.Stage.TheVariants as stage
use Rattle.vme_core.specs.declared.view.View.{View}
use Rattle.vme_core.proofs.StageRanks.{seen-Taken, rank-seen_not_filed}
use Rattle.vme_core.proofs.Sums.{occurrences-append, occurrences-cons_other, occurrences-of_pair}
use Rattle.vme_board.specs.Contents.{HasBlock}
use Rattle.vme_book.specs.Inserted.{stored, RefusesBlock}
use Rattle.vme_book.specs.declared.book.InsertFault.{InsertFault}
use Rattle.vme_book.specs.declared.book.InsertFault.TheVariants as insert_fault
use Rattle.vme_board.specs.declared.board.Board.{Board}
use Rattle.vme_floor.specs.Works.{number_at, IsDelivered}
use Rattle.vme_floor.specs.declared.answer.Answer.TheVariants.{Filed}
use Rattle.vme_floor.specs.declared.answer.Reply.{Reply}
use Rattle.vme_floor.specs.Collecting.{block_count, IsCollected, IsKnownTaken, OwnAreTaken, TakesOnly}
use Rattle.vme_floor.specs.declared.collector.Collection.{Collection}
use Rattle.vme_floor.proofs.Places.{slice_get-replicate}

-- the places of a book, each with a block or none
abbrev Places : Type 0
Places = List (Option Block)

-- a place without a block
abbrev no_block : Option Block
no_block = None

-- a place with a block isn't one without
Some-not_none : (b : Block) → Some b ≡ no_block → ⊥
Some-not_none b e = none-some b (sym e)

-- putting a block at a free place adds one to the count
block_count-set : (xs : Places) (n : ℕ) (b : Block) → slice_get xs n ≡ Some no_block → block_count (set xs n (Some b))
    ≡ suc (block_count xs)
block_count-set [] n b e = absurd (none-some no_block e)
block_count-set (None ∷ xs) zero b e = refl
block_count-set (Some c ∷ xs) zero b e = absurd (Some-not_none c (same_Some (Some c) no_block e))
block_count-set (None ∷ xs) (suc n) b e = block_count-set xs n b e
block_count-set (Some c ∷ xs) (suc n) b e = ap suc (block_count-set xs n b e)

-- there are at most as many blocks as places
pub block_count-le_length : (xs : Places) → block_count xs ≤ length xs
block_count-le_length [] = omega arith
block_count-le_length (None ∷ xs) = omega (arith, block_count-le_length xs)
block_count-le_length (Some b ∷ xs) = omega (arith, block_count-le_length xs)

-- if a place is free, there are fewer blocks than places
block_count-free : (xs : Places) (n : ℕ) → slice_get xs n ≡ Some no_block → block_count xs + 1 ≤ length xs
block_count-free [] n e = absurd (none-some no_block e)
block_count-free (None ∷ xs) zero e = omega (arith, block_count-le_length xs)
block_count-free (Some c ∷ xs) zero e = absurd (Some-not_none c (same_Some (Some c) no_block e))
block_count-free (None ∷ xs) (suc n) e = omega (arith, block_count-free xs n e)
block_count-free (Some c ∷ xs) (suc n) e = omega (arith, block_count-free xs n e)

-- if each place has a block, there are as many blocks as places
pub block_count-all : (xs : Places) → ((n : ℕ) → n < length xs → (b : Block) × HasBlock xs n b) → block_count xs
    ≡ length xs
block_count-all [] all = refl
block_count-all (None ∷ xs) all = let first = all zero (omega arith) in
    absurd (Some-not_none first.0 (sym (same_Some no_block (Some first.0) first.1)))
block_count-all (Some b ∷ xs) all = ap suc (block_count-all xs (λ n low. all (suc n) (omega (arith, low))))

-- there are 0 blocks in n free places
block_count-none : (n : ℕ) → block_count (replicate n no_block) ≡ 0
block_count-none zero = refl
block_count-none (suc n) = block_count-none n

-- `stored` of a number is the item at its place
pub slice_get-stored : (xs : Places) (n : ℕ) (x : Option Block) → n < length xs → stored xs n ≡ x → slice_get xs n
    ≡ Some x
slice_get-stored xs n x low is = slice_get-get_or xs n no_block low ∙ ap (λ (y : Option Block). Some y) is

-- `IsCollected` holds of an empty book and a bench that took nothing
pub IsCollected-first : (total : ℕ) (v : View) (c : Collection) → c.total ≡ total → c.book ≡ replicate total no_block
    → c.count ≡ 0 → v.takes ≡ [] → IsCollected total v c
IsCollected-first total v c t book count none = record {
  total_is = t;
  long = ap (λ (xs : Places). length xs) book ∙ length-replicate total no_block;
  counted = count ∙ (sym (block_count-none total) ∙ ap block_count (sym book));
  took = λ n b at. absurd
      (none-some b (slice_get-replicate total n no_block (Some b)
      (ap (λ (xs : Places). slice_get xs n) (sym book) ∙ at)));
  kept = λ n b h. absurd (subst (λ (xs : List (ℕ × Block)). HasPair xs n b) none h);
  saw = λ n some. let z = ap (λ (xs : List (ℕ × Block)). occurrences n (numbers xs)) none in
      absurd (omega (arith, z, some));
}

-- `IsCollected` holds still if the bench took nothing more, and has seen filed at least what it had
pub IsCollected-same : (total : ℕ) (v w : View) (c : Collection) → IsCollected total v c → w.takes ≡ v.takes
    → ((n : ℕ) → occurrences n v.filed ≤ occurrences n w.filed) → IsCollected total w c
IsCollected-same total v w c k same more = record {
  total_is = k.total_is;
  long = k.long;
  counted = k.counted;
  took = λ n b at. subst (λ (xs : List (ℕ × Block)). HasPair xs n b) (sym same) (k.took n b at);
  kept = λ n b h. k.kept n b (subst (λ (xs : List (ℕ × Block)). HasPair xs n b) same h);
  saw = λ n some. let z = ap (λ (xs : List (ℕ × Block)). occurrences n (numbers xs)) same in
      let s = k.saw n (omega (arith, z, some)) in let m = more n in omega (arith, s, m);
}

-- appending nothing changes nothing
append-nothing : (xs : List (ℕ × Block)) → xs ++ [] ≡ xs
append-nothing [] = refl
append-nothing (x ∷ xs) = ap (λ (l : List (ℕ × Block)). x ∷ l) (append-nothing xs)

-- `IsCollected` holds after a bench that took nothing was joined to it
pub IsCollected-joint : (total : ℕ) (v w u : View) (c : Collection) → u ≡ joint_view v w → w.takes ≡ []
    → IsCollected total
    v c → IsCollected total u c
IsCollected-joint total v w u c is none k = IsCollected-same total v u c k
    (ap (λ (x : View). x.takes) is ∙ (ap (λ (xs : List (ℕ × Block)). v.takes ++ xs) none ∙ append-nothing v.takes))
    (λ n. let z = ap (λ (x : View). occurrences n x.filed) is in let s = occurrences-append n v.filed w.filed in
    omega (arith, z, s))

-- the case that the bench took one more block, which was put into the book
module _ (total : ℕ) (v w : View) (c e : Collection) (m n : ℕ) (b : Block) (k : IsCollected total v c)
    (t : e.total ≡ c.total) (book : e.book ≡ set c.book m (Some b)) (count : e.count ≡ c.count + 1)
    (is : m ≡ n) (low : n < total) (took : w.takes ≡ (n, b) ∷ v.takes) (new : occurrences n (numbers v.takes) ≡ 0)
    (free : slice_get c.book m ≡ Some no_block) (more : (l : ℕ) → occurrences l v.filed ≤ occurrences l w.filed)
    (filed : 0 < occurrences n w.filed) where
  -- the block was put at the place of its number
  book-at_number : e.book ≡ set c.book n (Some b)
  book-at_number = book ∙ ap (λ (l : ℕ). set c.book l (Some b)) is

  -- the place of the number has the block now
  book-here : slice_get e.book n ≡ Some (Some b)
  book-here =
      ap (λ (xs : Places). slice_get xs n) book-at_number ∙ slice_get-set_here c.book n (Some b) (let l = k.long in
      omega (arith, l, low))

  -- the places of other numbers are as they were
  book-elsewhere : (l : ℕ) → l ≢ n → slice_get e.book l ≡ slice_get c.book l
  book-elsewhere l ne =
      ap (λ (xs : Places). slice_get xs l) book-at_number ∙ slice_get-set_elsewhere c.book n l (Some b) ne

  -- each block of the book was taken by the bench
  HasPair-of_book : (l : ℕ) (d : Block) → HasBlock e.book l d → HasPair ((n, b) ∷ v.takes) l d
  HasPair-of_book l d at = dite (ℕ_discrete l n)
      (λ same. let z : Some b ≡ Some d = same_Some (Some b) (Some d)
      (sym book-here ∙ (ap (slice_get e.book) (sym same) ∙ at)) in inl (sym same, same_Some b d z))
      (λ ne. inr (k.took l d (sym (book-elsewhere l ne) ∙ at)))

  -- each block that the bench took is in the book
  HasBlock-of_takes : (l : ℕ) (d : Block) → HasPair ((n, b) ∷ v.takes) l d → HasBlock e.book l d
  HasBlock-of_takes l d h = elim h [
    | inl x ↦ ap (slice_get e.book) (sym x.0) ∙ (book-here ∙ ap (λ (y : Block). Some (Some y)) x.1)
    | inr x ↦
        let ne : l ≢ n = λ same. let o = occurrences-of_pair v.takes l d x in
        let z = ap (λ (y : ℕ). occurrences y (numbers v.takes)) same in omega (arith, o, z, new) in
        book-elsewhere l ne ∙ k.kept l d x
  ]

  -- each number that the bench took was seen filed
  filed-of_takes : (l : ℕ) → 0 < occurrences l (n ∷ numbers v.takes) → 0 < occurrences l w.filed
  filed-of_takes l some = dite (ℕ_discrete l n)
      (λ same. subst (λ (y : ℕ). 0 < occurrences y w.filed) (sym same) filed)
      (λ ne. let z = occurrences-cons_other l n (numbers v.takes) ne in let s = k.saw l (omega (arith, z, some)) in
      let g = more l in omega (arith, s, g))

  -- `IsCollected` holds after one more block was taken and put into the book
  pub IsCollected-next : IsCollected total w e
  IsCollected-next = record {
    total_is = t ∙ k.total_is;
    long = ap (λ (xs : Places). length xs) book ∙ (length-set c.book m (Some b) ∙ k.long);
    counted = let z = ap block_count book in let s = block_count-set c.book m b free in let o = k.counted in
        omega (arith, z, s, o, count);
    took = λ l d at. subst (λ (xs : List (ℕ × Block)). HasPair xs l d) (sym took) (HasPair-of_book l d at);
    kept = λ l d h. HasBlock-of_takes l d (subst (λ (xs : List (ℕ × Block)). HasPair xs l d) took h);
    saw = λ l some. filed-of_takes l (subst (λ (xs : List (ℕ × Block)). 0 < occurrences l (numbers xs)) took some);
  }

-- the book refuses a block of a number that the bench hasn't taken only for want of memory
pub RefusesBlock-never : (total : ℕ) (v : View) (c : Collection) (m n : ℕ) (f : InsertFault) → IsCollected total v c → m
    ≡ n
    → n < total → occurrences n (numbers v.takes) ≡ 0 → RefusesBlock c.book m f → (f ≡ insert_fault.Memory → ⊥) → ⊥
RefusesBlock-never total v c m n insert_fault.Stranger k is low new why other = let l = k.long in
    absurd (omega (arith, l, why, is, low))
RefusesBlock-never total v c m n insert_fault.Doubled k is low new why other =
    let near : m < length c.book = let l = k.long in omega (arith, l, is, low) in
    let o = occurrences-of_pair v.takes m why.0 (k.took m why.0 (slice_get-stored c.book m (Some why.0) near why.1)) in
    let z = ap (λ (y : ℕ). occurrences y (numbers v.takes)) is in absurd (omega (arith, o, z, new))
RefusesBlock-never total v c m n insert_fault.Memory k is low new why other = other refl

-- if a place is free, one more than the count is at most `total`
pub block_count-fits : (total : ℕ) (v : View) (c : Collection) (m : ℕ) → IsCollected total v c → m < length c.book
    → stored c.book m ≡ no_block → c.count + 1 ≤ total
block_count-fits total v c m k low free =
    let s = block_count-free c.book m (slice_get-stored c.book m no_block low free) in let l = k.long in let o =
    k.counted in
    omega (arith, s, l, o)

-- a number that was seen at the stage Filed is among those seen filed
pub filed-of_seen : (v : View) (n : ℕ) → seen v n ≡ stage.Filed → 0 < occurrences n v.filed
filed-of_seen v n is =
    let r : rank (seen v n) ≡ 2 = ap rank is in
    dite (ℕ_discrete (occurrences n v.filed) 0)
    (λ z. dite (ℕ_discrete (occurrences n v.taken) 0)
    (λ y. let l = rank-seen_not_filed v n z y in absurd (omega (arith, l, r)))
    (λ ne. let t : rank (seen v n) ≡ 3 = ap rank (seen-Taken v n (omega (arith, ne))) in absurd (omega (arith, t, r))))
    (λ ne. omega (arith, ne))

-- a number that is taken stays so
pub IsKnownTaken-stays : (v w : View) (n : ℕ) → TakesOnly v w → IsKnownTaken v n → IsKnownTaken w n
IsKnownTaken-stays v w n more gone = let g : 0 < occurrences n (numbers v.takes) + occurrences n v.taken = gone in
    let a = more.takes n in let b = more.sees.taken n in let on : 0 < occurrences n (numbers w.takes) + occurrences n
    w.taken = omega (arith, g, a, b) in on

-- if v sees more than u, and w more than v, then w sees more than u
pub SeesMore-transitive : (u v w : View) → SeesMore u v → SeesMore v w → SeesMore u w
SeesMore-transitive u v w a b = record {
  found = λ d. let x = a.found d in let y = b.found d in omega (arith, x, y);
  claimed = λ d. let x = a.claimed d in let y = b.claimed d in omega (arith, x, y);
  filed = λ d. let x = a.filed d in let y = b.filed d in omega (arith, x, y);
  taken = λ d. let x = a.taken d in let y = b.taken d in omega (arith, x, y);
}

-- if each number that the bench filed was taken, and that of the next delivery is taken if it was filed, each is taken
-- after this delivery
pub OwnAreTaken-next : (board : Board) (ds : List Block) (u v w : View) (r : Reply) (n : ℕ) → IsDelivered board ds u v r
    → TakesOnly v w → number_at ds r.delivery ≡ n → (r.answer ≡ Filed → IsKnownTaken w n) → OwnAreTaken u → OwnAreTaken
    w
OwnAreTaken-next board ds u v w r n d more is gone own m some =
    let z = ap (λ (l : List (ℕ × Block)). occurrences m (numbers l)) more.list in
    ⊎_elim
    (λ old. let g : 0 < occurrences m (numbers u.takes) + occurrences m u.taken = own m old in
    let t = ap (λ (l : List (ℕ × Block)). occurrences m (numbers l)) d.takes in let s = d.sees.taken m in
    let now : 0 < occurrences m (numbers v.takes) + occurrences m v.taken = omega (arith, g, t, s) in
    IsKnownTaken-stays v w m more now)
    (λ now. subst (IsKnownTaken w) (sym is ∙ now.1) (gone now.0))
    (d.lists m (omega (arith, z, some)))
