-- The blocks that are left on the board, put into the book place by place.
use Rattle.std.proofs.Common.{◌≡◌, ◌≢◌, ℕ, suc, ◌+◌, ◌<◌, List, ◌∷◌, length, length-set, slice_get, set, Option, Some}
use Rattle.std.proofs.Common.{None, sym, refl, ap, ◌∙◌, arith, inl, inr, ⊎_elim}
use Rattle.std.proofs.lemmas.Option.{none-some, same_Some, slice_get_within}
use mathlib.Core.Logic.{dite}
use native.Mathlib.Decide.{ℕ_discrete}
use Rattle.vme_trace.specs.declared.block.Block.{Block}
use Rattle.vme_trace.proofs.ListLaws.{slice_get-set_here, slice_get-set_elsewhere}
use Rattle.vme_board.specs.Contents.{HasBlock}
use Rattle.vme_book.specs.Inserted.{RefusesBlock}
use Rattle.vme_book.specs.declared.book.InsertFault.{InsertFault}
use Rattle.vme_book.specs.declared.book.InsertFault.TheVariants as insert_fault
use Rattle.vme_floor.specs.Accounts.{ShareNoNumber, IsUnionBelow}
use Rattle.vme_floor.proofs.Collecting.{slice_get-stored}

-- places, each with a block or none
abbrev Blocks : Type 0
Blocks = List (Option Block)

-- a place without a block
abbrev no_block : Option Block
no_block = None

-- a place with a block isn't one without
Some-not_none : (b : Block) → Some b ≡ no_block → ⊥
Some-not_none b e = none-some b (sym e)

-- `rest` is the list ys from the index i on
abbrev pub IsRest : Blocks → ℕ → Blocks → Type 0
IsRest ys i rest = (k : ℕ) → slice_get rest k ≡ slice_get ys (i + k)

-- zs has the blocks of xs and of the first i places of ys, and `rest` is the rest of ys
pub record IsPart (xs ys : Blocks) (i : ℕ) (zs rest : Blocks) : Type 0 where
  pub union : IsUnionBelow xs ys i zs
  pub rest_is : IsRest ys i rest
  pub counted : i + length rest ≡ length ys

-- `IsPart` holds before the first place
pub IsPart-first : (xs ys : Blocks) → IsPart xs ys 0 xs ys
IsPart-first xs ys = record {
  union = record {
    long = refl;
    first = λ n b h. h;
    second = λ n b low at. absurd (omega (arith, low));
    only = λ n b at.
        inl at;
  };
  rest_is = λ k. let e : k ≡ 0 + k = omega arith in ap (slice_get ys) e;
  counted = omega arith;
}

-- the next place, i, has `x`, and `more` are those after it
module _ (xs ys : Blocks) (i : ℕ) (zs rest more : Blocks) (x : Option Block) (p : IsPart xs ys i zs rest)
    (is : rest ≡ x ∷ more) where
  -- `x` is at the place i of ys
  pub slice_get-next : slice_get ys i ≡ Some x
  slice_get-next = let e : i + 0 ≡ i = omega arith in sym (p.rest_is 0 ∙ ap (slice_get ys) e)
      ∙ ap (λ (l : Blocks). slice_get l 0) is

  -- `more` is the rest of ys after the place i
  IsRest-next : IsRest ys (i + 1) more
  IsRest-next k = let e : i + suc k ≡ i + 1 + k = omega arith in sym (ap (λ (l : Blocks). slice_get l (suc k)) is)
      ∙ (p.rest_is (suc k) ∙ ap (slice_get ys) e)

  -- the places up to i and the rest after it are as many as those of ys
  length-rest_next : i + 1 + length more ≡ length ys
  length-rest_next = let c = p.counted in let l = ap (λ (l : Blocks). length l) is in omega (arith, c, l)

  -- `IsPart` holds after a place without a block
  pub IsPart-skip : x ≡ no_block → IsPart xs ys (i + 1) zs more
  IsPart-skip none = record {
    union = record {
      long = p.union.long;
      first = p.union.first;
      second = λ n b low at. dite (ℕ_discrete n i)
          (λ same. absurd
          (Some-not_none b
          (same_Some (Some b) no_block
          (sym at ∙ (ap (slice_get ys) same ∙ (slice_get-next ∙ ap (λ (y : Option Block). Some y) none))))))
          (λ ne. p.union.second n b (omega (arith, low, ne)) at);
      only = λ n b at. ⊎_elim (λ h. inl h) (λ h. inr (let l = h.0 in omega (arith, l), h.1)) (p.union.only n b at);
    };
    rest_is = IsRest-next;
    counted = length-rest_next;
  }

  module _ (b : Block) (some : x ≡ Some b) (apart : ShareNoNumber xs ys) where
    -- ys has the block at the place i
    pub slice_get-block : slice_get ys i ≡ Some (Some b)
    slice_get-block = slice_get-next ∙ ap (λ (y : Option Block). Some y) some

    -- zs has no block at the place i
    pub HasBlock-not_yet : (d : Block) → HasBlock zs i d → ⊥
    HasBlock-not_yet d at = ⊎_elim (λ h. apart i d b h slice_get-block) (λ h. let l = h.0 in absurd (omega (arith, l)))
        (p.union.only i d at)

    -- i is a place of ys
    place-below_length : i < length ys
    place-below_length = slice_get_within ys i (Some b) slice_get-block

    -- the book refuses the block of the place i only for want of memory
    pub RefusesBlock-never : length ys ≡ length xs → (m : ℕ) (f : InsertFault) → m ≡ i → RefusesBlock zs m f
        → (f ≡ insert_fault.Memory → ⊥) → ⊥
    RefusesBlock-never long m insert_fault.Stranger is why other = let l = p.union.long in
        absurd (omega (arith, long, l, why, is, place-below_length))
    RefusesBlock-never long m insert_fault.Doubled is why other =
        let near : m < length zs = let l = p.union.long in omega (arith, long, l, is, place-below_length) in
        HasBlock-not_yet why.0 (ap (slice_get zs) (sym is) ∙ slice_get-stored zs m (Some why.0) near why.1)
    RefusesBlock-never long m insert_fault.Memory is why other = other refl

    -- `IsPart` holds after the block of the place i was put in
    pub IsPart-next : (m : ℕ) (us : Blocks) → m ≡ i → us ≡ set zs m (Some b) → slice_get zs m ≡ Some no_block
        → i < length zs → IsPart xs ys (i + 1) us more
    IsPart-next m us at_m new free low =
        let new_i : us ≡ set zs i (Some b) = new ∙ ap (λ (l : ℕ). set zs l (Some b)) at_m in
        let here : slice_get us i ≡ Some (Some b) =
        ap (λ (l : Blocks). slice_get l i) new_i ∙ slice_get-set_here zs i (Some b)
        low in
        let there : (n : ℕ) → n ≢ i → slice_get us n ≡ slice_get zs n = λ n ne. ap (λ (l : Blocks). slice_get l n) new_i
        ∙ slice_get-set_elsewhere zs i n (Some b) ne in
        let empty : slice_get zs i ≡ Some no_block = ap (slice_get zs) (sym at_m) ∙ free in
        record {
          union = record {
            long = ap (λ (l : Blocks). length l) new ∙ (length-set zs m (Some b) ∙ p.union.long);
            first = λ n d h. dite (ℕ_discrete n i)
                (λ same. absurd
                (Some-not_none d (same_Some (Some d) no_block (sym (p.union.first n d h)
                ∙ (ap (slice_get zs) same ∙ empty)))))
                (λ ne. there n ne ∙ p.union.first n d h);
            second = λ n d below at. dite (ℕ_discrete n i)
                (λ same. ap (slice_get us) same ∙ (here ∙ (sym slice_get-block ∙ (ap (slice_get ys) (sym same) ∙ at))))
                (λ ne. there n ne ∙ p.union.second n d (omega (arith, below, ne)) at);
            only = λ n d at. dite (ℕ_discrete n i)
                (λ same. inr (
                  omega (arith, same),
                  ap (slice_get ys) same
                      ∙ (slice_get-block ∙ (sym here ∙ (ap (slice_get us) (sym same) ∙ at))),
                ))
                (λ ne. ⊎_elim (λ h. inl h) (λ h. inr (let l = h.0 in omega (arith, l), h.1))
                (p.union.only n d (sym (there n ne) ∙ at)));
          };
          rest_is = IsRest-next;
          counted = length-rest_next;
        }
