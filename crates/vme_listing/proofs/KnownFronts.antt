-- The header or row at the start of a text is determined by its next bytes, whatever follows them.
use Rattle.std.proofs.Common.{◌≡◌, ℕ, ◌+◌, ◌-◌, ◌<◌, ◌≤◌, Bool, true, false, List, [], ◌∷◌, ◌++◌, drop, take, length}
use Rattle.std.proofs.Common.{refl}
use Rattle.std.proofs.Common.{sym, ap, ◌∙◌, subst, arith, append_assoc, append-nil, length-append}
use Rattle.std.proofs.lemmas.List.{drop_at, drop-append-le, take_at, take_rest, take-append-drop, take-append-le}
use Rattle.vme_listing.specs.Places.{is_row}
use Rattle.vme_listing.specs.Reading.{HasRead, IsFollowedBy, IsFront, RowsSoFar, behind_rows}
use Rattle.vme_listing.specs.RowText.{header, line_of}
use Rattle.vme_listing.specs.declared.row.Row.{Row}
use Rattle.vme_listing.specs.declared.row.Version.{Version}
use Rattle.vme_listing.specs.declared.row.Version.TheVariants.{One, Two, Three}
use Rattle.vme_listing.proofs.RowLengths.{line_of-at_most_96}

-- the bytes are the rest of a text, or more than 96 bytes; a line has at most 96
abbrev pub IsEnough : Bool → List ℕ → Type 0
IsEnough is_rest bytes = is_rest ≡ false → 96 < length bytes

-- if two texts together are empty, the first is
append-nil_first : (xs ys : List ℕ) → xs ++ ys ≡ [] → xs ≡ []
append-nil_first [] ys e = refl
append-nil_first (x ∷ xs) ys e = absurd (cc)

-- a word at the start of the text is at the start of its known bytes, if these are at least as long
word-known_if_long : (word bytes future more : List ℕ) → length word ≤ length bytes → bytes ++ future ≡ word ++ more
    → (bytes ≡ word ++ drop (length word) bytes) × (drop (length word) bytes ++ future ≡ more)
word-known_if_long word bytes future more short e =
    let front : take (length word) bytes ≡ word =
    sym (take-append-le (length word) bytes future short) ∙ ap (take (length word)) e
    ∙ take_at word more (length word) refl in (
      sym (take-append-drop (length word) bytes) ∙ ap (λ l. l ++ drop (length word) bytes) front,
      sym (drop-append-le (length word) bytes future short) ∙ ap (drop (length word)) e
          ∙ drop_at word more (length word) refl,
    )

-- a word of at most 96 bytes at the start of the text is at the start of its known bytes, if these are enough
word-known_if_enough : (is_rest : Bool) (word bytes future more : List ℕ) → IsFollowedBy is_rest future
    → IsEnough is_rest bytes
    → length word ≤ 96 → bytes ++ future ≡ word ++ more
    → (known : List ℕ) × (bytes ≡ word ++ known) × (known ++ future ≡ more)
word-known_if_enough true word bytes future more ends enough short e =
    let none = ends refl in (
      more,
      sym (append-nil bytes) ∙ ap (λ l. bytes ++ l) (sym none) ∙ e,
      ap (λ l. more ++ l) none ∙ append-nil more,
    )
word-known_if_enough false word bytes future more ends enough short e =
    let known = word-known_if_long word bytes future more (omega (arith, enough refl)) e in
    (drop (length word) bytes, known.0, known.1)

-- if the known bytes are enough, and are a line of at most 96 bytes, nothing follows them
nothing_follows-line : (is_rest : Bool) (bytes future line : List ℕ) → IsFollowedBy is_rest future
    → IsEnough is_rest bytes
    → length line ≤ 96 → bytes ≡ line → future ≡ []
nothing_follows-line true bytes future line ends enough short e = ends refl
nothing_follows-line false bytes future line ends enough short e = absurd (omega (arith, enough refl, ap length e))

-- `bytes` are the known bytes of what is left of a text, which are enough, and `future` are those that follow
module _ (version : Version) (is_rest : Bool) (bytes future : List ℕ) (ends : IsFollowedBy is_rest future)
    (enough : IsEnough is_rest bytes) (row : Row) (is : is_row version row ≡ true) where
  -- the line of a row at the start of the known bytes is at the start of the text
  pub IsFront-with_future : (more : List ℕ) → IsFront bytes row more → IsFront (bytes ++ future) row (more ++ future)
  IsFront-with_future more front = (
    ap (λ l. l ++ future) front.0 ∙ append_assoc (line_of row) more future,
    λ verdict.
        let last = front.1 verdict in
        let whole : bytes ≡ line_of row = front.0 ∙ ap (λ l. line_of row ++ l) last ∙ append-nil (line_of row) in
        ap (λ l. l ++ future) last ∙ nothing_follows-line is_rest bytes future (line_of row) ends enough
        (line_of-at_most_96 version row is) whole,
  )

  -- the line of a row at the start of the text is at the start of the known bytes
  pub IsFront-known : (more : List ℕ) → IsFront (bytes ++ future) row more
      → (known : List ℕ) × IsFront bytes row known × (known ++ future ≡ more)
  IsFront-known more front =
      let (known, split, rest) = word-known_if_enough is_rest (line_of row) bytes future more ends enough
      (line_of-at_most_96 version row is) front.0 in
      (known, (split, λ verdict. append-nil_first known future (rest ∙ front.1 verdict)), rest)

-- a header has 19 bytes
length-header : (version : Version) → length (header version) ≡ 19
length-header One = refl
length-header Two = refl
length-header Three = refl

-- a header at the start of the text is at the start of the known bytes
pub header-known_if_enough : (version : Version) (is_rest : Bool) (bytes future rest : List ℕ)
    → IsFollowedBy is_rest future
    → IsEnough is_rest bytes → bytes ++ future ≡ header version ++ rest
    → (known : List ℕ) × (bytes ≡ header version ++ known)
header-known_if_enough version is_rest bytes future rest ends enough e =
    let (known, split, same) = word-known_if_enough is_rest (header version) bytes future rest ends enough
    (omega (arith, length-header version)) e in
    (known, split)

-- `more`, which follows a word in the bytes, is found by the length of `more`
pub drop-by_length : (bytes word more : List ℕ) → bytes ≡ word ++ more → drop (length bytes - length more) bytes ≡ more
drop-by_length bytes word more e =
    ap (drop (length bytes - length more)) e
    ∙ drop_at word more (length bytes - length more) (omega (arith, ap length e, length-append word more))

-- where all that is left of a text is known, what was read of it was read with an empty future
pub HasRead-with_empty_future : (text : List ℕ) (rows : List Row) (so_far : RowsSoFar) (rest : List ℕ)
    → HasRead text rows (behind_rows so_far rest) → HasRead text rows (behind_rows so_far (rest ++ []))
HasRead-with_empty_future text rows so_far rest h =
    subst (λ l. HasRead text rows (behind_rows so_far l)) (sym (append-nil rest)) h

-- what is left after n bytes may be taken as the bytes of the text after these
pub HasRead-after_taking : (text : List ℕ) (rows : List Row) (so_far : RowsSoFar) (rest : List ℕ) (n : ℕ)
    → HasRead text rows (behind_rows so_far (drop n rest ++ []))
    → HasRead text rows (behind_rows so_far (take (length rest - n) (drop n rest)))
HasRead-after_taking text rows so_far rest n h =
    subst (λ l. HasRead text rows (behind_rows so_far l)) (append-nil (drop n rest) ∙ sym (take_rest rest n)) h
