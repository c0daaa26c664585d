-- Each step keeps the invariant, and satisfies its postcondition (`specs/Postconditions`).
use Rattle.std.proofs.Common.{◌≡◌, ℕ, zero, suc, ◌+◌, ◌*◌, ◌/◌, ◌%◌, ◌<◌, ◌≢◌, List, [], ◌∷◌, ◌++◌, length, get_or, set}
use Rattle.std.proofs.Common.{sym, refl, ap, ◌∙◌, subst, arith, bit_or, length-set, Option, Some, None, replicate, map}
use mathlib.Core.Option as maybe
use mathlib.Core.Option.{none, some, some-ne-none}
use lib.ListN.{get_elem?}
use mathlib.Core.Logic.{dite}
use native.Mathlib.Decide.{ℕ_discrete}
use Rattle.std.specs.Int.{bit_at}
use Rattle.atomic_table.specs.Table.{State, step, Act, keeps, takes, gives, Valid, stepped, carried_after, rest, Allows}
use Rattle.atomic_table.specs.Table.{Splits, Joins}
use Rattle.atomic_table.proofs.Lists.{set_again, set_else, set_here, at_index}
use Rattle.vme_trace.specs.declared.block.Block.{Block}
use Rattle.vme_core.specs.declared.view.View.{View}
use Rattle.vme_core.specs.Counting.{occurrences, numbers, HasPair, set_bits, update}
use Rattle.vme_core.specs.Views.{after_draw, with_found, after_claim, after_filing, after_take, with_claimed}
use Rattle.vme_core.specs.Views.{with_filed, with_taken, kept_view, split_view, joint_view, empty_view, first_view}
use Rattle.vme_core.specs.BoardInvariant.{BoardInvariant}
use Rattle.vme_core.proofs.Sums.{update-same, update-other, each-by_cases}
use Rattle.vme_core.proofs.ViewChanges.{bits-cons, bits-append, each-of_first_view, ShareInvariant-first}
use Rattle.vme_core.proofs.SetBits.{set_bits-true}
use Rattle.vme_core.proofs.SumsBelow.{sum_below-limit}
use Rattle.vme_core.proofs.InvariantSteps.{equal_bits_preserve, seeing_preserves, draw_preserves, undrawn, unlisted}
use Rattle.vme_core.proofs.InvariantSteps.{untaken, is_taken, claim_preserves, is_pending, file_preserves}
use Rattle.vme_core.proofs.InvariantSteps.{take_preserves, give_preserves, split_preserves, join_preserves}
use Rattle.vme_core.proofs.InvariantSteps.{view_has_no_duplicates, filed_and_taken_agree, list_length_bound}
use Rattle.vme_core.proofs.InvariantSteps.{takes_length_bound, content-one, None-not_Some}
use Rattle.vme_board.specs.Words.{bit_of, mask_of, Homes, IsEmpty, IsFilled, Reads, IsNumbered, Holds}
use Rattle.vme_board.specs.Views.{SameBlocks}
use Rattle.vme_board.specs.Postconditions.{SeatState, TableStep, IsAtBit, DrawPost, ClaimPost, FilePost, TakePost}
use Rattle.vme_board.specs.Postconditions.{GivePost, ClaimedLookPost, FiledLookPost, TakenLookPost, CountPost}
use Rattle.vme_board.proofs.Bits.{bit_of-at_most_one, bit-one_number, marked, bit_of-marked, bit_of-other_row}
use Rattle.vme_board.proofs.Bits.{bit_of-other_number, bit_of-marked_again, bit_of-zeros}

-- a state of the table
abbrev St : Type 0
St = State (Option Block) View

-- the content of each number
abbrev Contents_of : Type 0
Contents_of = ℕ → Option Block

-- a share with a part isn't empty
share-not_empty : {es : List ℕ} → 0 < length es → es ≢ []
share-not_empty h z = omega (arith, h, ap length z)

-- the invariant with the limit a holds with the limit b if b ≡ a
BoardInvariant-limit : (K : Contents_of) (a b : ℕ) (D C F T : ℕ → ℕ) (E : ℕ → Type 0) (H : ℕ → Block → Type 0)
    (vs : List View) → b
    ≡ a → BoardInvariant a D C F T K E H vs → BoardInvariant b D C F T K E H vs
BoardInvariant-limit K a b D C F T E H vs is r = subst (λ (y : ℕ). BoardInvariant y D C F T K E H vs) (sym is) r

-- setting a bit that is 1 changes no bit of any row
bits-marked_again : (k : ℕ) (ws : List ℕ) (n : ℕ) → k < 4 → 4 * (n / 64) + k < length ws → bit_of k ws n ≡ 1 → (k' : ℕ)
    → k' < 4
    → (m : ℕ) → bit_of k' (marked k ws n) m ≡ bit_of k' ws m
bits-marked_again k ws n small near is k' small' m = dite (ℕ_discrete k' k)
    (λ e. subst (λ (y : ℕ). bit_of y (marked k ws n) m ≡ bit_of y ws m) (sym e) (bit_of-marked_again k ws n near is m))
    (λ ne. bit_of-other_row k ws n near k' small small' ne m)

-- an element of a list is at an index below its length
get_elem-within : {A : Type 0} (l : List A) (i : ℕ) (a : A) → get_elem? l i ≡ some a → i < length l
get_elem-within [] i a e = absurd (some-ne-none a (sym e))
get_elem-within (x ∷ xs) zero a e = omega arith
get_elem-within (x ∷ xs) (suc i) a e = omega (arith, get_elem-within xs i a e)

-- a slot has at most one block
slot-one_block : (x b : Block) → some (some (Some x)) ≡ some (some (Some b)) → x ≡ b
slot-one_block x b e = cc

-- a slot that is checked out has no block
none-not_filled : (o : maybe.Option (Option Block)) (x : Block) → o ≡ none → some o ≡ some (some (Some x)) → ⊥
none-not_filled o x e h = cc

-- an empty slot has no block
empty-not_filled : (x : Block) → ◌≡◌ {A = maybe.Option (maybe.Option (Option Block))} (some (some None))
    (some (some (Some x))) → ⊥
empty-not_filled x h = cc

module _ (width : ℕ) (s : St) (h : Holds width s) (id : ℕ) (seat : SeatState) (e : get_elem? s.views id ≡ some seat.0)
  where
    -- a step that makes the word i `new` is right: for some view w and some use a of the slots, the rule holds after
    -- it, and `then` holds of the seat's state
    abbrev Goes : (i new : ℕ) (then : SeatState → Type 0) → Type 0
    Goes i new then = (w : View) × (a : Act (Option Block)) × Valid s.homes seat.1 a
        × Holds width (stepped s i new id seat.1 w a) × then (w, carried_after seat.1 a)

    -- the contents of the state
    abbrev K : Contents_of
    K = h.1.0

    -- the invariant of the state
    abbrev r : Reads K s.words s.homes s.views
    r = h.1.1

    -- the bit `drawn` of a draw
    abbrev D : ℕ → ℕ
    D = bit_of 3 s.words

    -- the bit `claimed` of a number
    abbrev C : ℕ → ℕ
    C = bit_of 0 s.words

    -- the bit `filed` of a number
    abbrev F : ℕ → ℕ
    F = bit_of 1 s.words

    -- the bit `taken` of a number
    abbrev T : ℕ → ℕ
    T = bit_of 2 s.words

    -- the slot of a number is in the table and empty
    abbrev E : ℕ → Type 0
    E = IsEmpty s.homes

    -- the slot of a number is in the table with the block
    abbrev H : ℕ → Block → Type 0
    H = IsFilled s.homes

    -- each index below `width` is one of a word
    word_index-below_length : (i : ℕ) → i < width → i < length s.words
    word_index-below_length i small = let same = h.0 in omega (arith, same, small)

    -- a step that sets a bit that is 1, and by which the view of the seat becomes w, keeps the invariant if the words
    -- and slots before it satisfy the invariant with this view
    Holds-marked_again : (k n : ℕ) → k < 4 → 4 * (n / 64) + k < length s.words → bit_of k s.words n ≡ 1 → (w : View)
        → Reads K s.words
        s.homes (set s.views id w)
        → Holds width (stepped s (4 * (n / 64) + k) (bit_or (get_or s.words (4 * (n / 64) + k) 0) (mask_of n)) id seat.1
        w
        keeps)
    Holds-marked_again k n small near is w q = let a = bits-marked_again k s.words n small near is in let ws' : List ℕ =
        marked k s.words n in (
          length-set s.words (4 * (n / 64) + k) _ ∙ h.0,
          (
            K,
            equal_bits_preserve (length s.homes) D (bit_of 3 ws') C (bit_of 0 ws') F (bit_of 1 ws') T (bit_of 2 ws')
                K E H
                (set s.views id w) (a 3 (omega arith)) (a 0 (omega arith)) (a 1 (omega arith)) (a 2 (omega arith)) q,
            h.1.2,
          ),
        )

    -- the invariant holds if the seat has seen the draws fo and the numbers cl, fi and ta, whose bits are 1, and
    -- nothing else changed
    Reads-saw : (fo cl fi ta : List ℕ) → ((d : ℕ) → 0 < occurrences d fo → D d ≡ 1)
        → ((n : ℕ) → 0 < occurrences n cl → C n
        ≡ 1)
        → ((n : ℕ) → 0 < occurrences n fi → F n ≡ 1) → ((n : ℕ) → 0 < occurrences n ta → T n ≡ 1)
        → Reads K s.words s.homes (set s.views id (record seat.0 { found = fo; claimed = cl; filed = fi; taken = ta }))
    Reads-saw = seeing_preserves (length s.homes) D C F T K E H s.views r id seat.0 e

    -- a draw that the seat has found won is drawn
    drawn-of_found : (d : ℕ) → 0 < occurrences d seat.0.found → D d ≡ 1
    drawn-of_found = r.draws.found id seat.0 e

    -- a number that the seat has seen claimed is claimed
    claimed-of_seen : (n : ℕ) → 0 < occurrences n seat.0.claimed → C n ≡ 1
    claimed-of_seen = r.stages.saw_claimed id seat.0 e

    -- a number that the seat has seen filed is filed
    filed-of_seen : (n : ℕ) → 0 < occurrences n seat.0.filed → F n ≡ 1
    filed-of_seen = r.stages.saw_filed id seat.0 e

    -- a number that the seat has seen taken is taken
    taken-of_seen : (n : ℕ) → 0 < occurrences n seat.0.taken → T n ≡ 1
    taken-of_seen = r.stages.saw_taken id seat.0 e

    -- a filed number is claimed
    claimed-of_filed : (n : ℕ) → F n ≡ 1 → C n ≡ 1
    claimed-of_filed n f = omega (arith, f, r.stages.pending_once n, r.stages.bit n)

    -- a taken number is filed
    filed-of_taken : (n : ℕ) → T n ≡ 1 → F n ≡ 1
    filed-of_taken n t = omega (arith, t, r.stages.taken_is_filed n, r.stages.pending_once n, r.stages.bit n)

    -- the invariant holds after the seat saw the numbers ns claimed
    Reads-saw_claimed : (ns : List ℕ) → ((n : ℕ) → 0 < occurrences n ns → C n ≡ 1) → Reads K s.words s.homes
        (set s.views id (with_claimed seat.0 ns))
    Reads-saw_claimed ns c = Reads-saw seat.0.found (ns ++ seat.0.claimed) seat.0.filed seat.0.taken drawn-of_found
        (bits-append C ns seat.0.claimed c claimed-of_seen) filed-of_seen taken-of_seen

    -- the invariant holds after the seat saw the numbers ns filed
    Reads-saw_filed : (ns : List ℕ) → ((n : ℕ) → 0 < occurrences n ns → F n ≡ 1) → Reads K s.words s.homes
        (set s.views id (with_filed seat.0 ns))
    Reads-saw_filed ns f = Reads-saw seat.0.found (ns ++ seat.0.claimed) (ns ++ seat.0.filed) seat.0.taken
        drawn-of_found
        (bits-append C ns seat.0.claimed (λ n z. claimed-of_filed n (f n z)) claimed-of_seen)
        (bits-append F ns seat.0.filed f filed-of_seen)
        taken-of_seen

    -- the invariant holds after the seat saw the numbers ns taken
    Reads-saw_taken : (ns : List ℕ) → ((n : ℕ) → 0 < occurrences n ns → T n ≡ 1) → Reads K s.words s.homes
        (set s.views id (with_taken seat.0 ns))
    Reads-saw_taken ns t = Reads-saw seat.0.found (ns ++ seat.0.claimed) (ns ++ seat.0.filed) (ns ++ seat.0.taken)
        drawn-of_found
        (bits-append C ns seat.0.claimed (λ n z. claimed-of_filed n (filed-of_taken n (t n z))) claimed-of_seen)
        (bits-append F ns seat.0.filed (λ n z. filed-of_taken n (t n z)) filed-of_seen)
        (bits-append T ns seat.0.taken t taken-of_seen)

    -- if the bit of n is 1, so is that of each number of the list of n alone
    bit-of_only : (c : ℕ → ℕ) (n m : ℕ) → c n ≡ 1 → 0 < occurrences m (n ∷ []) → c m ≡ 1
    bit-of_only c n m is = bits-cons c n [] is (λ k z. absurd (omega (arith, z))) m

    -- the view of the seat is w after it was set to w
    get_elem-own_view_set : (w : View) → get_elem? (set s.views id w) id ≡ some w
    get_elem-own_view_set w = set_here s.views id w (get_elem-within s.views id seat.0 e)

    -- a try of the draw d, whose bit was x, by a seat with a share is right, and satisfies its postcondition
    Goes-draw : 0 < length seat.0.share → (d : ℕ) → 4 * (d / 64) + 3 < width → (x : ℕ) → D d ≡ x
        → Goes (4 * (d / 64) + 3)
        (bit_or (get_or s.words (4 * (d / 64) + 3) 0) (mask_of d))
        (λ after. (x ≡ 0 → (occurrences d seat.0.draws ≡ 0) × (occurrences d seat.0.found ≡ 0)
        × (after ≡ (after_draw seat.0 d, seat.1))) × (x ≡ 1 → after ≡ (with_found seat.0 d, seat.1)))
    Goes-draw has_share d small zero is =
        let near : 4 * (d / 64) + 3 < length s.words = word_index-below_length (4 * (d / 64) + 3) small in
        let ws' : List ℕ = marked 3 s.words d in let D' : ℕ → ℕ = bit_of 3 ws' in
        let unfound : occurrences d seat.0.found ≡ 0 = dite (ℕ_discrete (occurrences d seat.0.found) 0) (λ z. z)
        (λ ne. absurd (omega (arith, is, drawn-of_found d (omega (arith, ne))))) in (
          after_draw seat.0 d,
          keeps,
          tt,
          (
            length-set s.words (4 * (d / 64) + 3) _ ∙ h.0,
            (
              K,
              equal_bits_preserve (length s.homes) D' D' C (bit_of 0 ws') F (bit_of 1 ws') T (bit_of 2 ws') K E H
                  (set s.views id (after_draw seat.0 d)) (λ _. refl) (bit_of-other_row 3 s.words d near 0 (omega arith)
                  (omega arith)
                  (λ z. omega arith)) (bit_of-other_row 3 s.words d near 1 (omega arith) (omega arith)
                  (λ z. omega arith))
                  (bit_of-other_row 3 s.words d near 2 (omega arith) (omega arith) (λ z. omega arith))
                  (draw_preserves (length s.homes) D C F T K E H s.views r id seat.0 e (share-not_empty has_share) D' d
                  is
                  (bit_of-marked 3 s.words d near) (bit_of-other_number 3 s.words d near)),
              h.1.2,
            ),
          ),
          (
            (λ _. (undrawn (length s.homes) D C F T K E H s.views r id seat.0 e d is, unfound, refl)),
            λ z. absurd (omega (arith, z)),
          ),
        )
    Goes-draw has_share d small (suc zero) is = let near : 4 * (d / 64) + 3 < length s.words =
        word_index-below_length (4 * (d / 64) + 3)
        small in (
          with_found seat.0 d,
          keeps,
          tt,
          Holds-marked_again 3 d (omega arith) near is (with_found seat.0 d)
              (Reads-saw (d ∷ seat.0.found) seat.0.claimed seat.0.filed
              seat.0.taken (bits-cons D d seat.0.found is drawn-of_found) claimed-of_seen filed-of_seen taken-of_seen),
          ((λ z. absurd (omega (arith, z))), λ _. refl),
        )
    Goes-draw has_share d small (suc (suc k)) is = absurd (omega (arith, is, bit_of-at_most_one 3 s.words d))

    -- a try to claim n, whose bit was x, by a seat with a share and nothing pending is right, and satisfies its
    -- postcondition
    Goes-claim : 0 < length seat.0.share → (n : ℕ) → n < length s.homes → 4 * (n / 64) + 0 < width → seat.0.pending ≡ []
        → (x : ℕ) → C n ≡ x → Goes (4 * (n / 64) + 0) (bit_or (get_or s.words (4 * (n / 64) + 0) 0) (mask_of n))
        (λ after. (x ≡ 0 → (occurrences n (numbers seat.0.list) ≡ 0)
        × (after ≡ (after_claim seat.0 n, (n, None) ∷ seat.1)))
        × (x ≡ 1 → after ≡ (with_claimed seat.0 (n ∷ []), seat.1)))
    Goes-claim has_share n low small free zero is =
        let near : 4 * (n / 64) + 0 < length s.words = word_index-below_length (4 * (n / 64) + 0) small in
        let ws' : List ℕ = marked 0 s.words n in
        let homes' : Homes = set s.homes n none in let vs' : List View = set s.views id (after_claim seat.0 n) in
        let unfiled : F n ≡ 0 = let p = r.stages.pending_once n in omega (arith, p, is) in
        let rule : BoardInvariant (length s.homes) D (bit_of 0 ws') F T K (IsEmpty homes') (IsFilled homes') vs' =
        claim_preserves
        (length s.homes) D C F T K E H s.views r id seat.0 e (share-not_empty has_share) (bit_of 0 ws') (IsEmpty homes')
        (IsFilled homes') n free low is (bit_of-marked 0 s.words n near) (bit_of-other_number 0 s.words n near)
        (λ m ne empty l. set_else s.homes n m none ne ∙ empty (subst (λ (y : ℕ). m < y) (length-set s.homes n none) l))
        (λ m x ne full. set_else s.homes n m none ne ∙ full) (λ m x ne full. sym (set_else s.homes n m none ne) ∙ full)
        (λ x full. none-not_filled none x refl (sym (set_here s.homes n none low) ∙ full)) in (
          after_claim seat.0 n,
          takes n None,
          r.contents.free_is_empty n is low,
          (
            length-set s.words (4 * (n / 64) + 0) _ ∙ h.0,
            (
              K,
              BoardInvariant-limit K (length s.homes) (length homes') (bit_of 3 ws') (bit_of 0 ws') (bit_of 1 ws')
                  (bit_of 2 ws')
                  (IsEmpty homes') (IsFilled homes') vs' (length-set s.homes n none)
                  (equal_bits_preserve (length s.homes) D (bit_of 3 ws') (bit_of 0 ws') (bit_of 0 ws') F (bit_of 1 ws')
                  T
                  (bit_of 2 ws') K (IsEmpty homes') (IsFilled homes') vs'
                  (bit_of-other_row 0 s.words n near 3 (omega arith)
                  (omega arith) (λ z. omega arith)) (λ _. refl) (bit_of-other_row 0 s.words n near 1 (omega arith)
                  (omega arith)
                  (λ z. omega arith)) (bit_of-other_row 0 s.words n near 2 (omega arith) (omega arith)
                  (λ z. omega arith)) rule),
              h.1.2,
            ),
          ),
          (
            (λ _. (unlisted (length s.homes) D C F T K E H s.views r id seat.0 e n unfiled, refl)),
            λ z. absurd (omega (arith, z)),
          ),
        )
    Goes-claim has_share n low small free (suc zero) is = let near : 4 * (n / 64) + 0 < length s.words =
        word_index-below_length
        (4 * (n / 64) + 0) small in (
          with_claimed seat.0 (n ∷ []),
          keeps,
          tt,
          Holds-marked_again 0 n (omega arith) near is (with_claimed seat.0 (n ∷ []))
              (Reads-saw_claimed (n ∷ []) (λ m. bit-of_only C n m is)),
          ((λ z. absurd (omega (arith, z))), λ _. refl),
        )
    Goes-claim has_share n low small free (suc (suc k)) is = absurd (omega (arith, is, bit_of-at_most_one 0 s.words n))

    -- the filing of the block b of n, which is pending with the seat, and whose slot the seat has with b, is right, and
    -- satisfies its postcondition
    Goes-file : (n : ℕ) (b : Block) → b.number ≡ n → n < length s.homes → 4 * (n / 64) + 1 < width → seat.0.pending ≡ n
        ∷ []
        → seat.1 ≡ (n, Some b) ∷ [] → Goes (4 * (n / 64) + 1) (bit_or (get_or s.words (4 * (n / 64) + 1) 0) (mask_of n))
        (λ after. (occurrences n (numbers seat.0.list) ≡ 0) × (after ≡ (after_filing seat.0 n b, []))
        × (length seat.0.list < length s.homes) × SameBlocks after.0)
    Goes-file n b own low small one has =
        let near : 4 * (n / 64) + 1 < length s.words = word_index-below_length (4 * (n / 64) + 1) small in
        let ws' : List ℕ = marked 1 s.words n in
        let here : Option Block = Some b in let homes' : Homes = set s.homes n (some here) in
        let w : View = after_filing seat.0 n b in let vs' : List View = set s.views id w in
        let K' : Contents_of = update K n (Some b) in let F' : ℕ → ℕ = bit_of 1 ws' in
        let numbered : IsNumbered K' = each-by_cases n (λ m. (x : Block) → update K n (Some b) m ≡ Some x → x.number
        ≡ m)
        (λ x z. let same : b ≡ x = content-one (update K n (Some b) n) b x (update-same K n (Some b)) z in
        subst (λ (y : Block). y.number ≡ n) same own) (λ m ne x z. h.1.2 m x (sym (update-other K n (Some b) m ne) ∙ z))
        in
        let was = is_pending (length s.homes) D C F T K E H s.views r id seat.0 e n one in
        let rule : BoardInvariant (length s.homes) D C F' T K' (IsEmpty homes') (IsFilled homes') vs' = file_preserves
        (length s.homes) D C F T K E H s.views r id seat.0 e F' K' (IsEmpty homes') (IsFilled homes') n b one
        (bit_of-marked 1 s.words n near) (bit_of-other_number 1 s.words n near) (update-same K n (Some b))
        (update-other K n (Some b))
        (λ m ne empty l. set_else s.homes n m (some here) ne
        ∙ empty (subst (λ (y : ℕ). m < y) (length-set s.homes n (some here)) l)) (λ m x ne full. set_else s.homes n m
        (some here) ne ∙ full) (λ m x ne full. sym (set_else s.homes n m (some here) ne) ∙ full)
        (set_here s.homes n (some here) low) (λ x full. slot-one_block x b (sym full
        ∙ set_here s.homes n (some here) low))
        in
        let kept : Holds width (record { words = ws'; homes = homes'; views = vs' }) = (
          length-set s.words (4 * (n / 64) + 1) _ ∙ h.0,
          (
            K',
            BoardInvariant-limit K' (length s.homes) (length homes') (bit_of 3 ws') (bit_of 0 ws') (bit_of 1 ws')
                (bit_of 2 ws')
                (IsEmpty homes') (IsFilled homes') vs' (length-set s.homes n (some here))
                (equal_bits_preserve (length s.homes) D (bit_of 3 ws') C (bit_of 0 ws') F' F' T (bit_of 2 ws') K'
                (IsEmpty homes')
                (IsFilled homes') vs' (bit_of-other_row 1 s.words n near 3 (omega arith) (omega arith)
                (λ z. omega arith))
                (bit_of-other_row 1 s.words n near 0 (omega arith) (omega arith) (λ z. omega arith)) (λ _. refl)
                (bit_of-other_row 1 s.words n near 2 (omega arith) (omega arith) (λ z. omega arith)) rule),
            numbered,
          ),
        ) in
        let most = list_length_bound (length s.homes) D C F' T K' (IsEmpty homes') (IsFilled homes') vs' rule id w
        (get_elem-own_view_set w) in
        let least = sum_below-limit F' (length s.homes) (bit_of-at_most_one 1 ws') in (
          w,
          gives,
          tt,
          subst (λ (cs : List (ℕ × Option Block)). Holds width
              (stepped s (4 * (n / 64) + 1) (bit_or (get_or s.words (4 * (n / 64) + 1) 0) (mask_of n)) id cs w gives))
              (sym has) kept,
          (
            unlisted (length s.homes) D C F T K E H s.views r id seat.0 e n was.1,
            (λ i. (w, rest (has i))),
            omega (arith, most, least),
            filed_and_taken_agree (length s.homes) D C F' T K' (IsEmpty homes') (IsFilled homes') vs'
                rule id w (get_elem-own_view_set w),
          ),
        )

    -- a try to take n, whose bit was x, by a seat with a share that has seen n filed is right, and satisfies its
    -- postcondition
    Goes-take : 0 < length seat.0.share → (n : ℕ) → n < length s.homes → 4 * (n / 64) + 2 < width → 0 < occurrences n
        seat.0.filed → (x : ℕ) → T n ≡ x → Goes (4 * (n / 64) + 2) (bit_or (get_or s.words (4 * (n / 64) + 2) 0)
        (mask_of n))
        (λ after. (x ≡ 0 → (b : Block) × (b.number ≡ n) × (occurrences n (numbers seat.0.takes) ≡ 0)
        × (after ≡ (after_take seat.0 n b, (n, Some b) ∷ seat.1)) × (length seat.0.takes < length s.homes)
        × SameBlocks after.0)
        × (x ≡ 1 → after ≡ (with_taken seat.0 (n ∷ []), seat.1)))
    Goes-take has_share n low small saw_it zero is =
        let near : 4 * (n / 64) + 2 < length s.words = word_index-below_length (4 * (n / 64) + 2) small in
        let ws' : List ℕ = marked 2 s.words n in
        let f1 : F n ≡ 1 = filed-of_seen n saw_it in let full = r.contents.filed_is_stored n f1 is in let b : Block =
        full.0
        in
        let homes' : Homes = set s.homes n none in let w : View = after_take seat.0 n b in
        let vs' : List View = set s.views id w in let T' : ℕ → ℕ = bit_of 2 ws' in
        let rule : BoardInvariant (length s.homes) D C F T' K (IsEmpty homes') (IsFilled homes') vs' = take_preserves
        (length s.homes) D C F T K E H s.views r id seat.0 e (share-not_empty has_share) T' (IsEmpty homes')
        (IsFilled homes') n
        b f1
        is (bit_of-marked 2 s.words n near) (bit_of-other_number 2 s.words n near) full.1
        (λ m ne empty l. set_else s.homes n m none ne ∙ empty (subst (λ (y : ℕ). m < y) (length-set s.homes n none) l))
        (λ m x ne full. set_else s.homes n m none ne ∙ full) (λ m x ne full. sym (set_else s.homes n m none ne) ∙ full)
        (λ x full. none-not_filled none x refl (sym (set_here s.homes n none low) ∙ full)) in
        let most = takes_length_bound (length s.homes) D C F T' K (IsEmpty homes') (IsFilled homes') vs' rule id w
        (get_elem-own_view_set w) in
        let least = sum_below-limit T' (length s.homes) (bit_of-at_most_one 2 ws') in (
          w,
          takes n (Some b),
          full.2,
          (
            length-set s.words (4 * (n / 64) + 2) _ ∙ h.0,
            (
              K,
              BoardInvariant-limit K (length s.homes) (length homes') (bit_of 3 ws') (bit_of 0 ws') (bit_of 1 ws')
                  (bit_of 2 ws')
                  (IsEmpty homes') (IsFilled homes') vs' (length-set s.homes n none)
                  (equal_bits_preserve (length s.homes) D (bit_of 3 ws') C (bit_of 0 ws') F (bit_of 1 ws') T' T' K
                  (IsEmpty homes')
                  (IsFilled homes') vs' (bit_of-other_row 2 s.words n near 3 (omega arith) (omega arith)
                  (λ z. omega arith))
                  (bit_of-other_row 2 s.words n near 0 (omega arith) (omega arith) (λ z. omega arith))
                  (bit_of-other_row 2 s.words n near 1 (omega arith) (omega arith) (λ z. omega arith))
                  (λ _. refl) rule),
              h.1.2,
            ),
          ),
          (
            (λ _. (
              b,
              h.1.2 n b full.1,
              untaken (length s.homes) D C F T K E H s.views r id seat.0 e n is,
              refl,
              omega (arith, most, least),
              filed_and_taken_agree (length s.homes) D C F T' K (IsEmpty homes') (IsFilled homes') vs'
                  rule id w (get_elem-own_view_set w),
            )),
            λ z. absurd (omega (arith, z)),
          ),
        )
    Goes-take has_share n low small saw_it (suc zero) is = let near : 4 * (n / 64) + 2 < length s.words =
        word_index-below_length
        (4 * (n / 64) + 2) small in (
          with_taken seat.0 (n ∷ []),
          keeps,
          tt,
          Holds-marked_again 2 n (omega arith) near is (with_taken seat.0 (n ∷ []))
              (Reads-saw_taken (n ∷ []) (λ m. bit-of_only T n m is)),
          ((λ z. absurd (omega (arith, z))), λ _. refl),
        )
    Goes-take has_share n low small saw_it (suc (suc k)) is = absurd (omega (arith, is, bit_of-at_most_one 2 s.words n))

-- a word and a mask may be replaced by equal ones
pub Allows-same_word : (Post : TableStep → SeatState → ℕ → SeatState → Type 0) (width slots id : ℕ) (seat : SeatState)
    (i j m k : ℕ) → i ≡ j → m ≡ k
    → Allows (Holds width) slots id seat j (λ x. bit_or x k) (Post (step slots j k 0 none) seat) → Allows (Holds width)
    slots id seat i (λ x. bit_or x m) (Post (step slots i m 0 none) seat)
Allows-same_word Post width slots id seat i j m k is same allowed =
    subst (λ (z : ℕ × ℕ). Allows (Holds width) slots id seat z.0 (λ x. bit_or x z.1) (Post (step slots z.0 z.1 0 none)
    seat)) (λ t. (sym is t, sym same t)) allowed

-- what holds of d holds of each number that the step on the bit of d is at, which is d
IsAtBit-one_number : (slots k d : ℕ) (F : ℕ → Type 0) → F d → (n : ℕ) → IsAtBit
    (step slots (4 * (d / 64) + k) (mask_of d) 0 none) k n
    → F n
IsAtBit-one_number slots k d F f n a = subst F (bit-one_number k d n a.word a.mask) f

-- the rule allows a try of a draw by a seat with a share
pub Allows-draw : (width slots id : ℕ) (seat : SeatState) → 0 < length seat.0.share → (d : ℕ) → 4 * (d / 64) + 3 <
    width → Allows (Holds width) slots id seat (4 * (d / 64) + 3) (λ n. bit_or n (mask_of d))
    (DrawPost (step slots (4 * (d / 64) + 3) (mask_of d) 0 none) seat)
Allows-draw width slots id seat has_share d small s h wide e fits = let g = Goes-draw width s h id seat e has_share d
    small
    (bit_of 3 s.words d) refl in (
      g.0,
      g.1,
      g.2,
      g.3,
      IsAtBit-one_number slots 3 d (λ n. (bit_at (get_or s.words (4 * (d / 64) + 3) 0) (n % 64) ≡ 0
          → (occurrences n seat.0.draws ≡ 0) × (occurrences n seat.0.found ≡ 0) × ((g.0, carried_after seat.1 g.1)
          ≡ (after_draw seat.0 n, seat.1))) × (bit_at (get_or s.words (4 * (d / 64) + 3) 0) (n % 64) ≡ 1
          → (g.0, carried_after seat.1 g.1) ≡ (with_found seat.0 n, seat.1))) g.4,
    )

-- the rule allows a try to claim a number by a seat with a share and nothing pending
pub Allows-claim : (width slots id : ℕ) (seat : SeatState) → 0 < length seat.0.share → (n : ℕ) → n < slots
    → 4 * (n / 64) + 0 < width → seat.0.pending ≡ [] → Allows (Holds width) slots id seat (4 * (n / 64) + 0)
    (λ x. bit_or x (mask_of n)) (ClaimPost (step slots (4 * (n / 64) + 0) (mask_of n) 0 none) seat)
Allows-claim width slots id seat has_share n low small free s h wide e fits = let g = Goes-claim width s h id seat e
    has_share n
    (omega (arith, low, wide)) small free (bit_of 0 s.words n) refl in (
      g.0,
      g.1,
      g.2,
      g.3,
      IsAtBit-one_number slots 0 n (λ m. (bit_at (get_or s.words (4 * (n / 64) + 0) 0) (m % 64) ≡ 0
          → (occurrences m (numbers seat.0.list) ≡ 0) × ((g.0, carried_after seat.1 g.1) ≡ (
            after_claim seat.0 m,
            (m, None)
                ∷ seat.1,
          ))) × (bit_at (get_or s.words (4 * (n / 64) + 0) 0) (m % 64) ≡ 1 → (g.0, carried_after seat.1 g.1)
          ≡ (with_claimed seat.0 (m ∷ []), seat.1))) g.4,
    )

-- the rule allows a try to take a number by a seat with a share that has seen it filed
pub Allows-take : (width slots id : ℕ) (seat : SeatState) → 0 < length seat.0.share → (n : ℕ) → n < slots
    → 4 * (n / 64) + 2 < width → 0 < occurrences n seat.0.filed → Allows (Holds width) slots id seat (4 * (n / 64) + 2)
    (λ x. bit_or x (mask_of n)) (TakePost (step slots (4 * (n / 64) + 2) (mask_of n) 0 none) seat)
Allows-take width slots id seat has_share n low small saw_it s h wide e fits = let g = Goes-take width s h id seat e
    has_share n
    (omega (arith, low, wide)) small saw_it (bit_of 2 s.words n) refl in
    let after : SeatState = (g.0, carried_after seat.1 g.1) in (
      g.0,
      g.1,
      g.2,
      g.3,
      IsAtBit-one_number slots 2 n (λ m. (bit_at (get_or s.words (4 * (n / 64) + 2) 0) (m % 64) ≡ 0 → (b : Block) ×
          (b.number ≡ m)
          × (occurrences m (numbers seat.0.takes) ≡ 0) × (after ≡ (after_take seat.0 m b, (m, Some b) ∷ seat.1))
          × (length seat.0.takes < slots) × SameBlocks after.0)
          × (bit_at (get_or s.words (4 * (n / 64) + 2) 0) (m % 64) ≡ 1
          → after ≡ (with_taken seat.0 (m ∷ []), seat.1))) (
            (λ z. let t = g.4.0 z in (t.0, t.1, t.2, t.3, subst (λ (y : ℕ). length seat.0.takes < y) wide t.4, t.5)),
            g.4.1,
          ),
    )

-- the block, or b where there is none
abbrev content_of : Block → Option Block → Block
content_of b None = b
content_of b (Some x) = x

-- the block in the slot that was checked out last, or b where there is none
abbrev block_in : Block → List (ℕ × Option Block) → Block
block_in b [] = b
block_in b (x ∷ xs) = content_of b x.1

-- the seat filed n, which it hadn't filed before, with the block b
abbrev FiledAs : ℕ → SeatState → SeatState → ℕ → Block → Type 0
FiledAs slots seat after n b = (occurrences n (numbers seat.0.list) ≡ 0) × (after ≡ (after_filing seat.0 n b, []))
    × (length seat.0.list < slots) × SameBlocks after.0

-- the rule allows the filing of a number that is pending with the seat, and whose slot the seat has with its block
pub Allows-file : (width slots id : ℕ) (seat : SeatState) (n : ℕ) (b : Block) → b.number ≡ n → n < slots
    → 4 * (n / 64) + 1 < width → seat.0.pending ≡ n ∷ [] → seat.1 ≡ (n, Some b) ∷ []
    → Allows (Holds width) slots id seat (4 * (n / 64) + 1) (λ x. bit_or x (mask_of n))
    (FilePost (step slots (4 * (n / 64) + 1) (mask_of n) 0 none) seat)
Allows-file width slots id seat n b own low small one has s h wide e fits = let g = Goes-file width s h id seat e n b
    own (omega (arith, low, wide)) small one has in
    let after : SeatState = (g.0, carried_after seat.1 g.1) in
    let here : FiledAs slots seat after n b = (
      g.4.0,
      g.4.1,
      subst (λ (y : ℕ). length seat.0.list < y) wide g.4.2,
      g.4.3,
    ) in
    let there : (m : ℕ) → m ≡ n → (b' : Block) → b' ≡ b → FiledAs slots seat after m b' = λ m is b' same. subst
    (λ (z : ℕ). FiledAs slots seat after z b') (sym is) (subst (λ (y : Block). FiledAs slots seat after n y)
    (sym same) here) in (
      g.0,
      g.1,
      g.2,
      g.3,
      λ m a b' has'. there m (sym (bit-one_number 1 n m a.word a.mask)) b'
          (ap (block_in b) (sym has' ∙ has)),
    )

-- an element within a list doesn't depend on the default
get_or-any_default : (l : List ℕ) (i a b : ℕ) → i < length l → get_or l i a ≡ get_or l i b
get_or-any_default [] i a b h = absurd (omega arith)
get_or-any_default (x ∷ xs) zero a b h = refl
get_or-any_default (x ∷ xs) (suc i) a b h = get_or-any_default xs i a b (omega arith)

-- a load doesn't change the words
module _ (width : ℕ) (s : St) (h : Holds width s) (id : ℕ) (seat : SeatState) (e : get_elem? s.views id ≡ some seat.0)
    (i : ℕ) (near : i < width) where
  -- setting a word to its value changes nothing
  words-loaded : set s.words i (get_or s.words i 0) ≡ s.words
  words-loaded = set_again s.words i (get_or s.words i 0) (at_index s.words i (get_or s.words i 0) (let same = h.0 in
      omega (arith, near, same)) (get_or-any_default s.words i 0 (get_or s.words i 0) (let same = h.0 in
      omega (arith, near, same))))

  -- the rule holds after a load by which the view becomes w, if the invariant holds with w
  Holds-load : (w : View) → Reads (h.1.0) s.words s.homes (set s.views id w)
      → Holds width (stepped s i (get_or s.words i 0) id seat.1 w keeps)
  Holds-load w q = subst (λ (ws : List ℕ). Holds width (record {
    words = ws;
    homes = s.homes;
    views =
        set s.views id w;
  }))
      (sym words-loaded) (h.0, (h.1.0, q, h.1.2))

-- each number whose bit is 1 in the word i, which is one of the row k, has the bit 1 in the row k
bit_of-shown : (k g i : ℕ) (ws : List ℕ) → i ≡ 4 * g + k → k < 4 → (m : ℕ) → 0 < occurrences m
    (set_bits (64 * (i / 4)) (bit_at (get_or ws i 0)) 64) → bit_of k ws m ≡ 1
bit_of-shown k g i ws is small m h =
    let t = set_bits-true (64 * (i / 4)) (bit_at (get_or ws i 0)) 64 m h in let j : ℕ = t.0 in let l : j < 64 = t.1 in
    let at : m ≡ 64 * (i / 4) + j = t.2 in
    let a : 4 * (m / 64) + k ≡ i = omega (arith, is, small, at, l) in let b : m % 64 ≡ j = omega (arith, at, l) in
    ap (λ (y : ℕ). bit_at (get_or ws y 0) (m % 64)) a ∙ (ap (λ (y : ℕ). bit_at (get_or ws i 0) y) b ∙ t.3)

-- the rule allows a load of a word of claimed bits
pub Allows-look_claimed : (width slots id : ℕ) (seat : SeatState) (i g : ℕ) → i ≡ 4 * g + 0 → i < width
    → Allows (Holds width)
    slots id seat i (λ x. x) (ClaimedLookPost (step slots i 0 0 none) seat)
Allows-look_claimed width slots id seat i g is near s h wide e fits = let ms : List ℕ = set_bits (64 * (i / 4))
    (bit_at (get_or s.words i 0)) 64 in (
      with_claimed seat.0 ms,
      keeps,
      tt,
      Holds-load width s h id seat e i near (with_claimed seat.0 ms)
          (Reads-saw_claimed width s h id seat e ms (bit_of-shown 0 g i s.words is (omega arith))),
      (
        refl,
        λ n same t. subst (λ (y : ℕ). bit_at (get_or s.words y 0) (n % 64) ≡ 1) (sym same)
            (claimed-of_seen width s h id seat e n t),
      ),
    )

-- the rule allows a load of a word of filed bits
pub Allows-look_filed : (width slots id : ℕ) (seat : SeatState) (i g : ℕ) → i ≡ 4 * g + 1 → i < width
    → Allows (Holds width)
    slots id seat i (λ x. x) (FiledLookPost (step slots i 0 0 none) seat)
Allows-look_filed width slots id seat i g is near s h wide e fits = let ms : List ℕ = set_bits (64 * (i / 4))
    (bit_at (get_or s.words i 0)) 64 in (
      with_filed seat.0 ms,
      keeps,
      tt,
      Holds-load width s h id seat e i near (with_filed seat.0 ms)
          (Reads-saw_filed width s h id seat e ms (bit_of-shown 1 g i s.words is (omega arith))),
      (
        refl,
        (λ n same t. subst (λ (y : ℕ). bit_at (get_or s.words y 0) (n % 64) ≡ 1) (sym same)
            (filed-of_seen width s h id seat e n t)),
        λ n same t. subst (λ (y : ℕ). bit_at (get_or s.words y 0) (n % 64) ≡ 1)
            (sym same) (filed-of_taken width s h id seat e n (taken-of_seen width s h id seat e n t)),
      ),
    )

-- the rule allows a load of a word of taken bits
pub Allows-look_taken : (width slots id : ℕ) (seat : SeatState) (i g : ℕ) → i ≡ 4 * g + 2 → i < width
    → Allows (Holds width)
    slots id seat i (λ x. x) (TakenLookPost (step slots i 0 0 none) seat)
Allows-look_taken width slots id seat i g is near s h wide e fits = let ms : List ℕ = set_bits (64 * (i / 4))
    (bit_at (get_or s.words i 0)) 64 in (
      with_taken seat.0 ms,
      keeps,
      tt,
      Holds-load width s h id seat e i near (with_taken seat.0 ms)
          (Reads-saw_taken width s h id seat e ms (bit_of-shown 2 g i s.words is (omega arith))),
      (
        refl,
        λ n same t. subst (λ (y : ℕ). bit_at (get_or s.words y 0) (n % 64) ≡ 1) (sym same)
            (taken-of_seen width s h id seat e n t),
      ),
    )

-- the rule allows a load that changes nothing, and it satisfies `CountPost`
pub Allows-count : (width slots id : ℕ) (seat : SeatState) → 0 < width → Allows (Holds width) slots id seat 0 (λ x. x)
    (CountPost (step slots 0 0 0 none) seat)
Allows-count width slots id seat near s h wide e fits =
    let q = h.1.1 in let L : ℕ = length s.homes in let once = view_has_no_duplicates L (bit_of 3 s.words)
    (bit_of 0 s.words)
    (bit_of 1 s.words) (bit_of 2 s.words) (h.1.0) (IsEmpty s.homes) (IsFilled s.homes) s.views q id seat.0 e in
    let a = list_length_bound L (bit_of 3 s.words) (bit_of 0 s.words) (bit_of 1 s.words) (bit_of 2 s.words) (h.1.0)
    (IsEmpty s.homes) (IsFilled s.homes) s.views q id seat.0 e in
    let b = takes_length_bound L (bit_of 3 s.words) (bit_of 0 s.words) (bit_of 1 s.words) (bit_of 2 s.words) (h.1.0)
    (IsEmpty s.homes) (IsFilled s.homes) s.views q id seat.0 e in
    let x = sum_below-limit (bit_of 1 s.words) L (bit_of-at_most_one 1 s.words) in let y =
    sum_below-limit (bit_of 2 s.words) L
    (bit_of-at_most_one 2 s.words) in (
      seat.0,
      keeps,
      tt,
      Holds-load width s h id seat e 0 near seat.0 (subst (λ (vs : List View). Reads (h.1.0) s.words s.homes vs)
          (sym (set_again s.views id seat.0 e)) q),
      (
        refl,
        once.0,
        once.1,
        once.2,
        omega (arith, a, x, wide),
        omega (arith, b, y, wide),
        filed_and_taken_agree L (bit_of 3 s.words) (bit_of 0 s.words) (bit_of 1 s.words) (bit_of 2 s.words) (h.1.0)
            (IsEmpty s.homes) (IsFilled s.homes) s.views q id seat.0 e,
      ),
    )

-- returning the emptied slot of a number that the seat took keeps the invariant
pub Allows-give : (width slots id : ℕ) (seat : SeatState) (n : ℕ) → 0 < width → n < slots → 0 < occurrences n
    (numbers seat.0.takes) → seat.1 ≡ (n, None) ∷ [] → Allows (Holds width) slots id seat 0 (λ x. x)
    (GivePost (step slots 0 0 0 none) seat)
Allows-give width slots id seat n wide_enough low mine has s h wide e fits =
    let q = h.1.1 in let K : Contents_of = h.1.0 in let L : ℕ = length s.homes in let out : Option Block = None in
    let homes' : Homes = set s.homes n (some out) in let near : n < length s.homes = omega (arith, low, wide) in
    let t1 = is_taken L (bit_of 3 s.words) (bit_of 0 s.words) (bit_of 1 s.words) (bit_of 2 s.words) K (IsEmpty s.homes)
    (IsFilled s.homes) s.views q id seat.0 e n mine in
    let rule : BoardInvariant L (bit_of 3 s.words) (bit_of 0 s.words) (bit_of 1 s.words) (bit_of 2 s.words) K
    (IsEmpty homes')
    (IsFilled homes') s.views = give_preserves L (bit_of 3 s.words) (bit_of 0 s.words) (bit_of 1 s.words)
    (bit_of 2 s.words) K (IsEmpty s.homes) (IsFilled s.homes) s.views q (IsEmpty homes') (IsFilled homes') n t1
    (λ m ne empty l. set_else s.homes n m (some out) ne
    ∙ empty (subst (λ (y : ℕ). m < y) (length-set s.homes n (some out)) l)) (λ m x ne full. set_else s.homes n m
    (some out) ne ∙ full) (λ m x ne full. sym (set_else s.homes n m (some out) ne) ∙ full)
    (λ x full. empty-not_filled x (sym (set_here s.homes n (some out) near) ∙ full)) in
    let sized : Reads K s.words homes' s.views = BoardInvariant-limit K L (length homes') (bit_of 3 s.words)
    (bit_of 0 s.words)
    (bit_of 1 s.words) (bit_of 2 s.words) (IsEmpty homes') (IsFilled homes') s.views (length-set s.homes n (some out))
    rule in
    let held : Holds width (record { words = s.words; homes = homes'; views = s.views }) = (h.0, (K, sized, h.1.2)) in
    let at_views : Holds width (record { words = s.words; homes = homes'; views = set s.views id seat.0 }) = subst
    (λ (vs : List View). Holds width (record { words = s.words; homes = homes'; views = vs }))
    (sym (set_again s.views id seat.0 e)) held in
    let at_words : Holds width (record {
      words = set s.words 0 (get_or s.words 0 0);
      homes = homes';
      views = set s.views
          id seat.0;
    }) = subst
    (λ (ws : List ℕ). Holds width (record { words = ws; homes = homes'; views = set s.views id seat.0 }))
    (sym (words-loaded width s h id seat e 0 wide_enough)) at_views in (
      seat.0,
      gives,
      tt,
      subst (λ (cs : List (ℕ × Option Block)). Holds width (stepped s 0 (get_or s.words 0 0) id cs
          seat.0 gives)) (sym has) at_words,
      refl,
    )

-- n slots that are in the table and empty
abbrev vacant : ℕ → Homes
vacant n = map some (replicate n None)

-- there are n slots in `vacant n`
length-vacant : (n : ℕ) → length (vacant n) ≡ n
length-vacant zero = refl
length-vacant (suc n) = ap suc (length-vacant n)

-- each slot of `vacant n` is in the table and empty
get_elem-vacant : (n i : ℕ) → i < n → get_elem? (vacant n) i ≡ some (some None)
get_elem-vacant zero i l = absurd (omega arith)
get_elem-vacant (suc n) zero l = refl
get_elem-vacant (suc n) (suc i) l = get_elem-vacant n i (omega arith)

-- no slot of `vacant n` has a block
vacant-not_filled : (n i : ℕ) (b : Block) → get_elem? (vacant n) i ≡ some (some (Some b)) → ⊥
vacant-not_filled zero i b e = some-ne-none (some (Some b)) (sym e)
vacant-not_filled (suc n) zero b e = empty-not_filled b e
vacant-not_filled (suc n) (suc i) b e = vacant-not_filled n i b e

-- no number has a content
abbrev no_contents : Contents_of
no_contents n = None

-- the rule holds of a table whose words are 0 and whose slots are empty, with the first bench
pub Holds-open : (width total : ℕ) (ws : List ℕ) → ws ≡ replicate width 0 → length ws ≡ width
    → Holds width (record { words = ws; homes = vacant total; views = first_view ∷ [] })
Holds-open width total ws is long = let blank : (k m : ℕ) → bit_of k ws m ≡ 0 =
    λ k m. ap (λ (y : List ℕ). bit_of k y m) is
    ∙ bit_of-zeros k width m in (
      long,
      (
        no_contents,
        record {
          draws = record {
            bit = bit_of-at_most_one 3 ws;
            won_once = λ d. sym (blank 3 d);
            found = each-of_first_view
                (λ v. (d : ℕ) → 0 < occurrences d v.found → bit_of 3 ws d ≡ 1) (λ d h. absurd (omega arith));
          };
          shares = ShareInvariant-first;
          stages = record {
            bit = bit_of-at_most_one 0 ws;
            in_range = λ m h. absurd (omega (arith, h, blank 0 m));
            taken_is_filed = λ m. omega (arith, blank 2 m);
            pending_once = λ m. omega (arith, blank 0 m, blank 1 m);
            filed_once = λ m. sym (blank 1 m);
            taken_once = λ m. sym (blank 2 m);
            saw_claimed = each-of_first_view (λ v. (n : ℕ) → 0 < occurrences n v.claimed → bit_of 0 ws n ≡ 1)
                (λ d h. absurd (omega arith));
            saw_filed = each-of_first_view (λ v. (n : ℕ) → 0 < occurrences n v.filed → bit_of 1 ws n ≡ 1)
                (λ d h. absurd (omega arith));
            saw_taken = each-of_first_view (λ v. (n : ℕ) → 0 < occurrences n v.taken → bit_of 2 ws n ≡ 1)
                (λ d h. absurd (omega arith));
          };
          contents = record {
            free_is_empty = λ m _ l. get_elem-vacant total m (omega (arith, l, length-vacant total));
            unfiled_is_none = λ m _. refl;
            filed_is_stored = λ m z. absurd (omega (arith, z, blank 1 m));
            stored_is_filed = λ m b t. absurd (vacant-not_filled total m b t);
            listed = each-of_first_view (λ v. (n : ℕ) (b : Block) → HasPair v.list n b → no_contents n ≡ Some b)
                (λ n b h. absurd h);
            took = each-of_first_view (λ v. (n : ℕ) (b : Block) → HasPair v.takes n b → no_contents n ≡ Some b)
                (λ n b h. absurd h);
          };
        },
        λ n b none. absurd (None-not_Some b none),
      ),
    )

-- the rule allows a bench to be split
pub Splits-view : (width id : ℕ) (v : View) → Splits (Holds width) id v (kept_view v) (split_view v)
Splits-view width id v s (wide, (k, q, own)) e
    = (
      wide,
      (
        k,
        split_preserves (length s.homes) (bit_of 3 s.words) (bit_of 0 s.words) (bit_of 1 s.words) (bit_of 2 s.words)
            k (IsEmpty s.homes) (IsFilled s.homes) s.views q id v e,
        own,
      ),
    )

-- the rule allows two benches to be joined
pub Joins-views : (width id other : ℕ) (v w : View) → Joins (Holds width) id v other w (joint_view v w) empty_view
Joins-views width id other v w s (wide, (k, q, own)) e ne f
    = (
      wide,
      (
        k,
        join_preserves (length s.homes) (bit_of 3 s.words) (bit_of 0 s.words) (bit_of 1 s.words) (bit_of 2 s.words) k
            (IsEmpty s.homes) (IsFilled s.homes) s.views q id v e other w ne
            (sym (set_else s.views id other (joint_view v w) ne)
            ∙ f),
        own,
      ),
    )
