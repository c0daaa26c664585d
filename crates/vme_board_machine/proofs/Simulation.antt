-- Each step of a board is the machine's step of its event.
use Rattle.std.proofs.Common.{◌≡◌, ℕ, zero, suc, ◌+◌, ◌*◌, ◌/◌, ◌%◌, ◌<◌, ◌≤◌, ◌≢◌, ◌⊎◌, List, [], ◌∷◌, ◌++◌, length}
use Rattle.std.proofs.Common.{length-append, get_or, set, sym, refl, ap, ◌∙◌, subst, arith, bit_or, length-set, ⊎_elim}
use Rattle.std.proofs.Common.{inl, inr, Option, Some, None, cond, ◌==◌, replicate, map}
use mathlib.Core.Option as maybe
use mathlib.Core.Option.{some, some-injective, some-ne-none}
use mathlib.Core.Logic.{dite}
use native.Mathlib.Decide.{ℕ_discrete}
use lib.ListN.{get_elem?}
use Rattle.std.specs.Int.{bit_at}
use Rattle.atomic_table.specs.Table.{Act, stepped, homes_after}
use Rattle.atomic_table.proofs.Lists.{at_set, set_again, set_else, set_here}
use Rattle.vme_trace.specs.declared.block.Block.{Block}
use Rattle.vme_core.specs.declared.stage.Stage.{Stage}
use Rattle.vme_core.specs.declared.stage.Stage.TheVariants.{Free, Claimed, Filed, Taken}
use Rattle.vme_core.specs.declared.view.View.{View}
use Rattle.vme_core.specs.Counting.{occurrences, numbers, set_bits, update}
use Rattle.vme_core.specs.Stages.{claimed_bit, filed_bit, taken_bit}
use Rattle.vme_core.specs.Views.{after_draw, with_found, after_claim, after_filing, after_take, with_claimed}
use Rattle.vme_core.specs.Views.{with_filed, with_taken, kept_view, split_view, joint_view, empty_view, first_view}
use Rattle.vme_core.specs.BoardInvariant.{Invariant}
use Rattle.vme_core.specs.Machine.{Core, BoardEvent, split, join, Happens, IsRun, Slot, empty, away, filled, WordRow}
use Rattle.vme_core.specs.Machine.{claimed_row, filed_row, taken_row, BenchProgress, idle, has_claimed, has_put}
use Rattle.vme_core.specs.Machine.{has_taken, has_lifted, HasView, with_views, after_claim_step, after_file_step}
use Rattle.vme_core.specs.Machine.{after_draw_step, after_take_step, after_look, start}
use Rattle.vme_core.proofs.Sums.{update-same, update-other, each-by_cases, occurrences-cons_same}
use Rattle.vme_core.proofs.InvariantSteps.{is_pending}
use Rattle.vme_core.proofs.Runs.{Invariant-event}
use Rattle.vme_board.specs.Words.{Homes, bit_of, mask_of, IsWideFor}
use Rattle.vme_board.specs.Postconditions.{SeatState, ClaimPost, DrawPost, FilePost, TakePost, GivePost}
use Rattle.vme_board.specs.Postconditions.{CountPost}
use Rattle.vme_board.proofs.Bits.{bit_of-at_most_one, marked, bit_of-marked, bit_of-other_row, bit_of-other_number}
use Rattle.vme_board.proofs.Bits.{bit_of-marked_again, word_index-within, bit_of-zeros}
use Rattle.vme_board_machine.specs.Steps.{BoardState, IsBoardRun, TableState, Sets, Loads, Takes, IsAt}
use Rattle.vme_board_machine.specs.Steps.{opened, after_claiming, after_taking, number_of, LookPost}
use Rattle.vme_board_machine.specs.ReadsAs.{ReadsAs, IsViewAt, home_of}
use Rattle.vme_board_machine.proofs.Acts.{get_elem-within, homes_after-left, homes_after-given, TookHome-taken}

-- setting an element to the value that it has changes nothing
set-same_value : (l : List ℕ) (j : ℕ) → set l j (get_or l j 0) ≡ l
set-same_value [] j = refl
set-same_value (x ∷ xs) zero = refl
set-same_value (x ∷ xs) (suc j) = ap (λ (l : List ℕ). x ∷ l) (set-same_value xs j)

-- slots with a block that are equal have the same block
filled-injective : (b c : Block) → some (some (Some b)) ≡ some (some (Some c)) → b ≡ c
filled-injective b c e = cc

-- a bench has one view
get_elem-one_view : (a b : View) (o : maybe.Option View) → o ≡ some a → o ≡ some b → a ≡ b
get_elem-one_view a b o e f = some-injective a b (sym e ∙ f)

-- a stage whose bit `claimed` is 0 is Free
Free-by_bit : (a : Stage) → claimed_bit a ≡ 0 → a ≡ Free
Free-by_bit Free e = refl
Free-by_bit Claimed e = absurd (omega (arith, e))
Free-by_bit Filed e = absurd (omega (arith, e))
Free-by_bit Taken e = absurd (omega (arith, e))

-- an element after a was added is one of before, or a at the end
get_elem-of_push : {A : Type 0} (l : List A) (a b : A) (j : ℕ) → get_elem? (l ++ a ∷ []) j ≡ some b
    → (get_elem? l j ≡ some b) ⊎
    ((length l ≤ j) × (a ≡ b))
get_elem-of_push [] a b zero e = inr (omega arith, some-injective a b e)
get_elem-of_push [] a b (suc j) e = absurd (some-ne-none b (sym e))
get_elem-of_push (x ∷ xs) a b zero e = inl e
get_elem-of_push (x ∷ xs) a b (suc j) e = ⊎_elim (λ (q : get_elem? xs j ≡ some b). inl q)
    (λ (q : (length xs ≤ j) × (a ≡ b)).
    let l = q.0 in inr (omega (arith, l), q.1)) (get_elem-of_push xs a b j e)

-- equal bits have the same numbers whose bit is 1
set_bits-same : (first : ℕ) (f g : ℕ → ℕ) (count : ℕ) → ((k : ℕ) → k < count → f k ≡ g k) → set_bits first f count
    ≡ set_bits first g count
set_bits-same first f g zero same = refl
set_bits-same first f g (suc k) same =
    ap (λ (x : ℕ). cond (x == 1) ((first + k) ∷ set_bits first f k) (set_bits first f k)) (same k (omega arith))
    ∙ ap (λ (l : List ℕ). cond (g k == 1) ((first + k) ∷ l) l)
    (set_bits-same first f g k (λ j small. same j (omega (arith, small))))

-- a view with the same pending number and takes may be that of a bench at the same point
IsViewAt-same : (w v : View) (p : BenchProgress) → w.pending ≡ v.pending → w.takes ≡ v.takes → IsViewAt v p
    → IsViewAt w p
IsViewAt-same w v idle a b (c, d) = (a ∙ c, tt)
IsViewAt-same w v (has_claimed n x) a b (c, d) = (a ∙ c, tt)
IsViewAt-same w v (has_put n x) a b (c, d) = (a ∙ c, tt)
IsViewAt-same w v (has_taken n x) a b (c, d) = (
  a ∙ c,
  subst (λ (l : List (ℕ × Block)). 0 < occurrences n (numbers l))
      (sym b) d,
)
IsViewAt-same w v (has_lifted n x) a b (c, d) = (
  a ∙ c,
  subst (λ (l : List (ℕ × Block)). 0 < occurrences n (numbers l))
      (sym b) d,
)

module _ (total draws : ℕ) (s : BoardState) (m : Core) (sh : ReadsAs total draws s m) where
  -- the words of the table
  abbrev W : List ℕ
  W = s.table.words

  -- the slots of the table
  abbrev H : Homes
  H = s.table.homes

  -- the views of the benches
  abbrev V : List View
  V = s.table.views

  -- the event is one of the machine from m, and the state t corresponds to the one after it
  abbrev Goal : BoardEvent → BoardState → Type 0
  Goal e t = (n : Core) × Happens total draws m e n × ReadsAs total draws t n

  -- a bench has the same view in the machine's state
  HasView-of_table : (i : ℕ) (v : View) → get_elem? V i ≡ some v → HasView m i v
  HasView-of_table i v e = subst (λ (vs : List View). get_elem? vs i ≡ some v) (sym sh.views) e

  -- a bench is at the same point in the machine's state
  progress-of_table : (i : ℕ) (p : BenchProgress) → s.progress i ≡ p → m.progress i ≡ p
  progress-of_table i p e = sh.progress i ∙ e

  -- after the view i became w, which may be that of the bench i, each view may be that of its bench, if no other bench
  -- moved
  IsViewAt-after_set : (i : ℕ) (v w : View) (pg : ℕ → BenchProgress) → get_elem? V i ≡ some v → IsViewAt w (pg i)
      → ((j : ℕ) → j ≢ i → pg j ≡ s.progress j)
      → (j : ℕ) (u : View) → get_elem? (set V i w) j ≡ some u → IsViewAt u (pg j)
  IsViewAt-after_set i v w pg e own others j u f = ⊎_elim
      (λ (q : (j ≡ i) × (w ≡ u)). subst (λ (y : ℕ). IsViewAt u (pg y)) (sym q.0)
      (subst (λ (y : View). IsViewAt y (pg i)) q.1 own))
      (λ (q : (j ≢ i) × (get_elem? V j ≡ some u)). subst (IsViewAt u) (sym (others j q.0)) (sh.calls j u q.1))
      (at_set V i j w u f)

  -- `ReadsAs` holds after a step by which the view of the bench i becomes w, if the other fields do
  ReadsAs-one_bench : (t : BoardState) (i : ℕ) (v w : View) (ws : List ℕ) (hs : Homes) (stage : ℕ → Stage)
      (content : ℕ → Option Block) (home : ℕ → Slot) (drawn : ℕ → ℕ) (pg : ℕ → BenchProgress)
      → get_elem? V i ≡ some v → t.table ≡ record { words = ws; homes = hs; views = set V i w } → length ws ≡ length W
      → length hs ≡ length H
      → ((d : ℕ) → drawn d ≡ bit_of 3 ws d) → ((n : ℕ) → claimed_bit (stage n) ≡ bit_of 0 ws n)
      → ((n : ℕ) → filed_bit (stage n) ≡ bit_of 1 ws n) → ((n : ℕ) → taken_bit (stage n) ≡ bit_of 2 ws n)
      → ((n : ℕ) → n < total → get_elem? hs n ≡ some (home_of (home n)))
      → ((j : ℕ) → pg j ≡ t.progress j) → IsViewAt w (t.progress i) → ((j : ℕ) → j ≢ i → t.progress j ≡ s.progress j)
      → ReadsAs total draws t (record {
        stage = stage;
        content = content;
        home = home;
        drawn = drawn;
        progress = pg;
        views
            = set m.views i w;
      })
  ReadsAs-one_bench t i v w ws hs stage content home drawn pg e is wide long ds cs fs ts homes same own others =
      let words : t.table.words ≡ ws = ap (λ (x : TableState). x.words) is in let at : t.table.homes
      ≡ hs = ap (λ (x : TableState). x.homes) is in let views : t.table.views
      ≡ set V i w = ap (λ (x : TableState). x.views) is in
      let size : length t.table.words ≡ length W = ap length words ∙ wide in record {
        slots = ap length at ∙ (long ∙ sh.slots);
        numbers_fit = subst (λ (y : ℕ). IsWideFor y total) (sym size) sh.numbers_fit;
        draws_fit = subst (λ (y : ℕ). IsWideFor y draws) (sym size) sh.draws_fit;
        drawn = λ d. subst (λ (y : List ℕ). drawn d ≡ bit_of 3 y d) (sym words) (ds d);
        claimed = λ n. subst (λ (y : List ℕ). claimed_bit (stage n) ≡ bit_of 0 y n) (sym words) (cs n);
        filed = λ n. subst (λ (y : List ℕ). filed_bit (stage n) ≡ bit_of 1 y n) (sym words) (fs n);
        taken = λ n. subst (λ (y : List ℕ). taken_bit (stage n) ≡ bit_of 2 y n) (sym words) (ts n);
        homes = λ n low. subst (λ (y : Homes). get_elem? y n ≡ some (home_of (home n))) (sym at) (homes n low);
        views = ap (λ (vs : List View). set vs i w) sh.views ∙ sym views;
        progress = same;
        calls = λ j u f. IsViewAt-after_set i v w t.progress e own others j u
            (subst (λ (vs : List View). get_elem? vs j ≡ some u) views f);
        unmade = λ j far. let longer : length t.table.views ≡ length V = ap length views ∙ length-set V i w in
            let near = get_elem-within V i v e in others j (λ q. omega (arith, far, longer, near, q))
            ∙ sh.unmade j (omega (arith, far, longer));
      }

  -- `ReadsAs` holds after a step that changes one view, but not its pending number or its takes, and no bit, slot or
  -- progress
  ReadsAs-saw_more : (t : BoardState) (i : ℕ) (v w : View) (ws : List ℕ) → get_elem? V i ≡ some v → t.table
      ≡ record { words = ws; homes = H; views = set V i w } → length ws ≡ length W
      → ((k n : ℕ) → k < 4 → bit_of k ws n ≡ bit_of k W n) → ((j : ℕ) → t.progress j ≡ s.progress j) → w.pending
      ≡ v.pending → w.takes ≡ v.takes
      → ReadsAs total draws t (with_views m (set m.views i w))
  ReadsAs-saw_more t i v w ws e is wide bits same a b = ReadsAs-one_bench t i v w ws H m.stage m.content m.home m.drawn
      m.progress e is wide
      refl
      (λ d. sh.drawn d ∙ sym (bits 3 d (omega arith))) (λ n. sh.claimed n ∙ sym (bits 0 n (omega arith)))
      (λ n. sh.filed n ∙ sym (bits 1 n (omega arith))) (λ n. sh.taken n ∙ sym (bits 2 n (omega arith)))
      sh.homes (λ j. sh.progress j ∙ sym (same j)) (subst (IsViewAt w) (sym (same i))
      (IsViewAt-same w v (s.progress i) a b (sh.calls i v e))) (λ j ne. same j)

  -- setting a bit that is 1 changes no bit of any row
  bits-marked_again : (k n : ℕ) → k < 4 → 4 * (n / 64) + k < length W → bit_of k W n ≡ 1 → (k' j : ℕ) → k' < 4
      → bit_of k' (marked k W n) j ≡ bit_of k' W j
  bits-marked_again k n small near is k' j small' = dite (ℕ_discrete k' k)
      (λ e. subst (λ (y : ℕ). bit_of y (marked k W n) j ≡ bit_of y W j) (sym e) (bit_of-marked_again k W n near is j))
      (λ ne. bit_of-other_row k W n near k' small small' ne j)

  -- the bits of a row are those of the stages, after one stage changed
  bits-same_stage : (f : Stage → ℕ) (k : ℕ) (ws : List ℕ) (n : ℕ) (new : Stage) → f new ≡ f (m.stage n)
      → ((j : ℕ) → bit_of k ws j ≡ bit_of k W j) → ((j : ℕ) → f (m.stage j) ≡ bit_of k W j) → (j : ℕ)
      → f (update m.stage n new j) ≡ bit_of k ws j
  bits-same_stage f k ws n new same bits was = each-by_cases n (λ j. f (update m.stage n new j) ≡ bit_of k ws j)
      (ap f (update-same m.stage n new) ∙ (same ∙ (was n ∙ sym (bits n))))
      (λ j ne. ap f (update-other m.stage n new j ne) ∙ (was j ∙ sym (bits j)))

  -- the bits of a row are those of the stages, after the stage of n changed and its bit was set
  bits-set_stage : (f : Stage → ℕ) (k : ℕ) (n : ℕ) (new : Stage) → f new ≡ 1 → 4 * (n / 64) + k < length W
      → ((j : ℕ) → f (m.stage j) ≡ bit_of k W j) → (j : ℕ) → f (update m.stage n new j) ≡ bit_of k (marked k W n) j
  bits-set_stage f k n new one near was = each-by_cases n (λ j. f (update m.stage n new j) ≡ bit_of k (marked k W n) j)
      (ap f (update-same m.stage n new) ∙ (one ∙ sym (bit_of-marked k W n near)))
      (λ j ne. ap f (update-other m.stage n new j ne) ∙ (was j ∙ sym (bit_of-other_number k W n near j ne)))

  -- the bits of another row don't change after the bit of n in the row k was set
  bits-other_row : (k n : ℕ) → 4 * (n / 64) + k < length W → k < 4 → (k' : ℕ) → k' < 4 → k' ≢ k → (j : ℕ)
      → bit_of k' (marked k W n) j ≡ bit_of k' W j
  bits-other_row k n near small k' small' ne j = bit_of-other_row k W n near k' small small' ne j

  -- the words have a bit in each row for each number
  word_index-number : (n k : ℕ) → n < total → k < 4 → 4 * (n / 64) + k < length W
  word_index-number n k low small = word_index-within (length W) total n k low sh.numbers_fit.0 sh.numbers_fit.1 small

  -- the words have a bit for each draw
  word_index-draw : (d : ℕ) → d < draws → 4 * (d / 64) + 3 < length W
  word_index-draw d low = word_index-within (length W) draws d 3 low sh.draws_fit.0 sh.draws_fit.1 (omega arith)

  -- the table after a step has the slots hs after its act, and the seat's new view w
  table-after_step : (tb : TableState) (j x i : ℕ) (c c' : List (ℕ × Option Block)) (after : SeatState)
      (a : Act (Option Block))
      (w : View) (hs : Homes) → tb ≡ stepped s.table j x i c after.0 a → after ≡ (w, c') → homes_after H c a ≡ hs
      → tb ≡ record { words = set W j x; homes = hs; views = set V i w }
  table-after_step tb j x i c c' after a w hs is told homes = is
      ∙ (λ k. record { words = set W j x; homes = homes k; views = set V i (told k).0 })

  -- a bench in no call has no number pending
  pending-idle : (i : ℕ) (v : View) → IsAt s i v idle → v.pending ≡ []
  pending-idle i v (e, p) = (subst (IsViewAt v) p (sh.calls i v e)).0

  -- `ReadsAs` holds after a claim
  ReadsAs-claim : (t : BoardState) (i n : ℕ) (b : Block) (v : View) (after : SeatState) → n < total → IsAt s i v idle
      → Sets ClaimPost s i v idle 0 n after t.table → (x : ℕ) → claimed_bit (m.stage n) ≡ x
      → t.progress ≡ update s.progress i (after_claiming n b x) → ReadsAs total draws t (after_claim_step m i n b v x)
  ReadsAs-claim t i n b v after low (e, p) st zero is pg =
      let near : 4 * (n / 64) + 0 < length W = word_index-number n 0 low (omega arith) in
      let told = (st.post n (record { word = refl; mask = refl })).0 (sym (sh.claimed n) ∙ is) in
      let now : after ≡ (after_claim v n, (n, None) ∷ []) = told.1 in
      let out = TookHome-taken H st.act n None st.valid (ap (λ (y : SeatState). y.1) (sym now) ∙ st.slots) in
      let free : m.stage n ≡ Free = Free-by_bit (m.stage n) is in
      let pt : (j : ℕ) → update m.progress i (has_claimed n b) j ≡ t.progress j = λ j. ap
      (λ (y : BenchProgress). cond (j == i) (has_claimed n b) y) (sh.progress j) ∙ ap (λ (f : ℕ → BenchProgress). f j)
      (sym pg) in
      ReadsAs-one_bench t i v (after_claim v n) (marked 0 W n) (homes_after H [] st.act)
      (update m.stage n Claimed) m.content
      (update m.home n away) m.drawn (update m.progress i (has_claimed n b)) e
      (table-after_step t.table (4 * (n / 64) + 0) (bit_or (get_or W (4 * (n / 64) + 0) 0) (mask_of n)) i []
      ((n, None) ∷ [])
      after st.act (after_claim v n) (homes_after H [] st.act) st.table now refl)
      (length-set W (4 * (n / 64) + 0) _) out.long
      (λ d. sh.drawn d ∙ sym (bits-other_row 0 n near (omega arith) 3 (omega arith) (λ z. omega arith) d))
      (bits-set_stage claimed_bit 0 n Claimed refl near sh.claimed)
      (bits-same_stage filed_bit 1 (marked 0 W n) n Claimed (ap filed_bit (sym free))
      (bits-other_row 0 n near (omega arith) 1 (omega arith)
      (λ z. omega arith)) sh.filed)
      (bits-same_stage taken_bit 2 (marked 0 W n) n Claimed (ap taken_bit (sym free))
      (bits-other_row 0 n near (omega arith) 2 (omega arith)
      (λ z. omega arith)) sh.taken)
      (each-by_cases n (λ j. j < total → get_elem? (homes_after H [] st.act) j
      ≡ some (home_of (update m.home n away j)))
      (λ l. out.out ∙ ap (λ (y : Slot). some (home_of y)) (sym (update-same m.home n away)))
      (λ j ne l. out.others j ne ∙ (sh.homes j l ∙ ap (λ (y : Slot). some (home_of y))
      (sym (update-other m.home n away j ne)))))
      pt (subst (IsViewAt (after_claim v n)) (sym (update-same m.progress i (has_claimed n b)) ∙ pt i) (refl, tt))
      (λ j ne. ap (λ (f : ℕ → BenchProgress). f j) pg ∙ update-other s.progress i (has_claimed n b) j ne)
  ReadsAs-claim t i n b v after low (e, p) st (suc zero) is pg =
      let near : 4 * (n / 64) + 0 < length W = word_index-number n 0 low (omega arith) in
      let now : after ≡ (with_claimed v (n ∷ []), []) = (st.post n (record { word = refl; mask = refl })).1
      (sym (sh.claimed n) ∙ is) in
      ReadsAs-saw_more t i v (with_claimed v (n ∷ [])) (marked 0 W n) e
      (table-after_step t.table (4 * (n / 64) + 0) (bit_or (get_or W (4 * (n / 64) + 0) 0) (mask_of n)) i [] [] after
      st.act
      (with_claimed v (n ∷ [])) H st.table now (homes_after-left H st.act st.valid
      (ap (λ (y : SeatState). y.1) (sym now)
      ∙ st.slots)))
      (length-set W (4 * (n / 64) + 0) _) (bits-marked_again 0 n (omega arith) near (sym (sh.claimed n) ∙ is))
      (each-by_cases i (λ j. t.progress j ≡ s.progress j) (ap (λ (f : ℕ → BenchProgress). f i) pg
      ∙ (update-same s.progress i idle ∙ sym p)) (λ j ne. ap (λ (f : ℕ → BenchProgress). f j) pg
      ∙ update-other s.progress i idle j ne)) refl refl
  ReadsAs-claim t i n b v after low at st (suc (suc x)) is pg =
      absurd (omega (arith, is, sh.claimed n, bit_of-at_most_one 0 W n))

  -- `ReadsAs` holds after a draw
  ReadsAs-draw : (t : BoardState) (i d : ℕ) (v : View) (after : SeatState) → d < draws → IsAt s i v idle
      → Sets DrawPost s i v idle 3 d after t.table → (x : ℕ) → m.drawn d ≡ x → t.progress ≡ s.progress
      → ReadsAs total draws t (after_draw_step m i d v x)
  ReadsAs-draw t i d v after low (e, p) st zero is pg =
      let near : 4 * (d / 64) + 3 < length W = word_index-draw d low in
      let now : after ≡ (after_draw v d, []) = ((st.post d (record { word = refl; mask = refl })).0 (sym (sh.drawn d)
      ∙ is)).2 in
      let same : (j : ℕ) → t.progress j ≡ s.progress j = λ j. ap (λ (f : ℕ → BenchProgress). f j) pg in
      ReadsAs-one_bench t i v (after_draw v d) (marked 3 W d) H m.stage m.content m.home (update m.drawn d 1) m.progress
      e
      (table-after_step t.table (4 * (d / 64) + 3) (bit_or (get_or W (4 * (d / 64) + 3) 0) (mask_of d)) i [] [] after
      st.act
      (after_draw v d) H st.table now (homes_after-left H st.act st.valid (ap (λ (y : SeatState). y.1) (sym now)
      ∙ st.slots)))
      (length-set W (4 * (d / 64) + 3) _) refl
      (each-by_cases d (λ j. update m.drawn d 1 j ≡ bit_of 3 (marked 3 W d) j) (update-same m.drawn d 1
      ∙ sym (bit_of-marked 3 W d near)) (λ j ne. update-other m.drawn d 1 j ne
      ∙ (sh.drawn j ∙ sym (bit_of-other_number 3 W d near j ne))))
      (λ n. sh.claimed n ∙ sym (bits-other_row 3 d near (omega arith) 0 (omega arith) (λ z. omega arith) n))
      (λ n. sh.filed n ∙ sym (bits-other_row 3 d near (omega arith) 1 (omega arith) (λ z. omega arith) n))
      (λ n. sh.taken n ∙ sym (bits-other_row 3 d near (omega arith) 2 (omega arith) (λ z. omega arith) n))
      sh.homes (λ j. sh.progress j ∙ sym (same j)) (subst (IsViewAt (after_draw v d)) (sym (same i))
      (IsViewAt-same (after_draw v d) v (s.progress i) refl refl (sh.calls i v e))) (λ j ne. same j)
  ReadsAs-draw t i d v after low (e, p) st (suc zero) is pg =
      let near : 4 * (d / 64) + 3 < length W = word_index-draw d low in
      let now : after ≡ (with_found v d, []) = (st.post d (record { word = refl; mask = refl })).1 (sym (sh.drawn d)
      ∙ is) in
      ReadsAs-saw_more t i v (with_found v d) (marked 3 W d) e
      (table-after_step t.table (4 * (d / 64) + 3) (bit_or (get_or W (4 * (d / 64) + 3) 0) (mask_of d)) i [] [] after
      st.act
      (with_found v d) H st.table now (homes_after-left H st.act st.valid (ap (λ (y : SeatState). y.1) (sym now)
      ∙ st.slots)))
      (length-set W (4 * (d / 64) + 3) _) (bits-marked_again 3 d (omega arith) near (sym (sh.drawn d) ∙ is))
      (λ j. ap (λ (f : ℕ → BenchProgress). f j) pg) refl refl
  ReadsAs-draw t i d v after low at st (suc (suc x)) is pg =
      absurd (omega (arith, is, sh.drawn d, bit_of-at_most_one 3 W d))

  -- the numbers whose bit is 1 in a word are those of which the stages say so
  set_bits-word : (f : Stage → ℕ) (k g : ℕ) → k < 4 → ((j : ℕ) → f (m.stage j) ≡ bit_of k W j)
      → set_bits (64 * ((4 * g + k) / 4)) (bit_at (get_or W (4 * g + k) 0)) 64 ≡ set_bits (64 * g)
      (λ j. f (m.stage (64 * g + j))) 64
  set_bits-word f k g small was = let word : (4 * g + k) / 4 ≡ g = omega (arith, small) in
      ap (λ (y : ℕ). set_bits (64 * y) (bit_at (get_or W (4 * g + k) 0)) 64) word
      ∙ set_bits-same (64 * g) (bit_at (get_or W (4 * g + k) 0)) (λ j. f (m.stage (64 * g + j))) 64 (λ j low.
      let at : (64 * g + j) / 64 ≡ g = omega (arith, low) in let place : (64 * g + j) % 64 ≡ j = omega (arith, low) in
      sym (was (64 * g + j) ∙ (ap (λ (y : ℕ). bit_at (get_or W (4 * y + k) 0) ((64 * g + j) % 64)) at
      ∙ ap (λ (y : ℕ). bit_at (get_or W (4 * g + k) 0) y) place)))

  -- `ReadsAs` holds after a load by which the bench has seen more
  ReadsAs-load : (t : BoardState) (i j : ℕ) (v w : View) (after : SeatState) (a : Act (Option Block)) → IsAt s i v idle
      → after ≡ (w, []) → homes_after H [] a ≡ H → t.table ≡ stepped s.table j (get_or W j 0) i [] after.0 a
      → t.progress ≡ s.progress → w.pending ≡ v.pending → w.takes ≡ v.takes → ReadsAs total draws t
      (with_views m (set m.views i w))
  ReadsAs-load t i j v w after a (e, p) now homes is pg b c = ReadsAs-saw_more t i v w W e
      (table-after_step t.table j (get_or W j 0) i [] [] after a w H is now homes
      ∙ ap (λ (ws : List ℕ). let x : TableState = record { words = ws; homes = H; views = set V i w } in
      x) (set-same_value W j))
      refl (λ k n small. refl) (λ k. ap (λ (f : ℕ → BenchProgress). f k) pg) b c

  -- `ReadsAs` holds after a bench looked at a word
  ReadsAs-look : (t : BoardState) (i : ℕ) (r : WordRow) (g : ℕ) (v : View) (after : SeatState) → IsAt s i v idle
      → Loads (LookPost r) s i v idle (4 * g + number_of r) after t.table → t.progress ≡ s.progress
      → ReadsAs total draws t (with_views m (set m.views i (after_look m v r g)))
  ReadsAs-look t i claimed_row g v after at st pg =
      let now : after ≡ (with_claimed v (set_bits (64 * ((4 * g + 0) / 4)) (bit_at (get_or W (4 * g + 0) 0)) 64), [])
      = st.post.0 in
      let same : after ≡ (after_look m v claimed_row g, []) = now
      ∙ ap (λ (l : List ℕ). let x : SeatState = (with_claimed v l, []) in
      x) (set_bits-word claimed_bit 0 g (omega arith) sh.claimed) in
      ReadsAs-load t i (4 * g + 0) v (after_look m v claimed_row g) after st.act at same
      (homes_after-left H st.act st.valid (ap (λ (y : SeatState). y.1) (sym now) ∙ st.slots)) st.table pg refl refl
  ReadsAs-look t i filed_row g v after at st pg =
      let now : after ≡ (with_filed v (set_bits (64 * ((4 * g + 1) / 4)) (bit_at (get_or W (4 * g + 1) 0)) 64), [])
      = st.post.0 in
      let same : after ≡ (after_look m v filed_row g, []) = now
      ∙ ap (λ (l : List ℕ). let x : SeatState = (with_filed v l, []) in x) (set_bits-word filed_bit 1 g (omega arith)
      sh.filed) in
      ReadsAs-load t i (4 * g + 1) v (after_look m v filed_row g) after st.act at same
      (homes_after-left H st.act st.valid (ap (λ (y : SeatState). y.1) (sym now) ∙ st.slots)) st.table pg refl refl
  ReadsAs-look t i taken_row g v after at st pg =
      let now : after ≡ (with_taken v (set_bits (64 * ((4 * g + 2) / 4)) (bit_at (get_or W (4 * g + 2) 0)) 64), [])
      = st.post.0 in
      let same : after ≡ (after_look m v taken_row g, []) = now
      ∙ ap (λ (l : List ℕ). let x : SeatState = (with_taken v l, []) in x) (set_bits-word taken_bit 2 g (omega arith)
      sh.taken) in
      ReadsAs-load t i (4 * g + 2) v (after_look m v taken_row g) after st.act at same
      (homes_after-left H st.act st.valid (ap (λ (y : SeatState). y.1) (sym now) ∙ st.slots)) st.table pg refl refl

  -- `ReadsAs` holds after a load that changes nothing
  ReadsAs-count : (t : BoardState) (i : ℕ) (v : View) (after : SeatState) → IsAt s i v idle → Loads CountPost s i v idle
      0 after t.table → t.progress ≡ s.progress → ReadsAs total draws t m
  ReadsAs-count t i v after (e, p) st pg =
      let now : after ≡ (v, []) = st.post.0 in let homes = homes_after-left H st.act st.valid
      (ap (λ (y : SeatState). y.1) (sym now) ∙ st.slots) in
      let got : (vs : List View) → vs ≡ m.views → ReadsAs total draws t (with_views m vs) → ReadsAs total draws t m
      = λ vs q z. subst (λ (y : List View). ReadsAs total draws t (with_views m y)) q z in
      let words : set W 0 (get_or W 0 0) ≡ W = set-same_value W 0 in
      got (set m.views i v) (set_again m.views i v (HasView-of_table i v e)) (ReadsAs-saw_more t i v v W e
      (table-after_step t.table 0 (get_or W 0 0) i [] [] after st.act v H st.table now homes
      ∙ ap (λ (ws : List ℕ). let x : TableState = record { words = ws; homes = H; views = set V i v } in x) words)
      refl (λ k n small. refl) (λ k. ap (λ (f : ℕ → BenchProgress). f k) pg) refl refl)

  module _ (r : Invariant total m) where
    -- `ReadsAs` holds after a filing
    ReadsAs-file : (t : BoardState) (i n : ℕ) (b : Block) (v : View) (after : SeatState) → IsAt s i v (has_put n b)
        → Sets FilePost s i v (has_put n b) 1 n after t.table → t.progress ≡ update s.progress i idle
        → ReadsAs total draws t (after_file_step m i n b v)
    ReadsAs-file t i n b v after (e, p) st pg =
        let one : v.pending ≡ n ∷ [] = (subst (IsViewAt v) p (sh.calls i v e)).0 in
        let was = is_pending total m.drawn (λ k. claimed_bit (m.stage k)) (λ k. filed_bit (m.stage k))
        (λ k. taken_bit (m.stage k)) m.content (λ k. m.home k ≡ empty) (λ k x. m.home k ≡ filled x) m.views r i v
        (HasView-of_table i v e) n one in
        let c1 : claimed_bit (m.stage n) ≡ 1 = was.0 in let f0 : filed_bit (m.stage n) ≡ 0 = was.1 in
        let t0 : taken_bit (m.stage n) ≡ 0 = omega (arith, f0, r.stages.taken_is_filed n) in
        let low : n < total = r.stages.in_range n (omega (arith, c1)) in
        let near : 4 * (n / 64) + 1 < length W = word_index-number n 1 low (omega arith) in
        let now : after ≡ (after_filing v n b, []) = (st.post n (record { word = refl; mask = refl }) b refl).1 in
        let homes : homes_after H ((n, Some b) ∷ []) st.act ≡ set H n (some (Some b)) =
        homes_after-given H st.act n (Some b)
        st.valid (ap (λ (y : SeatState). y.1) (sym now) ∙ st.slots) in
        let pt : (j : ℕ) → update m.progress i idle j ≡ t.progress j = λ j. ap (λ (y : BenchProgress). cond (j == i)
        idle y) (sh.progress j) ∙ ap (λ (f : ℕ → BenchProgress). f j) (sym pg) in
        let size : length H ≡ total = sh.slots in
        ReadsAs-one_bench t i v (after_filing v n b) (marked 1 W n) (set H n (some (Some b))) (update m.stage n Filed)
        (update m.content n (Some b)) (update m.home n (filled b)) m.drawn (update m.progress i idle) e
        (table-after_step t.table (4 * (n / 64) + 1) (bit_or (get_or W (4 * (n / 64) + 1) 0) (mask_of n)) i
        ((n, Some b) ∷ []) []
        after st.act (after_filing v n b) (set H n (some (Some b))) st.table now homes)
        (length-set W (4 * (n / 64) + 1) _) (length-set H n (some (Some b)))
        (λ d. sh.drawn d ∙ sym (bits-other_row 1 n near (omega arith) 3 (omega arith) (λ z. omega arith) d))
        (bits-same_stage claimed_bit 0 (marked 1 W n) n Filed (sym c1)
        (bits-other_row 1 n near (omega arith) 0 (omega arith)
        (λ z. omega arith)) sh.claimed)
        (bits-set_stage filed_bit 1 n Filed refl near sh.filed)
        (bits-same_stage taken_bit 2 (marked 1 W n) n Filed (sym t0)
        (bits-other_row 1 n near (omega arith) 2 (omega arith)
        (λ z. omega arith)) sh.taken)
        (each-by_cases n (λ j. j < total → get_elem? (set H n (some (Some b))) j ≡ some
        (home_of (update m.home n (filled b) j)))
        (λ l. set_here H n (some (Some b)) (omega (arith, low, size)) ∙ ap (λ (y : Slot). some (home_of y))
        (sym (update-same m.home n (filled b))))
        (λ j ne l. set_else H n j (some (Some b)) ne ∙ (sh.homes j l ∙ ap (λ (y : Slot). some (home_of y))
        (sym (update-other m.home n (filled b) j ne)))))
        pt (subst (IsViewAt (after_filing v n b)) (sym (update-same m.progress i idle) ∙ pt i) (refl, tt))
        (λ j ne. ap (λ (f : ℕ → BenchProgress). f j) pg ∙ update-other s.progress i idle j ne)

    -- `ReadsAs` holds after a take
    ReadsAs-take : (t : BoardState) (i n : ℕ) (v : View) (after : SeatState) → n < total → IsAt s i v idle
        → 0 < occurrences n v.filed → Sets TakePost s i v idle 2 n after t.table → t.progress ≡ update s.progress i
        (after_taking n after.1)
        → (x : ℕ) (c : Option Block) → taken_bit (m.stage n) ≡ x → m.content n ≡ c → ReadsAs total draws t
        (after_take_step m i n v x c)
    ReadsAs-take t i n v after low (e, p) saw st pg zero c is has =
        let near : 4 * (n / 64) + 2 < length W = word_index-number n 2 low (omega arith) in
        let f1 : filed_bit (m.stage n) ≡ 1 = r.stages.saw_filed i v (HasView-of_table i v e) n saw in
        let c1 : claimed_bit (m.stage n) ≡ 1 = omega (arith, f1, r.stages.pending_once n, r.stages.bit n) in
        let full = r.contents.filed_is_stored n f1 is in let b : Block = full.0 in
        let told = (st.post n (record { word = refl; mask = refl })).0 (sym (sh.taken n) ∙ is) in
        let b' : Block = told.0 in
        let found : after ≡ (after_take v n b', (n, Some b') ∷ []) = told.3 in
        let took = TookHome-taken H st.act n (Some b') st.valid (ap (λ (y : SeatState). y.1) (sym found) ∙ st.slots) in
        let same : b' ≡ b = filled-injective b' b (sym took.was ∙ (sh.homes n low ∙ ap (λ (y : Slot). some (home_of y))
        full.2)) in
        let now : after ≡ (after_take v n b, (n, Some b) ∷ []) = found
        ∙ ap (λ (y : Block). let z : SeatState = (after_take v n y, (n, Some y) ∷ []) in z) same in
        let pg' : t.progress ≡ update s.progress i (has_taken n b) = pg
        ∙ ap (λ (y : SeatState). update s.progress i (after_taking n y.1)) now in
        let pt : (j : ℕ) → update m.progress i (has_taken n b) j ≡ t.progress j = λ j. ap
        (λ (y : BenchProgress). cond (j == i) (has_taken n b) y) (sh.progress j) ∙ ap (λ (f : ℕ → BenchProgress). f j)
        (sym pg') in
        subst (λ (y : Option Block). ReadsAs total draws t (after_take_step m i n v 0 y)) (sym full.1 ∙ has) (
        ReadsAs-one_bench t i v (after_take v n b) (marked 2 W n) (homes_after H [] st.act)
        (update m.stage n Taken) m.content
        (update m.home n away) m.drawn (update m.progress i (has_taken n b)) e
        (table-after_step t.table (4 * (n / 64) + 2) (bit_or (get_or W (4 * (n / 64) + 2) 0) (mask_of n)) i []
        ((n, Some b) ∷ [])
        after st.act (after_take v n b) (homes_after H [] st.act) st.table now refl)
        (length-set W (4 * (n / 64) + 2) _) took.long
        (λ d. sh.drawn d ∙ sym (bits-other_row 2 n near (omega arith) 3 (omega arith) (λ z. omega arith) d))
        (bits-same_stage claimed_bit 0 (marked 2 W n) n Taken (sym c1)
        (bits-other_row 2 n near (omega arith) 0 (omega arith)
        (λ z. omega arith)) sh.claimed)
        (bits-same_stage filed_bit 1 (marked 2 W n) n Taken (sym f1)
        (bits-other_row 2 n near (omega arith) 1 (omega arith)
        (λ z. omega arith)) sh.filed)
        (bits-set_stage taken_bit 2 n Taken refl near sh.taken)
        (each-by_cases n (λ j. j < total → get_elem? (homes_after H [] st.act) j
        ≡ some (home_of (update m.home n away j)))
        (λ l. took.out ∙ ap (λ (y : Slot). some (home_of y)) (sym (update-same m.home n away)))
        (λ j ne l. took.others j ne ∙ (sh.homes j l ∙ ap (λ (y : Slot). some (home_of y))
        (sym (update-other m.home n away j ne)))))
        pt (subst (IsViewAt (after_take v n b)) (sym (update-same m.progress i (has_taken n b)) ∙ pt i)
        (pending-idle i v (e, p), let here = occurrences-cons_same n (numbers v.takes) in omega (arith, here)))
        (λ j ne. ap (λ (f : ℕ → BenchProgress). f j) pg' ∙ update-other s.progress i (has_taken n b) j ne))
    ReadsAs-take t i n v after low (e, p) saw st pg (suc zero) c is has =
        let near : 4 * (n / 64) + 2 < length W = word_index-number n 2 low (omega arith) in
        let now : after ≡ (with_taken v (n ∷ []), []) = (st.post n (record { word = refl; mask = refl })).1
        (sym (sh.taken n) ∙ is) in
        let pg' : t.progress ≡ update s.progress i idle = pg
        ∙ ap (λ (y : SeatState). update s.progress i (after_taking n y.1)) now in
        ReadsAs-saw_more t i v (with_taken v (n ∷ [])) (marked 2 W n) e
        (table-after_step t.table (4 * (n / 64) + 2) (bit_or (get_or W (4 * (n / 64) + 2) 0) (mask_of n)) i [] [] after
        st.act
        (with_taken v (n ∷ [])) H st.table now (homes_after-left H st.act st.valid
        (ap (λ (y : SeatState). y.1) (sym now)
        ∙ st.slots)))
        (length-set W (4 * (n / 64) + 2) _) (bits-marked_again 2 n (omega arith) near (sym (sh.taken n) ∙ is))
        (each-by_cases i (λ j. t.progress j ≡ s.progress j) (ap (λ (f : ℕ → BenchProgress). f i) pg'
        ∙ (update-same s.progress i idle ∙ sym p)) (λ j ne. ap (λ (f : ℕ → BenchProgress). f j) pg'
        ∙ update-other s.progress i idle j ne)) refl refl
    ReadsAs-take t i n v after low at saw st pg (suc (suc x)) c is has = absurd
        (omega (arith, is, sh.taken n, bit_of-at_most_one 2 W n))

  -- `ReadsAs` holds after one bench continues in its call, and nothing else changes
  ReadsAs-continues : (i : ℕ) (v : View) (p : BenchProgress) → get_elem? V i ≡ some v → IsViewAt v p
      → ReadsAs total draws
      (record s { progress = update s.progress i p }) (record m { progress = update m.progress i p })
  ReadsAs-continues i v p e own = record {
    slots = sh.slots;
    numbers_fit = sh.numbers_fit;
    draws_fit = sh.draws_fit;
    drawn = sh.drawn;
    claimed = sh.claimed;
    filed = sh.filed;
    taken = sh.taken;
    homes = sh.homes;
    views = sh.views;
    progress = λ j. ap (λ (y : BenchProgress). cond (j == i) p y) (sh.progress j);
    calls = λ j u f. dite (ℕ_discrete j i)
        (λ is. let same : v ≡ u = get_elem-one_view v u (get_elem? V i) e
        (subst (λ (y : ℕ). get_elem? V y ≡ some u) is f) in
        subst (λ (y : ℕ). IsViewAt u (update s.progress i p y)) (sym is)
        (subst (IsViewAt u) (sym (update-same s.progress i p)) (subst (λ (y : View). IsViewAt y p) same own)))
        (λ ne. subst (IsViewAt u) (sym (update-other s.progress i p j ne)) (sh.calls j u f));
    unmade = λ j far. let near = get_elem-within V i v e in update-other s.progress i p j
        (λ q. omega (arith, far, near, q))
        ∙ sh.unmade j far;
  }

  -- `ReadsAs` holds after a slot is returned to the table
  ReadsAs-give : (t : BoardState) (i n : ℕ) (b : Block) (v : View) (after : SeatState) → IsAt s i v (has_lifted n b)
      → Loads GivePost s i v (has_lifted n b) 0 after t.table → t.progress ≡ update s.progress i idle
      → ReadsAs total draws t (record m { home = update m.home n empty; progress = update m.progress i idle })
  ReadsAs-give t i n b v after (e, p) st pg =
      let now : after ≡ (v, []) = st.post in let out : Option Block = None in
      let homes : homes_after H ((n, None) ∷ []) st.act ≡ set H n (some out) =
      homes_after-given H st.act n None st.valid
      (ap (λ (y : SeatState). y.1) (sym now) ∙ st.slots) in
      let pt : (j : ℕ) → update m.progress i idle j ≡ t.progress j = λ j. ap (λ (y : BenchProgress). cond (j == i) idle
      y) (sh.progress j) ∙ ap (λ (f : ℕ → BenchProgress). f j) (sym pg) in
      let one : IsViewAt v (has_lifted n b) = subst (IsViewAt v) p (sh.calls i v e) in
      let size : length H ≡ total = sh.slots in
      subst (λ (vs : List View). ReadsAs total draws t
      (record m { home = update m.home n empty; progress = update m.progress i idle; views = vs }))
      (set_again m.views i v (HasView-of_table i v e)) (
      ReadsAs-one_bench t i v v W (set H n (some out)) m.stage m.content (update m.home n empty) m.drawn
      (update m.progress i idle)
      e
      (table-after_step t.table 0 (get_or W 0 0) i ((n, None) ∷ []) [] after st.act v (set H n (some out)) st.table now
      homes
      ∙ ap (λ (ws : List ℕ). let x : TableState = record { words = ws; homes = set H n (some out); views = set V i v }
      in x) (set-same_value W 0))
      refl (length-set H n (some out)) sh.drawn sh.claimed sh.filed sh.taken
      (each-by_cases n (λ j. j < total → get_elem? (set H n (some out)) j ≡ some (home_of (update m.home n empty j)))
      (λ l. set_here H n (some out) (omega (arith, l, size)) ∙ ap (λ (y : Slot). some (home_of y))
      (sym (update-same m.home n empty)))
      (λ j ne l. set_else H n j (some out) ne ∙ (sh.homes j l ∙ ap (λ (y : Slot). some (home_of y))
      (sym (update-other m.home n empty j ne)))))
      pt (subst (IsViewAt v) (sym (update-same m.progress i idle) ∙ pt i) (one.0, tt))
      (λ j ne. ap (λ (f : ℕ → BenchProgress). f j) pg ∙ update-other s.progress i idle j ne))

  -- `ReadsAs` holds after the views change, and nothing else
  ReadsAs-views : (vs : List View) → ((j : ℕ) (u : View) → get_elem? vs j ≡ some u → IsViewAt u (s.progress j))
      → length V ≤ length vs
      → ReadsAs total draws (record s { table = record s.table { views = vs } }) (with_views m vs)
  ReadsAs-views vs calls longer = record {
    slots = sh.slots;
    numbers_fit = sh.numbers_fit;
    draws_fit = sh.draws_fit;
    drawn = sh.drawn;
    claimed = sh.claimed;
    filed = sh.filed;
    taken = sh.taken;
    homes = sh.homes;
    views = refl;
    progress = sh.progress;
    calls = calls;
    unmade = λ j far. sh.unmade j (omega (arith, far, longer));
  }

  -- a split is the machine's event
  Goal-split : (i : ℕ) (v : View) → IsAt s i v idle
      → Goal (split i) (record s { table = record s.table { views = set V i (kept_view v) ++ split_view v ∷ [] } })
  Goal-split i v (e, p) =
      let long = length-set V i (kept_view v) in let longer = length-append (set V i (kept_view v))
      (split_view v ∷ []) in
      let own : IsViewAt v idle = subst (IsViewAt v) p (sh.calls i v e) in
      let kept = IsViewAt-after_set i v (kept_view v) s.progress e (subst (IsViewAt (kept_view v)) (sym p) (own.0, tt))
      (λ j ne. refl) in
      let vs : List View = set V i (kept_view v) ++ split_view v ∷ [] in (
        with_views m vs,
        (
          v,
          HasView-of_table i v e,
          own.0,
          λ k. with_views m
              (set (sym sh.views k) i (kept_view v) ++ split_view v ∷ []),
        ),
        ReadsAs-views vs (λ j u f. ⊎_elim (λ (q : get_elem? (set V i (kept_view v)) j ≡ some u). kept j u q)
            (λ (q : (length (set V i (kept_view v)) ≤ j) × (split_view v ≡ u)). let far = q.0 in
            let idles : s.progress j ≡ idle = sh.unmade j (omega (arith, far, long)) in
            subst (λ (y : View). IsViewAt y (s.progress j)) q.1 (subst (IsViewAt (split_view v)) (sym idles)
            (refl, tt)))
            (get_elem-of_push (set V i (kept_view v)) (split_view v) u j f))
            (omega (arith, long, longer)),
      )

  -- a join is the machine's event
  Goal-join : (i j : ℕ) (v w : View) → j ≢ i → IsAt s i v idle → IsAt s j w idle → Goal (join i j)
      (record s { table = record s.table { views = set (set V i (joint_view v w)) j empty_view } })
  Goal-join i j v w ne (e, p) (f, q) =
      let vs : List View = set (set V i (joint_view v w)) j empty_view in
      let mine : IsViewAt v idle = subst (IsViewAt v) p (sh.calls i v e) in
      let other : IsViewAt w idle = subst (IsViewAt w) q (sh.calls j w f) in
      let joint : IsViewAt (joint_view v w) (s.progress i) = subst (IsViewAt (joint_view v w)) (sym p)
      ((λ k. mine.0 k ++ other.0 k), tt) in
      let once = IsViewAt-after_set i v (joint_view v w) s.progress e joint (λ k ne. refl) in
      let a = length-set V i (joint_view v w) in let b = length-set (set V i (joint_view v w)) j empty_view in (
        with_views m vs,
        (
          v,
          w,
          ne,
          HasView-of_table i v e,
          HasView-of_table j w f,
          mine.0,
          other.0,
          λ k. with_views m
              (set (set (sym sh.views k) i (joint_view v w)) j empty_view),
        ),
        ReadsAs-views vs (λ k u g. ⊎_elim (λ (z : (k ≡ j) × (empty_view ≡ u)). subst
            (λ (y : ℕ). IsViewAt u (s.progress y))
            (sym z.0) (subst (λ (y : View). IsViewAt y (s.progress j)) z.1 (subst (IsViewAt empty_view) (sym q)
            (refl, tt))))
            (λ (z : (k ≢ j) × (get_elem? (set V i (joint_view v w)) k ≡ some u)). once k u z.1)
            (at_set (set V i (joint_view v w)) j k empty_view u g))
            (omega (arith, a, b)),
      )

  -- each step of a board is the machine's event, in a state with the invariant
  pub Goal-event : Invariant total m → (t : BoardState) (e : BoardEvent) → Takes total draws s e t → Goal e t
  Goal-event r t BoardEvent.make h = absurd h
  Goal-event r t (BoardEvent.split i) (v, at, is) = subst (Goal (BoardEvent.split i)) (sym is) (Goal-split i v at)
  Goal-event r t (BoardEvent.join i j) (v, w, ne, at, bt, is) = subst (Goal (BoardEvent.join i j)) (sym is)
      (Goal-join i j v w ne at bt)
  Goal-event r t (BoardEvent.claim i n b) (v, after, low, at, has_share, st, pg) = (
    after_claim_step m i n b v (claimed_bit (m.stage n)),
    (v, low, HasView-of_table i v at.0, has_share, pending-idle i v at, refl),
    ReadsAs-claim t i n b v after low at st (claimed_bit (m.stage n)) refl
        (pg ∙ ap (λ (x : ℕ). update s.progress i (after_claiming n b x)) (sym (sh.claimed n))),
  )
  Goal-event r t (BoardEvent.put i n b) (v, at, is) = let own : IsViewAt v (has_claimed n b) = subst (IsViewAt v) at.1
      (sh.calls i v at.0) in (
        record m { progress = update m.progress i (has_put n b) },
        (v, HasView-of_table i v at.0, own.0, progress-of_table i (has_claimed n b) at.1, refl),
        subst (λ (y : BoardState). ReadsAs total draws y (record m { progress = update m.progress i (has_put n b) }))
            (sym is) (ReadsAs-continues i v (has_put n b) at.0 (own.0, tt)),
      )
  Goal-event r t (BoardEvent.file i n b) (v, after, at, st, pg) =
      let own : IsViewAt v (has_put n b) = subst (IsViewAt v) at.1 (sh.calls i v at.0) in (
        after_file_step m i n b v,
        (v, HasView-of_table i v at.0, own.0, progress-of_table i (has_put n b) at.1, refl),
        ReadsAs-file r t i n b v after at st pg,
      )
  Goal-event r t (BoardEvent.look i row g) (v, after, at, st, pg) = (
    with_views m (set m.views i (after_look m v row g)),
    (v, HasView-of_table i v at.0, refl),
    ReadsAs-look t i row g v after
        at st pg,
  )
  Goal-event r t (BoardEvent.draw i d) (v, after, low, at, has_share, st, pg) = (
    after_draw_step m i d v (m.drawn d),
    (v, low, HasView-of_table i v at.0, has_share, refl),
    ReadsAs-draw t i d v after low at st
        (m.drawn d) refl pg,
  )
  Goal-event r t (BoardEvent.take i n) (v, after, low, at, has_share, saw, st, pg) = (
    after_take_step m i n v (taken_bit (m.stage n)) (m.content n),
    (v, HasView-of_table i v at.0, has_share, saw, refl),
    ReadsAs-take r t i n v after low at saw st pg (taken_bit (m.stage n)) (m.content n) refl refl,
  )
  Goal-event r t (BoardEvent.lift i n) (v, b, at, is) = let own : IsViewAt v (has_taken n b) = subst (IsViewAt v) at.1
      (sh.calls i v at.0) in (
        record m { progress = update m.progress i (has_lifted n b) },
        (v, b, HasView-of_table i v at.0, progress-of_table i (has_taken n b) at.1, refl),
        subst (λ (y : BoardState). ReadsAs total draws y (record m { progress = update m.progress i (has_lifted n b) }))
            (sym is) (ReadsAs-continues i v (has_lifted n b) at.0 own),
      )
  Goal-event r t (BoardEvent.give i n) (v, b, after, at, st, pg) =
      let own : IsViewAt v (has_lifted n b) = subst (IsViewAt v) at.1 (sh.calls i v at.0) in (
        record m { home = update m.home n empty; progress = update m.progress i idle },
        (v, b, HasView-of_table i v at.0, own.1, progress-of_table i (has_lifted n b) at.1, refl),
        ReadsAs-give t i n b v after at st pg,
      )
  Goal-event r t (BoardEvent.load i) (v, after, at, st, pg) = (
    m,
    (v, HasView-of_table i v at.0, refl),
    ReadsAs-count t i v after at st
        pg,
  )

-- the view of the first bench may be that of a bench in no call
IsViewAt-first : (i : ℕ) (v : View) → get_elem? (first_view ∷ []) i ≡ some v → IsViewAt v idle
IsViewAt-first zero v e = subst (λ (y : View). IsViewAt y idle) (some-injective first_view v e) (refl, tt)
IsViewAt-first (suc i) v e = absurd (some-ne-none v (sym e))

-- n copies are n
length-replicate_any : {A : Type 0} (n : ℕ) (a : A) → length (replicate n a) ≡ n
length-replicate_any zero a = refl
length-replicate_any (suc n) a = ap suc (length-replicate_any n a)

-- n empty slots are n
length-vacant : (n : ℕ) → length (map some (replicate n (let x : Option Block = None in x))) ≡ n
length-vacant zero = refl
length-vacant (suc n) = ap suc (length-vacant n)

-- each of n empty slots is in the table and empty
get_elem-vacant : (n i : ℕ) → i < n → get_elem? (map some (replicate n (let x : Option Block = None in x))) i
    ≡ some (some None)
get_elem-vacant zero i l = absurd (omega arith)
get_elem-vacant (suc n) zero l = refl
get_elem-vacant (suc n) (suc i) l = get_elem-vacant n i (omega arith)

-- a new board corresponds to the machine's start
pub ReadsAs-start : (total draws width : ℕ) → IsWideFor width total → IsWideFor width draws → ReadsAs total draws
    (opened width total) start
ReadsAs-start total draws width a b = record {
  slots = length-vacant total;
  numbers_fit = subst (λ (y : ℕ). IsWideFor y total) (sym (length-replicate_any width 0)) a;
  draws_fit = subst (λ (y : ℕ). IsWideFor y draws) (sym (length-replicate_any width 0)) b;
  drawn = λ d. sym (bit_of-zeros 3 width d);
  claimed = λ n. sym (bit_of-zeros 0 width n);
  filed = λ n. sym (bit_of-zeros 1 width n);
  taken = λ n. sym (bit_of-zeros 2 width n);
  homes = λ n low. get_elem-vacant total n low;
  views = refl;
  progress = λ i. refl;
  calls = IsViewAt-first;
  unmade = λ i far. refl;
}

-- a run of a board is the machine's run of the same events
pub RunsAs-run : (total draws : ℕ) (es : List BoardEvent) (s t : BoardState) (m : Core) → Invariant total m
    → ReadsAs total draws s m → IsBoardRun total draws s es t
    → (n : Core) × IsRun total draws m es n × ReadsAs total draws t n
RunsAs-run total draws [] s t m r sh is = (m, refl, subst (λ (y : BoardState). ReadsAs total draws y m) (sym is) sh)
RunsAs-run total draws (e ∷ es) s t m r sh (u, h, more) = let next = Goal-event total draws s m sh r u e h in
    let later = RunsAs-run total draws es u t next.0 (Invariant-event total m r draws e next.0 next.1) next.2 more in
    (later.0, (next.0, next.1, later.1), later.2)
