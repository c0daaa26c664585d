-- A net that is added for a code without one leaves what is read of a body without a fault as it was.
use Rattle.std.proofs.Common.{◌≡◌, ℕ, zero, suc, ◌+◌, ◌<◌, Bool, true, false, cond, eqb, List, [], ◌∷◌}
use Rattle.std.proofs.Common.{◌++◌}
use Rattle.std.proofs.Common.{Option, Some, None, Result, Ok, Err, refl, sym, ap, subst, ◌∙◌, arith, length, zero-add}
use Rattle.std.proofs.Common.{true≢false}
use Rattle.std.specs.Prelude.{bytes_eq, map, nat_eq, nat_lt, unwrap_or, filter_map, option_map, ◌&&◌}
use Rattle.std.specs.List.{cons_option, dedup, range_with_len}
use Rattle.std.proofs.lemmas.Bool.Decides.{nat_tests}
use Rattle.std.proofs.lemmas.List.{length_push, append-nil}
use Rattle.std.proofs.lemmas.List.Elements.{filter_map-append}
use Rattle.std.proofs.lemmas.Slice.Eq.{bytes_eq-Decides}
use Rattle.vcd_read.specs.declared.dump.Instant.{Instant}
use Rattle.vcd_read.specs.declared.dump.Value.{Value}
use Rattle.vcd_read.specs.declared.fault.FaultKind.{FaultKind}
use Rattle.vcd_read.specs.declared.fault.FaultKind.TheVariants.{TooWide}
use Rattle.vcd_read.specs.declared.fault.VcdFault.{VcdFault}
use Rattle.vcd_read.specs.Numbers.{extended, number}
use Rattle.vcd_read.specs.Header.{◌>>=◌, Net, at_line, net_of, size_of}
use Rattle.vcd_read.specs.Body.{BodyItem, BodyContext, at_the_end, change}
use Rattle.vcd_read.specs.Body.{first_context}
use Rattle.vcd_read.specs.Body.{fitting, skipped, context_after, context_after_all, time_item, wrong}
use Rattle.vcd_read.specs.Meaning.{NetChange, change_of, changes_from, instant_at, instants_of, last_at, times_from}
use Rattle.vcd_read.specs.Meaning.{value_at, values_at}
use Rattle.vcd_read.proofs.CodesLemmas.{net_of-push, net_of-within, size_of-before}
use Rattle.vcd_read.proofs.ContextLemmas.{context_after_all-first}
use Rattle.vcd_places.proofs.SkippedLemmas.{instants_in}

-- ---- lists

-- two functions that agree at each element make the same list
map-same : {A B : Type 0} (f g : A → B) (xs : List A) → ((a : A) → f a ≡ g a) → map f xs ≡ map g xs
map-same f g [] same = refl
map-same {A = A} {B = B} f g (x ∷ xs) same =
    ap (λ (y : B). y ∷ map f xs) (same x) ∙ ap (λ (ys : List B). g x ∷ ys) (map-same f g xs same)

-- n + 1 is the successor of n
add_one-suc : (n : ℕ) → n + 1 ≡ suc n
add_one-suc n = omega arith

-- one number more from `a` on is a + n
range_with_len-push : (a n : ℕ) → range_with_len a (suc n) ≡ range_with_len a n ++ (a + n) ∷ []
range_with_len-push a zero = ap (λ (k : ℕ). k ∷ []) (omega arith)
range_with_len-push a (suc n) =
    ap (λ (ks : List ℕ). a ∷ ks) (range_with_len-push (a + 1) n
    ∙ ap (λ (k : ℕ). range_with_len (a + 1) n ++ k ∷ []) (omega arith))

-- an element that `h` leaves out changes nothing at the end of a list
filter_map-push_none : {X Y : Type 0} (h : X → Option Y) (xs : List X) (x : X) → h x ≡ None
    → filter_map h (xs ++ x ∷ []) ≡ filter_map h xs
filter_map-push_none {Y = Y} h xs x none =
    filter_map-append h xs (x ∷ [])
    ∙ ap (λ (o : Option Y). filter_map h xs ++ cons_option o []) none
    ∙ append-nil (filter_map h xs)

-- if the net `count` has no value at `t`, the values of the first `count` + 1 nets are those of the first `count`
values_at-without_last : (t count : ℕ) (changes : List NetChange) → value_at t changes count ≡ None
    → values_at (suc count) t changes ≡ values_at count t changes
values_at-without_last t count changes none =
    ap (filter_map (value_at t changes)) (range_with_len-push 0 count ∙ ap (λ (k : ℕ). range_with_len 0 count ++ k ∷ [])
    (zero-add count))
    ∙ filter_map-push_none (value_at t changes) (range_with_len 0 count) count none

-- ---- one more net

module _ (nets : List Net) (code : List ℕ) (size : ℕ) (none : net_of nets code ≡ None) where
  -- the net that is added
  abbrev pub added : Net
  added = record { code = code; size = size }

  -- the nets, and the one that is added
  abbrev pub all : List Net
  all = nets ++ added ∷ []

  -- a code that has a net isn't the new one, so it has its net still
  cond-has_net : (other : List ℕ) (net : ℕ) (test : Bool) → bytes_eq code other ≡ test → net_of nets other ≡ Some net
      → cond test (Some (length nets)) (net_of nets other) ≡ Some net
  cond-has_net other net true same is =
      let bad : None ≡ Some net = sym none ∙ ap (net_of nets) ((bytes_eq-Decides code other).0 same) ∙ is in
      cc
  cond-has_net other net false same is = is

  -- the net of a code stays
  pub net_of-all : (other : List ℕ) (net : ℕ) → net_of nets other ≡ Some net → net_of all other ≡ Some net
  net_of-all other net is = net_of-push nets code size none other ∙ cond-has_net other net (bytes_eq code other) refl is

  -- the net of a code is one of the nets
  net_of-below : (other : List ℕ) (net : ℕ) → net_of nets other ≡ Some net → net < length nets
  net_of-below other net is =
      subst (λ (n : ℕ). n < length nets) (ap (λ (o : Option ℕ). unwrap_or o 0) is)
      (net_of-within nets other (rw is refl))

  -- a code that has a net fits the same number of digits
  fitting-all : (digits : ℕ) (other : List ℕ) (net : ℕ) → net_of nets other ≡ Some net
      → fitting all digits (net_of all other) ≡ fitting nets digits (net_of nets other)
  fitting-all digits other net is =
      ap (fitting all digits) (net_of-all other net is)
      ∙ ap (λ (n : ℕ). cond (nat_lt n digits) (Err TooWide) (Ok net))
      (size_of-before nets net added (net_of-below other net is))
      ∙ sym (ap (fitting nets digits) is)

  -- a code that fits has a net
  fitting-has_net : (digits line : ℕ) (found : Option ℕ) (s next : BodyContext)
      → at_line line (fitting nets digits found >>= λ net. Ok s) ≡ Ok next
      → (net : ℕ) × (found ≡ Some net)
  fitting-has_net digits line None s next e = absurd cc
  fitting-has_net digits line (Some net) s next e = (net, refl)

  -- an item that is read without a fault by `nets` gives the same by `all`
  context_after-all : (s next : BodyContext) (item : BodyItem) → context_after nets s item ≡ Ok next
      → context_after all s item ≡ Ok next
  context_after-all s next (change line digits other) e =
      let found = fitting-has_net (length digits) line (net_of nets other) s next e in
      ap (λ (r : Result ℕ FaultKind). at_line line (r >>= λ net. Ok s))
      (fitting-all (length digits) other found.0 found.1)
      ∙ e
  context_after-all s next (skipped line other) e =
      let found = fitting-has_net 0 line (net_of nets other) s next e in
      ap (λ (r : Result ℕ FaultKind). at_line line (r >>= λ net. Ok s)) (fitting-all 0 other found.0 found.1) ∙ e
  context_after-all s next (wrong line kind) e = absurd cc
  context_after-all s next item e = e

  -- items that are read without a fault by `nets` give the same by `all`
  pub context_after_all-all : (items : List BodyItem) (s end : BodyContext) → context_after_all nets s items ≡ Ok end
      → context_after_all all s items ≡ Ok end
  unfolding context_after_all
  context_after_all-all [] s end e = e
  context_after_all-all (item ∷ items) s end e =
      let read = context_after_all-first nets item items s end e in
      ap (λ (r : Result BodyContext VcdFault). r >>= λ next. context_after_all all next items)
      (context_after-all s read.0 item read.1)
      ∙ context_after_all-all items read.0 end read.2

  -- ---- the changes

  -- a change of a code that has a net is the same by `all`
  change_of-all : (now : ℕ) (digits other : List ℕ) (net : ℕ) → net_of nets other ≡ Some net
      → change_of all now digits other ≡ change_of nets now digits other
  change_of-all now digits other net is =
      ap (λ (o : Option ℕ). record {
        time = now;
        net = unwrap_or o 0;
        bits = extended (size_of all (unwrap_or o 0)) digits;
      }) (net_of-all other net is)
      ∙ ap (λ (n : ℕ). record { time = now; net = net; bits = extended n digits })
      (size_of-before nets net added (net_of-below other net is))
      ∙ sym (ap (λ (o : Option ℕ). record {
        time = now;
        net = unwrap_or o 0;
        bits = extended (size_of nets (unwrap_or o 0)) digits;
      }) is)

  -- items that are read without a fault by `nets` make the same changes by `all`
  pub changes_from-all : (items : List BodyItem) (s end : BodyContext) (now : ℕ)
      → context_after_all nets s items ≡ Ok end → changes_from all now items ≡ changes_from nets now items
  unfolding changes_from context_after_all
  changes_from-all [] s end now e = refl
  changes_from-all (time_item line digits ∷ items) s end now e =
      let read = context_after_all-first nets (time_item line digits) items s end e in
      changes_from-all items read.0 end (number digits) read.2
  changes_from-all (change line digits other ∷ items) s end now e =
      let read = context_after_all-first nets (change line digits other) items s end e in
      let found = fitting-has_net (length digits) line (net_of nets other) s read.0 read.1 in
      ap (λ (c : NetChange). c ∷ changes_from all now items) (change_of-all now digits other found.0 found.1)
      ∙ ap (λ (cs : List NetChange). change_of nets now digits other ∷ cs)
      (changes_from-all items read.0 end now read.2)
  changes_from-all (wrong line kind ∷ items) s end now e = absurd cc
  changes_from-all (item ∷ items) s end now e =
      let read = context_after_all-first nets item items s end e in
      changes_from-all items read.0 end now read.2

  -- ---- the values

  -- no change is of the net that is added
  last_at-added : (t : ℕ) (items : List BodyItem) (s end : BodyContext) (now : ℕ) → context_after_all nets s items
      ≡ Ok end
      → last_at t (length nets) (changes_from nets now items) ≡ None
  unfolding changes_from context_after_all last_at
  last_at-added t [] s end now e = refl
  last_at-added t (time_item line digits ∷ items) s end now e =
      let read = context_after_all-first nets (time_item line digits) items s end e in
      last_at-added t items read.0 end (number digits) read.2
  last_at-added t (change line digits other ∷ items) s end now e =
      let read = context_after_all-first nets (change line digits other) items s end e in
      let found = fitting-has_net (length digits) line (net_of nets other) s read.0 read.1 in
      let net : unwrap_or (net_of nets other) 0 ≡ found.0 = ap (λ (o : Option ℕ). unwrap_or o 0) found.1 in
      let other_net : eqb (unwrap_or (net_of nets other) 0) (length nets) ≡ false =
      grind (arith, nat_tests, net, net_of-below other found.0 found.1) in
      last_at-other_net t (change_of nets now digits other) (changes_from nets now items) other_net
      (last_at-added t items read.0 end now read.2)
    where
      -- a change of another net is not the last of the net that is added
      last_at-other_net : (t : ℕ) (c : NetChange) (cs : List NetChange) → eqb c.net (length nets) ≡ false
          → last_at t (length nets) cs ≡ None → last_at t (length nets) (c ∷ cs) ≡ None
      last_at-other_net t c cs other_net rest = rw (rest, other_net) (both_false (eqb c.time t))
        where
          -- two tests, of which one fails, don't both hold
          both_false : (b : Bool) → cond (b && false) (Some c.bits) None ≡ None
          both_false true = refl
          both_false false = refl
  last_at-added t (wrong line kind ∷ items) s end now e = absurd cc
  last_at-added t (item ∷ items) s end now e =
      let read = context_after_all-first nets item items s end e in
      last_at-added t items read.0 end now read.2

  -- the instant at a time is the same by `all`, if the items are read without a fault by `nets`
  instant_at-all : (items : List BodyItem) (end : BodyContext) (t : ℕ)
      → context_after_all nets first_context items ≡ Ok end
      → instant_at (length all) (changes_from all 0 items) t ≡ instant_at (length nets) (changes_from nets 0 items) t
  instant_at-all items end t e =
      let changes = changes_from nets 0 items in
      let none : value_at t changes (length nets) ≡ None =
      ap (option_map (λ bits. record { net = length nets; bits = bits })) (last_at-added t items first_context end 0 e)
      in
      ap (λ (cs : List NetChange). instant_at (length all) cs t) (changes_from-all items first_context end 0 e)
      ∙ ap (λ (n : ℕ). instant_at n changes t) (length_push nets added ∙ add_one-suc (length nets))
      ∙ ap (λ (vs : List Value). record { time = t; values = vs }) (values_at-without_last t (length nets) changes none)

  -- a body that is read without a fault by `nets` gives the same instants by `all`
  pub instants_in-all : (items : List BodyItem) (instants : List Instant) → instants_in nets items ≡ Ok instants
      → instants_in all items ≡ Ok instants
  instants_in-all items instants e = go (context_after_all nets first_context items) refl e
    where
      -- `all` gives the same instants, by what reading the items by `nets` gives
      go : (r : Result BodyContext VcdFault) → context_after_all nets first_context items ≡ r
          → (r >>= λ end. at_the_end end >>= λ stood. Ok (instants_of nets items)) ≡ Ok instants
          → instants_in all items ≡ Ok instants
      go (Err fault) is f = absurd cc
      go (Ok end) is f =
          ap (λ (r : Result BodyContext VcdFault). r >>= λ end. at_the_end end >>= λ stood. Ok (instants_of all items))
          (context_after_all-all items first_context end is)
          ∙ ap (λ (found : List Instant). at_the_end end >>= λ stood. Ok found)
          (map-same (instant_at (length all) (changes_from all 0 items))
          (instant_at (length nets) (changes_from nets 0 items)) (dedup nat_eq (times_from 0 items))
          (λ t. instant_at-all items end t is))
          ∙ f

-- ---- the net of the code

-- where the test holds, the first is taken
cond-same : (same : Bool) (own found : Option ℕ) → same ≡ true → cond same own found ≡ own
cond-same true own found is = refl
cond-same false own found is = absurd (true≢false (sym is))

-- if no net has `code`, a net that is added for it is the net of `code`
pub net_of-added : (nets : List Net) (code : List ℕ) (size : ℕ) → net_of nets code ≡ None
    → net_of (nets ++ record { code = code; size = size } ∷ []) code ≡ Some (length nets)
net_of-added nets code size none =
    net_of-push nets code size none code
    ∙ cond-same (bytes_eq code code) (Some (length nets)) (net_of nets code) ((bytes_eq-Decides code code).1 refl)

-- another code that no net has still has none after a net for `code` is added
pub net_of-still_none : (nets : List Net) (code : List ℕ) (size : ℕ) (other : List ℕ) → net_of nets code ≡ None
    → bytes_eq code other ≡ false → net_of nets other ≡ None
    → net_of (nets ++ record { code = code; size = size } ∷ []) other ≡ None
net_of-still_none nets code size other none differs free =
    net_of-push nets code size none other
    ∙ ap (λ (test : Bool). cond test (Some (length nets)) (net_of nets other)) differs ∙ free
