-- A net that is added for a new code is the net of that code, and the other codes have the nets and sizes that they
-- had.
use Rattle.std.proofs.Common.{◌≡◌, ℕ, zero, suc, ◌+◌, ◌^◌, ◌≤◌, ◌<◌, Bool, true, false, not, cond, eqb, ltb, List, []}
use Rattle.std.proofs.Common.{◌∷◌, ◌++◌, length, get_or, Option, Some, None, IsSome, refl, sym, ap, ◌∙◌, arith}
use Rattle.std.specs.Prelude.{bytes_eq, option_map, unwrap_or, if◌then◌else◌}
use Rattle.std.specs.Map.{update}
use Rattle.std.specs.List.{position, position_or_len}
use Rattle.std.proofs.lemmas.Bool.{ltb-true}
use Rattle.std.proofs.lemmas.Bool.Decides.{nat_tests}
use Rattle.std.proofs.lemmas.List.{length_push}
use Rattle.std.proofs.lemmas.List.Folds.{position_or_len_push}
use Rattle.std.proofs.lemmas.List.Sums.{prefix_len-le-length}
use Rattle.std.proofs.lemmas.Option.{none-some}
use Rattle.std.proofs.lemmas.Slice.Eq.{bytes_eq-Decides}
use Rattle.vcd_read.specs.declared.code_index.CodeIndex.{CodeIndex}
use Rattle.vcd_read.specs.Header.{Net, has_code, net_of, size_of}
use Rattle.vcd_read.specs.CodeIndexes.{net_at}
use Rattle.vcd_read.specs.OneByteCodes.{HasOneByteCodes, one_byte_net_at, sized_net, sized_net_of}
use Rattle.vcd_read.specs.Nets.{AreIndexed}

-- the size at a place is that of the net there
pub size_of-at : (nets : List Net) (i : ℕ) (n : Net) → i < length nets → n ≡ get_or nets i n → size_of nets i ≡ n.size
unfolding size_of
size_of-at [] i n lt e = absurd (omega (arith, lt))
size_of-at (m ∷ nets) zero n lt e = ap (λ (x : Net). x.size) (sym e)
size_of-at (m ∷ nets) (suc i) n lt e = size_of-at nets i n (omega (arith, lt)) e

-- the place `k`, if it is below `n`
abbrev place_below : ℕ → ℕ → Option ℕ
place_below k n = cond (ltb k n) (Some k) None

-- the place of the first element that passes, after one more element, which passes if `b` holds
place_below-push : (k n k2 n2 : ℕ) (b : Bool) → k ≤ n → n2 ≡ n + 1 → k2 ≡ cond (eqb k n) (n + cond b 0 1) k
    → place_below k2 n2 ≡ cond (ltb k n) (place_below k n) (cond b (Some n) None)
place_below-push k n k2 n2 true le e is = grind (arith, nat_tests)
place_below-push k n k2 n2 false le e is = grind (arith, nat_tests)

-- in a list with one more element, the first that passes is that of the list, or else the new one, if it passes
position-push : {X : Type 0} (p : X → Bool) (xs : List X) (y : X) → position p (xs ++ y ∷ [])
    ≡ cond (ltb (position_or_len p xs) (length xs)) (position p xs) (cond (p y) (Some (length xs)) None)
position-push p xs y =
    place_below-push (position_or_len p xs) (length xs) (position_or_len p (xs ++ y ∷ [])) (length (xs ++ y ∷ [])) (p y)
    (prefix_len-le-length (λ x. not (p x)) xs) (length_push xs y) (position_or_len_push p xs y)

-- what was found before, or else the new place if `c` holds, is the new place if `c` holds, or else what was found
-- before: `c` holds only where nothing was found
new_or_before : (b c : Bool) (k n : ℕ) (o before : Option ℕ) → before ≡ cond b (Some k) None → o
    ≡ cond b before (cond c (Some n) None) → (c ≡ true → before ≡ None) → o ≡ cond c (Some n) before
new_or_before true true k n o before e is h = absurd (none-some k (sym (h refl) ∙ e))
new_or_before true false k n o before e is h = is
new_or_before false true k n o before e is h = is
new_or_before false false k n o before e is h = is ∙ sym e

-- after a net is added for a new code, this code has it, and other codes have the nets that they had
pub net_of-push : (nets : List Net) (code : List ℕ) (size : ℕ) → net_of nets code ≡ None → (other : List ℕ)
    → net_of (nets ++ record { code = code; size = size } ∷ []) other ≡ update bytes_eq (net_of nets) code
    (Some (length nets)) other
net_of-push nets code size none other =
    new_or_before (ltb (position_or_len (has_code other) nets) (length nets)) (bytes_eq code other)
    (position_or_len (has_code other) nets) (length nets)
    (net_of (nets ++ record { code = code; size = size } ∷ []) other) (net_of nets other)
    refl
    (position-push (has_code other) nets (record { code = code; size = size }))
    (λ same. ap (net_of nets) (sym ((bytes_eq-Decides code other).0 same)) ∙ none)

-- a place that is there only if it is below `n` is below `n`
unwrap_or-below : (b : Bool) (k n : ℕ) → ltb k n ≡ b → IsSome (cond b (Some k) None)
    → unwrap_or (cond b (Some k) None) 0 <
    n
unwrap_or-below true k n e h = ltb-true k n e
unwrap_or-below false k n e h = absurd (cc)

-- the net of a code is one of the nets
pub net_of-within : (nets : List Net) (code : List ℕ) → IsSome (net_of nets code)
    → unwrap_or (net_of nets code) 0 < length
    nets
net_of-within nets code some = unwrap_or-below (ltb (position_or_len (has_code code) nets) (length nets))
    (position_or_len (has_code code) nets) (length nets) refl some

-- the index has each code's net after one more net is added
pub AreIndexed-push : (nets : List Net) (old new : CodeIndex) (code : List ℕ) (size net : ℕ) → AreIndexed nets old
    → net_of nets code ≡ None → net ≡ length nets → net + 1 < 2 ^ 32
    → ((other : List ℕ) → net_at new other ≡ update bytes_eq (net_at old) code (Some net) other)
    → AreIndexed (nets ++ record { code = code; size = size } ∷ []) new
AreIndexed-push nets old new code size net was none last room changed = record {
  few = omega (arith, length_push nets (record { code = code; size = size }));
  found = λ other.
      let before : net_at old other ≡ net_of nets other = was.found other in
      changed other
      ∙ ap (λ (o : Option ℕ). cond (bytes_eq code other) (Some net) o) before
      ∙ ap (λ (n : ℕ). cond (bytes_eq code other) (Some n) (net_of nets other)) last
      ∙ sym (net_of-push nets code size none other);
}

-- ---- the codes of one byte

-- a code of one byte is that byte
pub code-one_byte : (code : List ℕ) → 1 ≤ length code → length code < 2 → get_or code 0 0 ∷ [] ≡ code
code-one_byte [] least below = absurd (omega (arith, least))
code-one_byte (byte ∷ []) least below = refl
code-one_byte (byte ∷ next ∷ rest) least below = absurd (omega (arith, below))

-- a net that is added changes no size of the nets before it
pub size_of-before : (nets : List Net) (i : ℕ) (n : Net) → i < length nets → size_of (nets ++ n ∷ []) i ≡ size_of nets i
unfolding size_of
size_of-before [] i n lt = absurd (omega (arith, lt))
size_of-before (m ∷ nets) zero n lt = refl
size_of-before (m ∷ nets) (suc i) n lt = size_of-before nets i n (omega (arith, lt))

-- the size at the number of the net that is added is that net's size
size_of-last : (nets : List Net) (n : Net) → size_of (nets ++ n ∷ []) (length nets) ≡ n.size
unfolding size_of
size_of-last [] n = refl
size_of-last (m ∷ nets) n = size_of-last nets n

-- a net that is added changes no net before it, nor its size
sized_net-before : (nets : List Net) (n : Net) (o : Option ℕ) → (IsSome o → unwrap_or o 0 < length nets)
    → option_map (sized_net (nets ++ n ∷ [])) o ≡ option_map (sized_net nets) o
sized_net-before nets n None within = refl
sized_net-before nets n (Some i) within = ap (λ (size : ℕ). Some (i, size))
    (size_of-before nets i n (within cc))

-- after a net is added for a new code, this code has it with its size, and other codes have what they had
sized_net_of-push : (nets : List Net) (code : List ℕ) (size : ℕ) → net_of nets code ≡ None → (other : List ℕ)
    → sized_net_of (nets ++ record { code = code; size = size } ∷ []) other
    ≡ (if bytes_eq code other then Some (length nets, size) else sized_net_of nets other)
sized_net_of-push nets code size none other =
    ap (option_map (sized_net (nets ++ n ∷ []))) (net_of-push nets code size none other) ∙ go (bytes_eq code other)
  where
    -- the net that is added
    n : Net
    n = record { code = code; size = size }

    -- whether the other code is the new one (`b`) or not
    go : (b : Bool) → option_map (sized_net (nets ++ n ∷ [])) (cond b (Some (length nets)) (net_of nets other))
        ≡ cond b (Some (length nets, size)) (sized_net_of nets other)
    go true = ap (λ (bits : ℕ). Some (length nets, bits)) (size_of-last nets n)
    go false = sized_net-before nets n (net_of nets other) (net_of-within nets other)

-- the table has the net of each code of one byte after one more net is added
pub HasOneByteCodes-push : (nets : List Net) (old new : List (Option (ℕ × ℕ))) (code : List ℕ) (size : ℕ) (net : ℕ × ℕ)
    → HasOneByteCodes nets old → net_of nets code ≡ None → net ≡ (length nets, size) → length new ≡ 256
    → ((byte : ℕ) → byte < 256 → one_byte_net_at new byte
    ≡ (if bytes_eq code (byte ∷ []) then Some net else one_byte_net_at old byte))
    → HasOneByteCodes (nets ++ record { code = code; size = size } ∷ []) new
HasOneByteCodes-push nets old new code size net was none is whole changed = (
  whole,
  λ byte lt.
      changed byte lt
      ∙ ap (λ (o : Option (ℕ × ℕ)). cond (bytes_eq code (byte ∷ [])) (Some net) o) (was.1 byte lt)
      ∙ ap (λ (n : ℕ × ℕ). cond (bytes_eq code (byte ∷ [])) (Some n) (sized_net_of nets (byte ∷ []))) is
      ∙ sym (sized_net_of-push nets code size none (byte ∷ [])),
)
