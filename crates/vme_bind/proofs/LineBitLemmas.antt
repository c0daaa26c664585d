-- The line bits of each net are those of the lines with a bit of that net as their source, also as one line after the
-- other is added.
use Rattle.std.proofs.Common.{◌≡◌, ℕ, ◌+◌, ◌<◌, ◌≤◌, Bool, true, false, cond, List, [], ◌∷◌, ◌++◌, length, map, get_or}
use Rattle.std.proofs.Common.{drop, take, zero, suc, subst, inl, inr, refl, sym, ap, ◌∙◌, arith, Option, Some, None}
use Rattle.std.proofs.Common.{eqb, set}
use Rattle.std.proofs.Math.Dec.{eqb-suc-zero, eqb-zero-suc, eqb-suc-suc}
use Rattle.std.specs.Global.{Vec}
use Rattle.std.specs.Prelude.{◌==◌, IsTrue}
use Rattle.std.proofs.lemmas.Bool.{cases_Bool, cond-false, eqb-true, false≢true}
use Rattle.std.proofs.lemmas.List.{map_push, take_more}
use Rattle.std.proofs.lemmas.List.Elements.{All-append, All-cons, All-nil}
use Rattle.vme_trace.specs.Instants.{those}
use Rattle.vme_trace.specs.LineNumbers.{line_count, has_line}
use Rattle.vcd_read.specs.declared.dump.Value.{Value}
use Rattle.vme_trace.specs.Levels.{Levels, set_level}
use Rattle.vme_trace.specs.declared.level.Level.{Level}
use Rattle.vme_trace.specs.declared.step.Change.{Change}
use Rattle.vcd_read.specs.declared.dump.Bit.{Bit}
use Rattle.vme_bind.specs.Capture.{level_in}
use Rattle.vme_trace.specs.Trace.{changed}
use Rattle.vme_bind.specs.declared.net_lines.LineBit.{LineBit}
use Rattle.vme_bind.specs.declared.net_lines.NetLines.{NetLines}
use Rattle.vme_bind.specs.declared.bound_groups.BoundGroup.{BoundGroup}
use Rattle.vme_bind.specs.declared.bound_groups.BitPlace.{BitPlace}
use Rattle.vme_bind.specs.declared.bound_groups.LineSource.{LineSource}
use Rattle.vme_bind.specs.declared.bound_groups.LineSource.TheVariants.{Bit as AtBit}
use Rattle.vme_bind.specs.BoundGroups.{line_source}
use Rattle.vme_bind.specs.NetLines.{line_bits_of, line_bits_on, is_on, place_in, is_line_bit, line_bit_at}
use Rattle.vme_bind.specs.NetLines.{line_bits_below}
use Rattle.vme_bind.specs.Recording.{IsLine, AreLines, line_change, valued}
use Rattle.vme_bind.proofs.RecorderLemmas.{those-yes, those-no}
use Rattle.vme_bind.proofs.BoundGroupLemmas.{drop-element}
use Rattle.vme_bind.proofs.CaptureLemmas.{AreLineBits, changed-append}

-- the lines of a net that has an entry are those of the entry
pub line_bits_on-at : (nets : List (Vec LineBit)) (net : ℕ) (line_bits : Vec LineBit) → net < length nets
    → line_bits ≡ get_or nets net line_bits → line_bits_on nets net ≡ line_bits.items
unfolding line_bits_on
line_bits_on-at [] net line_bits lt e = absurd (omega (arith, lt))
line_bits_on-at (x ∷ nets) zero line_bits lt e = ap (λ (v : Vec LineBit). v.items) (sym e)
line_bits_on-at (x ∷ nets) (suc net) line_bits lt e = line_bits_on-at nets net line_bits (omega (arith, lt)) e

-- a net without an entry has no lines
pub line_bits_on-past : (nets : List (Vec LineBit)) (net : ℕ) → length nets ≤ net → line_bits_on nets net ≡ []
unfolding line_bits_on
line_bits_on-past [] net le = refl
line_bits_on-past (x ∷ nets) zero le = absurd (omega (arith, le))
line_bits_on-past (x ∷ nets) (suc net) le = line_bits_on-past nets net (omega (arith, le))

-- an entry without lines at the end changes the lines of no net
pub line_bits_on-push : (nets : List (Vec LineBit)) (none : Vec LineBit) (net : ℕ) → none.items ≡ []
    → line_bits_on (nets ++ none ∷ []) net ≡ line_bits_on nets net
unfolding line_bits_on
line_bits_on-push [] none zero e = e
line_bits_on-push [] none (suc net) e = refl
line_bits_on-push (x ∷ nets) none zero e = refl
line_bits_on-push (x ∷ nets) none (suc net) e = line_bits_on-push nets none net e

-- adding `line_bit` to the entry of `net` adds it to the lines of that net alone
pub line_bits_on-set : (nets : List (Vec LineBit)) (net : ℕ) (old new : Vec LineBit) (line_bit : LineBit)
    → net < length nets → old ≡ get_or nets net old → new.items ≡ old.items ++ line_bit ∷ [] → (k : ℕ)
    → line_bits_on (set nets net new) k
    ≡ cond (eqb k net) (line_bits_on nets net ++ line_bit ∷ []) (line_bits_on nets k)
unfolding line_bits_on
line_bits_on-set [] net old new line_bit lt is appended k = absurd (omega (arith, lt))
line_bits_on-set (x ∷ nets) zero old new line_bit lt is appended zero =
    appended ∙ ap (λ (v : Vec LineBit). v.items ++ line_bit ∷ []) is
line_bits_on-set (x ∷ nets) zero old new line_bit lt is appended (suc k) = sym
    (cond-false (eqb (suc k) 0) (x.items ++ line_bit ∷ []) (line_bits_on nets k) (eqb-suc-zero k))
line_bits_on-set (x ∷ nets) (suc net) old new line_bit lt is appended zero = sym
    (cond-false (eqb 0 (suc net)) (line_bits_on nets net ++ line_bit ∷ []) x.items (eqb-zero-suc net))
line_bits_on-set (x ∷ nets) (suc net) old new line_bit lt is appended (suc k) =
    line_bits_on-set nets net old new line_bit (omega (arith, lt)) is appended k
    ∙ ap (λ (b : Bool). cond b (line_bits_on nets net ++ line_bit ∷ []) (line_bits_on nets k))
    (sym (eqb-suc-suc k net))

-- adding `line_bit` to the entry of `net` adds it to the lines that `before` has on that net alone, if `nets` has the
-- lines that `before` has
pub line_bits_on-set_same : (before nets : List (Vec LineBit)) (net : ℕ) (old new : Vec LineBit) (line_bit : LineBit)
    → ((k : ℕ) → line_bits_on nets k ≡ line_bits_on before k) → net < length nets → old ≡ get_or nets net old
    → new.items ≡ old.items ++ line_bit ∷ [] → (k : ℕ) → line_bits_on (set nets net new) k
    ≡ cond (eqb k net) (line_bits_on before net ++ line_bit ∷ []) (line_bits_on before k)
line_bits_on-set_same before nets net old new line_bit same lt is appended k =
    line_bits_on-set nets net old new line_bit lt is appended k
    ∙ ap (λ (line_bits : List LineBit). cond (eqb k net) (line_bits ++ line_bit ∷ []) (line_bits_on nets k)) (same net)
    ∙ ap (cond (eqb k net) (line_bits_on before net ++ line_bit ∷ [])) (same k)

-- where no net has an entry, no line is added yet
pub AreBelow-zero : (line_bits : NetLines) (slots : ℕ) (bound_groups : List BoundGroup) → line_bits.nets.items ≡ []
    → (net : ℕ) → line_bits_of line_bits net ≡ line_bits_below slots bound_groups net 0
unfolding those line_bits_on
AreBelow-zero line_bits slots bound_groups e net = ap (λ (nets : List (Vec LineBit)). line_bits_on nets net) e

-- a line whose source is a bit of `net` is the last of the net's lines below n + 1
line_bits_below-on_net : (slots : ℕ) (bound_groups : List BoundGroup) (net n : ℕ)
    → is_on net (line_source slots bound_groups n)
    ≡ true → line_bits_below slots bound_groups net (n + 1) ≡ line_bits_below slots bound_groups net n
    ++ line_bit_at slots bound_groups n ∷ []
unfolding is_line_bit
line_bits_below-on_net slots bound_groups net n h = ap (map (line_bit_at slots bound_groups))
    (those-yes (is_line_bit slots bound_groups net) n h) ∙ map_push (line_bit_at slots bound_groups)
    (those (is_line_bit slots bound_groups net) 0 n) n

-- a line whose source isn't a bit of `net` is none of the net's lines
line_bits_below-not_on_net : (slots : ℕ) (bound_groups : List BoundGroup) (net n : ℕ)
    → is_on net (line_source slots bound_groups n)
    ≡ false → line_bits_below slots bound_groups net (n + 1) ≡ line_bits_below slots bound_groups net n
unfolding is_line_bit
line_bits_below-not_on_net slots bound_groups net n h = ap (map (line_bit_at slots bound_groups))
    (those-no (is_line_bit slots bound_groups net) n h)

-- each net has its lines below `n`
abbrev pub AreBelow : ℕ → List BoundGroup → NetLines → ℕ → Type 0
AreBelow slots bound_groups line_bits n = (net : ℕ) → line_bits_of line_bits net ≡ line_bits_below slots bound_groups
    net n

-- a line whose source is a bit is added to the lines of the bit's net
pub AreBelow-added : (old new : NetLines) (slots : ℕ) (bound_groups : List BoundGroup) (n : ℕ) (bit : BitPlace)
    (line_bit : LineBit) → Some (AtBit bit) ≡ line_source slots bound_groups n → line_bit
    ≡ record { line = n; place = bit.place }
    → ((k : ℕ) → line_bits_of new k ≡ cond (k == bit.net) (line_bits_of old bit.net ++ line_bit ∷ [])
    (line_bits_of old k))
    → AreBelow slots bound_groups old n → AreBelow slots bound_groups new (n + 1)
AreBelow-added old new slots bound_groups n bit line_bit e is added h net = added net ∙ by_net (net == bit.net) refl
  where
    on : is_on net (line_source slots bound_groups n) ≡ (net == bit.net)
    on = ap (is_on net) (sym e)

    here : line_bit ≡ line_bit_at slots bound_groups n
    here = is ∙ ap (λ (source : Option LineSource). record { line = n; place = place_in source }) e

    by_net : (b : Bool) → (net == bit.net) ≡ b → cond b (line_bits_of old bit.net ++ line_bit ∷ [])
        (line_bits_of old net) ≡ line_bits_below slots bound_groups net (n + 1)
    by_net true k =
        ap (λ (m : ℕ). line_bits_of old m ++ line_bit ∷ []) (sym (eqb-true net bit.net k))
        ∙ ap (λ (ts : List LineBit). ts ++ line_bit ∷ []) (h net)
        ∙ ap (λ (t : LineBit). line_bits_below slots bound_groups net n ++ t ∷ []) here
        ∙ sym (line_bits_below-on_net slots bound_groups net n (on ∙ k))
    by_net false k = h net ∙ sym (line_bits_below-not_on_net slots bound_groups net n (on ∙ k))

-- a line whose source isn't a bit is added to no net
pub AreBelow-not_added : (line_bits : NetLines) (slots : ℕ) (bound_groups : List BoundGroup) (n : ℕ)
    → ((net : ℕ) → is_on net (line_source slots bound_groups n) ≡ false) → AreBelow slots bound_groups line_bits n
    → AreBelow slots bound_groups line_bits (n + 1)
AreBelow-not_added line_bits slots bound_groups n none h net =
    h net ∙ sym (line_bits_below-not_on_net slots bound_groups net n (none net))

-- a line without a source is on no net
pub is_on-no_source : (slots : ℕ) (bound_groups : List BoundGroup) (n : ℕ) → None ≡ line_source slots bound_groups n
    → (net : ℕ)
    → is_on net (line_source slots bound_groups n) ≡ false
is_on-no_source slots bound_groups n e net = ap (is_on net) (sym e)

-- a line whose source is a bit of no net is on no net
pub is_on-source : (slots : ℕ) (bound_groups : List BoundGroup) (n : ℕ) (source : LineSource) → Some source
    ≡ line_source slots bound_groups n → ((net : ℕ) → is_on net (Some source) ≡ false) → (net : ℕ)
    → is_on net (line_source slots bound_groups n) ≡ false
is_on-source slots bound_groups n source e h net = ap (is_on net) (sym e) ∙ h net

-- a line with a source exists
pub has_line-source : (slots : ℕ) (bound_groups : List BoundGroup) (l : ℕ) (source : LineSource) → Some source
    ≡ line_source slots bound_groups l → IsTrue (has_line slots l)
has_line-source slots bound_groups l source e = by_has (has_line slots l) refl
  where
    by_has : (b : Bool) → has_line slots l ≡ b → IsTrue b
    by_has true h = refl
    by_has false h = let none : line_source slots bound_groups l ≡ None = rw h refl in
        absurd (let clash : Some source ≡ None = e ∙ none in cc)

-- a line whose source is a bit of a net exists
has_line-is_on : (slots : ℕ) (bound_groups : List BoundGroup) (net l : ℕ) (source : Option LineSource)
    → line_source slots
    bound_groups l ≡ source → is_on net source ≡ true → IsTrue (has_line slots l)
has_line-is_on slots bound_groups net l None e h = absurd (false≢true h)
has_line-is_on slots bound_groups net l (Some source) e h = has_line-source slots bound_groups l source (sym e)

-- the lines of a net are lines of the backplane
AreLines-below : (slots : ℕ) (bound_groups : List BoundGroup) (net n : ℕ) → n ≤ line_count
    → AreLines slots (line_bits_below slots bound_groups net n)
unfolding those
AreLines-below slots bound_groups net zero le = All-nil (λ (line_bit : LineBit). IsLine slots line_bit.line)
AreLines-below slots bound_groups net (suc n) le =
    let so_far : AreLines slots (line_bits_below slots bound_groups net n) = AreLines-below slots bound_groups net n
    (omega (arith, le)) in
    let one_more : n + 1 ≡ suc n = omega arith in
    subst (λ (m : ℕ). AreLines slots (line_bits_below slots bound_groups net m)) one_more
    (elim (cases_Bool (is_on net (line_source slots bound_groups n))) [
      | inl on ↦ subst (AreLines slots) (sym (line_bits_below-on_net slots bound_groups net n on))
          (All-append (λ (line_bit : LineBit). IsLine slots line_bit.line) (line_bits_below slots bound_groups net n)
          (line_bit_at slots bound_groups n ∷ []) so_far
          (All-cons (λ (line_bit : LineBit). IsLine slots line_bit.line) (line_bit_at slots bound_groups n) []
          (record {
            below = omega (arith, le);
            exists = has_line-is_on slots bound_groups net n
                (line_source slots bound_groups n) refl on;
          })
          (All-nil (λ (line_bit : LineBit). IsLine slots line_bit.line))))
      | inr off ↦ subst (AreLines slots) (sym (line_bits_below-not_on_net slots bound_groups net n off)) so_far
    ])

-- the lines of a net are lines of the backplane, where the line bits are those of some bound groups
pub AreLines-line_bits : (slots : ℕ) (bound_groups : List BoundGroup) (line_bits : NetLines)
    → AreLineBits slots bound_groups
    line_bits → (net : ℕ) → AreLines slots (line_bits_of line_bits net)
AreLines-line_bits slots bound_groups line_bits all net = subst (AreLines slots) (sym (all net))
    (AreLines-below slots bound_groups net line_count (omega arith))

-- the levels after the values from `i` on are those after value `i` and then those from `i + 1` on
pub valued-drop : (line_bits : NetLines) (values : List Value) (i : ℕ) (v : Value) (now : Levels) → i < length values
    → v ≡ get_or values i v
    → valued line_bits (drop i values) now ≡ valued line_bits (drop (i + 1) values)
    (changed now (map (line_change v.bits) (line_bits_of line_bits v.net)))
valued-drop line_bits values i v now lt e = ap (λ (vs : List Value). valued line_bits vs now)
    (drop-element values i v lt e)

-- the list `xs` and one element more, mapped by `f`
map-append_one : (f : LineBit → Change) (xs : List LineBit) (x : LineBit) → map f (xs ++ x ∷ []) ≡ map f xs ++ f x ∷ []
map-append_one f [] x = refl
map-append_one f (y ∷ xs) x = ap (λ (ys : List Change). f y ∷ ys) (map-append_one f xs x)

-- the changes of the first `i + 1` line bits are those of the first `i` and that of line bit `i`
pub changed-take_next : (line_bits : List LineBit) (bits : List Bit) (i : ℕ) (line_bit : LineBit) (v : Levels)
    (level : Level)
    → i < length line_bits → line_bit ≡ get_or line_bits i line_bit → level ≡ level_in line_bit.line line_bit.place bits
    → set_level (changed v (map (line_change bits) (take i line_bits))) line_bit.line level
    ≡ changed v (map (line_change bits) (take (i + 1) line_bits))
changed-take_next line_bits bits i line_bit v level lt e is =
    ap (set_level (changed v (map (line_change bits) (take i line_bits))) line_bit.line) is
    ∙ sym (changed-append v (map (line_change bits) (take i line_bits)) (line_change bits line_bit))
    ∙ ap (changed v) (sym (map-append_one (line_change bits) (take i line_bits) line_bit))
    ∙ ap (λ (ts : List LineBit). changed v (map (line_change bits) ts))
    (ap (λ (t : LineBit). take i line_bits ++ t ∷ []) e
    ∙ sym (take_more line_bits i line_bit lt))
