-- The levels of the lines after each instant of a dump are those after the instant before it, changed by the instant's
-- values.
use Rattle.std.proofs.Common.{◌≡◌, ◌≢◌, ℕ, zero, suc, ◌+◌, ◌<◌, ◌≤◌, Bool, true, false, cond, ◌&&◌, List, [], ◌∷◌, ◌++◌}
use Rattle.std.proofs.Common.{length, map, refl, sym, ap, ◌∙◌, arith, add-one, inl, inr, ◌⊎◌, Option, Some, None}
use Rattle.std.specs.Prelude.{nat_lt, ◌==◌, slice_get, is_some, option_and_then}
use Rattle.std.specs.List.{range_with_len}
use Rattle.std.specs.Option.{option_or, option_map_or}
use Rattle.std.proofs.lemmas.Bool.{and_from, and_right, cases_eq, cond-true, lt-ltb}
use Rattle.std.proofs.lemmas.Bool.Decides.{nat_tests}
use Rattle.std.proofs.lemmas.List.{length-set, map_push}
use Rattle.std.proofs.lemmas.List.FromFn.{get_or-map-range_with_len, length-map-range_with_len}
use Rattle.std.proofs.lemmas.Option.{unwrap_or-slice_get}
use Rattle.vme_trace.specs.Instants.{greatest, those}
use Rattle.vme_trace.specs.Levels.{Levels, level_at, set_level}
use Rattle.vme_trace.specs.LineNumbers.{line_count}
use Rattle.vme_trace.specs.Trace.{changed}
use Rattle.vme_trace.specs.declared.level.Level.{Level}
use Rattle.vme_trace.specs.declared.level.Level.TheVariants.{Unknown}
use Rattle.vme_trace.specs.declared.step.Change.{Change}
use Rattle.vme_trace.proofs.Changing.{slots-kept}
use Rattle.vcd_read.specs.declared.dump.Bit.{Bit}
use Rattle.vcd_read.specs.declared.dump.Instant.{Instant}
use Rattle.vcd_read.specs.declared.dump.Value.{Value}
use Rattle.vme_bind.specs.declared.net_lines.LineBit.{LineBit}
use Rattle.vme_bind.specs.declared.net_lines.NetLines.{NetLines}
use Rattle.vme_bind.specs.declared.bound_groups.BoundGroup.{BoundGroup}
use Rattle.vme_bind.specs.declared.bound_groups.LineSource.{LineSource}
use Rattle.vme_bind.specs.declared.bound_groups.LineSource.TheVariants.{Always, Bit as AtBit}
use Rattle.vme_bind.specs.BoundGroups.{line_source}
use Rattle.vme_bind.specs.NetLines.{line_bits_of, is_on, place_in, is_line_bit, line_bit_at, line_bits_below}
use Rattle.vme_bind.specs.Capture.{level_in, last_bits, values_of, bits_at, last_change, level_by, level_after}
use Rattle.vme_bind.specs.Capture.{levels_after}
use Rattle.vme_bind.specs.Recording.{line_change, valued}
use Rattle.vme_bind.proofs.RecorderLemmas.{same_levels, level_at-set_other, level_at-set_same, those-no, those-yes}
use Rattle.vme_bind.proofs.RecorderLemmas.{zero_le}

-- ---- changes of the lines of a range

-- one change more sets the level of its line
pub changed-append : (v : Levels) (cs : List Change) (c : Change) → changed v (cs ++ c ∷ []) ≡ set_level (changed v cs)
    c.line c.level
unfolding changed
changed-append v [] c = refl
changed-append v (d ∷ cs) c = changed-append (set_level v d.line d.level) cs c

-- changes leave the number of levels as it is
pub length-changed : (v : Levels) (cs : List Change) → length (changed v cs).levels ≡ length v.levels
unfolding changed
length-changed v [] = refl
length-changed v (c ∷ cs) = length-changed (set_level v c.line c.level) cs ∙ length-set v.levels c.line c.level

-- the change of the line `l` to its level by `g`
abbrev pub to_level : (ℕ → Level) → ℕ → Change
to_level g l = record { line = l; level = g l }

-- whether l, which isn't n, is below n + 1 is whether it is below n
lt_next : (l n : ℕ) → l ≢ n → nat_lt l n ≡ nat_lt l (n + 1)
lt_next l n ne = grind (arith, nat_tests)

-- n is below n + 1
lt_itself : (l n : ℕ) → l ≡ n → nat_lt l (n + 1) ≡ true
lt_itself l n e = grind (arith, nat_tests)

-- unless l is n and `p` holds for it, it is below n + 1 with `p` exactly if it is below n with `p`
tests_alike : (p : ℕ → Bool) (l n : ℕ) → (l ≢ n) ⊎ (p l ≡ false) → (nat_lt l n && p l) ≡ (nat_lt l (n + 1) && p l)
tests_alike p l n (inl ne) = ap (λ (b : Bool). b && p l) (lt_next l n ne)
tests_alike p l n (inr off) = and_right (nat_lt l n) (p l) off ∙ sym (and_right (nat_lt l (n + 1)) (p l) off)

-- the level of the line `l` after the lines `xs` got their levels by `g`
abbrev level_at_changed : (ℕ → Level) → Levels → ℕ → List ℕ → Level
level_at_changed g v l xs = level_at (changed v (map (to_level g) xs)) l

-- the line n, after the lines `xs`, gets its level by `g`
level_at_changed-append : (g : ℕ → Level) (v : Levels) (l n : ℕ) (xs : List ℕ) → level_at_changed g v l (xs ++ n ∷ [])
    ≡ level_at (set_level (changed v (map (to_level g) xs)) n (g n)) l
level_at_changed-append g v l n xs = ap (λ (cs : List Change). level_at (changed v cs) l) (map_push (to_level g) xs n)
    ∙ ap (λ (w : Levels). level_at w l) (changed-append v (map (to_level g) xs) (to_level g n))

-- if the changes of the lines of p below n give a line its level by g just where it is one of these, so do those of the
-- lines below n + 1
level_at_changed-next : (p : ℕ → Bool) (g : ℕ → Level) (v : Levels) (n l : ℕ) (b : Bool) → p n ≡ b → n < length v.levels
    → level_at_changed g v l (those p 0 n) ≡ cond (nat_lt l n && p l) (g l) (level_at v l)
    → level_at_changed g v l (those p 0 (n + 1)) ≡ cond (nat_lt l (n + 1) && p l) (g l) (level_at v l)
level_at_changed-next p g v n l true e lt so_far =
    ap (level_at_changed g v l) (those-yes p n e) ∙ level_at_changed-append g v l n (those p 0 n)
    ∙ elim (cases_eq l n) [
      | inl same ↦
          ap (level_at (set_level (changed v (map (to_level g) (those p 0 n))) n (g n))) same
          ∙ level_at-set_same (changed v (map (to_level g) (those p 0 n))) n (g n)
          (omega (arith, length-changed v (map (to_level g) (those p 0 n)), lt))
          ∙ ap g (sym same) ∙ sym (cond-true (nat_lt l (n + 1) && p l) (g l) (level_at v l)
          (and_from (nat_lt l (n + 1)) (p l) (lt_itself l n same) (ap p same ∙ e)))
      | inr ne ↦
          level_at-set_other (changed v (map (to_level g) (those p 0 n))) n l (g n) ne ∙ so_far
          ∙ ap (λ (b : Bool). cond b (g l) (level_at v l)) (tests_alike p l n (inl ne))
    ]
level_at_changed-next p g v n l false e lt so_far =
    ap (level_at_changed g v l) (those-no p n e) ∙ so_far
    ∙ ap (λ (b : Bool). cond b (g l) (level_at v l))
    (tests_alike p l n (elim (cases_eq l n) [ inl same ↦ inr (ap p same ∙ e) | inr ne ↦ inl ne ]))

-- no number is below 0
nat_lt-zero : (l : ℕ) → nat_lt l 0 ≡ false
nat_lt-zero l = grind (arith, nat_tests)

-- of the lines below n, those with `p` get the levels of `g`; the other lines keep theirs
pub level_at-changed_those : (p : ℕ → Bool) (g : ℕ → Level) (v : Levels) (n : ℕ) → n ≤ length v.levels → (l : ℕ)
    → level_at (changed v (map (λ k. record { line = k; level = g k }) (those p 0 n))) l ≡ cond (nat_lt l n && p l)
    (g l) (level_at v l)
unfolding changed those
level_at-changed_those p g v zero le l = ap (λ (b : Bool). cond (b && p l) (g l) (level_at v l)) (sym (nat_lt-zero l))
level_at-changed_those p g v (suc n) le l =
    let more : n + 1 ≡ suc n = omega arith in
    ap (λ (m : ℕ). level_at_changed g v l (those p 0 m)) (sym more)
    ∙ level_at_changed-next p g v n l (p n) refl (omega (arith, le))
    (level_at-changed_those p g v n (omega (arith, le)) l)
    ∙ ap (λ (m : ℕ). cond (nat_lt l m && p l) (g l) (level_at v l)) more

-- ---- the values of an instant

-- the level of a line with this source after values of an instant, where it was `base` before
abbrev pub by_values : ℕ → Option LineSource → List Value → Level → Level
by_values l None values base = base
by_values l (Some (Always level)) values base = base
by_values l (Some (AtBit bit)) values base = option_map_or (level_in l bit.place) (last_bits bit.net values) base

-- the level of the line `l` with this source, where its net has the value `bits`
abbrev pub line_bit_level : ℕ → Option LineSource → List Bit → Level
line_bit_level l source bits = level_in l (place_in source) bits

-- the level of a line after the first value and then the others is that after all
by_values-first : (l : ℕ) (source : Option LineSource) (v : Value) (values : List Value) (base : Level)
    → by_values l source values (cond (is_on v.net source) (line_bit_level l source v.bits) base) ≡ by_values l source
    (v ∷ values) base
by_values-first l None v values base = refl
by_values-first l (Some (Always level)) v values base = refl
by_values-first l (Some (AtBit bit)) v values base = by_last (last_bits bit.net values) (v.net == bit.net)
  where
    by_last : (later : Option (List Bit)) (here : Bool)
        → option_map_or (level_in l bit.place) later (cond here (level_in l bit.place v.bits) base)
        ≡ option_map_or (level_in l bit.place) (option_or later (cond here (Some v.bits) None)) base
    by_last None true = refl
    by_last None false = refl
    by_last (Some bits) here = refl

-- no values leave the level of a line as it was
by_values-none : (l : ℕ) (source : Option LineSource) (base : Level) → by_values l source [] base ≡ base
by_values-none l None base = refl
by_values-none l (Some (Always level)) base = refl
by_values-none l (Some (AtBit bit)) base = refl

-- the line bits are those of some bound groups
abbrev pub AreLineBits : ℕ → List BoundGroup → NetLines → Type 0
AreLineBits slots bound_groups line_bits = (net : ℕ) → line_bits_of line_bits net
    ≡ line_bits_below slots bound_groups net
    line_count

-- the changes of the lines `xs`, by their line bits, are those to the levels of their bits
line_change-line_bit_at : (slots : ℕ) (bound_groups : List BoundGroup) (bits : List Bit) (xs : List ℕ)
    → map (line_change bits)
    (map (line_bit_at slots bound_groups) xs)
    ≡ map (to_level (λ l. line_bit_level l (line_source slots bound_groups l) bits)) xs
line_change-line_bit_at slots bound_groups bits [] = refl
line_change-line_bit_at slots bound_groups bits (x ∷ xs) = ap
    (λ (cs : List Change). to_level (λ l. line_bit_level l (line_source slots bound_groups l) bits) x ∷ cs)
    (line_change-line_bit_at slots bound_groups bits xs)

-- the levels after one value of an instant
abbrev pub after_value : NetLines → Value → Levels → Levels
after_value line_bits v now = changed now (map (line_change v.bits) (line_bits_of line_bits v.net))

-- the level of a line after one value is that of its bit, where the value is one of its net, or else the one before
pub level_at-after_value : (slots : ℕ) (bound_groups : List BoundGroup) (line_bits : NetLines)
    → AreLineBits slots bound_groups line_bits
    → (v : Value) (now : Levels) → length now.levels ≡ line_count → (l : ℕ) → l < line_count
    → level_at (after_value line_bits v now) l ≡ cond (is_on v.net (line_source slots bound_groups l))
    (line_bit_level l (line_source slots bound_groups l) v.bits) (level_at now l)
unfolding is_line_bit
level_at-after_value slots bound_groups line_bits all v now e l lt =
    ap (λ (ts : List LineBit). level_at (changed now (map (line_change v.bits) ts)) l) (all v.net)
    ∙ ap (λ (cs : List Change). level_at (changed now cs) l) (line_change-line_bit_at slots bound_groups v.bits
    (those (is_line_bit slots bound_groups v.net) 0 line_count))
    ∙ level_at-changed_those (is_line_bit slots bound_groups v.net)
    (λ k. line_bit_level k (line_source slots bound_groups k)
    v.bits) now line_count (omega (arith, e)) l
    ∙ ap (λ (b : Bool). cond (b && is_line_bit slots bound_groups v.net l)
    (line_bit_level l (line_source slots bound_groups l) v.bits) (level_at now l)) (lt-ltb l line_count lt)

-- the values of an instant leave the number of levels as it is
pub length-valued : (line_bits : NetLines) (values : List Value) (now : Levels)
    → length (valued line_bits values now).levels ≡ length now.levels
length-valued line_bits [] now = refl
length-valued line_bits (v ∷ values) now = length-valued line_bits values (after_value line_bits v now)
    ∙ length-changed now (map (line_change v.bits) (line_bits_of line_bits v.net))

-- the values of an instant leave the number of slots as it is
pub slots-valued : (line_bits : NetLines) (values : List Value) (now : Levels) → (valued line_bits values now).slots
    ≡ now.slots
slots-valued line_bits [] now = refl
slots-valued line_bits (v ∷ values) now = slots-valued line_bits values (after_value line_bits v now)
    ∙ slots-kept now (map (line_change v.bits) (line_bits_of line_bits v.net))

-- after the values of an instant each line has the level that they give its source, or the one that it had
pub level_at-valued : (slots : ℕ) (bound_groups : List BoundGroup) (line_bits : NetLines)
    → AreLineBits slots bound_groups
    line_bits → (values : List Value) (now : Levels) → length now.levels ≡ line_count → (l : ℕ) → l < line_count
    → level_at (valued line_bits values now) l ≡ by_values l (line_source slots bound_groups l) values (level_at now l)
level_at-valued slots bound_groups line_bits all [] now e l lt =
    sym (by_values-none l (line_source slots bound_groups l)
    (level_at now l))
level_at-valued slots bound_groups line_bits all (v ∷ values) now e l lt =
    level_at-valued slots bound_groups line_bits all values (after_value line_bits v now)
    (length-changed now (map (line_change v.bits) (line_bits_of line_bits v.net)) ∙ e) l lt
    ∙ ap (by_values l (line_source slots bound_groups l) values)
    (level_at-after_value slots bound_groups line_bits all v now e l lt)
    ∙ by_values-first l (line_source slots bound_groups l) v values (level_at now l)

-- ---- one instant more

-- if `p` holds for n, n is the greatest number below n + 1 with `p`
greatest-yes : (p : ℕ → Bool) (n : ℕ) → p n ≡ true → greatest p 0 (n + 1) ≡ Some n
unfolding greatest
greatest-yes p n h = rw (add-one, zero_le n, h) refl

-- if `p` doesn't hold for n, the greatest number below n + 1 with `p` is that below n
greatest-no : (p : ℕ → Bool) (n : ℕ) → p n ≡ false → greatest p 0 (n + 1) ≡ greatest p 0 n
unfolding greatest
greatest-no p n h = rw (add-one, zero_le n, h) refl

module _ (slots : ℕ) (bound_groups : List BoundGroup) (instants : List Instant) where
  -- the level of a line by its bit after n + 1 instants is that of the bits `here` that its net gets at instant n, or
  -- else that after n instants
  level_by-bits : (n l net place : ℕ) (here : Option (List Bit)) → bits_at slots bound_groups instants net n ≡ here
      → option_map_or (level_in l place) (option_and_then (bits_at slots bound_groups instants net)
      (last_change slots bound_groups instants net (n + 1))) Unknown
      ≡ option_map_or (level_in l place) here
      (option_map_or (level_in l place) (option_and_then (bits_at slots bound_groups instants net)
      (last_change slots bound_groups instants net n)) Unknown)
  level_by-bits n l net place None e =
      ap (λ (o : Option ℕ). option_map_or (level_in l place) (option_and_then (bits_at slots bound_groups instants net)
      o) Unknown) (greatest-no (λ i. is_some (bits_at slots bound_groups instants net i)) n (ap is_some e))
  level_by-bits n l net place (Some bits) e =
      ap (λ (o : Option ℕ). option_map_or (level_in l place) (option_and_then (bits_at slots bound_groups instants net)
      o) Unknown) (greatest-yes (λ i. is_some (bits_at slots bound_groups instants net i)) n (ap is_some e))
      ∙ ap (λ (o : Option (List Bit)). option_map_or (level_in l place) o Unknown) e

  -- the level by a source after n + 1 instants is that after n, changed by the values of instant n
  level_by-next : (n l : ℕ) (source : Option LineSource) → level_by slots bound_groups instants (n + 1) l source
      ≡ by_values l source (values_of (slice_get instants n)) (level_by slots bound_groups instants n l source)
  level_by-next n l None = refl
  level_by-next n l (Some (Always level)) = refl
  level_by-next n l (Some (AtBit bit)) =
      level_by-bits n l bit.net bit.place (bits_at slots bound_groups instants bit.net n) refl

  -- the level after n + 1 instants is the level after n, changed by the values of instant n
  pub level_after-next : (n l : ℕ) → level_after slots bound_groups instants (n + 1) l
      ≡ by_values l (line_source slots bound_groups l) (values_of (slice_get instants n))
      (level_after slots bound_groups instants n l)
  unfolding level_after
  level_after-next n l = level_by-next n l (line_source slots bound_groups l)

  -- in the levels after n instants each line has the level that it has after n instants
  pub level_at-levels_after : (n l : ℕ) → l < line_count → level_at (levels_after slots bound_groups instants n) l
      ≡ level_after slots bound_groups instants n l
  unfolding levels_after
  level_at-levels_after n l lt =
      unwrap_or-slice_get (map (level_after slots bound_groups instants n) (range_with_len 0 line_count))
      l Unknown ∙ get_or-map-range_with_len (level_after slots bound_groups instants n) 0 line_count l l Unknown lt
      (omega arith)

  -- there is one level for each line after n instants
  pub length-levels_after : (n : ℕ) → length (levels_after slots bound_groups instants n).levels ≡ line_count
  unfolding levels_after
  length-levels_after n = length-map-range_with_len (level_after slots bound_groups instants n) 0 line_count

  -- the levels after n instants are of a backplane of `slots` slots
  pub slots-levels_after : (n : ℕ) → (levels_after slots bound_groups instants n).slots ≡ slots
  unfolding levels_after
  slots-levels_after n = refl

  -- the values of instant n lead from the levels before it to those after it
  pub valued-levels_after : (line_bits : NetLines) → AreLineBits slots bound_groups line_bits
      → (n : ℕ) (values : List Value)
      → values ≡ values_of (slice_get instants n)
      → valued line_bits values (levels_after slots bound_groups instants n) ≡ levels_after slots bound_groups instants
      (n + 1)
  valued-levels_after line_bits all n values e =
      same_levels (valued line_bits values (levels_after slots bound_groups instants n))
      (levels_after slots bound_groups instants (n + 1))
      (slots-valued line_bits values (levels_after slots bound_groups instants n) ∙ slots-levels_after n
      ∙ sym (slots-levels_after (n + 1)))
      (length-valued line_bits values (levels_after slots bound_groups instants n) ∙ length-levels_after n)
      (length-levels_after (n + 1))
      (λ l lt.
      level_at-valued slots bound_groups line_bits all values (levels_after slots bound_groups instants n)
      (length-levels_after n) l lt
      ∙ ap (λ (vs : List Value). by_values l (line_source slots bound_groups l) vs
      (level_at (levels_after slots bound_groups instants n) l)) e
      ∙ ap (by_values l (line_source slots bound_groups l) (values_of (slice_get instants n)))
      (level_at-levels_after n l lt)
      ∙ sym (level_after-next n l) ∙ sym (level_at-levels_after (n + 1) l lt))
