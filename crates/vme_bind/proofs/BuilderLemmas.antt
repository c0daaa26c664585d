-- The recording that is made as the changes of a dump are read is that of its instants.
use Rattle.std.proofs.Common.{◌≡◌, ◌≢◌, ℕ, zero, suc, ◌+◌, ◌<◌, Bool, true, false, cond, eqb, List, [], ◌∷◌, ◌++◌}
use Rattle.std.proofs.Common.{length, map, get_or, replicate, slice_set, refl, sym, ap, ◌∙◌, arith, append_assoc, inl}
use Rattle.std.proofs.Common.{inr, Option, Some, None}
use Rattle.std.specs.Prelude.{◌==◌, slice_get}
use Rattle.std.specs.Option.{option_or, option_map_or}
use Rattle.std.proofs.lemmas.Bool.{cases_eq, eq-eqb, ne_eqb}
use Rattle.std.proofs.lemmas.List.{length-set, length-replicate, get_or-set_same, get_or-set_other, length_push}
use Rattle.vme_trace.specs.Levels.{Levels, level_at}
use Rattle.vme_trace.specs.LineNumbers.{line_count}
use Rattle.vme_trace.specs.Followed.{with_steps}
use Rattle.vme_trace.specs.Trace.{Trace, changed}
use Rattle.vme_trace.specs.declared.level.Level.{Level}
use Rattle.vme_trace.proofs.Changing.{slots-kept}
use Rattle.vme_trace.proofs.ListLaws.{option_or-none, slice_get-here}
use Rattle.vcd_read.specs.declared.dump.Bit.{Bit}
use Rattle.vcd_read.specs.declared.dump.Instant.{Instant}
use Rattle.vcd_read.specs.declared.dump.Value.{Value}
use Rattle.vcd_read.specs.DumpProgress.{values_from}
use Rattle.vcd_read.proofs.CurrentValues.{CurrentValues}
use Rattle.vme_bind.specs.declared.net_lines.NetLines.{NetLines}
use Rattle.vme_bind.specs.declared.bound_groups.BoundGroup.{BoundGroup}
use Rattle.vme_bind.specs.declared.bound_groups.LineSource.{LineSource}
use Rattle.vme_bind.specs.declared.bound_groups.LineSource.TheVariants.{Always, Bit as AtBit}
use Rattle.vme_bind.specs.BoundGroups.{line_source}
use Rattle.vme_bind.specs.NetLines.{line_bits_of, is_on}
use Rattle.vme_bind.specs.Capture.{level_in, last_bits, values_of, time_of, levels_after, recording}
use Rattle.vme_bind.specs.Recording.{RecorderLevels, line_change, valued, step_between}
use Rattle.vme_bind.specs.BuilderState.{BuilderState, IsBegun, builder_change, builder_instant}
use Rattle.vme_bind.proofs.RecorderLemmas.{same_levels}
use Rattle.vme_bind.proofs.CaptureLemmas.{AreLineBits, by_values, valued-levels_after, line_bit_level, after_value}
use Rattle.vme_bind.proofs.CaptureLemmas.{level_at-after_value}
use Rattle.vme_bind.proofs.CaptureLemmas.{length-valued, slots-valued, level_at-valued, length-levels_after}
use Rattle.vme_bind.proofs.CaptureLemmas.{length-changed}
use Rattle.vme_bind.proofs.OpeningLemmas.{recording-first, recording-more}

-- a net without a value in the current instant
abbrev no_bits : Option (List Bit)
no_bits = None

-- ---- the last bits of a net among the values of an instant

-- a value of another net isn't the last one of `net`
last_bits-other_net : (v : Value) (values : List Value) (net : ℕ) → v.net ≢ net → last_bits net (v ∷ values)
    ≡ last_bits net values
last_bits-other_net v values net ne =
    ap (λ (b : Bool). option_or (last_bits net values) (cond b (Some v.bits) None)) (ne_eqb v.net net ne)
    ∙ option_or-none (last_bits net values)

-- values of nets from n on are of no net below n
last_bits-below : (net n : ℕ) (current : CurrentValues) → net < n → last_bits net (values_from n current) ≡ None
last_bits-below net n [] lt = refl
last_bits-below net n (None ∷ current) lt = last_bits-below net (n + 1) current (omega (arith, lt))
last_bits-below net n (Some bits ∷ current) lt =
    let ne : n ≢ net = omega (arith, lt) in
    last_bits-other_net (record { net = n; bits = bits }) (values_from (n + 1) current) net ne
    ∙ last_bits-below net (n + 1) current
    (omega (arith, lt))

-- a value of `net` is its last one, if no later value is of `net`
last_bits-same_net : (n net : ℕ) (bits : List Bit) (values : List Value) → n ≡ net → last_bits net values ≡ None
    → last_bits net (record { net = n; bits = bits } ∷ values) ≡ Some bits
last_bits-same_net n net bits values e none =
    ap (λ (o : Option (List Bit)). option_or o (cond (eqb n net) (Some bits) None)) none
    ∙ ap (λ (b : Bool). cond b (Some bits) None) (eq-eqb n net e)

-- the last bits of a net among the current values are those at its place
pub last_bits-values_from : (current : CurrentValues) (n k net : ℕ) → n + k ≡ net
    → last_bits net (values_from n current)
    ≡ get_or current k None
last_bits-values_from [] n k net e = refl
last_bits-values_from (None ∷ current) n zero net e = last_bits-below net (n + 1) current (omega (arith, e))
last_bits-values_from (None ∷ current) n (suc k) net e = last_bits-values_from current (n + 1) k net (omega (arith, e))
last_bits-values_from (Some bits ∷ current) n zero net e = last_bits-same_net n net bits (values_from (n + 1) current)
    (omega (arith, e))
    (last_bits-below net (n + 1) current (omega (arith, e)))
last_bits-values_from (Some bits ∷ current) n (suc k) net e =
    let ne : n ≢ net = omega (arith, e) in
    last_bits-other_net (record { net = n; bits = bits }) (values_from (n + 1) current) net ne
    ∙ last_bits-values_from current (n + 1) k net
    (omega (arith, e))

-- ---- after one change more

-- setting the current value of `net` changes the last bits of that net alone
last_bits-set : (current : CurrentValues) (net at : ℕ) (bits : List Bit) → net < length current
    → last_bits at (values_from 0 (slice_set current net (Some bits))) ≡ cond (net == at) (Some bits)
    (last_bits at (values_from 0 current))
last_bits-set current net at bits lt =
    last_bits-values_from (slice_set current net (Some bits)) 0 at at (omega arith)
    ∙ elim (cases_eq net at) [
      | inl e ↦
          ap (λ (k : ℕ). get_or (slice_set current net (Some bits)) k None) (sym e) ∙ get_or-set_same current net
          (Some bits) None lt
          ∙ sym (ap (λ (b : Bool). cond b (Some bits) (last_bits at (values_from 0 current))) (eq-eqb net at e))
      | inr ne ↦
          get_or-set_other current net at (Some bits) None (λ e. ne (sym e))
          ∙ sym (last_bits-values_from current 0 at at (omega arith))
          ∙ sym (ap (λ (b : Bool). cond b (Some bits) (last_bits at (values_from 0 current))) (ne_eqb net at ne))
    ]

-- the level of a line after the current values and then `bits` for `net` is that after the values with `bits` set
by_values-set : (l net : ℕ) (source : Option LineSource) (current : CurrentValues) (bits : List Bit) (base : Level)
    → net < length current
    → cond (is_on net source) (line_bit_level l source bits) (by_values l source (values_from 0 current) base)
    ≡ by_values l source (values_from 0 (slice_set current net (Some bits))) base
by_values-set l net None current bits base lt = refl
by_values-set l net (Some (Always level)) current bits base lt = refl
by_values-set l net (Some (AtBit bit)) current bits base lt =
    by_test (net == bit.net) (last_bits bit.net (values_from 0 current))
    ∙ sym (ap (λ (o : Option (List Bit)). option_map_or (level_in l bit.place) o base)
    (last_bits-set current net bit.net bits lt))
  where
    by_test : (b : Bool) (o : Option (List Bit)) → cond b (level_in l bit.place bits)
        (option_map_or (level_in l bit.place) o base) ≡ option_map_or (level_in l bit.place) (cond b (Some bits) o) base
    by_test true o = refl
    by_test false o = refl

module _ (slots : ℕ) (bound_groups : List BoundGroup) (line_bits : NetLines)
    (all : AreLineBits slots bound_groups line_bits) where
  -- a change of a net, after other changes of the instant, replaces the net's value
  pub valued-set : (current : CurrentValues) (net : ℕ) (bits : List Bit) (v : Levels) → net < length current
      → length v.levels
      ≡ line_count
      → changed (valued line_bits (values_from 0 current) v) (map (line_change bits) (line_bits_of line_bits net))
      ≡ valued line_bits (values_from 0 (slice_set current net (Some bits))) v
  valued-set current net bits v lt len =
      let before : Levels = valued line_bits (values_from 0 current) v in
      let after : Levels = valued line_bits (values_from 0 (slice_set current net (Some bits))) v in
      let value : Value = record { net = net; bits = bits } in
      same_levels (after_value line_bits value before) after
      (slots-kept before (map (line_change bits) (line_bits_of line_bits net)) ∙ slots-valued line_bits
      (values_from 0 current) v ∙ sym (slots-valued line_bits (values_from 0 (slice_set current net (Some bits))) v))
      (length-changed before (map (line_change bits) (line_bits_of line_bits net)) ∙ length-valued line_bits
      (values_from 0 current) v ∙ len)
      (length-valued line_bits (values_from 0 (slice_set current net (Some bits))) v ∙ len)
      (λ l lt2.
      level_at-after_value slots bound_groups line_bits all value before
      (length-valued line_bits (values_from 0 current) v
      ∙ len) l lt2
      ∙ ap (cond (is_on net (line_source slots bound_groups l)) (line_bit_level l (line_source slots bound_groups l)
      bits)) (level_at-valued slots bound_groups line_bits all (values_from 0 current) v len l lt2)
      ∙ by_values-set l net (line_source slots bound_groups l) current bits (level_at v l) lt
      ∙ sym (level_at-valued slots bound_groups line_bits all (values_from 0 (slice_set current net (Some bits))) v len
      l
      lt2))

-- ---- the builder's state

-- where no net has a value, there are no values
values_from-no_bits : (n k : ℕ) → values_from k (replicate n no_bits) ≡ []
values_from-no_bits zero k = refl
values_from-no_bits (suc n) k = values_from-no_bits n (k + 1)

-- `m` is the state of the builder after the first `n` instants, with the values `current` so far in the next
pub record IsMade (slots : ℕ) (bound_groups : List BoundGroup) (count : ℕ) (instants : List Instant) (n : ℕ)
    (current : CurrentValues) (m : BuilderState) : Type 0 where
  pub line_bits : AreLineBits slots bound_groups m.line_bits
  pub room : length current ≡ count
  pub shown : m.progress.shown ≡ levels_after slots bound_groups instants n
  pub now : m.progress.now ≡ valued m.line_bits (values_from 0 current) (levels_after slots bound_groups instants n)
  pub recorded : m.recorded ≡ recording slots bound_groups instants n

module _ (slots : ℕ) (bound_groups : List BoundGroup) (count : ℕ) (instants : List Instant) where
  -- the state of the builder, whichever instants follow those of `done`
  abbrev pub Makes : List Instant → CurrentValues → BuilderState → Type 0
  Makes done current m = (rest : List Instant) → instants ≡ done ++ rest → IsMade slots bound_groups count instants
      (length done) current m

  -- a change of a net keeps `Makes`
  pub makes-change : (done : List Instant) (current : CurrentValues) (m : BuilderState) (net : ℕ) (bits : List Bit)
      → net < count
      → Makes done current m → Makes done (slice_set current net (Some bits)) (builder_change m net bits)
  makes-change done current m net bits lt made rest e =
      let h = made rest e in
      let within : net < length current = omega (arith, lt, h.room) in
      record {
        line_bits = h.line_bits;
        room = length-set current net (Some bits) ∙ h.room;
        shown = h.shown;
        now =
            ap (λ (w : Levels). changed w (map (line_change bits) (line_bits_of m.line_bits net))) h.now
            ∙ valued-set slots bound_groups m.line_bits h.line_bits current net bits
            (levels_after slots bound_groups instants (length done)) within
            (length-levels_after slots bound_groups instants
            (length done));
        recorded = h.recorded;
      }

  -- no values leave the levels as they are
  valued-no_values : (line_bits : NetLines) (n : ℕ) (v : Levels) → v
      ≡ valued line_bits (values_from 0 (replicate n no_bits)) v
  valued-no_values line_bits n v = sym (ap (λ (values : List Value). valued line_bits values v)
      (values_from-no_bits n 0))

  -- the end of an instant keeps `Makes`: the instant is then the last of `done`
  pub makes-instant : (done : List Instant) (current : CurrentValues) (m : BuilderState) (time : ℕ) → Makes done current
      m
      → Makes (done ++ record { time = time; values = values_from 0 current } ∷ []) (replicate (length current) None)
      (builder_instant m time)
  makes-instant done current m time made rest e =
      let n = length done in
      let x : Instant = record { time = time; values = values_from 0 current } in
      let whole : instants ≡ done ++ x ∷ rest = e ∙ append_assoc done (x ∷ []) rest in
      let h = made (x ∷ rest) whole in
      let found : slice_get instants n ≡ Some x = ap (λ (xs : List Instant). slice_get xs n) whole
      ∙ slice_get-here done x
      rest in
      let v : Levels = levels_after slots bound_groups instants n in
      let count_more : n + 1 ≡ length (done ++ x ∷ []) = sym (length_push done x) in
      let levels : m.progress.now ≡ levels_after slots bound_groups instants (n + 1) = h.now ∙ valued-levels_after slots
      bound_groups instants m.line_bits h.line_bits n (values_from 0 current) (sym (ap values_of found)) in
      let after : m.progress.now ≡ levels_after slots bound_groups instants (length (done ++ x ∷ [])) = levels
      ∙ ap (λ (k : ℕ). levels_after slots bound_groups instants k) count_more in
      record {
        line_bits = h.line_bits;
        room = length-replicate (length current) None ∙ h.room;
        shown = after;
        now = after ∙ valued-no_values m.line_bits (length current) (levels_after slots bound_groups instants
            (length (done ++ x ∷ [])));
        recorded =
            ap (λ (t : Trace). with_steps t (step_between time m.progress.shown m.progress.now)) h.recorded
            ∙ ap (λ (w : Levels). with_steps (recording slots bound_groups instants n)
            (step_between time w m.progress.now)) h.shown
            ∙ ap (λ (w : Levels). with_steps (recording slots bound_groups instants n) (step_between time v w)) levels
            ∙ recording-more slots bound_groups instants n time (sym (ap time_of found))
            ∙ ap (λ (k : ℕ). recording slots bound_groups instants k) count_more;
      }

  -- before any change no instant is done, and no net has a value
  pub makes-first : (m : BuilderState) → IsBegun slots bound_groups m → Makes [] (replicate count None) m
  makes-first m begun rest e =
      let opens : m.recorded.opening ≡ levels_after slots bound_groups instants 0 = begun.first instants in
      record {
        line_bits = begun.line_bits;
        room = length-replicate count None;
        shown = ap (λ (p : RecorderLevels). p.shown) begun.progress ∙ opens;
        now = ap (λ (p : RecorderLevels). p.now) begun.progress ∙ opens ∙ valued-no_values m.line_bits count
            (levels_after slots bound_groups instants 0);
        recorded = recording-first slots bound_groups instants m.recorded opens begun.none;
      }
