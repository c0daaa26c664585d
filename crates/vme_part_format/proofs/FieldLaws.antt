-- A field of a part that is read is the one whose bytes stand there (`..-ok`), and the bytes of a field that fits its
-- bounds are read as that field (`..-of_bytes`).
use Rattle.std.proofs.Common.{◌≡◌, ℕ, zero, suc, ◌+◌, ◌-◌, ◌^◌, ◌<◌, ◌≤◌, Bool, true, false, cond, ltb, eqb, ◌&&◌}
use Rattle.std.proofs.Common.{List, []}
use Rattle.std.proofs.Common.{◌∷◌, ◌++◌, length, get_or, take, drop, Option, Some, None, Result, Ok, Err, refl, sym}
use Rattle.std.proofs.Common.{ap}
use Rattle.std.proofs.Common.{subst, ◌∙◌, append_assoc, arith, inl, inr, ◌⊎◌}
use Rattle.std.specs.Prelude.{IfSome, nat_le, nat_lt, slice_get}
use Rattle.std.specs.Int.{Width, w16, w32, w64, byte_len, from_le_bytes, to_le_bytes}
use Rattle.std.proofs.lemmas.Bool.{and_from, and_parts, cases_lt, eqb-false, eqb-true, leb-true, le-leb, le-ltb}
use Rattle.std.proofs.lemmas.Bool.{false_from_ne_true, lt-ltb, ltb-false}
use Rattle.std.proofs.lemmas.Bool.{ltb-true}
use Rattle.std.proofs.lemmas.List.{drop_at, get_or-drop, get_or-take, get_or_past, length-append, length-take}
use Rattle.std.proofs.lemmas.List.{take-append-drop, take_at}
use Rattle.std.proofs.lemmas.Nat.{from_le_bytes-to_le_bytes_2, from_le_bytes-to_le_bytes_4}
use Rattle.std.proofs.lemmas.Nat.{from_le_bytes-to_le_bytes_8, le_bytes_2, le_bytes_4, le_bytes_8}
use Rattle.std.proofs.lemmas.Option.{same_Some}
use Rattle.vme_trace.specs.LineNumbers.{line_count}
use Rattle.vme_trace.specs.Names.{rule_number}
use Rattle.vme_trace.specs.Rules.{all_rules}
use Rattle.vme_trace.specs.declared.rule.Rule.{Rule}
use Rattle.vme_trace.proofs.EveryRule.{slice_get-all_rules}
use Rattle.vme_part_format.specs.declared.fault.PartFaultKind.TheVariants as fault
use Rattle.vme_part_format.specs.declared.fault.FieldFault.{FieldFault}
use Rattle.vme_part_format.specs.declared.table.TableEntry.{TableEntry}
use Rattle.vme_part_format.specs.declared.wide.WideBreak.{WideBreak}
use Rattle.vme_part_format.specs.Bounds.{CanWrite, FitsBreak, FitsEntry}
use Rattle.vme_part_format.specs.PartText.{entry_bytes, first_break_bytes, flag, way_bytes}
use Rattle.vme_part_format.specs.Reading.{◌>>=◌, break_at, byte_at, entry_at, first_break_at, first_break_by, fault_at}
use Rattle.vme_part_format.specs.Reading.{flag_at}
use Rattle.vme_part_format.specs.Reading.{may_break, number_at, or_fault, read_break, way_at, way_number_at}

-- each number of the list is below 256
abbrev pub IsBytes : List ℕ → Type 0
IsBytes bytes = (i : ℕ) → get_or bytes i 0 < 256

-- bytes without their first n are bytes
pub IsBytes-drop : (n : ℕ) (bytes : List ℕ) → IsBytes bytes → IsBytes (drop n bytes)
IsBytes-drop n bytes h i = rw get_or-drop (h (n + i))

-- the first n of some bytes are bytes
pub IsBytes-take : (n : ℕ) (bytes : List ℕ) → IsBytes bytes → IsBytes (take n bytes)
IsBytes-take n bytes h i =
    elim (cases_lt i n) [
      | inl lt ↦ rw (get_or-take n bytes i 0 lt) (h i)
      | inr le ↦ rw (get_or_past (take n bytes) i 0 (omega (arith, length-take n bytes))) (omega arith)
    ]

-- bytes without the first are bytes
pub IsBytes-rest : (b : ℕ) (bytes : List ℕ) → IsBytes (b ∷ bytes) → IsBytes bytes
IsBytes-rest b bytes h i = h (suc i)

-- if a bind succeeds, so do its first reader and its continuation
pub bind_ok : {A B : Type 0} (r : Result A FieldFault) (f : A → Result B FieldFault) (y : B) → (r >>= f) ≡ Ok y
    → (x : A) × (r ≡ Ok x) × (f x ≡ Ok y)
bind_ok (Ok x) f y e = (x, refl, e)
bind_ok (Err d) f y e = absurd cc

-- if a test with a fault in one branch succeeds, it took the other branch
pub cond-err_then_ok : {A : Type 0} (b : Bool) (d : FieldFault) (x y : A) → cond b (Err d) (Ok x) ≡ Ok y
    → (b ≡ false) × (x ≡ y)
cond-err_then_ok true d x y e = absurd cc
cond-err_then_ok false d x y e = (refl, cc)

-- if a test with a fault in its other branch succeeds, it took the first
pub cond-ok_then_err : {A : Type 0} (b : Bool) (d : FieldFault) (x y : A) → cond b (Ok x) (Err d) ≡ Ok y
    → (b ≡ true) × (x ≡ y)
cond-ok_then_err true d x y e = (refl, cc)
cond-ok_then_err false d x y e = absurd cc

-- a field that was read without a fault
abbrev field_ok : {A : Type 0} → A → Result A FieldFault
field_ok x = Ok x

-- successes that are equal have equal values
pub Ok-injective : {A : Type 0} (x y : A) → field_ok x ≡ field_ok y → x ≡ y
Ok-injective x y e = cc

-- an option that has a value
abbrev some_value : {A : Type 0} → A → Option A
some_value x = Some x

-- if there is no fault, the option has the value
pub or_fault-ok : {A : Type 0} (d : FieldFault) (o : Option A) (y : A) → or_fault d o ≡ Ok y → o ≡ Some y
or_fault-ok d None y e = absurd cc
or_fault-ok d (Some x) y e = ap (λ (z : _). some_value z) (Ok-injective x y e)

-- a reader took `text` from the front of `bytes`, and left `rest`
pub record Takes (bytes text rest : List ℕ) : Type 0 where
  pub parts : bytes ≡ text ++ rest
  pub rest_fits : IsBytes rest

-- if a reader took x and left b, and another took y of b and left c, both took x and then y
pub Takes-append : (a x b y c : List ℕ) → Takes a x b → Takes b y c → Takes a (x ++ y) c
Takes-append a x b y c p q = record {
  parts = p.parts ∙ ap (λ (t : List ℕ). x ++ t) q.parts ∙ sym (append_assoc x y c);
  rest_fits
      = q.rest_fits;
}

-- ---- numbers

-- numbers below `limit` have `w` bytes, and are the same when written and read, or read and written
pub record IsWide (w : Width) (limit : ℕ) : Type 0 where
  pub len : (n : ℕ) → length (to_le_bytes w n) ≡ byte_len w
  pub back : (bytes : List ℕ) → length bytes ≡ byte_len w → IsBytes bytes
      → to_le_bytes w (from_le_bytes w bytes) ≡ bytes
  pub again : (n : ℕ) → n < limit → from_le_bytes w (to_le_bytes w n) ≡ n
  pub below : (bytes : List ℕ) → IsBytes bytes → from_le_bytes w bytes < limit

-- numbers of 2 bytes are those below 2^16
pub wide16 : IsWide w16 (2 ^ 16)
wide16 = record {
  len = λ n. refl;
  back = λ bytes len fits. le_bytes_2 bytes _ len fits refl;
  again = λ n lt. from_le_bytes-to_le_bytes_2 n lt;
  below = λ bytes fits. omega (arith, fits 0, fits 1);
}

-- numbers of 4 bytes are those below 2^32
pub wide32 : IsWide w32 (2 ^ 32)
wide32 = record {
  len = λ n. refl;
  back = λ bytes len fits. le_bytes_4 bytes _ len fits refl;
  again = λ n lt. from_le_bytes-to_le_bytes_4 n lt;
  below = λ bytes fits. omega (arith, fits 0, fits 1, fits 2, fits 3);
}

-- numbers of 8 bytes are those below 2^64
pub wide64 : IsWide w64 (2 ^ 64)
wide64 = record {
  len = λ n. refl;
  back = λ bytes len fits. le_bytes_8 bytes _ len fits refl;
  again = λ n lt. from_le_bytes-to_le_bytes_8 n lt;
  below = λ bytes fits. omega (arith, fits 0, fits 1, fits 2, fits 3, fits 4, fits 5, fits 6, fits 7);
}

-- the number n that is read is below the limit, and its bytes stand there
pub number_at-ok : (w : Width) (limit : ℕ) (wide : IsWide w limit) (bytes : List ℕ) (n : ℕ) (rest : List ℕ)
    → IsBytes bytes → number_at w bytes ≡ Ok (n, rest) → Takes bytes (to_le_bytes w n) rest × (n < limit)
number_at-ok w limit wide bytes n rest fits e =
    let g = cond-err_then_ok (ltb (length bytes) (byte_len w)) (fault_at fault.CutShort bytes)
    (from_le_bytes w (take (byte_len w) bytes), drop (byte_len w) bytes) (n, rest) e in
    let long : byte_len w ≤ length bytes = ltb-false _ _ g.0 in
    let n-is : from_le_bytes w (take (byte_len w) bytes) ≡ n = ap (λ (p : ℕ × List ℕ). p.0) g.1 in
    let rest-is : drop (byte_len w) bytes ≡ rest = ap (λ (p : ℕ × List ℕ). p.1) g.1 in
    let front : to_le_bytes w n ≡ take (byte_len w) bytes =
    rw (← n-is) (wide.back (take (byte_len w) bytes) (omega (arith, length-take (byte_len w) bytes))
    (IsBytes-take (byte_len w) bytes fits)) in (
      record {
        parts = rw (front, ← rest-is) (sym (take-append-drop (byte_len w) bytes));
        rest_fits = rw (← rest-is) (IsBytes-drop (byte_len w) bytes fits);
      },
      rw (← n-is) (wide.below (take (byte_len w) bytes) (IsBytes-take (byte_len w) bytes fits)),
    )

-- the bytes of a number below the limit are read as that number
pub number_at-of_bytes : (w : Width) (limit : ℕ) (wide : IsWide w limit) (n : ℕ) (rest : List ℕ) → n < limit
    → number_at w (to_le_bytes w n ++ rest) ≡ Ok (n, rest)
number_at-of_bytes w limit wide n rest lt =
    let len = wide.len n in
    let long : ltb (length (to_le_bytes w n ++ rest)) (byte_len w) ≡ false =
    le-ltb _ _ (omega (arith, length-append (to_le_bytes w n) rest)) in
    rw (
      long,
      take_at (to_le_bytes w n) rest (byte_len w) len,
      drop_at (to_le_bytes w n) rest (byte_len w) len,
      wide.again n lt,
    ) refl

-- the byte that is read stands there
pub byte_at-ok : (bytes : List ℕ) (x : ℕ × List ℕ) → IsBytes bytes → byte_at bytes ≡ Ok x
    → Takes bytes (x.0 ∷ []) x.1 × (x.0 < 256)
byte_at-ok [] x fits e = absurd cc
byte_at-ok (b ∷ bytes) x fits e =
    subst (λ (y : ℕ × List ℕ). Takes (b ∷ bytes) (y.0 ∷ []) y.1 × (y.0 < 256)) (Ok-injective (b, bytes) x e)
    (record { parts = refl; rest_fits = IsBytes-rest b bytes fits }, fits 0)

-- the byte of the flag that is read stands there
pub flag_at-ok : (bytes : List ℕ) (x : Bool × List ℕ) → IsBytes bytes → flag_at bytes ≡ Ok x
    → Takes bytes (flag x.0 ∷ []) x.1
unfolding flag_at
flag_at-ok [] x fits e = absurd cc
flag_at-ok (zero ∷ bytes) x fits e =
    subst (λ (y : Bool × List ℕ). Takes (0 ∷ bytes) (flag y.0 ∷ []) y.1) (Ok-injective (false, bytes) x e)
    (record { parts = refl; rest_fits = IsBytes-rest 0 bytes fits })
flag_at-ok (suc zero ∷ bytes) x fits e =
    subst (λ (y : Bool × List ℕ). Takes (1 ∷ bytes) (flag y.0 ∷ []) y.1) (Ok-injective (true, bytes) x e)
    (record { parts = refl; rest_fits = IsBytes-rest 1 bytes fits })
flag_at-ok (suc (suc b) ∷ bytes) x fits e = absurd cc

-- the byte of a flag is read as that flag
pub flag_at-of_bytes : (b : Bool) (rest : List ℕ) → flag_at (flag b ∷ rest) ≡ Ok (b, rest)
unfolding flag_at
flag_at-of_bytes true rest = refl
flag_at-of_bytes false rest = refl

-- ---- breaks

-- the rules of the list are numbered from k on
is_numbered : ℕ → List Rule → Bool
is_numbered k [] = true
is_numbered k (r ∷ rs) = eqb (rule_number r) k && is_numbered (k + 1) rs

-- the list of all rules is numbered from 0 on
is_numbered-all_rules : is_numbered 0 all_rules ≡ true
unfolding is_numbered
is_numbered-all_rules = refl

-- in a list that is numbered from k on, the rule with the index n has the number k + n
rule_number-at : (k : ℕ) (rs : List Rule) (n : ℕ) (r : Rule) → is_numbered k rs ≡ true → slice_get rs n ≡ Some r
    → rule_number r ≡ k + n
unfolding is_numbered
rule_number-at k [] n r ok e = absurd cc
rule_number-at k (q ∷ rs) zero r ok e =
    let p = and_parts (eqb (rule_number q) k) (is_numbered (k + 1) rs) ok in
    subst (λ (s : Rule). rule_number s ≡ k + 0) (same_Some q r e) (omega (arith, eqb-true (rule_number q) k p.0))
rule_number-at k (q ∷ rs) (suc n) r ok e =
    let p = and_parts (eqb (rule_number q) k) (is_numbered (k + 1) rs) ok in
    omega (arith, rule_number-at (k + 1) rs n r p.1 e)

-- the rule with the index n in `all_rules` has the number n
pub rule_number-all_rules : (n : ℕ) (r : Rule) → slice_get all_rules n ≡ Some r → rule_number r ≡ n
rule_number-all_rules n r e = omega (arith, rule_number-at 0 all_rules n r is_numbered-all_rules e)

-- the bytes of a break after the number of its rule
abbrev pub break_bytes : WideBreak → List ℕ
break_bytes b = b.line ∷ (to_le_bytes w64 b.instant ++ to_le_bytes w64 b.time)

-- `break_at` read a break of `rule` from `bytes`
pub record BreakTaken (steps : ℕ) (rule : Rule) (bytes : List ℕ) (x : Option WideBreak × List ℕ) : Type 0 where
  pub found : WideBreak
  pub is : x.0 ≡ Some found
  pub of : found.rule ≡ rule
  pub fits : FitsBreak steps found
  pub taken : Takes bytes (break_bytes found) x.1

-- the test of a break asks for a line of the bus, and an instant from 1 to `steps`
may_break-parts : (steps line instant : ℕ) → may_break steps line instant ≡ true
    → (line < line_count) × (0 < instant) × (instant ≤ steps)
may_break-parts steps line instant e =
    let p = and_parts (nat_lt line line_count && nat_lt 0 instant) (nat_le instant steps) e in
    let q = and_parts (nat_lt line line_count) (nat_lt 0 instant) p.0 in
    (ltb-true _ _ q.0, ltb-true _ _ q.1, leb-true _ _ p.1)

-- the break that is read is one of the rule and within its bounds, and its bytes stand there
pub break_at-ok : (steps : ℕ) (rule : Rule) (bad : FieldFault) (bytes : List ℕ) (x : Option WideBreak × List ℕ)
    → IsBytes bytes → break_at steps rule bad bytes ≡ Ok x → BreakTaken steps rule bytes x
unfolding break_at
break_at-ok steps rule bad bytes x fits e =
    let a = bind_ok (byte_at bytes) (λ line. number_at w64 line.1 >>= λ instant. number_at w64 instant.1 >>= λ time.
    cond (may_break steps line.0 instant.0) (Ok (Some (read_break rule line.0 instant.0 time.0), time.1)) (Err bad))
    x e in
    let b = bind_ok (number_at w64 a.0.1) (λ instant. number_at w64 instant.1 >>= λ time.
    cond (may_break steps a.0.0 instant.0) (Ok (Some (read_break rule a.0.0 instant.0 time.0), time.1)) (Err bad))
    x a.2 in
    let c = bind_ok (number_at w64 b.0.1) (λ time.
    cond (may_break steps a.0.0 b.0.0) (Ok (Some (read_break rule a.0.0 b.0.0 time.0), time.1)) (Err bad)) x b.2 in
    let g = cond-ok_then_err (may_break steps a.0.0 b.0.0) bad (Some (read_break rule a.0.0 b.0.0 c.0.0), c.0.1) x
    c.2 in
    let p = may_break-parts steps a.0.0 b.0.0 g.0 in
    let t0 = byte_at-ok bytes a.0 fits a.1 in
    let t1 = number_at-ok w64 (2 ^ 64) wide64 a.0.1 b.0.0 b.0.1 t0.0.rest_fits b.1 in
    let t2 = number_at-ok w64 (2 ^ 64) wide64 b.0.1 c.0.0 c.0.1 t1.0.rest_fits c.1 in
    let t12 = Takes-append a.0.1 (to_le_bytes w64 b.0.0) b.0.1 (to_le_bytes w64 c.0.0) c.0.1 t1.0 t2.0 in
    let t02 = Takes-append bytes (a.0.0 ∷ []) a.0.1 (to_le_bytes w64 b.0.0 ++ to_le_bytes w64 c.0.0) c.0.1 t0.0 t12 in
    subst (λ (y : Option WideBreak × List ℕ). BreakTaken steps rule bytes y) g.1
    (record {
      found = read_break rule a.0.0 b.0.0 c.0.0;
      is = refl;
      of = refl;
      fits = record { line = p.0; instant = (p.1, p.2, t1.1); time = t2.1 };
      taken = t02;
    })

-- the bytes of a break within its bounds are read as that break
pub break_at-of_bytes : (steps : ℕ) (bad : FieldFault) (b : WideBreak) (rest : List ℕ) → FitsBreak steps b
    → break_at steps b.rule bad (break_bytes b ++ rest) ≡ Ok (Some b, rest)
unfolding break_at
break_at-of_bytes steps bad b rest fits =
    let may : may_break steps b.line b.instant ≡ true =
    and_from (nat_lt b.line line_count && nat_lt 0 b.instant) (nat_le b.instant steps)
    (and_from (nat_lt b.line line_count) (nat_lt 0 b.instant) (lt-ltb _ _ fits.line) (lt-ltb _ _ fits.instant.0))
    (le-leb _ _ fits.instant.1) in
    let regrouped : break_bytes b ++ rest
    ≡ b.line ∷ (to_le_bytes w64 b.instant ++ (to_le_bytes w64 b.time ++ rest)) =
    ap (λ (t : List ℕ). b.line ∷ t) (append_assoc (to_le_bytes w64 b.instant) (to_le_bytes w64 b.time) rest) in
    ap (break_at steps b.rule bad) regrouped
    ∙ rw (
      number_at-of_bytes w64 (2 ^ 64) wide64 b.instant (to_le_bytes w64 b.time ++ rest) fits.instant.2,
      number_at-of_bytes w64 (2 ^ 64) wide64 b.time rest fits.time,
      may,
    ) refl

-- `number`, which is 1 more than the rule's number, and then `break_bytes` are the bytes of the break
first_break_bytes-with_number : (b : WideBreak) (number : ℕ) → 0 < number → rule_number b.rule ≡ number - 1
    → number ∷ break_bytes b ≡ first_break_bytes (Some b)
first_break_bytes-with_number b number some e = ap (λ (k : ℕ). k ∷ break_bytes b) (omega (arith, e))

-- a test gave z by one of its branches
pub cond-value : {A : Type 0} (b : Bool) (x y z : A) → cond b x y ≡ z → ((b ≡ true) × (x ≡ z)) ⊎ ((b ≡ false) × (y ≡ z))
cond-value true x y z e = inl (refl, e)
cond-value false x y z e = inr (refl, e)

-- x was read from `bytes`: they begin with its encoding, and it is within the bounds
abbrev FirstBreakTaken : ℕ → List ℕ → Option WideBreak × List ℕ → Type 0
FirstBreakTaken steps bytes x = Takes bytes (first_break_bytes x.0) x.1 × IfSome x.0 (FitsBreak steps)

-- the number 0 of a rule says that there is no break
FirstBreakTaken-none : (steps number : ℕ) (bytes : List ℕ) (x : Option WideBreak × List ℕ) → IsBytes bytes → number ≡ 0
    → (None, bytes) ≡ x → FirstBreakTaken steps (number ∷ bytes) x
FirstBreakTaken-none steps number bytes x fits zero-is e =
    subst (λ (n : ℕ). FirstBreakTaken steps (n ∷ bytes) x) (sym zero-is)
    (subst (λ (y : Option WideBreak × List ℕ). FirstBreakTaken steps (0 ∷ bytes) y) e
    (record { parts = refl; rest_fits = fits }, tt))

-- another number, and the break that is read after it, are the break of that rule
FirstBreakTaken-some : (steps : ℕ) (bad : FieldFault) (number : ℕ) (bytes : List ℕ) (x : Option WideBreak × List ℕ)
    → IsBytes bytes → 0 < number
    → (or_fault bad (slice_get all_rules (number - 1)) >>= λ rule. break_at steps rule bad bytes) ≡ Ok x
    → FirstBreakTaken steps (number ∷ bytes) x
FirstBreakTaken-some steps bad number bytes x fits some e =
    let a = bind_ok (or_fault bad (slice_get all_rules (number - 1))) (λ rule. break_at steps rule bad bytes) x e in
    let place : rule_number a.0 ≡ number - 1 =
    rule_number-all_rules (number - 1) a.0 (or_fault-ok bad (slice_get all_rules (number - 1)) a.0 a.1) in
    let r = break_at-ok steps a.0 bad bytes x fits a.2 in
    let named : number ∷ break_bytes r.found ≡ first_break_bytes (Some r.found) =
    first_break_bytes-with_number r.found number some (ap rule_number r.of ∙ place) in
    let took : Takes (number ∷ bytes) (number ∷ break_bytes r.found) x.1 =
    record { parts = ap (λ (t : List ℕ). number ∷ t) r.taken.parts; rest_fits = r.taken.rest_fits } in
    subst (λ (o : Option WideBreak). Takes (number ∷ bytes) (first_break_bytes o) x.1 × IfSome o (FitsBreak steps))
    (sym r.is) (subst (λ (t : List ℕ). Takes (number ∷ bytes) t x.1) named took, r.fits)

-- the break that is read after the number of its rule, or its absence, stands there
first_break_by-ok : (steps : ℕ) (bad : FieldFault) (number : ℕ) (bytes : List ℕ) (x : Option WideBreak × List ℕ)
    → IsBytes bytes → first_break_by steps bad number bytes ≡ Ok x → FirstBreakTaken steps (number ∷ bytes) x
unfolding first_break_by
first_break_by-ok steps bad number bytes x fits e =
    let none : Result (Option WideBreak × List ℕ) FieldFault = Ok (None, bytes) in
    let some = or_fault bad (slice_get all_rules (number - 1)) >>= λ rule. break_at steps rule bad bytes in
    elim (cond-value (eqb number 0) none some (Ok x) e) [
      | inl h ↦ FirstBreakTaken-none steps number bytes x fits (eqb-true number 0 h.0)
          (Ok-injective (None, bytes) x h.1)
      | inr h ↦ FirstBreakTaken-some steps bad number bytes x fits (omega (arith, eqb-false number 0 h.0)) h.1
    ]

-- the first break that is read, or its absence, is within its bounds, and its bytes stand there
pub first_break_at-ok : (steps : ℕ) (bytes : List ℕ) (x : Option WideBreak × List ℕ) → IsBytes bytes
    → first_break_at steps bytes ≡ Ok x → Takes bytes (first_break_bytes x.0) x.1 × IfSome x.0 (FitsBreak steps)
unfolding first_break_at
first_break_at-ok steps [] x fits e = absurd cc
first_break_at-ok steps (b ∷ bytes) x fits e =
    first_break_by-ok steps (fault_at fault.BadBreak (b ∷ bytes)) b bytes x (IsBytes-rest b bytes fits) e

-- after the number of its rule, the bytes of a break within its bounds are read as that break
first_break_by-of_bytes : (steps : ℕ) (bad : FieldFault) (b : WideBreak) (rest : List ℕ) → FitsBreak steps b
    → first_break_by steps bad (rule_number b.rule + 1) (break_bytes b ++ rest) ≡ Ok (Some b, rest)
unfolding first_break_by
first_break_by-of_bytes steps bad b rest fits =
    let some : eqb (rule_number b.rule + 1) 0 ≡ false =
    false_from_ne_true (eqb (rule_number b.rule + 1) 0)
    (λ e. omega (arith, eqb-true (rule_number b.rule + 1) 0 e)) in
    let one : rule_number b.rule + 1 - 1 ≡ rule_number b.rule = omega arith in
    rw (some, one, slice_get-all_rules b.rule) (break_at-of_bytes steps bad b rest fits)

-- the bytes of a first break within its bounds, or of its absence, are read as it
pub first_break_at-of_bytes : (steps : ℕ) (o : Option WideBreak) (rest : List ℕ) → IfSome o (FitsBreak steps)
    → first_break_at steps (first_break_bytes o ++ rest) ≡ Ok (o, rest)
unfolding first_break_at first_break_by
first_break_at-of_bytes steps None rest fits = refl
first_break_at-of_bytes steps (Some b) rest fits =
    first_break_by-of_bytes steps (fault_at fault.BadBreak ((rule_number b.rule + 1) ∷ (break_bytes b ++ rest))) b rest
    fits

-- ---- ways

-- the number of a way that is read fits its bytes, which stand there
pub way_number_at-ok : (listing : Bool) (bytes : List ℕ) (x : ℕ × List ℕ) → IsBytes bytes
    → way_number_at listing bytes ≡ Ok x → Takes bytes (way_bytes listing x.0) x.1 × CanWrite listing x.0
way_number_at-ok true bytes x fits e = number_at-ok w32 (2 ^ 32) wide32 bytes x.0 x.1 fits e
way_number_at-ok false bytes x fits e = byte_at-ok bytes x fits e

-- the bytes of the number of a way are read as that number, if it fits them
pub way_number_at-of_bytes : (listing : Bool) (n : ℕ) (rest : List ℕ) → CanWrite listing n
    → way_number_at listing (way_bytes listing n ++ rest) ≡ Ok (n, rest)
way_number_at-of_bytes true n rest fits = number_at-of_bytes w32 (2 ^ 32) wide32 n rest fits
way_number_at-of_bytes false n rest fits = refl

-- the way that is read is below `ways`, and its bytes stand there
pub way_at-ok : (listing : Bool) (ways : ℕ) (bytes : List ℕ) (x : ℕ × List ℕ) → IsBytes bytes
    → way_at listing ways bytes ≡ Ok x → Takes bytes (way_bytes listing x.0) x.1 × CanWrite listing x.0 × (x.0 < ways)
unfolding way_at
way_at-ok listing ways bytes x fits e =
    let bad = fault_at fault.BadWay bytes in
    let a = bind_ok (way_number_at listing bytes) (λ n. cond (ltb n.0 ways) (Ok n) (Err bad)) x e in
    let g = cond-ok_then_err (ltb a.0.0 ways) bad a.0 x a.2 in
    let t = way_number_at-ok listing bytes a.0 fits a.1 in
    subst
    (λ (y : ℕ × List ℕ). Takes bytes (way_bytes listing y.0) y.1 × CanWrite listing y.0 × (y.0 < ways))
    g.1 (t.0, t.1, ltb-true _ _ g.0)

-- the bytes of a way below `ways` are read as that way
pub way_at-of_bytes : (listing : Bool) (ways n : ℕ) (rest : List ℕ) → CanWrite listing n → n < ways
    → way_at listing ways (way_bytes listing n ++ rest) ≡ Ok (n, rest)
unfolding way_at
way_at-of_bytes listing ways n rest fits below =
    rw (way_number_at-of_bytes listing n rest fits, lt-ltb n ways below) refl

-- an entry that is read may be written
pub record IsEntry (listing : Bool) (steps ways : ℕ) (e : TableEntry) : Type 0 where
  pub fits : FitsEntry steps ways e
  pub can : CanWrite listing e.next

-- the entry that is read is within its bounds, and its bytes stand there
pub entry_at-ok : (listing : Bool) (steps ways : ℕ) (bytes : List ℕ) (x : TableEntry × List ℕ) → IsBytes bytes
    → entry_at listing steps ways bytes ≡ Ok x
    → Takes bytes (entry_bytes listing x.0) x.1 × IsEntry listing steps ways x.0
unfolding entry_at
entry_at-ok listing steps ways bytes x fits e =
    let a = bind_ok (way_at listing ways bytes)
    (λ next. first_break_at steps next.1 >>= λ first_break. Ok (
      record { next = next.0; first_break = first_break.0 },
      first_break.1,
    )) x e in
    let b = bind_ok (first_break_at steps a.0.1)
    (λ first_break. Ok (record { next = a.0.0; first_break = first_break.0 }, first_break.1)) x a.2 in
    let t0 = way_at-ok listing ways bytes a.0 fits a.1 in
    let t1 = first_break_at-ok steps a.0.1 b.0 t0.0.rest_fits b.1 in
    let t01 = Takes-append bytes (way_bytes listing a.0.0) a.0.1 (first_break_bytes b.0.0) b.0.1 t0.0 t1.0 in
    let made : TableEntry × List ℕ = (record { next = a.0.0; first_break = b.0.0 }, b.0.1) in
    subst
    (λ (y : TableEntry × List ℕ). Takes bytes (entry_bytes listing y.0) y.1 × IsEntry listing steps ways y.0)
    (Ok-injective made x b.2)
    (t01, record { fits = record { next = t0.2; first_break = t1.1 }; can = t0.1 })

-- the bytes of an entry within its bounds are read as that entry
pub entry_at-of_bytes : (listing : Bool) (steps ways : ℕ) (e : TableEntry) (rest : List ℕ)
    → IsEntry listing steps ways e
    → entry_at listing steps ways (entry_bytes listing e ++ rest) ≡ Ok (e, rest)
unfolding entry_at
entry_at-of_bytes listing steps ways e rest fits =
    ap (entry_at listing steps ways) (append_assoc (way_bytes listing e.next) (first_break_bytes e.first_break) rest)
    ∙ rw (
      way_at-of_bytes listing ways e.next (first_break_bytes e.first_break ++ rest) fits.can fits.fits.next,
      first_break_at-of_bytes steps e.first_break rest fits.fits.first_break,
    ) refl
