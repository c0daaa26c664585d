-- The context after an item that is read without a fault: no step of the reading has one, and the current time is that
-- of a time item, or else as it was.
use Rattle.std.proofs.Common.{◌≡◌, ℕ, ◌≤◌, Bool, true, false, cond, List, length, Result, Ok, Err, refl, sym, ap, ◌∙◌}
use Rattle.std.proofs.Common.{arith}
use Rattle.std.specs.Prelude.{nat_lt}
use Rattle.std.proofs.lemmas.Bool.{ltb-false}
use Rattle.vcd_read.specs.declared.fault.FaultKind.{FaultKind}
use Rattle.vcd_read.specs.Numbers.{number, time_of}
use Rattle.vcd_read.specs.Header.{◌>>=◌, at_line, Net, net_of}
use Rattle.vcd_read.specs.Body.{BodyContext, BodyItem, change, closed, context_after, context_after_all}
use Rattle.vcd_read.specs.Body.{dump_section_end}
use Rattle.vcd_read.specs.Body.{dump_section_open, fitting, opened_at, skipped, time_after, time_item, wrong}
use Rattle.vcd_read.proofs.ResultLemmas.{bind-ok}

-- a result with a line that is no fault is none without the line
at_line-ok : {A : Type 0} (line : ℕ) (r : Result A FaultKind) (x : A) → at_line line r ≡ Ok x → r ≡ Ok x
at_line-ok line (Ok a) x h = cc
at_line-ok line (Err kind) x h = absurd cc

-- a value that passes two tests is as it was
ok-after_two_tests : {A E : Type 0} (p q : Bool) (x y : A) (e f : E) → cond p (cond q (Ok x) (Err e)) (Err f) ≡ Ok y → x
    ≡ y
ok-after_two_tests true true x y e f h = cc
ok-after_two_tests true false x y e f h = absurd cc
ok-after_two_tests false q x y e f h = absurd cc

-- a time is the number that its digits denote
pub number-time_of : (digits : List ℕ) (time : ℕ) → time_of digits ≡ Ok time → number digits ≡ time
number-time_of digits time h = ok-after_two_tests _ _ _ _ _ _ h

-- a value that isn't refused is as it was, and `p` doesn't hold
ok-after_test : {A E : Type 0} (p : Bool) (x y : A) (e : E) → cond p (Err e) (Ok x) ≡ Ok y → (p ≡ false) × (x ≡ y)
ok-after_test true x y e h = absurd cc
ok-after_test false x y e h = (refl, cc)

-- an item that keeps the current time leaves it as it was
now-unchanged : {A : Type 0} (r : Result A FaultKind) (line : ℕ) (s next : BodyContext) (f : A → BodyContext)
    → ((x : A) → (f x).now ≡ s.now) → at_line line (r >>= λ x. Ok (f x)) ≡ Ok next → next.now ≡ s.now
now-unchanged r line s next f same h =
    let a = bind-ok r _ next (at_line-ok line _ next h) in
    let e : f a.0 ≡ next = cc in
    sym (ap (λ (s : BodyContext). s.now) e) ∙ same a.0

-- a time item without a fault denotes a time, which is then the current one, and isn't earlier than that before
pub context_after-time : (nets : List Net) (s next : BodyContext) (line : ℕ) (digits : List ℕ)
    → context_after nets s (time_item line digits) ≡ Ok next
    → (time_of digits ≡ Ok (number digits)) × (next.now ≡ number digits) × (s.now ≤ number digits)
context_after-time nets s next line digits h =
    let a = bind-ok (time_of digits) _ next (at_line-ok line _ next h) in
    let b = bind-ok (time_after s.now a.0) _ next a.2 in
    let n = number-time_of digits a.0 a.1 in
    let t = ok-after_test (nat_lt a.0 s.now) a.0 b.0 _ b.1 in
    let e : record s { now = b.0 } ≡ next = cc in (
      a.1 ∙ ap (λ (k : ℕ). Ok k) (sym n),
      sym (ap (λ (s : BodyContext). s.now) e) ∙ sym (n ∙ t.1),
      omega (arith, ltb-false a.0 s.now t.0, n),
    )

-- the time after an item
abbrev pub now_after : ℕ → BodyItem → ℕ
now_after now (time_item line digits) = number digits
now_after now item = now

-- the current time after an item without a fault is that of a time item, or else as before, and isn't earlier
pub now-now_after : (nets : List Net) (s next : BodyContext) (item : BodyItem) → context_after nets s item ≡ Ok next
    → (next.now ≡ now_after s.now item) × (s.now ≤ now_after s.now item)
now-now_after nets s next (time_item line digits) h =
    let t = context_after-time nets s next line digits h in
    (t.1, t.2)
now-now_after nets s next (change line digits code) h = (
  now-unchanged (fitting nets (length digits) (net_of nets code)) line s next (λ net. s) (λ net. refl) h,
  omega arith,
)
now-now_after nets s next (skipped line code) h = (
  now-unchanged (fitting nets 0 (net_of nets code)) line s next (λ net. s) (λ net. refl) h,
  omega arith,
)
now-now_after nets s next (dump_section_open line) h = (
  now-unchanged (opened_at line s.dump_section) line s next
      (λ dump_section. record s { dump_section = dump_section }) (λ dump_section. refl) h,
  omega arith,
)
now-now_after nets s next (dump_section_end line) h = (
  now-unchanged (closed s.dump_section) line s next
      (λ dump_section. record s { dump_section = dump_section }) (λ dump_section. refl) h,
  omega arith,
)
now-now_after nets s next (wrong line kind) h = absurd cc

-- if `item` and then `items` are read without a fault, there is a context `next` between them
pub context_after_all-first : (nets : List Net) (item : BodyItem) (items : List BodyItem) (s end : BodyContext)
    → (context_after nets s item >>= λ next. context_after_all nets next items) ≡ Ok end
    → (next : BodyContext) × (context_after nets s item ≡ Ok next) × (context_after_all nets next items ≡ Ok end)
context_after_all-first nets item items s end e =
    bind-ok (context_after nets s item) (λ next. context_after_all nets next items) end e
