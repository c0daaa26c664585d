-- A piece of a body that was read by itself gives, where it is joined, what its bytes would give if they were read
-- there.
use Rattle.std.proofs.Common.{◌≡◌, ℕ, ◌≤◌, Bool, true, false, cond, ◌&&◌, List, [], ◌∷◌, ◌++◌, Option, Some, None}
use Rattle.std.proofs.Common.{Result, Ok, Err, refl, sym, ap, ◌∙◌, subst, zero-add, arith}
use Rattle.std.specs.Prelude.{not, ◌==◌, unwrap_or, nat_lt}
use Rattle.std.proofs.lemmas.Bool.Decides.{nat_tests}
use Rattle.std.proofs.lemmas.List.{append-nil}
use Rattle.std.proofs.lemmas.Option.{same_Some}
use Rattle.vcd_read.specs.declared.dump.Bit.{Bit}
use Rattle.vcd_read.specs.declared.fault.FaultKind.{FaultKind}
use Rattle.vcd_read.specs.declared.fault.FaultKind.TheVariants.{BadToken, TimeBackwards}
use Rattle.vcd_read.specs.declared.fault.VcdFault.{VcdFault}
use Rattle.vcd_read.specs.Tokens.{Token, tokens_from}
use Rattle.vcd_read.specs.Numbers.{number, time_of, extended}
use Rattle.vcd_read.specs.Reading.{tokens_after}
use Rattle.vcd_read.specs.declared.open_item.OpenItem.{OpenItem}
use Rattle.vcd_read.specs.declared.open_item.OpenItem.TheVariants.{Ready}
use Rattle.vcd_read.specs.Bodies.{place_of}
use Rattle.vcd_read.specs.Header.{◌>>=◌, at_line, is_end, Net, net_of, size_of}
use Rattle.vcd_read.specs.Body.{BodyItem, time_item, change, skipped, dump_section_open, dump_section_end, wrong}
use Rattle.vcd_read.specs.Body.{BodyPlace}
use Rattle.vcd_read.specs.Body.{ready, code_of_vector, code_of_foreign, in_comment, Shape, time_shape, scalar, vector}
use Rattle.vcd_read.specs.Body.{foreign, comment, open_shape, end_shape, none, BodyContext, context_after, time_after}
use Rattle.vcd_read.specs.Body.{body_from, shape_of}
use Rattle.vcd_read.specs.BodyFold.{BodyFold, State, advanced, progress_after, reached_before, state_at, step, steps}
use Rattle.vcd_read.specs.BodyFold.{with_progress}
use Rattle.vcd_read.specs.Reached.{Reached, rest_of}
use Rattle.vcd_read.specs.DetachedPieces.{MayFollow, IsReadDetached, ReadDetached, before_piece, behind_piece, ended_at}
use Rattle.vcd_read.specs.DetachedPieces.{entered, detached_items, time_first, with_taken}
use Rattle.vcd_read.proofs.BodyLemmas.{commented, items_of, body_from-shape, reached_after}
use Rattle.vcd_read.proofs.ContextLemmas.{number-time_of}
use Rattle.vcd_read.proofs.ResultLemmas.{ok-same}

-- ---- the time that a piece begins with

-- a piece whose first token is a time begins with it
pub time_first-read : (ts others : List Token) (t : Token) (digits : List ℕ) (time : ℕ) → ts ≡ t ∷ others
    → time_shape digits
    ≡ shape_of t.bytes → time_of digits ≡ Ok time → time_first (body_from ready ts) ≡ Some time
time_first-read ts others t digits time cut shape is =
    ap (λ (x : List Token). time_first (body_from ready x)) cut
    ∙ ap time_first (body_from-shape t others (time_shape digits)
    shape) ∙ ap Some (number-time_of digits time is)

-- from place 0 on, all of a piece is left
pub tokens_after-start : (line : ℕ) (bytes : List ℕ) → tokens_after line bytes 0 ≡ tokens_from line bytes
tokens_after-start line bytes = ap (λ (l : ℕ). tokens_from l bytes) (zero-add line)

-- ---- items

module _ {A : Type 0} (with_change : A → ℕ → List Bit → A) (with_instant : A → ℕ → A) (nets : List Net) where
  -- the state after items, or their first fault
  abbrev Read : Type 0
  Read = Result (State A) VcdFault

  -- if `items ++ more` can be read in two parts from each state, they can after a result
  steps-append_after_result : (items more : List BodyItem) (r : Read)
      → ((s : State A) → steps with_change with_instant nets s
      (items ++ more) ≡ (steps with_change with_instant nets s items >>= λ end. steps with_change with_instant nets end
      more))
      → (r >>= λ next. steps with_change with_instant nets next (items ++ more))
      ≡ ((r >>= λ next. steps with_change with_instant nets next items) >>= λ end. steps with_change with_instant nets
      end more)
  steps-append_after_result items more (Ok s) rest = rest s
  steps-append_after_result items more (Err fault) rest = refl

  -- to read `items ++ more` is to read `items` and then `more`
  pub steps-append : (s : State A) (items more : List BodyItem) → steps with_change with_instant nets s (items ++ more)
      ≡ (steps with_change with_instant nets s items >>= λ end. steps with_change with_instant nets end more)
  unfolding steps
  steps-append s [] more = refl
  steps-append s (item ∷ items) more = steps-append_after_result items more (step with_change with_instant nets s item)
      (λ next. steps-append next items more)

  -- if reading `left` to its end, between two items, leads to `end`, reading the tokens `ts` gives `end`
  pub steps-to_end : (s end : State A) (place : OpenItem) (left ts : List Token) → left ≡ ts → place ≡ Ready
      → steps with_change with_instant nets s (body_from ready (left ++ [])) ≡ steps with_change with_instant nets end
      (body_from (place_of place) [])
      → steps with_change with_instant nets s (body_from ready ts) ≡ Ok end
  unfolding steps body_from
  steps-to_end s end place left ts e is h =
      ap (λ (ts : List Token). steps with_change with_instant nets s (body_from ready ts))
      (sym e ∙ sym (append-nil left))
      ∙ h ∙ ap (λ (p : OpenItem). steps with_change with_instant nets end (body_from (place_of p) [])) is

  -- a property `R` of what was taken, which each change and each end of an instant keeps, is kept by items
  module _ (R : A → Type 0) (on_change : (a : A) (net : ℕ) (bits : List Bit) → R a → R (with_change a net bits))
      (on_instant : (a : A) (time : ℕ) → R a → R (with_instant a time)) where
    -- the end of an instant, where `test` says that there is one, keeps `R`
    advanced-keeps : (p : BodyFold A) (time : ℕ) (test : Bool) → R p.accumulator
        → R (cond test (record { accumulator = with_instant p.accumulator p.time; time = time; has_instant = true })
        (record p { time = time; has_instant = true })).accumulator
    advanced-keeps p time true r = on_instant p.accumulator p.time r
    advanced-keeps p time false r = r

    -- an item keeps `R`
    item-keeps : (p : BodyFold A) (item : BodyItem) → R p.accumulator
        → R (progress_after with_change with_instant nets p
        item).accumulator
    item-keeps p (time_item line digits) r = advanced-keeps p (number digits)
        (p.has_instant && not (number digits == p.time))
        r
    item-keeps p (change line digits code) r = on_change p.accumulator (unwrap_or (net_of nets code) 0)
        (extended (size_of nets (unwrap_or (net_of nets code) 0)) digits) r
    item-keeps p item r = r

    -- if items that are read without a fault keep `R` from each state, they do from the context `stood` and the
    -- progress `p`
    steps-keep_after_context : (items : List BodyItem) (p : BodyFold A) (stood : Result BodyContext VcdFault)
        (end : State A)
        → ((next : State A) → R next.progress.accumulator → steps with_change with_instant nets next items ≡ Ok end
        → R end.progress.accumulator)
        → R p.accumulator
        → (with_progress p stood >>= λ next. steps with_change with_instant nets next items) ≡ Ok end
        → R end.progress.accumulator
    steps-keep_after_context items p (Ok next) end rest r is = rest (record { context = next; progress = p }) r is
    steps-keep_after_context items p (Err fault) end rest r is = absurd cc

    -- items that are read without a fault keep `R`
    pub steps-keep : (s : State A) (items : List BodyItem) (end : State A) → R s.progress.accumulator
        → steps with_change with_instant nets s items ≡ Ok end → R end.progress.accumulator
    unfolding steps
    steps-keep s [] end r is = subst (λ (x : State A). R x.progress.accumulator) (ok-same s end (Ok s) refl is) r
    steps-keep s (item ∷ items) end r is =
        steps-keep_after_context items (progress_after with_change with_instant nets s.progress item)
        (context_after nets s.context item) end (λ next kept. steps-keep next items end kept)
        (item-keeps s.progress item r) is

    -- a piece keeps `R`: if it holds of what was taken before the piece, it holds after it
    pub IsReadDetached-keeps : (bytes : List ℕ) (before : A) (detached : ReadDetached A)
        → IsReadDetached with_change with_instant nets
        bytes before detached → R before → R detached.progress.accumulator
    IsReadDetached-keeps bytes before detached is r = steps-keep (before_piece before detached.time)
        (detached_items detached.first_line bytes) (state_at detached.progress detached.dump_section) r is.whole

  -- ---- tokens whose items are all whole, and others after them

  module _ (more : List Token) where
    -- if items are read without a fault after a result, this is a state from which they are read so
    steps-after_result : (items : List BodyItem) (end : State A) (r : Read)
        → (r >>= λ next. steps with_change with_instant nets
        next items) ≡ Ok end
        → (next : State A) × (steps with_change with_instant nets next items ≡ Ok end)
    steps-after_result items end (Ok next) h = (next, h)
    steps-after_result items end (Err fault) h = absurd cc

    -- if the tokens `ts` are read without a fault, they end between two items: `more` is read as if it were alone
    abbrev AreWhole : BodyPlace → List Token → Type 0
    AreWhole place ts = (s end : State A) → steps with_change with_instant nets s (body_from place ts) ≡ Ok end
        → body_from place (ts ++ more) ≡ body_from place ts ++ body_from ready more

    -- if an item and tokens that are whole are read without a fault, `more` after them is read as if it were alone
    body_from-append_after_item : (item : BodyItem) (ts : List Token) (s end : State A) → AreWhole ready ts
        → steps with_change
        with_instant nets s (item ∷ body_from ready ts) ≡ Ok end
        → item ∷ body_from ready (ts ++ more) ≡ (item ∷ body_from ready ts) ++ body_from ready more
    unfolding steps
    body_from-append_after_item item ts s end rest h =
        let later = steps-after_result (body_from ready ts) end (step with_change with_instant nets s item) h in
        ap (λ (items : List BodyItem). item ∷ items) (rest later.0 end later.1)

    -- if a token of any shape and the tokens after it are read without a fault, `more` after them is read as if it were
    -- alone
    items_of-append : (shape : Shape) (line : ℕ) (ts : List Token) (s end : State A)
        → ((place : BodyPlace) → AreWhole place ts) → steps with_change with_instant nets s (items_of shape line ts)
        ≡ Ok end
        → items_of shape line (ts ++ more) ≡ items_of shape line ts ++ body_from ready more
    items_of-append (time_shape digits) line ts s end rest h = body_from-append_after_item (time_item line digits) ts s
        end (rest ready) h
    items_of-append (scalar digits code) line ts s end rest h = body_from-append_after_item (change line digits code) ts
        s end (rest ready) h
    items_of-append (vector digits) line ts s end rest h = rest (code_of_vector line digits) s end h
    items_of-append foreign line ts s end rest h = rest (code_of_foreign line) s end h
    items_of-append comment line ts s end rest h = rest (in_comment line) s end h
    items_of-append open_shape line ts s end rest h = body_from-append_after_item (dump_section_open line) ts s end
        (rest ready) h
    items_of-append end_shape line ts s end rest h = body_from-append_after_item (dump_section_end line) ts s end
        (rest ready) h
    items_of-append none line ts s end rest h = body_from-append_after_item (wrong line BadToken) ts s end (rest ready)
        h

    -- if a token in a comment, its `$end` if `test` holds, and the tokens after it are read without a fault, `more`
    -- after them is read as if it were alone
    in_comment-append : (test : Bool) (line : ℕ) (ts : List Token) (s end : State A)
        → ((place : BodyPlace) → AreWhole place ts)
        → steps with_change with_instant nets s (commented line ts test) ≡ Ok end
        → commented line (ts ++ more) test ≡ commented line ts test ++ body_from ready more
    in_comment-append true line ts s end rest h = rest ready s end h
    in_comment-append false line ts s end rest h = rest (in_comment line) s end h

    -- all tokens are whole, from each place in the grammar on
    pub AreWhole-all : (ts : List Token) (place : BodyPlace) → AreWhole place ts
    unfolding body_from steps
    AreWhole-all [] ready s end h = refl
    AreWhole-all [] place s end h = absurd cc
    AreWhole-all (t ∷ ts) ready s end h =
        let here = body_from-shape t ts (shape_of t.bytes) refl in
        body_from-shape t (ts ++ more) (shape_of t.bytes) refl
        ∙ items_of-append (shape_of t.bytes) t.line ts s end (AreWhole-all ts)
        (sym (ap (steps with_change with_instant nets s) here) ∙ h)
        ∙ sym (ap (λ (items : List BodyItem). items ++ body_from ready more) here)
    AreWhole-all (t ∷ ts) (code_of_vector line digits) s end h = body_from-append_after_item
        (change line digits t.bytes) ts s end
        (AreWhole-all ts ready) h
    AreWhole-all (t ∷ ts) (code_of_foreign line) s end h = body_from-append_after_item (skipped line t.bytes) ts s end
        (AreWhole-all ts ready) h
    AreWhole-all (t ∷ ts) (in_comment line) s end h = in_comment-append (is_end t.bytes) line ts s end (AreWhole-all ts)
        h

  -- ---- a time as the first item

  -- if a time item and the items after it are read without a fault, its digits are a time, their number
  time_of-after_steps : (s : BodyContext) (line : ℕ) (digits : List ℕ) (p : BodyFold A) (items : List BodyItem)
      (end : State A)
      (read : Result ℕ FaultKind) → time_of digits ≡ read
      → (with_progress p (at_line line (read >>= λ n. time_after s.now n >>= λ now. Ok (record s { now = now })))
      >>= λ next. steps with_change with_instant nets next items) ≡ Ok end
      → time_of digits ≡ Ok (number digits)
  time_of-after_steps s line digits p items end (Ok n) e h = e ∙ ap Ok (sym (number-time_of digits n e))
  time_of-after_steps s line digits p items end (Err kind) e h = absurd cc

  -- a time that is read without a fault is its number
  pub time_of-time_item : (s end : State A) (line : ℕ) (digits : List ℕ) (items : List BodyItem) → steps with_change
      with_instant nets s (time_item line digits ∷ items) ≡ Ok end → time_of digits ≡ Ok (number digits)
  unfolding steps
  time_of-time_item s end line digits items h = time_of-after_steps s.context line digits
      (progress_after with_change with_instant nets
      s.progress (time_item line digits)) items end (time_of digits) refl h

  -- a time that isn't earlier fails the test for an earlier one
  nat_lt-not_below : (now n : ℕ) → now ≤ n → nat_lt n now ≡ false
  nat_lt-not_below now n low = grind (arith, nat_tests)

  -- a time that isn't earlier becomes the current one
  context_after-time : (s : BodyContext) (line n : ℕ) (digits : List ℕ) → time_of digits ≡ Ok n → s.now ≤ n
      → context_after nets s
      (time_item line digits) ≡ Ok (record s { now = n })
  context_after-time s line n digits is low =
      ap (λ (read : Result ℕ FaultKind). at_line line (read >>= λ n. time_after s.now n >>= λ now. Ok
      (record s { now = now }))) is
      ∙ ap (λ (test : Bool). at_line line (cond test (Err TimeBackwards) (Ok n) >>= λ now. Ok (record s { now = now })))
      (nat_lt-not_below s.now n low)

  -- a time that isn't earlier is read, and becomes the current one
  pub steps-time_item : (s : State A) (line n : ℕ) (digits : List ℕ) (items : List BodyItem) → time_of digits ≡ Ok n
      → s.context.now ≤ n
      → steps with_change with_instant nets s (time_item line digits ∷ items)
      ≡ steps with_change with_instant nets (record {
        context = record { now = n; dump_section = s.context.dump_section };
        progress = advanced with_instant s.progress (number digits);
      }) items
  unfolding steps
  steps-time_item s line n digits items is low =
      ap (λ (stood : Result BodyContext VcdFault).
      (stood >>= λ next. Ok (record { context = next; progress = advanced with_instant s.progress (number digits) }))
      >>= λ next. steps with_change with_instant nets next items) (context_after-time s.context line n digits is low)

-- ---- what one visitor learns from another

module _ {A B : Type 0} (with_change : A → ℕ → List Bit → A) (with_instant : A → ℕ → A) (other_change : B → ℕ → List Bit
    → B) (other_instant : B → ℕ → B) (learned : A → B)
    (on_change : (a : A) (net : ℕ) (bits : List Bit) → learned (with_change a net bits) ≡ other_change (learned a) net
    bits)
    (on_instant : (a : A) (time : ℕ) → learned (with_instant a time) ≡ other_instant (learned a) time) where
  -- the progress of the other visitor, which has learned the accumulator
  abbrev pub learned_fold : BodyFold A → BodyFold B
  learned_fold p = record { accumulator = learned p.accumulator; time = p.time; has_instant = p.has_instant }

  -- the state of the other visitor, which has learned the accumulator
  abbrev pub learned_state : State A → State B
  learned_state s = record { context = s.context; progress = learned_fold s.progress }

  -- what the other visitor makes of the end of an instant, where `test` says that there is one, it learns from the
  -- first
  learned_fold-advanced : (p : BodyFold A) (time : ℕ) (test : Bool)
      → cond test (record {
        accumulator = other_instant (learned p.accumulator) p.time;
        time = time;
        has_instant = true;
      })
      (record { accumulator = learned p.accumulator; time = time; has_instant = true })
      ≡ learned_fold
      (cond test (record { accumulator = with_instant p.accumulator p.time; time = time; has_instant = true })
      (record p { time = time; has_instant = true }))
  learned_fold-advanced p time true = ap (λ (b : B). record { accumulator = b; time = time; has_instant = true })
      (sym (on_instant p.accumulator p.time))
  learned_fold-advanced p time false = refl

  module _ (nets : List Net) where
    -- what the other visitor makes of an item it learns from the first
    learned_fold-progress_after : (p : BodyFold A) (item : BodyItem)
        → progress_after other_change other_instant nets (learned_fold p)
        item ≡ learned_fold (progress_after with_change with_instant nets p item)
    learned_fold-progress_after p (time_item line digits) = learned_fold-advanced p (number digits)
        (p.has_instant && not (number digits == p.time))
    learned_fold-progress_after p (change line digits code) =
        ap (λ (b : B). record { accumulator = b; time = p.time; has_instant = true })
        (sym (on_change p.accumulator (unwrap_or (net_of nets code) 0)
        (extended (size_of nets (unwrap_or (net_of nets code) 0)) digits)))
    learned_fold-progress_after p item = refl

    -- if what items give can be learned from each state, it can from the context `stood` and the progress `p`
    steps-learned_after_context : (items : List BodyItem) (p : BodyFold A) (stood : Result BodyContext VcdFault)
        → ((s : State A) → steps other_change other_instant nets (learned_state s) items
        ≡ (steps with_change with_instant nets s items >>= λ end. Ok (learned_state end)))
        → (with_progress (learned_fold p) stood >>= λ next. steps other_change other_instant nets next items)
        ≡ ((with_progress p stood >>= λ next. steps with_change with_instant nets next items)
        >>= λ end. Ok (learned_state end))
    steps-learned_after_context items p (Ok next) rest = rest (record { context = next; progress = p })
    steps-learned_after_context items p (Err fault) rest = refl

    -- what a visitor learns from another is what it would take itself
    pub steps-learned : (s : State A) (items : List BodyItem)
        → steps other_change other_instant nets (learned_state s) items
        ≡ (steps with_change with_instant nets s items >>= λ end. Ok (learned_state end))
    unfolding steps
    steps-learned s [] = refl
    steps-learned s (item ∷ items) =
        ap (λ (p : BodyFold B). with_progress p (context_after nets s.context item)
        >>= λ next. steps other_change other_instant nets next items) (learned_fold-progress_after s.progress item)
        ∙ steps-learned_after_context items (progress_after with_change with_instant nets s.progress item)
        (context_after nets s.context item) (λ s2. steps-learned s2 items)

    -- if how far items are read can be learned from each state, it can from the context `stood` and the progress `p`
    reached_before-learned_after_context : (items : List BodyItem) (s : State A) (p : BodyFold A)
        (stood : Result BodyContext VcdFault)
        → ((s2 : State A) → reached_before other_change other_instant nets (learned_state s2) items
        ≡ learned_state (reached_before with_change with_instant nets s2 items))
        → reached_after other_change other_instant nets (learned_state s) items (with_progress (learned_fold p) stood)
        ≡ learned_state (reached_after with_change with_instant nets s items (with_progress p stood))
    reached_before-learned_after_context items s p (Ok next) rest = rest (record { context = next; progress = p })
    reached_before-learned_after_context items s p (Err fault) rest = refl

    -- up to the first fault, too, what a visitor learns from another is what it would take itself
    pub reached_before-learned : (s : State A) (items : List BodyItem)
        → reached_before other_change other_instant nets (learned_state s) items
        ≡ learned_state (reached_before with_change with_instant nets s items)
    unfolding reached_before
    reached_before-learned s [] = refl
    reached_before-learned s (item ∷ items) =
        ap (λ (p : BodyFold B). reached_after other_change other_instant nets (learned_state s) items
        (with_progress p (context_after nets s.context item))) (learned_fold-progress_after s.progress item)
        ∙ reached_before-learned_after_context items s (progress_after with_change with_instant nets s.progress item)
        (context_after nets s.context item) (λ s2. reached_before-learned s2 items)

    -- what the end of an instant, where `test` says that there is one, makes of the accumulator is what `entered` says
    advanced-entered : (p : BodyFold B) (time : ℕ) (test : Bool)
        → cond test (record { accumulator = other_instant p.accumulator p.time; time = time; has_instant = true })
        (record p { time = time; has_instant = true })
        ≡ record {
          accumulator = entered other_instant p.accumulator (cond test (Some p.time) None);
          time = time;
          has_instant = true;
        }
    advanced-entered p time true = refl
    advanced-entered p time false = refl

    -- items that begin with `time` give the other visitor, whose time isn't later, what it learns from the first
    steps-learned_from_time : (items : List BodyItem) (before : A) (time : ℕ) (end : State A) (p : BodyFold B)
        → time_first items
        ≡ Some time → steps with_change with_instant nets (before_piece before time) items ≡ Ok end
        → p.time ≤ time → learned before ≡ entered other_instant p.accumulator (ended_at p time)
        → steps other_change other_instant nets (state_at p None) items ≡ Ok (learned_state end)
    steps-learned_from_time [] before time end p first whole low learned_here = absurd cc
    steps-learned_from_time (time_item line digits ∷ items) before time end p first whole low learned_here =
        let n : ℕ = number digits in
        let same : n ≡ time = same_Some n time first in
        let is : time_of digits ≡ Ok n = time_of-time_item with_change with_instant nets (before_piece before time) end
        line
        digits items whole in
        let after_time : State A = record {
          context = record { now = n; dump_section = None };
          progress = record
              { accumulator = before; time = n; has_instant = true };
        } in
        let rest_read : steps with_change with_instant nets after_time items
        ≡ Ok end = sym (steps-time_item with_change with_instant nets (before_piece before time) line n digits items is
        (omega (arith, same))) ∙ whole in
        let learned_at_n : learned before ≡ entered other_instant p.accumulator (ended_at p n) = subst
        (λ (t : ℕ). learned before
        ≡ entered other_instant p.accumulator (ended_at p t)) (sym same) learned_here in
        let advanced_is : advanced other_instant p n ≡ learned_fold after_time.progress =
        advanced-entered p n (p.has_instant && not (n == p.time))
        ∙ ap (λ (b : B). record { accumulator = b; time = n; has_instant = true })
        (sym learned_at_n) in
        steps-time_item other_change other_instant nets (state_at p None) line n digits items is
        (omega (arith, same, low))
        ∙ ap (λ (q : BodyFold B). steps other_change other_instant nets
        (record { context = record { now = n; dump_section = None }; progress = q }) items) advanced_is
        ∙ steps-learned after_time items
        ∙ ap (λ (r : Result (State A) VcdFault). r >>= λ end. Ok (learned_state end)) rest_read
    steps-learned_from_time (item ∷ items) before time end p first whole low learned_here = absurd cc

  -- to read on with the bytes of a piece and `more` is to join the piece that was read by itself, and then read `more`
  pub rest_of-joined : (r : Reached B) (bytes : List ℕ) (before : A) (detached : ReadDetached A)
      → IsReadDetached with_change
      with_instant r.nets bytes before detached → MayFollow r detached
      → learned before ≡ entered other_instant r.progress.accumulator (ended_at r.progress detached.time)
      → (more : List Token) → rest_of other_change other_instant r (tokens_from r.line bytes) more
      ≡ rest_of other_change other_instant (with_taken (learned detached.progress.accumulator)
      (behind_piece r.nets detached)) []
      more
  rest_of-joined r bytes before detached is fits learned_here more =
      let ts : List Token = tokens_from detached.first_line bytes in
      let end : State A = state_at detached.progress detached.dump_section in
      let s : State B = state_at r.progress None in
      let whole : body_from ready (ts ++ more) ≡ detached_items detached.first_line bytes ++ body_from ready more =
      AreWhole-all
      with_change with_instant r.nets more ts ready (before_piece before detached.time) end is.whole in
      ap (λ (line : ℕ). steps other_change other_instant r.nets (state_at r.progress r.dump_section)
      (body_from r.place (tokens_from line bytes ++ more))) fits.line
      ∙ ap (λ (place : BodyPlace). steps other_change other_instant r.nets (state_at r.progress r.dump_section)
      (body_from place (ts ++ more))) fits.place
      ∙ ap (λ (dump_section : Option ℕ). steps other_change other_instant r.nets (state_at r.progress dump_section)
      (body_from ready (ts ++ more))) fits.dump_section
      ∙ ap (steps other_change other_instant r.nets s) whole
      ∙ steps-append other_change other_instant r.nets s (detached_items detached.first_line bytes)
      (body_from ready more)
      ∙ ap (λ (end : Result (State B) VcdFault). end >>= λ end. steps other_change other_instant r.nets end
      (body_from ready more))
      (steps-learned_from_time r.nets (detached_items detached.first_line bytes) before detached.time end r.progress
      is.begins
      is.whole
      fits.time learned_here)
