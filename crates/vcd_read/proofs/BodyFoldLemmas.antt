-- A fold over a body fails as the reading of its instants fails, or ends with an accumulator that is related to them.
use Rattle.std.proofs.Common.{◌≡◌, ℕ, ◌<◌, Bool, true, false, cond, ◌&&◌, List, [], ◌∷◌, ◌++◌, length, replicate}
use Rattle.std.proofs.Common.{slice_set, Option, Some, None, IsSome, Result, Ok, Err, refl, sym, ap, subst}
use Rattle.std.specs.Prelude.{not, ◌==◌, unwrap_or}
use Rattle.vcd_read.specs.declared.dump.Bit.{Bit}
use Rattle.vcd_read.specs.declared.dump.Instant.{Instant}
use Rattle.vcd_read.specs.declared.fault.FaultKind.{FaultKind}
use Rattle.vcd_read.specs.declared.fault.FaultKind.TheVariants.{Memory}
use Rattle.vcd_read.specs.declared.fault.VcdFault.{VcdFault}
use Rattle.vcd_read.specs.Tokens.{Token}
use Rattle.vcd_read.specs.Numbers.{number, extended}
use Rattle.vcd_read.specs.Header.{◌>>=◌, at_line, Net, net_of, size_of}
use Rattle.vcd_read.specs.Body.{BodyItem, time_item, change}
use Rattle.vcd_read.specs.Body.{BodyContext}
use Rattle.vcd_read.specs.Body.{context_after, at_the_end, fitting, ready, body_from}
use Rattle.vcd_read.specs.Meaning.{ReadFails, ReadFailsAs, instants_from}
use Rattle.vcd_read.specs.DumpProgress.{DumpProgress, values_from, flushed}
use Rattle.vcd_read.specs.DumpProgress.{DumpState as Whole, ended as instants_at, steps as whole_steps}
use Rattle.vcd_read.specs.DumpProgress.{progress_after as whole_after}
use Rattle.vcd_read.specs.BodyFold.{BodyFold, State, ended, at_end, at_first, progress_after, reached_before, steps}
use Rattle.vcd_read.specs.BodyFold.{fold_body, with_progress}
use Rattle.vcd_read.specs.Collected.{Collected, collected_change, collected_instant}
use Rattle.vcd_read.proofs.CurrentValues.{CurrentValues}
use Rattle.vcd_read.proofs.BeforeFaultLemmas.{state_before_fault, state_reached_after, with_progress as whole_of}
use Rattle.vcd_read.proofs.BodyLemmas.{reached_after}
use Rattle.vcd_read.proofs.InstantsLaw.{at_start}
use Rattle.vcd_read.proofs.CodesLemmas.{net_of-within}
use Rattle.vcd_read.proofs.ReadLemmas.{instants_from-steps}
use Rattle.vcd_read.proofs.ResultLemmas.{ok-same}

-- if the item of a code is no fault, the net of the code is found
fitting-some : (nets : List Net) (digits line : ℕ) (found : Option ℕ) (s next : BodyContext)
    → at_line line (fitting nets digits found >>= λ net. Ok s) ≡ Ok next → IsSome found
fitting-some nets digits line None s next h = absurd cc
fitting-some nets digits line (Some net) s next h = refl

-- a result of a fold follows one of instants: the same fault, or an accumulator that is related to the instants
abbrev pub Follows : {A : Type 0} → (List Instant → A → Type 0) → Result (List Instant) VcdFault → Result A VcdFault
    → Type 0
Follows {A = A} R (Ok instants) r = (a : A) × (r ≡ Ok a) × R instants a
Follows R (Err fault) r = r ≡ Err fault

-- an accumulator is related to all instants, and to some current values after them
abbrev pub Ends : {A : Type 0} → (List Instant → CurrentValues → A → Type 0) → List Instant → A → Type 0
Ends R instants a = (current : CurrentValues) × R instants current a

-- a result has one fault
err_same : {A E : Type 0} (x y : E) (r : Result A E) → r ≡ Err x → r ≡ Err y → x ≡ y
err_same x y r e h = cc

-- no result is a value and a fault
ok_or_err : {A E : Type 0} (x : A) (y : E) (r : Result A E) → r ≡ Ok x → r ≡ Err y → ⊥
ok_or_err x y r e h = cc

-- a fault of the fold, by its line and kind, is a fault of the reading
ReadFailsAs-followed : {A : Type 0} (R : List Instant → A → Type 0) (w : Result (List Instant) VcdFault)
    (r : Result A VcdFault)
    (line : ℕ) (kind : FaultKind) → Follows R w r → ReadFailsAs line kind r → ReadFailsAs line kind w
ReadFailsAs-followed R w r line Memory f h = h
ReadFailsAs-followed R (Ok instants) r line kind f h = absurd (ok_or_err f.0 _ r f.1 h)
ReadFailsAs-followed R (Err fault) r line kind f h = ap Err (err_same fault _ r f h)

-- a fault of the fold is a fault of the reading
pub ReadFails-followed : {A : Type 0} (R : List Instant → A → Type 0) (w : Result (List Instant) VcdFault)
    (r : Result A VcdFault) (fault : VcdFault) → Follows R w r → ReadFails fault r → ReadFails fault w
ReadFails-followed R w r fault f h = ReadFailsAs-followed R w r fault.line fault.kind f h

-- if the fold gives `a`, the reading gives instants, and `a` is related to them
pub ok-followed : {A : Type 0} (R : List Instant → A → Type 0) (w : Result (List Instant) VcdFault)
    (r : Result A VcdFault) (a : A) → Follows R w r → r ≡ Ok a → (instants : List Instant) × (w ≡ Ok instants)
    × R instants a
ok-followed R (Ok instants) r a f h = (instants, refl, subst (R instants) (ok-same f.0 a r f.1 h) f.2)
ok-followed R (Err fault) r a f h = absurd (ok_or_err a fault r h f)

-- the relation `R` is of instants, the current values after them, and an accumulator; it is kept by each change and by
-- each end of an instant
module _ {A : Type 0} (with_change : A → ℕ → List Bit → A) (with_instant : A → ℕ → A) (nets : List Net)
    (R : List Instant → CurrentValues → A → Type 0)
    (on_change : (done : List Instant) (current : CurrentValues) (a : A) (net : ℕ) (bits : List Bit) → net < length nets
    → R done current a → R done (slice_set current net (Some bits)) (with_change a net bits))
    (on_instant : (done : List Instant) (current : CurrentValues) (a : A) (time : ℕ) → R done current a
    → R (done ++ record { time = time; values = values_from 0 current } ∷ []) (replicate (length current) None)
    (with_instant a time)) where
  -- the state of the fold with the accumulator `a` where the reading is at `p`
  abbrev fold_at : DumpProgress → A → BodyFold A
  fold_at p a = record { accumulator = a; time = p.time; has_instant = p.has_instant }

  -- the state of the fold with the accumulator `a` where the reading is at `s`
  abbrev state_at : Whole → A → State A
  state_at s a = record { context = s.context; progress = fold_at s.progress a }

  -- the fold is where the reading is, at `p`, and its accumulator is related to the instants
  abbrev Keeps : DumpProgress → BodyFold A → Type 0
  Keeps p t = (a : A) × (t ≡ fold_at p a) × R p.done p.current a

  -- the fold has the fault of the reading, or it is at its state, and its accumulator is related to the instants
  abbrev KeepsState : Result Whole VcdFault → Result (State A) VcdFault → Type 0
  KeepsState (Ok s) r = (a : A) × (r ≡ Ok (state_at s a)) × R s.progress.done s.progress.current a
  KeepsState (Err fault) r = r ≡ Err fault

  -- a time keeps the relation, whether it ends an instant (`test`) or not
  Keeps-time : (test : Bool) (p : DumpProgress) (a : A) (t : ℕ) → R p.done p.current a
      → Keeps (cond test (record (flushed p) { time = t; has_instant = true })
      (record p { time = t; has_instant = true }))
      (cond test (record { accumulator = with_instant a p.time; time = t; has_instant = true })
      (record { accumulator = a; time = t; has_instant = true }))
  Keeps-time true p a t r = (with_instant a p.time, refl, on_instant p.done p.current a p.time r)
  Keeps-time false p a t r = (a, refl, r)

  -- an item that is no fault keeps the relation
  Keeps-item : (item : BodyItem) (s next : BodyContext) (p : DumpProgress) (a : A) → context_after nets s item ≡ Ok next
      → R p.done p.current a
      → Keeps (whole_after nets p item) (progress_after with_change with_instant nets (fold_at p a) item)
  Keeps-item (time_item line digits) s next p a ok r = Keeps-time (p.has_instant && not (number digits == p.time)) p a
      (number digits) r
  Keeps-item (change line digits code) s next p a ok r =
      let net : ℕ = unwrap_or (net_of nets code) 0 in
      let bits : List Bit = extended (size_of nets net) digits in (
        with_change a net bits,
        refl,
        on_change p.done p.current a net bits
            (net_of-within nets code (fitting-some nets (length digits) line (net_of nets code) s next ok)) r,
      )
  Keeps-item item s next p a ok r = (a, refl, r)

  -- an item, and then items that keep the relation from each state on, keep it
  KeepsState-item : (items : List BodyItem) (item : BodyItem) (s : Whole) (a : A) (stood : Result BodyContext VcdFault)
      → context_after nets s.context item ≡ stood → R s.progress.done s.progress.current a
      → ((s2 : Whole) (b : A) → R s2.progress.done s2.progress.current b → KeepsState (whole_steps nets s2 items)
      (steps with_change with_instant nets (state_at s2 b) items))
      → KeepsState (whole_of (whole_after nets s.progress item) stood >>= λ next. whole_steps nets next items)
      (with_progress (progress_after with_change with_instant nets (fold_at s.progress a) item) stood
      >>= λ next. steps with_change with_instant nets next items)
  KeepsState-item items item s a (Ok next) e r rest =
      let kept = Keeps-item item s.context next s.progress a e r in
      let after : Whole = record { context = next; progress = whole_after nets s.progress item } in
      subst (λ (t : BodyFold A). KeepsState (whole_steps nets after items) (steps with_change with_instant nets
      (record { context = next; progress = t }) items)) (sym kept.1) (rest after kept.0 kept.2)
  KeepsState-item items item s a (Err fault) e r rest = refl

  -- items keep the relation, or have the same fault
  KeepsState-steps : (items : List BodyItem) (s : Whole) (a : A) → R s.progress.done s.progress.current a
      → KeepsState (whole_steps nets s items) (steps with_change with_instant nets (state_at s a) items)
  unfolding whole_steps steps
  KeepsState-steps [] s a r = (a, refl, r)
  KeepsState-steps (item ∷ items) s a r = KeepsState-item items item s a (context_after nets s.context item) refl r
      (λ s2 b kept. KeepsState-steps items s2 b kept)

  -- before the first fault, the fold is at the state of the reading, and its accumulator is related to the instants
  abbrev KeepsBefore : Whole → State A → Type 0
  KeepsBefore w t = (a : A) × (t ≡ state_at w a) × R w.progress.done w.progress.current a

  -- an item, and then items that keep the relation up to their first fault, keep it up to the first fault
  KeepsBefore-item : (items : List BodyItem) (item : BodyItem) (s : Whole) (a : A) (stood : Result BodyContext VcdFault)
      → context_after nets s.context item ≡ stood → R s.progress.done s.progress.current a
      → ((s2 : Whole) (b : A) → R s2.progress.done s2.progress.current b
      → KeepsBefore (state_before_fault nets s2 items)
      (reached_before with_change with_instant nets (state_at s2 b) items))
      → KeepsBefore (state_reached_after nets s items (whole_of (whole_after nets s.progress item) stood))
      (reached_after with_change with_instant nets (state_at s a) items
      (with_progress (progress_after with_change with_instant nets (fold_at s.progress a) item) stood))
  KeepsBefore-item items item s a (Ok next) e r rest =
      let kept = Keeps-item item s.context next s.progress a e r in
      let after : Whole = record { context = next; progress = whole_after nets s.progress item } in
      subst (λ (t : BodyFold A). KeepsBefore (state_before_fault nets after items)
      (reached_before with_change with_instant nets
      (record { context = next; progress = t }) items)) (sym kept.1) (rest after kept.0 kept.2)
  KeepsBefore-item items item s a (Err fault) e r rest = (a, refl, r)

  -- items keep the relation up to their first fault
  pub KeepsBefore-reached_before : (items : List BodyItem) (s : Whole) (a : A) → R s.progress.done s.progress.current a
      → KeepsBefore (state_before_fault nets s items) (reached_before with_change with_instant nets (state_at s a)
      items)
  unfolding reached_before
  KeepsBefore-reached_before [] s a r = (a, refl, r)
  KeepsBefore-reached_before (item ∷ items) s a r = KeepsBefore-item items item s a (context_after nets s.context item)
      refl r
      (λ s2 b kept. KeepsBefore-reached_before items s2 b kept)

  -- at the end of a body the accumulator is related to all instants, whether there is one at the last time or not
  Ends-ended : (has_instant : Bool) (p : DumpProgress) (a : A) → R p.done p.current a
      → (b : A) × (cond has_instant (with_instant a p.time) a ≡ b)
      × ((current : CurrentValues) × R (cond has_instant (flushed p).done p.done) current b)
  Ends-ended true p a r = (
    with_instant a p.time,
    refl,
    (
      replicate (length p.current) None,
      on_instant p.done p.current a
          p.time r,
    ),
  )
  Ends-ended false p a r = (a, refl, (p.current, r))

  -- at the end of a body whose items are no fault, the fold follows the instants
  Follows-end : (s : Whole) (a : A) (stood : Result BodyContext VcdFault) → R s.progress.done s.progress.current a
      → Follows (Ends R) (stood >>= λ end. Ok (instants_at s.progress))
      (stood >>= λ end. Ok (ended with_instant (fold_at s.progress a)))
  Follows-end s a (Ok stood) r = let e = Ends-ended s.progress.has_instant s.progress a r in (e.0, ap Ok e.1, e.2)
  Follows-end s a (Err fault) r = refl

  -- if the items keep the relation, the fold follows the instants after the end of the body
  Follows-at_end : (w : Result Whole VcdFault) (t : Result (State A) VcdFault) → KeepsState w t
      → Follows (Ends R) (w >>= λ s. at_the_end s.context >>= λ end. Ok (instants_at s.progress))
      (t >>= at_end with_instant)
  Follows-at_end (Ok s) t k =
      subst (λ (t : Result (State A) VcdFault). Follows (Ends R) (at_the_end s.context >>= λ end. Ok
      (instants_at s.progress)) (t >>= at_end with_instant)) (sym k.1) (Follows-end s k.0 (at_the_end s.context) k.2)
  Follows-at_end (Err fault) t k = ap (λ (t : Result (State A) VcdFault). t >>= at_end with_instant) k

  -- the fold over a body follows the instants of the body
  pub Follows-fold_body : (body : List Token) (a : A) → R [] (replicate (length nets) None) a → Follows (Ends R)
      (instants_from nets body) (fold_body with_change with_instant nets a body)
  Follows-fold_body body a r =
      let items : List BodyItem = body_from ready body in
      subst (λ (w : Result (List Instant) VcdFault). Follows (Ends R) w (fold_body with_change with_instant nets a
      body)) (sym (instants_from-steps nets body (at_start nets) refl))
      (Follows-at_end (whole_steps nets (at_start nets) items) (steps with_change with_instant nets (at_first a) items)
      (KeepsState-steps items (at_start nets) a r))

-- ---- what is collected

-- the instants `done`, and the current values after them, are what was collected
abbrev pub IsCollected : List Instant → CurrentValues → Collected → Type 0
IsCollected done current c = c ≡ record { done = done; current = current }

-- all instants of a body are collected
abbrev pub AreCollected : List Instant → Collected → Type 0
AreCollected = Ends IsCollected

-- what is collected of a body follows its instants
pub Follows-collected : (nets : List Net) (body : List Token) (c : Collected) → c
    ≡ record { done = []; current = replicate (length nets) None }
    → Follows AreCollected (instants_from nets body) (fold_body collected_change collected_instant nets c body)
Follows-collected nets body c e =
    Follows-fold_body collected_change collected_instant nets IsCollected
    (λ done current a net bits lt is. ap (λ (c : Collected). collected_change c net bits) is)
    (λ done current a time is. ap (λ (c : Collected). collected_instant c time) is)
    body c e
