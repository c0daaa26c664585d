-- The fold over the items of a body gives the instants of the grammar, and their times ascend.
use Rattle.std.proofs.Common.{◌≡◌, ℕ, zero, suc, ◌+◌, ◌<◌, ◌≤◌, Bool, true, false, ◌&&◌, cond, eqb, List, [], ◌∷◌}
use Rattle.std.proofs.Common.{◌++◌, length, map, get_or, replicate, Option, Some, None, option_map, Result, Ok}
use Rattle.std.proofs.Common.{refl, sym, ap, ◌∙◌, subst, arith, append_assoc, inl, inr}
use Rattle.std.specs.Prelude.{slice_set, filter_map, nat_eq}
use Rattle.std.specs.List.{dedup, range_with_len}
use Rattle.std.specs.List.Sorted.{IsStrictlyIncreasing}
use Rattle.std.proofs.lemmas.Bool.{cases_Bool, eqb-true, eqb-false, eq-eqb, cond-true, cond-false}
use Rattle.std.proofs.lemmas.Bool.Decides.{nat_tests}
use Rattle.std.proofs.lemmas.List.{length-set, length-replicate, get_or-set_same, get_or-set_other, get_or-replicate}
use Rattle.vcd_read.specs.declared.dump.Bit.{Bit}
use Rattle.vcd_read.specs.declared.dump.Value.{Value}
use Rattle.vcd_read.specs.declared.dump.Instant.{Instant}
use Rattle.vcd_read.specs.declared.fault.VcdFault.{VcdFault}
use Rattle.vcd_read.specs.Contents.{TimesAscend}
use Rattle.vcd_read.specs.Numbers.{number}
use Rattle.vcd_read.specs.Header.{Net}
use Rattle.vcd_read.specs.Body.{BodyItem, time_item, change}
use Rattle.vcd_read.specs.Body.{context_after}
use Rattle.vcd_read.specs.Meaning.{NetChange, change_of, changes_from, times_from, last_at, value_of, value_at}
use Rattle.vcd_read.specs.Meaning.{instant_at, instants_of}
use Rattle.vcd_read.specs.DumpProgress.{DumpProgress, values_from, advanced, ended, progress_after, DumpState, step}
use Rattle.vcd_read.specs.DumpProgress.{steps}
use Rattle.vcd_read.proofs.ResultLemmas.{bind-ok}
use Rattle.vcd_read.proofs.ContextLemmas.{now-now_after, now_after}

-- ---- the fold without its faults

-- a step without a fault has the context and the progress after its item
step-parts : (nets : List Net) (s next : DumpState) (item : BodyItem) → step nets s item ≡ Ok next
    → (context_after nets s.context item ≡ Ok next.context) × (next.progress ≡ progress_after nets s.progress item)
step-parts nets s next item h =
    let a = bind-ok (context_after nets s.context item) _ next h in
    let made : DumpState = record { context = a.0; progress = progress_after nets s.progress item } in
    let e : made ≡ next = cc in
    (a.1 ∙ ap (λ (n : DumpState). Ok n.context) e, sym (ap (λ (n : DumpState). n.progress) e))

-- no time goes back
abbrev Ascends : ℕ → List BodyItem → Type 0
Ascends now [] = Unit {0}
Ascends now (item ∷ items) = (now ≤ now_after now item) × Ascends (now_after now item) items

-- the progress after all items, if none is a fault
abbrev progress_after_all : List Net → DumpProgress → List BodyItem → DumpProgress
progress_after_all nets p [] = p
progress_after_all nets p (item ∷ items) = progress_after_all nets (progress_after nets p item) items

-- if the items are read without a fault, no time goes back, and the progress is that after all of them
steps-progress_after_all : (nets : List Net) (s end : DumpState) (items : List BodyItem) → steps nets s items ≡ Ok end
    → Ascends s.context.now items × (end.progress ≡ progress_after_all nets s.progress items)
unfolding steps
steps-progress_after_all nets s end [] h =
    let e : s ≡ end = cc in
    (tt, sym (ap (λ (s : DumpState). s.progress) e))
steps-progress_after_all nets s end (item ∷ items) h =
    let a = bind-ok (step nets s item) (λ next. steps nets next items) end h in
    let b = step-parts nets s a.0 item a.1 in
    let c = now-now_after nets s.context a.0.context item b.0 in
    let rest = steps-progress_after_all nets a.0 end items a.2 in (
      (c.1, subst (λ (n : ℕ). Ascends n items) c.0 rest.0),
      rest.1 ∙ ap (λ (p : DumpProgress). progress_after_all nets p
          items) b.1,
    )

-- ---- the values at one time

-- the last bits of each net, after the changes of one time
abbrev applied : ℕ → List NetChange → List (Option (List Bit)) → List (Option (List Bit))
applied t [] current = current
applied t (c ∷ changes) current = applied t changes (cond (eqb c.time t) (slice_set current c.net (Some c.bits))
    current)

-- changes keep one place for each net
length-applied : (t : ℕ) (changes : List NetChange) (current : List (Option (List Bit)))
    → length (applied t changes current) ≡ length current
length-applied t [] current = refl
length-applied t (c ∷ changes) current = length-applied t changes _ ∙ same_length (eqb c.time t) current c.net
    (Some c.bits)
  where
    -- setting a net, or not, keeps one place for each net
    same_length : (b : Bool) (current : List (Option (List Bit))) (net : ℕ) (o : Option (List Bit))
        → length (cond b (slice_set current net o) current) ≡ length current
    same_length true current net o = length-set current net o
    same_length false current net o = refl

-- the later of two values, if there is one, or else the earlier
abbrev latest_of : Option (List Bit) → Option (List Bit) → Option (List Bit)
latest_of (Some bits) before = Some bits
latest_of None before = before

-- the bits, if `b` holds, or else the value `o`
abbrev if_this : Bool → List Bit → Option (List Bit) → Option (List Bit)
if_this b bits o = cond b (Some bits) o

-- of a later value, these bits if `b` holds, and an earlier value, the latest is the same in whichever order they are
-- joined
latest_of-if_this : (o before : Option (List Bit)) (b : Bool) (bits : List Bit) → latest_of o (if_this b bits before)
    ≡ latest_of (elim o [ Some bits ↦ Some bits | None ↦ if_this b bits None ]) before
latest_of-if_this (Some later) before b bits = refl
latest_of-if_this None before true bits = refl
latest_of-if_this None before false bits = refl

-- after the net `net` is set, if `here` holds, the net `k` has these bits, if it is that net, or else what it had
get_or-after_write : (here same : Bool) (current : List (Option (List Bit))) (net k : ℕ) (bits : List Bit) → eqb net k
    ≡ same
    → k < length current
    → get_or (cond here (slice_set current net (Some bits)) current) k None ≡ if_this (here && same) bits
    (get_or current k None)
get_or-after_write true true current net k bits e lt = let i : net ≡ k = eqb-true net k e in
    subst (λ (k : ℕ). get_or (slice_set current net (Some bits)) k None ≡ Some bits) i
    (get_or-set_same current net (Some bits) None (omega arith))
get_or-after_write true false current net k bits e lt = get_or-set_other current net k (Some bits) None
    (λ i. eqb-false net k e (sym i))
get_or-after_write false same current net k bits e lt = refl

-- after changes, a net has the bits of its last change at the time `t`, or else what it had
get_or-applied : (t : ℕ) (changes : List NetChange) (current : List (Option (List Bit))) (k : ℕ) → k < length current
    → get_or (applied t changes current) k None ≡ latest_of (last_at t k changes) (get_or current k None)
unfolding last_at
get_or-applied t [] current k lt = refl
get_or-applied t (c ∷ changes) current k lt =
    let after : List (Option (List Bit)) = cond (eqb c.time t) (slice_set current c.net (Some c.bits)) current in
    let len : length after ≡ length current = length-applied t (c ∷ []) current in
    get_or-applied t changes after k (omega arith)
    ∙ ap (latest_of (last_at t k changes)) (get_or-after_write (eqb c.time t) (eqb c.net k) current c.net k c.bits refl
    lt)
    ∙ latest_of-if_this (last_at t k changes) (get_or current k None) (eqb c.time t && eqb c.net k) c.bits

-- the values of the nets from `n` on are those that `f` gives, if `f` gives the value of each of these nets
pub values_from-filter_map : (n : ℕ) (current : List (Option (List Bit))) (f : ℕ → Option Value)
    → ((i k : ℕ) → i < length current → n + i ≡ k → f k ≡ option_map (value_of k) (get_or current i None))
    → values_from n current ≡ filter_map f (range_with_len n (length current))
values_from-filter_map n [] f h = refl
values_from-filter_map n (None ∷ current) f h =
    let e : f n ≡ None = h 0 n (omega arith) (omega arith) in
    rw e (values_from-filter_map (n + 1) current f (λ i k lt s. h (suc i) k (omega arith) (omega arith)))
values_from-filter_map n (Some bits ∷ current) f h =
    let e : f n ≡ Some (value_of n bits) = h 0 n (omega arith) (omega arith) in
    rw e (ap (λ (vs : List Value). value_of n bits ∷ vs)
    (values_from-filter_map (n + 1) current f (λ i k lt s. h (suc i) k (omega arith) (omega arith))))

-- a value with none before it is the latest
latest_of-none : (o : Option (List Bit)) → latest_of o None ≡ o
latest_of-none (Some bits) = refl
latest_of-none None = refl

-- no net has a value
abbrev none_of : ℕ → List (Option (List Bit))
none_of count = replicate count None

-- the instant at a time, from what the nets had before these changes
abbrev instant_from : List (Option (List Bit)) → List NetChange → ℕ → Instant
instant_from current changes t = record { time = t; values = values_from 0 (applied t changes current) }

-- the instant at a time, where no net had a value before these changes
abbrev instant_from_none : ℕ → List NetChange → ℕ → Instant
instant_from_none count changes t = instant_from (none_of count) changes t

-- the instant at a time, where no net had a value before, is that of the grammar
instant_from_none-instant_at : (count : ℕ) (changes : List NetChange) (t : ℕ) → instant_from_none count changes t
    ≡ instant_at count changes t
instant_from_none-instant_at count changes t =
    let len : length (applied t changes (none_of count)) ≡ count = length-applied t changes (none_of count)
    ∙ length-replicate count None in
    let last : (k : ℕ) → k < count → last_at t k changes ≡ get_or (applied t changes (none_of count)) k None = λ k lt.
    let none : get_or (none_of count) k None ≡ None = get_or-replicate count k None None lt in
    sym (get_or-applied t changes (none_of count) k (omega (arith, length-replicate {A = Option (List Bit)} count None))
    ∙ ap (latest_of (last_at t k changes)) none ∙ latest_of-none (last_at t k changes)) in
    let is = values_from-filter_map 0 (applied t changes (none_of count)) (value_at t changes) (λ i k lt s.
    let e : i ≡ k = omega arith in
    ap (option_map (value_of k)) (subst (λ (k : ℕ). last_at t k changes ≡ get_or (applied t changes (none_of count)) i
    None) e (last i (omega arith)))) in
    ap (λ (vs : List Value). record { time = t; values = vs })
    (is ∙ ap (λ (n : ℕ). filter_map (value_at t changes) (range_with_len 0 n)) len)

-- ---- the times

-- the times without those that equal the one before them, where `now` is before the first
abbrev distinct_after : ℕ → List ℕ → List ℕ
distinct_after now [] = []
distinct_after now (t ∷ times) = cond (eqb t now) (distinct_after now times) (t ∷ distinct_after t times)

-- the distinct times from `now` on are `now`, and those after it
dedup-distinct_after : (now : ℕ) (times : List ℕ) → dedup nat_eq (now ∷ times) ≡ now ∷ distinct_after now times
dedup-distinct_after now [] = refl
dedup-distinct_after now (t ∷ times) = go (eqb t now) (dedup-distinct_after now times) (dedup-distinct_after t times)
  where
    -- the distinct times from `now` on are `now` and those after it, whether or not `t` equals `now` (`b`)
    go : {xs ys us vs : List ℕ} (b : Bool) → xs ≡ now ∷ ys → us ≡ t ∷ vs → cond b xs (now ∷ us) ≡ now
        ∷ cond b ys (t ∷ vs)
    go true d e = d
    go false d e = ap (λ (xs : List ℕ). now ∷ xs) e

-- a time that repeats `now` is left out
distinct_after-now : (now : ℕ) (times : List ℕ) → distinct_after now (now ∷ times) ≡ distinct_after now times
distinct_after-now now times = cond-true (eqb now now) _ _ (eq-eqb now now refl)

-- a time that equals `now` is left out, and may stand for it
distinct_after-equal : (t now : ℕ) (times : List ℕ) → eqb t now ≡ true → distinct_after now (t ∷ times)
    ≡ distinct_after t times
distinct_after-equal t now times e = cond-true (eqb t now) _ _ e
    ∙ ap (λ (n : ℕ). distinct_after n times) (sym (eqb-true t now e))

-- a time other than `now` is the next of the distinct times
distinct_after-other : (t now : ℕ) (times : List ℕ) → eqb t now ≡ false → distinct_after now (t ∷ times)
    ≡ t ∷ distinct_after t times
distinct_after-other t now times e = cond-false (eqb t now) _ _ e

-- a time that isn't earlier than `t`, and isn't `t`, is later
lt-other : (t u : ℕ) → t ≤ u → eqb u t ≡ false → t < u
lt-other t u le e = grind (arith, nat_tests)

-- a time is none that is later
eqb-later : (t u : ℕ) → t < u → eqb t u ≡ false
eqb-later t u lt = grind (arith, nat_tests)

-- a time is none that is earlier
eqb-earlier : (t u : ℕ) → u < t → eqb t u ≡ false
eqb-earlier t u lt = grind (arith, nat_tests)

-- changes at later times than `t` leave the values at `t`
applied-later : (nets : List Net) (items : List BodyItem) (now t : ℕ) (current : List (Option (List Bit)))
    → Ascends now items → t < now → applied t (changes_from nets now items) current ≡ current
unfolding changes_from
applied-later nets [] now t current up lt = refl
applied-later nets (time_item line digits ∷ items) now t current up lt = applied-later nets items (number digits) t
    current up.1
    (omega (arith, up.0))
applied-later nets (change line digits code ∷ items) now t current up lt =
    ap (applied t (changes_from nets now items)) (cond-false (eqb now t) _ current (eqb-earlier now t lt))
    ∙ applied-later nets items now t current up.1 lt
applied-later nets (item ∷ items) now t current up lt = applied-later nets items now t current up.1 lt

-- two functions that agree at all times after `first` agree at the times of the items after `now`
map-distinct_after : (f g : ℕ → Instant) (items : List BodyItem) (first now : ℕ) → Ascends now items → first ≤ now
    → ((t : ℕ) → first < t → f t ≡ g t) → map f (distinct_after now (times_from now items))
    ≡ map g (distinct_after now (times_from now items))
unfolding times_from
map-distinct_after f g [] first now up le same = refl
map-distinct_after f g (time_item line digits ∷ items) first now up le same =
    let rest = map-distinct_after f g items first (number digits) up.1 (omega (arith, up.0)) same in
    let times : List ℕ = times_from (number digits) items in
    elim (cases_Bool (eqb (number digits) now)) [
      | inl e ↦ let o = distinct_after-equal (number digits) now times e in ap (map f) o ∙ rest ∙ sym (ap (map g) o)
      | inr e ↦
          let o = distinct_after-other (number digits) now times e in
          let front : f (number digits) ≡ g (number digits) = same (number digits)
          (omega (arith, lt-other now (number digits) up.0 e)) in
          ap (map f) o ∙ (cc) ∙ sym (ap (map g) o)
    ]
map-distinct_after f g (change line digits code ∷ items) first now up le same =
    let o = distinct_after-now now (times_from now items) in
    ap (map f) o ∙ map-distinct_after f g items first now up.1 le same ∙ sym (ap (map g) o)
map-distinct_after f g (item ∷ items) first now up le same = map-distinct_after f g items first now up.1 le same

-- ---- the fold

-- the progress at the time `now`, where there is an instant
abbrev has_instant_at : List Instant → ℕ → List (Option (List Bit)) → DumpProgress
has_instant_at done now current = record { done = done; time = now; has_instant = true; current = current }

-- a time item with the current time leaves the instant open
advanced-same_time : (done : List Instant) (now t : ℕ) (current : List (Option (List Bit))) → eqb t now ≡ true
    → advanced (has_instant_at done now current) t ≡ has_instant_at done t current
advanced-same_time done now t current e = rw e refl

-- a time item with another time than the current one ends the instant
advanced-other_time : (done : List Instant) (now t : ℕ) (current : List (Option (List Bit))) → eqb t now ≡ false
    → advanced (has_instant_at done now current) t
    ≡ has_instant_at (done ++ record { time = now; values = values_from 0 current }
    ∷ []) t (none_of (length current))
advanced-other_time done now t current e = rw e refl

-- the instant at `now`, where the nets have the values `current` before `changes`, and the instants after it
abbrev instants_at : ℕ → List (Option (List Bit)) → List NetChange → ℕ → List ℕ → List Instant
instants_at count current changes now times = instant_from current changes now ∷ map (instant_from_none count changes)
    (distinct_after now times)

-- if `t` equals `now`, the instants from `t` on are those from `now` on
instants_at-same_time : (count : ℕ) (current : List (Option (List Bit))) (changes : List NetChange) (now t : ℕ)
    (times : List ℕ)
    → eqb t now ≡ true
    → instants_at count current changes t times ≡ instants_at count current changes now (t ∷ times)
instants_at-same_time count current changes now t times e =
    ap (λ (n : ℕ). instant_from current changes n ∷ map (instant_from_none count changes) (distinct_after t times))
    (eqb-true t now e)
    ∙ ap (λ (ts : List ℕ). instant_from current changes now ∷ map (instant_from_none count changes) ts)
    (sym (distinct_after-equal t now times e))

-- if `t` isn't `now`, and no change is at `now`, the instant at `now` and the instants from `t` on are those from `now`
-- on
instants_at-other_time : (count : ℕ) (done : List Instant) (current : List (Option (List Bit)))
    (changes : List NetChange) (now t : ℕ)
    (times : List ℕ) → eqb t now ≡ false → length current ≡ count → applied now changes current ≡ current
    → (done ++ record { time = now; values = values_from 0 current } ∷ []) ++ instants_at count
    (none_of (length current)) changes t times ≡ done ++ instants_at count current changes now (t ∷ times)
instants_at-other_time count done current changes now t times e len kept =
    let rest : List Instant = map (instant_from_none count changes) (distinct_after t times) in
    append_assoc done (record { time = now; values = values_from 0 current } ∷ []) _
    ∙ ap (λ (n : ℕ). done ++ record { time = now; values = values_from 0 current } ∷
    (instant_from_none n changes t ∷ rest)) len
    ∙ ap (λ (c : List (Option (List Bit))). done ++ record { time = now; values = values_from 0 c }
    ∷ map (instant_from_none count changes) (t ∷ distinct_after t times)) (sym kept)
    ∙ ap (λ (ts : List ℕ). done ++ instant_from current changes now ∷ map (instant_from_none count changes) ts)
    (sym (distinct_after-other t now times e))

-- a change at the current time can be made in `current` or be the first of the changes
instants_at-change : (nets : List Net) (items : List BodyItem) (now : ℕ) (current : List (Option (List Bit)))
    (c : NetChange)
    → c.time ≡ now → Ascends now items
    → instants_at (length nets) (slice_set current c.net (Some c.bits)) (changes_from nets now items) now
    (times_from now items)
    ≡ instants_at (length nets) current (c ∷ changes_from nets now items) now (now ∷ times_from now items)
instants_at-change nets items now current c here up =
    let changes : List NetChange = changes_from nets now items in
    let times : List ℕ = times_from now items in
    let now_too : instant_from (slice_set current c.net (Some c.bits)) changes now ≡ instant_from current (c ∷ changes)
    now =
    ap (λ (cs : List (Option (List Bit))). instant_from cs changes now)
    (sym (cond-true (eqb c.time now) _ current (eq-eqb c.time now here))) in
    let later : (t : ℕ) → now < t → instant_from_none (length nets) changes t
    ≡ instant_from_none (length nets) (c ∷ changes) t = λ t lt.
    ap (λ (cs : List (Option (List Bit))). instant_from cs changes t)
    (sym (cond-false (eqb c.time t) _ (none_of (length nets)) (eqb-later c.time t (omega arith)))) in
    let rest = map-distinct_after (instant_from_none (length nets) changes)
    (instant_from_none (length nets) (c ∷ changes)) items now now up
    (omega arith) later in
    ap (λ (i : Instant). i ∷ map (instant_from_none (length nets) changes) (distinct_after now times)) now_too
    ∙ ap (λ (is : List Instant). instant_from current (c ∷ changes) now ∷ is)
    (rest ∙ ap (map (instant_from_none (length nets) (c ∷ changes))) (sym (distinct_after-now now times)))

-- the fold from a time on that has an instant gives this instant and those after it
ended-with_instant : (nets : List Net) (items : List BodyItem) (done : List Instant) (now : ℕ)
    (current : List (Option (List Bit))) → length current ≡ length nets → Ascends now items
    → ended (progress_after_all nets (has_instant_at done now current) items) ≡ done ++ instants_at (length nets)
    current (changes_from nets now items) now (times_from now items)
unfolding changes_from times_from
ended-with_instant nets [] done now current len up = refl
ended-with_instant nets (time_item line digits ∷ items) done now current len up =
    let t : ℕ = number digits in
    let changes : List NetChange = changes_from nets (number digits) items in
    let times : List ℕ = times_from (number digits) items in
    elim (cases_Bool (eqb (number digits) now)) [
      | inl e ↦
          ap (λ (p : DumpProgress). ended (progress_after_all nets p items))
          (advanced-same_time done now (number digits)
          current e)
          ∙ ended-with_instant nets items done (number digits) current len up.1
          ∙ ap (λ (is : List Instant). done ++ is) (instants_at-same_time (length nets) current changes now
          (number digits) times e)
      | inr e ↦
          ap (λ (p : DumpProgress). ended (progress_after_all nets p items))
          (advanced-other_time done now (number digits)
          current e)
          ∙ ended-with_instant nets items _ (number digits) (none_of (length current))
          (length-replicate (length current) None
          ∙ len) up.1
          ∙ instants_at-other_time (length nets) done current changes now (number digits) times e len
          (applied-later nets items (number digits) now current up.1 (lt-other now (number digits) up.0 e))
    ]
ended-with_instant nets (change line digits code ∷ items) done now current len up =
    let c : NetChange = change_of nets now digits code in
    ended-with_instant nets items done now (slice_set current c.net (Some c.bits))
    (length-set current c.net (Some c.bits) ∙ len)
    up.1
    ∙ ap (λ (is : List Instant). done ++ is) (instants_at-change nets items now current c refl up.1)
ended-with_instant nets (item ∷ items) done now current len up = ended-with_instant nets items done now current len up.1

-- the fold from a start without an instant gives the instants of all distinct times
ended-from_start : (nets : List Net) (items : List BodyItem) (now : ℕ) → Ascends now items
    → ended (progress_after_all nets
    (record { done = []; time = now; has_instant = false; current = none_of (length nets) })
    items)
    ≡ map (instant_from_none (length nets) (changes_from nets now items)) (dedup nat_eq (times_from now items))
unfolding changes_from times_from
ended-from_start nets [] now up = refl
ended-from_start nets (time_item line digits ∷ items) now up =
    ended-with_instant nets items [] (number digits) (none_of (length nets)) (length-replicate (length nets) None) up.1
    ∙ ap (map (instant_from_none (length nets) (changes_from nets (number digits) items)))
    (sym (dedup-distinct_after (number digits) (times_from (number digits) items)))
ended-from_start nets (change line digits code ∷ items) now up =
    let c : NetChange = change_of nets now digits code in
    let none : List (Option (List Bit)) = none_of (length nets) in
    let times : List ℕ = times_from now items in
    ended-with_instant nets items [] now (slice_set none c.net (Some c.bits)) (length-set none c.net (Some c.bits)
    ∙ length-replicate (length nets) None) up.1
    ∙ instants_at-change nets items now none c refl up.1
    ∙ ap (map (instant_from_none (length nets) (c ∷ changes_from nets now items)))
    (ap (λ (ts : List ℕ). now ∷ ts) (distinct_after-now now times) ∙ sym (dedup-distinct_after now times))
ended-from_start nets (item ∷ items) now up = ended-from_start nets items now up.1

-- ---- the times ascend

-- one time ascends
IsStrictlyIncreasing-one : (t : ℕ) → IsStrictlyIncreasing (t ∷ [])
IsStrictlyIncreasing-one t k lt = absurd (omega (arith, lt))

-- a time before ascending times, the first of which is later, ascends with them
IsStrictlyIncreasing-cons : (t u : ℕ) (times : List ℕ) → t < u → IsStrictlyIncreasing (u ∷ times)
    → IsStrictlyIncreasing (t ∷ (u ∷ times))
IsStrictlyIncreasing-cons t u times lt up zero within = lt
IsStrictlyIncreasing-cons t u times lt up (suc k) within = let next : suc k + 1 ≡ suc (k + 1) = omega arith in
    rw next (up k (omega (arith, within)))

-- `now`, and the distinct times of the items after it, ascend, if no time goes back
IsStrictlyIncreasing-distinct_after : (items : List BodyItem) (now : ℕ) → Ascends now items → IsStrictlyIncreasing
    (now ∷ distinct_after now (times_from now items))
unfolding times_from
IsStrictlyIncreasing-distinct_after [] now up = IsStrictlyIncreasing-one now
IsStrictlyIncreasing-distinct_after (time_item line digits ∷ items) now up =
    let rest = IsStrictlyIncreasing-distinct_after items (number digits) up.1 in
    let times : List ℕ = times_from (number digits) items in
    elim (cases_Bool (eqb (number digits) now)) [
      | inl e ↦
          let same : number digits ∷ distinct_after (number digits) times
          ≡ now ∷ distinct_after now (number digits ∷ times) =
          ap (λ (n : ℕ). n ∷ distinct_after (number digits) times) (eqb-true (number digits) now e)
          ∙ ap (λ (ts : List ℕ). now ∷ ts) (sym (distinct_after-equal (number digits) now times e)) in
          subst IsStrictlyIncreasing same rest
      | inr e ↦
          let next : now ∷ (number digits ∷ distinct_after (number digits) times)
          ≡ now ∷ distinct_after now (number digits ∷ times)
          = ap (λ (ts : List ℕ). now ∷ ts) (sym (distinct_after-other (number digits) now times e)) in
          subst IsStrictlyIncreasing next (IsStrictlyIncreasing-cons now (number digits)
          (distinct_after (number digits) times)
          (lt-other now (number digits) up.0 e) rest)
    ]
IsStrictlyIncreasing-distinct_after (change line digits code ∷ items) now up =
    let same : now ∷ distinct_after now (times_from now items)
    ≡ now ∷ distinct_after now (now ∷ times_from now items) = ap
    (λ (ts : List ℕ). now ∷ ts) (sym (distinct_after-now now (times_from now items))) in
    subst IsStrictlyIncreasing same (IsStrictlyIncreasing-distinct_after items now up.1)
IsStrictlyIncreasing-distinct_after (item ∷ items) now up = IsStrictlyIncreasing-distinct_after items now up.1

-- the distinct times of items ascend, if no time goes back
IsStrictlyIncreasing-dedup : (items : List BodyItem) (now : ℕ) → Ascends now items → IsStrictlyIncreasing
    (dedup nat_eq (times_from now items))
unfolding times_from
IsStrictlyIncreasing-dedup [] now up = λ k within. absurd (omega (arith, within))
IsStrictlyIncreasing-dedup (time_item line digits ∷ items) now up = subst IsStrictlyIncreasing
    (sym (dedup-distinct_after (number digits) (times_from (number digits) items)))
    (IsStrictlyIncreasing-distinct_after items (number digits) up.1)
IsStrictlyIncreasing-dedup (change line digits code ∷ items) now up = subst IsStrictlyIncreasing
    (sym (dedup-distinct_after now (times_from now items))) (IsStrictlyIncreasing-distinct_after items now up.1)
IsStrictlyIncreasing-dedup (item ∷ items) now up = IsStrictlyIncreasing-dedup items now up.1

-- if `f` makes an instant at each time, the instants that it makes at these times have these times
map_time-map : (f : ℕ → Instant) → ((t : ℕ) → (f t).time ≡ t) → (times : List ℕ) → map (λ (i : Instant). i.time)
    (map f times) ≡ times
map_time-map f same [] = refl
map_time-map f same (t ∷ times) = ap (λ (u : ℕ). u ∷ map (λ (i : Instant). i.time) (map f times)) (same t)
    ∙ ap (λ (ts : List ℕ). t ∷ ts) (map_time-map f same times)

-- the state before any item of a body
abbrev pub at_start : List Net → DumpState
at_start nets =
    record {
      context = record { now = 0; dump_section = None };
      progress = record { done = []; time = 0; has_instant = false; current = replicate (length nets) None };
    }

-- the items are read without a fault, up to the state `s`
abbrev pub reached : DumpState → Result DumpState VcdFault
reached s = Ok s

-- if the items of a body are read without a fault, the instants that the fold gives are those of the grammar
pub ended-instants_of : (nets : List Net) (items : List BodyItem) (s : DumpState) → steps nets (at_start nets) items
    ≡ reached s → ended s.progress ≡ instants_of nets items
ended-instants_of nets items s whole =
    let all = steps-progress_after_all nets (at_start nets) s items whole in
    let is : (λ (t : ℕ). instant_from_none (length nets) (changes_from nets 0 items) t) ≡ instant_at (length nets)
    (changes_from nets 0 items) = λ i t. instant_from_none-instant_at (length nets) (changes_from nets 0 items) t i in
    ap ended all.1 ∙ ended-from_start nets items 0 all.0 ∙ ap (λ (f : ℕ → Instant). map f
    (dedup nat_eq (times_from 0 items)))
    is

-- if the items of a body are read without a fault, the times of its instants ascend
pub TimesAscend-instants_of : (nets : List Net) (items : List BodyItem) (s : DumpState)
    → steps nets (at_start nets) items
    ≡ reached s → TimesAscend (instants_of nets items)
TimesAscend-instants_of nets items s whole =
    let all = steps-progress_after_all nets (at_start nets) s items whole in
    subst IsStrictlyIncreasing (sym (map_time-map (instant_at (length nets) (changes_from nets 0 items)) (λ t. refl)
    (dedup nat_eq (times_from 0 items)))) (IsStrictlyIncreasing-dedup items 0 all.0)
