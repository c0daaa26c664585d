-- Memories with an entry of `last_seen` for each place, and lists in which no two memories are at one place.
use Rattle.std.proofs.Common.{◌≡◌, ◌≢◌, ◌⊎◌, ℕ, zero, suc, ◌<◌, ◌≤◌, List, [], ◌∷◌, ◌++◌, length, map, set, refl, ap}
use Rattle.std.proofs.Common.{sym, ◌∙◌, subst, arith, inl, inr, ⊎_elim, Option, Some, None}
use mathlib.Core.Logic.{dite}
use native.Mathlib.Decide.{ℕ_discrete}
use Rattle.std.specs.Prelude.{slice_get}
use Rattle.std.proofs.lemmas.Option.{slice_get_within, same_Some}
use Rattle.vme_trace.proofs.ListLaws.{slice_get-set_here, slice_get-set_elsewhere}
use Rattle.vme_monitor.specs.Outcome.{nothing_shown}
use Rattle.vme_monitor.specs.Walk.{outcome_of}
use Rattle.vme_monitor.specs.declared.link.TableRow.{TableRow}
use Rattle.vme_monitor.specs.Meeting.{AreAmong, AreLastSeen, AreDistinct, memories_in}

-- an option has a value
abbrev Holds : {A : Type 0} → Option A → Type 0
Holds None = ⊥
Holds (Some x) = Unit {0}

-- None isn't equal to an option with a value
pub no_value : {A : Type 0} (x : A) → None ≡ Some x → ⊥
no_value {A} x e = subst (λ (o : Option A). Holds o) (sym e) tt

module _ {A : Type 0} where
  -- an item of a list with x at the end is one of the list, or x at the index after it
  pub get_pushed : (xs : List A) (x y : A) (i : ℕ) → slice_get (xs ++ x ∷ []) i ≡ Some y → (slice_get xs i ≡ Some y) ⊎
      ((i ≡ length xs) × (y ≡ x))
  get_pushed [] x y zero e = inr (refl, same_Some y x (sym e))
  get_pushed [] x y (suc i) e = absurd (no_value y e)
  get_pushed (z ∷ xs) x y zero e = inl e
  get_pushed (z ∷ xs) x y (suc i) e = ⊎_elim (λ a. inl a) (λ a. inr (ap suc a.0, a.1)) (get_pushed xs x y i e)

-- the memories of rows and one more are those of the rows, and that of the one more
pub memories_pushed : {P : Type 0} (rows : List (TableRow P)) (row : TableRow P)
    → memories_in (map outcome_of (rows ++ row ∷ [])) ≡ memories_in (map outcome_of rows) ++ row.memory ∷ []
memories_pushed [] row = refl
memories_pushed (r ∷ rows) row = ap (λ l. r.memory ∷ l) (memories_pushed rows row)

-- the memories of outcomes that show nothing are the memories that they are made of
pub memories_unchanged : {P : Type 0} (ms : List P) → memories_in (map nothing_shown ms) ≡ ms
memories_unchanged [] = refl
memories_unchanged (m ∷ ms) = ap (λ l. m ∷ l) (memories_unchanged ms)

-- `AreAmong` is reflexive and transitive
pub among_itself : {P : Type 0} (ms : List P) → AreAmong ms ms
among_itself ms i p e = (i, e)

module _ {P : Type 0} (place : P → ℕ) where
  -- memories whose places have their indices as entries of `last_seen` are at different places
  pub last_seen_distinct : (ms : List P) (last_seen : List ℕ) → AreLastSeen place ms last_seen → AreDistinct place ms
  last_seen_distinct ms last_seen index_at_place i j p q a b same = same_Some i j (sym (index_at_place i p a)
      ∙ ap (λ k. slice_get last_seen k) same ∙ index_at_place j q b)

  -- the entries of `last_seen` at the places of ms are `stamp`
  abbrev pub AreStamped : ℕ → List P → List ℕ → Type 0
  AreStamped stamp ms last_seen = (i : ℕ) (p : P) → slice_get ms i ≡ Some p → slice_get last_seen (place p) ≡ Some stamp

  -- setting an entry to `stamp` leaves the entries at the places of ms at `stamp`
  stamped_set : (stamp : ℕ) (ms : List P) (last_seen : List ℕ) (k : ℕ) → k < length last_seen → AreStamped stamp ms
      last_seen → AreStamped stamp ms (set last_seen k stamp)
  stamped_set stamp ms last_seen k below stamped i p e = dite (ℕ_discrete (place p) k)
      (λ same. ap (λ n. slice_get (set last_seen k stamp) n) same ∙ slice_get-set_here last_seen k stamp below)
      (λ ne. slice_get-set_elsewhere last_seen k (place p) stamp ne ∙ stamped i p e)

  -- after the entry at the place of m is set to `stamp`, those at the places of ms and of m are `stamp`
  pub stamped_appended : (stamp : ℕ) (ms : List P) (last_seen : List ℕ) (m : P) (k : ℕ) → k ≡ place m
      → k < length last_seen → AreStamped stamp ms last_seen → AreStamped stamp (ms ++ m ∷ []) (set last_seen k stamp)
  stamped_appended stamp ms last_seen m k is below stamped i p e =
      ⊎_elim (λ a. stamped_set stamp ms last_seen k below stamped i p a)
      (λ a. ap (λ n. slice_get (set last_seen k stamp) n) (ap place a.1 ∙ sym is)
      ∙ slice_get-set_here last_seen k stamp below)
      (get_pushed ms m p i e)

  -- a memory m whose place has another entry than `stamp` is at another place than those of ms
  pub distinct_appended : (stamp found : ℕ) (ms : List P) (last_seen : List ℕ) (m : P) (k : ℕ) → k ≡ place m
      → slice_get last_seen k ≡ Some found → found ≢ stamp → AreStamped stamp ms last_seen → AreDistinct place ms
      → AreDistinct place (ms ++ m ∷ [])
  distinct_appended stamp found ms last_seen m k is there other stamped apart i j p q a b same =
      ⊎_elim
      (λ x. ⊎_elim (λ y. apart i j p q x y same) (λ y. absurd (new p i x (same ∙ ap place y.1)))
      (get_pushed ms m q j b))
      (λ x. ⊎_elim (λ y. absurd (new q j y (sym same ∙ ap place x.1))) (λ y. x.0 ∙ sym y.0) (get_pushed ms m q j b))
      (get_pushed ms m p i a)
    where
      new : (r : P) (n : ℕ) → slice_get ms n ≡ Some r → place r ≡ place m → ⊥
      new r n e at = other (same_Some found stamp (sym there ∙ ap (λ n. slice_get last_seen n) (is ∙ sym at)
          ∙ stamped n r e))

  -- no memory of ms is at a place without an entry
  pub none_without_entry : (ms : List P) (last_seen : List ℕ) (k : ℕ) → length last_seen ≤ k
      → AreLastSeen place ms last_seen → (i : ℕ) (p : P) → slice_get ms i ≡ Some p → place p ≢ k
  none_without_entry ms last_seen k past index_at_place i p e same = let w = slice_get_within last_seen (place p) i
      (index_at_place i p e) in omega (arith, w, same, past)

  -- if a memory of ms is at the place k, the entry at k is its index
  entry_of : (ms : List P) (last_seen : List ℕ) (k at : ℕ) → slice_get last_seen k ≡ Some at → AreLastSeen place ms
      last_seen → (i : ℕ) (p : P) → slice_get ms i ≡ Some p → place p ≡ k → at ≡ i
  entry_of ms last_seen k at there index_at_place i p e same = same_Some at i
      (sym there ∙ ap (λ n. slice_get last_seen n) (sym same) ∙ index_at_place i p e)

  -- no memory of ms is at a place whose entry is an index past ms
  pub none_past_end : (ms : List P) (last_seen : List ℕ) (k at : ℕ) → slice_get last_seen k ≡ Some at → length ms ≤ at
      → AreLastSeen place ms last_seen → (i : ℕ) (p : P) → slice_get ms i ≡ Some p → place p ≢ k
  none_past_end ms last_seen k at there past index_at_place i p e same = let is = entry_of ms last_seen k at there
      index_at_place i p e same in let w = slice_get_within ms i p e in omega (arith, is, w, past)

  -- no memory of ms is at a place whose entry is the index of a memory at another place
  pub none_elsewhere : (ms : List P) (last_seen : List ℕ) (k at : ℕ) (other : P) → slice_get last_seen k ≡ Some at
      → slice_get ms at ≡ Some other → place other ≢ k → AreLastSeen place ms last_seen → (i : ℕ) (p : P)
      → slice_get ms i
      ≡ Some p → place p ≢ k
  none_elsewhere ms last_seen k at other there here ne index_at_place i p e same =
      ne (ap place
      (same_Some other p (sym here ∙ ap (λ n. slice_get ms n) (entry_of ms last_seen k at there index_at_place i p e
      same) ∙ e)) ∙ same)

-- a list with one memory more is among `others` if that memory is
pub among_more : {P : Type 0} (ms more others : List P) (m : P) (k : ℕ) → slice_get others k ≡ Some m
    → ((i : ℕ) (p : P) → slice_get more i ≡ Some p → (slice_get ms i ≡ Some p) ⊎ (p ≡ m)) → AreAmong ms others
    → AreAmong more others
among_more {P} ms more others m k there added among i p e =
    ⊎_elim (λ a. among i p a) (λ a. let r : (j : ℕ) × (slice_get others j ≡ Some p) = (k, there ∙ ap Some (sym a)) in
    r) (added i p e)
