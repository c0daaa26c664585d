-- An item of a body, read from its tokens, gives what the grammar says: the state after it, or its fault.
use Rattle.std.proofs.Common.{◌≡◌, ℕ, List, [], ◌∷◌, ◌++◌, Bool, true, false, Option, Some, None, Result, Ok, Err}
use Rattle.std.proofs.Common.{IfOk, IfErr, refl}
use Rattle.std.proofs.Common.{sym, ap, subst, ◌∙◌}
use Rattle.std.proofs.lemmas.Option.{same_Some}
use Rattle.vcd_read.specs.declared.fault.FaultKind.{FaultKind}
use Rattle.vcd_read.specs.declared.fault.FaultKind.TheVariants.{Memory, BadToken, UnfinishedSection}
use Rattle.vcd_read.specs.declared.fault.VcdFault.{VcdFault}
use Rattle.vcd_read.specs.Tokens.{Token}
use Rattle.std.specs.Result.{IsErrAnd}
use Rattle.vcd_read.specs.Reading.{left_at}
use Rattle.vcd_read.specs.declared.body_piece.BodyPiece.{BodyPiece}
use Rattle.vcd_read.specs.declared.body_piece.Start.{Start}
use Rattle.vcd_read.specs.declared.open_item.OpenItem.{OpenItem}
use Rattle.vcd_read.specs.declared.open_item.OpenItem.TheVariants.{Ready, Vector, Foreign, Comment}
use Rattle.vcd_read.specs.Header.{◌>>=◌, Net, is_end}
use Rattle.vcd_read.specs.Body.{BodyItem, time_item, change, skipped, dump_section_open, dump_section_end, wrong}
use Rattle.vcd_read.specs.Body.{BodyPlace}
use Rattle.vcd_read.specs.Body.{Shape, time_shape, scalar, vector, foreign, comment, open_shape, end_shape, none, ready}
use Rattle.vcd_read.specs.Body.{code_of_vector, code_of_foreign, in_comment, body_from, shape_of}
use Rattle.vcd_read.specs.Meaning.{ReadFailsAs, ReadGives}
use Rattle.vcd_read.specs.declared.dump.Bit.{Bit}
use Rattle.vcd_read.specs.declared.stopped.Stopped.{Stopped}
use Rattle.vcd_read.specs.BodyFold.{BodyFold, State, ended, reached_before, state_of, step, steps}
use Rattle.vcd_read.specs.Bodies.{BodyContinuesAs, GivesOrStops, KeepsTaken, KeepsAs, Stops, StoppedAs, UntilFault}
use Rattle.vcd_read.specs.Bodies.{finished}
use Rattle.vcd_read.specs.Bodies.{place_of, unfinished, until_fault}

-- ---- the cut, by what a token is

-- the items from a token of this shape on, on this line, with the tokens `ts` after it
abbrev pub items_of : Shape → ℕ → List Token → List BodyItem
items_of (time_shape digits) line ts = time_item line digits ∷ body_from ready ts
items_of (scalar digits code) line ts = change line digits code ∷ body_from ready ts
items_of (vector digits) line ts = body_from (code_of_vector line digits) ts
items_of foreign line ts = body_from (code_of_foreign line) ts
items_of comment line ts = body_from (in_comment line) ts
items_of open_shape line ts = dump_section_open line ∷ body_from ready ts
items_of end_shape line ts = dump_section_end line ∷ body_from ready ts
items_of none line ts = wrong line BadToken ∷ body_from ready ts

-- the items from a token on are those of its shape
pub body_from-shape : (t : Token) (ts : List Token) (shape : Shape) → shape ≡ shape_of t.bytes
    → body_from ready (t ∷ ts)
    ≡ items_of shape t.line ts
unfolding body_from
body_from-shape t ts (time_shape digits) e = rw (body_from, ← e) refl
body_from-shape t ts shape e = rw (body_from, ← e) refl

-- after the digits of a vector, the next token is the code whose value they are
pub body_from-vector_code : (line : ℕ) (digits : List ℕ) (before ts : List Token) (t : Token) → before ≡ t ∷ ts
    → body_from (code_of_vector line digits) before ≡ change line digits t.bytes ∷ body_from ready ts
unfolding body_from
body_from-vector_code line digits before ts t cut = ap (body_from (code_of_vector line digits)) cut

-- after a real number or a string, the next token is its code
pub body_from-foreign_code : (line : ℕ) (before ts : List Token) (t : Token) → before ≡ t ∷ ts
    → body_from (code_of_foreign line)
    before ≡ skipped line t.bytes ∷ body_from ready ts
unfolding body_from
body_from-foreign_code line before ts t cut = ap (body_from (code_of_foreign line)) cut

-- the items from a token of a comment on, where `test` is whether it is `$end`, and `ts` are the tokens after it
abbrev pub commented : ℕ → List Token → Bool → List BodyItem
commented line ts test = elim test as (λ _. List BodyItem) [
  | true ↦ body_from ready ts
  | false ↦ body_from (in_comment line) ts
]

-- a token in a comment ends it, if `test` holds, or is part of it
body_from-in_comment : (line : ℕ) (t : Token) (ts : List Token) (test : Bool) → is_end t.bytes ≡ test
    → body_from (in_comment line) (t ∷ ts) ≡ commented line ts test
unfolding body_from
body_from-in_comment line t ts test e = ap (commented line ts) e

-- the token `$end` ends a comment
pub body_from-comment_end : (line : ℕ) (before ts : List Token) (t : Token) → before ≡ t ∷ ts → is_end t.bytes ≡ true
    → body_from (in_comment line) before ≡ body_from ready ts
body_from-comment_end line before ts t cut e = ap (body_from (in_comment line)) cut
    ∙ body_from-in_comment line t ts true e

-- a token other than `$end` is part of a comment
pub body_from-comment_word : (line : ℕ) (before ts : List Token) (t : Token) → before ≡ t ∷ ts → is_end t.bytes ≡ false
    → body_from (in_comment line) before ≡ body_from (in_comment line) ts
body_from-comment_word line before ts t cut e = ap (body_from (in_comment line)) cut
    ∙ body_from-in_comment line t ts false e

-- ---- what reading gives

-- reading gives the same after a call as before it, or stops with the fault of the call
abbrev OneContinuesAs : {A X : Type 0} → UntilFault A → UntilFault A → BodyFold A → Result X VcdFault → Type 0
OneContinuesAs before after timed (Ok _) = before ≡ after
OneContinuesAs before after timed (Err fault) = Stops fault timed.accumulator timed.time before

-- where reading is the same, it stops the same
pub Stops-same : {A : Type 0} (fault : VcdFault) (taken : A) (time : ℕ) (a b : UntilFault A) → a ≡ b
    → Stops fault taken time b → Stops fault taken time a
Stops-same {A = A} fault taken time a b e h = subst (λ (read : UntilFault A). Stops fault taken time read) (sym e) h

-- where reading is the same, it gives the same
pub outcome-same : {A : Type 0} (a b : UntilFault A) → a ≡ b → a.outcome ≡ b.outcome
outcome-same {A = A} a b e = ap (λ (read : UntilFault A). read.outcome) e

-- where reading stops, it fails
pub ReadFailsAs-StoppedAs : {A Y : Type 0} (line : ℕ) (kind : FaultKind) (taken : A) (time : ℕ) (before : BodyFold A)
    (read : Result Y VcdFault) → StoppedAs line kind taken time before read → ReadFailsAs line kind read
ReadFailsAs-StoppedAs line Memory taken time before read h = h
ReadFailsAs-StoppedAs line kind taken time before read h = h.0

-- if `OneContinuesAs` holds for all tokens `more` that follow, `BodyContinuesAs` holds
BodyContinuesAs-each : {A X : Type 0} (before after : List Token → UntilFault A) (timed : BodyFold A)
    (r : Result X VcdFault)
    → ((more : List Token) → OneContinuesAs (before more) (after more) timed r)
    → BodyContinuesAs before after timed.accumulator timed.time r
BodyContinuesAs-each before after timed (Ok x) h = h
BodyContinuesAs-each before after timed (Err fault) h = h

-- if reading before the call is the same, whatever follows, `BodyContinuesAs` holds of the one as of the other
pub BodyContinuesAs-same : {A X : Type 0} (before before2 after : List Token → UntilFault A) (taken : A) (time : ℕ)
    (r : Result X VcdFault)
    → ((more : List Token) → before more ≡ before2 more) → BodyContinuesAs before2 after taken time r
    → BodyContinuesAs before after taken time r
BodyContinuesAs-same before before2 after taken time (Ok x) e h = λ more. e more ∙ h more
BodyContinuesAs-same before before2 after taken time (Err fault) e h = λ more. Stops-same fault taken time (before more)
    (before2 more) (e more) (h more)

-- if reading stops with `fault`, whatever follows, `BodyContinuesAs` holds of the error `fault`, as `?` returns it
pub BodyContinuesAs-error : {A X : Type 0} (before after : List Token → UntilFault A) (taken : A) (time : ℕ)
    (r : Result X VcdFault) (fault : VcdFault) → IsErrAnd r (λ e. e ≡ fault)
    → ((more : List Token) → Stops fault taken time (before more)) → BodyContinuesAs before after taken time r
BodyContinuesAs-error before after taken time (Ok x) fault is h = absurd is
BodyContinuesAs-error before after taken time (Err e) fault is h = subst
    (λ (f : VcdFault). (more : List Token) → Stops f taken
    time (before more)) (sym is) h

-- ---- what was taken

-- a call that takes nothing keeps what was taken
pub KeepsTaken-same : {A X : Type 0} (a : A) (r : Result X VcdFault) → KeepsTaken a a r
KeepsTaken-same a (Ok x) = tt
KeepsTaken-same a (Err fault) = by_kind a fault.kind
  where
    -- with a fault of any kind, a call that takes nothing keeps what was taken
    by_kind : {A : Type 0} (a : A) (kind : FaultKind) → KeepsAs kind a a
    by_kind a Memory = tt
    by_kind a kind = refl

-- if the end of a body gives what the visitor took, and its only fault is want of memory, `GivesOrStops` holds
pub GivesOrStops-memory : {A T : Type 0} (taken : T → A) (before : BodyFold A) (end : A) (r : Result T (Stopped T))
    (read : Result A VcdFault) → IfOk r (λ visitor. taken visitor ≡ end)
    → IfErr r (λ stopped. stopped.fault ≡ record { line = 0; kind = Memory }) → read ≡ Ok end
    → GivesOrStops taken before r read
GivesOrStops-memory taken before end (Ok visitor) read is memory e = e ∙ ap Ok (sym is)
GivesOrStops-memory taken before end (Err stopped) read is memory e = subst (λ (f : VcdFault). StoppedAs f.line f.kind
    (taken stopped.visitor) stopped.time before read) (sym memory) refl

module _ {A : Type 0} (with_change : A → ℕ → List Bit → A) (with_instant : A → ℕ → A) where
  -- an item or a dump section on this line isn't ended
  abbrev unfinished_at : ℕ → Result A VcdFault
  unfinished_at line = Err (record { line = line; kind = UnfinishedSection })

  -- the state before the first fault of `items` from the state `r` on, or `s` where `r` is a fault
  abbrev pub reached_after : List Net → State A → List BodyItem → Result (State A) VcdFault → State A
  reached_after nets s items r = elim r as (λ _. State A) [
    | Ok next ↦ reached_before with_change with_instant nets next items
    | Err fault ↦ s
  ]

  -- what reading `items` from the state `r` on gives, and how far it comes
  abbrev until_fault_after : List Net → State A → List BodyItem → Result (State A) VcdFault → UntilFault A
  until_fault_after nets s items r = record {
    outcome = r >>= λ next. steps with_change with_instant nets next items;
    reached = reached_after nets s items r;
  }

  -- to read an item without a fault, and then `items`, is to read `items` from the state after it
  until_fault-item : (nets : List Net) (s next : State A) (item : BodyItem) (items : List BodyItem) → step with_change
      with_instant nets s item ≡ Ok next
      → until_fault with_change with_instant nets s (item ∷ items)
      ≡ until_fault with_change with_instant nets next items
  unfolding steps reached_before
  until_fault-item nets s next item items e = ap (until_fault_after nets s items) e

  -- reading stops at an item that is a fault, in the state before it
  until_fault-fault : (nets : List Net) (s : State A) (item : BodyItem) (items : List BodyItem) (fault : VcdFault)
      → step with_change with_instant nets s item ≡ Err fault
      → until_fault with_change with_instant nets s (item ∷ items) ≡ record { outcome = Err fault; reached = s }
  unfolding steps reached_before
  until_fault-fault nets s item items fault e = ap (until_fault_after nets s items) e

  -- if reading stops at `s`, what was taken and the time there are those before the fault
  until_fault-stops : (nets : List Net) (s : State A) (items : List BodyItem) (line : ℕ) (kind : FaultKind)
      (timed : BodyFold A)
      → until_fault with_change with_instant nets s items
      ≡ record { outcome = Err (record { line = line; kind = kind }); reached = s }
      → timed ≡ s.progress
      → (steps with_change with_instant nets s items ≡ Err (record { line = line; kind = kind }))
      × (timed.accumulator ≡ (reached_before with_change with_instant nets s items).progress.accumulator)
      × (timed.time ≡ (reached_before with_change with_instant nets s items).progress.time)
  until_fault-stops nets s items line kind timed e kept =
      let same : timed ≡ (reached_before with_change with_instant nets s items).progress =
      kept ∙ sym (ap (λ (read : UntilFault A). read.reached.progress) e) in (
        outcome-same _ _ e,
        ap (λ (p : BodyFold A). p.accumulator) same,
        ap (λ (p : BodyFold A). p.time) same,
      )

  -- if an item is a fault, and what was taken is as before it, reading stops there with this fault
  StoppedAs-item : (nets : List Net) (s : State A) (item : BodyItem) (items : List BodyItem) (line : ℕ)
      (kind : FaultKind)
      (timed : BodyFold A) → ReadFailsAs line kind (step with_change with_instant nets s item)
      → KeepsAs kind s.progress timed
      → StoppedAs line kind timed.accumulator timed.time
      (reached_before with_change with_instant nets s (item ∷ items)).progress
      (steps with_change with_instant nets s (item ∷ items))
  StoppedAs-item nets s item items line Memory timed h kept = h
  StoppedAs-item nets s item items line kind timed h kept = until_fault-stops nets s (item ∷ items) line kind timed
      (until_fault-fault nets s item items (record { line = line; kind = kind }) h) kept

  -- if a call makes of the state what an item makes of it, or has its fault, reading goes on or stops as
  -- `OneContinuesAs` says
  OneContinuesAs-item : {X : Type 0} (nets : List Net) (s s2 : State A) (item : BodyItem) (after : List BodyItem)
      (r : Result X VcdFault) → ReadGives (λ _. s2) r (step with_change with_instant nets s item)
      → KeepsTaken s.progress s2.progress r
      → OneContinuesAs (until_fault with_change with_instant nets s (item ∷ after))
      (until_fault with_change with_instant nets s2 after) s2.progress r
  OneContinuesAs-item nets s s2 item after (Ok x) h kept = until_fault-item nets s s2 item after h
  OneContinuesAs-item nets s s2 item after (Err fault) h kept = StoppedAs-item nets s item after fault.line fault.kind
      s2.progress h kept

  -- if a function that leaves the reader where it was makes of the state what an item makes of it, or has its fault,
  -- `BodyContinuesAs` holds
  pub BodyContinuesAs-item : {X : Type 0} (nets nets2 : List Net) (s s2 : State A) (text text2 : BodyPiece) (at at2 : ℕ)
      (place : OpenItem) (item : BodyItem) (before : List Token → List BodyItem) (r : Result X VcdFault)
      → nets2 ≡ nets → text2 ≡ text → at2 ≡ at → place ≡ Ready
      → ((more : List Token) → before more ≡ item ∷ body_from ready (left_at text at ++ more))
      → ReadGives (λ _. s2) r (step with_change with_instant nets s item)
      → KeepsTaken s.progress s2.progress r
      → BodyContinuesAs (λ more. until_fault with_change with_instant nets s (before more))
      (λ more. until_fault with_change with_instant nets2 s2 (body_from (place_of place) (left_at text2 at2 ++ more)))
      s2.progress.accumulator s2.progress.time r
  BodyContinuesAs-item nets nets2 s s2 text text2 at at2 place item before r n t a p is h kept =
      BodyContinuesAs-each (λ more. until_fault with_change with_instant nets s (before more))
      (λ more. until_fault with_change with_instant nets2 s2 (body_from (place_of place) (left_at text2 at2 ++ more)))
      s2.progress r
      (λ more. rw (n, t, a, p, is more)
      (OneContinuesAs-item nets s s2 item (body_from ready (left_at text at ++ more)) r h kept))

  -- if a function that leaves the reader at `after` makes of the state what an item makes of it, or has its fault,
  -- `BodyContinuesAs` holds
  pub BodyContinuesAs-item_at : {X : Type 0} (nets nets2 : List Net) (timed timed2 : BodyFold A)
      (dump_section dump_section2 : Option Start)
      (text text2 : BodyPiece) (after : ℕ) (item : BodyItem) (before : List Token → List BodyItem)
      (r : Result X VcdFault)
      → nets2 ≡ nets → text2 ≡ text
      → ((more : List Token) → before more ≡ item ∷ body_from ready (left_at text after ++ more))
      → ReadGives (λ _. state_of text timed2 dump_section2) r
      (step with_change with_instant nets (state_of text timed dump_section) item)
      → KeepsTaken timed timed2 r
      → BodyContinuesAs (λ more. until_fault with_change with_instant nets (state_of text timed dump_section)
      (before more)) (λ more. until_fault with_change with_instant nets2 (state_of text2 timed2 dump_section2)
      (body_from ready (left_at text2 after ++ more))) timed2.accumulator timed2.time r
  BodyContinuesAs-item_at nets nets2 timed timed2 dump_section dump_section2 text text2 after item before r n t is h
      kept =
      subst (λ (p : BodyPiece). BodyContinuesAs (λ more. until_fault with_change with_instant nets
      (state_of text timed dump_section) (before more)) (λ more. until_fault with_change with_instant nets2
      (state_of p timed2 dump_section2) (body_from ready (left_at p after ++ more))) timed2.accumulator timed2.time r)
      (sym t)
      (BodyContinuesAs-item nets nets2 (state_of text timed dump_section) (state_of text timed2 dump_section2) text text
      after
      after Ready item before r n refl refl refl is h kept)

  -- what is no item is a fault, and leaves what was taken and the time
  pub steps-wrong : (nets : List Net) (s : State A) (line : ℕ) (kind : FaultKind) (before after : List BodyItem)
      → before
      ≡ wrong line kind ∷ after
      → (steps with_change with_instant nets s before ≡ Err (record { line = line; kind = kind }))
      × (s.progress.accumulator ≡ (reached_before with_change with_instant nets s before).progress.accumulator)
      × (s.progress.time ≡ (reached_before with_change with_instant nets s before).progress.time)
  steps-wrong nets s line kind before after e =
      rw e (until_fault-stops nets s (wrong line kind ∷ after) line kind s.progress
      (until_fault-fault nets s (wrong line kind) after (record { line = line; kind = kind }) refl) refl)

  -- if nothing is left of a piece before and after a call, reading gives the same, whatever follows
  pub until_fault-nothing_left : (nets : List Net) (s : State A) (place : BodyPlace) (before after : List Token)
      → before ≡ []
      → after ≡ []
      → (more : List Token) → until_fault with_change with_instant nets s (body_from place (before ++ more))
      ≡ until_fault with_change with_instant nets s (body_from place (after ++ more))
  until_fault-nothing_left nets s place before after e e2 more = rw (e, e2) refl

  -- from equal states, reading gives the same, whatever follows
  pub until_fault-same_state : (nets nets2 : List Net) (text text2 : BodyPiece) (timed visitor2 : BodyFold A)
      (dump_section dump_section2 : Option Start) (place place2 : BodyPlace) (at : ℕ) → nets2 ≡ nets → text2 ≡ text
      → visitor2
      ≡ timed
      → dump_section2 ≡ dump_section → place2 ≡ place
      → (more : List Token) → until_fault with_change with_instant nets (state_of text timed dump_section)
      (body_from place (left_at text at ++ more))
      ≡ until_fault with_change with_instant nets2 (state_of text2 visitor2 dump_section2)
      (body_from place2 (left_at text2 at ++ more))
  until_fault-same_state nets nets2 text text2 timed visitor2 dump_section dump_section2 place place2 at n t w b p more
      =
      rw (n, t, w, b, p) refl

  -- if nothing is left of a piece, reading gives what the tokens `more` after it give
  pub until_fault-only_more : (nets nets2 : List Net) (s : State A) (place : BodyPlace) (left : List Token) → nets2
      ≡ nets
      → left ≡ []
      → (more : List Token) → until_fault with_change with_instant nets2 s (body_from place (left ++ more))
      ≡ until_fault with_change with_instant nets s (body_from place more)
  until_fault-only_more nets nets2 s place left n e more = rw (n, e) refl

  -- an item or a dump section that isn't ended is a fault at the end of the body
  pub finished-unfinished : (nets : List Net) (timed : BodyFold A) (dump_section : Option ℕ) (place : OpenItem)
      (line : ℕ)
      → unfinished place dump_section ≡ Some line
      → finished with_change with_instant nets timed dump_section (place_of place)
      ≡ Err (record { line = line; kind = UnfinishedSection })
  unfolding steps body_from
  finished-unfinished nets timed dump_section Ready line e = ap
      (λ (b : Option ℕ). finished with_change with_instant nets
      timed b ready) e
  finished-unfinished nets timed dump_section (Vector digits) line e = ap unfinished_at (same_Some digits.line line e)
  finished-unfinished nets timed dump_section (Foreign at) line e = ap unfinished_at (same_Some at line e)
  finished-unfinished nets timed dump_section (Comment at) line e = ap unfinished_at (same_Some at line e)

  -- where no item and no dump section is open, the end of the body gives what was taken
  pub finished-ok : (nets : List Net) (timed : BodyFold A) (dump_section : Option ℕ) (place : OpenItem)
      → unfinished place dump_section ≡ None
      → finished with_change with_instant nets timed dump_section (place_of place) ≡ Ok (ended with_instant timed)
  unfolding steps body_from
  finished-ok nets timed dump_section Ready e = ap (λ (b : Option ℕ). finished with_change with_instant nets timed b
      ready) e
  finished-ok nets timed dump_section place e = absurd (cc e)
