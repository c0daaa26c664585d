-- The tokens of one item of a body are taken: after them is a place between two items, and only the times after it are
-- left.
use Rattle.std.proofs.Common.{◌≡◌, ℕ, ◌≤◌, Bool, true, false, List, [], ◌∷◌, ◌++◌, Option, Some, None, Result, Ok, Err}
use Rattle.std.proofs.Common.{length, take, drop, refl, sym, ap, subst, ◌∙◌, append_assoc}
use Rattle.std.specs.Prelude.{IfNone}
use Rattle.std.specs.Result.{result_ok}
use Rattle.std.specs.List.{cons_option, list_any}
use Rattle.std.proofs.lemmas.Bool.{or_parts}
use Rattle.vcd_read.specs.declared.fault.FaultKind.{FaultKind}
use Rattle.vcd_read.specs.Tokens.{Token, tokens}
use Rattle.vcd_read.specs.Reading.{tokens_after}
use Rattle.vcd_read.specs.Numbers.{number, time_of}
use Rattle.vcd_read.specs.Header.{Header, between, header_from, is_end}
use Rattle.vcd_read.specs.Body.{BodyItem, Shape, body_from, dump_section_end, dump_section_open, change}
use Rattle.vcd_read.specs.Body.{comment, end_shape, foreign, in_comment, none, open_shape, ready}
use Rattle.vcd_read.specs.Body.{scalar}
use Rattle.vcd_read.specs.Body.{shape_of, skipped, time_item, time_shape, vector, wrong}
use Rattle.vcd_read.specs.Meaning.{last_time}
use Rattle.vcd_read.proofs.BodyLemmas.{body_from-shape, commented}
use Rattle.vcd_read.proofs.ContextLemmas.{number-time_of}
use Rattle.vcd_places.specs.Items.{BegunKind, code_kind, comment_kind, kind_of, single_kind, time_kind}
use Rattle.vcd_places.specs.Places.{AreWholeItems, IsAtTime, body_in, starts_at_boundary}
use Rattle.vcd_places.specs.Places.{item_time}
use Rattle.vcd_places.specs.Places.{item_times}
use Rattle.vcd_places.specs.NextTokens.{IsNextToken, IsTakenToEnd, ends_section}
use Rattle.vcd_places.specs.Times.{IsBetweenItems, times_left}
use Rattle.vcd_places.proofs.InsertionLemmas.{ExtendsBody-all}

-- ---- the times of some items

-- the times of two lists of items are those of the one, and then of the other
pub item_times-append : (xs ys : List BodyItem) → item_times (xs ++ ys) ≡ item_times xs ++ item_times ys
unfolding item_times
item_times-append [] ys = refl
item_times-append (x ∷ xs) ys = ap (cons_option (item_time x)) (item_times-append xs ys) ∙ go (item_time x)
  where
    -- whether the first item has a time (`o`) or not
    go : (o : Option ℕ) → cons_option o (item_times xs ++ item_times ys) ≡ cons_option o (item_times xs)
        ++ item_times ys
    go None = refl
    go (Some t) = refl

-- after items the last of which is a time item, its time is the last
last_time-push : (items : List BodyItem) (now line : ℕ) (digits : List ℕ)
    → last_time now (items ++ time_item line digits ∷ []) ≡ number digits
unfolding last_time
last_time-push [] now line digits = refl
last_time-push (time_item l ds ∷ items) now line digits = last_time-push items (number ds) line digits
last_time-push (item ∷ items) now line digits = last_time-push items now line digits

-- ---- whole items

-- the tokens `ts` are whole items, and `times` are their times below 2^64
pub record IsItem (ts : List Token) (times : List ℕ) : Type 0 where
  pub whole : AreWholeItems ts
  pub times_are : item_times (body_from ready ts) ≡ times

-- a shape whose kind is a time is a time
time_shape-kind_of : (shape : Shape) (digits : List ℕ) → kind_of shape ≡ time_kind digits → shape ≡ time_shape digits
time_shape-kind_of (time_shape ds) digits e = ap (λ (kind : BegunKind). elim kind as (λ _. Shape) [
  | time_kind found ↦ time_shape found
  | code_kind ↦ none
  | comment_kind ↦ none
  | single_kind ↦ none
]) e
time_shape-kind_of shape digits e = absurd cc

-- a shape whose kind is a comment is a comment
comment-kind_of : (shape : Shape) → kind_of shape ≡ comment_kind → shape ≡ comment
comment-kind_of comment e = refl
comment-kind_of shape e = absurd cc

module _ (t : Token) where
  -- a token that is a time is read as a time item
  body_from-time : (digits : List ℕ) → kind_of (shape_of t.bytes) ≡ time_kind digits → (ts : List Token)
      → body_from ready (t ∷ ts) ≡ time_item t.line digits ∷ body_from ready ts
  body_from-time digits is ts = body_from-shape t ts (time_shape digits)
      (sym (time_shape-kind_of (shape_of t.bytes) digits is))

  -- a token that is a time is an item, with this time if it is below 2^64
  pub IsItem-time : (digits : List ℕ) → kind_of (shape_of t.bytes) ≡ time_kind digits
      → IsItem (t ∷ []) (cons_option (result_ok (time_of digits)) [])
  unfolding body_from item_times
  IsItem-time digits is = record {
    whole = λ more. body_from-time digits is more
        ∙ sym (ap (λ (items : List BodyItem). items ++ body_from ready more) (body_from-time digits is []));
    times_are = ap item_times (body_from-time digits is []);
  }

  -- the token `t` alone is `item`, which isn't a time
  record IsSingle (item : BodyItem) : Type 0 where
    no_time : item_time item ≡ None
    read : (ts : List Token) → body_from ready (t ∷ ts) ≡ item ∷ body_from ready ts

  -- a token whose shape is of a single token is an item by itself
  IsSingle-shape_of : (shape : Shape) → shape ≡ shape_of t.bytes → kind_of shape ≡ single_kind
      → (item : BodyItem) × IsSingle item
  IsSingle-shape_of (scalar ds code) e is = (
    change t.line ds code,
    record { no_time = refl; read = λ ts. body_from-shape t ts (scalar ds code) e },
  )
  IsSingle-shape_of open_shape e is = (
    dump_section_open t.line,
    record { no_time = refl; read = λ ts. body_from-shape t ts open_shape e },
  )
  IsSingle-shape_of end_shape e is = (
    dump_section_end t.line,
    record { no_time = refl; read = λ ts. body_from-shape t ts end_shape e },
  )
  IsSingle-shape_of none e is = (wrong t.line _, record { no_time = refl; read = λ ts. body_from-shape t ts none e })
  IsSingle-shape_of shape e is = absurd cc

  -- a token whose shape is of a single token is an item without a time
  pub IsItem-single : kind_of (shape_of t.bytes) ≡ single_kind → IsItem (t ∷ []) []
  unfolding body_from item_times
  IsItem-single is =
      let one = IsSingle-shape_of (shape_of t.bytes) refl is in
      record {
        whole = λ more. one.1.read more
            ∙ sym (ap (λ (items : List BodyItem). items ++ body_from ready more) (one.1.read []));
        times_are = ap item_times (one.1.read []) ∙ ap (λ (o : Option ℕ). cons_option o []) one.1.no_time;
      }

  -- the token `t` and the next one, its code, are an item without a time; `t` alone gives no time either (`alone`)
  record HasCode : Type 0 where
    item : List ℕ → BodyItem
    no_time : (code : List ℕ) → item_time (item code) ≡ None
    read : (u : Token) (ts : List Token) → body_from ready (t ∷ u ∷ ts) ≡ item u.bytes ∷ body_from ready ts
    alone : item_times (body_from ready (t ∷ [])) ≡ []

  -- a token whose shape asks for a code has its code in the next token
  HasCode-shape_of : (shape : Shape) → shape ≡ shape_of t.bytes → kind_of shape ≡ code_kind → HasCode
  unfolding body_from item_times
  HasCode-shape_of (vector ds) e is = record {
    item = λ code. change t.line ds code;
    no_time = λ code. refl;
    read = λ u ts. body_from-shape t (u ∷ ts) (vector ds) e;
    alone = ap item_times (body_from-shape t [] (vector ds) e);
  }
  HasCode-shape_of foreign e is = record {
    item = λ code. skipped t.line code;
    no_time = λ code. refl;
    read = λ u ts. body_from-shape t (u ∷ ts) foreign e;
    alone = ap item_times (body_from-shape t [] foreign e);
  }
  HasCode-shape_of shape e is = absurd cc

  -- a token whose shape asks for a code, and its code, are an item without a time
  pub IsItem-code : (u : Token) → kind_of (shape_of t.bytes) ≡ code_kind → IsItem (t ∷ u ∷ []) []
  unfolding body_from item_times
  IsItem-code u is =
      let one = HasCode-shape_of (shape_of t.bytes) refl is in
      record {
        whole = λ more. one.read u more
            ∙ sym (ap (λ (items : List BodyItem). items ++ body_from ready more) (one.read u []));
        times_are = ap item_times (one.read u []) ∙ ap (λ (o : Option ℕ). cons_option o []) (one.no_time u.bytes);
      }

  -- a token whose shape asks for a code, without its code, has no time
  pub item_times-code_alone : kind_of (shape_of t.bytes) ≡ code_kind → item_times (body_from ready (t ∷ [])) ≡ []
  item_times-code_alone is = (HasCode-shape_of (shape_of t.bytes) refl is).alone

  -- after `$comment`, the tokens `ts` are read as those of a comment
  body_from-comment : kind_of (shape_of t.bytes) ≡ comment_kind → (ts : List Token)
      → body_from ready (t ∷ ts) ≡ body_from (in_comment t.line) ts
  body_from-comment is ts = body_from-shape t ts comment (sym (comment-kind_of (shape_of t.bytes) is))

-- a comment ends at the first `$end`, and items follow
body_from-comment_ended : (line : ℕ) (words : List Token) (last : Token) (more : List Token)
    → list_any ends_section words ≡ false
    → is_end last.bytes ≡ true → body_from (in_comment line) (words ++ last ∷ more) ≡ body_from ready more
unfolding body_from
body_from-comment_ended line [] last more none_ends ends = ap (commented line more) ends
body_from-comment_ended line (w ∷ words) last more none_ends ends =
    let parts = or_parts (is_end w.bytes) (list_any ends_section words) none_ends in
    ap (commented line (words ++ last ∷ more)) parts.0 ∙ body_from-comment_ended line words last more parts.1 ends

-- a comment without `$end` gives no times
item_times-endless_comment : (line : ℕ) (words : List Token) → list_any ends_section words ≡ false
    → item_times (body_from (in_comment line) words) ≡ []
unfolding body_from item_times
item_times-endless_comment line [] none_ends = refl
item_times-endless_comment line (w ∷ words) none_ends =
    let parts = or_parts (is_end w.bytes) (list_any ends_section words) none_ends in
    ap (λ (test : Bool). item_times (commented line words test)) parts.0 ∙ item_times-endless_comment line words parts.1

-- `$comment`, words and the next `$end` are an item without a time
pub IsItem-comment : (t : Token) (words : List Token) (last : Token) → kind_of (shape_of t.bytes) ≡ comment_kind
    → list_any ends_section words ≡ false → is_end last.bytes ≡ true → IsItem (t ∷ (words ++ last ∷ [])) []
unfolding body_from item_times
IsItem-comment t words last is none_ends ends =
    let alone = body_from-comment t is (words ++ last ∷ []) ∙ body_from-comment_ended t.line words last [] none_ends
    ends in
    record {
      whole = λ more. ap (λ (ts : List Token). body_from ready (t ∷ ts)) (append_assoc words (last ∷ []) more)
          ∙ body_from-comment t is (words ++ last ∷ more) ∙ body_from-comment_ended t.line words last more none_ends
          ends
          ∙ sym (ap (λ (items : List BodyItem). items ++ body_from ready more) alone);
      times_are = ap item_times alone;
    }

-- `$comment` and words without `$end` have no times
pub item_times-comment_alone : (t : Token) (words : List Token) → kind_of (shape_of t.bytes) ≡ comment_kind
    → list_any ends_section words ≡ false → item_times (body_from ready (t ∷ words)) ≡ []
item_times-comment_alone t words is none_ends = ap item_times (body_from-comment t is words)
    ∙ item_times-endless_comment t.line words none_ends

-- ---- an item is taken

-- the tokens of `text` from `at` up to `next` are `ts`
pub record AreTaken (text : List ℕ) (at next : ℕ) (ts : List Token) : Type 0 where
  pub within : next ≤ length text
  pub detached : starts_at_boundary (drop next text) ≡ true
  pub left : tokens_after 1 text at ≡ ts ++ tokens_after 1 text next
  pub taken : tokens (take next text) ≡ tokens (take at text) ++ ts

module _ {text : List ℕ} {at next : ℕ} {ts : List Token} {times : List ℕ} (b : IsBetweenItems text at)
    (taken : AreTaken text at next ts) (item : IsItem ts times) where
  -- the body before `next` is that before `at`, and the tokens that are taken
  ended : body_in (take next text) ≡ Some (b.body ++ ts)
  ended =
      ap (λ (all : List Token). (header_from between all).body) taken.taken
      ∙ ap (λ (h : Header). h.body) (ExtendsBody-all ts (tokens (take at text)) between b.body b.ended)

  -- the tokens of the body before `next` are whole items
  AreWholeItems-taken : AreWholeItems (b.body ++ ts)
  AreWholeItems-taken = λ more.
      ap (body_from ready) (append_assoc b.body ts more)
      ∙ b.whole (ts ++ more)
      ∙ ap (λ (items : List BodyItem). body_from ready b.body ++ items) (item.whole more)
      ∙ sym (append_assoc (body_from ready b.body) (body_from ready ts) (body_from ready more))
      ∙ ap (λ (items : List BodyItem). items ++ body_from ready more) (sym (b.whole ts))

  -- after the item that is taken, the place `next` is between two items
  pub IsBetweenItems-next : IsBetweenItems text next
  IsBetweenItems-next = record {
    within = taken.within;
    detached = taken.detached;
    body = b.body ++ ts;
    ended = ended;
    whole = AreWholeItems-taken;
  }

  -- the times that are left at `at` are those of the item, and those left at `next`
  pub times_left-next : times_left (record { text = text; at = at })
      ≡ times ++ times_left (record { text = text; at = next })
  times_left-next =
      ap (λ (all : List Token). item_times (body_from ready all)) taken.left
      ∙ ap item_times (item.whole (tokens_after 1 text next))
      ∙ item_times-append (body_from ready ts) (body_from ready (tokens_after 1 text next))
      ∙ ap (λ (first : List ℕ). first ++ times_left (record { text = text; at = next })) item.times_are

-- ---- one token, and more, are taken

module _ {text : List ℕ} {at next : ℕ} {bytes : List ℕ} (one : IsNextToken text at next bytes) where
  -- the token that is taken
  abbrev pub token : Token
  token = record { line = one.line; bytes = bytes }

  -- the one token is taken
  pub AreTaken-one : AreTaken text at next (token ∷ [])
  AreTaken-one = record { within = one.within; detached = one.detached; left = one.left; taken = one.taken }

  -- the token and the one after it are taken
  pub AreTaken-two : {end : ℕ} {code : List ℕ} (two : IsNextToken text next end code)
      → AreTaken text at end (token ∷ record { line = two.line; bytes = code } ∷ [])
  AreTaken-two {code = code} two = record {
    within = two.within;
    detached = two.detached;
    left = one.left ∙ ap (λ (ts : List Token). token ∷ ts) two.left;
    taken = two.taken ∙ ap (λ (ts : List Token). ts ++ record { line = two.line; bytes = code } ∷ []) one.taken
        ∙ append_assoc (tokens (take at text)) (token ∷ []) (record { line = two.line; bytes = code } ∷ []);
  }

  -- the token, and the tokens up to and including the next `$end`, are taken
  pub AreTaken-section : {end : ℕ} (e : IsTakenToEnd text next end)
      → AreTaken text at end (token ∷ (e.words ++ e.last ∷ []))
  AreTaken-section {end = end} e = record {
    within = e.within;
    detached = e.detached;
    left = one.left ∙ ap (λ (ts : List Token). token ∷ ts) (e.left
        ∙ sym (append_assoc e.words (e.last ∷ []) (tokens_after 1 text end)));
    taken = e.taken ∙ ap (λ (ts : List Token). ts ++ (e.words ++ e.last ∷ [])) one.taken
        ∙ append_assoc (tokens (take at text)) (token ∷ []) (e.words ++ e.last ∷ []);
  }

-- ---- a time is taken

-- after a token that is a time below 2^64, the place is between two items, and this is the current time
pub IsAtTime-time : {text : List ℕ} {at next : ℕ} {bytes : List ℕ} (digits : List ℕ) (time : ℕ)
    (b : IsBetweenItems text at) (one : IsNextToken text at next bytes)
    → kind_of (shape_of bytes) ≡ time_kind digits → time_of digits ≡ Ok time → IsAtTime text time next
unfolding body_from
IsAtTime-time digits time b one is e =
    let t : Token = token one in
    let taken = AreTaken-one one in
    let item = IsItem-time t digits is in
    let next_between = IsBetweenItems-next b taken item in
    record {
      within = next_between.within;
      detached = next_between.detached;
      body = b.body ++ t ∷ [];
      ended = ended b taken item;
      whole = AreWholeItems-taken b taken item;
      time_is = ap (last_time 0) (b.whole (t ∷ [])
          ∙ ap (λ (items : List BodyItem). body_from ready b.body ++ items) (body_from-time t digits is []))
          ∙ last_time-push (body_from ready b.body) 0 t.line digits ∙ number-time_of digits time e;
    }

-- a time token below 2^64 is an item with this time
pub IsItem-timed : (t : Token) (digits : List ℕ) (time : ℕ) → kind_of (shape_of t.bytes) ≡ time_kind digits
    → time_of digits ≡ Ok time → IsItem (t ∷ []) (time ∷ [])
IsItem-timed t digits time is e = subst (λ (r : Result ℕ FaultKind). IsItem (t ∷ []) (cons_option (result_ok r) [])) e
    (IsItem-time t digits is)

-- a time token whose digits aren't a number below 2^64 is an item without a time
pub IsItem-untimed : (t : Token) (digits : List ℕ) {kind : FaultKind} → kind_of (shape_of t.bytes) ≡ time_kind digits
    → time_of digits ≡ Err kind → IsItem (t ∷ []) []
IsItem-untimed t digits is e = subst (λ (r : Result ℕ FaultKind). IsItem (t ∷ []) (cons_option (result_ok r) [])) e
    (IsItem-time t digits is)

-- after an item without a time, `next` is between two items, and the same times are left
pub IsBetweenItems-without_time : {text : List ℕ} {at next : ℕ} {ts : List Token} → IsBetweenItems text at
    → AreTaken text at next ts
    → IsItem ts []
    → IsBetweenItems text next
    × (times_left (record { text = text; at = next }) ≡ times_left (record { text = text; at = at }))
IsBetweenItems-without_time b taken item = (IsBetweenItems-next b taken item, sym (times_left-next b taken item))

-- ---- no time is left

-- what holds anyway holds if there is no value
pub IfNone-always : {A : Type 0} (o : Option A) (P : Type 0) → P → IfNone o P
IfNone-always None P p = p
IfNone-always (Some a) P p = tt

-- where no token is left, no time is left
pub times_left-no_tokens : (text : List ℕ) (at : ℕ) → tokens_after 1 text at ≡ []
    → times_left (record { text = text; at = at }) ≡ []
unfolding body_from item_times
times_left-no_tokens text at empty = ap (λ (ts : List Token). item_times (body_from ready ts)) empty

-- where a token whose code is missing is the last, no time is left
pub times_left-code_missing : {text : List ℕ} {at next : ℕ} {bytes : List ℕ} (one : IsNextToken text at next bytes)
    → kind_of (shape_of bytes) ≡ code_kind → tokens_after 1 text next ≡ []
    → times_left (record { text = text; at = at }) ≡ []
times_left-code_missing one is empty =
    let t : Token = token one in
    ap (λ (ts : List Token). item_times (body_from ready ts)) (one.left ∙ ap (λ (ts : List Token). t ∷ ts) empty)
    ∙ item_times-code_alone t is

-- from a comment on that has no `$end`, no time is left
pub times_left-comment_unended : {text : List ℕ} {at next : ℕ} {bytes : List ℕ} (one : IsNextToken text at next bytes)
    → kind_of (shape_of bytes) ≡ comment_kind → list_any ends_section (tokens_after 1 text next) ≡ false
    → times_left (record { text = text; at = at }) ≡ []
times_left-comment_unended {text = text} {next = next} one is none_ends =
    ap (λ (ts : List Token). item_times (body_from ready ts)) one.left
    ∙ item_times-comment_alone (token one) (tokens_after 1 text next) is none_ends
