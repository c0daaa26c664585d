-- The rows that a parse without a fault leaves: each row of an argument has a text, and its texts pass the argument's
-- parser.
use Rattle.std.proofs.Common.{◌≡◌, ◌∙◌, ◌⊎◌, inl, inr, ◌<◌, ◌&&◌, ◌||◌, ℕ, Bool, true, false, zero, suc, refl, sym}
use Rattle.std.proofs.Common.{ap, subst, arith, append_assoc, not, ◌==◌}
use Rattle.std.proofs.Common.{codes, List, [], ◌∷◌, ◌++◌, length, drop, Option, Some, None, is_some, true≢false}
use Rattle.std.specs.Prelude.{cond, find, fold, if◌then◌else◌, slice_get, unwrap_or, encode_utf8}
use Rattle.std.specs.Option.{option_map_or}
use Rattle.std.specs.List.{list_all}
use Rattle.std.specs.Str.{bytes_eq, chars}
use Rattle.std.proofs.lemmas.Bool.{not-true}
use Rattle.std.proofs.lemmas.Bool.Decides.{Decides-eqb}
use Rattle.std.proofs.lemmas.Slice.Eq.{bytes_eq-Decides}
use Rattle.clap.specs.Lexer.{long_of, short_of}
use Rattle.clap.specs.Values.{Accepts, read_as, reading_of}
use Rattle.clap.specs.ValueTests.{accepts}
use Rattle.clap.specs.Facts.{parser_of_value, unwrap_or_range}
use Rattle.clap.specs.Kinds.{Kinds, or_else, range_kinds, value_kinds, values_kinds}
use Rattle.clap.specs.Takes.{is_given, values_pass}
use Rattle.clap.specs.Faults.{defaults_fault, positional_fault, stray_fault, action_fault, bundle_step_fault}
use Rattle.clap.specs.Faults.{check_fault, flag_word_fault, flags_fault, level_fault, long_fault, option_fault}
use Rattle.clap.specs.Faults.{other_fault, react_fault, settle_fault, short_fault, step_fault, turn_fault, use_fault}
use Rattle.clap.specs.Faults.{walk_fault, word_fault}
use Rattle.clap.specs.Simple.{Shape}
use Rattle.clap.specs.Walk.{Held, Names, Outcome, Row, Rule, Step, Text, Waiting, Walk, action_of, after_flag}
use Rattle.clap.specs.Walk.{after_step, arg_by_id, arg_by_index, arg_by_long, arg_by_short, at_row, attached_value}
use Rattle.clap.specs.Walk.{bundle_met, bundle_step, default_rows, finished, first_of, flag_met, has_row, is_pending}
use Rattle.clap.specs.Walk.{long_met, long_or_other, more_values, most_values, nothing_held, one_of, option_met}
use Rattle.clap.specs.Walk.{option_word, plain_word, reacted, reading_by, row_text, rows_after, settled, settled_rows}
use Rattle.clap.specs.Walk.{short_met, short_or_plain, bundle, subcommand_met, subcommand_or_other, takes_several}
use Rattle.clap.specs.Walk.{takes_values, to_positional, used, used_as, used_by_id, values_or_missing, walk, walk_from}
use Rattle.clap.specs.Walk.{walked, walked_from, with_default, with_values, without, word_met}
use Rattle.clap.specs.Walk.{is_empty}
use Rattle.clap.specs.Walk.{done, waits, plain, refused, idle, option, positional, next, trailing, subcommand, value}
use Rattle.clap.specs.declared.builder.action.ArgAction.{ArgAction}
use Rattle.clap.specs.declared.builder.action.ArgAction.TheVariants as action
use Rattle.clap.specs.declared.builder.value_parser.ValueParser.{ValueParser}
use Rattle.clap.specs.declared.builder.value_parser.Reading.{Reading}
use Rattle.clap.specs.declared.parser.matches.ValueSource.{ValueSource}
use Rattle.clap.specs.declared.parser.matches.ValueSource.TheVariants.{CommandLine, DefaultValue}
use Rattle.clap.proofs.ValueTestLemmas.{accepts-Accepts}
use Rattle.clap.proofs.WalkLemmas.{both}

-- ---- lists of faults

-- where neither of two lists of faults has one, both are empty
pub or_else-none : (a b : Kinds) → or_else a b ≡ [] → (a ≡ []) × (b ≡ [])
or_else-none [] b e = (refl, e)
or_else-none (k ∷ ks) b e = cc

-- ---- rows

-- row `r` of the argument `a` has a text, and its texts pass `a`'s parser and are read as `a` says
pub record IsGood (a : Rule) (r : Row) : Type 0 where
  pub nonempty : 0 < length r.values
  pub passes : values_pass a r.values ≡ true
  pub reading : r.reading ≡ reading_by a

-- row `r` is good for the argument in `c` with its id, if there is one
abbrev pub Good : List Rule → Row → Type 0
Good c r = (a : Rule) → arg_by_id c r.id ≡ Some a → IsGood a r

-- each of the rows is good
abbrev pub AllGood : List Rule → List Row → Type 0
AllGood c [] = Unit {0}
AllGood c (r ∷ rs) = Good c r × AllGood c rs

-- good rows, and others after them, are good
AllGood-append : (c : List Rule) (xs ys : List Row) → AllGood c xs → AllGood c ys → AllGood c (xs ++ ys)
AllGood-append c [] ys h g = g
AllGood-append c (x ∷ xs) ys h g = (h.0, AllGood-append c xs ys h.1 g)

-- `at_row` leaves good rows, if `change` makes good rows of the row with `id`, and `missing` are good
AllGood-at_row : (c : List Rule) (id : Text) (change : Row → List Row) (missing rows : List Row)
    → ((r : Row) → bytes_eq r.id id ≡ true → Good c r → AllGood c (change r)) → AllGood c missing → AllGood c rows
    → AllGood c (at_row id change missing rows)
AllGood-at_row c id change missing [] step m h = m
AllGood-at_row c id change missing (r ∷ rs) step m h = go (bytes_eq r.id id) refl
    (AllGood-at_row c id change missing rs step m h.1)
  where
    -- whether the first row is that of the argument or not
    go : (t : Bool) → bytes_eq r.id id ≡ t → AllGood c (at_row id change missing rs)
        → AllGood c (if t then change r ++ rs else r ∷ at_row id change missing rs)
    go true e rest = AllGood-append c (change r) rs (step r e h.0) h.1
    go false e rest = (h.0, rest)

-- good rows without that of an argument are good
AllGood-without : (c : List Rule) (id : Text) (rows : List Row) → AllGood c rows → AllGood c (without id rows)
AllGood-without c id rows h = AllGood-at_row c id (λ _. []) [] rows (λ r e g. tt) tt h

-- texts, and others of which there are some, are some
length-append_some : (xs ys : List Text) → 0 < length ys → 0 < length (xs ++ ys)
length-append_some [] ys h = h
length-append_some (x ∷ xs) ys h = omega arith

-- if all of two lists pass, all of both pass
list_all-both : (p : Text → Bool) (xs ys : List Text) → list_all p xs ≡ true → list_all p ys ≡ true
    → list_all p (xs ++ ys)
    ≡ true
list_all-both p [] ys e f = f
list_all-both p (x ∷ xs) ys e f =
    let parts = both (p x) (list_all p xs) e in
    rw parts.0 (list_all-both p xs ys parts.1 f)

-- two options that are equal have equal values
some-same_rule : (a b : Rule) → Some a ≡ Some b → a ≡ b
some-same_rule a b e = ap (λ (o : Option Rule). unwrap_or o a) e

-- the row of the argument `a` with these texts
abbrev row_with : Rule → ValueSource → List Text → Row
row_with a s values = record { id = a.id; values = values; count = None; source = Some s; reading = reading_by a }

-- a new row of an argument with texts that pass its parser is good
Good-row_with : (c : List Rule) (a : Rule) (s : ValueSource) (values : List Text) → arg_by_id c a.id ≡ Some a
    → 0 < length values → values_pass a values ≡ true
    → Good c (row_with a s values)
Good-row_with c a s values is_by_id some passes b found =
    let good : IsGood a (row_with a s values) = record { nonempty = some; passes = passes; reading = refl } in
    subst (λ (x : Rule). IsGood x (row_with a s values)) (some-same_rule a b (sym is_by_id ∙ found)) good

-- a good row with more texts that pass the parser is good
Good-more_values : (c : List Rule) (a : Rule) (s : ValueSource) (values : List Text) (r changed : Row) → changed.id
    ≡ r.id
    → changed.values ≡ r.values ++ values → changed.reading ≡ r.reading
    → arg_by_id c a.id ≡ Some a → 0 < length values → values_pass a values ≡ true → bytes_eq r.id a.id ≡ true → Good c r
    → Good c changed
Good-more_values c a s values r changed id texts reading is_by_id some passes e g b found =
    let here : arg_by_id c r.id ≡ Some b = ap (arg_by_id c) (sym id) ∙ found in
    let same : r.id ≡ a.id = (bytes_eq-Decides r.id a.id).0 e in
    let is : a ≡ b = some-same_rule a b (sym is_by_id ∙ (ap (arg_by_id c) (sym same) ∙ here)) in
    let old = g b here in
    let all : values_pass b (r.values ++ values) ≡ true = list_all-both _ r.values values old.passes
    (subst (λ (x : Rule). values_pass x values ≡ true) is passes) in
    record {
      nonempty = subst (λ (xs : List Text). 0 < length xs) (sym texts) (length-append_some r.values values some);
      passes = subst (λ (xs : List Text). values_pass b xs ≡ true) (sym texts) all;
      reading = reading ∙ old.reading;
    }

-- good rows with more texts of an argument, which pass its parser, are good
AllGood-with_values : (c : List Rule) (a : Rule) (s : ValueSource) (values : List Text) (rows : List Row)
    → arg_by_id c a.id
    ≡ Some a → 0 < length values
    → values_pass a values ≡ true → AllGood c rows → AllGood c (with_values a.id (reading_by a) s values rows)
AllGood-with_values c a s values rows is_by_id some passes h =
    AllGood-at_row c a.id (more_values s values) (row_with a s values ∷ []) rows
    (λ r e g. (Good-more_values c a s values r _ refl refl refl is_by_id some passes e g, tt))
    (Good-row_with c a s values is_by_id some passes, tt) h

-- ---- the arguments of a command

-- an argument `a` with this action takes at least one text, is a flag with a text for its use, or asks for help
abbrev pub Acts : ArgAction → Rule → Type 0
Acts action.Set a = (unwrap_or_range a.range).start_inclusive ≡ 1
Acts action.Append a = (unwrap_or_range a.range).start_inclusive ≡ 1
Acts action.SetTrue a = is_empty a.missing ≡ false
Acts action.Help a = Unit {0}
Acts _ a = ⊥

-- `a` is the argument in `c` with its id, its action is as `Acts` says, and its default values pass its parser
pub record Known (c : List Rule) (a : Rule) : Type 0 where
  pub is_by_id : arg_by_id c a.id ≡ Some a
  pub acts : Acts (action_of a) a
  pub defaults : values_pass a a.defaults ≡ true

-- each of the second arguments is known among the first
abbrev pub EachKnown : List Rule → List Rule → Type 0
EachKnown c [] = Unit {0}
EachKnown c (a ∷ rest) = Known c a × EachKnown c rest

-- an argument that is found among known ones is known
Known-found : (c xs : List Rule) (p : Rule → Bool) (a : Rule) → EachKnown c xs → find p xs ≡ Some a → Known c a
Known-found c [] p a known e = cc
Known-found c (x ∷ xs) p a known e = go (p x) e (λ f. Known-found c xs p a known.1 f)
  where
    -- whether the first argument passes `p` or not
    go : (t : Bool) → cond t (Some x) (find p xs) ≡ Some a → (find p xs ≡ Some a → Known c a) → Known c a
    go true e rest = subst (Known c) (some-same_rule x a e) known.0
    go false e rest = rest e

-- ---- a test by which each argument is known

-- none of the arguments has this id
abbrev pub lacks_id : List Rule → Text → Bool
lacks_id [] id = true
lacks_id (a ∷ rest) id = not (bytes_eq a.id id) && lacks_id rest id

-- an argument with this action is as `Acts` says
abbrev pub acts_well : ArgAction → Rule → Bool
acts_well action.Set a = (unwrap_or_range a.range).start_inclusive == 1
acts_well action.Append a = (unwrap_or_range a.range).start_inclusive == 1
acts_well action.SetTrue a = not (is_empty a.missing)
acts_well action.Help a = true
acts_well _ a = false

-- each argument has an id that none before it has, neither among these nor in `before`, is as `Acts` says, and its
-- default values pass its parser
abbrev pub each_known : List Rule → List Rule → Bool
each_known [] before = true
each_known (a ∷ rest) before =
    (lacks_id before a.id && (acts_well (action_of a) a && values_pass a a.defaults))
    && each_known rest (before ++ a ∷ [])

-- an argument that passes the test is as `Acts` says
Acts-of_test : (x : ArgAction) (a : Rule) → acts_well x a ≡ true → Acts x a
Acts-of_test action.Set a e = (Decides-eqb (unwrap_or_range a.range).start_inclusive 1).0 e
Acts-of_test action.Append a e = (Decides-eqb (unwrap_or_range a.range).start_inclusive 1).0 e
Acts-of_test action.SetTrue a e = not-true (is_empty a.missing) e
Acts-of_test action.Help a e = tt
Acts-of_test _ a e = absurd (true≢false (sym e))

-- an argument with an id that none before it has is the one with its id
arg_by_id-first : (before : List Rule) (a : Rule) (rest : List Rule) → lacks_id before a.id ≡ true
    → arg_by_id (before ++ a ∷ rest) a.id ≡ Some a
arg_by_id-first [] a rest e = rw ((bytes_eq-Decides a.id a.id).1 refl) refl
arg_by_id-first (b ∷ before) a rest e =
    let parts = both (not (bytes_eq b.id a.id)) (lacks_id before a.id) e in
    rw (not-true (bytes_eq b.id a.id) parts.0) (arg_by_id-first before a rest parts.1)

-- arguments that pass the test are known
pub EachKnown-of_test : (xs before : List Rule) → each_known xs before ≡ true → EachKnown (before ++ xs) xs
EachKnown-of_test [] before e = tt
EachKnown-of_test (a ∷ rest) before e =
    let parts = both (lacks_id before a.id && (acts_well (action_of a) a && values_pass a a.defaults))
    (each_known rest (before ++ a ∷ [])) e in
    let own = both (lacks_id before a.id) (acts_well (action_of a) a && values_pass a a.defaults) parts.0 in
    let well = both (acts_well (action_of a) a) (values_pass a a.defaults) own.1 in (
      record {
        is_by_id = arg_by_id-first before a rest own.0;
        acts = Acts-of_test (action_of a) a well.0;
        defaults = well.1;
      },
      subst (λ (c : List Rule). EachKnown c rest) (append_assoc before (a ∷ []) rest)
          (EachKnown-of_test rest (before ++ a ∷ []) parts.1),
    )

-- ---- one use of an argument

-- texts without a fault pass the parser
list_all-accepts : (i : Bool) (p : ValueParser) (vs : List Text) → values_kinds i p vs ≡ [] → list_all (accepts i p) vs
    ≡ true
list_all-accepts i p [] e = refl
list_all-accepts i p (v ∷ vs) e = go (accepts i p v) refl
    (list_all-accepts i p vs (or_else-none (value_kinds i p v) (values_kinds i p vs) e).1)
    (or_else-none (value_kinds i p v) (values_kinds i p vs) e).0
  where
    -- whether the first text passes the parser or not
    go : (t : Bool) → accepts i p v ≡ t → list_all (accepts i p) vs ≡ true → value_kinds i p v ≡ []
        → (accepts i p v && list_all (accepts i p) vs) ≡ true
    go true is rest f = rw is rest
    go false is rest f = let bad = rw is at f in cc

-- a use of an argument that takes one text at least has one
values_or_missing-some : (a : Rule) (values : List Text) (least most : ℕ) → least ≡ 1
    → range_kinds least most (length values) ≡ []
    → 0 < length (values_or_missing a values)
values_or_missing-some a [] least most one e = let bad = rw one at e in cc
values_or_missing-some a (v ∷ vs) least most one e = omega arith

-- a use of an argument with a text for its use has one
values_or_missing-missing : (a : Rule) (values missing : List Text) → a.missing ≡ missing → is_empty missing ≡ false
    → 0 < length (values_or_missing a values)
values_or_missing-missing a [] [] is e = cc
values_or_missing-missing a [] (v ∷ vs) is e = rw is (omega arith)
values_or_missing-missing a (v ∷ vs) missing is e = omega arith

-- one use of an argument without a fault leaves good rows
AllGood-used_as : (c : List Rule) (again : Bool) (x : ArgAction) (a : Rule) (values : List Text) (rows : List Row)
    → Acts x a → arg_by_id c a.id ≡ Some a
    → range_kinds (unwrap_or_range a.range).start_inclusive (most_values a) (length values) ≡ []
    → action_fault x again a (values_or_missing a values) rows ≡ [] → AllGood c rows
    → AllGood c (used_as x a.id (reading_by a) (values_or_missing a values) rows)
AllGood-used_as c again action.Set a values rows acts is_by_id range free h =
    AllGood-with_values c a CommandLine (values_or_missing a values) (without a.id rows) is_by_id
    (values_or_missing-some a values _ (most_values a)
    acts range)
    (list_all-accepts a.ignore_case (parser_of_value a.parser) (values_or_missing a values) (or_else-none _ _ free).1)
    (AllGood-without c a.id rows h)
AllGood-used_as c again action.Append a values rows acts is_by_id range free h =
    AllGood-with_values c a CommandLine (values_or_missing a values) rows is_by_id
    (values_or_missing-some a values _ (most_values a) acts range)
    (list_all-accepts a.ignore_case (parser_of_value a.parser) (values_or_missing a values) free) h
AllGood-used_as c again action.SetTrue a values rows acts is_by_id range free h =
    AllGood-with_values c a CommandLine (values_or_missing a values) (without a.id rows) is_by_id
    (values_or_missing-missing a values a.missing refl acts)
    (list_all-accepts a.ignore_case (parser_of_value a.parser) (values_or_missing a values) (or_else-none _ _ free).1)
    (AllGood-without c a.id rows h)
AllGood-used_as c again action.Help a values rows acts is_by_id range free h = cc
AllGood-used_as c again _ a values rows acts is_by_id range free h = absurd acts

module _ (c : List Rule) (again : Bool) (known : EachKnown c c) where
  -- one use of a known argument without a fault leaves good rows
  AllGood-used : (a : Rule) (values : List Text) (rows : List Row) → Known c a → use_fault again a values rows ≡ []
      → AllGood c rows → AllGood c (used a values rows)
  AllGood-used a values rows k e h =
      let f = or_else-none (range_kinds (unwrap_or_range a.range).start_inclusive (most_values a) (length values))
      (action_fault (action_of a) again a (values_or_missing a values) rows) e in
      AllGood-used_as c again (action_of a) a values rows k.acts k.is_by_id f.0 f.1 h

  -- to settle a pending argument without a fault leaves good rows
  AllGood-settled_rows : (pending : Option (Text × List Text)) (rows : List Row)
      → option_map_or (λ p. option_map_or (λ a. use_fault again a p.1 rows) (arg_by_id c p.0) []) pending [] ≡ []
      → AllGood c rows → AllGood c (settled_rows c pending rows)
  AllGood-settled_rows None rows e h = h
  AllGood-settled_rows (Some p) rows e h = go (arg_by_id c p.0) refl e
    where
      -- whether the pending name is that of an argument or not
      go : (o : Option Rule) → arg_by_id c p.0 ≡ o → option_map_or (λ (a : Rule). use_fault again a p.1 rows) o [] ≡ []
          → AllGood c (used_by_id o p.1 rows)
      go None is f = h
      go (Some a) is f = AllGood-used a p.1 rows (Known-found c c _ a known is) f h

  -- the reaction to a known argument without a fault leaves good rows
  AllGood-reacted : (a : Rule) (values : List Text) (h : Held) → Known c a → react_fault c again a values h ≡ []
      → AllGood c h.rows → AllGood c (reacted c a values h).rows
  AllGood-reacted a values h k e g =
      let f = or_else-none (settle_fault c again h) (use_fault again a values (settled c h).rows) e in
      AllGood-used a values (settled c h).rows k f.1 (AllGood-settled_rows h.pending h.rows f.0 g)

  -- an option, with a value or without one, that is no fault leaves good rows
  AllGood-option_met : (a : Rule) (v : Option Text) (h : Held) → Known c a → option_fault c again a v h ≡ []
      → AllGood c h.rows
      → AllGood c (option_met c a v h).0.rows
  AllGood-option_met a (Some v) h k e g = AllGood-reacted a (v ∷ []) h k e g
  AllGood-option_met a None h k e g = AllGood-settled_rows h.pending h.rows e g

  -- a flag that is no fault leaves good rows
  AllGood-flag_met : (a : Rule) (v : Option Text) (h : Held) → Known c a
      → (is_some v ≡ false → react_fault c again a [] h
      ≡ []) → AllGood c h.rows → AllGood c (flag_met c a v h).0.rows
  AllGood-flag_met a (Some v) h k e g = g
  AllGood-flag_met a None h k e g = AllGood-reacted a [] h k (e refl) g

  -- an argument by its long name that is no fault leaves good rows
  AllGood-long_met : (o : Option Rule) (name : Text) (v : Option Text) (h : Held) → arg_by_long c name ≡ o
      → long_fault c again
      o v h ≡ [] → AllGood c h.rows → AllGood c (long_met c o v h).0.rows
  AllGood-long_met None name v h is e g = g
  AllGood-long_met (Some a) name v h is e g = go (takes_values a) refl
    where
      -- whether the argument takes values or not
      go : (t : Bool) → takes_values a ≡ t → AllGood c (if t then option_met c a v h else flag_met c a v h).0.rows
      go true t = AllGood-option_met a v h (Known-found c c _ a known is) (rw t at e) g
      go false t = let f = rw t at e in AllGood-flag_met a v h (Known-found c c _ a known is) (λ none. rw none at f) g

  -- an argument by its short name that is no fault leaves good rows, if what follows it does
  AllGood-short_met : (o : Option Rule) (x : ℕ) (rest : Text) (h : Held) (onward : Held → Held × Outcome)
      (after : Held → Kinds) → arg_by_short c x ≡ o
      → ((k : Held) → after k ≡ [] → AllGood c k.rows → AllGood c (onward k).0.rows)
      → short_fault c again o rest h after ≡ [] → AllGood c h.rows → AllGood c (short_met c o rest h onward).0.rows
  AllGood-short_met None x rest h onward after is later e g = g
  AllGood-short_met (Some a) x rest h onward after is later e g = go (takes_values a) refl
    where
      -- whether the argument takes values or not
      go : (t : Bool) → takes_values a ≡ t → AllGood c (if t then option_met c a (attached_value rest) h else onward
          (reacted c a [] h)).0.rows
      go true t = AllGood-option_met a (attached_value rest) h (Known-found c c _ a known is) (rw t at e) g
      go false t =
          let f = or_else-none (react_fault c again a [] h) (after (reacted c a [] h)) (rw t at e) in
          later (reacted c a [] h) f.1 (AllGood-reacted a [] h (Known-found c c _ a known is) f.0 g)

  -- one of several short names in a word, without a fault, leaves good rows, if the others do
  AllGood-bundle_step : (o : Option ℕ) (flags : Text) (skip : ℕ) (so_far : Outcome) (h : Held)
      (onward : Text → ℕ → Outcome
      → Held → Held × Outcome) (after : Text → ℕ → Held → Kinds)
      → ((t : Text) (n : ℕ) (so : Outcome) (k : Held) → after t n k ≡ [] → AllGood c k.rows
      → AllGood c (onward t n so k).0.rows)
      → bundle_step_fault c again o flags skip h after ≡ [] → AllGood c h.rows
      → AllGood c (bundle_step c o flags skip so_far h onward).0.rows
  AllGood-bundle_step None flags skip so_far h onward after later e g = g
  AllGood-bundle_step (Some x) flags zero so_far h onward after later e g =
      let rest = drop (length (encode_utf8 x)) flags in
      AllGood-short_met (arg_by_short c x) x rest h (onward rest 0 done) (after rest 0) refl (λ k. later rest 0 done k)
      e g
  AllGood-bundle_step (Some x) flags (suc skip) so_far h onward after later e g = later
      (drop (length (encode_utf8 x)) flags) skip so_far h e g

  -- several short names in a word, without a fault, leave good rows
  AllGood-bundle_met : (k : ℕ) (flags : Text) (skip : ℕ) (so_far : Outcome) (h : Held)
      → flags_fault c again k flags skip h
      ≡ [] → AllGood c h.rows
      → AllGood c (bundle_met c k flags skip so_far h).0.rows
  unfolding bundle_met flags_fault
  AllGood-bundle_met zero flags skip so_far h e g = g
  AllGood-bundle_met (suc k) flags skip so_far h e g =
      AllGood-bundle_step (slice_get (chars flags) 0) flags skip so_far h (bundle_met c k) (flags_fault c again k)
      (λ t n so x f y. AllGood-bundle_met k t n so x f y) e g

  -- a word that names no argument leaves good rows
  AllGood-plain_word : (waiting : Waiting) (word : Text) (h : Held) → AllGood c h.rows
      → AllGood c (plain_word c waiting word h).0.rows
  AllGood-plain_word idle word h g = g
  AllGood-plain_word (option id) word h g = go (arg_by_id c id)
    where
      -- whether the name is that of an argument or not
      go : (o : Option Rule) → AllGood c (option_word o id word h).0.rows
      go None = g
      go (Some a) = g
  AllGood-plain_word positional word h g = g

  -- what is done after a flag leaves good rows
  AllGood-after_flag : (waiting : Waiting) (word : Text) (h : Held) (o : Outcome) → AllGood c h.rows
      → AllGood c (after_flag c waiting word h o).0.rows
  AllGood-after_flag waiting word h done g = g
  AllGood-after_flag waiting word h (waits id) g = g
  AllGood-after_flag waiting word h plain g = AllGood-plain_word waiting word h g
  AllGood-after_flag waiting word h refused g = AllGood-plain_word waiting word h g

  -- a word with a long name, with short names, or with neither, that is no fault leaves good rows
  AllGood-long_or_other : (o : Option (Text × Option Text)) (waiting : Waiting) (word : Text) (h : Held)
      → flag_word_fault c
      again o word h ≡ [] → AllGood c h.rows
      → AllGood c (long_or_other c waiting word o h).0.rows
  AllGood-long_or_other (Some p) waiting word h e g =
      AllGood-after_flag waiting word (long_met c (arg_by_long c p.0) p.1 h).0 (long_met c (arg_by_long c p.0) p.1 h).1
      (AllGood-long_met (arg_by_long c p.0) p.0 p.1 h refl e g)
  AllGood-long_or_other None waiting word h e g = go (short_of word) e
    where
      -- whether the word has short names or not
      go : (o : Option Text) → option_map_or (λ (flags : Text). flags_fault c again (length flags) flags h.skip
          (record h { skip = 0 })) o [] ≡ []
          → AllGood c (short_or_plain c waiting word o h).0.rows
      go None f = AllGood-plain_word waiting word h g
      go (Some flags) f = AllGood-after_flag waiting word (bundle c flags h).0 (bundle c flags h).1
          (AllGood-bundle_met (length flags) flags h.skip plain (record h { skip = 0 }) f g)

-- ---- clap's walk over the words

module _ (s : Shape) (known : EachKnown s.rules s.rules) where
  -- a word that names a subcommand, or another one, that is no fault leaves good rows
  AllGood-subcommand_or_other : (o : Option Text) (waiting : Waiting) (position : ℕ) (word : Text) (h : Held)
      → other_fault s o word h
      ≡ [] → AllGood s.rules h.rows
      → AllGood s.rules (subcommand_or_other s.rules o waiting position word h).0.rows
  AllGood-subcommand_or_other (Some name) waiting position word h e g = g
  AllGood-subcommand_or_other None waiting position word h e g = go (bytes_eq word (45 ∷ 45 ∷ [])) refl
    where
      -- whether the word is `--` or not
      go : (t : Bool) → bytes_eq word (45 ∷ 45 ∷ []) ≡ t
          → AllGood s.rules (if t then (h, trailing position) else long_or_other s.rules waiting word (long_of word)
          h).0.rows
      go true is = g
      go false is = AllGood-long_or_other s.rules s.args_override_self known (long_of word) waiting word h (rw is at e)
          g

  -- any word that is no fault leaves good rows
  AllGood-word_met : (names : Names) (trails : Bool) (waiting : Waiting) (position : ℕ) (word : Text) (h : Held)
      → word_fault s names trails waiting word h ≡ []
      → AllGood s.rules h.rows → AllGood s.rules (word_met s.rules names trails waiting position word h).0.rows
  AllGood-word_met names true waiting position word h e g = g
  AllGood-word_met names false waiting position word h e g = AllGood-subcommand_or_other
      (subcommand_met names waiting word) waiting position
      word h e g

  -- a word that is given to a positional argument without a fault leaves good rows
  AllGood-to_positional : (o : Option Rule) (w : Walk) (word : Text) (h : Held)
      → option_map_or (λ (a : Rule). positional_fault s.rules s.args_override_self a h) o (stray_fault s) ≡ []
      → AllGood s.rules h.rows → AllGood s.rules (to_positional s.rules o word w h).held.rows
  AllGood-to_positional None w word h e g = g
  AllGood-to_positional (Some a) w word h e g = go (is_pending a h.pending && takes_several a) refl
    where
      -- whether the argument is pending and takes several values, or not
      go : (t : Bool) → (is_pending a h.pending && takes_several a) ≡ t → AllGood s.rules
          (if t then h else settled s.rules h).rows
      go true is = g
      go false is = AllGood-settled_rows s.rules s.args_override_self known h.pending h.rows (rw is at e) g

  -- what the walk does after a word, without a fault, leaves good rows
  AllGood-after_step : (step : Step) (w : Walk) (word : Text) (h : Held) → step_fault s w.position h step ≡ []
      → AllGood s.rules
      h.rows
      → AllGood s.rules (after_step s.rules word w h step).held.rows
  AllGood-after_step (next waiting) w word h e g = g
  AllGood-after_step (trailing position) w word h e g = g
  AllGood-after_step (subcommand name) w word h e g = g
  AllGood-after_step value w word h e g = AllGood-to_positional (arg_by_index s.rules w.position) w word h e g

  -- a turn of the walk without a fault, which may have stopped at a subcommand, leaves good rows
  AllGood-walked_from : (stop : Option (Text × List Text)) (names : Names) (w : Walk) (word : Text)
      → (is_some stop ≡ false → or_else (word_fault s names w.is_trailing w.waiting word w.held)
      (step_fault s w.position (word_met s.rules names w.is_trailing w.waiting w.position word w.held).0
      (word_met s.rules names w.is_trailing w.waiting w.position word w.held).1) ≡ [])
      → AllGood s.rules w.held.rows → AllGood s.rules (walked_from s.rules names stop w word).held.rows
  AllGood-walked_from (Some p) names w word e g = g
  AllGood-walked_from None names w word e g =
      let met = word_met s.rules names w.is_trailing w.waiting w.position word w.held in
      let f = or_else-none (word_fault s names w.is_trailing w.waiting word w.held)
      (step_fault s w.position met.0 met.1)
      (e refl) in
      AllGood-after_step met.1 w word met.0 f.1 (AllGood-word_met names w.is_trailing w.waiting w.position word w.held
      f.0 g)

  -- the walk over all words without a fault leaves good rows
  AllGood-walked : (names : Names) (words : List Text) (w : Walk) → walk_fault s names w words ≡ [] → AllGood s.rules
      w.held.rows
      → AllGood s.rules (fold (walked s.rules names) w words).held.rows
  unfolding walked walk_fault
  AllGood-walked names [] w e g = g
  AllGood-walked names (word ∷ rest) w e g =
      let f = or_else-none (turn_fault s names w word) (walk_fault s names (walked s.rules names w word) rest) e in
      AllGood-walked names rest (walked s.rules names w word) f.1
      (AllGood-walked_from w.stopped names w word (λ none. let first = f.0 in rw none at first) g)

-- ---- after the walk

-- default values that pass the parser leave good rows
AllGood-default_rows : (c : List Rule) (a : Rule) (ds : List Text) (rows : List Row) → Known c a → values_pass a ds
    ≡ true
    → AllGood c rows → AllGood c (default_rows a.id (reading_by a) ds rows)
AllGood-default_rows c a [] rows k e g = g
AllGood-default_rows c a (v ∷ vs) rows k e g = AllGood-with_values c a DefaultValue (v ∷ vs) rows k.is_by_id
    (omega arith) e
    g

-- the default values of a known argument leave good rows
AllGood-with_default : (c : List Rule) (a : Rule) (rows : List Row) → Known c a → AllGood c rows
    → AllGood c (with_default rows a)
AllGood-with_default c a rows k g = go (has_row a.id rows)
  where
    -- whether the argument has a row already or not
    go : (t : Bool) → AllGood c (if t then rows else default_rows a.id (reading_by a) a.defaults rows)
    go true = g
    go false = AllGood-default_rows c a a.defaults rows k k.defaults g

-- the default values of all known arguments leave good rows
AllGood-defaults : (c xs : List Rule) (rows : List Row) → EachKnown c xs → AllGood c rows
    → AllGood c (fold with_default rows xs)
AllGood-defaults c [] rows known g = g
AllGood-defaults c (a ∷ rest) rows known g = AllGood-defaults c rest (with_default rows a) known.1
    (AllGood-with_default c a rows known.0 g)

-- if the words of the subcommand `s` have no fault, its rows are good, and its required arguments are given
pub AllGood-level : (s : Shape) (words : List Text) → EachKnown s.rules s.rules
    → level_fault s [] nothing_held words false
    [] ≡ []
    → AllGood s.rules (rows_after s.rules [] words) × (check_fault s (rows_after s.rules [] words) false ≡ [])
AllGood-level s words known e =
    let end = (walk s.rules [] nothing_held words).held in
    let f = or_else-none (walk_fault s [] (walk_from nothing_held) words) _ e in
    let settle = or_else-none (settle_fault s.rules s.args_override_self end) _ f.1 in
    let defaults = or_else-none (defaults_fault (settled s.rules end).rows s.rules)
    (check_fault s (finished s.rules end)
    false) settle.1 in
    let walked_rows = AllGood-walked s known [] words (walk_from nothing_held) f.0 tt in (
      AllGood-defaults s.rules s.rules (settled s.rules end).rows known
          (AllGood-settled_rows s.rules s.args_override_self known
          end.pending end.rows settle.0 walked_rows),
      defaults.1,
    )

-- ---- what a good row gives

-- the row that is found among good rows by a name is good, and has this name
Good-found : (c : List Rule) (rows : List Row) (id : Text) (r : Row) → AllGood c rows → find (λ x. bytes_eq x.id id)
    rows ≡ Some r → Good c r × (bytes_eq r.id id ≡ true)
Good-found c [] id r g e = cc
Good-found c (x ∷ xs) id r g e = go (bytes_eq x.id id) refl e (λ f. Good-found c xs id r g.1 f)
  where
    -- whether the first row is that of the argument or not
    go : (t : Bool) → bytes_eq x.id id ≡ t → cond t (Some x) (find (λ y. bytes_eq y.id id) xs) ≡ Some r
        → (find (λ y. bytes_eq y.id id) xs ≡ Some r → Good c r × (bytes_eq r.id id ≡ true)) → Good c r
        × (bytes_eq r.id id ≡ true)
    go true is f rest = subst (λ (y : Row). Good c y × (bytes_eq y.id id ≡ true))
        (ap (λ (o : Option Row). unwrap_or o x) f) (g.0, is)
    go false is f rest = rest f

-- the row of a known argument that is found among good rows is good
IsGood-found : (c : List Rule) (rows : List Row) (a : Rule) (r : Row) → AllGood c rows → arg_by_id c a.id ≡ Some a
    → find (λ x. bytes_eq x.id a.id) rows ≡ Some r → IsGood a r
IsGood-found c rows a r g is_by_id e =
    let found = Good-found c rows a.id r g e in
    found.0 a (ap (arg_by_id c) ((bytes_eq-Decides r.id a.id).0 found.1) ∙ is_by_id)

-- of some texts there is a first
slice_get-first : (xs : List Text) → 0 < length xs → is_some (slice_get xs 0) ≡ true
slice_get-first [] h = absurd (omega arith)
slice_get-first (x ∷ xs) h = refl

-- an argument that was given has a first text
pub first_of-given : (c : List Rule) (rows : List Row) (a : Rule) → AllGood c rows → arg_by_id c a.id ≡ Some a
    → is_given a.id rows ≡ true → is_some (first_of a.id rows) ≡ true
first_of-given c rows a g is_by_id given = go (find (λ r. bytes_eq r.id a.id) rows) refl
  where
    -- whether a row is found or not
    go : (o : Option Row) → find (λ r. bytes_eq r.id a.id) rows ≡ o → is_some (first_of a.id rows) ≡ true
    go None e = let bad = rw e at given in cc
    go (Some r) e = rw e (slice_get-first r.values (IsGood-found c rows a r g is_by_id e).nonempty)

-- a good row of an argument with the parser `p` has a text that passes `p`
row_text-accepted : (a : Rule) (r : Row) (p : ValueParser) (vs : List Text) → r.values ≡ vs → IsGood a r → a.parser
    ≡ Some p
    → (text : Text) × (row_text r ≡ Some (read_as (reading_of p) text)) × Accepts a.ignore_case p text
row_text-accepted a r p [] is g parser = let bad = rw is at g.nonempty in absurd (omega arith)
row_text-accepted a r p (v ∷ vs) is g parser =
    let passes = rw (is, parser) at g.passes in
    (v, rw (is, g.reading, parser) refl, accepts-Accepts a.ignore_case p v (both _ _ passes).0)

-- where no row is found, there is none
has_row-none : (rows : List Row) (id : Text) → find (λ r. bytes_eq r.id id) rows ≡ None → has_row id rows ≡ false
has_row-none [] id e = refl
has_row-none (r ∷ rs) id e = go (bytes_eq r.id id) refl (λ f. has_row-none rs id f)
  where
    -- whether the first row is that of the argument or not
    go : (t : Bool) → bytes_eq r.id id ≡ t → (find (λ x. bytes_eq x.id id) rs ≡ None → has_row id rs ≡ false)
        → has_row id (r ∷ rs) ≡ false
    go true is rest = let bad = rw is at e in cc
    go false is rest = rw is (rest (rw is at e))

-- if an argument with the parser `p` has a row, it has a text that passes `p`
pub one_of-accepted : (c : List Rule) (rows : List Row) (a : Rule) (p : ValueParser) → AllGood c rows → arg_by_id c a.id
    ≡ Some a → a.parser ≡ Some p → has_row a.id rows ≡ true
    → (text : Text) × (one_of a.id rows ≡ Some (read_as (reading_of p) text)) × Accepts a.ignore_case p text
one_of-accepted c rows a p g is_by_id parser has = go (find (λ r. bytes_eq r.id a.id) rows) refl
  where
    -- whether a row is found or not
    go : (o : Option Row) → find (λ r. bytes_eq r.id a.id) rows ≡ o
        → (text : Text) × (one_of a.id rows ≡ Some (read_as (reading_of p) text)) × Accepts a.ignore_case p text
    go None e = absurd (true≢false (sym has ∙ has_row-none rows a.id e))
    go (Some r) e =
        let n = row_text-accepted a r p r.values refl (IsGood-found c rows a r g is_by_id e) parser in
        (n.0, rw e n.1, n.2)

-- an argument with the parser `p` isn't given, or has a text that passes `p`
pub one_of-accepted_or_none : (c : List Rule) (rows : List Row) (a : Rule) (p : ValueParser) → AllGood c rows
    → arg_by_id c a.id
    ≡ Some a → a.parser ≡ Some p → (first_of a.id rows ≡ None)
    ⊎ ((text : Text) × (one_of a.id rows ≡ Some (read_as (reading_of p) text)) × Accepts a.ignore_case p text)
one_of-accepted_or_none c rows a p g is_by_id parser = go (find (λ r. bytes_eq r.id a.id) rows) refl
  where
    -- whether a row is found or not
    go : (o : Option Row) → find (λ r. bytes_eq r.id a.id) rows ≡ o → (first_of a.id rows ≡ None)
        ⊎ ((text : Text) × (one_of a.id rows ≡ Some (read_as (reading_of p) text)) × Accepts a.ignore_case p text)
    go None e = inl (rw e refl)
    go (Some r) e =
        let n = row_text-accepted a r p r.values refl (IsGood-found c rows a r g is_by_id e) parser in
        inr (n.0, rw e n.1, n.2)

-- ---- rows of arguments with a default

-- more texts of any argument leave the row of an argument there
has_row-with_values : (id other : Text) (how : Reading) (s : ValueSource) (values : List Text) (rows : List Row)
    → has_row id rows ≡ true → has_row id (with_values other how s values rows) ≡ true
has_row-with_values id other how s values [] has = cc
has_row-with_values id other how s values (r ∷ rs) has = go (bytes_eq r.id other) (bytes_eq r.id id) refl has
    (λ f. has_row-with_values id other how s values rs f)
  where
    -- whether the first row is that of the argument or not, and takes the texts or not
    go : (t b : Bool) → bytes_eq r.id id ≡ b → (b || has_row id rs) ≡ true
        → (has_row id rs ≡ true → has_row id (with_values other how s values rs) ≡ true)
        → has_row id (if t then more_values s values r ++ rs else r ∷ with_values other how s values rs) ≡ true
    go true b is f rest = rw is f
    go false true is f rest = rw is refl
    go false false is f rest = rw is (rest f)

-- with texts of an argument, it has a row
has_row-with_own_values : (id : Text) (how : Reading) (s : ValueSource) (values : List Text) (rows : List Row)
    → has_row id (with_values id how s values rows) ≡ true
has_row-with_own_values id how s values [] = rw ((bytes_eq-Decides id id).1 refl) refl
has_row-with_own_values id how s values (r ∷ rs) = go (bytes_eq r.id id) refl
    (has_row-with_own_values id how s values rs)
  where
    -- whether the first row is that of the argument or not
    go : (t : Bool) → bytes_eq r.id id ≡ t → has_row id (with_values id how s values rs) ≡ true
        → has_row id (if t then more_values s values r ++ rs else r ∷ with_values id how s values rs) ≡ true
    go true is rest = rw is refl
    go false is rest = rw is rest

-- the default values of any argument leave the row of an argument there
has_row-with_default : (id : Text) (rows : List Row) (a : Rule) → has_row id rows ≡ true
    → has_row id (with_default rows a)
    ≡ true
has_row-with_default id rows a has = go (has_row a.id rows) a.defaults
  where
    -- whether the other argument has a row already or not
    go : (t : Bool) (ds : List Text) → has_row id (if t then rows else default_rows a.id (reading_by a) ds rows) ≡ true
    go true ds = has
    go false [] = has
    go false (v ∷ vs) = has_row-with_values id a.id (reading_by a) DefaultValue (v ∷ vs) rows has

-- the default values of all arguments leave the row of an argument there
pub has_row-defaults : (id : Text) (xs : List Rule) (rows : List Row) → has_row id rows ≡ true
    → has_row id (fold with_default rows xs) ≡ true
has_row-defaults id [] rows has = has
has_row-defaults id (a ∷ rest) rows has = has_row-defaults id rest (with_default rows a)
    (has_row-with_default id rows a has)

-- once the defaults are added, an argument with a default value has a row
pub has_row-own_default : (rows : List Row) (a : Rule) (v : Text) (vs : List Text) → a.defaults ≡ v ∷ vs
    → has_row a.id (with_default rows a) ≡ true
has_row-own_default rows a v vs is = go (has_row a.id rows) refl
  where
    -- whether the argument has a row already or not
    go : (t : Bool) → has_row a.id rows ≡ t → has_row a.id (if t then rows else default_rows a.id (reading_by a)
        a.defaults rows) ≡ true
    go true has = has
    go false has = rw is (has_row-with_own_values a.id (reading_by a) DefaultValue (v ∷ vs) rows)

-- ---- the subcommand at which a walk stops

-- the walk hasn't stopped at a subcommand, or at one other than `help`
abbrev pub NamesNoHelp : Option (Text × List Text) → Type 0
NamesNoHelp None = Unit {0}
NamesNoHelp (Some p) = bytes_eq p.0 (codes "help") ≡ false

-- the step isn't to the subcommand `help`
abbrev StepsNoHelp : Step → Type 0
StepsNoHelp (subcommand name) = bytes_eq name (codes "help") ≡ false
StepsNoHelp _ = Unit {0}

-- a word that names no argument leads to no subcommand
StepsNoHelp-plain_word : (c : List Rule) (waiting : Waiting) (word : Text) (h : Held)
    → StepsNoHelp (plain_word c waiting word h).1
StepsNoHelp-plain_word c idle word h = tt
StepsNoHelp-plain_word c (option id) word h = tt
StepsNoHelp-plain_word c positional word h = tt

-- what is done after a flag leads to no subcommand
StepsNoHelp-after_flag : (c : List Rule) (waiting : Waiting) (word : Text) (h : Held) (o : Outcome)
    → StepsNoHelp (after_flag c waiting word h o).1
StepsNoHelp-after_flag c waiting word h done = tt
StepsNoHelp-after_flag c waiting word h (waits id) = tt
StepsNoHelp-after_flag c waiting word h plain = StepsNoHelp-plain_word c waiting word h
StepsNoHelp-after_flag c waiting word h refused = StepsNoHelp-plain_word c waiting word h

-- a word with a long name, with short names, or with neither, leads to no subcommand
StepsNoHelp-long_or_other : (c : List Rule) (waiting : Waiting) (word : Text) (o : Option (Text × Option Text))
    (h : Held)
    → StepsNoHelp (long_or_other c waiting word o h).1
StepsNoHelp-long_or_other c waiting word (Some p) h = StepsNoHelp-after_flag c waiting word
    (long_met c (arg_by_long c p.0) p.1 h).0
    (long_met c (arg_by_long c p.0) p.1 h).1
StepsNoHelp-long_or_other c waiting word None h = go (short_of word)
  where
    -- whether the word has short names or not
    go : (o : Option Text) → StepsNoHelp (short_or_plain c waiting word o h).1
    go None = StepsNoHelp-plain_word c waiting word h
    go (Some flags) = StepsNoHelp-after_flag c waiting word (bundle c flags h).0 (bundle c flags h).1

module _ (s : Shape) (names : Names) (helps : s.disable_help_subcommand ≡ false) where
  -- a word without a fault doesn't lead to the subcommand `help`
  StepsNoHelp-subcommand_or_other : (o : Option Text) (waiting : Waiting) (position : ℕ) (word : Text) (h : Held)
      → other_fault s o word h
      ≡ [] → StepsNoHelp (subcommand_or_other s.rules o waiting position word h).1
  StepsNoHelp-subcommand_or_other (Some name) waiting position word h e = go (bytes_eq name (codes "help")) refl
    where
      -- the name that is met isn't `help`, since that would be a fault
      go : (t : Bool) → bytes_eq name (codes "help") ≡ t → bytes_eq name (codes "help") ≡ false
      go true is = let bad = rw (is, helps) at e in cc
      go false is = is
  StepsNoHelp-subcommand_or_other None waiting position word h e = go (bytes_eq word (45 ∷ 45 ∷ []))
    where
      -- whether the word is `--` or not
      go : (t : Bool) → StepsNoHelp (if t then (h, trailing position) else long_or_other s.rules waiting word
          (long_of word) h).1
      go true = tt
      go false = StepsNoHelp-long_or_other s.rules waiting word (long_of word) h

  -- the step by a word that is no fault isn't to the subcommand `help`, wherever the word stands
  StepsNoHelp-word_met : (trails : Bool) (waiting : Waiting) (position : ℕ) (word : Text) (h : Held)
      → word_fault s names trails
      waiting word h ≡ []
      → StepsNoHelp (word_met s.rules names trails waiting position word h).1
  StepsNoHelp-word_met true waiting position word h e = tt
  StepsNoHelp-word_met false waiting position word h e = StepsNoHelp-subcommand_or_other
      (subcommand_met names waiting word) waiting position word h e

  -- a word that is given to a positional argument stops at no subcommand
  NamesNoHelp-to_positional : (o : Option Rule) (word : Text) (w : Walk) (h : Held) → NamesNoHelp w.stopped
      → NamesNoHelp (to_positional s.rules o word w h).stopped
  NamesNoHelp-to_positional None word w h n = n
  NamesNoHelp-to_positional (Some a) word w h n = tt

  -- a step that isn't to the subcommand `help` doesn't stop there
  NamesNoHelp-after_step : (step : Step) (word : Text) (w : Walk) (h : Held) → StepsNoHelp step → NamesNoHelp w.stopped
      → NamesNoHelp (after_step s.rules word w h step).stopped
  NamesNoHelp-after_step (next waiting) word w h k n = n
  NamesNoHelp-after_step (trailing position) word w h k n = n
  NamesNoHelp-after_step (subcommand name) word w h k n = k
  NamesNoHelp-after_step value word w h k n = NamesNoHelp-to_positional (arg_by_index s.rules w.position) word w h n

  -- a turn of the walk without a fault doesn't stop at the subcommand `help`
  NamesNoHelp-walked_from : (stop : Option (Text × List Text)) (w : Walk) (word : Text) → NamesNoHelp stop
      → NamesNoHelp w.stopped
      → (is_some stop ≡ false → word_fault s names w.is_trailing w.waiting word w.held ≡ [])
      → NamesNoHelp (walked_from s.rules names stop w word).stopped
  NamesNoHelp-walked_from (Some p) w word n m e = n
  NamesNoHelp-walked_from None w word n m e =
      let met = word_met s.rules names w.is_trailing w.waiting w.position word w.held in
      NamesNoHelp-after_step met.1 word w met.0 (StepsNoHelp-word_met w.is_trailing w.waiting w.position word w.held
      (e refl)) m

  -- a walk without a fault that hasn't stopped at the subcommand `help` doesn't stop there
  pub NamesNoHelp-walked : (words : List Text) (w : Walk) → walk_fault s names w words ≡ [] → NamesNoHelp w.stopped
      → NamesNoHelp (fold (walked s.rules names) w words).stopped
  unfolding walked walk_fault
  NamesNoHelp-walked [] w e n = n
  NamesNoHelp-walked (word ∷ rest) w e n =
      let f = or_else-none (turn_fault s names w word) (walk_fault s names (walked s.rules names w word) rest) e in
      NamesNoHelp-walked rest (walked s.rules names w word) f.1
      (NamesNoHelp-walked_from w.stopped w word n n (λ none. let first = f.0 in
      (or_else-none _ _ (rw none at first)).0))
