-- Words in which clap finds no fault name a task of the program, and give all that the order of the task needs.
use Rattle.std.proofs.Common.{◌≡◌, ◌∙◌, ◌⊎◌, ◌&&◌, ◌||◌, Bool, true, false, not, refl, sym, ap, subst, codes, List, []}
use Rattle.std.proofs.Common.{ℕ, ◌∷◌, Option, Some, None, is_some, true≢false, inl, inr}
use Rattle.std.specs.Prelude.{cond, find, drop, option_map, pos, unwrap_or}
use Rattle.std.specs.Str.{bytes_eq}
use Rattle.std.proofs.lemmas.Slice.Eq.{bytes_eq-Decides}
use Rattle.clap.specs.Kinds.{check_kinds}
use Rattle.clap.specs.Words.{new_rule}
use Rattle.clap.specs.Faults.{built_fault, check_fault, defaults_fault, entered_fault, fault_of, level_fault}
use Rattle.clap.specs.Faults.{settle_fault, walk_fault}
use Rattle.clap.specs.Simple.{App, Shape, built, built_leaf, entered, filled, help_rule, help_shape, inherited}
use Rattle.clap.specs.Simple.{label_of, marked_built, names_of, rows_at, subcommand_of, with_index, with_leaf_noted}
use Rattle.clap.specs.Takes.{is_given}
use Rattle.clap.specs.Walk.{Row, Rule, Text, answers_to, finished, has_row, nothing_held, rows_after, settled}
use Rattle.clap.specs.Walk.{stop_after, walk, walk_from, with_default}
use Rattle.clap.specs.declared.builder.value_parser.ValueParser.TheVariants.{Signed, Unsigned}
use Rattle.clap.proofs.OnLiterals.{clap_on_literals}
use Rattle.vme_words.specs.Commands.{allow_rule, annotate_app, audit_app, bind_app, block_rule, confirm_app}
use Rattle.vme_words.specs.Commands.{explain_app, faults_app, file_count_rule, file_number_rule, file_rule, files_rule}
use Rattle.vme_words.specs.Commands.{flag_rule, greatest_file_number, greatest_number, join_app, list_app, part_app}
use Rattle.vme_words.specs.Commands.{recording_app, rules_app, skew_rule, slots_rule, stop_rule, tell_app}
use Rattle.vme_words.specs.Commands.{transfers_rule, variables_app, vmecheck_app, word_rule, workers_rule}
use Rattle.vme_words.specs.Orders.{HasAll, HasAudit, HasBind, HasConfirmation, HasName, HasNames, HasOptionsAndNames}
use Rattle.vme_words.specs.Orders.{HasOrder, HasPart, HasSignedIn, HasSkewAndNames, HasUnsignedFrom, MayHaveSignedIn}
use Rattle.vme_words.specs.Orders.{MayHaveUnsignedFrom, task_name}
use Rattle.vme_words.specs.declared.limits.TheConstants.{MOST_SLOTS, MOST_STEPS, MOST_WORKERS}
use Rattle.vme_words.specs.declared.order.Task.{Task}
use Rattle.vme_words.specs.declared.order.Task.TheVariants.{Annotate, Audit, Bind, Check, Confirm, Explain, Faults}
use Rattle.vme_words.specs.declared.order.Task.TheVariants.{Join, List as Listing, Part, Rules, Tell, Variables}
use Rattle.vme_words.proofs.RowLemmas.{AllGood, EachKnown, EachKnown-of_test, Known, NamesNoHelp, or_else-none}
use Rattle.vme_words.proofs.RowLemmas.{has_row-own_default, has_row-defaults}
use Rattle.vme_words.proofs.RowLemmas.{first_of-given}
use Rattle.vme_words.proofs.RowLemmas.{AllGood-level, one_of-accepted_or_none, one_of-accepted, NamesNoHelp-walked}

-- ---- the program's command as clap builds it: the shape of each subcommand

-- the program's command as clap has it when it builds a subcommand
abbrev program_level : Shape
program_level = with_leaf_noted (marked_built vmecheck_app.top)

-- the shape of a subcommand that judges a recording, by its name
abbrev recording : Text → Shape
recording name = built_leaf (inherited program_level (recording_app name).top)

-- the shape of `list`
abbrev of_list : Shape
of_list = built_leaf (inherited program_level list_app.top)

-- the shape of `annotate`
abbrev of_annotate : Shape
of_annotate = built_leaf (inherited program_level annotate_app.top)

-- the shape of `confirm`
abbrev confirmation : Shape
confirmation = built_leaf (inherited program_level confirm_app.top)

-- the shape of `audit`
abbrev of_audit : Shape
of_audit = built_leaf (inherited program_level audit_app.top)

-- the shape of `rules`
abbrev of_rules : Shape
of_rules = built_leaf (inherited program_level rules_app.top)

-- the shape of `faults`
abbrev of_faults : Shape
of_faults = built_leaf (inherited program_level faults_app.top)

-- the shape of `variables`
abbrev of_variables : Shape
of_variables = built_leaf (inherited program_level variables_app.top)

-- the shape of `bind`
abbrev of_bind : Shape
of_bind = built_leaf (inherited program_level bind_app.top)

-- the shape of `explain`
abbrev of_explain : Shape
of_explain = built_leaf (inherited program_level explain_app.top)

-- the shape of `part`
abbrev of_part : Shape
of_part = built_leaf (inherited program_level part_app.top)

-- the shape of `join`
abbrev of_join : Shape
of_join = built_leaf (inherited program_level join_app.top)

-- the shape of `tell`
abbrev of_tell : Shape
of_tell = built_leaf (inherited program_level tell_app.top)

-- the argument `--block`, as clap builds it; so are those that follow
abbrev block : Rule
block = with_index 1 (filled block_rule)

-- the argument `--workers`
abbrev workers : Rule
workers = with_index 1 (filled workers_rule)

-- the argument `--skew`
abbrev skew : Rule
skew = with_index 1 (filled skew_rule)

-- the argument BINDING
abbrev binding : Rule
binding = with_index 1 (filled (file_rule (codes "BINDING")))

-- the argument DUMP after BINDING
abbrev dump : Rule
dump = with_index 2 (filled (file_rule (codes "DUMP")))

-- the argument LISTING
abbrev listing : Rule
listing = with_index 3 (filled (file_rule (codes "LISTING")))

-- the argument `--help`
abbrev help : Rule
help = filled help_rule

-- the argument RULE
abbrev rule : Rule
rule = with_index 1 (filled (new_rule (codes "RULE")))

-- the argument KIND
abbrev kind : Rule
kind = with_index 1 (filled (new_rule (codes "KIND")))

-- the argument DUMP without BINDING
abbrev only_dump : Rule
only_dump = with_index 1 (filled (file_rule (codes "DUMP")))

-- the argument `--slots`
abbrev slots : Rule
slots = with_index 1 (filled slots_rule)

-- the argument `--scope`
abbrev scope : Rule
scope = with_index 1 (filled (word_rule (codes "scope")))

-- the argument `--gtkw`
abbrev save_file : Rule
save_file = with_index 1 (filled (word_rule (codes "gtkw")))

-- the argument `--svg`
abbrev picture : Rule
picture = with_index 1 (filled (word_rule (codes "svg")))

-- the argument `--transfers`
abbrev transfers : Rule
transfers = with_index 1 (filled transfers_rule)

-- the argument `--allow`
abbrev allow : Rule
allow = with_index 1 (filled allow_rule)

-- the argument `--stop`
abbrev stop : Rule
stop = with_index 1 (filled stop_rule)

-- the argument `--quiet`
abbrev quiet : Rule
quiet = with_index 1 (filled (flag_rule (codes "quiet")))

-- the argument `--times`
abbrev times : Rule
times = with_index 1 (filled (flag_rule (codes "times")))

-- the argument `--junit`
abbrev junit : Rule
junit = with_index 1 (filled (word_rule (codes "junit")))

-- the argument DUMP of which there may be several
abbrev dumps : Rule
dumps = with_index 2 (filled (files_rule (codes "DUMP")))

-- the argument `--number`
abbrev file_number : Rule
file_number = with_index 1 (filled file_number_rule)

-- the argument `--listing`
abbrev marks : Rule
marks = with_index 1 (filled (flag_rule (codes "listing")))

-- the argument `--list`
abbrev list : Rule
list = with_index 1 (filled (flag_rule (codes "list")))

-- the argument `--files`
abbrev file_count : Rule
file_count = with_index 1 (filled file_count_rule)

-- the argument PART
abbrev parts : Rule
parts = with_index 1 (filled (files_rule (codes "PART")))

-- the arguments by which a recording is judged, and more
abbrev judging_rules : List Rule → List Rule
judging_rules more = block ∷ workers ∷ skew ∷ binding ∷ dump ∷ more

-- the arguments of a subcommand that judges a recording, such as `check`
abbrev recording_rules : List Rule
recording_rules = judging_rules (help ∷ [])

-- the arguments of `list`
abbrev listing_rules : List Rule
listing_rules = judging_rules (times ∷ help ∷ [])

-- the arguments of `annotate`
abbrev annotate_rules : List Rule
annotate_rules = skew ∷ binding ∷ dump ∷ help ∷ []

-- the arguments of `confirm`
abbrev confirmation_rules : List Rule
confirmation_rules = skew ∷ binding ∷ dump ∷ listing ∷ help ∷ []

-- the arguments of `audit`
abbrev audit_rules : List Rule
audit_rules = transfers ∷ allow ∷ stop ∷ skew ∷ workers ∷ quiet ∷ junit ∷ binding ∷ dumps ∷ help ∷ []

-- the arguments of `rules`
abbrev rules_rules : List Rule
rules_rules = rule ∷ help ∷ []

-- the arguments of `faults`
abbrev faults_rules : List Rule
faults_rules = kind ∷ help ∷ []

-- the arguments of `variables`
abbrev variables_rules : List Rule
variables_rules = only_dump ∷ help ∷ []

-- the arguments of `bind`
abbrev bind_rules : List Rule
bind_rules = slots ∷ scope ∷ only_dump ∷ help ∷ []

-- the arguments of `explain`
abbrev explain_rules : List Rule
explain_rules = save_file ∷ picture ∷ skew ∷ binding ∷ dump ∷ help ∷ []

-- the arguments of `part`
abbrev part_rules : List Rule
part_rules = file_number ∷ marks ∷ binding ∷ dump ∷ help ∷ []

-- the arguments of `join`
abbrev join_rules : List Rule
join_rules = parts ∷ help ∷ []

-- the arguments of `tell`
abbrev tell_rules : List Rule
tell_rules = list ∷ file_count ∷ parts ∷ help ∷ []

-- each argument of a subcommand that judges a recording is known
EachKnown-recording : EachKnown recording_rules recording_rules
unfolding clap_on_literals
EachKnown-recording = EachKnown-of_test recording_rules [] refl

-- each argument of `list` is known
EachKnown-list : EachKnown listing_rules listing_rules
unfolding clap_on_literals
EachKnown-list = EachKnown-of_test listing_rules [] refl

-- each argument of `annotate` is known
EachKnown-annotate : EachKnown annotate_rules annotate_rules
unfolding clap_on_literals
EachKnown-annotate = EachKnown-of_test annotate_rules [] refl

-- each argument of `confirm` is known
EachKnown-confirm : EachKnown confirmation_rules confirmation_rules
unfolding clap_on_literals
EachKnown-confirm = EachKnown-of_test confirmation_rules [] refl

-- each argument of `audit` is known
EachKnown-audit : EachKnown audit_rules audit_rules
unfolding clap_on_literals
EachKnown-audit = EachKnown-of_test audit_rules [] refl

-- each argument of `variables` is known
EachKnown-variables : EachKnown variables_rules variables_rules
unfolding clap_on_literals
EachKnown-variables = EachKnown-of_test variables_rules [] refl

-- each argument of `bind` is known
EachKnown-bind : EachKnown bind_rules bind_rules
unfolding clap_on_literals
EachKnown-bind = EachKnown-of_test bind_rules [] refl

-- each argument of `explain` is known
EachKnown-explain : EachKnown explain_rules explain_rules
unfolding clap_on_literals
EachKnown-explain = EachKnown-of_test explain_rules [] refl

-- each argument of `part` is known
EachKnown-part : EachKnown part_rules part_rules
unfolding clap_on_literals
EachKnown-part = EachKnown-of_test part_rules [] refl

-- each argument of `tell` is known
EachKnown-tell : EachKnown tell_rules tell_rules
unfolding clap_on_literals
EachKnown-tell = EachKnown-of_test tell_rules [] refl

-- ---- the matches of a subcommand

-- if no required argument is missing, the one is given
check_kinds-one : (d : Bool) → check_kinds false false (not d || false) ≡ [] → d ≡ true
check_kinds-one true e = refl
check_kinds-one false e = cc

-- if no required argument is missing, both are given
check_kinds-two : (b d : Bool) → check_kinds false false (not b || (not d || false)) ≡ [] → (b ≡ true) × (d ≡ true)
check_kinds-two true true e = (refl, refl)
check_kinds-two true false e = cc
check_kinds-two false d e = cc

-- if no required argument is missing, all three are given
check_kinds-three : (b d l : Bool) → check_kinds false false (not b || (not d || (not l || false))) ≡ [] → (b ≡ true)
    × (d ≡ true) × (l ≡ true)
check_kinds-three true true true e = (refl, refl, refl)
check_kinds-three true true false e = cc
check_kinds-three true false l e = cc
check_kinds-three false d l e = cc

-- an option that has a row has a number from `least` to `greatest`, if its parser asks for one
HasSignedIn-row : (c : List Rule) (rows : List Row) (a : Rule) (least greatest : ℕ) → AllGood c rows → Known c a
    → a.parser ≡ Some (Signed (pos least) (pos greatest)) → has_row a.id rows ≡ true
    → HasSignedIn a.id least greatest rows
HasSignedIn-row c rows a least greatest good known parser has =
    let n = one_of-accepted c rows a (Signed (pos least) (pos greatest)) good known.is_by_id parser has in
    record { text = n.0; read = n.1; says = n.2 }

-- an option that has a row has a number of 64 bits from `least` on, if its parser asks for one
HasUnsignedFrom-row : (c : List Rule) (rows : List Row) (a : Rule) (least : ℕ) → AllGood c rows → Known c a
    → a.parser ≡ Some (Unsigned least greatest_number) → has_row a.id rows ≡ true → HasUnsignedFrom a.id least rows
HasUnsignedFrom-row c rows a least good known parser has =
    let n = one_of-accepted c rows a (Unsigned least greatest_number) good known.is_by_id parser has in
    record { text = n.0; read = n.1; says = n.2 }

-- an option isn't given, or has a number of 64 bits from `least` on, if its parser asks for one
MayHaveUnsignedFrom-good : (c : List Rule) (rows : List Row) (a : Rule) (least : ℕ) → AllGood c rows → Known c a
    → a.parser ≡ Some (Unsigned least greatest_number) → MayHaveUnsignedFrom a.id least rows
MayHaveUnsignedFrom-good c rows a least good known parser = elim
    (one_of-accepted_or_none c rows a (Unsigned least greatest_number) good known.is_by_id parser) [
      | inl none ↦ inl none
      | inr n ↦ inr (record { text = n.0; read = n.1; says = n.2 })
    ]

-- where the binding and the dump are given, their names are
HasNames-given : (c : List Rule) (rows : List Row) → AllGood c rows → Known c binding → Known c dump
    → (is_given (codes "BINDING") rows ≡ true) × (is_given (codes "DUMP") rows ≡ true) → HasNames rows
HasNames-given c rows good known_binding known_dump given = record {
  binding = first_of-given c rows binding good known_binding.is_by_id given.0;
  dump = first_of-given c rows dump good known_dump.is_by_id given.1;
}

-- the arguments by which a recording is judged, and more, give its options and the names of its files
HasOptionsAndNames-judging : (more : List Rule) (words : List Text)
    → EachKnown (judging_rules more) (judging_rules more)
    → AllGood (judging_rules more) (rows_after (judging_rules more) [] words)
    → (is_given (codes "BINDING") (rows_after (judging_rules more) [] words) ≡ true)
    × (is_given (codes "DUMP") (rows_after (judging_rules more) [] words) ≡ true)
    → HasOptionsAndNames (rows_after (judging_rules more) [] words)
HasOptionsAndNames-judging more words known good given =
    let rules = judging_rules more in
    let rows = rows_after rules [] words in
    let given_rows = (settled rules (walk rules [] nothing_held words).held).rows in
    let rows_with_block = with_default given_rows block in
    let rows_with_workers = with_default rows_with_block workers in
    record {
      options = record {
        block = HasSignedIn-row rules rows block 1 MOST_STEPS good known.0 refl
            (has_row-defaults (codes "block") (workers ∷ skew ∷ binding ∷ dump ∷ more) rows_with_block
            (has_row-own_default given_rows block (codes "16384") [] refl));
        workers = HasSignedIn-row rules rows workers 1 MOST_WORKERS good known.1.0 refl
            (has_row-defaults (codes "workers") (skew ∷ binding ∷ dump ∷ more) rows_with_workers
            (has_row-own_default rows_with_block workers (codes "4") [] refl));
        skew = HasUnsignedFrom-row rules rows skew 0 good known.1.1.0 refl
            (has_row-defaults (codes "skew") (binding ∷ dump ∷ more) (with_default rows_with_workers skew)
            (has_row-own_default rows_with_workers skew (codes "0") [] refl));
      };
      names = HasNames-given rules rows good known.1.1.1.0 known.1.1.1.1.0 given;
    }

-- words of a subcommand that judges a recording, without a fault, give its options and the names of its files
HasOptionsAndNames-recording : (name : Text) (words : List Text)
    → level_fault (recording name) [] nothing_held words false [] ≡ []
    → HasOptionsAndNames (rows_after recording_rules [] words)
HasOptionsAndNames-recording name words e =
    let level = AllGood-level (recording name) words EachKnown-recording e in
    let rows = rows_after recording_rules [] words in
    HasOptionsAndNames-judging (help ∷ []) words EachKnown-recording level.0
    (check_kinds-two (is_given (codes "BINDING") rows) (is_given (codes "DUMP") rows) level.1)

-- words of `list` without a fault give its options and the names of its files
HasOptionsAndNames-list : (words : List Text) → level_fault of_list [] nothing_held words false [] ≡ []
    → HasOptionsAndNames (rows_after listing_rules [] words)
HasOptionsAndNames-list words e =
    let level = AllGood-level of_list words EachKnown-list e in
    let rows = rows_after listing_rules [] words in
    HasOptionsAndNames-judging (times ∷ help ∷ []) words EachKnown-list level.0
    (check_kinds-two (is_given (codes "BINDING") rows) (is_given (codes "DUMP") rows) level.1)

-- words of `confirm` without a fault give all that it needs
HasConfirmation-confirm : (words : List Text) → level_fault confirmation [] nothing_held words false [] ≡ []
    → HasConfirmation
    (rows_after confirmation_rules [] words)
HasConfirmation-confirm words e =
    let level = AllGood-level confirmation words EachKnown-confirm e in
    let rows = rows_after confirmation_rules [] words in
    let given_rows = (settled confirmation_rules (walk confirmation_rules [] nothing_held words).held).rows in
    let given = check_kinds-three (is_given (codes "BINDING") rows) (is_given (codes "DUMP") rows)
    (is_given (codes "LISTING") rows) level.1 in
    record {
      skew = HasUnsignedFrom-row confirmation_rules rows skew 0 level.0 EachKnown-confirm.0 refl
          (has_row-defaults (codes "skew") (binding ∷ dump ∷ listing ∷ help ∷ []) (with_default given_rows skew)
          (has_row-own_default given_rows skew (codes "0") [] refl));
      names = HasNames-given confirmation_rules rows level.0 EachKnown-confirm.1.0 EachKnown-confirm.1.1.0
          (given.0, given.1);
      listing = first_of-given confirmation_rules rows listing level.0 EachKnown-confirm.1.1.1.0.is_by_id given.2;
    }

-- words of `audit` without a fault give all that it needs
HasAudit-audit : (words : List Text) → level_fault of_audit [] nothing_held words false [] ≡ [] → HasAudit
    (rows_after audit_rules [] words)
HasAudit-audit words e =
    let level = AllGood-level of_audit words EachKnown-audit e in
    let rows = rows_after audit_rules [] words in
    let given_rows = (settled audit_rules (walk audit_rules [] nothing_held words).held).rows in
    let given = check_kinds-two (is_given (codes "BINDING") rows) (is_given (codes "DUMP") rows) level.1 in
    let rows_with_transfers = with_default given_rows transfers in
    let rows_before_skew = with_default (with_default rows_with_transfers allow) stop in
    let rows_with_skew = with_default rows_before_skew skew in
    record {
      transfers = HasUnsignedFrom-row audit_rules rows transfers 0 level.0 EachKnown-audit.0 refl
          (has_row-defaults (codes "transfers")
          (allow ∷ stop ∷ skew ∷ workers ∷ quiet ∷ junit ∷ binding ∷ dumps ∷ help ∷ []) rows_with_transfers
          (has_row-own_default given_rows transfers (codes "1") [] refl));
      stop = MayHaveUnsignedFrom-good audit_rules rows stop 1 level.0 EachKnown-audit.1.1.0 refl;
      skew = HasUnsignedFrom-row audit_rules rows skew 0 level.0 EachKnown-audit.1.1.1.0 refl
          (has_row-defaults (codes "skew") (workers ∷ quiet ∷ junit ∷ binding ∷ dumps ∷ help ∷ []) rows_with_skew
          (has_row-own_default rows_before_skew skew (codes "0") [] refl));
      workers = HasSignedIn-row audit_rules rows workers 1 MOST_WORKERS level.0 EachKnown-audit.1.1.1.1.0 refl
          (has_row-defaults (codes "workers") (quiet ∷ junit ∷ binding ∷ dumps ∷ help ∷ [])
          (with_default rows_with_skew workers) (has_row-own_default rows_with_skew workers (codes "4") [] refl));
      binding = first_of-given audit_rules rows binding level.0 EachKnown-audit.1.1.1.1.1.1.1.0.is_by_id given.0;
    }

-- words of `variables` without a fault give the name of the dump
HasName-variables : (words : List Text) → level_fault of_variables [] nothing_held words false [] ≡ []
    → HasName (codes "DUMP") (rows_after variables_rules [] words)
HasName-variables words e =
    let level = AllGood-level of_variables words EachKnown-variables e in
    let rows = rows_after variables_rules [] words in
    first_of-given variables_rules rows only_dump level.0 EachKnown-variables.0.is_by_id
    (check_kinds-one (is_given (codes "DUMP") rows)
    level.1)

-- words of `bind` without a fault give all that it needs
HasBind-bind : (words : List Text) → level_fault of_bind [] nothing_held words false [] ≡ []
    → HasBind (rows_after bind_rules [] words)
HasBind-bind words e =
    let level = AllGood-level of_bind words EachKnown-bind e in
    let rows = rows_after bind_rules [] words in
    let may_have_slots : MayHaveSignedIn (codes "slots") 1 MOST_SLOTS rows = elim
    (one_of-accepted_or_none bind_rules rows slots (Signed (pos 1) (pos MOST_SLOTS))
    level.0 EachKnown-bind.0.is_by_id refl) [
      | inl none ↦ inl none
      | inr n ↦ inr (record { text = n.0; read = n.1; says = n.2 })
    ] in
    record {
      slots = may_have_slots;
      dump =
          first_of-given bind_rules rows only_dump level.0 EachKnown-bind.1.1.0.is_by_id
          (check_kinds-one (is_given (codes "DUMP") rows) level.1);
    }

-- words of `explain` without a fault give its skew and the names of its files
HasSkewAndNames-explain : (words : List Text) → level_fault of_explain [] nothing_held words false [] ≡ []
    → HasSkewAndNames (rows_after explain_rules [] words)
HasSkewAndNames-explain words e =
    let level = AllGood-level of_explain words EachKnown-explain e in
    let rows = rows_after explain_rules [] words in
    let given_rows = (settled explain_rules (walk explain_rules [] nothing_held words).held).rows in
    let given = check_kinds-two (is_given (codes "BINDING") rows) (is_given (codes "DUMP") rows) level.1 in
    let rows_with_files = with_default (with_default given_rows save_file) picture in
    record {
      skew = HasUnsignedFrom-row explain_rules rows skew 0 level.0 EachKnown-explain.1.1.0 refl
          (has_row-defaults (codes "skew") (binding ∷ dump ∷ help ∷ []) (with_default rows_with_files skew)
          (has_row-own_default rows_with_files skew (codes "0") [] refl));
      names = HasNames-given explain_rules rows level.0 EachKnown-explain.1.1.1.0 EachKnown-explain.1.1.1.1.0 given;
    }

-- words of `annotate` without a fault give its skew and the names of its files
HasSkewAndNames-annotate : (words : List Text) → level_fault of_annotate [] nothing_held words false [] ≡ []
    → HasSkewAndNames (rows_after annotate_rules [] words)
HasSkewAndNames-annotate words e =
    let level = AllGood-level of_annotate words EachKnown-annotate e in
    let rows = rows_after annotate_rules [] words in
    let given_rows = (settled annotate_rules (walk annotate_rules [] nothing_held words).held).rows in
    let given = check_kinds-two (is_given (codes "BINDING") rows) (is_given (codes "DUMP") rows) level.1 in
    record {
      skew = HasUnsignedFrom-row annotate_rules rows skew 0 level.0 EachKnown-annotate.0 refl
          (has_row-defaults (codes "skew") (binding ∷ dump ∷ help ∷ []) (with_default given_rows skew)
          (has_row-own_default given_rows skew (codes "0") [] refl));
      names = HasNames-given annotate_rules rows level.0 EachKnown-annotate.1.0 EachKnown-annotate.1.1.0 given;
    }

-- words of `part` without a fault give all that it needs
HasPart-part : (words : List Text) → level_fault of_part [] nothing_held words false [] ≡ []
    → HasPart (rows_after part_rules [] words)
HasPart-part words e =
    let level = AllGood-level of_part words EachKnown-part e in
    let rows = rows_after part_rules [] words in
    let given_rows = (settled part_rules (walk part_rules [] nothing_held words).held).rows in
    let given = check_kinds-two (is_given (codes "BINDING") rows) (is_given (codes "DUMP") rows) level.1 in
    record {
      number = HasSignedIn-row part_rules rows file_number 0 greatest_file_number level.0 EachKnown-part.0 refl
          (has_row-defaults (codes "number") (marks ∷ binding ∷ dump ∷ help ∷ []) (with_default given_rows file_number)
          (has_row-own_default given_rows file_number (codes "0") [] refl));
      names = HasNames-given part_rules rows level.0 EachKnown-part.1.1.0 EachKnown-part.1.1.1.0 given;
    }

-- words of `tell` without a fault give a number of files from 1 on, or none
MayHaveUnsignedFrom-tell : (words : List Text) → level_fault of_tell [] nothing_held words false [] ≡ []
    → MayHaveUnsignedFrom (codes "files") 1 (rows_after tell_rules [] words)
MayHaveUnsignedFrom-tell words e =
    let level = AllGood-level of_tell words EachKnown-tell e in
    MayHaveUnsignedFrom-good tell_rules (rows_after tell_rules [] words) file_count 1 level.0 EachKnown-tell.1.0 refl

-- ---- the words

-- words without a fault, after the subcommand `s`, give an order, unless `s` is `help`
abbrev Makes : Shape → Type 0
Makes s = (words : List Text) → level_fault s [] nothing_held words false [] ≡ [] → HasOrder (Some (rows_at s words)) ⊎
    (label_of s ≡ (codes "help", []))

-- `Makes` holds of each of the subcommands
abbrev EachMakes : List Shape → Type 0
EachMakes [] = Unit {0}
EachMakes (s ∷ rest) = Makes s × EachMakes rest

-- a subcommand that is found among some that satisfy `Makes` does so too, and passes the test
Makes-found : (xs : List Shape) (test : Shape → Bool) (s : Shape) → EachMakes xs → find test xs ≡ Some s → Makes s
    × (test s ≡ true)
Makes-found [] test s makes e = cc
Makes-found (x ∷ xs) test s makes e = go (test x) refl e (λ f. Makes-found xs test s makes.1 f)
  where
    -- whether the first subcommand passes the test or not
    go : (t : Bool) → test x ≡ t → cond t (Some x) (find test xs) ≡ Some s → (find test xs ≡ Some s → Makes s
        × (test s ≡ true)) → Makes s × (test s ≡ true)
    go true is f rest = subst (λ (y : Shape). Makes y × (test y ≡ true)) (ap (λ (o : Option Shape). unwrap_or o x) f)
        (makes.0, is)
    go false is f rest = rest f

-- a word other than `help` isn't the name of the subcommand `help`
answers_to-help : (word : Text) → bytes_eq word (codes "help") ≡ false → answers_to word (codes "help", []) ≡ true → ⊥
answers_to-help word not_it it = go (bytes_eq (codes "help") word) refl it
  where
    -- whether the word is `help` or not
    go : (t : Bool) → bytes_eq (codes "help") word ≡ t → (t || false) ≡ true → ⊥
    go true is f = absurd
        (true≢false (sym ((bytes_eq-Decides word (codes "help")).1 (sym ((bytes_eq-Decides (codes "help") word).0 is)))
        ∙ not_it))
    go false is f = absurd (true≢false (sym f))

-- if each subcommand gives an order, one other than `help` that is entered without a fault gives one
HasOrder-entered : (a : App) (stop : Option (Text × List Text)) → EachMakes a.subs → NamesNoHelp stop → entered_fault a
    stop ≡ [] → is_some (entered a stop) ≡ true → HasOrder (entered a stop)
HasOrder-entered a None makes named e has = absurd (true≢false (sym has))
HasOrder-entered a (Some p) makes named e has = go (find (λ s. answers_to p.0 (label_of s)) a.subs) refl
  where
    -- whether the name is that of a subcommand or not
    go : (o : Option Shape) → find (λ s. answers_to p.0 (label_of s)) a.subs ≡ o
        → HasOrder (option_map (λ s. rows_at s p.1) o)
    go None is = let bad = rw is at has in cc
    go (Some s) is =
        let found = Makes-found a.subs (λ x. answers_to p.0 (label_of x)) s makes is in
        elim (found.0 p.1 (rw is at e)) [
          | inl h ↦ h
          | inr helps ↦ absurd (answers_to-help p.0 named (subst (λ (l : Text × List Text). answers_to p.0 l ≡ true)
              helps
              found.1))
        ]

-- if a subcommand is required (`wants`) and there is no fault, one was entered (`has`)
check_kinds-entered : (has helps wants needs : Bool) → wants ≡ true
    → check_kinds (not has && helps) (not has && wants) needs
    ≡ [] → has ≡ true
check_kinds-entered true helps wants needs is e = refl
check_kinds-entered false true wants needs is e = cc
check_kinds-entered false false wants needs is e = let bad = rw is at e in cc

-- words in which `a`, which requires a subcommand, finds no fault have an order, if those of each of its subcommands do
HasOrder-of_app : (a : App) (words : List Text) → EachMakes a.subs → a.top.disable_help_subcommand ≡ false
    → a.top.subcommand_required ≡ true
    → built_fault a nothing_held words ≡ [] → HasOrder (entered a (stop_after a.top.rules (names_of a) words))
HasOrder-of_app a words makes helps wants e =
    let stop = stop_after a.top.rules (names_of a) words in
    let end = (walk a.top.rules (names_of a) nothing_held words).held in
    let f = or_else-none (walk_fault a.top (names_of a) (walk_from nothing_held) words) _ e in
    let below = or_else-none (entered_fault a stop) _ f.1 in
    let settle = or_else-none (settle_fault a.top.rules a.top.args_override_self end) _ below.1 in
    let last = or_else-none (defaults_fault (settled a.top.rules end).rows a.top.rules)
    (check_fault a.top (finished a.top.rules end) (is_some (entered a stop))) settle.1 in
    HasOrder-entered a stop makes (NamesNoHelp-walked a.top (names_of a) helps words (walk_from nothing_held) f.0 tt)
    below.0
    (check_kinds-entered (is_some (entered a stop)) _ a.top.subcommand_required _ wants last.1)

-- words without a fault, after a subcommand with the name of a task, give an order if they give what the task needs
Makes-task : (s : Shape) (task : Task) → s.name ≡ task_name task
    → ((words : List Text) → level_fault s [] nothing_held words false [] ≡ []
    → HasAll task (rows_after s.rules [] words)) → Makes s
Makes-task s task named has words e = inl (record {
  task = task;
  rows = rows_after s.rules [] words;
  command = λ i. Some (named i, rows_after s.rules [] words);
  has = has words e;
})

-- words of `check` without a fault give an order
Makes-check : Makes (recording (codes "check"))
Makes-check = Makes-task (recording (codes "check")) Check refl (HasOptionsAndNames-recording (codes "check"))

-- words of `list` without a fault give an order
Makes-list : Makes of_list
Makes-list = Makes-task of_list Listing refl HasOptionsAndNames-list

-- words of `confirm` without a fault give an order
Makes-confirm : Makes confirmation
Makes-confirm = Makes-task confirmation Confirm refl HasConfirmation-confirm

-- words of `audit` without a fault give an order
Makes-audit : Makes of_audit
Makes-audit = Makes-task of_audit Audit refl HasAudit-audit

-- words of `rules` without a fault give an order
Makes-rules : Makes of_rules
Makes-rules = Makes-task of_rules Rules refl (λ _ _. tt)

-- words of `faults` without a fault give an order
Makes-faults : Makes of_faults
Makes-faults = Makes-task of_faults Faults refl (λ _ _. tt)

-- words of `variables` without a fault give an order
Makes-variables : Makes of_variables
Makes-variables = Makes-task of_variables Variables refl HasName-variables

-- words of `bind` without a fault give an order
Makes-bind : Makes of_bind
Makes-bind = Makes-task of_bind Bind refl HasBind-bind

-- words of `explain` without a fault give an order
Makes-explain : Makes of_explain
Makes-explain = Makes-task of_explain Explain refl HasSkewAndNames-explain

-- words of `annotate` without a fault give an order
Makes-annotate : Makes of_annotate
Makes-annotate = Makes-task of_annotate Annotate refl HasSkewAndNames-annotate

-- words of `part` without a fault give an order
Makes-part : Makes of_part
Makes-part = Makes-task of_part Part refl HasPart-part

-- words of `join` without a fault give an order
Makes-join : Makes of_join
Makes-join = Makes-task of_join Join refl (λ _ _. tt)

-- words of `tell` without a fault give an order
Makes-tell : Makes of_tell
Makes-tell = Makes-task of_tell Tell refl MayHaveUnsignedFrom-tell

-- `Makes` holds of the subcommand `help`, which gives no order
Makes-help : Makes (built_leaf help_shape)
Makes-help words e = inr refl

-- words in which clap finds no fault by the program's command have all that an order needs
pub HasOrder-words : (words : List Text) → fault_of vmecheck_app words ≡ []
    → HasOrder (subcommand_of vmecheck_app words)
HasOrder-words words e = HasOrder-of_app (built vmecheck_app) (drop 1 words) (
  Makes-check,
  (
    Makes-list,
    (
      Makes-confirm,
      (
        Makes-audit,
        (
          Makes-rules,
          (
            Makes-faults,
            (
              Makes-variables,
              (
                Makes-bind,
                (Makes-explain, (Makes-annotate, (Makes-part, (Makes-join, (Makes-tell, (Makes-help, tt)))))),
              ),
            ),
          ),
        ),
      ),
    ),
  ),
) refl
    refl e
