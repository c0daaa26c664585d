-- The line of the rules that are never asked, rule by rule, and the text of a refusal after the name of the program.
use Rattle.std.proofs.Common.{◌≡◌, ℕ, ◌+◌, ◌-◌, ◌<◌, Bool, true, false, cond, not, List, [], ◌∷◌, ◌++◌, length}
use Rattle.std.proofs.Common.{take, drop}
use Rattle.std.proofs.Common.{get_or, refl, sym, ap, ◌∙◌, arith, append_assoc, length-drop}
use Rattle.std.specs.Prelude.{OnOk, Result, Ok, Err, codes, filter, flat_map}
use Rattle.std.proofs.lemmas.Grind.{flat_map-append}
use Rattle.std.proofs.lemmas.List.{append-nil, take_all}
use Rattle.std.proofs.lemmas.List.Elements.{filter_more}
use Rattle.vme_trace.specs.declared.rule.Rule.{Rule}
use Rattle.vme_bind.specs.declared.fault.BindFaultKind.{BindFaultKind}
use Rattle.vme_bind.specs.declared.fault.BindFaultKind.TheVariants as bind
use Rattle.vme_listing.specs.declared.fault.ListFault.{ListFault}
use Rattle.vme_listing.specs.declared.fault.ListFault.TheVariants as list
use Rattle.vme_stream.specs.Texts.{binding_fault_text, line_of, listing_fault_text, refusal_text}
use Rattle.vme_stream.specs.declared.refusal.Input.{Input}
use Rattle.vme_stream.specs.declared.refusal.Refusal.{Refusal}
use Rattle.vme_stream.specs.declared.refusal.Refusal.TheVariants.{CannotOpen, CannotRead, TooLong, BadBinding, BadDump}
use Rattle.vme_stream.specs.declared.refusal.Refusal.TheVariants.{BadListing, TooManyBlocks, Memory}
use Rattle.vme_auditor.specs.Events.{asks_by}
use Rattle.vme_auditor.specs.declared.asked.AskedEvents.{AskedEvents}
use Rattle.vme_audit_lines.specs.AuditLines.{name_unless_asked, names_text, refusal_after_name, spaced_name}
use Rattle.vme_audit_lines.specs.AuditLines.{unasked_among, unasked_line}

-- if the success of a call gives `P`, and `P` gives `Q`, the success gives `Q`
pub on_ok : {T E : Type 0} (r : Result T E) (P Q : Type 0) → OnOk r P → (P → Q) → OnOk r Q
on_ok (Ok x) P Q h f = f h
on_ok (Err e) P Q h f = tt

-- ---- rules that are never asked

-- the names of the rules up to index i that aren't asked are those before it and, unless it is asked, that of the rule
-- there
names_text-next_rule : (e : AskedEvents) (rules : List Rule) (i : ℕ) (d : Rule) → i < length rules
    → names_text (unasked_among e (take (i + 1) rules))
    ≡ names_text (unasked_among e (take i rules)) ++ name_unless_asked e (get_or rules i d)
unfolding names_text unasked_among
names_text-next_rule e rules i d lt =
    ap (flat_map spaced_name) (filter_more (λ (q : Rule). not (asks_by e q)) rules i d lt)
    ∙ flat_map-append spaced_name unasked_before (cond (not (asks_by e rule)) (rule ∷ []) [])
    ∙ ap (λ (text : List ℕ). flat_map spaced_name unasked_before ++ text) (by_test (asks_by e rule))
  where
    -- the rules before index i that aren't asked
    unasked_before : List Rule
    unasked_before = filter (λ (q : Rule). not (asks_by e q)) (take i rules)

    -- the rule at index i
    rule : Rule
    rule = get_or rules i d

    -- by whether that rule is asked
    by_test : (b : Bool) → flat_map spaced_name (cond (not b) (rule ∷ []) []) ≡ cond b [] (spaced_name rule)
    by_test true = refl
    by_test false = append-nil (spaced_name rule)

-- if the names before index i were added to `old`, and then, unless it is asked, that of the rule there, those up to it
-- were added
pub names_text-written_next : (e : AskedEvents) (rules : List Rule) (i : ℕ) (d : Rule) (old so_far new : List ℕ)
    → i < length rules → so_far ≡ old ++ names_text (unasked_among e (take i rules))
    → new ≡ so_far ++ name_unless_asked e (get_or rules i d)
    → new ≡ old ++ names_text (unasked_among e (take (i + 1) rules))
names_text-written_next e rules i d old so_far new lt before is =
    is ∙ ap (λ (xs : List ℕ). xs ++ name_unless_asked e (get_or rules i d)) before
    ∙ append_assoc old (names_text (unasked_among e (take i rules))) (name_unless_asked e (get_or rules i d))
    ∙ ap (λ (xs : List ℕ). old ++ xs) (sym (names_text-next_rule e rules i d lt))

-- of no rules there are no names
pub names_text-none : (e : AskedEvents) (rules : List Rule) → names_text (unasked_among e (take 0 rules)) ≡ []
unfolding names_text unasked_among
names_text-none e rules = refl

-- if no rule is named, there is no line
pub unasked_line-none : (head : List ℕ) (rules : List Rule) → length (names_text rules) ≡ 0 → unasked_line head rules
    ≡ []
unfolding names_text
unasked_line-none head [] none = refl
unasked_line-none head (r ∷ rs) none = absurd (omega (arith, none))

-- if a rule is named, there is a line with the names
pub unasked_line-some : (head : List ℕ) (rules : List Rule) → (length (names_text rules) ≡ 0 → ⊥)
    → unasked_line head rules ≡ head ++ line_of (codes "never asked:" ++ names_text rules)
unfolding names_text
unasked_line-some head [] some = absurd (some refl)
unasked_line-some head (r ∷ rs) some = refl

-- ---- refusals

-- the name of the program, with which the line of a refusal begins
abbrev program_name : List ℕ
program_name = codes "vmecheck: "

-- a text without its beginning, as long as the name of the program
abbrev after_program : List ℕ → List ℕ
after_program text = drop (length program_name) text

-- the text of a fault of a binding begins with the name of the program
binding_fault_text-after_program : (line : ℕ) (kind : BindFaultKind) → binding_fault_text line kind
    ≡ program_name ++ after_program (binding_fault_text line kind)
binding_fault_text-after_program line bind.BadLine = refl
binding_fault_text-after_program line bind.SlotsFirst = refl
binding_fault_text-after_program line bind.UnknownName = refl
binding_fault_text-after_program line bind.NamedTwice = refl
binding_fault_text-after_program line (bind.Unbound l) = refl
binding_fault_text-after_program line bind.Memory = refl
binding_fault_text-after_program line bind.NoSuchPath = refl
binding_fault_text-after_program line bind.AmbiguousPath = refl
binding_fault_text-after_program line bind.WrongWidth = refl
binding_fault_text-after_program line bind.TooManySteps = refl

-- the text of a fault of a listing begins with the name of the program
listing_fault_text-after_program : (fault : ListFault) → listing_fault_text fault
    ≡ program_name ++ after_program (listing_fault_text fault)
listing_fault_text-after_program list.BadHeader = refl
listing_fault_text-after_program (list.BadRow row) = refl
listing_fault_text-after_program (list.Unsorted row) = refl
listing_fault_text-after_program list.Memory = refl

-- the text of a refusal begins with the name of the program
pub refusal_text-after_program : (r : Refusal) → refusal_text r ≡ program_name ++ after_program (refusal_text r)
refusal_text-after_program (CannotOpen input) = refl
refusal_text-after_program (CannotRead input) = refl
refusal_text-after_program (TooLong input) = refl
refusal_text-after_program (BadBinding fault) = binding_fault_text-after_program fault.line fault.kind
refusal_text-after_program (BadDump fault) = refl
refusal_text-after_program (BadListing fault) = listing_fault_text-after_program fault
refusal_text-after_program TooManyBlocks = refl
refusal_text-after_program Memory = refl

-- the line of a refusal, without the name of the program, is the line of its text without that name
pub line_of-after_program : (r : Refusal) (text : List ℕ) → text ≡ line_of (refusal_text r)
    → take (length text - length program_name) (drop (length program_name) text)
    ≡ line_of (after_program (refusal_text r))
line_of-after_program r text is =
    take_all (length text - length program_name) (drop (length program_name) text)
    (omega (arith, length-drop (length program_name) text))
    ∙ ap (drop (length program_name)) (is ∙ ap line_of (refusal_text-after_program r))

-- a refusal other than that an input can't be opened or read has, after the name of a dump, its text without the name
-- of the program
pub refusal_after_name-other : (r : Refusal) → ((input : Input) → r ≡ CannotOpen input → ⊥)
    → ((input : Input) → r ≡ CannotRead input → ⊥)
    → refusal_after_name r ≡ after_program (refusal_text r)
refusal_after_name-other (CannotOpen input) opened read = absurd (opened input refl)
refusal_after_name-other (CannotRead input) opened read = absurd (read input refl)
refusal_after_name-other (TooLong input) opened read = refl
refusal_after_name-other (BadBinding fault) opened read = refl
refusal_after_name-other (BadDump fault) opened read = refl
refusal_after_name-other (BadListing fault) opened read = refl
refusal_after_name-other TooManyBlocks opened read = refl
refusal_after_name-other Memory opened read = refl
