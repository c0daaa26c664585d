-- The text of `constant_text`, which binds each line of a backplane to a constant level, is a binding.
use Rattle.std.proofs.Common.{◌≡◌, ℕ, ◌≤◌, ◌<◌, Bool, true, false, not, ◌&&◌, ◌==◌, List, [], ◌∷◌, ◌++◌}
use Rattle.std.proofs.Common.{Option, Some, None, Result, Ok, Err, codes, cond, refl, ap, ◌∙◌, arith, append_assoc}
use Rattle.std.specs.Prelude.{bytes_eq, decimal, if◌then◌else◌, option_and_then}
use Rattle.std.specs.Fmt.{digits}
use Rattle.std.specs.List.{list_all, onto_first, slice_split}
use Rattle.std.proofs.lemmas.Bool.{and_parts, eqb-true, not-false, not-true}
use Rattle.vme_trace.specs.Instants.{any, every, least}
use Rattle.vme_trace.specs.LineNumbers.{AS, BBSY, BERR, DS0, DS1, DTACK, IACK, LWORD, WRITE}
use Rattle.vme_trace.specs.LineNumbers.{line_count}
use Rattle.vme_trace.specs.Names.{line_name, line_named}
use Rattle.vme_trace.proofs.NameLaws.{line_named-is}
use Rattle.vme_trace.proofs.Ranges.{any-fails}
use Rattle.vcd_read.specs.Header.{◌>>=◌}
use Rattle.vcd_read.proofs.ResultLemmas.{bind-same}
use Rattle.vme_bind.specs.Answers.{at_line}
use Rattle.vme_bind.specs.Binding.{BoundLines, binding_from, binding_of, bound, bound_all, finished, group_of}
use Rattle.vme_bind.specs.Binding.{name_and_source, no_assignments, once, slots_stated, with_assignment}
use Rattle.vme_bind.specs.Groups.{down_from, group_named, several_or, single}
use Rattle.vme_bind.specs.Text.{StatementText, statements_of, end_line, is_feed, statement_on, statements_from}
use Rattle.vme_bind.specs.Text.{without_return, words}
use Rattle.vme_bind.specs.declared.fault.BindFault.{BindFault}
use Rattle.vme_bind.specs.declared.fault.BindFaultKind.{BindFaultKind}
use Rattle.vme_bind.specs.declared.fault.BindFaultKind.TheVariants.{BadLine}
use Rattle.vme_bind.specs.declared.group.Group.{Group}
use Rattle.vme_find.specs.Constants.{BindsConstants, is_constant}

-- ---- the text

-- the first line of the text
abbrev pub first_line : ℕ → List ℕ
first_line slots = codes "slots " ++ decimal slots

-- the lines after the first
abbrev pub other_lines : List ℕ
other_lines =
    codes "AS = 1\nDS0 = 1\nDS1 = 1\nDTACK = 1\nBERR = 1\nIACK = 1\nLWORD = 1\nWRITE = 1\nBBSY = 0\n"
    ++ codes "AM = 1\nA = 1\nBR = 1\nBG0 = 1\nBG1 = 1\nBG2 = 1\nBG3 = 1\nIA = 1\n"

-- the text of a binding of `slots` slots: the first line, and after its line feed the other lines
abbrev pub whole_text : ℕ → List ℕ
whole_text slots = first_line slots ++ 10 ∷ other_lines

-- the two pieces that `constant_text` pushes after the first line make the text
pub pushed-is_whole_text : (slots : ℕ)
    → (first_line slots
    ++ codes "\nAS = 1\nDS0 = 1\nDS1 = 1\nDTACK = 1\nBERR = 1\nIACK = 1\nLWORD = 1\nWRITE = 1\n")
    ++ codes "BBSY = 0\nAM = 1\nA = 1\nBR = 1\nBG0 = 1\nBG1 = 1\nBG2 = 1\nBG3 = 1\nIA = 1\n" ≡ whole_text slots
pushed-is_whole_text slots = append_assoc (first_line slots)
    (codes "\nAS = 1\nDS0 = 1\nDS1 = 1\nDTACK = 1\nBERR = 1\nIACK = 1\nLWORD = 1\nWRITE = 1\n")
    (codes "BBSY = 0\nAM = 1\nA = 1\nBR = 1\nBG0 = 1\nBG1 = 1\nBG2 = 1\nBG3 = 1\nIA = 1\n")

-- a text whose first line is `xs` is split into `xs` and the lines after it
split_first : (xs ys : List ℕ) → list_all (λ b. not (is_feed b)) xs ≡ true → slice_split is_feed (xs ++ 10 ∷ ys)
    ≡ xs ∷ slice_split is_feed ys
split_first [] ys e = refl
split_first (x ∷ xs) ys e =
    let parts = and_parts (not (is_feed x)) (list_all (λ b. not (is_feed b)) xs) e in
    let rest = slice_split is_feed (xs ++ 10 ∷ ys) in
    ap (λ (b : Bool). cond b ([] ∷ rest) (onto_first x rest)) (not-true (is_feed x) parts.0)
    ∙ ap (onto_first x) (split_first xs ys parts.1)

-- ---- its first line

-- whether there is one statement, and it says that there are `slots` slots
says_slots : ℕ → List StatementText → Bool
says_slots slots [] = false
says_slots slots (s ∷ []) = elim (slots_stated s.first s.others) [
  | Ok count ↦ count == slots
  | Err kind ↦ false
]
says_slots slots (s ∷ t ∷ ss) = false

-- the statements of the first line: one, or none
abbrev first_statements : ℕ → List StatementText
first_statements slots = statement_on 1 (words (without_return (first_line slots)))

-- whether the first line has no line feed and states `slots` slots
abbrev first_line_says_slots : ℕ → Bool
first_line_says_slots slots = list_all (λ b. not (is_feed b)) (first_line slots)
    && says_slots slots (first_statements slots)

-- the first line states `slots` slots, for each number of them from 1 to 21
first_lines_say_slots : every first_line_says_slots 1 22 ≡ true
unfolding any digits says_slots
first_lines_say_slots = refl

-- what holds for each number from 1 to 21 holds for n
holds_up_to_21 : (p : ℕ → Bool) → every p 1 22 ≡ true → (n : ℕ) → 1 ≤ n → n ≤ 21 → p n ≡ true
holds_up_to_21 p all n low high = not-false (p n) (any-fails (λ k. not (p k)) 1 22 n (not-true _ all) low
    (omega (arith, high)))

-- `ss` is one statement, which states `slots` slots
abbrev IsSlotsStatement : ℕ → List StatementText → Type 0
IsSlotsStatement slots ss = (s : StatementText) × (ss ≡ s ∷ []) × (slots_stated s.first s.others ≡ Ok slots)

-- the count, as a result without a fault
abbrev ok_count : ℕ → Result ℕ BindFaultKind
ok_count n = Ok n

-- what the test `says_slots` means
says_slots-is : (slots : ℕ) (ss : List StatementText) → says_slots slots ss ≡ true → IsSlotsStatement slots ss
unfolding says_slots
says_slots-is slots [] e = cc
says_slots-is slots (s ∷ []) e = by_count (slots_stated s.first s.others) refl e
  where
    by_count : (r : Result ℕ BindFaultKind) → slots_stated s.first s.others ≡ r
        → elim r as (λ _. Bool) [ Ok count ↦ count == slots | Err kind ↦ false ] ≡ true
        → IsSlotsStatement slots (s ∷ [])
    by_count (Ok count) is same = (s, refl, is ∙ ap ok_count (eqb-true count slots same))
    by_count (Err kind) is same = cc
says_slots-is slots (s ∷ t ∷ ss) e = cc

-- ---- the other lines

-- the statements of the other lines, which are numbered from 2
abbrev other_statements : List StatementText
other_statements = statements_from 2 (slice_split is_feed other_lines)

-- the group of a name, among the names that the text has
abbrev group_by_table : ℕ → List ℕ → Option Group
group_by_table slots name =
    if bytes_eq name (codes "AS") then Some (down_from AS 1)
    else if bytes_eq name (codes "DS0") then Some (down_from DS0 1)
    else if bytes_eq name (codes "DS1") then Some (down_from DS1 1)
    else if bytes_eq name (codes "DTACK") then Some (down_from DTACK 1)
    else if bytes_eq name (codes "BERR") then Some (down_from BERR 1)
    else if bytes_eq name (codes "IACK") then Some (down_from IACK 1)
    else if bytes_eq name (codes "LWORD") then Some (down_from LWORD 1)
    else if bytes_eq name (codes "WRITE") then Some (down_from WRITE 1)
    else if bytes_eq name (codes "BBSY") then Some (down_from BBSY 1)
    else several_or slots name None

-- `bound`, by `group_by_table`
abbrev bound_by_table : BoundLines → StatementText → Result BoundLines BindFaultKind
bound_by_table b s = do
  words ← name_and_source s.first s.others
  group ← group_of (group_by_table b.slots words.0)
  new ← once b.assignments group
  Ok (with_assignment b s.line new words.1)

-- `bound_all`, by `group_by_table`
unfoldable bound_all_by_table : BoundLines → List StatementText → Result BoundLines BindFault
bound_all_by_table b [] = Ok b
bound_all_by_table b (s ∷ ss) = do
  next ← at_line s.line (bound_by_table b s)
  bound_all_by_table next ss

-- `group_by_table` gives the group of `name`
abbrev AgreesWithTable : List ℕ → Type 0
AgreesWithTable name = (slots : ℕ) → group_named slots name ≡ group_by_table slots name

-- `group_by_table` gives the group of the first word of each of these statements
AllAgreeWithTable : List StatementText → Type 0
AllAgreeWithTable [] = Unit {0}
AllAgreeWithTable (s ∷ ss) = AgreesWithTable s.first × AllAgreeWithTable ss

-- `b` with the lines of `group` assigned to `source` by the statement `s`, or why they can't be
abbrev with_group : BoundLines → StatementText → List ℕ → Option Group → Result BoundLines BindFaultKind
with_group b s source group = group_of group >>= λ group. once b.assignments group >>= λ new. Ok
    (with_assignment b s.line new source)

-- the name `first` and the source, if the word between them is an equals sign (`test`)
abbrev by_equals : List ℕ → List ℕ → Bool → Result (List ℕ × List ℕ) BindFaultKind
by_equals first source test = if test then Ok (first, source) else Err BadLine

-- `bound` and `bound_by_table` are the same at a statement on whose first word the table agrees
bound-is_by_table : (b : BoundLines) (s : StatementText) → AgreesWithTable s.first → bound b s ≡ bound_by_table b s
bound-is_by_table b s agrees = by_others s.others
  where
    by_test : (test : Bool) (source : List ℕ)
        → (by_equals s.first source test >>= λ words. with_group b s words.1 (group_named b.slots words.0))
        ≡ (by_equals s.first source test >>= λ words. with_group b s words.1 (group_by_table b.slots words.0))
    by_test true source = ap (with_group b s source) (agrees b.slots)
    by_test false source = refl

    by_others : (others : List (List ℕ))
        → (name_and_source s.first others >>= λ words. with_group b s words.1 (group_named b.slots words.0))
        ≡ (name_and_source s.first others >>= λ words. with_group b s words.1 (group_by_table b.slots words.0))
    by_others [] = refl
    by_others (equals ∷ []) = refl
    by_others (equals ∷ source ∷ []) = by_test (bytes_eq equals (codes "=")) source
    by_others (equals ∷ source ∷ more ∷ others) = refl

-- `bound_all` and `bound_all_by_table` are the same at statements that all agree with the table
bound_all-is_by_table : (ss : List StatementText) (b : BoundLines) → AllAgreeWithTable ss → bound_all b ss
    ≡ bound_all_by_table b ss
unfolding bound_all bound_all_by_table AllAgreeWithTable
bound_all-is_by_table [] b agrees = refl
bound_all-is_by_table (s ∷ ss) b agrees =
    ap (λ (r : Result BoundLines BindFaultKind). at_line s.line r >>= λ next. bound_all next ss)
    (bound-is_by_table b s agrees.0)
    ∙ bind-same (at_line s.line (bound_by_table b s)) (λ next. bound_all next ss) (λ next. bound_all_by_table next ss)
    (λ next. bound_all-is_by_table ss next agrees.1)

-- the group of the name of the line `l` is that line alone
single-by_name : (l : ℕ) (name : List ℕ) (slots : ℕ) → l < line_count → line_name l ≡ name
    → option_and_then (single slots) (line_named name) ≡ single slots l
single-by_name l name slots below is = ap (option_and_then (single slots)) (line_named-is l name below is)

-- the table has the right group of each name in the other lines
other_statements-agree : AllAgreeWithTable other_statements
unfolding AllAgreeWithTable statements_from digits
other_statements-agree = (
  λ slots. single-by_name AS (codes "AS") slots (omega arith) refl,
  (
    λ slots. single-by_name DS0 (codes "DS0") slots (omega arith) refl,
    (
      λ slots. single-by_name DS1 (codes "DS1") slots (omega arith) refl,
      (
        λ slots. single-by_name DTACK (codes "DTACK") slots (omega arith) refl,
        (
          λ slots. single-by_name BERR (codes "BERR") slots (omega arith) refl,
          (
            λ slots. single-by_name IACK (codes "IACK") slots (omega arith) refl,
            (
              λ slots. single-by_name LWORD (codes "LWORD") slots (omega arith) refl,
              (
                λ slots. single-by_name WRITE (codes "WRITE") slots (omega arith) refl,
                (
                  λ slots. single-by_name BBSY (codes "BBSY") slots (omega arith) refl,
                  (
                    λ slots. refl,
                    (
                      λ slots. refl,
                      (
                        λ slots. refl,
                        (
                          λ slots. refl,
                          (
                            λ slots. refl,
                            (
                              λ slots. refl,
                              (
                                λ slots. refl,
                                (
                                  λ slots. refl,
                                  tt,
                                ),
                              ),
                            ),
                          ),
                        ),
                      ),
                    ),
                  ),
                ),
              ),
            ),
          ),
        ),
      ),
    ),
  ),
)

-- ---- the whole

-- whether the result is a binding of `slots` slots to constants alone
gives_constants : ℕ → Result BoundLines BindFault → Bool
gives_constants slots (Ok b) = (b.slots == slots) && list_all is_constant b.assignments
gives_constants slots (Err fault) = false

-- the result is a binding of `slots` slots to constants alone
abbrev GivesConstants : ℕ → Result BoundLines BindFault → Type 0
GivesConstants slots r = (b : BoundLines) × (r ≡ Ok b) × (b.slots ≡ slots) × (list_all is_constant b.assignments ≡ true)

-- what the test `gives_constants` means
gives_constants-is : (slots : ℕ) (r : Result BoundLines BindFault) → gives_constants slots r ≡ true
    → GivesConstants slots r
unfolding gives_constants
gives_constants-is slots (Ok b) e =
    let parts = and_parts (b.slots == slots) (list_all is_constant b.assignments) e in
    (b, refl, eqb-true b.slots slots parts.0, parts.1)
gives_constants-is slots (Err fault) e = cc

-- the binding that the other lines make for `slots` slots, computed by the table
abbrev bound_by_other_lines : ℕ → ℕ → Result BoundLines BindFault
bound_by_other_lines line slots = bound_all_by_table (no_assignments slots) other_statements >>= finished line

-- the lines after the first bind all lines of the backplane to constants, for each number of slots from 1 to 21
other_lines_give_constants : (line : ℕ) → every (λ slots. gives_constants slots (bound_by_other_lines line slots)) 1 22
    ≡ true
unfolding any least bound_all_by_table statements_from gives_constants
other_lines_give_constants line = refl

-- the statements of the text are that of its first line, `s`, and those of the other lines
statements_of-whole_text : (slots : ℕ) (s : StatementText) → list_all (λ b. not (is_feed b)) (first_line slots) ≡ true
    → first_statements slots
    ≡ s ∷ [] → statements_of (whole_text slots) ≡ s ∷ other_statements
unfolding statements_from
statements_of-whole_text slots s plain is =
    ap (statements_from 1) (split_first (first_line slots) other_lines plain)
    ∙ ap (λ (ss : List StatementText). ss ++ other_statements) is

-- after a statement `s` of `slots` slots the other lines make the binding `bound_by_other_lines`
binding_from-statements : (slots line : ℕ) (s : StatementText) → slots_stated s.first s.others ≡ Ok slots
    → binding_from line (s ∷ other_statements) ≡ bound_by_other_lines line slots
binding_from-statements slots line s is =
    ap (λ (r : Result ℕ BindFaultKind). at_line s.line r >>= λ count. bound_all (no_assignments count) other_statements
    >>= finished line) is
    ∙ ap (λ (r : Result BoundLines BindFault). r >>= finished line)
    (bound_all-is_by_table other_statements (no_assignments slots)
    other_statements-agree)

-- for 1 to 21 slots the text is a binding of that many slots to constants alone
pub binds-constants : (slots : ℕ) → 1 ≤ slots → slots ≤ 21 → BindsConstants slots (whole_text slots)
unfolding binding_of
binds-constants slots low high =
    let good = and_parts (list_all (λ b. not (is_feed b)) (first_line slots))
    (says_slots slots (first_statements slots))
    (holds_up_to_21 first_line_says_slots first_lines_say_slots slots low high) in
    let (s, alone, says) = says_slots-is slots (first_statements slots) good.1 in
    let line = end_line (whole_text slots) in
    let (b, is, same, constant) = gives_constants-is slots (bound_by_other_lines line slots)
    (holds_up_to_21 (λ n. gives_constants n (bound_by_other_lines line n)) (other_lines_give_constants line) slots low
    high) in (
      b,
      ap (binding_from line) (statements_of-whole_text slots s good.0 alone) ∙ binding_from-statements slots line s says
          ∙ is,
      same,
      constant,
    )
