-- The lines that an audit writes, in ASCII except for the names of dumps.
use Rattle.std.specs.Prelude.{ℕ, ◌+◌, ◌==◌, not, List, [], ◌∷◌, ◌++◌, codes, decimal, drop, length}
use Rattle.std.specs.Prelude.{filter, flat_map, map, nat_lt, ◌||◌, if◌then◌else◌}
use Rattle.vme_trace.specs.Rules.{all_rules, is_unreadable, rule_name}
use Rattle.vme_trace.specs.declared.rule.Rule.{Rule}
use Rattle.vme_trace.specs.declared.verdict.Break.{Break}
use Rattle.vme_stream.specs.Texts.{break_text, line_of, refusal_text}
use Rattle.vme_stream.specs.declared.refusal.Input.{Input}
use Rattle.vme_stream.specs.declared.refusal.Input.TheVariants.{Binding, Dump, Listing}
use Rattle.vme_stream.specs.declared.refusal.Refusal.{Refusal}
use Rattle.vme_stream.specs.declared.refusal.Refusal.TheVariants.{CannotOpen, CannotRead}
use Rattle.vme_audit.specs.Allowances.{is_allowed}
use Rattle.vme_audit.specs.declared.allowance.Allowance.{Allowance}
use Rattle.vme_audit.specs.declared.counts.Counts.{Counts}
use Rattle.vme_audit.specs.declared.outcome.CoverageGap.{CoverageGap}
use Rattle.vme_audit.specs.declared.outcome.CoverageGap.TheVariants.{NeverIdle, NeverIdleBehind, FewAnswers, Hang}
use Rattle.vme_audit.specs.declared.outcome.Outcome.{Outcome}
use Rattle.vme_audit.specs.declared.outcome.Outcome.TheVariants.{Conforming, NotCovered}
use Rattle.vme_audit.specs.declared.outcome.Outcome.TheVariants as outcome
use Rattle.vme_auditor.specs.Events.{asks_by}
use Rattle.vme_auditor.specs.declared.asked.AskedEvents.{AskedEvents}
use Rattle.vme_auditor.specs.declared.findings.AuditFindings.{AuditFindings}
use Rattle.vme_auditor.specs.declared.findings.BreakCounts.{BreakCounts}
use Rattle.vme_audit_lines.specs.declared.category.BreakCategory.{BreakCategory}
use Rattle.vme_audit_lines.specs.declared.category.BreakCategory.TheVariants as category

-- ---- the name of a dump

-- a byte as it is shown: a question mark for one that a line of text can't have
abbrev pub shown : ℕ → ℕ
shown byte = if nat_lt byte 32 || (byte == 127) then 63 else byte

-- the beginning of each line about a dump
abbrev pub head_of : List ℕ → List ℕ
head_of name = map shown name ++ codes ": "

-- ---- breaks

-- how a break counts with these allowances
abbrev pub category_of : List Allowance → Break → BreakCategory
category_of allowances b =
    if is_allowed allowances b then category.Allowed
    else if is_unreadable b.rule then category.Unreadable
    else category.Broken

-- the first word of the line of a break, with a space after it
abbrev pub category_name : BreakCategory → List ℕ
category_name category.Broken = codes "broken "
category_name category.Unreadable = codes "unreadable "
category_name category.Allowed = codes "allowed "

-- the text of a break that counts so
abbrev pub audit_break_text : BreakCategory → Break → List ℕ
audit_break_text s b = break_text (category_name s) b

-- ---- counts

-- the numbers of breaks
abbrev pub break_counts_text : BreakCounts → List ℕ
break_counts_text c =
    decimal c.broken ++ codes " broken, " ++ decimal c.unreadable ++ codes " unreadable, " ++ decimal c.allowed
    ++ codes " allowed"

-- the numbers of resets, tenures and cycles
abbrev pub cycle_counts_text : Counts → List ℕ
cycle_counts_text c =
    decimal c.resets ++ codes " resets, " ++ decimal c.tenures ++ codes " tenures, "
    ++ decimal (c.single + c.block + c.free + c.acknowledge) ++ codes " cycles (" ++ decimal c.single
    ++ codes " single, " ++ decimal c.block ++ codes " block, " ++ decimal c.free ++ codes " free, "
    ++ decimal c.acknowledge ++ codes " acknowledge)"

-- the numbers of transfers
abbrev pub transfer_counts_text : Counts → List ℕ
transfer_counts_text c =
    decimal (c.reads + c.writes) ++ codes " transfers (" ++ decimal c.reads ++ codes " read, " ++ decimal c.writes
    ++ codes " write; " ++ decimal c.by_dtack ++ codes " by DTACK, " ++ decimal c.by_berr ++ codes " by BERR, "
    ++ decimal c.pending ++ codes " pending)"

-- the rules among `rules` whose event didn't happen
unfoldable pub unasked_among : AskedEvents → List Rule → List Rule
unasked_among e rules = filter (λ r. not (asks_by e r)) rules

-- the rules among all rules whose event didn't happen, in their order
abbrev pub unasked : AskedEvents → List Rule
unasked e = unasked_among e all_rules

-- the name of a rule after a space
abbrev pub spaced_name : Rule → List ℕ
spaced_name r = 32 ∷ rule_name r

-- the name of a rule after a space if its event didn't happen, else nothing
abbrev pub name_unless_asked : AskedEvents → Rule → List ℕ
name_unless_asked e r = if asks_by e r then [] else spaced_name r

-- the names of some rules, each after a space
unfoldable pub names_text : List Rule → List ℕ
names_text rules = flat_map spaced_name rules

-- the line that names the rules that are never asked, if there are any
abbrev pub unasked_line : List ℕ → List Rule → List ℕ
unasked_line head [] = []
unasked_line head (r ∷ rs) = head ++ line_of (codes "never asked:" ++ names_text (r ∷ rs))

-- the lines with the counts, and the one that names the rules that are never asked, if there are any; each begins with
-- `head`
abbrev pub count_lines : List ℕ → BreakCounts → AuditFindings → List ℕ
count_lines head breaks f =
    head ++ line_of (break_counts_text breaks) ++ head ++ line_of (cycle_counts_text f.counts)
    ++ head ++ line_of (transfer_counts_text f.counts) ++ unasked_line head (unasked f.events)

-- ---- outcomes

-- why a recording isn't covered
abbrev pub gap_text : CoverageGap → List ℕ
gap_text NeverIdle = codes "not covered: never idle"
gap_text (NeverIdleBehind instant) = codes "not covered: never idle behind instant " ++ decimal instant
gap_text (FewAnswers answered wanted) =
    codes "not covered: " ++ decimal answered ++ codes " of " ++ decimal wanted ++ codes " transfers answered"
gap_text (Hang instant time) =
    codes "not covered: transfer at instant " ++ decimal instant ++ codes " time " ++ decimal time
    ++ codes " without an answer"

-- the outcome of a conforming recording with this many allowed breaks
abbrev pub conforming_text : ℕ → List ℕ
conforming_text allowed =
    if allowed == 0 then codes "conforming" else codes "conforming with " ++ decimal allowed ++ codes " allowed"

-- the text of an outcome
abbrev pub outcome_text : Outcome → List ℕ
outcome_text (Conforming allowed) = conforming_text allowed
outcome_text (NotCovered gap) = gap_text gap
outcome_text outcome.Broken = codes "broken"
outcome_text outcome.Unreadable = codes "unreadable"

-- the exit status of an outcome
abbrev pub outcome_status : Outcome → ℕ
outcome_status (Conforming n) = 0
outcome_status outcome.Broken = 1
outcome_status outcome.Unreadable = 2
outcome_status (NotCovered gap) = 6

-- ---- refusals

-- what can't be done with an input; after the name of a dump the word `dump` is left out
abbrev pub cannot_text : List ℕ → Input → List ℕ
cannot_text reason Binding = reason ++ codes " binding"
cannot_text reason Dump = reason
cannot_text reason Listing = reason ++ codes " listing"

-- why there is no outcome of a dump, after its name: what can't be done with an input, or else the text that a refusal
-- has after the name of the program
abbrev pub refusal_after_name : Refusal → List ℕ
refusal_after_name (CannotOpen input) = cannot_text (codes "cannot open") input
refusal_after_name (CannotRead input) = cannot_text (codes "cannot read") input
refusal_after_name refusal = drop (length (codes "vmecheck: ")) (refusal_text refusal)
