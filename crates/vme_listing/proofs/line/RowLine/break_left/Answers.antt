-- The break that is read from what is left of a line: the name of a rule, an instant and a line, with spaces between.
use Rattle.std.proofs.Common.{◌≡◌, ℕ, ◌-◌, ◌≤◌, true, List, drop, length, take, sym, ap, ◌∙◌, arith, rules}
use Rattle.std.specs.Prelude.{None, Some, codes, nat_le, if◌then◌else◌}
use Rattle.std.proofs.lemmas.Bool.Decides.{nat_tests}
use Rattle.std.proofs.lemmas.List.{take_rest}
use Rattle.vme_trace.specs.Names.{line_named, rule_named}
use Rattle.vme_trace.specs.declared.rule.Rule.{Rule}
use Rattle.vme_listing.specs.declared.row.ListedVerdict.{ListedVerdict}
use Rattle.vme_listing.specs.declared.row.ListedVerdict.TheVariants.{Broken, Unreadable}
use Rattle.vme_listing.specs.Lines.{Rest, break_by, break_in, line_in, named_break, number_at, past, past_number}
use Rattle.vme_listing.proofs.line.RowLine.break_left.Goals as goal

-- the test whether a text has two bytes holds if it has
nat_le-two : (text : List ℕ) → 2 ≤ length text → nat_le 2 (length text) ≡ true
nat_le-two text h = grind (arith, nat_tests)

-- if the pieces of the text `left` are read one after the other, they make the break that `break_in` reads there
break_in-pieces : (kind : Rule → ℕ → ℕ → ListedVerdict) (left : Rest) (text rest last : List ℕ) (r : Rule)
    (instant line : ℕ)
    (first second third : Rest) → left ≡ Some text → 2 ≤ length text → Some r ≡ rule_named (take 2 text)
    → rest ≡ drop 2 text → first ≡ past (codes " ") (Some rest) → instant ≡ number_at first
    → second ≡ past_number first → third ≡ past (codes " ") second → third ≡ Some last → Some line ≡ line_named last
    → Some (kind r instant line) ≡ break_in kind left
break_in-pieces kind left text rest last r instant line first second third a b c d e f g h i j =
    sym (ap (break_in kind) a
    ∙ ap (λ b. if b then break_by kind (rule_named (take 2 text)) (Some (drop 2 text)) else None) (nat_le-two text b)
    ∙ ap (λ o. break_by kind o (Some (drop 2 text))) (sym c)
    ∙ ap (λ l. break_by kind (Some r) (Some l)) (sym d)
    ∙ ap (λ p. named_break kind r (number_at p) (line_in (past (codes " ") (past_number p)))) (sym e)
    ∙ ap (λ n. named_break kind r n (line_in (past (codes " ") (past_number first)))) (sym f)
    ∙ ap (λ p. named_break kind r instant (line_in (past (codes " ") p))) (sym g)
    ∙ ap (λ p. named_break kind r instant (line_in p)) (sym h ∙ i)
    ∙ ap (λ o. named_break kind r instant o) (sym j))

pub returns-clause-broken : goal.returns-clause-broken
returns-clause-broken c =
    let text = c.in_ok-text.text.now in
    break_in-pieces Broken c.args.self.now text (take (length text - 2) (drop 2 text)) c.in_ok-self.field-0.now
    c.in_ok-rule.rule
    c.number-instant.result c.in_ok-named.named c.word.new.self c.number-instant.new.self c.word-2.new.self
    (search rules) (omega arith) c.in_ok-rule.ensures.rule (take_rest text 2) c.word.ensures
    c.number-instant.ensures.number c.number-instant.ensures.left c.word-2.ensures (search rules)
    c.in_ok-named.ensures.line

pub returns-clause-unreadable : goal.returns-clause-unreadable
returns-clause-unreadable c =
    let text = c.in_ok-text.text.now in
    break_in-pieces Unreadable c.args.self.now text (take (length text - 2) (drop 2 text)) c.in_ok-self.field-0.now
    c.in_ok-rule.rule c.number-instant.result c.in_ok-named.named c.word.new.self c.number-instant.new.self
    c.word-2.new.self (search rules) (omega arith) c.in_ok-rule.ensures.rule (take_rest text 2) c.word.ensures
    c.number-instant.ensures.number c.number-instant.ensures.left c.word-2.ensures (search rules)
    c.in_ok-named.ensures.line
