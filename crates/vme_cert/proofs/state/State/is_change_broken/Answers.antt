-- No rule is broken on the line of a change before the current one. If none is on the line of any change, none is on a
-- line that changes.
use Rattle.std.proofs.Common.{◌≡◌, ◌==◌, ℕ, ◌+◌, ◌∙◌, ◌⊎◌, ◌&&◌, arith, false, true, ap, refl, List, []}
use Rattle.std.proofs.Common.{◌∷◌, ◌++◌, inl, inr, not, subst, sym, take}
use Rattle.std.specs.Prelude.{nat_le}
use Rattle.std.specs.List.{list_all}
use Rattle.std.proofs.lemmas.List.{take_all, take_more}
use Rattle.std.proofs.lemmas.List.Folds.{list_all_at}
use Rattle.std.proofs.lemmas.Bool.{eqb-true, and_parts, or_cases}
use Rattle.std.proofs.Math.Bool.{or-true}
use Rattle.vme_trace.proofs.Ranges.{clash}
use Rattle.vme_cert.specs.Vocabulary.{Change, Levels, are_changes, has_line, is_broken, is_changed, level_at}
use Rattle.vme_cert.specs.Vocabulary.{same_level}
use Rattle.vme_cert.specs.RulesByLine.{may_be_broken_on}
use Rattle.vme_cert.proofs.Ranges.{by_either_value}
use Rattle.vme_cert.proofs.state.State.is_change_broken.Goals as goal

-- one more change adds only its own line to those that are changed
is_changed-push : (cs : List Change) (c : Change) (n : ℕ) → is_changed (cs ++ c ∷ []) n ≡ true
    → (is_changed cs n ≡ true) ⊎ (c.line ≡ n)
is_changed-push [] c n h = elim (or_cases (c.line == n) false h) [
  | inl here ↦ inr (eqb-true c.line n here)
  | inr none ↦ absurd (cc)
]
is_changed-push (d ∷ cs) c n h = elim (or_cases (d.line == n) (is_changed (cs ++ c ∷ []) n) h) [
  | inl first ↦ inl (rw first refl)
  | inr more ↦ elim (is_changed-push cs c n more) [
    | inl before ↦ inl (rw before (or-true (d.line == n)))
    | inr here ↦ inr here
  ]
]

-- the backplane has the lines that change
has_line-changes : (v : Levels) (lowest : ℕ) (cs : List Change) → are_changes v lowest cs ≡ true
    → list_all (λ (c : Change). has_line v.slots c.line) cs ≡ true
unfolding are_changes
has_line-changes v lowest [] h = refl
has_line-changes v lowest (d ∷ cs) h =
    let both = and_parts (nat_le lowest d.line && has_line v.slots d.line && not
    (same_level (level_at v d.line) d.level)) (are_changes v (d.line + 1) cs) h in
    let two = and_parts (nat_le lowest d.line && has_line v.slots d.line) _ both.0 in
    rw ((and_parts (nat_le lowest d.line) (has_line v.slots d.line) two.0).1, has_line-changes v (d.line + 1) cs both.1)
    refl

pub is_line_broken-requires : goal.is_line_broken-requires
is_line_broken-requires c =
    let bus = c.args.bus.now in
    let changes = c.args.changes.now in
    let change = c.change-item.result in
    let has = λ (d : Change). has_line bus.before.slots d.line in
    rw (← bus.same_slots) (by_either_value (has change) (λ e. e)
    (λ e. absurd (clash (list_all has changes) (has_line-changes bus.before 0 changes c.requires.sound)
    (list_all_at has changes c.loop-change.change-index change (omega arith) (ap has (sym c.change-item.is) ∙ e)))))

pub loop-change-init : goal.loop-change-init
loop-change-init c t stretch r n h changed its_line = absurd (cc)

pub loop-change-preserved : goal.loop-change-preserved
loop-change-preserved c t stretch r n h changed its_line =
    let changes = c.args.changes.now in
    let i = c.loop-change.change-index in
    let j = c.args.bus.now.instant in
    let change = c.change-item.result in
    let more = take_more changes i change (omega arith)
    ∙ ap (λ (d : Change). take i changes ++ d ∷ []) (sym c.change-item.is) in
    elim (is_changed-push (take i changes) change n
    (subst (λ (cs : List Change). is_changed cs n ≡ true) more changed)) [
      | inl before ↦ c.loop-change.invariant t stretch r n h before its_line
      | inr here ↦ subst (λ l. is_broken t stretch r j l ≡ false) here (c.is_line_broken.ensures t stretch r h
          c.if-is_line_broken.false (subst (λ l. may_be_broken_on r l ≡ true) (sym here) its_line))
    ]

pub returns : goal.returns
returns c t stretch r l h e changed its_line =
    let changes = c.args.changes.now in
    c.loop-change.invariant t stretch r l h (subst (λ (cs : List Change). is_changed cs l ≡ true)
    (sym (take_all c.loop-change.change-index changes (omega arith))) changed) its_line
