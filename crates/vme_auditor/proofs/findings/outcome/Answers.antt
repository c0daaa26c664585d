-- The outcome by the findings is that of the definitions.
use Rattle.std.proofs.Common.{◌-◌, ◌^◌, ◌≤◌, ◌∙◌, arith, None, Some}
use Rattle.vme_auditor.proofs.Outcomes.{outcome_by-broken, outcome_by-gap, outcome_by-unreadable, outcome_by-findings}
use Rattle.vme_auditor.proofs.findings.outcome.Goals as goal

pub returns-then-breaks-gt0-clause-defined : goal.returns-then-breaks-gt0-clause-defined
returns-then-breaks-gt0-clause-defined c =
    let f = c.args.findings.now in
    let fits : c.args.wanted ≤ 2 ^ 64 - 1 = omega (arith, c.ranges.wanted.fits) in
    λ allowances t found counted.
    outcome_by-broken f c.args.breaks c.args.wanted c.if-breaks-gt0.true
    ∙ outcome_by-findings f t found c.args.wanted fits c.args.breaks allowances counted

pub returns-then-breaks-gt0-2-clause-defined : goal.returns-then-breaks-gt0-2-clause-defined
returns-then-breaks-gt0-2-clause-defined c =
    let f = c.args.findings.now in
    let fits : c.args.wanted ≤ 2 ^ 64 - 1 = omega (arith, c.ranges.wanted.fits) in
    λ allowances t found counted.
    outcome_by-unreadable f c.args.breaks c.args.wanted c.if-breaks-gt0.false c.if-breaks-gt0-2.true
    ∙ outcome_by-findings f t found c.args.wanted fits c.args.breaks allowances counted

pub returns-in-Some-clause-defined : goal.returns-in-Some-clause-defined
returns-in-Some-clause-defined c =
    let f = c.args.findings.now in
    let fits : c.args.wanted ≤ 2 ^ 64 - 1 = omega (arith, c.ranges.wanted.fits) in
    λ allowances t found counted.
    outcome_by-gap f c.args.breaks c.args.wanted c.if-breaks-gt0.false c.if-breaks-gt0-2.false (Some c.in-Some.gap)
    c.in-Some.ensures
    ∙ outcome_by-findings f t found c.args.wanted fits c.args.breaks allowances counted

pub returns-in-None-clause-defined : goal.returns-in-None-clause-defined
returns-in-None-clause-defined c =
    let f = c.args.findings.now in
    let fits : c.args.wanted ≤ 2 ^ 64 - 1 = omega (arith, c.ranges.wanted.fits) in
    λ allowances t found counted.
    outcome_by-gap f c.args.breaks c.args.wanted c.if-breaks-gt0.false c.if-breaks-gt0-2.false None c.in-None.ensures
    ∙ outcome_by-findings f t found c.args.wanted fits c.args.breaks allowances counted
