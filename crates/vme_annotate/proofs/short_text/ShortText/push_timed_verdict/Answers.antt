use Rattle.std.proofs.Common.{◌++◌, List, ℕ, sym, ap, ◌∙◌}
use Rattle.std.specs.Prelude.{codes}
use Rattle.vme_listing.specs.declared.row.Row.TheVariants.{Verdict}
use Rattle.vme_annotate.specs.TimedRows.{timed_row}
use Rattle.vme_annotate.proofs.short_text.ShortText.push_timed_verdict.Goals as goal

pub returns-in-Conforming-clause-text : goal.returns-in-Conforming-clause-text
unfolding timed_row
returns-in-Conforming-clause-text c =
    c.push.ensures.text
    ∙ ap (λ (text : List ℕ). text ++ codes "verdict conforming") c.requires
    ∙ ap (λ outcome. timed_row c.args.listing.now.times (Verdict outcome)) (sym c.in-Conforming.is)

pub returns-in-NeverIdle-clause-text : goal.returns-in-NeverIdle-clause-text
unfolding timed_row
returns-in-NeverIdle-clause-text c =
    c.push-in-NeverIdle.ensures.text
    ∙ ap (λ (text : List ℕ). text ++ codes "verdict never-idle") c.requires
    ∙ ap (λ outcome. timed_row c.args.listing.now.times (Verdict outcome)) (sym c.in-NeverIdle.is)

pub returns-in-Broken-clause-text : goal.returns-in-Broken-clause-text
unfolding timed_row
returns-in-Broken-clause-text c =
    c.push_timed_break.ensures.text
    ∙ ap (λ outcome. timed_row c.args.listing.now.times (Verdict outcome)) (sym c.in-Broken.is)

pub returns-in-Unreadable-clause-text : goal.returns-in-Unreadable-clause-text
unfolding timed_row
returns-in-Unreadable-clause-text c =
    c.push_timed_break-in-Unreadable.ensures.text
    ∙ ap (λ outcome. timed_row c.args.listing.now.times (Verdict outcome)) (sym c.in-Unreadable.is)
