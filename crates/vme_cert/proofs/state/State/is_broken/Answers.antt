-- Whether G5, B1 or S2 is broken on a line, as the state answers it, is what the definitions say.
use Rattle.std.proofs.Common.{◌≡◌, ℕ, ◌+◌, ◌∙◌, ap, not, subst, sym, true}
use Rattle.std.specs.Prelude.{is_some}
use Rattle.vme_cert.specs.Vocabulary.{BR, Rule, grant_falls, is_broken, last_before, low, none}
use Rattle.vme_cert.specs.RulesByLine.{may_be_broken_on}
use Rattle.vme_cert.proofs.Fields as arms
use Rattle.vme_cert.proofs.Instant.{tenure_level-near_grant}
use Rattle.vme_cert.proofs.Fields.{directs-by_fields, any_since-step}
use Rattle.vme_cert.proofs.state.State.is_broken.Goals as goal

-- a rule that may be broken on a line may be, if it is named otherwise
may_be_broken_on-same : {q r : Rule} (l : ℕ) → q ≡ r → may_be_broken_on q l ≡ true → may_be_broken_on r l ≡ true
may_be_broken_on-same l e h = subst (λ (r : Rule). may_be_broken_on r l ≡ true) e h

pub returns-in-G5 : goal.returns-in-G5
unfolding is_broken
returns-in-G5 c t stretch h =
    let j = c.args.bus.now.instant in
    let level = c.level_of-level.result in
    rw c.in-G5.is (arms.and-three_parts (may_be_broken_on-same c.args.line c.in-G5.is c.requires.its_line)
    c.is_first-in-G5.ensures
    (c.falls-in-G5.ensures t h.at)
    (ap not (arms.or-two_parts (c.was_requested.ensures ∙ h.holds.requested level c.level_of-level.ensures.below)
    (c.requests.ensures t h.at) ∙ sym (any_since-step t stretch (grant_falls t) (low t (BR level)) j h.judged))
    ∙ ap (λ n. none (low t (BR n)) (last_before t stretch (grant_falls t) j) (j + 1)) c.level_of-level.ensures.level))

pub returns-in-B1 : goal.returns-in-B1
unfolding is_broken
returns-in-B1 c t stretch h =
    rw c.in-B1.is (arms.and-two_parts (may_be_broken_on-same c.args.line c.in-B1.is c.requires.its_line)
    (c.falls-in-B1.ensures t h.at)
    (arms.not-swapped _ _ c.is_none.ensures ∙ (ap (λ o. not (is_some o)) (c.tenure_level.ensures.level t h.at)
    ∙ ap not (tenure_level-near_grant t c.args.bus.now.instant))))

pub returns-in-S2 : goal.returns-in-S2
unfolding is_broken
returns-in-S2 c t stretch h =
    let j = c.args.bus.now.instant in
    let transfer = c.args.self.now.transfer in
    rw c.in-S2.is (arms.and-two_parts (may_be_broken_on-same c.args.line c.in-S2.is c.requires.its_line)
    (c.has_edge-in-S2.ensures t h.at)
    (directs-by_fields t stretch h.is j h.judged transfer h.holds.transfer c.rose_by.result
    (λ w. c.rose_by.ensures t stretch h.at h.judged w)))
