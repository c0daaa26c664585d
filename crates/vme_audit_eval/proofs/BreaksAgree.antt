-- The audit of each recording of `several_breaks` has, by the definitions, the results that stand beside it: computed.
-- The lemma `NAME_agrees` says so of the recording NAME.
use Rattle.std.proofs.Common.{refl}
use Rattle.std.proofs.lemmas.List.Elements.{All-from_recursion}
use Rattle.std.specs.Prelude.{All}
use Rattle.vme_eval.proofs.Everything.{everything, rows}
use Rattle.vme_eval.proofs.Facts.{◌&◌}
use Rattle.vme_audit_eval.proofs.Computing.{audits, computed}
use Rattle.vme_audit_eval.specs.Audited.{AuditAgrees}
use Rattle.vme_audit_eval.specs.Breaks.{two_stray_answers, one_of_two_allowed, both_allowed_by_line}
use Rattle.vme_audit_eval.specs.Breaks.{both_allowed_by_rule, another_rule_allowed, stray_answer_before_an_idle_instant}
use Rattle.vme_audit_eval.specs.Breaks.{break_at_an_idle_instant, break_at_the_next_instant, two_breaks_at_one_instant}
use Rattle.vme_audit_eval.specs.Breaks.{break_after_a_lost_strobe, lost_strobe_alone, nothing_judged_while_lost}
use Rattle.vme_audit_eval.specs.Breaks.{resets_between, break_in_the_last_step, idle_break_in_the_last_step}
use Rattle.vme_audit_eval.specs.Breaks.{cycle_cut_off_at_its_start, several_breaks}

pub two_stray_answers_agrees : AuditAgrees two_stray_answers
unfolding everything rows audits two_stray_answers
two_stray_answers_agrees = computed two_stray_answers refl refl refl refl refl

pub one_of_two_allowed_agrees : AuditAgrees one_of_two_allowed
unfolding everything rows audits one_of_two_allowed two_stray_answers
one_of_two_allowed_agrees = computed one_of_two_allowed refl refl refl refl refl

pub both_allowed_by_line_agrees : AuditAgrees both_allowed_by_line
unfolding everything rows audits both_allowed_by_line two_stray_answers
both_allowed_by_line_agrees = computed both_allowed_by_line refl refl refl refl refl

pub both_allowed_by_rule_agrees : AuditAgrees both_allowed_by_rule
unfolding everything rows audits both_allowed_by_rule two_stray_answers
both_allowed_by_rule_agrees = computed both_allowed_by_rule refl refl refl refl refl

pub another_rule_allowed_agrees : AuditAgrees another_rule_allowed
unfolding everything rows audits another_rule_allowed two_stray_answers
another_rule_allowed_agrees = computed another_rule_allowed refl refl refl refl refl

pub stray_answer_before_an_idle_instant_agrees : AuditAgrees stray_answer_before_an_idle_instant
unfolding everything rows audits stray_answer_before_an_idle_instant
stray_answer_before_an_idle_instant_agrees = computed stray_answer_before_an_idle_instant refl refl refl refl refl

pub break_at_an_idle_instant_agrees : AuditAgrees break_at_an_idle_instant
unfolding everything rows audits break_at_an_idle_instant
break_at_an_idle_instant_agrees = computed break_at_an_idle_instant refl refl refl refl refl

pub break_at_the_next_instant_agrees : AuditAgrees break_at_the_next_instant
unfolding everything rows audits break_at_the_next_instant
break_at_the_next_instant_agrees = computed break_at_the_next_instant refl refl refl refl refl

pub two_breaks_at_one_instant_agrees : AuditAgrees two_breaks_at_one_instant
unfolding everything rows audits two_breaks_at_one_instant
two_breaks_at_one_instant_agrees = computed two_breaks_at_one_instant refl refl refl refl refl

pub break_after_a_lost_strobe_agrees : AuditAgrees break_after_a_lost_strobe
unfolding everything rows audits break_after_a_lost_strobe
break_after_a_lost_strobe_agrees = computed break_after_a_lost_strobe refl refl refl refl refl

pub lost_strobe_alone_agrees : AuditAgrees lost_strobe_alone
unfolding everything rows audits lost_strobe_alone break_after_a_lost_strobe
lost_strobe_alone_agrees = computed lost_strobe_alone refl refl refl refl refl

pub nothing_judged_while_lost_agrees : AuditAgrees nothing_judged_while_lost
unfolding everything rows audits nothing_judged_while_lost
nothing_judged_while_lost_agrees = computed nothing_judged_while_lost refl refl refl refl refl

pub resets_between_agrees : AuditAgrees resets_between
unfolding everything rows audits resets_between
resets_between_agrees = computed resets_between refl refl refl refl refl

pub break_in_the_last_step_agrees : AuditAgrees break_in_the_last_step
unfolding everything rows audits break_in_the_last_step
break_in_the_last_step_agrees = computed break_in_the_last_step refl refl refl refl refl

pub idle_break_in_the_last_step_agrees : AuditAgrees idle_break_in_the_last_step
unfolding everything rows audits idle_break_in_the_last_step
idle_break_in_the_last_step_agrees = computed idle_break_in_the_last_step refl refl refl refl refl

pub cycle_cut_off_at_its_start_agrees : AuditAgrees cycle_cut_off_at_its_start
unfolding everything rows audits cycle_cut_off_at_its_start
cycle_cut_off_at_its_start_agrees = computed cycle_cut_off_at_its_start refl refl refl refl refl

-- each recording of `several_breaks` is well formed, and its audit has the starts, breaks, counts and outcome that
-- stand beside it
pub several_breaks_agree : All AuditAgrees several_breaks
several_breaks_agree = All-from_recursion AuditAgrees several_breaks
    (two_stray_answers_agrees & one_of_two_allowed_agrees & both_allowed_by_line_agrees & both_allowed_by_rule_agrees
    & another_rule_allowed_agrees & stray_answer_before_an_idle_instant_agrees & break_at_an_idle_instant_agrees
    & break_at_the_next_instant_agrees & two_breaks_at_one_instant_agrees & break_after_a_lost_strobe_agrees
    & lost_strobe_alone_agrees & nothing_judged_while_lost_agrees & resets_between_agrees
    & break_in_the_last_step_agrees & idle_break_in_the_last_step_agrees & cycle_cut_off_at_its_start_agrees & tt)
