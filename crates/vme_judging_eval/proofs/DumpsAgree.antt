-- Each recording of `dumps` has, by the definitions, the verdict and the rows that stand beside it: computed.
use Rattle.std.proofs.Common.{refl}
use Rattle.std.proofs.lemmas.List.Elements.{All-from_recursion}
use Rattle.std.specs.Prelude.{All}
use Rattle.vme_eval.specs.Recording.{Agrees}
use Rattle.vme_eval.specs.Dumps.{dumps, dumped_read, dumped_nothing, dumped_stray_answer, dumped_unknown_strobe}
use Rattle.vme_eval.specs.Dumps.{dumped_gap, strobe_lost_at_once, answer_low_before_judging}
use Rattle.vme_eval.specs.Dumps.{address_lost_between_cycles, earlier_break_of_a_later_rule}
use Rattle.vme_eval.proofs.Everything.{everything, rows}
use Rattle.vme_eval.proofs.Facts.{◌&◌}

pub dumped_read_agrees : Agrees dumped_read
unfolding everything rows dumped_read
dumped_read_agrees = record { well_formed = refl; verdict = refl; rows = refl }

pub dumped_nothing_agrees : Agrees dumped_nothing
unfolding everything rows dumped_nothing
dumped_nothing_agrees = record { well_formed = refl; verdict = refl; rows = refl }

pub dumped_stray_answer_agrees : Agrees dumped_stray_answer
unfolding everything rows dumped_stray_answer
dumped_stray_answer_agrees = record { well_formed = refl; verdict = refl; rows = refl }

pub dumped_unknown_strobe_agrees : Agrees dumped_unknown_strobe
unfolding everything rows dumped_unknown_strobe
dumped_unknown_strobe_agrees = record { well_formed = refl; verdict = refl; rows = refl }

pub dumped_gap_agrees : Agrees dumped_gap
unfolding everything rows dumped_gap
dumped_gap_agrees = record { well_formed = refl; verdict = refl; rows = refl }

pub strobe_lost_at_once_agrees : Agrees strobe_lost_at_once
unfolding everything rows strobe_lost_at_once
strobe_lost_at_once_agrees = record { well_formed = refl; verdict = refl; rows = refl }

pub answer_low_before_judging_agrees : Agrees answer_low_before_judging
unfolding everything rows answer_low_before_judging
answer_low_before_judging_agrees = record { well_formed = refl; verdict = refl; rows = refl }

pub address_lost_between_cycles_agrees : Agrees address_lost_between_cycles
unfolding everything rows address_lost_between_cycles
address_lost_between_cycles_agrees = record { well_formed = refl; verdict = refl; rows = refl }

pub earlier_break_of_a_later_rule_agrees : Agrees earlier_break_of_a_later_rule
unfolding everything rows earlier_break_of_a_later_rule
earlier_break_of_a_later_rule_agrees = record { well_formed = refl; verdict = refl; rows = refl }

pub dumps_agree : All Agrees dumps
dumps_agree = All-from_recursion Agrees dumps
    (dumped_read_agrees & dumped_nothing_agrees & dumped_stray_answer_agrees & dumped_unknown_strobe_agrees
    & dumped_gap_agrees & strobe_lost_at_once_agrees & answer_low_before_judging_agrees
    & address_lost_between_cycles_agrees & earlier_break_of_a_later_rule_agrees & tt)
