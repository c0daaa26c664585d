use Rattle.vme_monitor.proofs.OuterMachine.{first_break_over, marks_over_stretches, has_started-whole}
use Rattle.vme_monitor.proofs.OuterMachine.{memory_of_stretch}
use Rattle.vme_monitor.proofs.over_stretches.rules_over_recordings.Goals as goal

pub returns-clause-first_break : goal.returns-clause-first_break
returns-clause-first_break g c = λ t rules ok few owed. first_break_over g.R.Rules.begin g.R.Rules.start_marks
    g.R.Rules.reset_marks g.R.Rules.end_fault g.R.Rules.observation g.R.Rules.next t few ok rules owed

pub returns-clause-marks : goal.returns-clause-marks
returns-clause-marks g c = λ t shown ok few owed. marks_over_stretches g.R.Rules.begin g.R.Rules.start_marks
    g.R.Rules.reset_marks g.R.Rules.end_fault g.R.Rules.observation g.R.Rules.next t few ok shown owed

pub returns-clause-started : goal.returns-clause-started
returns-clause-started g c = λ t ok few. has_started-whole g.R.Rules.begin g.R.Rules.start_marks g.R.Rules.reset_marks
    g.R.Rules.end_fault g.R.Rules.observation g.R.Rules.next t few ok

pub returns-clause-memory : goal.returns-clause-memory
returns-clause-memory g c = λ t stretch n ok few. memory_of_stretch g.R.Rules.begin g.R.Rules.start_marks
    g.R.Rules.reset_marks g.R.Rules.end_fault g.R.Rules.observation g.R.Rules.next t few ok stretch n
