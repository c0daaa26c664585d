use Rattle.vme_skew_tests.proofs.tests.passed_on.Given as goal

abbrev pub ghosts-passed_on_by : goal.ghosts-passed_on_by
ghosts-passed_on_by a = record { skew = a.skew }
