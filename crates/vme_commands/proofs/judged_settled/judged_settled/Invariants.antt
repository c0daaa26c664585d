-- The type that stands for the skew in the call has the given skew.
use Rattle.vme_commands.proofs.judged_settled.judged_settled.Given as goal

abbrev pub ghosts-judged_by_skew : goal.ghosts-judged_by_skew
ghosts-judged_by_skew g a = record { skew = a.skew }
