use Rattle.vme_annotate.proofs.listed.listed_in.Given as goal

abbrev pub ghosts-listed_by_skew : goal.ghosts-listed_by_skew
ghosts-listed_by_skew a = record { skew = a.skew }
