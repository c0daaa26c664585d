-- The type that stands for the skew in the call has the given skew.
use Rattle.vme_text_commands.proofs.explain.account_of_dump.Given as goal

abbrev pub ghosts-settled_account : goal.ghosts-settled_account
ghosts-settled_account g a = record { skew = a.skew }
