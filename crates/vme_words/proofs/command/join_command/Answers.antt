use Rattle.std.specs.Prelude.{codes}
use Rattle.clap.specs.Words.{new_app}
use Rattle.vme_words.specs.Commands.{files_rule}
use Rattle.vme_words.proofs.command.join_command.Goals as goal

pub returns : goal.returns
returns c =
    c.with_arg.ensures (new_app (codes "join")) (files_rule (codes "PART")) c.new_command-command.ensures
    c.part_files.ensures.rule c.part_files.ensures.local
