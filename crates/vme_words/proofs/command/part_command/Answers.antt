use Rattle.std.specs.Prelude.{codes}
use Rattle.clap.specs.Words.{new_app}
use Rattle.vme_words.specs.Commands.{file_number_rule, file_rule, flag_rule}
use Rattle.vme_words.proofs.command.part_command.Goals as goal

pub returns : goal.returns
returns c =
    let number = c.with_arg-command.ensures (new_app (codes "part")) file_number_rule
    c.new_command-command.ensures c.number_option.ensures.rule c.number_option.ensures.local in
    let marks = c.with_arg-command-2.ensures _ (flag_rule (codes "listing")) number
    c.flag.ensures.rule c.flag.ensures.local in
    let binding = c.with_arg-command-3.ensures _ (file_rule (codes "BINDING")) marks
    c.binding_file.ensures.rule c.binding_file.ensures.local in
    c.with_arg.ensures _ (file_rule (codes "DUMP")) binding c.dump_file.ensures.rule c.dump_file.ensures.local
