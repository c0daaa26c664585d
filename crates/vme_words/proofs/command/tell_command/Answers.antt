use Rattle.std.specs.Prelude.{codes}
use Rattle.clap.specs.Words.{new_app}
use Rattle.vme_words.specs.Commands.{file_count_rule, files_rule, flag_rule}
use Rattle.vme_words.proofs.command.tell_command.Goals as goal

pub returns : goal.returns
returns c =
    let list = c.with_arg-command.ensures (new_app (codes "tell")) (flag_rule (codes "list"))
    c.new_command-command.ensures c.flag.ensures.rule c.flag.ensures.local in
    let files = c.with_arg-command-2.ensures _ file_count_rule list
    c.files_option.ensures.rule c.files_option.ensures.local in
    c.with_arg.ensures _ (files_rule (codes "PART")) files c.part_files.ensures.rule c.part_files.ensures.local
