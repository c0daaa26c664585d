use Rattle.std.specs.Prelude.{codes}
use Rattle.clap.specs.Words.{new_app}
use Rattle.vme_words.specs.Commands.{file_rule, slots_rule, word_rule}
use Rattle.vme_words.proofs.command.bind_command.Goals as goal

pub returns : goal.returns
returns c =
    let slots = c.with_arg-command.ensures (new_app (codes "bind")) slots_rule
    c.new_command-command.ensures c.slots_option.ensures.rule c.slots_option.ensures.local in
    let scope = c.with_arg-command-2.ensures _ (word_rule (codes "scope")) slots
    c.word_option.ensures.rule c.word_option.ensures.local in
    c.with_arg.ensures _ (file_rule (codes "DUMP")) scope c.dump_file.ensures.rule c.dump_file.ensures.local
