use Rattle.std.specs.Prelude.{codes}
use Rattle.clap.specs.Words.{new_app}
use Rattle.vme_words.specs.Commands.{file_rule, skew_rule, word_rule}
use Rattle.vme_words.proofs.command.explain_command.Goals as goal

pub returns : goal.returns
returns c =
    let viewer = c.with_arg-command.ensures (new_app (codes "explain")) (word_rule (codes "gtkw"))
    c.new_command-command.ensures c.word_option.ensures.rule c.word_option.ensures.local in
    let picture = c.with_arg-command-2.ensures _ (word_rule (codes "svg")) viewer
    c.word_option-2.ensures.rule c.word_option-2.ensures.local in
    let skew = c.with_arg-command-3.ensures _ skew_rule picture c.skew_option.ensures.rule c.skew_option.ensures.local
    in
    let binding = c.with_arg-command-4.ensures _ (file_rule (codes "BINDING")) skew
    c.binding_file.ensures.rule c.binding_file.ensures.local in
    c.with_arg.ensures _ (file_rule (codes "DUMP")) binding c.dump_file.ensures.rule c.dump_file.ensures.local
