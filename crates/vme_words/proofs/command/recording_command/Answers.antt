use Rattle.std.specs.Prelude.{codes}
use Rattle.clap.specs.Words.{new_app}
use Rattle.vme_words.specs.Commands.{block_rule, file_rule, skew_rule, workers_rule}
use Rattle.vme_words.proofs.command.recording_command.Goals as goal

pub returns : goal.returns
returns c =
    let block = c.with_arg-command.ensures (new_app c.args.name.now) block_rule
    c.new_command-command.ensures c.block_option.ensures.rule c.block_option.ensures.local in
    let workers = c.with_arg-command-2.ensures _ workers_rule block
    c.workers_option.ensures.rule c.workers_option.ensures.local in
    let skew = c.with_arg-command-3.ensures _ skew_rule workers
    c.skew_option.ensures.rule c.skew_option.ensures.local in
    let binding = c.with_arg-command-4.ensures _ (file_rule (codes "BINDING")) skew
    c.binding_file.ensures.rule c.binding_file.ensures.local in
    c.with_arg.ensures _ (file_rule (codes "DUMP")) binding c.dump_file.ensures.rule c.dump_file.ensures.local
