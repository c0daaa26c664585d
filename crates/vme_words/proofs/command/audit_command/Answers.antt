use Rattle.std.specs.Prelude.{codes}
use Rattle.clap.specs.Words.{new_app}
use Rattle.vme_words.specs.Commands.{allow_rule, file_rule, files_rule, flag_rule, skew_rule, stop_rule}
use Rattle.vme_words.specs.Commands.{transfers_rule, word_rule, workers_rule}
use Rattle.vme_words.proofs.command.audit_command.Goals as goal

pub returns : goal.returns
returns c =
    let transfers = c.with_arg-command.ensures (new_app (codes "audit")) transfers_rule
    c.new_command-command.ensures c.transfers_option.ensures.rule c.transfers_option.ensures.local in
    let allow = c.with_arg-command-2.ensures _ allow_rule transfers
    c.allow_option.ensures.rule c.allow_option.ensures.local in
    let stop = c.with_arg-command-3.ensures _ stop_rule allow c.stop_option.ensures.rule c.stop_option.ensures.local in
    let skew = c.with_arg-command-4.ensures _ skew_rule stop c.skew_option.ensures.rule c.skew_option.ensures.local in
    let workers = c.with_arg-command-5.ensures _ workers_rule skew
    c.workers_option.ensures.rule c.workers_option.ensures.local in
    let quiet = c.with_arg-command-6.ensures _ (flag_rule (codes "quiet")) workers
    c.flag.ensures.rule c.flag.ensures.local in
    let junit = c.with_arg-command-7.ensures _ (word_rule (codes "junit")) quiet
    c.word_option.ensures.rule c.word_option.ensures.local in
    let binding = c.with_arg-command-8.ensures _ (file_rule (codes "BINDING")) junit
    c.binding_file.ensures.rule c.binding_file.ensures.local in
    c.with_arg.ensures _ (files_rule (codes "DUMP")) binding c.dump_files.ensures.rule c.dump_files.ensures.local
