use Rattle.std.proofs.Common.{◌≡◌, rules}
use Rattle.clap.specs.Words.{app_of, with_subcommand}
use Rattle.vme_words.specs.Commands.{annotate_app, app_through_variables, bind_app, explain_app, join_app, part_app}
use Rattle.vme_words.specs.Commands.{tell_app}
use Rattle.vme_words.proofs.command.vmecheck_command.Goals as goal

pub returns : goal.returns
returns c =
    let bind = c.with_task-command.ensures app_through_variables bind_app c.commands_through_variables.ensures
    c.bind_command.ensures in
    let explain = c.with_task-command-2.ensures _ explain_app bind c.explain_command.ensures in
    let annotate = c.with_task-command-3.ensures _ annotate_app explain c.annotate_command.ensures in
    let part = c.with_task-command-4.ensures _ part_app annotate c.part_command.ensures in
    let join = c.with_task-command-5.ensures _ join_app part c.join_command.ensures in
    let tell = c.in_ok-command.ensures _ tell_app join c.tell_command.ensures in
    let made : app_of c.in_ok-command.command
    ≡ with_subcommand (with_subcommand (with_subcommand (with_subcommand (with_subcommand (with_subcommand
    app_through_variables bind_app.top) explain_app.top) annotate_app.top) part_app.top) join_app.top) tell_app.top
    = tell.0 in
    search (rules, made)
