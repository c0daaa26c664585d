use Rattle.vme_words.specs.Commands.{app_through_audit, faults_app, rules_app, variables_app}
use Rattle.vme_words.proofs.command.commands_through_variables.Goals as goal

pub returns : goal.returns
returns c =
    let rules = c.with_task-command.ensures app_through_audit rules_app
    c.commands_through_audit.ensures c.rules_command.ensures in
    let faults = c.with_task-command-2.ensures _ faults_app rules c.faults_command.ensures in
    c.with_task.ensures _ variables_app faults c.variables_command.ensures
