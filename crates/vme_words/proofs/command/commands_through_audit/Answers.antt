use Rattle.std.specs.Prelude.{codes}
use Rattle.clap.specs.Words.{new_app}
use Rattle.vme_words.specs.Commands.{audit_app, confirm_app, list_app, recording_app}
use Rattle.vme_words.proofs.command.commands_through_audit.Goals as goal

pub returns : goal.returns
returns c =
    let check = c.with_task-command.ensures (new_app (codes "vmecheck")) (recording_app (codes "check"))
    (c.new.ensures.app, c.new.ensures.local) c.check_command.ensures in
    let list = c.with_task-command-2.ensures _ list_app check c.list_command.ensures in
    let confirm = c.with_task-command-3.ensures _ confirm_app list c.confirm_command.ensures in
    c.with_task.ensures _ audit_app confirm c.audit_command.ensures
