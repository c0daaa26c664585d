use Rattle.std.specs.Prelude.{codes}
use Rattle.vme_words.specs.Commands.{flag_rule, recording_app}
use Rattle.vme_words.proofs.command.list_command.Goals as goal

pub returns : goal.returns
returns c =
    c.with_arg.ensures (recording_app (codes "list")) (flag_rule (codes "times")) c.recording_command-command.ensures
    c.flag.ensures.rule c.flag.ensures.local
