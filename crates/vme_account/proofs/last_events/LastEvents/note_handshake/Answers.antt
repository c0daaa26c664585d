use Rattle.vme_account.proofs.LastLemmas.{handshake_after-nothing}
use Rattle.vme_account.proofs.last_events.LastEvents.note_handshake.Goals as goal

pub returns-else-answers_by_dtack : goal.returns-else-answers_by_dtack
returns-else-answers_by_dtack c = handshake_after-nothing c.args.starts c.args.answers c.args.begins
    c.args.answers_by_dtack c.args.moment
    c.args.self.now c.if-starts.false c.if-answers.false c.if-begins.false c.if-answers_by_dtack.false
