use Rattle.std.proofs.Common.{rules}
use Rattle.vme_bind.proofs.EndLemmas.{first-alone, first-exists}
use Rattle.vme_bind.proofs.recorder.Recorder.lone_line.Goals as goal

pub returns-then-number-clause-exists : goal.returns-then-number-clause-exists
returns-then-number-clause-exists c =
    let inside = c.self.inside in
    first-exists c.args.self.now inside.shown inside.now inside.first inside.last (search rules) c.self.invariant

pub returns-then-number-clause-alone : goal.returns-then-number-clause-alone
returns-then-number-clause-alone c =
    let inside = c.self.inside in
    first-alone c.args.self.now inside.shown inside.now inside.first inside.last (search rules) c.self.invariant
    (search rules)
