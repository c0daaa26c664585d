use Rattle.std.proofs.Common.{◌<◌, arith, rules, sym}
use Rattle.std.proofs.lemmas.Bool.Decides.{nat_tests}
use Rattle.vme_bind.proofs.EndLemmas.{ended-none, step_between-none_differs}
use Rattle.vme_bind.proofs.recorder.Recorder.is_untouched.Goals as goal

pub returns-clause-shown : goal.returns-clause-shown
returns-clause-shown c = λ is.
    let inside = c.self.inside in
    let none : inside.last < inside.first = grind (arith, nat_tests) in
    ended-none c.args.self.now inside.shown inside.now inside.first inside.last (search rules) c.self.invariant none

pub returns-clause-none : goal.returns-clause-none
returns-clause-none c = λ is time.
    let inside = c.self.inside in
    let none : inside.last < inside.first = grind (arith, nat_tests) in
    sym (step_between-none_differs time c.args.self.now inside.shown inside.now inside.first inside.last
    (search rules) c.self.invariant none)
