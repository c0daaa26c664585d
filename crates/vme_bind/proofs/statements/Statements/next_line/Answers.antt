use Rattle.std.proofs.Common.{arith}
use Rattle.vme_bind.proofs.TextLemmas.{statements_from-at, statements_from-nowhere, count_by-feed_at}
use Rattle.vme_bind.proofs.TextLemmas.{count_by-feed_nowhere}
use Rattle.vme_bind.proofs.statements.Statements.next_line.Goals as goal

pub returns-in-Some-clause-left : goal.returns-in-Some-clause-left
returns-in-Some-clause-left c =
    statements_from-at c.args.self.now.line c.args.self.now.rest.now c.in-Some.feed c.without_return.result.now
    c.without_return.ensures c.in-Some.ensures.0 c.in-Some.ensures.1

pub returns-in-Some-clause-last : goal.returns-in-Some-clause-last
returns-in-Some-clause-last c =
    let more = count_by-feed_at c.args.self.now.rest.now c.in-Some.feed c.in-Some.ensures.0 c.in-Some.ensures.1 in
    omega (arith, more)

pub returns-in-None-clause-left : goal.returns-in-None-clause-left
returns-in-None-clause-left c = statements_from-nowhere c.args.self.now.line c.args.self.now.rest.now c.in-None.ensures

pub returns-in-None-clause-last : goal.returns-in-None-clause-last
returns-in-None-clause-last c =
    let more = count_by-feed_nowhere c.args.self.now.rest.now c.in-None.ensures in omega (arith, more)
