use Rattle.vme_part_listing.proofs.LateMarks.{HasLateMark-acknowledge, HasLateMark-grant, HasLateMark-handshake}
use Rattle.vme_part_listing.proofs.LateMarks.{HasLateMark-known, HasLateMark-stability}
use Rattle.vme_part_listing.proofs.listing.MonitorRuns.together.Goals as goal

pub returns-in_default-clause-late : goal.returns-in_default-clause-late
returns-in_default-clause-late c = λ none. HasLateMark-known c.args.self (c.in_ok-known.ensures.late c.in_default.is)

pub returns-in_default-2-clause-late : goal.returns-in_default-2-clause-late
returns-in_default-2-clause-late c =
    λ none. HasLateMark-handshake c.args.self (c.in_ok-handshake.ensures.late c.in_default-2.is)

pub returns-in_default-3-clause-late : goal.returns-in_default-3-clause-late
returns-in_default-3-clause-late c =
    λ none. HasLateMark-stability c.args.self (c.in_ok-stability.ensures.late c.in_default-3.is)

pub returns-in_default-4-clause-late : goal.returns-in_default-4-clause-late
returns-in_default-4-clause-late c = λ none. HasLateMark-grant c.args.self
    (c.in_ok-grant.ensures.late c.in_default-4.is)

pub returns-in_default-5-clause-late : goal.returns-in_default-5-clause-late
returns-in_default-5-clause-late c =
    λ none. HasLateMark-acknowledge c.args.self (c.in_ok-acknowledge.ensures.late c.in_default-5.is)
