use Rattle.std.proofs.Common.{ap}
use Rattle.std.specs.Prelude.{Err}
use Rattle.vme_stream.specs.declared.refusal.Refusal.TheVariants.{Memory}
use Rattle.vme_stream.proofs.InputLemmas.{IsReading-unread}
use Rattle.vme_dump_input.specs.BufferedInputs.{InputSoFar}
use Rattle.vme_confirm_command.proofs.FoundLemmas.{GivesConfirmation-no_dump}
use Rattle.vme_dump_input.proofs.BufferedLemmas.{IsReadTo-dump}
use Rattle.vme_confirm_command.proofs.confirm.comparison_bound.Goals as goal

pub returns-in_default : goal.returns-in_default
returns-in_default g c =
    let dump = IsReading-unread (g.D.Source.reading c.args.dump.now) in
    let listing = IsReading-unread (g.L.Source.reading c.args.listing) in
    (dump.0, listing.0, Err Memory, dump.1, listing.1, tt, tt)

pub returns-in-Ok-read_definitions : goal.returns-in-Ok-read_definitions
returns-in-Ok-read_definitions g c =
    let old = g.D.Source.reading c.args.dump.now in
    let first = IsReadTo-dump old _ c.in-Ok.ensures in
    let limit = ap (λ (i : InputSoFar). i.limit) c.in-Ok.ensures in
    c.compare_with_listing.ensures c.args.bound.now old (c.in-Ok-read_definitions.ensures.read old first limit)
    (c.in-Ok-read_definitions.ensures.limit limit)

pub returns : goal.returns
returns g c =
    let old = g.D.Source.reading c.args.dump.now in
    let first = IsReadTo-dump old _ c.in-Ok.ensures in
    let limit = ap (λ (i : InputSoFar). i.limit) c.in-Ok.ensures in
    let (dump, reading, gives) = GivesConfirmation-no_dump c.args.skew c.args.bound.now old _ c.in-Err.refusal
    (c.in-Err.ensures.read old first limit) in
    let listing = IsReading-unread (g.L.Source.reading c.args.listing) in
    (dump, listing.0, Err Memory, reading, listing.1, tt, gives)
