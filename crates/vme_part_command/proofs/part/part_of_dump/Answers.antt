use Rattle.std.proofs.Common.{ap}
use Rattle.vme_stream.proofs.InputLemmas.{IsReading-unread}
use Rattle.vme_dump_input.specs.BufferedInputs.{InputSoFar}
use Rattle.vme_dump_input.proofs.BufferedLemmas.{IsReadTo-dump}
use Rattle.vme_part_command.proofs.FoundLemmas.{FindsOfDump-dump_refused}
use Rattle.vme_part_command.proofs.part.part_of_dump.Goals as goal

pub returns-in_default : goal.returns-in_default
returns-in_default g c =
    let dump = IsReading-unread (g.D.Source.reading c.args.dump.now) in
    (dump.0, dump.1, tt)

pub returns-in-Ok-read_definitions : goal.returns-in-Ok-read_definitions
returns-in-Ok-read_definitions g c =
    let old = g.D.Source.reading c.args.dump.now in
    let first = IsReadTo-dump old _ c.in-Ok.ensures in
    let limit = ap (λ (i : InputSoFar). i.limit) c.in-Ok.ensures in
    c.part_of_begun.ensures c.args.bound.now old (c.in-Ok-read_definitions.ensures.read old first limit)
    (c.in-Ok-read_definitions.ensures.limit limit)

pub returns : goal.returns
returns g c =
    let old = g.D.Source.reading c.args.dump.now in
    let first = IsReadTo-dump old _ c.in-Ok.ensures in
    let limit = ap (λ (i : InputSoFar). i.limit) c.in-Ok.ensures in
    FindsOfDump-dump_refused c.args.options c.args.bound.now old (g.D.Source.reading c.read_definitions.new.dump)
    c.in-Err.refusal (c.in-Err.ensures.read old first limit)
