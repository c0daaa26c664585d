-- The first time is read, and then the definitions are taken.
use Rattle.std.proofs.Common.{List, ℕ, ap, arith, length, length-append, subst, sym, ◌∙◌}
use Rattle.vme_dump_input.specs.BufferedInputs.{InputSoFar, IsReadOn}
use Rattle.vme_part_command.specs.FileReadings.{IsAtFile}
use Rattle.vme_part_command.proofs.FileLemmas.{IsAtFile-after_definitions}
use Rattle.vme_part_command.proofs.FoundLemmas.{FindsOfDump-dump_refused}
use Rattle.vme_part_command.proofs.file_body.part_after_definitions.Goals as goal

pub take_first-requires : goal.take_first-requires
take_first-requires g c =
    let on : IsReadOn c.args.input.now c.read_first_time.new.input = c.in-Ok.ensures.on in
    omega (arith, c.requires.held, ap (λ (l : List ℕ). length l) on.held, length-append c.args.input.now.held on.more)

pub returns-in-Ok : goal.returns-in-Ok
returns-in-Ok g c binding old at limit =
    let number = c.args.options.number in
    let start = c.in-Ok.first_time in
    let now = g.D.Source.reading c.read_first_time.new.dump in
    let input = c.read_first_time.new.input in
    let (read, starts) = c.in-Ok.ensures.told old at.read limit in
    c.part_of_body.ensures binding old
    (subst (λ (i : InputSoFar). IsAtFile binding number start old now i c.args.reader) (sym c.take_first.ensures)
    (IsAtFile-after_definitions binding number start old (g.D.Source.reading c.args.dump.now) now c.args.input.now input
    c.args.reader
    c.args.count at c.in-Ok.ensures.on read starts))
    (ap (λ (i : InputSoFar). i.limit) c.take_first.ensures ∙ c.read_first_time.ensures.limit ∙ limit)

pub returns-in-Err : goal.returns-in-Err
returns-in-Err g c binding old at limit =
    FindsOfDump-dump_refused c.args.options binding old (g.D.Source.reading c.read_first_time.new.dump) c.in-Err.refusal
    (c.in-Err.ensures.told old at.read limit)
