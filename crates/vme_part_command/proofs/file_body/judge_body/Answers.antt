-- The steps of each piece are judged.
use Rattle.std.proofs.Common.{ℕ, List, ap, refl, subst, sym, ◌∙◌}
use Rattle.vme_dump_input.specs.BufferedInputs.{FailsAs}
use Rattle.vme_dump_input.proofs.DumpRefusals.{IsDumpRefused-fails}
use Rattle.vme_part_command.specs.Backplane.{backplane_of}
use Rattle.vme_part_command.specs.FileReadings.{IsAtFileEnd}
use Rattle.vme_part_command.proofs.FileLemmas.{IsAtFileEnd-of_file, IsAtFile-grown}
use Rattle.vme_part_command.proofs.FoundLemmas.{FindsOfDump-dump_refused}
use Rattle.vme_part_command.proofs.file_body.judge_body.Goals as goal

pub loop-reader-init : goal.loop-reader-init
loop-reader-init g c = record {
  at = λ binding number start old at. at;
  judges = λ number listing start h. h;
  opening = refl;
  limit = refl;
}

pub judge_piece-requires : goal.judge_piece-requires
judge_piece-requires g c =
    let (number, listing, start, h) = c.requires in
    (number, listing, start, c.loop-reader.invariant.judges number listing start h)

pub loop-reader-preserved : goal.loop-reader-preserved
loop-reader-preserved g c =
    let inv = c.loop-reader.invariant in
    let now = g.D.Source.reading c.loop-reader.dump in
    let input = c.judge_piece.new.input in
    record {
      at = λ binding number start old at.
          let next = c.in-Ok.ensures.reads binding number start old now (inv.at binding number start old at) in
          IsAtFile-grown binding number start old now input c.in-Ok.made.0 next (g.D.Source.reading c.read.new.source)
          c.read.new.self (c.judge_piece.ensures.input.1 ∙ (sym c.is_whole.ensures ∙ c.loop-reader-test.true))
          c.in_default.ensures.grown (c.in_default.ensures.read old next.done next.read);
      judges = λ number listing start h. c.in-Ok.ensures.judges number listing start
          (inv.judges number listing start h);
      opening = c.in-Ok.ensures.opening ∙ inv.opening;
      limit = c.read.ensures.limit ∙ c.judge_piece.ensures.input.0 ∙ inv.limit;
    }

pub returns-in-Err : goal.returns-in-Err
returns-in-Err g c binding options start old h at limit same =
    let inv = c.loop-reader.invariant in
    FindsOfDump-dump_refused options binding old (g.D.Source.reading c.refused_in_body.new.dump)
    c.refused_in_body.result
    (c.refused_in_body.ensures old (c.judge_piece.ensures.input.0 ∙ inv.limit ∙ limit)
    (c.in-Err.ensures.reads binding options.number start old (g.D.Source.reading c.loop-reader.dump)
    (inv.at binding options.number start old at)))

pub returns-in-Err-read : goal.returns-in-Err-read
returns-in-Err-read g c binding options start old h at limit same =
    let inv = c.loop-reader.invariant in
    let now = g.D.Source.reading c.read.new.source in
    let next = c.in-Ok.ensures.reads binding options.number start old (g.D.Source.reading c.loop-reader.dump)
    (inv.at binding options.number start old at) in
    FindsOfDump-dump_refused options binding old now c.unread.result
    (rw c.unread.ensures (IsDumpRefused-fails old now c.in-Err-read.fault
    (subst (λ n. FailsAs n old now c.in-Err-read.fault)
    (c.judge_piece.ensures.input.0 ∙ inv.limit ∙ limit)
    (c.in-Err-read.ensures.fails old next.done next.read))))

pub judge_last-requires : goal.judge_last-requires
judge_last-requires g c =
    let (number, listing, start, h) = c.requires in
    (number, listing, start, c.loop-reader.invariant.judges number listing start h)

pub returns : goal.returns
returns g c binding options start old h at limit same =
    let inv = c.loop-reader.invariant in
    let now = g.D.Source.reading c.loop-reader.dump in
    c.judge_last.ensures binding options start old now
    (inv.judges options.number options.listing start h)
    (subst (λ (l : List ℕ). IsAtFileEnd binding options.number start old now l c.loop-reader.reader)
    (sym c.bytes.ensures.held)
    (IsAtFileEnd-of_file binding options.number start old now c.loop-reader.input c.loop-reader.reader
    (inv.at binding options.number start old at) (sym c.is_whole.ensures ∙ c.loop-reader-test.false)
    (inv.limit ∙ limit))) (same ∙ ap backplane_of (sym inv.opening))
