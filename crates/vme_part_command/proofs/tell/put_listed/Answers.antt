use Rattle.std.proofs.Common.{subst, sym}
use Rattle.std.specs.Prelude.{codes}
use Rattle.vme_trace.specs.Streams.{Writing}
use Rattle.vme_stream.specs.Ends.{Ends}
use Rattle.vme_part_listing.specs.declared.answers.ListingAnswer.{ListingAnswer}
use Rattle.vme_part_command.specs.PartAnswers.{listed_answer}
use Rattle.vme_part_command.specs.Lines.{refusing_text, told_text}
use Rattle.vme_part_command.proofs.EndLemmas.{Ends-refusing}
use Rattle.vme_part_command.proofs.tell.put_listed.Goals as goal

pub returns-in-Refused : goal.returns-in-Refused
returns-in-Refused g c =
    let said = c.refuse in
    let out : Writing = g.O.Sink.writing c.args.out.now in
    let err : Writing × Writing = (g.E.Sink.writing c.args.err.now, g.E.Sink.writing said.new.err) in
    subst (λ (w : ListingAnswer). Ends (listed_answer w) (out, out) err said.result) (sym c.in-Refused.is)
    (Ends-refusing (told_text c.in-Refused.told) out err said.result (rw c.told_line.ensures at said.ensures.told)
    said.ensures.status)

pub returns-in-Unmarked : goal.returns-in-Unmarked
returns-in-Unmarked g c =
    let said = c.refuse-in-Unmarked in
    let out : Writing = g.O.Sink.writing c.args.out.now in
    let err : Writing × Writing = (g.E.Sink.writing c.args.err.now, g.E.Sink.writing said.new.err) in
    subst (λ (w : ListingAnswer). Ends (listed_answer w) (out, out) err said.result) (sym c.in-Unmarked.is)
    (Ends-refusing (refusing_text (codes "parts without marks")) out err said.result
    (rw c.refusing_line.ensures at said.ensures.told) said.ensures.status)

pub returns-in-TooLong : goal.returns-in-TooLong
returns-in-TooLong g c =
    let said = c.refuse-in-TooLong in
    let out : Writing = g.O.Sink.writing c.args.out.now in
    let err : Writing × Writing = (g.E.Sink.writing c.args.err.now, g.E.Sink.writing said.new.err) in
    subst (λ (w : ListingAnswer). Ends (listed_answer w) (out, out) err said.result) (sym c.in-TooLong.is)
    (Ends-refusing (refusing_text (codes "too many steps")) out err said.result
    (rw c.refusing_line-in-TooLong.ensures at said.ensures.told) said.ensures.status)
