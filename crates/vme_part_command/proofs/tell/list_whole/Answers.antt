use Rattle.std.proofs.Common.{List, ℕ, map}
use Rattle.vme_trace.specs.Streams.{Reading, Writing}
use Rattle.vme_part_format.specs.Tables.{part_value}
use Rattle.vme_part_command.specs.PartAnswers.{IsListedOf, listed_answer}
use Rattle.vme_part_command.proofs.EndLemmas.{ListsRecording-of_parts, DoesOfParts-not_joined}
use Rattle.vme_part_command.proofs.tell.list_whole.Goals as goal

pub returns-in-Ok : goal.returns-in-Ok
returns-in-Ok g c =
    let old : List Reading = map (λ i. g.P.Source.reading i.part) c.args.inputs.now in
    let new : List Reading = map (λ i. g.P.Source.reading i.part) c.joined.new.inputs in
    let names : List (List ℕ) = map (λ i. i.name.now) c.args.inputs.now in
    let err : Writing × Writing = (g.E.Sink.writing c.args.err.now, g.E.Sink.writing c.list_part.new.err) in
    record {
      answer = ListsRecording-of_parts names (old, new) c.args.files (part_value c.in-Ok.part)
          (g.O.Sink.writing c.args.out.now, g.O.Sink.writing c.list_part.new.out) err c.list_part.result
          c.in-Ok.ensures.joined c.list_part.ensures;
    }

pub returns-in-Err : goal.returns-in-Err
returns-in-Err g c =
    let old : List Reading = map (λ i. g.P.Source.reading i.part) c.args.inputs.now in
    let new : List Reading = map (λ i. g.P.Source.reading i.part) c.joined.new.inputs in
    let names : List (List ℕ) = map (λ i. i.name.now) c.args.inputs.now in
    let err : Writing × Writing = (g.E.Sink.writing c.args.err.now, g.E.Sink.writing c.refuse_joined.new.err) in
    record {
      answer = DoesOfParts-not_joined (IsListedOf (old, new) c.args.files) listed_answer names (old, new) err
          c.refuse_joined.result c.in-Err.why (g.O.Sink.writing c.args.out.now) c.in-Err.ensures.unjoined
          (rw c.joined.ensures.names at c.refuse_joined.ensures);
    }
