use Rattle.std.proofs.Common.{List, ℕ, map}
use Rattle.vme_trace.specs.Streams.{Reading, Writing}
use Rattle.vme_part_format.specs.Tables.{part_value}
use Rattle.vme_part_command.specs.PartAnswers.{IsToldOf, told_answer}
use Rattle.vme_part_command.proofs.EndLemmas.{DoesOfParts-found, DoesOfParts-not_joined}
use Rattle.vme_part_command.proofs.tell.tell_whole.Goals as goal

pub returns-in-Ok : goal.returns-in-Ok
returns-in-Ok g c =
    let old : List Reading = map (λ i. g.P.Source.reading i.part) c.args.inputs.now in
    let new : List Reading = map (λ i. g.P.Source.reading i.part) c.joined.new.inputs in
    let names : List (List ℕ) = map (λ i. i.name.now) c.args.inputs.now in
    let err : Writing × Writing = (g.E.Sink.writing c.args.err.now, g.E.Sink.writing c.tell.new.err) in
    record {
      answer = DoesOfParts-found (IsToldOf (old, new) c.args.files) told_answer names
          (old, new) err c.tell.result c.tell_verdict.result
          (g.O.Sink.writing c.args.out.now, g.O.Sink.writing c.tell.new.out)
          (record {
            part = part_value c.in-Ok.part;
            join = c.in-Ok.ensures.joined;
            tells = c.tell_verdict.ensures;
          })
          c.tell.ensures;
    }

pub returns-in-Err : goal.returns-in-Err
returns-in-Err g c =
    let old : List Reading = map (λ i. g.P.Source.reading i.part) c.args.inputs.now in
    let new : List Reading = map (λ i. g.P.Source.reading i.part) c.joined.new.inputs in
    let names : List (List ℕ) = map (λ i. i.name.now) c.args.inputs.now in
    let err : Writing × Writing = (g.E.Sink.writing c.args.err.now, g.E.Sink.writing c.refuse_joined.new.err) in
    record {
      answer = DoesOfParts-not_joined (IsToldOf (old, new) c.args.files) told_answer names
          (old, new) err c.refuse_joined.result c.in-Err.why
          (g.O.Sink.writing c.args.out.now) c.in-Err.ensures.unjoined (rw c.joined.ensures.names at
          c.refuse_joined.ensures);
    }
