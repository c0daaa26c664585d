use Rattle.std.proofs.Common.{List, ℕ, map}
use Rattle.vme_trace.specs.Streams.{Reading, Writing}
use Rattle.vme_part_format.specs.Tables.{part_value}
use Rattle.vme_part_command.specs.Inputs.{IsJoinOf}
use Rattle.vme_part_command.specs.Written.{written_part}
use Rattle.vme_part_command.proofs.EndLemmas.{DoesOfParts-not_joined, DoesOfParts-written}
use Rattle.vme_part_command.proofs.join.write_joined.Goals as goal

pub returns-in-Ok : goal.returns-in-Ok
returns-in-Ok g c =
    let old : List Reading = map (λ i. g.P.Source.reading i.part) c.args.inputs.now in
    let new : List Reading = map (λ i. g.P.Source.reading i.part) c.joined.new.inputs in
    let names : List (List ℕ) = map (λ i. i.name.now) c.args.inputs.now in
    let err : Writing × Writing = (g.E.Sink.writing c.args.err.now, g.E.Sink.writing c.put_part.new.err) in
    record {
      answer = DoesOfParts-written (IsJoinOf old new) written_part names (old, new) err c.put_part.result
          (part_value c.in-Ok.part)
          (g.O.Sink.writing c.args.out.now, g.O.Sink.writing c.put_part.new.out) c.in-Ok.ensures.joined
          c.put_part.ensures;
    }

pub returns-in-Err : goal.returns-in-Err
returns-in-Err g c =
    let old : List Reading = map (λ i. g.P.Source.reading i.part) c.args.inputs.now in
    let new : List Reading = map (λ i. g.P.Source.reading i.part) c.joined.new.inputs in
    let names : List (List ℕ) = map (λ i. i.name.now) c.args.inputs.now in
    let err : Writing × Writing = (g.E.Sink.writing c.args.err.now, g.E.Sink.writing c.refuse_joined.new.err) in
    record {
      answer = DoesOfParts-not_joined (IsJoinOf old new) written_part names (old, new) err c.refuse_joined.result
          c.in-Err.why
          (g.O.Sink.writing c.args.out.now) c.in-Err.ensures.unjoined (rw c.joined.ensures.names at
          c.refuse_joined.ensures);
    }
