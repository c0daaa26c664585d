use Rattle.std.proofs.Common.{List, ℕ, inl, map, subst, sym}
use Rattle.vme_trace.specs.Streams.{Writing}
use Rattle.vme_part_command.specs.PartAnswers.{ComplainsUnlessMemory, no_join_answer}
use Rattle.vme_part_command.specs.declared.inputs.NoJoin.{NoJoin}
use Rattle.vme_part_command.proofs.inputs.refuse_joined.Goals as goal

pub returns-in-Memory : goal.returns-in-Memory
returns-in-Memory g c =
    let names : List (List ℕ) = map (λ i. i.name.now) c.args.inputs.now in
    let told = c.no_memory in
    let err : Writing × Writing = (g.E.Sink.writing c.args.err.now, g.E.Sink.writing told.new.err) in
    subst (λ (w : NoJoin). ComplainsUnlessMemory (no_join_answer names w) err told.result) (sym c.in-Memory.is)
    (inl told.ensures)

pub returns-in-Input : goal.returns-in-Input
returns-in-Input g c =
    let names : List (List ℕ) = map (λ i. i.name.now) c.args.inputs.now in
    let told = c.refuse_input in
    let err : Writing × Writing = (g.E.Sink.writing c.args.err.now, g.E.Sink.writing told.new.err) in
    subst (λ (w : NoJoin). ComplainsUnlessMemory (no_join_answer names w) err told.result) (sym c.in-Input.is)
    (rw c.name_of.ensures at told.ensures)
