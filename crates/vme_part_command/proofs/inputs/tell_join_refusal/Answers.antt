use Rattle.std.proofs.Common.{List, ℕ, inl, map, subst, sym}
use Rattle.std.specs.Prelude.{codes}
use Rattle.vme_trace.specs.Streams.{Writing}
use Rattle.vme_parts.specs.declared.join_refusal.JoinRefusal.{JoinRefusal}
use Rattle.vme_part_command.specs.PartAnswers.{ComplainsUnlessMemory, no_join_answer}
use Rattle.vme_part_command.specs.Lines.{part_text, refusing_text}
use Rattle.vme_part_command.specs.declared.inputs.NoJoin.TheVariants as none
use Rattle.vme_part_command.proofs.EndLemmas.{Complains-refusing}
use Rattle.vme_part_command.proofs.inputs.tell_join_refusal.Goals as goal

pub returns-in-Memory : goal.returns-in-Memory
returns-in-Memory g c =
    let names : List (List ℕ) = map (λ i. i.name.now) c.args.inputs.now in
    let told = c.no_memory in
    let err : Writing × Writing = (g.E.Sink.writing c.args.err.now, g.E.Sink.writing told.new.err) in
    subst (λ (w : JoinRefusal). ComplainsUnlessMemory (no_join_answer names (none.Refused w c.args.has_marks)) err
    told.result) (sym c.in-Memory.is) (inl told.ensures)

pub returns-in-Backplane : goal.returns-in-Backplane
returns-in-Backplane g c =
    let names : List (List ℕ) = map (λ i. i.name.now) c.args.inputs.now in
    let told = c.tell_input in
    let err : Writing × Writing = (g.E.Sink.writing c.args.err.now, g.E.Sink.writing told.new.err) in
    subst (λ (w : JoinRefusal). ComplainsUnlessMemory (no_join_answer names (none.Refused w c.args.has_marks)) err
    told.result) (sym c.in-Backplane.is) (rw c.name_of.ensures at told.ensures)

pub returns-in-Marks : goal.returns-in-Marks
returns-in-Marks g c =
    let names : List (List ℕ) = map (λ i. i.name.now) c.args.inputs.now in
    let told = c.refuse_marks in
    let err : Writing × Writing = (g.E.Sink.writing c.args.err.now, g.E.Sink.writing told.new.err) in
    subst (λ (w : JoinRefusal). ComplainsUnlessMemory (no_join_answer names (none.Refused w c.args.has_marks)) err
    told.result) (sym c.in-Marks.is) (rw c.name_of-in-Marks.ensures at told.ensures)

pub returns-in-Differs : goal.returns-in-Differs
returns-in-Differs g c =
    let names : List (List ℕ) = map (λ i. i.name.now) c.args.inputs.now in
    let told = c.refuse in
    let err : Writing × Writing = (g.E.Sink.writing c.args.err.now, g.E.Sink.writing told.new.err) in
    subst (λ (w : JoinRefusal). ComplainsUnlessMemory (no_join_answer names (none.Refused w c.args.has_marks)) err
    told.result) (sym c.in-Differs.is) (inl (Complains-refusing (part_text c.in-Differs.number
    (codes " differs")) err told.result (rw c.part_line.ensures at told.ensures.told) told.ensures.status))

pub returns-in-TooManySteps : goal.returns-in-TooManySteps
returns-in-TooManySteps g c =
    let names : List (List ℕ) = map (λ i. i.name.now) c.args.inputs.now in
    let told = c.refuse-in-TooManySteps in
    let err : Writing × Writing = (g.E.Sink.writing c.args.err.now, g.E.Sink.writing told.new.err) in
    subst (λ (w : JoinRefusal). ComplainsUnlessMemory (no_join_answer names (none.Refused w c.args.has_marks)) err
    told.result) (sym c.in-TooManySteps.is)
    (inl (Complains-refusing (refusing_text (codes "too many steps")) err told.result
    (rw c.refusing_line.ensures at told.ensures.told) told.ensures.status))

pub returns-in-TooManyNodes : goal.returns-in-TooManyNodes
returns-in-TooManyNodes g c =
    let names : List (List ℕ) = map (λ i. i.name.now) c.args.inputs.now in
    let told = c.refuse-in-TooManyNodes in
    let err : Writing × Writing = (g.E.Sink.writing c.args.err.now, g.E.Sink.writing told.new.err) in
    subst (λ (w : JoinRefusal). ComplainsUnlessMemory (no_join_answer names (none.Refused w c.args.has_marks)) err
    told.result) (sym c.in-TooManyNodes.is)
    (inl (Complains-refusing (refusing_text (codes "too many marks")) err told.result
    (rw c.refusing_line-in-TooManyNodes.ensures at told.ensures.told) told.ensures.status))

pub returns-in-TooManySegments : goal.returns-in-TooManySegments
returns-in-TooManySegments g c =
    let names : List (List ℕ) = map (λ i. i.name.now) c.args.inputs.now in
    let told = c.refuse-in-TooManySegments in
    let err : Writing × Writing = (g.E.Sink.writing c.args.err.now, g.E.Sink.writing told.new.err) in
    subst (λ (w : JoinRefusal). ComplainsUnlessMemory (no_join_answer names (none.Refused w c.args.has_marks)) err
    told.result) (sym c.in-TooManySegments.is)
    (inl (Complains-refusing (refusing_text (codes "too many parts")) err told.result
    (rw c.refusing_line-in-TooManySegments.ensures at told.ensures.told) told.ensures.status))
