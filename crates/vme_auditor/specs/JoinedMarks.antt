-- The marks that the monitors of all rules show from step to step. Three of the five show marks: `known` where judging
-- starts and where a reset ends it, `grant` those of tenures, and `handshake` those of cycles and transfers.
use Rattle.std.specs.Prelude.{List, [], ◌∷◌, ◌++◌, map}
use Rattle.vme_trace.specs.Levels.{Levels}
use Rattle.vme_trace.specs.Trace.{changed}
use Rattle.vme_trace.specs.declared.step.Change.{Change}
use Rattle.vme_trace.specs.declared.step.Step.{Step}
use Rattle.vme_monitor.specs.Outcome.{shifted_mark}
use Rattle.vme_monitor.specs.Run.{kinds_of, mark_at}
use Rattle.vme_monitor.specs.declared.mark.Mark.{Mark}
use Rattle.vme_monitor.specs.declared.mark.MarkKind.{MarkKind}
use Rattle.vme_summary.specs.Runs.{grant_at, handshake_at, known_at}
use Rattle.vme_auditor.specs.Memories.{memories_next}
use Rattle.vme_auditor.specs.declared.memories.Memories.{Memories}

-- the kinds of the marks of a step between the levels `before` and `after`, where the monitors have the memories m, in
-- this order
abbrev pub kinds_shown : Memories → Levels → Levels → List Change → List MarkKind
kinds_shown m before after changes =
    kinds_of (known_at m.known before after changes).shown
    ++ (kinds_of (grant_at m.grant before after changes).shown
    ++ kinds_of (handshake_at m.handshake before after changes).shown)

-- the marks of the steps x after the levels o, where the monitors start from the memories m; 1 is the instant of the
-- first step
unfoldable pub joined_marks : Memories → Levels → List Step → List Mark
joined_marks m o [] = []
joined_marks m o (s ∷ x) =
    let after = changed o s.changes in
    map (mark_at 1) (kinds_shown m o after s.changes)
    ++ map (shifted_mark 1) (joined_marks (memories_next m o after s.changes) after x)
