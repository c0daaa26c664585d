-- The steps of a piece are judged, or reading the body fails.
use Rattle.std.proofs.Common.{◌≡◌, ◌≤◌, ℕ, List, ◌++◌, Some, ap, length, subst, sym, take, ◌∙◌}
use Rattle.vcd_read.specs.declared.fault.VcdFault.{VcdFault}
use Rattle.vme_trace.specs.Followed.{with_steps}
use Rattle.vme_trace.specs.Trace.{Trace}
use Rattle.vme_trace.specs.WellFormed.{malformed_step}
use Rattle.vme_step_reader.specs.StepReading.{whole_reading}
use Rattle.vme_step_reader.specs.Stops.{StopsBehind}
use Rattle.vme_dump_input.specs.BufferedInputs.{InputSoFar}
use Rattle.vme_dump_input.specs.BodyPieces.{FailsPiece}
use Rattle.vme_dump_input.proofs.BodyLemmas.{HasFaultBefore-StopsAs, IsSound-next}
use Rattle.vme_dump_input.proofs.BufferedLemmas.{IsReading-some}
use Rattle.vme_part_command.specs.FileChecks.{HasTakenSteps}
use Rattle.vme_part_command.specs.FileReadings.{IsAtFile}
use Rattle.vme_part_command.proofs.FileLemmas.{IsAtBody-of_file, IsAtFile-piece_taken}
use Rattle.vme_part_command.proofs.file_body.judge_piece.Goals as goal

pub take-requires-in-Ok : goal.take-requires-in-Ok
take-requires-in-Ok c =
    let (number, listing, start, h) = c.requires in
    let made = c.in-Ok.ensures in
    (number, listing, start, c.args.reader.given, h.taken, ap malformed_step (sym made.given) ∙ made.formed)

pub returns-in-Ok-take-clause-reads : goal.returns-in-Ok-take-clause-reads
returns-in-Ok-take-clause-reads c binding number start old now at =
    let r = c.args.reader in
    let next = c.in-Ok.reader in
    let made = c.in-Ok.ensures in
    let n = c.in-Ok.count in
    let taken = subst (λ (l : List ℕ). (rest : List ℕ) → whole_reading r (take n l ++ rest) ≡ whole_reading next rest)
    c.bytes.ensures.held made.taken in
    let within = subst (λ (l : List ℕ). n ≤ length l) c.bytes.ensures.held made.within in
    subst (λ (i : InputSoFar). IsAtFile binding number start old now i next) (sym c.take_first.ensures)
    (IsAtFile-piece_taken binding number start old now c.args.input.now r at next n within taken)

pub returns-in-Ok-take-clause-judges : goal.returns-in-Ok-take-clause-judges
returns-in-Ok-take-clause-judges c number listing start h =
    let r = c.args.reader in
    let next = c.in-Ok.reader in
    let made = c.in-Ok.ensures in
    let steps = c.in-Ok.steps.items in
    record {
      sound = IsSound-next r next steps (take c.in-Ok.count c.bytes.result.now) h.sound made.taken made.given;
      taken = subst (λ (t : Trace). HasTakenSteps number listing start c.in-Ok-take.check t) (sym made.given)
          (c.in-Ok-take.ensures number listing start r.given h.taken
          (ap malformed_step (sym made.given) ∙ made.formed));
    }

pub returns-in-Err-take-clause-reads : goal.returns-in-Err-take-clause-reads
returns-in-Err-take-clause-reads c binding number start old now at =
    IsReading-some old now at.done c.args.input.now at.read

pub returns-in-Err-clause-reads : goal.returns-in-Err-clause-reads
returns-in-Err-clause-reads c binding number start old now at =
    let stopped = c.in-Err.stopped in
    let r = c.args.reader in
    let stops = subst (λ (l : List ℕ). (rest : List ℕ) → StopsBehind r.given stopped (whole_reading r (l ++ rest)))
    c.bytes.ensures.held c.in-Err.ensures.stopped in
    subst (λ (f : VcdFault). FailsPiece old now c.args.input.now (Some f)) (sym c.fault_of.ensures) (
      at.done,
      at.read,
      HasFaultBefore-StopsAs binding old now c.args.input.now r
          (IsAtBody-of_file binding number start old now c.args.input.now r at)
          stopped.fault.line stopped.fault.kind (with_steps r.given stopped.steps.items) stopped.time stops,
    )

pub returns-in-Ok-take-clause-opening : goal.returns-in-Ok-take-clause-opening
returns-in-Ok-take-clause-opening c = ap (λ (t : Trace). t.opening) c.in-Ok.ensures.given
