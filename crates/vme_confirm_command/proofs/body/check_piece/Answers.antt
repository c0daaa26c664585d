-- The steps of a piece are compared, or the body isn't read further.
use Rattle.std.proofs.Common.{◌≡◌, ◌≤◌, ℕ, List, [], ◌++◌, Some, length, subst, sym, take}
use Rattle.vcd_read.specs.declared.fault.VcdFault.{VcdFault}
use Rattle.vme_trace.specs.Followed.{with_steps}
use Rattle.vme_step_reader.specs.StepReading.{whole_reading}
use Rattle.vme_step_reader.specs.Stops.{StopsBehind}
use Rattle.vme_dump_input.specs.DumpBeginnings.{IsAtBody}
use Rattle.vme_dump_input.specs.BufferedInputs.{InputSoFar}
use Rattle.vme_dump_input.specs.BodyPieces.{FailsPiece}
use Rattle.vme_dump_input.proofs.BodyLemmas.{HasFaultBefore-StopsAs, IsAtBody-taken, GoOnTo-piece}
use Rattle.vme_confirm_command.proofs.BodyLemmas.{IsChecked-piece}
use Rattle.vme_dump_input.proofs.BufferedLemmas.{IsReading-some}
use Rattle.vme_confirm_command.proofs.body.check_piece.Goals as goal

pub take-requires-in-Ok : goal.take-requires-in-Ok
take-requires-in-Ok g c =
    let (skew, t, h) = c.requires in
    let law = c.times_go_on.ensures in
    let r = c.args.reader in
    let made = c.in-Ok.ensures in (
      skew,
      r.given,
      (whole_reading r []).time,
      t,
      h.stepped,
      GoOnTo-piece law.follows law.within law.on c.given_is_a_prefix.ensures r h.sound c.in-Ok.reader
          c.in-Ok.steps.items
          (take c.in-Ok.count c.bytes.result.now) c.time-time.result made.taken made.given made.formed
          c.time-time.ensures,
    )

pub returns-in-Ok-take-clause-reads : goal.returns-in-Ok-take-clause-reads
returns-in-Ok-take-clause-reads g c binding old now at =
    let r = c.args.reader in
    let next = c.in-Ok.reader in
    let made = c.in-Ok.ensures in
    let n = c.in-Ok.count in
    let taken = subst (λ (l : List ℕ). (rest : List ℕ) → whole_reading r (take n l ++ rest) ≡ whole_reading next rest)
    c.bytes.ensures.held made.taken in
    let within = subst (λ (l : List ℕ). n ≤ length l) c.bytes.ensures.held made.within in
    subst (λ (i : InputSoFar). IsAtBody binding old now i next) (sym c.take_first.ensures)
    (IsAtBody-taken binding old now c.args.input.now r at next n within taken)

pub returns-in-Ok-take-clause-checks : goal.returns-in-Ok-take-clause-checks
returns-in-Ok-take-clause-checks g c skew t h =
    let law = c.times_go_on.ensures in
    let r = c.args.reader in
    let next = c.in-Ok.reader in
    let made = c.in-Ok.ensures in
    let steps = c.in-Ok.steps.items in
    let held = c.args.input.now.held in
    let n = c.in-Ok.count in
    let taken = subst (λ (l : List ℕ). (rest : List ℕ) → whole_reading r (take n l ++ rest) ≡ whole_reading next rest)
    c.bytes.ensures.held made.taken in
    let go = GoOnTo-piece law.follows law.within law.on c.given_is_a_prefix.ensures r h.sound next steps (take n held)
    c.time-time.result taken made.given made.formed c.time-time.ensures in
    let (later, stepped, compared) = c.in-Ok-take.ensures.stepped skew r.given (whole_reading r []).time t
    h.stepped go in (
      later,
      IsChecked-piece skew r next steps (take n held) c.time-time.result later c.take-in-Ok.new.self h.sound taken
          made.given c.time-time.ensures stepped,
      compared,
    )

pub returns-in-Err-take-clause-reads : goal.returns-in-Err-take-clause-reads
returns-in-Err-take-clause-reads g c binding old now at =
    IsReading-some old now at.done c.args.input.now at.read

pub returns-in-Err-clause-reads : goal.returns-in-Err-clause-reads
returns-in-Err-clause-reads g c binding old now at =
    let stopped = c.in-Err.stopped in
    let r = c.args.reader in
    let stops = subst (λ (l : List ℕ). (rest : List ℕ) → StopsBehind r.given stopped (whole_reading r (l ++ rest)))
    c.bytes.ensures.held c.in-Err.ensures.stopped in
    subst (λ (f : VcdFault). FailsPiece old now c.args.input.now (Some f)) (sym c.fault_of.ensures) (
      at.done,
      at.read,
      HasFaultBefore-StopsAs binding old now c.args.input.now r at stopped.fault.line stopped.fault.kind
          (with_steps r.given stopped.steps.items) stopped.time stops,
    )
