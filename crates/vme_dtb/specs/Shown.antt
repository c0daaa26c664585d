-- What cycles and transfers show at each instant.
use Rattle.std.specs.Prelude.{ℕ, Bool, ◌&&◌, Option, None, Some, option_map, nat_lt, if◌then◌else◌}
use Rattle.vme_trace.specs.Instants.{least}
use Rattle.vme_trace.specs.LineNumbers.{line_count, AS, is_answer_line}
use Rattle.vme_trace.specs.Trace.{Trace, levels_at}
use Rattle.vme_trace.specs.Signals.{falls, rises}
use Rattle.vme_trace.specs.Judged.{Stretch, is_judged}
use Rattle.vme_trace.specs.Transfers.{strobes_high, transfer_starts, in_transfer, is_answer, is_write}
use Rattle.vme_trace.specs.Transfers.{answers_write, data_at}
use Rattle.vme_trace.specs.Cycles.{cycle_starts}
use Rattle.vme_monitor.specs.Run.{no_step_marks}
use Rattle.vme_monitor.specs.declared.mark.TransferAnswer.{TransferAnswer}
use Rattle.vme_monitor.specs.declared.mark.StepMarks.{StepMarks}
use Rattle.vme_dtb.specs.Edge.{cycle_start_of}

module _ (t : Trace) (stretch : Stretch) where
  -- a transfer closes: the first instant after its start at which both strobes are high
  unfoldable pub closes : ℕ → Bool
  closes j = strobes_high t j && in_transfer t stretch (λ i. nat_lt i j) j

  -- the line that answers a transfer, the first one where both fall
  unfoldable pub answer_line : ℕ → Option ℕ
  answer_line j = if is_answer t stretch j then least (λ l. is_answer_line l && falls t l j) 0 line_count else None

  -- the answer of a transfer, which takes data if the transfer is a write
  unfoldable pub answered : ℕ → Option TransferAnswer
  answered j =
      let lanes = if answers_write t stretch j then Some (data_at t stretch j) else None in
      option_map (λ l. record { line = l; lanes = lanes }) (answer_line j)

-- cycles that start and end, and transfers that start, are answered and close
abbrev pub handshake_shown : Trace → Stretch → ℕ → StepMarks
handshake_shown t stretch j =
    record no_step_marks {
      cycle = (if cycle_starts t stretch j then Some (cycle_start_of (levels_at t j)) else None);
      cycle_end = (is_judged stretch j && rises t AS j);
      transfer = (if transfer_starts t stretch j then Some (is_write t stretch j) else None);
      answer = answered t stretch j;
      close = closes t stretch j;
    }
