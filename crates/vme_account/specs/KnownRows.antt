-- The rows of marks, each as soon as its kind is known. A row whose end comes later is without an end.
use Rattle.std.specs.Prelude.{ℕ, List, [], ◌∷◌, ◌++◌, Option, None}
use Rattle.std.specs.Option.{option_map_or}
use Rattle.vme_listing.specs.declared.row.Row.{Row}
use Rattle.vme_listing.specs.declared.row.Row.TheVariants as row
use Rattle.vme_monitor.specs.Run.{write_answer}
use Rattle.vme_monitor.specs.declared.mark.Mark.{Mark}
use Rattle.vme_monitor.specs.declared.mark.MarkKind.{MarkKind}
use Rattle.vme_monitor.specs.declared.mark.MarkKind.TheVariants as kind
use Rattle.vme_monitor.specs.declared.mark.TransferAnswer.{TransferAnswer}
use Rattle.vme_summary.specs.MarkedRows.{marked_answer, marked_cycle}
use Rattle.vme_account.specs.UnendedRows.{open_next, pending_row}
use Rattle.vme_account.specs.declared.unended_rows.UnendedRows.{UnendedRows}
use Rattle.vme_account.specs.declared.unended_rows.Waiting.{Waiting}

-- the waiting transfer's row, if it stays without an answer
abbrev pub pending_rows : Option Waiting → List Row
pending_rows w = option_map_or (λ w. pending_row w ∷ []) w []

-- the waiting transfer's row, if it is answered
abbrev pub answered_row : ℕ → TransferAnswer → Option ℕ → Waiting → Row
answered_row i a latest w = marked_answer w.start w.direction None i latest a

-- that row, if a transfer is waiting
abbrev pub answered_rows : ℕ → TransferAnswer → UnendedRows → List Row
answered_rows i a o = option_map_or (λ w. answered_row i a o.latest w ∷ []) o.waiting []

-- the rows whose kind is known at a mark, where `o` are the open rows before it
abbrev pub known_at : ℕ → MarkKind → UnendedRows → List Row
known_at i kind.Reset o = pending_rows o.waiting ++ row.Reset i ∷ []
known_at i kind.Start o = row.Start i ∷ []
known_at i kind.Open o = row.OpenTenure i None ∷ []
known_at i (kind.Tenure level slot) o = row.Tenure i level slot None ∷ []
known_at i kind.TenureEnd o = []
known_at i (kind.Cycle c modifier address) o = marked_cycle i modifier address None c ∷ []
known_at i kind.CycleEnd o = []
known_at i (kind.Transfer write) o = pending_rows o.waiting
known_at i (kind.Answer line) o = answered_rows i (record { line = line; lanes = None }) o
known_at i (kind.WriteAnswer line moved unknown value) o =
    answered_rows i (write_answer line moved unknown value) o
known_at i kind.Close o = []

-- the rows whose kinds are known at the marks, one mark after the other
abbrev pub knowns_from : UnendedRows → List Mark → List Row
knowns_from o [] = []
knowns_from o (m ∷ ms) = known_at m.instant m.kind o ++ knowns_from (open_next o m) ms
