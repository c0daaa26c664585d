-- The body is read as far as the reader is, and its steps are compared.
use Rattle.std.proofs.Common.{◌≡◌, ℕ, Option}
use Rattle.vme_trace.specs.Streams.{Reading}
use Rattle.vme_trace.specs.Trace.{Trace}
use Rattle.vme_bind.specs.Binding.{BoundLines}
use Rattle.vme_dump_input.specs.DumpBeginnings.{IsAtBody}
use Rattle.vme_confirm_command.specs.DumpChecks.{IsChecked}
use Rattle.vme_dump_input.specs.BufferedInputs.{reads_left}
use Rattle.vme_confirm_command.specs.PieceChecks.{ChecksOn}
use Rattle.vme_confirm_command.proofs.body.compare_body.Given as goal

abbrev pub invariant-loop-reader : goal.invariant-loop-reader
invariant-loop-reader g l =
    record {
      at : (binding : BoundLines) (old : Reading)
          → IsAtBody binding old (g.D.Source.reading l.initial.dump) l.initial.input l.initial.reader
          → IsAtBody binding old (g.D.Source.reading l.dump) l.input l.reader;
      checks : (skew : Option ℕ) (t : Trace) → IsChecked skew l.initial.reader t l.initial.check
          → ChecksOn g.S.RowSource.gave g.S.RowSource.is_over skew t l.initial.check l.check l.reader;
      limit : l.input.limit ≡ l.initial.input.limit;
    }

abbrev pub decreases-loop-reader : goal.decreases-loop-reader
decreases-loop-reader g l = reads_left l.input
