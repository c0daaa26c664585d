-- What a listing says of the recording that a span stands for.
use Rattle.std.specs.Prelude.{◌≡◌, List, Some}
use Rattle.vme_trace.specs.Trace.{Trace}
use Rattle.vme_trace.specs.Verdict.{verdict}
use Rattle.vme_trace.specs.declared.block.Block.{Block}
use Rattle.vme_listing.specs.Listed.{Listed}
use Rattle.vme_split.specs.Split.{Splits}
use Rattle.vme_summary.specs.Joins.{joined_trace}
use Rattle.vme_summary.specs.Stands.{SpanStandsFor}
use Rattle.vme_summary.specs.declared.span.Span.{Span}

-- the edges of the recording that a span's blocks make split into what the rows of the listing list
abbrev pub SplitsItsRecording : Span → Listed → Type 0
SplitsItsRecording s listing =
    (blocks : List Block) (t : Trace) → SpanStandsFor s blocks → joined_trace blocks ≡ Some t
    → Splits t (verdict t) listing.rows
