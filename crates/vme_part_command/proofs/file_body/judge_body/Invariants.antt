-- The reader has taken the body so far, and its steps are judged.
use Rattle.std.proofs.Common.{◌≡◌, ℕ, Bool, Option}
use Rattle.vme_trace.specs.Streams.{Reading}
use Rattle.vme_bind.specs.Binding.{BoundLines}
use Rattle.vme_dump_input.specs.BufferedInputs.{reads_left}
use Rattle.vme_part_command.specs.FileChecks.{IsFileJudged}
use Rattle.vme_part_command.specs.FileReadings.{IsAtFile}
use Rattle.vme_part_command.proofs.file_body.judge_body.Given as goal

abbrev pub invariant-loop-reader : goal.invariant-loop-reader
invariant-loop-reader g l =
    record {
      at : (binding : BoundLines) (number : ℕ) (start : Option ℕ) (old : Reading)
          → IsAtFile binding number start old (g.D.Source.reading l.initial.dump) l.initial.input l.initial.reader
          → IsAtFile binding number start old (g.D.Source.reading l.dump) l.input l.reader;
      judges : (number : ℕ) (listing : Bool) (start : Option ℕ)
          → IsFileJudged number listing start l.initial.reader l.initial.check
          → IsFileJudged number listing start l.reader l.check;
      opening : l.reader.given.opening ≡ l.initial.reader.given.opening;
      limit : l.input.limit ≡ l.initial.input.limit;
    }

abbrev pub decreases-loop-reader : goal.decreases-loop-reader
decreases-loop-reader g l = reads_left l.input
