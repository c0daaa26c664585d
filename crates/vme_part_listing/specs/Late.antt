-- What comes too late for a listing, whose instants have 32 bits.
use Rattle.std.specs.Prelude.{◌≡◌, ◌^◌, ◌≤◌, ◌⊎◌, List, Contains, Some}
use Rattle.vme_trace.specs.Trace.{Trace}
use Rattle.vme_trace.specs.declared.verdict.Break.{Break}
use Rattle.vme_monitor.specs.declared.mark.Mark.{Mark}
use Rattle.vme_summary.specs.AllShown.{all_marks}
use Rattle.vme_summary.specs.Summaries.{first_break_of}

-- the first break of the recording comes after instant 4,294,967,295
abbrev pub HasLateBreak : Trace → Type 0
HasLateBreak t = (b : Break) × (first_break_of t ≡ Some b) × (2 ^ 32 ≤ b.instant)

-- one of the marks comes after instant 4,294,967,295
abbrev pub HasLateMark : List Mark → Type 0
HasLateMark ms = (m : Mark) × Contains ms m × (2 ^ 32 ≤ m.instant)

-- the recording's first break or one of its marks comes after instant 4,294,967,295
abbrev pub IsTooLongToList : Trace → Type 0
IsTooLongToList t = HasLateBreak t ⊎ HasLateMark (all_marks t)
