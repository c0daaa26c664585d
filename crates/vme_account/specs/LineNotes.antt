-- Sets of lines.
use Rattle.std.specs.Prelude.{ℕ, Bool, false, slice_index_or}
use Rattle.vme_account.specs.declared.line_notes.LineFlags.{LineFlags}

-- the line is in the set
abbrev pub is_flagged : LineFlags → ℕ → Bool
is_flagged flags l = slice_index_or flags.lines l false
