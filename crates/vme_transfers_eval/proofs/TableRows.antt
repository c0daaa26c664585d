-- Which modifier codes and which lines the definitions single out (vme_eval's specs/Tables): computed.
use Rattle.std.proofs.Common.{◌≡◌, refl}
use Rattle.std.specs.Prelude.{◌∷◌, []}
use Rattle.vme_trace.specs.declared.level.Level.TheVariants.{Low, Unknown}
use Rattle.vme_trace.specs.LineNumbers.{IACK}
use Rattle.vme_eval.specs.Tables.{codes_that, control_lines, is_block_transfer, is_single_transfer, needs_up_to}
use Rattle.vme_eval.specs.Tables.{high_but, high_lines, lines_losing_control, lines_of_code, modifier_lines}
use Rattle.vme_eval.specs.Tables.{needed_lines}
use Rattle.vme_eval.specs.Tables.{not_idle_with, standard_lines}
use Rattle.vme_eval.proofs.Everything.{everything}

-- the codes of block transfers are 0B, 0F, 3B and 3F
pub rows_block_codes : codes_that is_block_transfer ≡ 11 ∷ 15 ∷ 59 ∷ 63 ∷ []
unfolding everything
rows_block_codes = refl

-- the codes of single transfers are 09, 0A, 0D, 0E, 29, 2D, 39, 3A, 3D and 3E
pub rows_single_codes : codes_that is_single_transfer ≡ 9 ∷ 10 ∷ 13 ∷ 14 ∷ 41 ∷ 45 ∷ 57 ∷ 58 ∷ 61 ∷ 62 ∷ []
unfolding everything
rows_single_codes = refl

-- the address lines up to A31 are needed with the codes 09, 0A, 0B, 0D, 0E and 0F
pub rows_extended_codes : codes_that (needs_up_to 31) ≡ 9 ∷ 10 ∷ 11 ∷ 13 ∷ 14 ∷ 15 ∷ []
unfolding everything
rows_extended_codes = refl

-- the address lines up to A23 are needed with the codes 39, 3A, 3B, 3D, 3E and 3F
pub rows_standard_codes : codes_that (needs_up_to 23) ≡ 57 ∷ 58 ∷ 59 ∷ 61 ∷ 62 ∷ 63 ∷ []
unfolding everything
rows_standard_codes = refl

-- the address lines up to A15 are needed with the codes 29 and 2D
pub rows_short_codes : codes_that (needs_up_to 15) ≡ 41 ∷ 45 ∷ []
unfolding everything
rows_short_codes = refl

-- the lines that keep the bus from being idle while one of them is low are `high_lines`
pub rows_high_lines : not_idle_with Low ≡ high_lines
unfolding everything
rows_high_lines = refl

-- the lines that keep the bus from being idle while one of them is unknown are `control_lines`
pub rows_known_lines : not_idle_with Unknown ≡ control_lines
unfolding everything
rows_known_lines = refl

-- the lines by which control of the bus is lost while one of them is unknown are `control_lines`
pub rows_control_lines : lines_losing_control ≡ control_lines
unfolding everything
rows_control_lines = refl

-- the lines that a cycle of code 3D needs are `standard_lines`
pub rows_standard_needs : needed_lines (lines_of_code 61) ≡ standard_lines
unfolding everything
rows_standard_needs = refl

-- the lines that an interrupt acknowledge needs are IACK* and A01 to A03
pub rows_acknowledge_needs : needed_lines (high_but IACK Low) ≡ 5 ∷ 14 ∷ 15 ∷ 16 ∷ []
unfolding everything
rows_acknowledge_needs = refl

-- the lines that make a cycle of code 0F a free one while one of them is unknown are AM0 to AM5
pub rows_modifier_lines : modifier_lines ≡ 6 ∷ 7 ∷ 8 ∷ 9 ∷ 10 ∷ 11 ∷ []
unfolding everything
rows_modifier_lines = refl
