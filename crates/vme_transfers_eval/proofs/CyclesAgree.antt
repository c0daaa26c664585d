-- Each recording of `cycles` has, by the definitions, the verdict and the rows that stand beside it: computed.
use Rattle.std.proofs.Common.{refl}
use Rattle.std.proofs.lemmas.List.Elements.{All-from_recursion}
use Rattle.std.specs.Prelude.{All}
use Rattle.vme_eval.specs.Recording.{Agrees}
use Rattle.vme_eval.specs.Cycles.{cycles, read_modify_write, write_then_read, two_writes, read_write_write}
use Rattle.vme_eval.specs.Cycles.{answer_as_the_cycle_starts_counts, block_read, block_turns}
use Rattle.vme_eval.specs.Cycles.{block_turns_from_write_to_read, free_cycle, free_cycle_reads_writes_and_reads}
use Rattle.vme_eval.specs.Cycles.{extended_read, extended_block_read, acknowledge_line_rises_as_the_cycle_starts}
use Rattle.vme_eval.proofs.Everything.{everything, rows}
use Rattle.vme_eval.proofs.Facts.{◌&◌}

pub read_modify_write_agrees : Agrees read_modify_write
unfolding everything rows read_modify_write
read_modify_write_agrees = record { well_formed = refl; verdict = refl; rows = refl }

pub write_then_read_agrees : Agrees write_then_read
unfolding everything rows write_then_read
write_then_read_agrees = record { well_formed = refl; verdict = refl; rows = refl }

pub two_writes_agrees : Agrees two_writes
unfolding everything rows two_writes
two_writes_agrees = record { well_formed = refl; verdict = refl; rows = refl }

pub read_write_write_agrees : Agrees read_write_write
unfolding everything rows read_write_write
read_write_write_agrees = record { well_formed = refl; verdict = refl; rows = refl }

pub answer_as_the_cycle_starts_counts_agrees : Agrees answer_as_the_cycle_starts_counts
unfolding everything rows answer_as_the_cycle_starts_counts
answer_as_the_cycle_starts_counts_agrees = record { well_formed = refl; verdict = refl; rows = refl }

pub block_read_agrees : Agrees block_read
unfolding everything rows block_read
block_read_agrees = record { well_formed = refl; verdict = refl; rows = refl }

pub block_turns_agrees : Agrees block_turns
unfolding everything rows block_turns
block_turns_agrees = record { well_formed = refl; verdict = refl; rows = refl }

pub block_turns_from_write_to_read_agrees : Agrees block_turns_from_write_to_read
unfolding everything rows block_turns_from_write_to_read
block_turns_from_write_to_read_agrees = record { well_formed = refl; verdict = refl; rows = refl }

pub free_cycle_agrees : Agrees free_cycle
unfolding everything rows free_cycle
free_cycle_agrees = record { well_formed = refl; verdict = refl; rows = refl }

pub free_cycle_reads_writes_and_reads_agrees : Agrees free_cycle_reads_writes_and_reads
unfolding everything rows free_cycle_reads_writes_and_reads
free_cycle_reads_writes_and_reads_agrees = record { well_formed = refl; verdict = refl; rows = refl }

pub extended_read_agrees : Agrees extended_read
unfolding everything rows extended_read
extended_read_agrees = record { well_formed = refl; verdict = refl; rows = refl }

pub extended_block_read_agrees : Agrees extended_block_read
unfolding everything rows extended_block_read
extended_block_read_agrees = record { well_formed = refl; verdict = refl; rows = refl }

pub acknowledge_line_rises_as_the_cycle_starts_agrees : Agrees acknowledge_line_rises_as_the_cycle_starts
unfolding everything rows acknowledge_line_rises_as_the_cycle_starts
acknowledge_line_rises_as_the_cycle_starts_agrees = record { well_formed = refl; verdict = refl; rows = refl }

-- all recordings of `cycles` have the verdict and the rows that stand beside them
pub cycles_agree : All Agrees cycles
cycles_agree = All-from_recursion Agrees cycles
    (read_modify_write_agrees & write_then_read_agrees & two_writes_agrees & read_write_write_agrees
    & answer_as_the_cycle_starts_counts_agrees & block_read_agrees & block_turns_agrees
    & block_turns_from_write_to_read_agrees & free_cycle_agrees & free_cycle_reads_writes_and_reads_agrees
    & extended_read_agrees & extended_block_read_agrees & acknowledge_line_rises_as_the_cycle_starts_agrees & tt)
