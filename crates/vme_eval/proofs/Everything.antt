-- All that has to unfold for a verdict, and for the rows of a listing, to compute.
use Rattle.std.specs.Prelude.{ℕ}
use Rattle.std.specs.Fmt.{digits}
use Rattle.vme_trace.specs.Instants.{any, least, greatest, those}
use Rattle.vme_trace.specs.Levels.{is_idle, loses_control}
use Rattle.vme_trace.specs.Cycle.{modifier_of, highest_address, class_of, needs_of, is_needed}
use Rattle.vme_trace.specs.Data.{is_selected}
use Rattle.vme_trace.specs.Lanes.{moved_at, digit_at, flag_at, lanes_at}
use Rattle.vme_trace.specs.Trace.{levels_at, changed}
use Rattle.vme_trace.specs.Signals.{low, high, known, falls, rises, has_edge}
use Rattle.vme_trace.specs.Judged.{judged_stretches, stretch_starts, was_idle, is_cut_off, stretch_end, is_idle_at}
use Rattle.vme_trace.specs.Judged.{is_reset_at}
use Rattle.vme_trace.specs.Judged.{loses_control_at}
use Rattle.vme_trace.specs.Transfers.{transfer_starts, lasts, is_answered, answers, is_write, in_transfer, is_answer}
use Rattle.vme_trace.specs.Transfers.{answers_write, data_at}
use Rattle.vme_trace.specs.Cycles.{cycle_starts, cycle_runs, cycle_of, in_cycle, answers_of}
use Rattle.vme_trace.specs.Tenures.{is_granting, grant_falls, taken_grant, tenure_level, has_reached, tenure_slot}
use Rattle.vme_trace.specs.Tenures.{tenure_starts, last_before}
use Rattle.vme_trace.specs.Rules.{breaks_read_modify_write, changes_direction, is_broken, breaks}
use Rattle.vme_trace.specs.Verdict.{rule_break, break_at, break_before, least_break, verdict_by}
use Rattle.vme_trace.specs.WellFormed.{malformed_step, is_step, are_changes}
use Rattle.vme_listing.specs.Recorded.{tenure_rows, cycle_rows, transfer_rows, rows_before, rows_of_stretch, listing_by}
use Rattle.vme_listing.specs.RowText.{hexadecimal, lanes_text, row_text}
use Rattle.vme_eval.specs.Steps.{idle_lines}

unfoldable pub everything : ℕ
unfolding verdict_by least_break break_before break_at rule_break breaks is_broken breaks_read_modify_write
    changes_direction is_answered answers is_write is_answer answers_write in_transfer lasts transfer_starts
    cycle_starts cycle_runs cycle_of in_cycle
    answers_of is_granting grant_falls taken_grant tenure_level has_reached tenure_slot tenure_starts last_before
    modifier_of highest_address class_of needs_of is_needed is_selected judged_stretches stretch_starts was_idle
    is_cut_off
    stretch_end is_idle_at is_reset_at loses_control_at loses_control least greatest those any is_idle levels_at changed
    known low high falls rises has_edge malformed_step is_step are_changes idle_lines
everything = 0

unfoldable pub rows : ℕ
unfolding listing_by rows_of_stretch rows_before tenure_rows cycle_rows transfer_rows data_at lanes_at moved_at digit_at
    flag_at row_text lanes_text hexadecimal digits
rows = 0
