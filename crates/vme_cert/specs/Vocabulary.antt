-- The words of recordings and of listings, by the modules that define them. A proof unfolds an unfoldable name only
-- where it says so; each other name is the same as its definition.

pub use Rattle.vme_trace.specs.Changes.{is_changed, lost_among}
unfoldable pub use Rattle.vme_trace.specs.Cycle.{class_of, highest_address, is_needed, modifier_of, needs_of}
pub use Rattle.vme_trace.specs.Cycle.{Needs, is_extended, is_short, is_standard, is_within}
unfoldable pub use Rattle.vme_trace.specs.Cycles.{answers_of, cycle_of, cycle_runs, cycle_starts, in_cycle}
pub use Rattle.vme_trace.specs.Cycles.{class_at}
unfoldable pub use Rattle.vme_trace.specs.Data.{is_selected}
pub use Rattle.vme_trace.specs.Edges.{answer_between, falls_between, rises_between, starts_between}
pub use Rattle.vme_trace.specs.Edges.{strobe_falls_between, strobe_rises_between, strobes_high_in}
pub use Rattle.vme_trace.specs.Followed.{with_steps}
unfoldable pub use Rattle.vme_trace.specs.Instants.{any, greatest, least, those}
pub use Rattle.vme_trace.specs.Instants.{every, none}
unfoldable pub use Rattle.vme_trace.specs.Judged.{
  is_idle_at,
  is_reset_at,
  judged_stretches,
  loses_control_at,
  stretch_end,
}
unfoldable pub use Rattle.vme_trace.specs.Judged.{stretch_starts}
pub use Rattle.vme_trace.specs.Judged.{Awaits, IsStretchOf, Stretch, is_judged, stretch_from, stretches_after, stops_at}
unfoldable pub use Rattle.vme_trace.specs.Lanes.{lanes_at}
unfoldable pub use Rattle.vme_trace.specs.Levels.{is_idle, loses_control}
pub use Rattle.vme_trace.specs.Levels.{Levels, is_high, is_known, is_known_on, is_lost, is_low, is_reset, level_at}
pub use Rattle.vme_trace.specs.Levels.{same_level}
pub use Rattle.vme_trace.specs.LineNumbers.{A, AS, BBSY, BERR, BR, D, DS0, DS1, DTACK, IACK, LWORD, WRITE, grant}
pub use Rattle.vme_trace.specs.LineNumbers.{grant_level, grant_place, has_line, iack, input_of, is_answer_line}
pub use Rattle.vme_trace.specs.LineNumbers.{is_control, is_data, is_grant, is_slot_grant, is_slot_iack, is_strobe}
pub use Rattle.vme_trace.specs.LineNumbers.{line_count}
pub use Rattle.vme_trace.specs.Names.{rule_number}
unfoldable pub use Rattle.vme_trace.specs.Rules.{breaks, is_broken, breaks_read_modify_write, changes_direction}
pub use Rattle.vme_trace.specs.Rules.{all_rules, differ, ends_stretch, is_block_class, is_interrupt, has_earlier_answer}
pub use Rattle.vme_trace.specs.Rules.{is_option_equal, is_single, is_unreadable}
unfoldable pub use Rattle.vme_trace.specs.Signals.{falls, has_edge, high, known, low, rises}
pub use Rattle.vme_trace.specs.Signals.{level, near}
unfoldable pub use Rattle.vme_trace.specs.Tenures.{grant_falls, has_reached, is_granting, last_before, taken_grant}
unfoldable pub use Rattle.vme_trace.specs.Tenures.{tenure_level, tenure_slot, tenure_starts}
unfoldable pub use Rattle.vme_trace.specs.Trace.{changed, levels_at}
pub use Rattle.vme_trace.specs.Trace.{Trace, last_instant, levels_after, time_at}
unfoldable pub use Rattle.vme_trace.specs.Transfers.{answers, answers_write, data_at, in_transfer, is_answer}
unfoldable pub use Rattle.vme_trace.specs.Transfers.{is_answered, is_write, lasts, transfer_starts}
pub use Rattle.vme_trace.specs.Transfers.{answer_falls, strobe_falls, strobe_rises, strobes_high}
unfoldable pub use Rattle.vme_trace.specs.Verdict.{break_at, break_before, least_break, rule_break}
pub use Rattle.vme_trace.specs.Verdict.{least_of, rule_count}
unfoldable pub use Rattle.vme_trace.specs.WellFormed.{are_changes, is_step, malformed_step}
pub use Rattle.vme_trace.specs.WellFormed.{IsCapture, capture_limit}
pub use Rattle.vme_trace.specs.declared.class.Class.{Class}
pub use Rattle.vme_trace.specs.declared.data.Lanes.{Lanes}
pub use Rattle.vme_trace.specs.declared.level.Level.{Level}
pub use Rattle.vme_trace.specs.declared.level.Level.TheVariants.{High, Low, Unknown}
pub use Rattle.vme_trace.specs.declared.rule.Rule.{Rule}
pub use Rattle.vme_trace.specs.declared.rule.Rule.TheVariants.{B1, B2, B3, B4, C1, C2, G1, G2, G3, G4, G5, H1, H2, H3}
pub use Rattle.vme_trace.specs.declared.rule.Rule.TheVariants.{H4, H5, H6, H7, H8, I1, I2, I3, I4, I5, S1, S2, S3, U1}
pub use Rattle.vme_trace.specs.declared.rule.Rule.TheVariants.{U2, U3, U4}
pub use Rattle.vme_trace.specs.declared.step.Change.{Change}
pub use Rattle.vme_trace.specs.declared.step.Step.{Step}
pub use Rattle.vme_trace.specs.declared.verdict.Break.{Break}
pub use Rattle.vme_listing.specs.Places.{ends_listing}
pub use Rattle.vme_listing.specs.Reading.{HasRead, IsFaultOfText, IsTextOfListing, Unread, listed}
unfoldable pub use Rattle.vme_listing.specs.Recorded.{cycle_rows, listing_by, rows_before, rows_in, rows_of_stretch}
unfoldable pub use Rattle.vme_listing.specs.Recorded.{tenure_rows, transfer_rows}
pub use Rattle.vme_listing.specs.Recorded.{address_to, answered_row, cycle_row, data_of, listed_end, listing_before}
pub use Rattle.vme_listing.specs.Recorded.{listing_of_stretches, outcome_of, recorded_rows, row_in, tenure_row}
pub use Rattle.vme_listing.specs.Recorded.{transfer_row, without_data}
pub use Rattle.vme_listing.specs.declared.fault.ListFault.{ListFault}
pub use Rattle.vme_listing.specs.declared.row.AnswerLine.{AnswerLine}
pub use Rattle.vme_listing.specs.declared.row.AnswerLine.TheVariants.{Berr, Dtack}
pub use Rattle.vme_listing.specs.declared.row.Direction.{Direction}
pub use Rattle.vme_listing.specs.declared.row.Direction.TheVariants.{Read, Write}
pub use Rattle.vme_listing.specs.declared.row.ListedVerdict.{ListedVerdict}
pub use Rattle.vme_listing.specs.declared.row.ListedVerdict.TheVariants.{Broken, Conforming, NeverIdle, Unreadable}
pub use Rattle.vme_listing.specs.declared.row.Row.{Row}
pub use Rattle.vme_listing.specs.declared.row.Row.TheVariants.{AddressedCycle, FreeCycle, InterruptCycle, OpenTenure}
pub use Rattle.vme_listing.specs.declared.row.Row.TheVariants.{PendingTransfer, Reset, Start, Tenure, Transfer, Verdict}
pub use Rattle.vme_listing.specs.declared.row.Version.{Version}
pub use Rattle.vme_listing.specs.declared.row.Version.TheVariants.{One, Three, Two}
