use Rattle.vme_transfers_eval.proofs.TableRows.{rows_block_codes, rows_single_codes, rows_extended_codes}
use Rattle.vme_transfers_eval.proofs.TableRows.{rows_standard_codes, rows_short_codes, rows_high_lines}
use Rattle.vme_transfers_eval.proofs.TableRows.{rows_known_lines, rows_control_lines, rows_standard_needs}
use Rattle.vme_transfers_eval.proofs.TableRows.{rows_acknowledge_needs, rows_modifier_lines}
use Rattle.vme_transfers_eval.proofs.tables.Goals as goal

pub returns : goal.returns
returns c = record {
  block_codes = rows_block_codes;
  single_codes = rows_single_codes;
  extended_codes = rows_extended_codes;
  standard_codes = rows_standard_codes;
  short_codes = rows_short_codes;
  high_lines = rows_high_lines;
  known_lines = rows_known_lines;
  control_lines = rows_control_lines;
  standard_needs = rows_standard_needs;
  acknowledge_needs = rows_acknowledge_needs;
  modifier_lines = rows_modifier_lines;
}
