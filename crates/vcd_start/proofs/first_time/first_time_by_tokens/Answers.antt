use Rattle.vcd_read.specs.Meaning.{dump_of}
use Rattle.vcd_start.proofs.FirstTimeLemmas.{ReadFailsAs-no_result}
use Rattle.vcd_start.proofs.first_time.first_time_by_tokens.Goals as goal

pub returns-in_ok-unless_memory-in-Err : goal.returns-in_ok-unless_memory-in-Err
returns-in_ok-unless_memory-in-Err c text more same dump whole =
    absurd (ReadFailsAs-no_result (dump_of text) c.in-Err.fault.line c.in-Err.fault.kind
    c.in_ok-unless_memory-in-Err.ensures
    (c.in-Err.ensures.fails text more same) dump whole)
