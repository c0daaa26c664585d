use Rattle.std.proofs.Common.{[], sym, append-nil, ◌∙◌}
use Rattle.vcd_read.specs.Meaning.{dump_of}
use Rattle.vcd_read.specs.Reached.{outcome_of, reached}
use Rattle.vcd_read.specs.Tokens.{tokens}
use Rattle.vcd_start.specs.FirstTimes.{first_time_of_dump}
use Rattle.vcd_start.specs.FirstTimeReading.{first_time_kept, first_time_or}
use Rattle.vcd_start.proofs.FirstTimeLemmas.{ReadFailsAs-no_result, first_time_of_dump-outcome}
use Rattle.vcd_start.proofs.first_time.first_time_of_text.Goals as goal

pub returns-in-Ok : goal.returns-in-Ok
returns-in-Ok c dump whole =
    let text = c.args.text.now in
    let r = reached (λ v. v.time) c.in-Ok-Some.reader in
    let read = rw c.in-Ok-Some.field-0-is at c.in-Ok-Some.ensures.read in
    first_time_of_dump-outcome r c.in-Ok.first.time dump c.in-Ok.ensures
    (read text [] dump (sym (append-nil (tokens text))) whole) ∙ sym c.into_time.ensures

pub returns-in_ok-unless_memory-in-Err-finish : goal.returns-in_ok-unless_memory-in-Err-finish
returns-in_ok-unless_memory-in-Err-finish c dump whole =
    let text = c.args.text.now in
    let r = reached (λ v. v.time) c.in-Ok-Some.reader in
    let read = rw c.in-Ok-Some.field-0-is at c.in-Ok-Some.ensures.read in
    let fault = c.in-Err-finish.fault in
    let other = c.in_ok-unless_memory-in-Err-finish.ensures in
    absurd (ReadFailsAs-no_result (outcome_of first_time_kept first_time_or r) fault.line fault.kind other
    c.in-Err-finish.ensures (first_time_of_dump dump) (read text [] dump (sym (append-nil (tokens text))) whole))

pub returns-in_ok-unless_memory-in-Err : goal.returns-in_ok-unless_memory-in-Err
returns-in_ok-unless_memory-in-Err c dump whole =
    let text = c.args.text.now in
    absurd (ReadFailsAs-no_result (dump_of text) c.in-Err.fault.line c.in-Err.fault.kind
    c.in_ok-unless_memory-in-Err.ensures
    (c.in-Err.ensures.fails text [] (sym (append-nil (tokens text)))) dump whole)
