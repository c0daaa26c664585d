-- The header, and what the front has of the body.
use Rattle.std.proofs.Common.{List, refl, subst, [], ◌≡◌}
use Rattle.vcd_read.specs.Meaning.{ReadFails}
use Rattle.vcd_read.specs.Reached.{reached, rest_of}
use Rattle.vcd_read.specs.Tokens.{Token, tokens}
use Rattle.vcd_start.specs.FirstTimeReading.{first_time_kept, first_time_or}
use Rattle.vcd_start.proofs.FirstTimeLemmas.{ReadFails-rest, ReadFails-header, dump_of-faulty_header}
use Rattle.vcd_start.proofs.FirstTimeLemmas.{LeadsToFirstTime-read}
use Rattle.vcd_start.proofs.first_time.read_in.Goals as goal

pub returns-in-Ok-clause-read : goal.returns-in-Ok-clause-read
returns-in-Ok-clause-read c text more dump same whole =
    let begun = c.before_body-reader.ensures in
    let r = reached (λ v. v.time) c.before_body-reader.result.0 in
    let next = reached (λ v. v.time) c.in-Ok.reader in
    let header = rw c.in-Ok-Some.field-0-is at c.in-Ok-Some.ensures.header in
    LeadsToFirstTime-read r c.in-Ok-Some.found.head begun.nets begun.progress begun.dump_section begun.place text
    (tokens c.args.front.now) more same (header text more) next
    (subst (λ (b : List Token). rest_of first_time_kept first_time_or r b more
    ≡ rest_of first_time_kept first_time_or next [] more) begun.body
    (c.in-Ok.ensures.rest more)) dump whole

pub returns-in-Ok-Some-clause-fails : goal.returns-in-Ok-Some-clause-fails
returns-in-Ok-Some-clause-fails c text more same =
    let begun = c.before_body-reader.ensures in
    let r = reached (λ v. v.time) c.before_body-reader.result.0 in
    let fault = c.in-Err-read.fault in
    let header = rw c.in-Ok-Some.field-0-is at c.in-Ok-Some.ensures.header in
    ReadFails-rest r c.in-Ok-Some.found.head begun.nets begun.progress begun.dump_section begun.place text
    (tokens c.args.front.now) more same (header text more) fault
    (subst (λ (b : List Token). ReadFails fault (rest_of first_time_kept first_time_or r b more)) begun.body
    (c.in-Err-read.ensures.rest more))

pub returns-in-Ok-None-clause-none : goal.returns-in-Ok-None-clause-none
returns-in-Ok-None-clause-none c dump whole =
    let (fault, fails, met) = rw c.in-Ok-None.field-0-is at c.in-Ok-None.ensures.header in
    dump_of-faulty_header c.args.front.now (tokens c.args.front.now) refl fault fails dump whole

pub returns-clause-fails : goal.returns-clause-fails
returns-clause-fails c text more same =
    ReadFails-header text _ same c.in-Err.fault (c.in-Err.ensures.header text more)
