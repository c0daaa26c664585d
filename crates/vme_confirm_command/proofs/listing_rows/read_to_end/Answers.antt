-- The result of `read_to_end` is the fault that is given, unless the rest of the listing can't be read or is too long.
use Rattle.std.proofs.Common.{◌++◌, Some, subst}
use Rattle.vme_dump_input.specs.BufferedInputs.{FailsAs, IsAllOf}
use Rattle.vme_confirm_command.specs.RowsOfListing.{ListingGaveRows}
use Rattle.vme_confirm_command.specs.declared.rows_fault.RowsFault.{RowsFault}
use Rattle.vme_confirm_command.proofs.ListingLemmas.{IsListingRead-input_fault, IsListingRead-text_fault}
use Rattle.vme_confirm_command.proofs.listing_rows.read_to_end.Goals as goal

-- the fault that is given is already one of the input: it is the result
pub returns-in-Input : goal.returns-in-Input
returns-in-Input g c old version rows reader gave =
    let now = g.L.Source.reading c.args.source in
    let had = subst (λ (f : RowsFault). ListingGaveRows old version now c.args.input reader (Some f) rows) c.in-Input.is
    gave
    in
    IsListingRead-input_fault old version now rows c.in-Input.fault had.1

-- the fault is one of the text, and the rest of the listing is read: the fault stays
pub returns-in-Ok : goal.returns-in-Ok
returns-in-Ok g c old version rows reader gave =
    let had = subst (λ (f : RowsFault). ListingGaveRows old version (g.L.Source.reading c.args.source) c.args.input
    reader
    (Some f) rows) c.in-Text.is gave in
    let (done, read, has) = had.1 in
    let now = g.L.Source.reading c.read_rest.new.source in
    let (more, ends, all) = c.in-Ok.ensures.whole old done read in
    IsListingRead-text_fault old version now rows done c.args.input more c.in-Text.fault
    (subst (IsAllOf old now (done ++ (c.args.input.held ++ more))) had.0 all) has ends

-- the fault is one of the text, and reading the rest fails: that failure is the result
pub returns : goal.returns
returns g c old version rows reader gave =
    let had = subst (λ (f : RowsFault). ListingGaveRows old version (g.L.Source.reading c.args.source) c.args.input
    reader
    (Some f) rows) c.in-Text.is gave in
    let (done, read, has) = had.1 in
    let now = g.L.Source.reading c.read_rest.new.source in
    IsListingRead-input_fault old version now rows c.in-Err.fault
    (subst (λ n. FailsAs n old now c.in-Err.fault) had.0 (c.in-Err.ensures.fails old done read))
