-- The listing is compared, or the result is why it can't be.
use Rattle.std.proofs.Common.{List, Some}
use Rattle.std.specs.Prelude.{Err}
use Rattle.vme_trace.specs.Streams.{Reading}
use Rattle.vme_listing.specs.declared.row.Row.{Row}
use Rattle.vme_listing.specs.declared.row.Version.{Version}
use Rattle.vme_confirm_command.specs.RowsOfListing.{ListingGaveRows, IsOver}
use Rattle.vme_stream.specs.declared.refusal.Refusal.TheVariants.{Memory}
use Rattle.vme_stream.proofs.InputLemmas.{IsReading-unread}
use Rattle.vme_confirm_command.proofs.FoundLemmas.{IsReading-begun, Compares-found, Compares-refused}
use Rattle.vme_confirm_command.proofs.FoundLemmas.{GivesConfirmation-no_dump}
use Rattle.vme_confirm_command.proofs.FoundLemmas.{IsAnswerByRows-for_dump}
use Rattle.vme_confirm_command.proofs.confirm.compare_with_listing.Goals as goal

pub returns-in_default : goal.returns-in_default
returns-in_default g c bound old begun limit =
    let (bytes, reading) = IsReading-begun bound old (g.D.Source.reading c.args.dump.now) c.args.input.now c.args.begun
    begun
    in
    let listing = IsReading-unread (g.L.Source.reading c.args.listing) in
    (bytes, listing.0, Err Memory, reading, listing.1, tt, tt)

pub returns-in-Ok-found : goal.returns-in-Ok-found
returns-in-Ok-found g c bound old begun limit =
    let listing = g.L.Source.reading c.args.listing in
    let now = g.D.Source.reading c.compare_with_rows-found.new.dump in
    let version = c.version-version.result in
    let rows = c.compare_with_rows-found.result.1 in
    let whole : Reading × Version = (listing, version) in
    let gave = c.begin-rows.ensures.gave version c.version-version.ensures in
    let (contents, dump, finds) = Compares-found whole rows
    (λ (w : Reading × Version) s (l : List Row). ListingGaveRows w.0 w.1 (g.L.Source.reading s.source) s.input s.reader
    s.fault l)
    (λ s. IsOver s.reader s.fault) version bound c.args.skew old now
    c.compare_with_rows-found.result.0 (c.compare_with_rows-found.ensures bound old whole gave begun limit)
    c.in-Ok-found.found c.in-Ok-found.is in
    let (expected_rows, given, gives, is, confirms) = IsAnswerByRows-for_dump whole rows
    (λ (w : Reading × Version) s (l : List Row). ListingGaveRows w.0 w.1 (g.L.Source.reading s.source) s.input s.reader
    s.fault l)
    (λ s. IsOver s.reader s.fault) version bound c.args.skew contents
    (Some dump.text) dump.is c.in-Ok-found.found finds in
    let (bytes, said, reading, read_rows, answer) = c.comparison_found.ensures listing version given expected_rows gives
    is in
    (Some dump.text, bytes, said, dump.reading, reading, read_rows, confirms said c.comparison_found.result.0 answer)

pub returns-in-Err : goal.returns-in-Err
returns-in-Err g c bound old begun limit =
    let listing = g.L.Source.reading c.args.listing in
    let now = g.D.Source.reading c.compare_with_rows-found.new.dump in
    let version = c.version-version.result in
    let rows = c.compare_with_rows-found.result.1 in
    let whole : Reading × Version = (listing, version) in
    let gave = c.begin-rows.ensures.gave version c.version-version.ensures in
    let (refused, rest) = Compares-refused whole rows
    (λ (w : Reading × Version) s (l : List Row). ListingGaveRows w.0 w.1 (g.L.Source.reading s.source) s.input s.reader
    s.fault l)
    (λ s. IsOver s.reader s.fault) version bound c.args.skew old now
    c.compare_with_rows-found.result.0 (c.compare_with_rows-found.ensures bound old whole gave begun limit)
    c.in-Err.refusal c.in-Err.is in
    let (given, gives) = rest in
    let (dump, reading, is) = GivesConfirmation-no_dump c.args.skew bound old now c.in-Err.refusal refused in
    let some = c.into_source.ensures listing version given gives in
    (dump, some.0, Err Memory, reading, some.1, tt, is)
