use Rattle.std.proofs.Common.{subst}
use Rattle.std.specs.Prelude.{Result}
use Rattle.vme_trace.specs.Streams.{Reading, Writing}
use Rattle.vme_trace.specs.Trace.{Trace}
use Rattle.vme_listing.specs.Recorded.{recorded_rows}
use Rattle.vme_stream.specs.Outputs.{Writes}
use Rattle.vme_split.proofs.Listings.{Splits-listing}
use Rattle.vme_stream.specs.declared.refusal.Refusal.{Refusal}
use Rattle.vme_commands.specs.Listings.{listing_answer_by}
use Rattle.vme_commands.proofs.ListLemmas.{WritesListing-unwritten, WritesListing-exact}
use Rattle.vme_commands.proofs.list.list.Goals as goal

pub returns : goal.returns
returns g c =
    let done = c.list_by.new in
    let binding : Reading × Reading = (g.B.Source.reading c.args.binding.now, g.B.Source.reading done.binding) in
    let dump : Reading × Reading = (g.D.Source.reading c.args.dump.now, g.D.Source.reading done.dump) in
    let out : Writing × Writing = (g.O.Sink.writing c.args.out.now, g.O.Sink.writing done.out) in
    let err : Writing × Writing = (g.E.Sink.writing c.args.err.now, g.E.Sink.writing done.err) in
    let status = c.list_by.result in
    let exact = WritesListing-exact c.args.skew binding dump c.args.block out err status c.list_by.ensures in
    record {
      answer = c.list_by.ensures;
      unwritten = WritesListing-unwritten c.args.skew binding dump c.args.block out err status c.list_by.ensures;
      exact = exact;
      split = λ b d t binding_told dump_told written enough is. (
        recorded_rows t,
        Splits-listing t,
        subst (λ (r : Result Trace Refusal). Writes out.0 out.1 (listing_answer_by r).out) is
            (exact b d binding_told dump_told written enough).out_is,
      );
    }
