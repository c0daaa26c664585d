use Rattle.std.proofs.Common.{subst, sym}
use Rattle.std.specs.Prelude.{Result}
use Rattle.vme_trace.specs.Trace.{Trace}
use Rattle.vme_stream.specs.declared.refusal.Refusal.{Refusal}
use Rattle.vme_annotate.specs.TimedListings.{GivesTimedListing, settled_in_blocks}
use Rattle.vme_annotate.proofs.ListedLemmas.{capture_by-recording_of_text, recording_to_list-text_refused}
use Rattle.vme_annotate.proofs.listed.listed_by_skew.Goals as goal

pub returns-in-Ok : goal.returns-in-Ok
returns-in-Ok g c =
    subst (λ (read : Result Trace Refusal). GivesTimedListing c.settled_listing.result
    (settled_in_blocks g.K.GhostSkew.skew c.args.block read))
    (sym (capture_by-recording_of_text c.args.binding.now c.args.text.now c.in-Ok.settling c.in-Ok.ensures.gives))
    (c.settled_listing.ensures c.in-Ok.ensures.formed)

pub returns-in-Err : goal.returns-in-Err
returns-in-Err g c =
    rw c.of_capture.ensures
    (recording_to_list-text_refused g.K.GhostSkew.skew c.args.block c.args.binding.now c.args.text.now c.in-Err.fault
    c.in-Err.ensures.gives)
