use Rattle.std.proofs.Common.{◌≡◌, ℕ, List, true}
use Rattle.vcd_places.specs.Places.{ends_definitions_at}
use Rattle.vme_annotation.specs.Inserted.{PutChange}
use Rattle.vme_annotate.specs.Outputs.{HasPut}
use Rattle.vme_annotate.specs.Writing.{StaysWithin}
use Rattle.vme_annotate.proofs.InsertLemmas.{written_front}
use Rattle.vme_annotate.proofs.PlaceLemmas.{IsPutSoFar}
use Rattle.vme_annotate.proofs.inserting.write_annotated.Given as goal

abbrev pub invariant-loop-change : goal.invariant-loop-change
invariant-loop-change g l = record {
  within : StaysWithin l.written;
  text : l.written.places.text ≡ l.dump;
  so_far : (start : ℕ) × (put : List PutChange)
      × (ends_definitions_at l.dump start ≡ true)
      × IsPutSoFar l.dump l.annotation.listing.now l.annotation.changes.now start l.change-index put l.written
      × HasPut (g.W.Sink.writing l.fn.sink) (g.W.Sink.writing l.sink) l.buffer
      (written_front l.dump l.annotation.added.now.scope l.annotation.added.now.own start put l.written.count);
}
