use Rattle.std.proofs.Common.{inl, inr}
use Rattle.vme_stream.specs.declared.refusal.Input.TheVariants.{Listing}
use Rattle.vme_program.proofs.Refusals.{WritesAnswer-cannot_open}
use Rattle.vme_program.proofs.confirm.confirm_listing.Goals as goal

pub returns-in-Some : goal.returns-in-Some
returns-in-Some g c =
    let (status, listing) = c.confirm_with-status.result in
    inr (
      (_, g.S.Reader.Source.reading listing),
      rw c.as_str.ensures.value at c.in-Some.ensures,
      c.confirm_with-status.ensures.answer,
    )

pub returns-in-None : goal.returns-in-None
returns-in-None g c = inl (
  rw c.as_str.ensures.value at c.in-None.ensures,
  WritesAnswer-cannot_open Listing (g.O.Sink.writing c.args.out.now)
      (g.E.Sink.writing c.args.err.now, g.E.Sink.writing c.refuse_input.new.err)
      c.refuse_input.result c.refuse_input.ensures.told c.refuse_input.ensures.status,
)
