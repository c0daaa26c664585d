use Rattle.std.proofs.Common.{◌≤◌, ◌∙◌, ap, length, rules, subst, sym}
use Rattle.std.proofs.lemmas.List.{places}
use Rattle.std.proofs.lemmas.Result.{err_from_is_err_and}
use Rattle.std.specs.Prelude.{Result, Some}
use Rattle.vcd_read.specs.Contents.{Contents}
use Rattle.vme_stream.specs.Inputs.{longest_input}
use Rattle.vme_stream.specs.declared.refusal.Refusal.{Refusal}
use Rattle.vme_stream.proofs.AnswerLemmas.{dump_read-whole, dump_read-fault}
use Rattle.vme_stream.proofs.InputLemmas.{IsReading-unread}
use Rattle.vme_commands.specs.declared.built_in.TheConstants.{BLOCK}
use Rattle.vme_annotate.specs.Prepared.{GivesPrepared}
use Rattle.vme_annotate.specs.TimedListings.{recording_to_list}
use Rattle.vme_annotate.proofs.ListedLemmas.{settled_recording-bound, settled_recording-unread_binding}
use Rattle.vme_annotate.proofs.ListedLemmas.{settled_recording-unread_dump}
use Rattle.vme_annotate.proofs.annotating.annotated_from.Goals as goal

pub returns-in_err-bound : goal.returns-in_err-bound
returns-in_err-bound g c =
    let p = err_from_is_err_and c.from_residual.result c.from_residual.ensures.1 in
    let refusal = c.in_err-bound.field-0.0 in
    let (binding, binding_reading, refused) = c.in_err-bound.ensures in
    let left = IsReading-unread (g.D.Source.reading c.args.dump.now) in
    rw (p.1, p.2) (
      binding,
      left.0,
      binding_reading,
      left.1,
      settled_recording-unread_binding c.args.skew BLOCK binding left.0 refusal refused,
    )

pub returns-in-Ok : goal.returns-in-Ok
returns-in-Ok g c =
    let bound = c.in_ok-bound.bound in
    let (binding, binding_reading, bound_is) = c.in_ok-bound.ensures in
    let text = c.in-Ok.text.items in
    let short : length text ≤ longest_input = search (rules, places) in
    let read = settled_recording-bound c.args.skew BLOCK binding (Some text) bound bound_is
    ∙ ap (λ (dump : Result Contents Refusal). recording_to_list c.args.skew bound dump BLOCK)
    (dump_read-whole text short) in (
      binding,
      Some text,
      binding_reading,
      c.in-Ok.ensures.bytes,
      subst (GivesPrepared (Some text) c.annotated_in.result) (sym read) c.annotated_in.ensures,
    )

pub returns : goal.returns
returns g c =
    let (binding, binding_reading, bound_is) = c.in_ok-bound.ensures in
    let (bytes, reading, refused) = dump_read-fault _ _ c.read_all.result c.in-Err.fault c.in-Err.is
    c.read_all.ensures.read c.read_all.ensures.too_long c.read_all.ensures.memory in
    rw c.of_input.ensures (
      binding,
      bytes,
      binding_reading,
      reading,
      settled_recording-unread_dump c.args.skew BLOCK binding bytes c.in_ok-bound.bound _ bound_is refused,
    )
