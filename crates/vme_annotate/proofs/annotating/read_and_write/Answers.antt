use Rattle.std.proofs.Common.{[], inl, refl}
use Rattle.std.specs.Prelude.{Err, Ok}
use Rattle.std.proofs.KnownBytes.{Appends-nil}
use Rattle.vme_annotate.proofs.EndsLemmas.{IsAnnotationOf-annotated}
use Rattle.vme_annotate.proofs.EndsLemmas.{IsAnnotationOf-refused}
use Rattle.vme_annotate.proofs.annotating.read_and_write.Goals as goal

pub returns-in-Ok : goal.returns-in-Ok
returns-in-Ok g c =
    let (binding, dump, binding_reading, dump_reading, given) = c.in-Ok.ensures in
    let (t, recorded, prepared, dump_is) = given in
    let (text, annotated, ends) = c.write_or_complain.ensures t prepared in (
      binding,
      dump,
      Ok t,
      text,
      binding_reading,
      dump_reading,
      recorded,
      IsAnnotationOf-annotated dump c.in-Ok.annotated.text.items t text dump_is annotated,
      ends,
    )

pub returns-in-Err : goal.returns-in-Err
returns-in-Err g c =
    let (binding, dump, binding_reading, dump_reading, given) = c.in-Err.ensures in (
      binding,
      dump,
      Err c.in-Err.refusal,
      [],
      binding_reading,
      dump_reading,
      given,
      IsAnnotationOf-refused dump c.in-Err.refusal [],
      inl (record {
        out_is = (Appends-nil _, refl);
        err_is = c.tell_refusal.ensures.told;
        status_is = c.tell_refusal.ensures.status;
      }),
    )
