use Rattle.std.proofs.Common.{refl, subst, sym}
use Rattle.std.specs.Prelude.{Err, Some}
use Rattle.vme_stream.specs.declared.refusal.Refusal.{Refusal}
use Rattle.vme_commands.specs.declared.built_in.TheConstants.{BLOCK}
use Rattle.vme_annotate.specs.Prepared.{GivesPrepared, recording_in}
use Rattle.vme_annotate.proofs.RecordedLemmas.{defines, has_times, IsRecorded-listed}
use Rattle.vme_annotate.proofs.annotating.annotated_in.Goals as goal

pub returns-in-Err : goal.returns-in-Err
returns-in-Err c = rw c.deref.ensures.value at c.in-Err.ensures

pub added_to-requires : goal.added_to-requires
added_to-requires c =
    let (t, is, timed) = rw c.deref.ensures.value at c.in-Ok.ensures in
    rw c.deref-2.ensures.value
    (defines c.args.skew c.args.bound.now c.args.text.items t
    (IsRecorded-listed c.args.skew c.args.bound.now c.args.text.items BLOCK t is))

pub returns-in-Err-added_to : goal.returns-in-Err-added_to
returns-in-Err-added_to c =
    subst (λ (r : Refusal). GivesPrepared (Some c.args.text.items) (Err r)
    (recording_in c.args.skew c.args.bound.now c.args.text.items)) (sym c.in-Err-added_to.ensures) tt

pub returns-in-Ok-changes_of : goal.returns-in-Ok-changes_of
returns-in-Ok-changes_of c =
    let (t, is, timed) = rw c.deref.ensures.value at c.in-Ok.ensures in (
      t,
      is,
      record {
        timed = timed;
        has_times = has_times c.args.skew c.args.bound.now c.args.text.items t
            (IsRecorded-listed c.args.skew c.args.bound.now c.args.text.items BLOCK t is);
        planned = rw c.rows.ensures at c.in-Ok-changes_of.ensures;
        added = rw c.deref-2.ensures.value at c.in-Ok-added_to.ensures;
      },
      refl,
    )
