use Rattle.vme_annotation.proofs.UnusedLemmas.{AreFree-unused}
use Rattle.vme_annotate.proofs.added.added_to.Goals as goal

pub returns-in-Ok-added_beside : goal.returns-in-Ok-added_beside
returns-in-Ok-added_beside c =
    let read = rw c.new.ensures.taken at c.in-Ok.ensures in
    let beside = rw c.as_slice.ensures at c.in-Ok-added_beside.ensures in (
      _,
      read,
      record {
        underscores = beside.underscores;
        scope = beside.scope;
        scope_is = beside.scope_is;
        count_is = beside.count_is;
        codes_are =
            AreFree-unused c.args.dump.now beside.start _ c.in-Ok-added_beside.added.own beside.starts read beside.each
            beside.ascend;
      },
    )
