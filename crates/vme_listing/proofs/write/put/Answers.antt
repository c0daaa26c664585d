use Rattle.std.proofs.Common.{◌++◌, take}
use Rattle.std.proofs.KnownBytes.{Appends-trans}
use Rattle.std.proofs.Common.{◌∙◌}
use Rattle.vme_listing.proofs.Fronts.{text-after_taking}
use Rattle.vme_listing.proofs.write.put.Goals as goal

pub loop-rest-preserved : goal.loop-rest-preserved
loop-rest-preserved g c =
    let (done, split, appended, same) = c.loop-rest.invariant in
    let rest = c.loop-rest.rest.now in
    let n = c.in-Ok.taken in (
      done ++ take n rest,
      text-after_taking _ done rest n split,
      Appends-trans _ _ _ _ _ appended c.in-Ok.ensures.bytes,
      c.in-Ok.ensures.failures ∙ same,
    )
