use Rattle.std.proofs.Common.{◌++◌, suc, length, take, ap, subst, ◌∙◌}
use Rattle.std.specs.Io.KnownBytes.{Appends}
use Rattle.std.proofs.KnownBytes.{Appends-trans, Appends-kept}
use Rattle.vme_stream.proofs.OutputLemmas.{append-next_written, take-done}
use Rattle.vme_stream.proofs.output.write_all.Goals as goal

pub loop-rest-preserved : goal.loop-rest-preserved
loop-rest-preserved g c =
    let (done, split, appended, same) = c.loop-rest.invariant in
    let rest = c.loop-rest.rest.now in
    let count = c.in-Ok.count in (
      done ++ take count rest,
      append-next_written _ done rest count split,
      Appends-trans _ _ _ _ _ appended
          c.in-Ok.ensures.bytes,
      c.in-Ok.ensures.failures ∙ same,
    )

pub returns-in-Err : goal.returns-in-Err
returns-in-Err g c =
    let (done, split, appended, same) = c.loop-rest.invariant in
    let kept = Appends-kept _ _ _ _ appended c.in-Err.ensures.bytes in
    ((length done, subst (Appends _ _) (take-done _ done _ split) kept), c.in-Err.ensures.failures ∙ ap suc same)
