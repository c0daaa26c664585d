use Rattle.std.proofs.Common.{refl}
use Rattle.vme_commands.proofs.JudgedLemmas.{limited_in_blocks-judged, limited_in_blocks-refused}
use Rattle.vme_commands.proofs.list.listing_of_steps.Goals as goal

pub returns-in-Ok : goal.returns-in-Ok
returns-in-Ok c =
    let told = c.in-Ok.ensures in
    λ formed. (
      c.args.lister,
      limited_in_blocks-judged c.args.lister c.args.block _ told.too_many_steps told.too_many_blocks
          c.in-Ok.listing refl,
      told.listing formed,
    )

pub returns-in-Err : goal.returns-in-Err
returns-in-Err c =
    let told = c.in-Err.ensures in
    λ formed.
    rw c.of_judging.ensures
    (limited_in_blocks-refused c.args.lister c.args.block _ told.too_many_steps told.too_many_blocks c.in-Err.why refl)
