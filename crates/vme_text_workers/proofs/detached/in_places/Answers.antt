use Rattle.vme_text_workers.proofs.PlaceLemmas.{AreResultsByPlace-none}
use Rattle.vme_text_workers.proofs.detached.in_places.Goals as goal

pub put_each-requires-clause-all : goal.put_each-requires-clause-all
put_each-requires-clause-all g c =
    rw c.as_mut_slice.ensures.value
    (AreResultsByPlace-none (goal.F-post g c.args._f.now) c.in_ok-all.all.items c.in_ok-all.ensures)
