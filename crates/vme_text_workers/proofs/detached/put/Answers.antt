use Rattle.vme_text_workers.proofs.PlaceLemmas.{AreResultsByPlace-set}
use Rattle.vme_text_workers.proofs.detached.put.Goals as goal

pub returns : goal.returns
returns g c =
    AreResultsByPlace-set (goal.F-post g c.args._f.now) c.args.all.now c.args.place c.args.given c.requires.all
    c.requires.given
