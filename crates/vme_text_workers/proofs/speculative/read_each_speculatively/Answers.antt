use Rattle.vme_text_workers.proofs.JoinLemmas.{AreAhead-by_place}
use Rattle.vme_text_workers.proofs.speculative.read_each_speculatively.Goals as goal

pub returns : goal.returns
returns g c =
    AreAhead-by_place c.args.speculative.now c.args.pieces.now c.in_ok-all.all.items
    (λ place one is. c.in_ok-all.ensures place one is)
