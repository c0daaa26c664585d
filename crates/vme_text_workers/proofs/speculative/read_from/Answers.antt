use Rattle.std.proofs.Common.{subst, sym}
use Rattle.vme_text_workers.specs.SpeculativeChunks.{AreAhead}
use Rattle.vme_text_workers.proofs.JoinLemmas.{AreAhead-by_place, AreAhead-none}
use Rattle.vme_text_workers.proofs.speculative.read_from.Goals as goal

pub returns-then-all : goal.returns-then-all
returns-then-all g c =
    subst (AreAhead c.args.speculative.now.body.nets c.args.speculative.now.line_bits c.args.pieces.now)
    (sym c.new.ensures.items)
    (AreAhead-none c.args.speculative.now.body.nets c.args.speculative.now.line_bits c.args.pieces.now)

pub returns : goal.returns
returns g c =
    AreAhead-by_place c.args.speculative.now c.args.pieces.now c.in_ok-all.all.items
    (λ place one is. c.in_ok-all.ensures place one is)
