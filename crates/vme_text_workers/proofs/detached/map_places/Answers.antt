use Rattle.std.proofs.Common.{arith}
use Rattle.vme_text_workers.proofs.detached.map_places.Goals as goal

pub in_places-requires : goal.in_places-requires
in_places-requires g c = λ k d lt.
    (c.in_ok-takers.ensures.each k d (omega (arith, c.in_ok-takers.ensures.len, c.in_ok-takers.takers.ok.0))).1.met
