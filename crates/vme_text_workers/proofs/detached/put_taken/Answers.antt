use Rattle.std.proofs.Common.{ℕ, Some}
use Rattle.std.proofs.lemmas.List.Elements.{All-pop}
use Rattle.vme_text_workers.proofs.detached.put_taken.Goals as goal

pub put-requires-clause-given : goal.put-requires-clause-given
put-requires-clause-given g c =
    (All-pop (λ (one : ℕ × g.row.X.Denot). goal.F-post g c.args._f.now one.0 (Some one.1)) c.loop-place.left.items
    c.pop.new.self.items (Some (c.in-Some.place, c.in-Some.given)) c.in-Some.ensures.items
    c.loop-place.invariant.left).1

pub loop-place-preserved : goal.loop-place-preserved
loop-place-preserved g c = record {
  left =
      (All-pop (λ (one : ℕ × g.row.X.Denot). goal.F-post g c.args._f.now one.0 (Some one.1)) c.loop-place.left.items
      c.pop.new.self.items (Some (c.in-Some.place, c.in-Some.given)) c.in-Some.ensures.items
      c.loop-place.invariant.left).0;
  all = c.put.ensures;
}
