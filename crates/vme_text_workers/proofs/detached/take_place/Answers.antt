use Rattle.std.proofs.Common.{ℕ, Some, is_ok}
use Rattle.vme_text_workers.proofs.PlaceLemmas.{All-push_if_room}
use Rattle.vme_text_workers.proofs.detached.take_place.Goals as goal

pub returns : goal.returns
returns g c =
    All-push_if_room (λ (one : ℕ × g.row.X.Denot). goal.F-post g c.args.f.now one.0 (Some one.1)) c.args.taken.now.items
    c.push.new.self.items (c.args.place, c.in-Some.given) (is_ok c.push.result) c.push.ensures.items c.requires.taken
    c.in-Some.ensures
