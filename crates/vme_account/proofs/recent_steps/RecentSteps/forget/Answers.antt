use Rattle.std.proofs.Common.{◌∙◌, append-nil, arith}
use Rattle.vme_account.proofs.RecentLemmas.{length-older_within, drop-newer}
use Rattle.vme_account.proofs.recent_steps.RecentSteps.forget.Goals as goal

pub overflow_cast-instant : goal.overflow_cast-instant
overflow_cast-instant c =
    let (t, recent, short) = c.requires in
    let r = c.args.self.now in
    let behind = length-older_within t r.first r.older.items r.newer.items recent.kept recent.within in
    omega (arith, c.len.ensures, behind, short)

pub overflow_add-instant : goal.overflow_add-instant
overflow_add-instant c =
    let (t, recent, short) = c.requires in
    let r = c.args.self.now in
    let behind = length-older_within t r.first r.older.items r.newer.items recent.kept recent.within in
    omega (arith, c.len.ensures, behind, short)

pub returns : goal.returns
returns c = λ t recent.
    let r = c.args.self.now in record {
      levels = c.levels_at-before.ensures t recent;
      time_is = c.time_at-time.ensures t recent;
      kept = rw (c.swap.ensures.x_after, c.swap.ensures.y_after, c.clear.ensures.items, c.len.ensures, r.older.ok.0)
          (append-nil r.newer.items ∙ drop-newer t r.first r.older.items r.newer.items recent.kept);
      within = omega (
        arith,
        c.len.ensures,
        r.older.ok.0,
        length-older_within t r.first r.older.items r.newer.items recent.kept recent.within,
      );
    }
