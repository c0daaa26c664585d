-- The workers begin with nothing collected, and the report counts the blocks that were taken early.
use Rattle.std.proofs.Common.{rules, ◌≡◌, ℕ, ◌≤◌, Result, Ok, Err, IfOk, sym, subst, ap}
use Rattle.vme_core.specs.declared.view.View.{View}
use Rattle.vme_board.specs.Benches.{view_of}
use Rattle.vme_floor.specs.Claims.{IsEarly}
use Rattle.vme_floor.specs.Collecting.{IsCollected}
use Rattle.vme_floor.specs.Accounts.{IsAccount, IsOwnEarly}
use Rattle.vme_floor.specs.declared.report.Report.{Report}
use Rattle.vme_floor.specs.declared.report.RunFault.{RunFault}
use Rattle.vme_floor.proofs.runner.run_deliveries.Goals as goal

-- the count of a report satisfies `IsEarly` if it is at most `total`, and is `total` where one worker works
IsEarly-of_report : (total workers : ℕ) (P : ℕ → Type 0) (r : Result Report RunFault) → IfOk r (λ x. x.early ≤ total)
    → IfOk r (λ x. P x.early) → ((early : ℕ) → P early → workers ≡ 1 → early ≡ total)
    → IfOk r (λ x. IsEarly total workers x.early)
IsEarly-of_report total workers P (Ok x) within own alone = record { within = within; alone = alone x.early own }
IsEarly-of_report total workers P (Err fault) within own alone = tt

pub work_together-requires-clause-collected : goal.work_together-requires-clause-collected
work_together-requires-clause-collected g c κs within =
    subst (λ (t : ℕ). IsCollected t (view_of c.in-Ok.bench) c.in-Ok-new.collection) (sym c.in-Ok.ensures.total)
    (c.in-Ok-new.ensures (view_of c.in-Ok.bench) (ap (λ (v : View). v.takes) c.in-Ok.ensures.first))

pub returns-in-Ok-close-clause-early : goal.returns-in-Ok-close-clause-early
returns-in-Ok-close-clause-early g c =
    let all = c.in-Ok-work_together.all in let v : View = view_of all.work.bench in
    let account : IsAccount c.args.total c.args.deliveries.now v all.work.replies.items all.collection
    c.in-Ok-close.closed = search rules in
    IsEarly-of_report c.args.total c.args.workers (IsOwnEarly c.args.total c.args.deliveries.now all.work.replies.items
    all.collection c.in-Ok-close.closed) c.finish_run.result c.finish_run.ensures.within c.finish_run.ensures.own
    (λ early own one. own v account (c.in-Ok-work_together.ensures.own one))
