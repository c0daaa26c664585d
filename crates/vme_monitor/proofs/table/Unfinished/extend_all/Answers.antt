use Rattle.std.proofs.Common.{rules, ◌≡◌, ap, arith, drop, length, map, take, ◌++◌, ◌∙◌}
use Rattle.std.proofs.lemmas.Grind.{common_steps}
use Rattle.vme_monitor.specs.Run.{machine_step}
use Rattle.vme_monitor.specs.Walk.{link_values, outcome_of}
use Rattle.vme_monitor.specs.declared.view.StepView.{StepView}
use Rattle.vme_monitor.proofs.DistinctRows.{KeepApart-advanced}
use Rattle.vme_monitor.proofs.Summarising.{GiveRuns-merged}
use Rattle.vme_monitor.proofs.table.Unfinished.extend_all.Goals as goal

pub returns : goal.returns
returns g c =
    let kept : length c.advance.new.rows ≡ c.args.self.now.rows.len = search rules in
    let rows : take c.args.self.now.rows.len (c.advance.new.rows ++ drop (length c.advance.new.rows)
    c.args.self.now.rows.items) ≡ c.advance.new.rows = grind (arith, common_steps, kept) in
    let stepped = rw c.as_mut_slice-rows.ensures.value at c.in_ok-advance.ensures in
    let after = ap (λ (v : StepView). v.after) c.requires.view in
    record {
      runs = λ o x b n t.
          GiveRuns-merged g.M.Machine.observation g.M.Machine.next g.M.Memory.Enumerable.place_of
          g.M.Machine.sensitivity_of g.M.Machine.threshold_of c.args.view.now.before o x c.args.step.now b
          g.met.M.Machine.below_threshold c.args.view.now.after c.args.seen.now after c.requires.seen c.args.instant n
          g.met.M.Machine.never_more_sensitive c.args.self.now.layers.items c.merge_rows.new.layers.items
          c.args.self.now.rows.items _ c.merge_rows.new.rows.items c.args.self.now.most _ c.in_ok-self.field-0
          (ap (map outcome_of) rows ∙ stepped) c.in_ok-self.ensures.reached (λ h. rw c.as_slice.ensures.value at
          c.most_sensitive-most.ensures) c.in_ok-self.ensures.bounded t;
      apart = λ o x b n t k.
          KeepApart-advanced (machine_step g.M.Machine.observation g.M.Machine.next) g.M.Memory.Enumerable.COUNT
          g.M.Memory.Enumerable.place_of g.M.Memory.Enumerable.nth_of g.met.M.Memory.Enumerable.placed
          g.met.M.Memory.Enumerable.found c.args.view.now.before c.args.view.now.after c.args.step.now o x b after
          c.args.instant c.args.step.now.time (link_values c.args.self.now.layers.items)
          (link_values c.merge_rows.new.layers.items) (map outcome_of c.args.self.now.rows.items) _
          (map outcome_of c.merge_rows.new.rows.items)
          (ap (map outcome_of) rows ∙ stepped) c.in_ok-self.ensures.apart c.in_ok-self.ensures.among
          c.in_ok-self.ensures.marks k;
    }
