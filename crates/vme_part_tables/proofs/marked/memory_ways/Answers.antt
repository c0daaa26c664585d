use Rattle.std.proofs.Common.{◌≡◌, ◌<◌, None, ap, subst, ◌∙◌, arith, map, rules}
use Rattle.vme_part_format.specs.Tables.{node_value}
use Rattle.vme_part_tables.specs.Marked.{AddsBefore, if_needed, is_needed, made_outcome, marks_if, onward_outcome}
use Rattle.vme_part_tables.proofs.MarkedLemmas.{AreMade-push, AgreeBelow-one_more, AgreesWithRun-of_outcome}
use Rattle.vme_part_tables.proofs.marked.memory_ways.Goals as goal

pub loop-place-preserved : goal.loop-place-preserved
loop-place-preserved g c =
    let same = c.loop-place.invariant.memories in
    let m = c.args.made.now.memories in
    let place = g.M.Finite.place_of in
    let nth = g.M.Finite.nth_of in
    let says = g.M.Monitor.outcome c.args.summary.now in
    let b = is_needed c.args.needs.now c.loop-place.place in
    let run = if_needed b (says (nth c.loop-place.place)) in
    let memory = c.nth-memory.ensures in
    let old = map node_value c.loop-place.made.nodes.items in
    let new = map node_value c.through.new.self.nodes.items in
    let left : c.leaving-left.result ≡ run.leaving = c.leaving-left.ensures ∙ ap (λ p. (says p).leaving) memory in
    let found : c.event-found.result ≡ run.first_break = c.event-found.ensures ∙ ap (λ p. (says p).first_break)
    memory in
    let shown : c.in_ok-marks.marks.items ≡ run.marks =
    c.in_ok-marks.ensures
    ∙ (ap (λ x. marks_if x (says c.nth-memory.result).marks) c.is_needed.ensures
    ∙ ap (λ p. marks_if b (says p).marks) memory) in
    let at : c.place.result ≡ place run.leaving = c.place.ensures ∙ ap place left in
    let low : place run.leaving < m = rw c.requires.memories (g.met.M.Finite.placed run.leaving) in
    let way = rw same at c.in_ok-way.ensures.way in
    let kept = rw same at c.in_ok-way.ensures.kept in
    let made = rw same at c.in_ok-way.ensures.made in
    let says = rw (c.widened.ensures, c.as_slice.ensures.value, found, shown, at) at c.in_ok-way.ensures.says in
    let says =
    subst (λ m. AddsBefore run.first_break run.marks
    (made_outcome m old None (place run.leaving)) (onward_outcome m new c.in_ok-way.way)) same says in
    record {
      memories = c.in_ok-way.ensures.memories ∙ same;
      count = omega (arith, c.in_ok-way.ensures.one, c.loop-place.invariant.count);
      made = made;
      ways = AreMade-push m c.loop-place.made.nodes.items c.through.new.self.nodes.items
          c.loop-place.onward.items c.push.new.self.items c.in_ok-way.way c.in_ok-push.ensures.items
          c.loop-place.invariant.ways c.in_ok-way.ensures.more way;
      as_many = search rules;
      says = AgreeBelow-one_more place m c.loop-place.made.nodes.items c.through.new.self.nodes.items
          c.loop-place.onward.items c.push.new.self.items c.in_ok-way.way
          (λ k. if_needed (is_needed c.args.needs.now k) (g.M.Monitor.outcome c.args.summary.now (nth k)))
          c.loop-place.place c.in_ok-push.ensures.items
          (search rules) c.loop-place.invariant.ways kept
          (AgreesWithRun-of_outcome place m old run.leaving run.first_break run.marks
          (onward_outcome m new c.in_ok-way.way) low says)
          c.loop-place.invariant.says;
    }
