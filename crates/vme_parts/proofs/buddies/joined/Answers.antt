use Rattle.std.proofs.Common.{◌+◌, ◌≤◌, ◌^◌, [], ◌∷◌, arith}
use Rattle.vme_part_format.specs.Tables.{segment_value}
use Rattle.vme_parts.specs.Alike.{HaveManyNodes}
use Rattle.vme_parts.proofs.Likeness.{IsSegmentRefusal-many_nodes}
use Rattle.vme_parts.proofs.ManyNodes.{HaveManyNodes-not_compact, HaveManyNodes-not_few}
use Rattle.vme_parts.proofs.buddies.joined.Goals as goal

pub joined_in-requires-clause-few : goal.joined_in-requires-clause-few
joined_in-requires-clause-few c = c.have_few_nodes.ensures.few c.if-not-have_few_nodes.false

pub returns-in_default-clause-refused : goal.returns-in_default-clause-refused
returns-in_default-clause-refused c = omega (arith, c.in_default.ensures)

pub returns-then-not-have_few_nodes-clause-refused : goal.returns-then-not-have_few_nodes-clause-refused
returns-then-not-have_few_nodes-clause-refused c =
    HaveManyNodes-not_few (segment_value c.args.first) (segment_value c.args.second) c.requires.first
    (c.have_few_nodes.ensures.many c.if-not-have_few_nodes.true)

pub returns-in-Err-clause-refused : goal.returns-in-Err-clause-refused
returns-in-Err-clause-refused c =
    let s = segment_value c.args.first in
    let t = segment_value c.args.second in
    let (why_is, not_compact) = c.in-Err.ensures.refused in
    IsSegmentRefusal-many_nodes (2 ^ 64 ≤ s.steps + t.steps) (HaveManyNodes (s ∷ t ∷ [])) c.in-Err.why why_is
    (HaveManyNodes-not_compact s t (segment_value c.in-Ok.segment) c.requires.first c.in-Ok.ensures not_compact)
