use Rattle.std.proofs.Common.{◌+◌, ◌<◌, ◌≤◌, ◌^◌, ◌++◌, ap, get_or, refl, subst, ◌∙◌}
use Rattle.std.specs.Option.{option_or}
use Rattle.std.proofs.lemmas.Result.{on_ok_weaker}
use Rattle.vme_part_format.specs.declared.table.TableNode.{TableNode}
use Rattle.vme_part_tables.specs.Shortened.{next_past}
use Rattle.vme_part_tables.proofs.Shortening.{later_node-next_bound, SayTheSame-set}
use Rattle.vme_part_tables.proofs.shorten.take_in.Goals as goal

pub next_past-next-requires : goal.next_past-next-requires
next_past-next-requires c =
    subst (λ (x : TableNode). c.args.memories ≤ x.next → x.next + (c.args.between + 1) < 2 ^ 32)
    c.index-nodes-place.is
    (λ past. later_node-next_bound c.args.memories c.args.nodes.now c.args.place c.args.between c.requires.may
    c.requires.go_on
    c.index-nodes-place.result c.index-nodes-place.is c.requires.few past)

pub returns : goal.returns
returns c =
    let xs = c.args.nodes.now in
    let k = c.args.place + 1 + c.args.between in
    let n = get_or xs c.args.place c.index-nodes-place-2.result in
    let j = get_or xs k c.index-nodes-place.result in
    on_ok_weaker c.lengthen.result
    (λ made. SayTheSame-set c.args.memories xs c.args.place c.args.between c.requires.may c.requires.go_on n j
    c.lengthen.new.node _ (ap (get_or xs c.args.place) c.index-nodes-place-2.is)
    (ap (get_or xs k) c.index-nodes-place.is) refl
    (made
    ∙ (ap (λ next. record {
      next = next;
      first_break = option_or n.first_break j.first_break;
      marks = n.marks.items ++ c.in_ok-more.more.items;
    }) c.next_past-next.ensures
    ∙ ap (λ marks. record {
      next = next_past c.args.memories c.args.between j.next;
      first_break = option_or n.first_break j.first_break;
      marks = n.marks.items ++ marks;
    }) (c.in_ok-more.ensures ∙ c.as_slice.ensures.value))))
    c.lengthen.ensures
