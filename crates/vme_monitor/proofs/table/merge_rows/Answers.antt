use Rattle.std.proofs.Common.{◌∷◌, [], map}
use Rattle.std.specs.Global.{Vec}
use Rattle.std.proofs.lemmas.List.{map-append}
use Rattle.vme_monitor.specs.Walk.{outcome_of, link_value, link_values}
use Rattle.vme_monitor.specs.declared.link.Link.{Link}
use Rattle.vme_monitor.proofs.Reaches.{reach-rejoin}
use Rattle.vme_monitor.proofs.Storing.{marks_of-rejoined}
use Rattle.vme_monitor.proofs.table.merge_rows.Goals as goal

pub returns-in_ok-push : goal.returns-in_ok-push
returns-in_ok-push g c =
    let m = c.in_ok-links.ensures.rejoined in
    let e = map-append (λ (l : Vec Link). map link_value l.items) c.args.layers.now.items (c.in_ok-links.links ∷ []) in
    record {
      reached = λ k. rw (c.in_ok-push.ensures.items, e, m.1) (reach-rejoin (link_values c.args.layers.now.items) m.0
          (map outcome_of c.args.rows.now.items) (map link_value c.in_ok-links.links.items) k m.2);
      bounded = λ a. rw c.as_slice-then-have_merged.ensures.value at c.most_sensitive.ensures;
      apart = c.in_ok-links.ensures.apart;
      among = c.in_ok-links.ensures.among;
      marks = rw (c.in_ok-push.ensures.items, e, m.1) (marks_of-rejoined (link_values c.args.layers.now.items) m.0
          (map outcome_of c.args.rows.now.items) (map link_value c.in_ok-links.links.items) m.2);
    }
