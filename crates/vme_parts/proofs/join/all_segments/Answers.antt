use Rattle.std.proofs.Common.{rules, ◌≡◌, List, [], ◌∷◌, ◌++◌, length, map, ap, sym, ◌∙◌, refl, subst, arith}
use Rattle.std.proofs.Common.{append_assoc}
use Rattle.std.proofs.Common.{append-nil}
use Rattle.std.specs.Vec.Iter.{into_iter_items}
use Rattle.std.proofs.lemmas.List.{map-append, nil_from_length}
use Rattle.vme_part_format.specs.Tables.{SegmentValue, part_value, segment_value}
use Rattle.vme_part_format.specs.declared.part.Part.{Part}
use Rattle.vme_parts.specs.Gathering.{segments_of}
use Rattle.vme_parts.proofs.JoinedParts.{segments_of-push}
use Rattle.vme_parts.proofs.join.all_segments.Goals as goal

pub loop-part-init : goal.loop-part-init
loop-part-init c =
    record {
      next = tt;
      finite = tt;
      counted = search rules;
      whole = c.into_iter-part-iterator.ensures.into_iter_gives.0;
      made = rw c.new-all.ensures.items refl;
    }

pub loop-part-preserved : goal.loop-part-preserved
loop-part-preserved c =
    let at = c.loop-part in
    let x = c.in-Some.part in
    let more = into_iter_items c.next.new.self in
    let steps : into_iter_items at.part-iterator ≡ x ∷ more = c.in-Some.ensures.steps.0 in
    record {
      next = tt;
      finite = tt;
      counted =
          let was = at.invariant.counted in
          let gone = c.in-Some.ensures.steps.1 in
          let short = ap (λ (l : List Part). length l) steps in
          omega (arith, was, gone, short);
      whole = append_assoc at.yielded (x ∷ []) more ∙ rw (← steps) at.invariant.whole;
      made =
          ap (map segment_value) c.in_ok-append.ensures.items
          ∙ (map-append segment_value at.all.items x.segments.items
          ∙ (ap (λ (ss : List SegmentValue). ss ++ map segment_value x.segments.items) at.invariant.made
          ∙ segments_of-push at.yielded x));
    }

pub returns : goal.returns
returns c =
    let at = c.loop-part in
    let empty : into_iter_items at.part-iterator ≡ []
    = nil_from_length (into_iter_items at.part-iterator) (sym at.invariant.counted ∙ c.in-None.ensures.steps.0) in
    let all : at.yielded ≡ c.args.parts.items = sym (append-nil at.yielded) ∙ rw empty at at.invariant.whole in
    subst (λ (xs : List Part). map segment_value at.all.items ≡ segments_of (map part_value xs)) all at.invariant.made
