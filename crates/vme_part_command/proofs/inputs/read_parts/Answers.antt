use Rattle.std.proofs.Common.{◌≡◌, ◌++◌, ◌∷◌, ◌∙◌, [], length, map, refl, rules, sym}
use Rattle.std.proofs.lemmas.List.{length-map, map_push, places}
use Rattle.std.specs.Prelude.{vec_len}
use Rattle.vme_bind.proofs.PathSearchLemmas.{drop-set_same_rest}
use Rattle.vme_part_format.specs.Tables.{part_value}
use Rattle.vme_part_command.proofs.ReadLemmas.{ReadParts-all, HasFaultAt-place, HaveRead-one_more, HaveRead-none}
use Rattle.vme_part_command.proofs.ReadLemmas.{map-set_same_name}
use Rattle.vme_part_command.proofs.inputs.read_parts.Goals as goal

pub loop-input-init : goal.loop-input-init
loop-input-init g c = record {
  rest = refl;
  read = rw c.new-parts.ensures.items (HaveRead-none (map (λ i. g.P.Source.reading i.part) c.args.inputs.now)
      (map (λ i. g.P.Source.reading i.part) c.args.inputs.now));
  names = refl;
}

pub loop-input-preserved : goal.loop-input-preserved
loop-input-preserved g c =
    let l = c.loop-input in
    let part = c.in-Ok.part in
    let e : map part_value c.push.new.self.items ≡ map part_value l.parts.items ++ part_value part ∷ [] =
    rw c.in_ok-push-in-Ok.ensures.items (map_push part_value l.parts.items part) in
    record {
      rest = drop-set_same_rest l.inputs c.args.inputs.now l.input-index c.part_in.new.input l.invariant.rest;
      read = rw e (HaveRead-one_more (λ i. g.P.Source.reading i.part) c.args.inputs.now l.inputs l.input-index
          c.input-item.result c.part_in.new.input (map part_value l.parts.items)
          (search rules) (search rules) c.input-item.is l.invariant.rest l.invariant.read (part_value part)
          c.in-Ok.ensures.fits c.in-Ok.ensures.read);
      names = map-set_same_name (λ i. i.name.now) l.inputs l.input-index c.input-item.result c.part_in.new.input
          (search rules) c.part_in.ensures.name ∙ l.invariant.names;
    }

pub returns-in_err-push-in-Ok-clause-names : goal.returns-in_err-push-in-Ok-clause-names
returns-in_err-push-in-Ok-clause-names g c =
    map-set_same_name (λ i. i.name.now) c.loop-input.inputs c.loop-input.input-index c.input-item.result
    c.part_in.new.input
    (search rules) c.part_in.ensures.name ∙ c.loop-input.invariant.names

pub returns-in-Err-Memory-clause-names : goal.returns-in-Err-Memory-clause-names
returns-in-Err-Memory-clause-names g c =
    map-set_same_name (λ i. i.name.now) c.loop-input.inputs c.loop-input.input-index c.input-item.result
    c.part_in.new.input
    (search rules) c.part_in.ensures.name ∙ c.loop-input.invariant.names

pub returns-in-Err-Fault-clause-names : goal.returns-in-Err-Fault-clause-names
returns-in-Err-Fault-clause-names g c =
    map-set_same_name (λ i. i.name.now) c.loop-input.inputs c.loop-input.input-index c.input-item.result
    c.part_in.new.input
    (search rules) c.part_in.ensures.name ∙ c.loop-input.invariant.names

pub returns-in-Err-Fault-clause-unread : goal.returns-in-Err-Fault-clause-unread
returns-in-Err-Fault-clause-unread g c =
    let l = c.loop-input in
    let fault = c.in-Err-Fault.fault in
    let held : vec_len l.parts ≡ length l.parts.items = search (rules, places) in
    let many : c.len-place.result ≡ length (map part_value l.parts.items)
    = c.len-place.ensures ∙ (held ∙ sym (length-map l.parts.items part_value)) in
    rw c.in-Err-Fault.field-0-is (HasFaultAt-place (λ i. g.P.Source.reading i.part) c.args.inputs.now l.inputs
    l.input-index
    c.input-item.result c.part_in.new.input (map part_value l.parts.items) (search rules) (search rules) c.input-item.is
    l.invariant.rest l.invariant.read c.len-place.result fault many
    (rw c.in-Err-Fault.field-0-is at c.in-Err-Fault.ensures.fault))

pub returns-clause-read : goal.returns-clause-read
returns-clause-read g c =
    ReadParts-all (λ i. g.P.Source.reading i.part) c.args.inputs.now c.loop-input.inputs c.loop-input.input-index
    (map part_value c.loop-input.parts.items) (search rules) c.loop-input.invariant.read
