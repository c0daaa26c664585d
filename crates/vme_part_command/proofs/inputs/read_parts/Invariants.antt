-- The inputs so far are read, and have the parts.
use Rattle.std.proofs.Common.{◌≡◌, drop, map}
use Rattle.vme_part_format.specs.Tables.{part_value}
use Rattle.vme_part_command.specs.Inputs.{HaveRead}
use Rattle.vme_part_command.proofs.inputs.read_parts.Given as goal

abbrev pub invariant-loop-input : goal.invariant-loop-input
invariant-loop-input g l = record {
  rest : drop l.input-index l.inputs ≡ drop l.input-index l.initial.inputs;
  read : HaveRead (map (λ i. g.P.Source.reading i.part) l.initial.inputs)
      (map (λ i. g.P.Source.reading i.part) l.inputs) l.input-index (map part_value l.parts.items);
  names : map (λ i. i.name.now) l.inputs ≡ map (λ i. i.name.now) l.initial.inputs;
}
