use Rattle.std.proofs.Common.{◌∙◌, subst, sym}
use Rattle.std.specs.Prelude.{Result}
use Rattle.vcd_read.specs.Meaning.{ReadFails}
use Rattle.vcd_read.specs.declared.fault.VcdFault.{VcdFault}
use Rattle.vme_declarations.specs.Surveys.{Survey}
use Rattle.vme_text_commands.proofs.ToldLemmas.{IsBindingFor-fault}
use Rattle.vme_text_commands.proofs.bind.binding_of_input.Goals as goal

pub returns-in-Ok : goal.returns-in-Ok
returns-in-Ok c bytes is = c.binding_by.ensures bytes
    (c.surveys_are_of_dumps.ensures.are bytes c.in-Ok.surveyed (is ∙ c.in-Ok.ensures))

pub returns-in-Err : goal.returns-in-Err
returns-in-Err c bytes is =
    let fails = subst (λ (r : Result Survey VcdFault). ReadFails c.in-Err.fault r) (sym is) c.in-Err.ensures in
    rw c.refused.ensures
    (IsBindingFor-fault bytes c.args.slots c.args.scope c.in-Err.fault
    (c.surveys_are_of_dumps.ensures.fails bytes c.in-Err.fault fails))
