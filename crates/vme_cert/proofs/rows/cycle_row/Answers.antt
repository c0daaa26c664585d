use Rattle.std.proofs.Common.{ap, arith, sym, ◌∙◌}
use Rattle.std.specs.Prelude.{◌/◌, None}
use Rattle.vme_cert.specs.Vocabulary.{AddressedCycle, InterruptCycle, address_to, cycle_row, modifier_of}
use Rattle.vme_cert.proofs.Placing.{address_to-bound, cycle_row-addressed, needs_of-interrupt}
use Rattle.vme_cert.proofs.rows.cycle_row.Goals as goal

pub overflow_cast-level : goal.overflow_cast-level
overflow_cast-level c =
    let e = c.address_on-address.ensures ∙ ap (address_to c.args.lines.now) (needs_of-interrupt c.args.lines.now
    (sym c.am_class-class.ensures ∙ c.in-I.is)) in
    let below = address_to-bound c.args.lines.now 3 in
    omega (arith, e, below)

pub returns-in-I : goal.returns-in-I
returns-in-I c =
    let e = c.address_on-address.ensures ∙ ap (address_to c.args.lines.now) (needs_of-interrupt c.args.lines.now
    (sym c.am_class-class.ensures ∙ c.in-I.is)) in
    ap (λ a. InterruptCycle c.args.start (a / 2) None) e ∙ ap (cycle_row c.args.start c.args.lines.now None)
    (sym (sym c.am_class-class.ensures ∙ c.in-I.is))

pub returns-in_default : goal.returns-in_default
returns-in_default c =
    ap (λ m. AddressedCycle c.args.start c.am_class-class.result m c.address_on-address.result None)
    c.am_code-modifier.ensures.code
    ∙ (ap (λ a. AddressedCycle c.args.start c.am_class-class.result (modifier_of c.args.lines.now) a None)
    c.address_on-address.ensures
    ∙ (cycle_row-addressed c.args.start c.args.lines.now None c.am_class-class.result
    (sym c.am_class-class.ensures) c.in_default.not-I c.in_default.not-F
    ∙ ap (cycle_row c.args.start c.args.lines.now None) c.am_class-class.ensures))
