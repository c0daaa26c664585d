use Rattle.std.proofs.Common.{sym, ap, ◌∙◌, arith}
use Rattle.std.specs.Prelude.{Some}
use Rattle.std.proofs.lemmas.List.{take_rest}
use Rattle.vme_listing.proofs.FrontHexadecimals.{after_word-lanes, lanes_in-front, lanes_in-other, lanes_in-short}
use Rattle.vme_listing.proofs.line.front_lanes.Goals as goal

pub returns-then-text-lt8-clause-none : goal.returns-then-text-lt8-clause-none
returns-then-text-lt8-clause-none c = λ _. lanes_in-short c.args.text.now (omega arith)

pub returns-then-is_lanes_text-clause-lanes : goal.returns-then-is_lanes_text-clause-lanes
returns-then-is_lanes_text-clause-lanes c =
    lanes_in-front c.args.text.now c.lanes_word-lanes.result c.lanes_word-lanes.ensures
    (sym c.is_lanes_text.ensures ∙ c.if-is_lanes_text.true)

pub returns-then-is_lanes_text-clause-rest : goal.returns-then-is_lanes_text-clause-rest
returns-then-is_lanes_text-clause-rest c =
    after_word-lanes c.args.text.now c.lanes_word-lanes.result (sym c.is_lanes_text.ensures ∙ c.if-is_lanes_text.true)
    ∙ ap Some (sym (take_rest c.args.text.now 8))

pub returns-else-is_lanes_text-clause-none : goal.returns-else-is_lanes_text-clause-none
returns-else-is_lanes_text-clause-none c =
    λ _. lanes_in-other c.args.text.now c.lanes_word-lanes.result c.lanes_word-lanes.ensures
    (sym c.is_lanes_text.ensures ∙ c.if-is_lanes_text.false)
