use Rattle.std.proofs.Common.{◌≡◌, true, false, refl, rules, sym, ◌∙◌, arith}
use Rattle.std.specs.Prelude.{bytes_eq, codes}
use Rattle.vcd_places.proofs.SectionLemmas.{times_left-start_of_body, IsAtTime-start_of_body}
use Rattle.vcd_places.proofs.SectionLemmas.{IsBetweenItems-start_of_body, is_between_sections-stray}
use Rattle.vcd_places.proofs.SectionLemmas.{is_between_sections-whole, is_between_sections-start}
use Rattle.vcd_places.proofs.SectionLemmas.{body_in-end_of_text, body_in-endless_section}
use Rattle.vcd_places.proofs.NextTokenLemmas.{is_token_boundary-start, is_token_boundary-detached}
use Rattle.vcd_places.proofs.section.definitions_end.Goals as goal

pub loop-first-init : goal.loop-first-init
loop-first-init c = record {
  same = c.new-reader.ensures.text;
  between_sections = rw c.new-reader.ensures.at (is_between_sections-start c.args.text.now);
  boundary = rw c.new-reader.ensures.at (is_token_boundary-start c.args.text.now);
}

pub loop-first-preserved-then-not-opens_section : goal.loop-first-preserved-then-not-opens_section
loop-first-preserved-then-not-opens_section c =
    let one = rw c.loop-first.invariant.same at c.in-Some.ensures.token in
    record {
      same = c.in-Some.ensures.text ∙ c.loop-first.invariant.same;
      between_sections = is_between_sections-stray one c.loop-first.invariant.between_sections
          (sym c.if-not-opens_section.ensures);
      boundary = is_token_boundary-detached c.args.text.now c.next.new.self.at one.within one.detached;
    }

pub returns-then-not-skip_past_end-clause-none : goal.returns-then-not-skip_past_end-clause-none
returns-then-not-skip_past_end-clause-none c =
    let one = rw c.loop-first.invariant.same at c.in-Some.ensures.token in
    let same = c.in-Some.ensures.text ∙ c.loop-first.invariant.same in
    body_in-endless_section one c.loop-first.invariant.between_sections c.loop-first.invariant.boundary
    (sym c.if-not-opens_section.ensures) (rw same at (c.if-not-skip_past_end.ensures.none refl))

pub new-requires : goal.new-requires
new-requires c =
    let one = rw c.loop-first.invariant.same at c.in-Some.ensures.token in
    let same = c.in-Some.ensures.text ∙ c.loop-first.invariant.same in
    let word : bytes_eq c.in-Some.first.bytes.now (codes "$enddefinitions") ≡ true = search rules in
    IsBetweenItems-start_of_body one c.loop-first.invariant.between_sections (sym c.if-not-opens_section.ensures)
    (rw same at (c.if-not-skip_past_end.ensures.end refl)) word

pub returns-then-eq-clause-end : goal.returns-then-eq-clause-end
returns-then-eq-clause-end c =
    let one = rw c.loop-first.invariant.same at c.in-Some.ensures.token in
    let same = c.in-Some.ensures.text ∙ c.loop-first.invariant.same in
    let word : bytes_eq c.in-Some.first.bytes.now (codes "$enddefinitions") ≡ true = search rules in
    IsAtTime-start_of_body one c.loop-first.invariant.between_sections (sym c.if-not-opens_section.ensures)
    (rw same at (c.if-not-skip_past_end.ensures.end refl)) word

pub returns-then-eq-clause-order : goal.returns-then-eq-clause-order
returns-then-eq-clause-order c =
    let same = c.in-Some.ensures.text ∙ c.loop-first.invariant.same in
    let stands = c.in-Some.ensures.place in
    let end = rw same at (c.if-not-skip_past_end.ensures.end refl) in
    (omega (arith, stands.ends, stands.nonempty, end.moves), end.within)

pub returns-then-eq-clause-times : goal.returns-then-eq-clause-times
returns-then-eq-clause-times c =
    let one = rw c.loop-first.invariant.same at c.in-Some.ensures.token in
    let same = c.in-Some.ensures.text ∙ c.loop-first.invariant.same in
    let word : bytes_eq c.in-Some.first.bytes.now (codes "$enddefinitions") ≡ true = search rules in
    rw c.new.ensures (times_left-start_of_body one c.loop-first.invariant.between_sections
    (sym c.if-not-opens_section.ensures) (rw same at (c.if-not-skip_past_end.ensures.end refl)) word)

pub loop-first-preserved : goal.loop-first-preserved
loop-first-preserved c =
    let one = rw c.loop-first.invariant.same at c.in-Some.ensures.token in
    let same = c.in-Some.ensures.text ∙ c.loop-first.invariant.same in
    let word : bytes_eq c.in-Some.first.bytes.now (codes "$enddefinitions") ≡ false = search rules in
    let end = rw same at (c.if-not-skip_past_end.ensures.end refl) in
    record {
      same = c.if-not-skip_past_end.ensures.text ∙ same;
      between_sections = is_between_sections-whole one c.loop-first.invariant.between_sections
          (sym c.if-not-opens_section.ensures) end word;
      boundary = is_token_boundary-detached c.args.text.now c.skip_past_end.new.reader.at end.within end.detached;
    }

pub returns-clause-none : goal.returns-clause-none
returns-clause-none c =
    body_in-end_of_text c.args.text.now c.loop-first.reader.at c.loop-first.invariant.between_sections
    c.loop-first.invariant.boundary
    (rw c.loop-first.invariant.same at c.in_default.ensures.none)
