-- The lines before the current one have other names.
use Rattle.std.proofs.Common.{◌≡◌, ◌<◌, sym, ◌∙◌, ap, arith, below_more}
use Rattle.std.specs.Prelude.{Some}
use Rattle.vme_trace.specs.LineNumbers.{line_count}
use Rattle.vme_trace.specs.Names.{line_name}
use Rattle.vme_trace.proofs.Ranges.{clash}
use Rattle.vme_trace.proofs.NameLaws.{line_named-is, line_named-none, line_name-injective, bytes_eq-same, same-bytes_eq}
use Rattle.vme_trace.proofs.line.Line.from_name.Goals as goal

pub loop-number-preserved : goal.loop-number-preserved
loop-number-preserved c =
    below_more _ _ c.loop-number.invariant
    (λ e.
    clash _
    (same-bytes_eq c.as_bytes.result.now c.args.name.now (c.as_bytes.ensures.bytes ∙ c.name.ensures
    ∙ ap line_name c.nth-line.ensures ∙ e))
    (sym c.eq.ensures ∙ c.if-eq.false))

pub returns-then-eq : goal.returns-then-eq
returns-then-eq c =
    let below : c.nth-line.result < line_count = omega (arith, c.nth-line.ensures) in
    let named : line_name c.nth-line.result ≡ c.args.name.now = sym (c.as_bytes.ensures.bytes ∙ c.name.ensures)
    ∙ bytes_eq-same _ _ (sym c.eq.ensures ∙ c.if-eq.true) in
    record {
      line = sym (line_named-is c.nth-line.result c.args.name.now below named);
      named = named;
      found = λ other b e. ap Some (line_name-injective c.nth-line.result other below b (named ∙ sym e));
    }

pub returns : goal.returns
returns c = record {
  line = sym (line_named-none c.args.name.now (λ n b e. c.loop-number.invariant n (omega arith) e));
  named = tt;
  found = λ other b e. absurd (c.loop-number.invariant other (omega arith) e);
}
