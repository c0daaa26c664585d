use Rattle.std.proofs.Common.{◌≡◌, ◌+◌, ◌≤◌, ◌∙◌, arith, length, sym}
use Rattle.vme_variables.proofs.TimescaleLemmas.{text-after_scale, scale_from-token_byte, text-at_end, scale_from-space}
use Rattle.vme_variables.proofs.timescale.push_timescale.Goals as goal

pub loop-at-preserved-then-not-is_blank : goal.loop-at-preserved-then-not-is_blank
loop-at-preserved-then-not-is_blank c =
    let le : c.loop-at.start ≤ c.loop-at.at + 1 = omega (arith, c.loop-at.invariant.0) in (
      le,
      scale_from-token_byte c.loop-at.section c.loop-at.text _ c.args.dump.now c.loop-at.start c.loop-at.at
          c.loop-at.invariant.0 c.loop-at-test.true (sym c.is_blank.ensures ∙ c.if-not-is_blank.true)
          c.loop-at.invariant.1,
    )

pub returns-in-After : goal.returns-in-After
returns-in-After c =
    text-after_scale c.in_ok-section.section c.push_token.new.text _ _ _ c.in-After.is
    (scale_from-space c.loop-at.section c.in_ok-section.section c.loop-at.text c.push_token.new.text _ c.args.dump.now
    c.loop-at.start c.loop-at.at c.loop-at-test.true (sym c.is_blank.ensures ∙ c.if-not-is_blank.false)
    c.in_ok-section.ensures.text c.in_ok-section.ensures.section c.loop-at.invariant.1)

pub loop-at-preserved : goal.loop-at-preserved
loop-at-preserved c =
    let le : c.loop-at.at + 1 ≤ c.loop-at.at + 1 = omega arith in (
      le,
      scale_from-space c.loop-at.section c.in_ok-section.section c.loop-at.text c.push_token.new.text _ c.args.dump.now
          c.loop-at.start c.loop-at.at c.loop-at-test.true (sym c.is_blank.ensures ∙ c.if-not-is_blank.false)
          c.in_ok-section.ensures.text c.in_ok-section.ensures.section c.loop-at.invariant.1,
    )

pub returns : goal.returns
returns c =
    let all : c.loop-at.at ≡ length c.args.dump.now = omega (arith, c.loop-at-test.false, c.loop-at.auto.at-end) in
    text-at_end c.loop-at.section c.loop-at.text c.push_token-2.new.text _ c.args.dump.now c.loop-at.start
    c.loop-at.at all c.in_ok-push_token.ensures.text c.loop-at.invariant.1
