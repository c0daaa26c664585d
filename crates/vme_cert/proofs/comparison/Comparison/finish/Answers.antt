-- A row differs, the source gives one more row, or neither.
use Rattle.std.proofs.Common.{ℕ, ◌∙◌, false, sym, subst}
use Rattle.std.specs.Prelude.{Option}
use Rattle.vme_cert.specs.Comparing.{IsCompared}
use Rattle.vme_cert.proofs.Comparing.{Decides-longer, Decides-other, Decides-same, IsGivenNext-asked}
use Rattle.vme_cert.proofs.comparison.Comparison.finish.Goals as goal

pub returns-in-Some : goal.returns-in-Some
returns-in-Some g c whole given expected_rows h compared all = (
  given,
  h.gave_is,
  Decides-other g.S.RowSource.is_over given expected_rows c.args.self.taken all c.args.self.source c.in-Some.row
      (subst (λ (w : Option ℕ). IsCompared given expected_rows c.args.self.taken (λ n. false) w) c.in-Some.is compared)
      h.count,
)

pub returns-in-Some-next : goal.returns-in-Some-next
returns-in-Some-next g c whole given expected_rows h compared all =
    let taken = c.args.self.taken in
    let next = IsGivenNext-asked c.next.result c.next.new.self h (c.next.ensures.row whole given h.gave_is)
    c.next.ensures.over c.next.ensures.stays in (
      next.more,
      next.is_given.gave_is,
      Decides-longer g.S.RowSource.is_over given expected_rows taken all next.more next.extends
          (subst (λ (w : Option ℕ). IsCompared given expected_rows taken (λ n. false) w) c.in_default.is compared)
          c.next.new.self c.in-Some-next.field-0 (sym c.in-Some-next.is ∙ next.given_is),
    )

pub returns-in-None : goal.returns-in-None
returns-in-None g c whole given expected_rows h compared all =
    let taken = c.args.self.taken in
    let next = IsGivenNext-asked c.next.result c.next.new.self h (c.next.ensures.row whole given h.gave_is)
    c.next.ensures.over c.next.ensures.stays in (
      next.more,
      next.is_given.gave_is,
      Decides-same g.S.RowSource.is_over given expected_rows taken all next.more next.extends
          (subst (λ (w : Option ℕ). IsCompared given expected_rows taken (λ n. false) w) c.in_default.is compared)
          c.next.new.self (sym c.in-None.is ∙ next.given_is) (c.next.ensures.over c.in-None.is),
    )
