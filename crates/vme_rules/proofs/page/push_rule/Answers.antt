use Rattle.std.proofs.Common.{◌≡◌, ◌++◌, ◌∙◌, OnOk, ℕ, List, subst}
use Rattle.vme_rules.proofs.GuideLemmas.{guide_text-rows}
use Rattle.vme_rules.proofs.page.push_rule.Goals as goal

pub returns : goal.returns
returns c =
    let guide = guide_text-rows c.args.rule c.as_bytes.result.now c.as_bytes-2.result.now c.as_bytes-3.result.now
    c.as_bytes-4.result.now c.as_bytes-5.result.now (c.as_bytes.ensures.bytes ∙ c.name-name.ensures)
    (c.as_bytes-2.ensures.value ∙ c.of-guide.ensures.sentence) (c.as_bytes-3.ensures.value ∙ c.of-guide.ensures.line)
    (c.as_bytes-4.ensures.value ∙ c.of-guide.ensures.section)
    (c.as_bytes-5.ensures.value ∙ c.of-guide.ensures.causes) in
    subst (λ (rows : List ℕ). OnOk c.push_rows.result (c.push_rows.new.text ≡ c.args.text.now ++ rows)) guide
    c.push_rows.ensures
