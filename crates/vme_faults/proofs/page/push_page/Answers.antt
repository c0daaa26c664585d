use Rattle.std.proofs.Common.{◌≡◌, ◌++◌, ◌∙◌, OnOk, ℕ, List, subst}
use Rattle.vme_faults.proofs.PageLemmas.{page_text-rows}
use Rattle.vme_faults.proofs.page.push_page.Goals as goal

pub returns : goal.returns
returns c =
    let page = page_text-rows c.args.kind c.as_bytes.result.now c.as_bytes-2.result.now c.as_bytes-3.result.now
    c.as_bytes-4.result.now c.as_bytes-5.result.now (c.as_bytes.ensures.value ∙ c.name.ensures)
    (c.as_bytes-2.ensures.value ∙ c.of-page.ensures.means) (c.as_bytes-3.ensures.value ∙ c.of-page.ensures.expected)
    (c.as_bytes-4.ensures.value ∙ c.of-page.ensures.causes) (c.as_bytes-5.ensures.value ∙ c.of-page.ensures.remedy) in
    subst (λ (rows : List ℕ). OnOk c.push_rows.result (c.push_rows.new.text ≡ c.args.text.now ++ rows)) page
    c.push_rows.ensures
