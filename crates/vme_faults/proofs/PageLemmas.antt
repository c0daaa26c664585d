-- The page of a kind of refusal has four rows, which are made of its name and of four texts.
use Rattle.std.proofs.Common.{◌≡◌, ℕ, List, ap, ◌∙◌}
use Rattle.vme_faults.specs.RefusalKinds.{kind_name}
use Rattle.vme_faults.specs.Pages.{causes_of, expected_of, means_of, page_text, remedy_of, rows}
use Rattle.vme_faults.specs.declared.refusal_kind.RefusalKind.{RefusalKind}

-- the rows made of five texts are the page of kind k, if the texts are its name, what it means, what was expected, its
-- usual causes and the remedy
pub page_text-rows : (k : RefusalKind) (name means expected causes remedy : List ℕ) → name ≡ kind_name k
    → means ≡ means_of k → expected ≡ expected_of k → causes ≡ causes_of k → remedy ≡ remedy_of k
    → rows name means expected causes remedy ≡ page_text k
unfolding page_text
page_text-rows k name means expected causes remedy is_name is_means is_expected is_causes is_remedy =
    ap (λ x. rows x means expected causes remedy) is_name
    ∙ ap (λ x. rows (kind_name k) x expected causes remedy) is_means
    ∙ ap (λ x. rows (kind_name k) (means_of k) x causes remedy) is_expected
    ∙ ap (λ x. rows (kind_name k) (means_of k) (expected_of k) x remedy) is_causes
    ∙ ap (λ x. rows (kind_name k) (means_of k) (expected_of k) (causes_of k) x) is_remedy
