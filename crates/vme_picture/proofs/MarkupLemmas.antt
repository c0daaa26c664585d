-- Appending characters, lines and elements to markup gives markup, and appending an attribute to attributes gives
-- attributes.
use Rattle.std.proofs.Common.{◌≡◌, ◌∙◌, ◌++◌, ◌∷◌, [], ℕ, List, ap, refl, sym}
use Rattle.std.specs.Prelude.{flat_map}
use Rattle.std.proofs.lemmas.List.{append-nil, append_assoc, flat_map_more}
use Rattle.vme_picture.specs.Markup.{AreAttributes, IsMarkup, MarkupTree, nothing, characters, end_of_line, element}
use Rattle.vme_picture.specs.Markup.{attribute_text, element_text, escaped, markup_text}
use Rattle.vme_picture.specs.declared.markup.Attribute.{Attribute}
use Rattle.vme_picture.specs.declared.markup.Tag.{Tag}

-- the items of one tree, and after them those of another
tree_append : MarkupTree → MarkupTree → MarkupTree
tree_append nothing n = n
tree_append (characters bytes rest) n = characters bytes (tree_append rest n)
tree_append (end_of_line rest) n = end_of_line (tree_append rest n)
tree_append (element name attributes inner rest) n = element name attributes inner (tree_append rest n)

-- the text of two trees, one after the other, is that of the first and then that of the second
markup_text-tree_append : (m n : MarkupTree) → markup_text (tree_append m n) ≡ markup_text m ++ markup_text n
unfolding tree_append markup_text
markup_text-tree_append nothing n = refl
markup_text-tree_append (characters bytes rest) n =
    ap (λ (t : List ℕ). escaped bytes ++ t) (markup_text-tree_append rest n)
    ∙ sym (append_assoc (escaped bytes) (markup_text rest) (markup_text n))
markup_text-tree_append (end_of_line rest) n = ap (λ (t : List ℕ). 10 ∷ t) (markup_text-tree_append rest n)
markup_text-tree_append (element name attributes inner rest) n =
    let first : List ℕ = element_text name (flat_map attribute_text attributes) (markup_text inner) in
    ap (λ (t : List ℕ). first ++ t) (markup_text-tree_append rest n)
    ∙ sym (append_assoc first (markup_text rest) (markup_text n))

-- two texts of markup are markup together
IsMarkup-append : (old more : List ℕ) → IsMarkup old → IsMarkup more → IsMarkup (old ++ more)
IsMarkup-append old more m n = (
  tree_append m.0 n.0,
  ap (λ (t : List ℕ). t ++ more) m.1 ∙ ap (λ (t : List ℕ). markup_text m.0 ++ t) n.1
      ∙ sym (markup_text-tree_append m.0 n.0),
)

-- an empty text is markup
pub is_markup_empty : (new : List ℕ) → new ≡ [] → IsMarkup new
unfolding markup_text
is_markup_empty new is = (nothing, is)

-- markup and then escaped characters are markup
pub IsMarkup-characters : (old new bytes : List ℕ) → IsMarkup old → new ≡ old ++ escaped bytes → IsMarkup new
unfolding markup_text
IsMarkup-characters old new bytes m is =
    let more = IsMarkup-append old (escaped bytes) m (characters bytes nothing, sym (append-nil (escaped bytes))) in
    (more.0, is ∙ more.1)

-- markup and then a line feed are markup
pub IsMarkup-line_feed : (old new : List ℕ) → IsMarkup old → new ≡ old ++ 10 ∷ [] → IsMarkup new
unfolding markup_text
IsMarkup-line_feed old new m is = let more =
    IsMarkup-append old (10 ∷ []) m (end_of_line nothing, refl) in (more.0, is ∙ more.1)

-- markup and then an element, of attributes and markup inside, are markup
pub IsMarkup-element : (old new : List ℕ) (name : Tag) (attributes inner : List ℕ) → IsMarkup old
    → AreAttributes attributes → IsMarkup inner → new ≡ old ++ element_text name attributes inner → IsMarkup new
unfolding markup_text
IsMarkup-element old new name attributes inner m a i is =
    let written : List ℕ = flat_map attribute_text a.0 in
    let one : IsMarkup (element_text name attributes inner) = (
      element name a.0 i.0 nothing,
      ap (λ (t : List ℕ). element_text name t inner) a.1
          ∙ ap (λ (t : List ℕ). element_text name written t) i.1
          ∙ sym (append-nil (element_text name written (markup_text i.0))),
    ) in
    let more = IsMarkup-append old (element_text name attributes inner) m one in
    (more.0, is ∙ more.1)

-- an empty text is a list of no attributes
pub are_attributes_empty : (new : List ℕ) → new ≡ [] → AreAttributes new
are_attributes_empty new is = ([], is)

-- attributes and then one more are attributes
pub AreAttributes-append : (old new : List ℕ) (name : Attribute) (value : List ℕ) → AreAttributes old
    → new ≡ old ++ attribute_text (name, value) → AreAttributes new
AreAttributes-append old new name value a is = (
  a.0 ++ (name, value) ∷ [],
  is ∙ ap (λ (t : List ℕ). t ++ attribute_text (name, value)) a.1 ∙ flat_map_more attribute_text [] a.0 (name, value),
)
