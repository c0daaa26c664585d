-- Markup is visible text: it has only visible characters, spaces and line feeds.
use Rattle.std.proofs.Common.{◌≡◌, ◌∙◌, ◌++◌, ◌==◌, ◌∷◌, Bool, List, [], ℕ, codes, false, flat_map, if◌then◌else◌}
use Rattle.std.proofs.Common.{refl, subst, sym, true}
use Rattle.std.proofs.lemmas.Bool.{and_from, eqb-true}
use Rattle.std.proofs.lemmas.List.{append-nil}
use Rattle.std.proofs.lemmas.List.Folds.{list_all-append}
use Rattle.std.specs.List.{list_all}
use Rattle.vme_text.proofs.EscapingLemmas.{text_is_visible}
use Rattle.vme_text.specs.Escaping.{IsVisible, is_visible, hex_escaped_byte}
use Rattle.vme_picture.specs.Markup.{AreAttributes, IsMarkup, MarkupTree, nothing, characters, end_of_line, element}
use Rattle.vme_picture.specs.Markup.{attribute_name, attribute_text, element_text, escaped, escaped_byte, markup_text}
use Rattle.vme_picture.specs.Markup.{tag_name}
use Rattle.vme_picture.specs.Pictures.{picture_first_line}
use Rattle.vme_picture.specs.declared.markup.Attribute.{Attribute}
use Rattle.vme_picture.specs.declared.markup.Attribute.TheVariants as attribute
use Rattle.vme_picture.specs.declared.markup.Tag.{Tag}
use Rattle.vme_picture.specs.declared.markup.Tag.TheVariants as tag

-- two visible texts are visible together
IsVisible-append : (xs ys : List ℕ) → IsVisible xs → IsVisible ys → IsVisible (xs ++ ys)
IsVisible-append xs ys first second =
    list_all-append is_visible xs ys ∙ and_from (list_all is_visible xs) (list_all is_visible ys) first second

-- a byte that is escaped by its number is visible
IsVisible-hex_escaped_byte : (b : ℕ) → IsVisible (hex_escaped_byte b)
IsVisible-hex_escaped_byte b = by_test (b == 10) refl
  where
    by_test : (t : Bool) → (b == 10) ≡ t → IsVisible (hex_escaped_byte b)
    by_test true e = subst (λ (n : ℕ). IsVisible (hex_escaped_byte n)) (sym (eqb-true b 10 e)) refl
    by_test false e =
        let in_text : IsVisible ((if false then b ∷ [] else hex_escaped_byte b) ++ []) = subst
        (λ (t : Bool). IsVisible ((if t then b ∷ [] else hex_escaped_byte b) ++ [])) e (text_is_visible (b ∷ [])) in
        subst IsVisible (append-nil (hex_escaped_byte b)) in_text

-- a byte that is escaped, or stays as it is, is visible
IsVisible-escaped_byte : (b : ℕ) → IsVisible (escaped_byte b)
IsVisible-escaped_byte b = by_tests (b == 38) (b == 60) (b == 62) (b == 34)
  where
    by_tests : (t u v w : Bool)
        → IsVisible
        (if t then codes "&amp;"
        else if u then codes "&lt;"
        else if v then codes "&gt;"
        else if w then codes "&quot;"
        else hex_escaped_byte b)
    by_tests true u v w = refl
    by_tests false true v w = refl
    by_tests false false true w = refl
    by_tests false false false true = refl
    by_tests false false false false = IsVisible-hex_escaped_byte b

-- escaped bytes are visible
IsVisible-escaped : (bs : List ℕ) → IsVisible (escaped bs)
IsVisible-escaped [] = refl
IsVisible-escaped (b ∷ bs) = IsVisible-append (escaped_byte b) (escaped bs) (IsVisible-escaped_byte b)
    (IsVisible-escaped bs)

-- the name of a tag is visible
IsVisible-tag_name : (name : Tag) → IsVisible (tag_name name)
IsVisible-tag_name tag.Svg = refl
IsVisible-tag_name name = refl

-- the name of an attribute is visible
IsVisible-attribute_name : (name : Attribute) → IsVisible (attribute_name name)
IsVisible-attribute_name attribute.Xmlns = refl
IsVisible-attribute_name name = refl

-- the text of an attribute is visible
IsVisible-attribute_text : (name : Attribute) (value : List ℕ) → IsVisible (attribute_text (name, value))
IsVisible-attribute_text name value =
    let named : List ℕ = codes " " ++ attribute_name name in
    let opened : List ℕ = named ++ 61 ∷ 34 ∷ [] in
    let of_named : IsVisible named = IsVisible-append (codes " ") (attribute_name name) refl
    (IsVisible-attribute_name name) in
    let of_opened : IsVisible opened = IsVisible-append named (61 ∷ 34 ∷ []) of_named refl in
    let of_value : IsVisible (opened ++ escaped value) =
    IsVisible-append opened (escaped value) of_opened (IsVisible-escaped value) in
    IsVisible-append (opened ++ escaped value) (34 ∷ []) of_value refl

-- the texts of attributes are visible
IsVisible-attributes : (list : List (Attribute × List ℕ)) → IsVisible (flat_map attribute_text list)
IsVisible-attributes [] = refl
IsVisible-attributes ((name, value) ∷ rest) =
    IsVisible-append (attribute_text (name, value)) (flat_map attribute_text rest) (IsVisible-attribute_text name value)
    (IsVisible-attributes rest)

-- the text of an element is visible, if those of its attributes and of what is inside are
IsVisible-element_text : (name : Tag) (attributes inner : List ℕ) → IsVisible attributes → IsVisible inner
    → IsVisible (element_text name attributes inner)
IsVisible-element_text name attributes inner a i =
    let begun : List ℕ = codes "<" ++ tag_name name in
    let opened : List ℕ = begun ++ attributes ++ codes ">" in
    let filled : List ℕ = opened ++ inner in
    let ended : List ℕ = filled ++ codes "</" in
    let of_begun : IsVisible begun = IsVisible-append (codes "<") (tag_name name) refl (IsVisible-tag_name name) in
    let of_attributes : IsVisible (begun ++ attributes) = IsVisible-append begun attributes of_begun a in
    let of_opened : IsVisible opened = IsVisible-append (begun ++ attributes) (codes ">") of_attributes refl in
    let of_filled : IsVisible filled = IsVisible-append opened inner of_opened i in
    let of_ended : IsVisible ended = IsVisible-append filled (codes "</") of_filled refl in
    let of_name : IsVisible (ended ++ tag_name name) =
    IsVisible-append ended (tag_name name) of_ended (IsVisible-tag_name name) in
    IsVisible-append (ended ++ tag_name name) (codes ">") of_name refl

-- the text of a tree of markup is visible
IsVisible-markup_text : (m : MarkupTree) → IsVisible (markup_text m)
unfolding markup_text
IsVisible-markup_text nothing = refl
IsVisible-markup_text (characters bytes rest) =
    IsVisible-append (escaped bytes) (markup_text rest) (IsVisible-escaped bytes) (IsVisible-markup_text rest)
IsVisible-markup_text (end_of_line rest) =
    IsVisible-append (10 ∷ []) (markup_text rest) refl (IsVisible-markup_text rest)
IsVisible-markup_text (element name attributes inner rest) =
    let written : List ℕ = flat_map attribute_text attributes in
    IsVisible-append (element_text name written (markup_text inner)) (markup_text rest)
    (IsVisible-element_text name written (markup_text inner) (IsVisible-attributes attributes)
    (IsVisible-markup_text inner))
    (IsVisible-markup_text rest)

-- a picture has only visible characters, spaces and line feeds
pub IsVisible-picture : (attributes inner : List ℕ) → AreAttributes attributes → IsMarkup inner
    → IsVisible (picture_first_line ++ element_text tag.Svg attributes inner ++ 10 ∷ [])
IsVisible-picture attributes inner a i =
    let of_attributes : IsVisible attributes = subst IsVisible (sym a.1) (IsVisible-attributes a.0) in
    let of_inner : IsVisible inner = subst IsVisible (sym i.1) (IsVisible-markup_text i.0) in
    let of_element : IsVisible (element_text tag.Svg attributes inner) = IsVisible-element_text tag.Svg attributes inner
    of_attributes of_inner in
    let marked : List ℕ = picture_first_line ++ element_text tag.Svg attributes inner in
    let of_marked : IsVisible marked =
    IsVisible-append picture_first_line (element_text tag.Svg attributes inner) refl of_element in
    IsVisible-append marked (10 ∷ []) of_marked refl
