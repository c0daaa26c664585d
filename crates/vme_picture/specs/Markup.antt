-- Markup: well-nested elements, characters and ends of lines, in which every name is escaped.
use Rattle.std.specs.Prelude.{◌≡◌, ℕ, ◌==◌, ◌++◌, ◌∷◌, [], List, codes, flat_map, if◌then◌else◌}
use Rattle.vme_text.specs.Escaping.{hex_escaped_byte}
use Rattle.vme_picture.specs.declared.markup.Attribute.{Attribute}
use Rattle.vme_picture.specs.declared.markup.Attribute.TheVariants as attribute
use Rattle.vme_picture.specs.declared.markup.Tag.{Tag}
use Rattle.vme_picture.specs.declared.markup.Tag.TheVariants as tag

-- a byte as characters: `&`, `<`, `>` and `"` as entities, any other as it is shown to people
abbrev pub escaped_byte : ℕ → List ℕ
escaped_byte b =
    if b == 38 then codes "&amp;"
    else if b == 60 then codes "&lt;"
    else if b == 62 then codes "&gt;"
    else if b == 34 then codes "&quot;"
    else hex_escaped_byte b

-- bytes as characters of markup
abbrev pub escaped : List ℕ → List ℕ
escaped bytes = flat_map escaped_byte bytes

-- the names of the elements
abbrev pub tag_name : Tag → List ℕ
tag_name tag.Svg = codes "svg"
tag_name tag.Title = codes "title"
tag_name tag.Defs = codes "defs"
tag_name tag.Pattern = codes "pattern"
tag_name tag.Path = codes "path"
tag_name tag.Rect = codes "rect"
tag_name tag.Text = codes "text"

-- the names of their attributes
abbrev pub attribute_name : Attribute → List ℕ
attribute_name attribute.Xmlns = codes "xmlns"
attribute_name attribute.Id = codes "id"
attribute_name attribute.X = codes "x"
attribute_name attribute.Y = codes "y"
attribute_name attribute.Width = codes "width"
attribute_name attribute.Height = codes "height"
attribute_name attribute.ViewBox = codes "viewBox"
attribute_name attribute.PatternUnits = codes "patternUnits"
attribute_name attribute.FontFamily = codes "font-family"
attribute_name attribute.FontSize = codes "font-size"
attribute_name attribute.FontWeight = codes "font-weight"
attribute_name attribute.TextAnchor = codes "text-anchor"
attribute_name attribute.D = codes "d"
attribute_name attribute.Fill = codes "fill"
attribute_name attribute.Stroke = codes "stroke"
attribute_name attribute.StrokeWidth = codes "stroke-width"
attribute_name attribute.StrokeDasharray = codes "stroke-dasharray"

-- ` NAME="VALUE"`
abbrev pub attribute_text : Attribute × List ℕ → List ℕ
attribute_text a = codes " " ++ attribute_name a.0 ++ 61 ∷ 34 ∷ [] ++ escaped a.1 ++ 34 ∷ []

-- `<NAME ATTRIBUTES>INNER</NAME>`
abbrev pub element_text : Tag → List ℕ → List ℕ → List ℕ
element_text name attributes inner =
    codes "<" ++ tag_name name ++ attributes ++ codes ">" ++ inner ++ codes "</" ++ tag_name name ++ codes ">"

-- a sequence of items: characters, the end of a line, or an element with its content; `rest` is what follows an item
pub data MarkupTree : Type 0 where
  nothing : MarkupTree
  characters : List ℕ → MarkupTree → MarkupTree
  end_of_line : MarkupTree → MarkupTree
  element : Tag → List (Attribute × List ℕ) → MarkupTree → MarkupTree → MarkupTree

-- the bytes of markup
unfoldable pub markup_text : MarkupTree → List ℕ
markup_text nothing = []
markup_text (characters bytes rest) = escaped bytes ++ markup_text rest
markup_text (end_of_line rest) = 10 ∷ markup_text rest
markup_text (element name attributes inner rest) =
    element_text name (flat_map attribute_text attributes) (markup_text inner) ++ markup_text rest

-- the text is that of a markup tree, so it is well nested
abbrev pub IsMarkup : List ℕ → Type 0
IsMarkup text = (m : MarkupTree) × (text ≡ markup_text m)

-- the text is that of some attributes
abbrev pub AreAttributes : List ℕ → Type 0
AreAttributes text = (list : List (Attribute × List ℕ)) × (text ≡ flat_map attribute_text list)
