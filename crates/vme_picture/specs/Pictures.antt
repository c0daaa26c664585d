-- The text of a picture.
use Rattle.std.specs.Prelude.{◌≡◌, ℕ, ◌++◌, ◌∷◌, [], List, codes}
use Rattle.vme_picture.specs.Markup.{AreAttributes, IsMarkup, element_text}
use Rattle.vme_picture.specs.declared.markup.Tag.TheVariants.{Svg}

-- the first line of a picture, a comment
abbrev pub picture_first_line : List ℕ
picture_first_line = codes "<!-- written by vmecheck explain -->" ++ 10 ∷ []

-- the text is that line, one element, and a line feed
abbrev pub IsPicture : List ℕ → Type 0
IsPicture text =
    (attributes inner : List ℕ) × AreAttributes attributes × IsMarkup inner
    × (text ≡ picture_first_line ++ element_text Svg attributes inner ++ 10 ∷ [])
