-- The time scale of a dump.
use Rattle.std.specs.Prelude.{ℕ, ◌==◌, if◌then◌else◌, List, [], ◌∷◌, ◌++◌, bytes_eq, codes, length}
use Rattle.vcd_read.specs.Tokens.{is_space}
use Rattle.vme_variables.specs.declared.timescale.TimescaleSection.{TimescaleSection}
use Rattle.vme_variables.specs.declared.timescale.TimescaleSection.TheVariants.{After, Other, Outside, Timescale}

-- the section after a token that isn't empty, and that is in this section
abbrev pub section_of_token : TimescaleSection → List ℕ → TimescaleSection
section_of_token Outside token =
    if bytes_eq token (codes "$enddefinitions") then After
    else if bytes_eq token (codes "$timescale") then Timescale
    else Other
section_of_token Timescale token = if bytes_eq token (codes "$end") then After else Timescale
section_of_token Other token = if bytes_eq token (codes "$end") then Outside else Other
section_of_token After token = After

-- the section after a token, which may be empty
abbrev pub section_after : TimescaleSection → List ℕ → TimescaleSection
section_after section token = if length token == 0 then section else section_of_token section token

-- what a token in a section adds to the time scale
abbrev pub shown_token : TimescaleSection → List ℕ → List ℕ
shown_token Outside token = []
shown_token Timescale token = if bytes_eq token (codes "$end") then [] else token
shown_token Other token = []
shown_token After token = []

-- the time scale in the rest of the bytes, from a section on, where `token` is what the current token has so far
unfoldable pub scale_from : TimescaleSection → List ℕ → List ℕ → List ℕ
scale_from section token [] = shown_token section token
scale_from section token (b ∷ bytes) =
    if is_space b then shown_token section token ++ scale_from (section_after section token) [] bytes
    else scale_from section (token ++ b ∷ []) bytes

-- the tokens of the first $timescale section of a dump, joined without space
abbrev pub time_scale : List ℕ → List ℕ
time_scale dump = scale_from Outside [] dump
