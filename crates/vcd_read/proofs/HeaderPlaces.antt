-- The header from a token on, by what is tested of the token and its section.
use Rattle.std.proofs.Common.{Bool, true, false, List, [], Some}
use Rattle.vcd_read.specs.Tokens.{Token}
use Rattle.vcd_read.specs.Header.{Header, Section, between, ends_definitions, header_from, inside, opened, stray, whole}
use Rattle.vcd_read.specs.Header.{with_item, with_word}

-- from the end of a section on, which ends the definitions if `test` holds
abbrev pub from_section_end : Section → List Token → Bool → Header
from_section_end section ts test = elim test as (λ _. Header) [
  | true ↦ record { items = []; body = Some ts }
  | false ↦ with_item (whole section) (header_from between ts)
]

-- from a token in a section on, which is its end if `test` holds
abbrev pub from_inside : Section → Token → List Token → Bool → Header
from_inside section t ts test = elim test as (λ _. Header) [
  | true ↦ from_section_end section ts (ends_definitions section)
  | false ↦ header_from (inside (with_word section t.bytes)) ts
]

-- from a token between sections on, which opens one if `test` holds
abbrev pub from_between : Token → List Token → Bool → Header
from_between t ts test = elim test as (λ _. Header) [
  | true ↦ header_from (inside (opened t)) ts
  | false ↦ with_item (stray t.line) (header_from between ts)
]
