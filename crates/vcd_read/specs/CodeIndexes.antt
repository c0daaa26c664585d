-- Where the net of a code is found.
use Rattle.std.specs.Prelude.{ℕ, zero, suc, List, [], ◌∷◌, get_or, Option, Some, None}
use Rattle.std.specs.Global.{Vec}
use Rattle.std.specs.BTreeMap.{is_at}
use Rattle.std.specs.Map.{lookup}
use Rattle.std.specs.Cmp.Lexicographic.{slice_cmp}
use Rattle.std.specs.Ordering.{nat_cmp}
use Rattle.vcd_read.specs.declared.code_index.CodeIndex.{CodeIndex}
use Rattle.vcd_read.specs.declared.code_index.CodePlace.{CodePlace}
use Rattle.vcd_read.specs.CodeNumbers.{short_place}

-- the net of an entry of a page
unfoldable pub net_at_entry : List (Vec (Option ℕ)) → ℕ → ℕ → Option ℕ
net_at_entry [] page entry = None
net_at_entry (p ∷ pages) zero entry = get_or p.items entry None
net_at_entry (p ∷ pages) (suc page) entry = net_at_entry pages page entry

-- the net of a code: on a page if the code has a place, or else in the map
abbrev pub net_of_code : List (Vec (Option ℕ)) → List (Vec ℕ × ℕ) → List ℕ → Option CodePlace → Option ℕ
net_of_code pages entries code (Some place) = net_at_entry pages place.page place.entry
net_of_code pages entries code None = lookup (is_at (λ key. slice_cmp nat_cmp code key.items)) entries

-- the net that an index has for a code
abbrev pub net_at : CodeIndex → List ℕ → Option ℕ
net_at index code = net_of_code index.short.items index.long.entries code (short_place code)
