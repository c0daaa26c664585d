-- The table of the codes of one byte: for each byte the net of that code, with its size.
use Rattle.std.specs.Prelude.{◌≡◌, ℕ, ◌<◌, List, [], ◌∷◌, Option, None, get_or, length, option_map}
use Rattle.vcd_read.specs.Header.{Net, net_of, size_of}

-- what the table has for a byte
abbrev pub one_byte_net_at : List (Option (ℕ × ℕ)) → ℕ → Option (ℕ × ℕ)
one_byte_net_at table byte = get_or table byte None

-- a net, and its size
abbrev pub sized_net : List Net → ℕ → ℕ × ℕ
sized_net nets net = (net, size_of nets net)

-- the net of a code, and its size
abbrev pub sized_net_of : List Net → List ℕ → Option (ℕ × ℕ)
sized_net_of nets code = option_map (sized_net nets) (net_of nets code)

-- the table has a place for each byte, and there the net and the size of the code of this byte
abbrev pub HasOneByteCodes : List Net → List (Option (ℕ × ℕ)) → Type 0
HasOneByteCodes nets table =
    (length table ≡ 256) × ((byte : ℕ) → byte < 256 → one_byte_net_at table byte ≡ sized_net_of nets (byte ∷ []))
