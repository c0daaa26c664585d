-- The groups of lines that a binding names, as bits of a set.
use Rattle.std.specs.Prelude.{ℕ, Bool, ◌/◌, ◌^◌, ◌==◌, ◌&&◌, ◌||◌, nat_lt, if◌then◌else◌, bit_and}
use Rattle.vme_trace.specs.LineNumbers.{A, AM, AS, BBSY, BERR, BR, D, DS0, DS1, DTACK, LWORD, SYSRESET, WRITE}
use Rattle.vme_trace.specs.LineNumbers.{grant, iack}

-- the place of the bit of the line's group: the lines of one name are a group, and so are the grants of one level
abbrev pub group_place : ℕ → ℕ
group_place line =
    if nat_lt line (AM 0) then line
    else if nat_lt line LWORD then 6
    else if nat_lt line WRITE then 7
    else if nat_lt line (A 1) then 8
    else if nat_lt line BBSY then 9
    else if nat_lt line (BR 0) then 10
    else if nat_lt line (grant 0 0) then 11
    else if nat_lt line (grant 1 0) then 12
    else if nat_lt line (grant 2 0) then 13
    else if nat_lt line (grant 3 0) then 14
    else if nat_lt line (iack 1) then 15
    else if nat_lt line (D 0) then 16
    else if nat_lt line SYSRESET then 17
    else 18

-- the set of the group of a line alone
abbrev pub group_of : ℕ → ℕ
group_of line = 2 ^ group_place line

-- `number` has a bit at `place`, from the right
abbrev pub has_bit : ℕ → ℕ → Bool
has_bit number place = bit_and (number / 2 ^ place) 1 == 1

-- a set has the group of a line
abbrev pub has_group : ℕ → ℕ → Bool
has_group groups line = has_bit groups (group_place line)

-- `groups` has AS and a data strobe
abbrev pub has_cycle : ℕ → Bool
has_cycle groups = has_group groups AS && (has_group groups DS0 || has_group groups DS1)

-- `groups` has AS, a data strobe, and DTACK or BERR
abbrev pub has_handshake : ℕ → Bool
has_handshake groups = has_cycle groups && (has_group groups DTACK || has_group groups BERR)
