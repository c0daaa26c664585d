-- Which modifier codes and which lines the definitions single out.
use Rattle.std.specs.Prelude.{ℕ, Bool, not, ◌==◌, ◌/◌, ◌%◌, List, [], ◌∷◌, ◌++◌, replicate, if◌then◌else◌}
use Rattle.vme_trace.specs.Cycle.{class_of, needs_of, is_needed}
use Rattle.vme_trace.specs.Instants.{those}
use Rattle.vme_trace.specs.Levels.{Levels, set_level, is_idle, loses_control}
use Rattle.vme_trace.specs.LineNumbers.{line_count}
use Rattle.vme_trace.specs.Rules.{is_single, is_block_class}
use Rattle.vme_trace.specs.declared.level.Level.{Level}
use Rattle.vme_trace.specs.declared.level.Level.TheVariants.{Low, High, Unknown}

-- the level of the modifier line whose bit is the lowest of `b`
abbrev pub bit : ℕ → Level
bit b = if b % 2 == 1 then High else Low

-- one slot, the lines of an address modifier code, and all else high
abbrev pub lines_of_code : ℕ → Levels
lines_of_code c = record {
  slots = 1;
  levels =
      replicate 6 High
      ++ (bit c ∷ bit (c / 2) ∷ bit (c / 4) ∷ bit (c / 8) ∷ bit (c / 16) ∷ bit (c / 32) ∷ [])
      ++ replicate 180 High;
}

-- a cycle that starts with the levels `v` is one of single transfers
abbrev pub is_single_transfer : Levels → Bool
is_single_transfer v = is_single (class_of v)

-- a cycle that starts with the levels `v` is a block transfer
abbrev pub is_block_transfer : Levels → Bool
is_block_transfer v = is_block_class (class_of v)

-- a cycle that starts with the levels `v` needs the address lines 1 to `n`
abbrev pub needs_up_to : ℕ → Levels → Bool
needs_up_to n v = (needs_of v).highest == n

-- the codes whose lines have the property
abbrev pub codes_that : (Levels → Bool) → List ℕ
codes_that p = those (λ c. p (lines_of_code c)) 0 64

-- three slots, all lines high but line `l`, which has level `x`
abbrev pub high_but : ℕ → Level → Levels
high_but l x = set_level (record { slots = 3; levels = replicate line_count High }) l x

-- the lines that alone keep the bus from being idle by level `x`
abbrev pub not_idle_with : Level → List ℕ
not_idle_with x = those (λ l. not (is_idle (high_but l x))) 0 line_count

-- the lines by which control of the bus is lost while one of them is unknown
abbrev pub lines_losing_control : List ℕ
lines_losing_control = those (λ l. loses_control (high_but l Unknown)) 0 line_count

-- the nets of the grant chains and of the IACK* chain of three slots
abbrev pub nets : List ℕ
nets =
    50 ∷ 51 ∷ 52 ∷ 53 ∷ 72 ∷ 73 ∷ 74 ∷ 75 ∷ 94 ∷ 95 ∷ 96 ∷ 97 ∷ 116 ∷ 117 ∷ 118 ∷ 119
    ∷ 138 ∷ 139 ∷ 140 ∷ []

-- the address strobe, the strobes, the answers, the nets and the system reset
abbrev pub high_lines : List ℕ
high_lines = 0 ∷ 1 ∷ 2 ∷ 3 ∷ 4 ∷ nets ++ 191 ∷ []

-- `high_lines`, the interrupt acknowledge, the busy line and the bus requests
abbrev pub control_lines : List ℕ
control_lines = 0 ∷ 1 ∷ 2 ∷ 3 ∷ 4 ∷ 5 ∷ 45 ∷ 46 ∷ 47 ∷ 48 ∷ 49 ∷ nets ++ 191 ∷ []

-- the lines that a cycle needs that starts with these levels
abbrev pub needed_lines : Levels → List ℕ
needed_lines v = those (is_needed v) 0 line_count

-- the interrupt acknowledge, the address modifier, the long word line and a standard address
abbrev pub standard_lines : List ℕ
standard_lines =
    5 ∷ 6 ∷ 7 ∷ 8 ∷ 9 ∷ 10 ∷ 11 ∷ 12 ∷ 14 ∷ 15 ∷ 16 ∷ 17 ∷ 18 ∷ 19 ∷ 20 ∷ 21 ∷ 22 ∷ 23 ∷ 24 ∷ 25 ∷ 26 ∷ 27 ∷ 28
    ∷ 29 ∷ 30 ∷ 31 ∷ 32 ∷ 33 ∷ 34 ∷ 35 ∷ 36 ∷ []

-- the lines that make a cycle of code 0F a free one while they are unknown
abbrev pub modifier_lines : List ℕ
modifier_lines = those (λ l. needs_up_to 0 (set_level (lines_of_code 15) l Unknown)) 0 line_count
