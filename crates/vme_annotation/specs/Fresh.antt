-- Codes and a scope that no variable of a dump has.
use Rattle.std.specs.Prelude.{◌≡◌, ℕ, ◌<◌, Bool, true, false, ◌==◌, List, ◌++◌, length, map, codes, replicate, bytes_eq}
use Rattle.std.specs.Prelude.{None, All}
use Rattle.std.specs.List.{list_any, slice_split}
use Rattle.std.specs.List.Sorted.{IsStrictlyIncreasing}
use Rattle.vcd_read.specs.CodeNumbers.{code_number}
use Rattle.vcd_read.specs.Header.{Net, is_code, is_end, net_of}
use Rattle.vcd_read.specs.declared.dump.Variable.{Variable}

-- ---- the codes

-- an identifier code that no net has; it isn't `$end`, which would end the section of the variable's declaration
pub record IsFree (nets : List Net) (code : List ℕ) : Type 0 where
  pub some : 0 < length code
  pub is_one : is_code code ≡ true
  pub no_end : is_end code ≡ false
  pub free : net_of nets code ≡ None

-- these are free codes, each with a higher number than those before it
pub record AreFree (nets : List Net) (own : List (List ℕ)) : Type 0 where
  pub each : All (IsFree nets) own
  pub ascend : IsStrictlyIncreasing (map code_number own)

-- ---- the scope

-- the name of the scope: `vmecheck` and this many underscores
abbrev pub scope_name : ℕ → List ℕ
scope_name underscores = codes "vmecheck" ++ replicate underscores 95

-- `name` is the variable's own name, or that of a scope around it
abbrev pub has_part : List ℕ → Variable → Bool
has_part name v = list_any (λ part. bytes_eq part name) (slice_split (λ b. b == 46) v.path)

-- one of the variables has the scope's name in its path
abbrev pub has_name : List Variable → ℕ → Bool
has_name variables underscores = list_any (has_part (scope_name underscores)) variables

-- no variable has the scope's name in its path
abbrev pub IsFreeScope : List Variable → ℕ → Type 0
IsFreeScope variables underscores = has_name variables underscores ≡ false
