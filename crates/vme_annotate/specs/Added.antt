-- The codes and the scope of the variables that are added to a dump.
use Rattle.std.specs.Prelude.{◌≡◌, ℕ, true, List, [], length, map, take, All, Result, Ok, Err}
use Rattle.std.specs.List.Sorted.{IsStrictlyIncreasing}
use Rattle.vcd_read.specs.CodeNumbers.{code_number}
use Rattle.vcd_places.specs.Codes.{IsUnused}
use Rattle.vcd_places.specs.Places.{ends_definitions_at}
use Rattle.std.specs.Global.{Vec}
use Rattle.vcd_read.specs.Header.{Net, appended, nothing_declared}
use Rattle.vcd_read.specs.Sections.{Defined, header_of}
use Rattle.vcd_read.specs.Tokens.{tokens}
use Rattle.vcd_read.specs.declared.dump.Variable.{Variable}
use Rattle.vme_stream.specs.declared.refusal.Refusal.{Refusal}
use Rattle.vme_stream.specs.declared.refusal.Refusal.TheVariants.{Memory}
use Rattle.vme_annotation.specs.Fresh.{AreFree, IsFreeScope, scope_name}

-- the name of the scope, and the codes in the order of the variables
pub record Added : Type 0 where
  pub scope : List ℕ
  pub own : List (List ℕ)

-- the bytes of a vector
abbrev pub bytes_of : Vec ℕ → List ℕ
bytes_of v = v.items

-- no variable has the scope in its path, and the codes are free beside these nets
pub record AreBeside (variables : List Variable) (nets : List Net) (added : Added) : Type 0 where
  pub underscores : ℕ
  pub scope : IsFreeScope variables underscores
  pub scope_is : added.scope ≡ scope_name underscores
  pub count_is : length added.own ≡ 4
  pub codes_are : AreFree nets added.own

-- no variable has the scope in its path, and the codes are no tokens of the definitions
pub record IsBeside (dump : List ℕ) (variables : List Variable) (added : Added) : Type 0 where
  pub underscores : ℕ
  pub scope : IsFreeScope variables underscores
  pub scope_is : added.scope ≡ scope_name underscores
  pub count_is : length added.own ≡ 4
  pub start : ℕ
  pub starts : ends_definitions_at dump start ≡ true
  pub each : All (λ (code : List ℕ). IsUnused (take start dump) (code_number code) code) added.own
  pub ascend : IsStrictlyIncreasing (map code_number added.own)

-- the scope and the codes are free beside the variables and nets of the dump; the only refusal is `Memory`
abbrev pub IsFreeIn : List ℕ → Result Added Refusal → Type 0
IsFreeIn dump (Ok added) = (d : Defined (List Variable))
    × (header_of appended dump (nothing_declared []) (tokens dump) ≡ Ok d)
    × AreBeside d.variables d.head.nets added
IsFreeIn dump (Err refusal) = refusal ≡ Memory
