-- Bindings of all lines to constant levels.
use Rattle.std.specs.Prelude.{◌≡◌, ℕ, Bool, true, false, List, Ok}
use Rattle.std.specs.List.{list_all}
use Rattle.vme_bind.specs.Binding.{BoundLines, binding_of}
use Rattle.vme_bind.specs.declared.assignment.Assignment.{Assignment}
use Rattle.vme_bind.specs.declared.source.LevelSource.{LevelSource}
use Rattle.vme_bind.specs.declared.source.LevelSource.TheVariants.{Constant, Variable as Named}

-- the source is a constant level
abbrev pub is_constant_source : LevelSource → Bool
is_constant_source (Constant level) = true
is_constant_source (Named named) = false

-- the assignment binds its lines to a constant level
abbrev pub is_constant : Assignment → Bool
is_constant a = is_constant_source a.source

-- `text` is a binding of `slots` slots, and binds each line to a constant level
abbrev pub BindsConstants : ℕ → List ℕ → Type 0
BindsConstants slots text = (bound : BoundLines) × (binding_of text ≡ Ok bound) × (bound.slots ≡ slots)
    × (list_all is_constant bound.assignments ≡ true)
