-- What a function answers that gives a value or the first fault.
use Rattle.std.specs.Prelude.{◌≡◌, ℕ, Result, Ok, Err}
use Rattle.vme_bind.specs.declared.fault.BindFault.{BindFault}
use Rattle.vme_bind.specs.declared.fault.BindFaultKind.{BindFaultKind}
use Rattle.vme_bind.specs.declared.fault.BindFaultKind.TheVariants.{Memory}

-- a kind of fault at a line
abbrev pub at_line : {A : Type 0} → ℕ → Result A BindFaultKind → Result A BindFault
at_line line (Ok x) = Ok x
at_line line (Err kind) = Err (record { line = line; kind = kind })

-- `answer` is a fault of this kind at this line, unless it is want of memory, which is at line 0
abbrev pub BindFailsAs : {Y : Type 0} → ℕ → BindFaultKind → Result Y BindFault → Type 0
BindFailsAs line Memory answer = line ≡ 0
BindFailsAs line kind answer = answer ≡ Err (record { line = line; kind = kind })

-- `answer` is this fault, unless it is want of memory, which is at line 0
abbrev pub BindFails : {Y : Type 0} → BindFault → Result Y BindFault → Type 0
BindFails fault answer = BindFailsAs fault.line fault.kind answer

-- what a function returned agrees with `answer`: its value, seen by `view`, or its fault, unless memory ran out
abbrev pub BindGives : {X Y : Type 0} → (X → Y) → Result X BindFault → Result Y BindFault → Type 0
BindGives view (Ok x) answer = answer ≡ Ok (view x)
BindGives view (Err fault) answer = BindFails fault answer
