-- The kinds of faults and refusals, and their names.
use Rattle.std.specs.Prelude.{ℕ, Bool, List, [], ◌∷◌, Option, codes, find}
use Rattle.std.specs.Str.{bytes_eq}
use Rattle.vme_faults.specs.declared.refusal_kind.RefusalKind.{RefusalKind}
use Rattle.vme_faults.specs.declared.refusal_kind.RefusalKind.TheVariants as kind

-- every kind, in the order in which they are written
abbrev pub all_kinds : List RefusalKind
all_kinds =
    kind.BadToken ∷ kind.UnfinishedSection ∷ kind.BadVar ∷ kind.ScopeUnderflow ∷ kind.NoEndDefinitions ∷
    kind.UndeclaredCode ∷ kind.SizeConflict ∷ kind.TooWide ∷ kind.TimeBackwards ∷ kind.NumberTooLarge ∷
    kind.SlotsFirst ∷ kind.BadLine ∷ kind.UnknownName ∷ kind.NamedTwice ∷ kind.Unbound ∷ kind.NoSuchPath ∷
    kind.AmbiguousPath ∷ kind.WrongWidth ∷ kind.TooManySteps ∷ kind.BadHeader ∷ kind.BadRow ∷ kind.Unsorted ∷
    kind.CannotOpen ∷ kind.CannotRead ∷ kind.TooLong ∷ kind.TooManyBlocks ∷ kind.OutOfMemory ∷ []

-- the name of a kind, as a refusal has it
abbrev pub kind_name : RefusalKind → List ℕ
kind_name kind.BadToken = codes "BadToken"
kind_name kind.UnfinishedSection = codes "UnfinishedSection"
kind_name kind.BadVar = codes "BadVar"
kind_name kind.ScopeUnderflow = codes "ScopeUnderflow"
kind_name kind.NoEndDefinitions = codes "NoEndDefinitions"
kind_name kind.UndeclaredCode = codes "UndeclaredCode"
kind_name kind.SizeConflict = codes "SizeConflict"
kind_name kind.TooWide = codes "TooWide"
kind_name kind.TimeBackwards = codes "TimeBackwards"
kind_name kind.NumberTooLarge = codes "NumberTooLarge"
kind_name kind.SlotsFirst = codes "SlotsFirst"
kind_name kind.BadLine = codes "BadLine"
kind_name kind.UnknownName = codes "UnknownName"
kind_name kind.NamedTwice = codes "NamedTwice"
kind_name kind.Unbound = codes "Unbound"
kind_name kind.NoSuchPath = codes "NoSuchPath"
kind_name kind.AmbiguousPath = codes "AmbiguousPath"
kind_name kind.WrongWidth = codes "WrongWidth"
kind_name kind.TooManySteps = codes "TooManySteps"
kind_name kind.BadHeader = codes "listing header"
kind_name kind.BadRow = codes "BadRow"
kind_name kind.Unsorted = codes "Unsorted"
kind_name kind.CannotOpen = codes "cannot open"
kind_name kind.CannotRead = codes "cannot read"
kind_name kind.TooLong = codes "too long"
kind_name kind.TooManyBlocks = codes "too many blocks"
kind_name kind.OutOfMemory = codes "out of memory"

-- the kind has this name
abbrev pub is_kind_name : List ℕ → RefusalKind → Bool
is_kind_name name k = bytes_eq (kind_name k) name

-- the kind that has a name
unfoldable pub kind_named : List ℕ → Option RefusalKind
kind_named name = find (is_kind_name name) all_kinds
