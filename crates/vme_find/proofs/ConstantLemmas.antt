-- A binding of all lines to constant levels makes a recording without a step of every dump that has no fault.
use Rattle.std.proofs.Common.{◌≡◌, ℕ, ◌+◌, ◌-◌, Bool, true, false, not, List, [], ◌∷◌, length, map, Some, None}
use Rattle.std.proofs.Common.{Result, Ok, refl, ap, ◌∙◌}
use Rattle.std.specs.Prelude.{if◌then◌else◌}
use Rattle.std.specs.List.{list_all}
use Rattle.std.proofs.lemmas.Bool.{and_parts}
use Rattle.vme_trace.specs.Levels.{same_level}
use Rattle.vme_trace.specs.LineNumbers.{has_line, line_count}
use Rattle.vme_trace.specs.Trace.{Trace}
use Rattle.vme_trace.specs.declared.level.Level.{Level}
use Rattle.vme_trace.proofs.Ranges.{fails-any, those-none}
use Rattle.vcd_read.specs.Contents.{Contents}
use Rattle.vcd_read.specs.Header.{◌>>=◌}
use Rattle.vcd_read.specs.declared.dump.Instant.{Instant}
use Rattle.vcd_read.specs.declared.dump.Variable.{Variable}
use Rattle.vme_bind.specs.Binding.{BoundLines}
use Rattle.vme_bind.specs.BoundGroups.{bound_group_by, bound_group_in, bound_group_source, bound_groups_in}
use Rattle.vme_bind.specs.BoundGroups.{source_in, source_on}
use Rattle.vme_bind.specs.Capture.{capture_of, changes_at, is_step, level_after, level_by, limited, recording, step_at}
use Rattle.vme_bind.specs.Groups.{holds}
use Rattle.vme_bind.specs.TextCapture.{capture_of_text, capture_read, or_binding}
use Rattle.vme_bind.specs.declared.assignment.Assignment.{Assignment}
use Rattle.vme_bind.specs.declared.fault.BindFault.{BindFault}
use Rattle.vme_bind.specs.declared.source.LevelSource.{LevelSource}
use Rattle.vme_bind.specs.declared.source.LevelSource.TheVariants.{Constant, Variable as Named}
use Rattle.vme_bind.proofs.RecorderLemmas.{same_level-refl}
use Rattle.vme_find.specs.Constants.{BindsConstants, is_constant}
use Rattle.vme_declarations.specs.Dumps.{IsDump}
use Rattle.vme_find.specs.Recordings.{MakesRecording}

-- ---- the sources of the lines

-- the type of the values that a function gives
abbrev OkOf : {X A E : Type 0} → (X → Result A E) → Type 0
OkOf {X} {A} {E} f = A

-- the type of bound groups
abbrev pub BoundGroupType : Type 0
BoundGroupType = OkOf (bound_group_in [])

-- each line of the group `w` has the same level after n and after m instants
abbrev KeepsLevels : BoundGroupType → Type 0
KeepsLevels w = (slots : ℕ) (ws : List BoundGroupType) (instants : List Instant) (n m l place : ℕ)
    → level_by slots ws instants n l (Some (source_on place w.source))
    ≡ level_by slots ws instants m l (Some (source_on place w.source))

-- each line of each of the groups has the same level after any number of instants
AllKeepLevels : List BoundGroupType → Type 0
AllKeepLevels [] = Unit {0}
AllKeepLevels (w ∷ ws) = KeepsLevels w × AllKeepLevels ws

-- the bound group of an assignment to a constant level keeps its levels
KeepsLevels-constant : (vs : List Variable) (a : Assignment) (level : Level) → a.source ≡ Constant level
    → (w : BoundGroupType) × (bound_group_in vs a ≡ Ok w) × KeepsLevels w
KeepsLevels-constant vs a level is = (
  _,
  ap (λ (s : LevelSource). bound_group_by a (source_in vs a.group.count s)) is,
  λ slots ws instants n m l place. refl,
)

-- the assignments have bound groups, all of which keep their levels
abbrev ConstantGroups : List Variable → List Assignment → Type 0
ConstantGroups vs as' = (ws : List BoundGroupType) × (bound_groups_in vs as' ≡ Ok ws) × AllKeepLevels ws

-- assignments to constant levels alone have bound groups, all of which keep their levels
AllKeepLevels-constants : (vs : List Variable) (as' : List Assignment) → list_all is_constant as' ≡ true
    → ConstantGroups vs as'
unfolding bound_groups_in AllKeepLevels
AllKeepLevels-constants vs [] e = ([], refl, tt)
AllKeepLevels-constants vs (a ∷ as') e =
    let parts = and_parts (is_constant a) (list_all is_constant as') e in
    by_source a.source refl parts.0 (AllKeepLevels-constants vs as' parts.1)
  where
    by_source : (s : LevelSource) → a.source ≡ s → is_constant a ≡ true → ConstantGroups vs as'
        → ConstantGroups vs (a ∷ as')
    by_source (Constant level) is constant (ws, are, stay) =
        let (w, one, stays) = KeepsLevels-constant vs a level is in
        (w ∷ ws, rw (one, are) refl, (stays, stay))
    by_source (Named named) is constant more = let bad = rw is at constant in cc

-- ---- no line changes

module _ (slots : ℕ) (all : List BoundGroupType) (instants : List Instant) where
  -- the level of a line by its source among groups that keep their levels is the same after any number of instants
  level_by-keeps : (ws : List BoundGroupType) (n m l : ℕ) → AllKeepLevels ws
      → level_by slots all instants n l (bound_group_source ws l)
      ≡ level_by slots all instants m l (bound_group_source ws l)
  unfolding AllKeepLevels
  level_by-keeps [] n m l stay = refl
  level_by-keeps (w ∷ ws) n m l (stays, stay) =
      by_test (holds w.group l) (stays slots all instants n m l (w.group.first - l)) (level_by-keeps ws n m l stay)
    where
      by_test : (b : Bool)
          → level_by slots all instants n l (Some (source_on (w.group.first - l) w.source))
          ≡ level_by slots all instants m l (Some (source_on (w.group.first - l) w.source))
          → level_by slots all instants n l (bound_group_source ws l)
          ≡ level_by slots all instants m l (bound_group_source ws l)
          → level_by slots all instants n l
          (if b then Some (source_on (w.group.first - l) w.source) else bound_group_source ws l)
          ≡ level_by slots all instants m l
          (if b then Some (source_on (w.group.first - l) w.source) else bound_group_source ws l)
      by_test true here later = here
      by_test false here later = later

  -- the level of a line, where all groups keep theirs, is the same after any number of instants
  level_after-keeps : (n m l : ℕ) → AllKeepLevels all
      → level_after slots all instants n l ≡ level_after slots all instants m l
  unfolding level_after
  level_after-keeps n m l stay = by_test (has_line slots l) (level_by-keeps all n m l stay)
    where
      by_test : (b : Bool)
          → level_by slots all instants n l (bound_group_source all l)
          ≡ level_by slots all instants m l (bound_group_source all l)
          → level_by slots all instants n l (if b then bound_group_source all l else None)
          ≡ level_by slots all instants m l (if b then bound_group_source all l else None)
      by_test true here = here
      by_test false here = refl

  -- where all groups keep their levels, no line changes
  changes_at-never : (n l : ℕ) → AllKeepLevels all → changes_at slots all instants n l ≡ false
  unfolding changes_at
  changes_at-never n l stay =
      ap (λ (level : Level). not (same_level (level_after slots all instants n l) level))
      (level_after-keeps (n + 1) n l stay)
      ∙ ap not (same_level-refl (level_after slots all instants n l))

  -- where all groups keep their levels, no instant makes a step
  is_step-never : (n : ℕ) → AllKeepLevels all → is_step slots all instants n ≡ false
  unfolding is_step
  is_step-never n stay = fails-any (changes_at slots all instants n) 0 line_count (λ l a b. changes_at-never n l stay)

  -- where all groups keep their levels, the recording has no step
  steps-none : (n : ℕ) → AllKeepLevels all → (recording slots all instants n).steps ≡ []
  unfolding recording
  steps-none n stay = ap (map (step_at slots all instants)) (those-none (is_step slots all instants) 0 n
      (fails-any (is_step slots all instants) 0 n (λ i a b. is_step-never i stay)))

-- a recording without a step isn't too long
limited-no_step : (t : Trace) → t.steps ≡ [] → limited t ≡ Ok t
limited-no_step t none = rw none refl

-- ---- the recording

-- a binding to constant levels alone makes a recording of each dump
capture_of-constants : (b : BoundLines) (dump : Contents) → list_all is_constant b.assignments ≡ true
    → (t : Trace) × (capture_of b dump ≡ Ok t)
unfolding capture_of
capture_of-constants b dump constant =
    let (ws, are, stay) = AllKeepLevels-constants dump.variables b.assignments constant in
    let t = recording b.slots ws dump.instants (length dump.instants) in (
      t,
      ap (λ (r : Result (List BoundGroupType) BindFault). r >>= λ bound_groups. limited
          (recording b.slots bound_groups dump.instants (length dump.instants))) are
          ∙ limited-no_step t (steps-none b.slots ws dump.instants (length dump.instants) stay),
    )

-- a binding to constant levels alone makes a recording of each text that is a dump
capture_of_text-constants : (b : BoundLines) (text : List ℕ) → list_all is_constant b.assignments ≡ true → IsDump text
    → (t : Trace) × (capture_of_text b text ≡ Ok t)
unfolding capture_of_text
capture_of_text-constants b text constant (dump, is) =
    let (t, made) = capture_of-constants b dump constant in
    (t, ap (capture_read b) is ∙ ap or_binding made)

-- the text of a binding to constant levels alone makes a recording of each dump
pub MakesRecording-constants : (slots : ℕ) (text : List ℕ) → BindsConstants slots text → (dump : List ℕ) → IsDump dump
    → MakesRecording text dump
MakesRecording-constants slots text (b, is, slots_are, constant) dump there =
    let (t, made) = capture_of_text-constants b dump constant there in
    record { bound = b; recording = t; is_binding = is; records = made }
