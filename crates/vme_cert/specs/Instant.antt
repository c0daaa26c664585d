-- The levels that a `Bus` keeps of a recording: whether a transfer starts by them, and the changes that lead to them.
-- Also a break by its rule and line.
use Rattle.std.specs.Prelude.{◌≡◌, ℕ, Bool, ◌-◌, ◌&&◌, ◌||◌, true, List, Option, option_map}
use Rattle.vme_cert.specs.Vocabulary.{Break, Change, DS0, DS1, Rule, Trace, are_changes, changed, levels_at, low}
use Rattle.vme_cert.specs.Vocabulary.{strobes_high}
use Rattle.vme_cert.specs.declared.bus.Bus.{Bus}

-- the levels of the bus are those of the recording at its instant and at the one before
pub record IsBusOf (t : Trace) (bus : Bus) : Type 0 where
  pub before : bus.before ≡ levels_at t (bus.instant - 1)
  pub levels : bus.levels ≡ levels_at t bus.instant

-- both strobes were high, and one is low: at a judged instant a transfer starts
abbrev pub starts_transfer : Trace → ℕ → Bool
starts_transfer t i = strobes_high t (i - 1) && (low t DS0 i || low t DS1 i)

-- the changes lead from the levels of the instant before to those of the instant, and each changes a line
pub record LeadToInstant (bus : Bus) (changes : List Change) : Type 0 where
  pub made : bus.levels ≡ changed bus.before changes
  pub sound : are_changes bus.before 0 changes ≡ true

-- the rule and the line of a break
abbrev pub named : Option Break → Option (Rule × ℕ)
named o = option_map (λ b. (b.rule, b.line)) o
