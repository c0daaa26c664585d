-- Changes of lines that aren't nets of grants can be passed over in the search for the first change that breaks G1 to
-- G4.
use Rattle.std.proofs.Common.{◌≡◌, ℕ, Bool, false, List, refl}
use Rattle.std.specs.Prelude.{None}
use Rattle.std.proofs.lemmas.Bool.{and_left}
use Rattle.vme_trace.specs.Changes.{first_changed}
use Rattle.vme_trace.specs.LineNumbers.{is_grant}
use Rattle.vme_trace.specs.Levels.{Levels}
use Rattle.vme_trace.specs.declared.rule.Rule.TheVariants.{G1, G2, G3, G4}
use Rattle.vme_trace.specs.declared.step.Change.{Change}
use Rattle.vme_chains.specs.GrantLevels.{is_net_broken}
use Rattle.vme_chains.specs.GrantRules.{nets_fault}
use Rattle.vme_chains.proofs.GrantSkips.{and-other_kind}

-- changes of other lines than grant nets break none of G1 to G4
pub nets_fault-passed : (v w : Levels) (cs : List Change)
    → ((p : ℕ → Bool) → ((k : ℕ) → is_grant k ≡ false → p k ≡ false)
    → first_changed p cs ≡ None) → nets_fault v w cs ≡ None
nets_fault-passed v w cs none =
    rw (
      none (is_net_broken G1 v w) (λ l k. and-other_kind _ _ _ (and_left (is_grant l) _ k)),
      none (is_net_broken G2 v w) (λ l k. and-other_kind _ _ _ (and_left (is_grant l) _ k)),
      none (is_net_broken G3 v w) (λ l k. and-other_kind _ _ _ (and_left (is_grant l) _ k)),
      none (is_net_broken G4 v w) (λ l k. and-other_kind _ _ _ k),
    ) refl
