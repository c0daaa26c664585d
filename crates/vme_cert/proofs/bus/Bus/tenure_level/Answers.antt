use Rattle.std.proofs.Common.{◌∙◌, ap}
use Rattle.vme_cert.specs.Vocabulary.{Levels, grant, is_low, least, level_at, low, tenure_level}
use Rattle.vme_cert.proofs.bus.Bus.tenure_level.Goals as goal

pub returns-clause-level : goal.returns-clause-level
unfolding tenure_level low
returns-clause-level c t at =
    c.granted_level.ensures.level
    ∙ ap (λ (v : Levels). least (λ n. is_low (level_at v (grant n 0))) 0 4) (c.granted.ensures t at)
