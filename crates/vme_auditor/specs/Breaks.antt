-- A break with numbers of 64 bits, as a break of the definitions.
use Rattle.std.specs.Prelude.{ℕ, List, [], ◌∷◌, Option, None, Some}
use Rattle.vme_trace.specs.declared.verdict.Break.{Break}
use Rattle.vme_auditor.specs.declared.audit_break.AuditBreak.{AuditBreak}

-- a break of an audit as one of the definitions
abbrev pub as_break : AuditBreak → Break
as_break b = record { instant = b.instant; time = b.time; rule = b.rule; line = b.line }

-- the instant of the last break
abbrev pub last_instant_of : List Break → Option ℕ
last_instant_of [] = None
last_instant_of (b ∷ bs) = Some (behind b bs)
  where
    behind : Break → List Break → ℕ
    behind b [] = b.instant
    behind b (c ∷ cs) = behind c cs
