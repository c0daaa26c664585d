-- The loop over bytes of the name: the text has those so far, as they are shown.
use Rattle.std.proofs.Common.{◌≡◌, map, take}
use Rattle.vme_audit_lines.specs.AuditLines.{shown}
use Rattle.vme_audit_lines.proofs.dump_lines.dump_head.Given as goal

abbrev pub invariant-loop-byte : goal.invariant-loop-byte
invariant-loop-byte l = l.text ≡ map shown (take l.byte-index l.name)
