-- The loop over rules: the names of those so far that aren't asked were added to the text.
use Rattle.std.proofs.Common.{◌≡◌, ◌++◌, take}
use Rattle.vme_audit_lines.specs.AuditLines.{names_text, unasked_among}
use Rattle.vme_audit_lines.proofs.counts.push_names.Given as goal

abbrev pub invariant-loop-rule : goal.invariant-loop-rule
invariant-loop-rule l = l.text ≡ l.fn.text ++ names_text (unasked_among l.events (take l.rule-index l.rules))
