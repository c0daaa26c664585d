-- The texts so far are those of the allowances.
use Rattle.std.proofs.Common.{◌≡◌, map, string_bytes, take}
use Rattle.vme_commands.specs.AllowanceTexts.{allowance_text}
use Rattle.vme_commands.proofs.allowance.allowances_of.Given as goal

abbrev pub invariant-loop-text : goal.invariant-loop-text
invariant-loop-text l = map allowance_text l.all.items ≡ map string_bytes (take l.text-index l.texts)
