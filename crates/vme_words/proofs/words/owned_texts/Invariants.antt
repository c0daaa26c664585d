-- The loop over the texts: those so far are copied.
use Rattle.std.proofs.Common.{◌≡◌, map, string_bytes, take}
use Rattle.vme_words.proofs.words.owned_texts.Given as goal

abbrev pub invariant-loop-text : goal.invariant-loop-text
invariant-loop-text l = map string_bytes l.all.items ≡ map (λ text. text.now) (take l.text-index l.texts)
