use Rattle.vme_bind.proofs.TextLemmas.{words-at, words-nowhere}
use Rattle.vme_bind.proofs.words.cut_at_blank.Goals as goal

pub returns-in-Some-clause-words : goal.returns-in-Some-clause-words
returns-in-Some-clause-words c = words-at c.args.line.now c.in-Some.blank c.in-Some.ensures.0 c.in-Some.ensures.1

pub returns-in-None-clause-words : goal.returns-in-None-clause-words
returns-in-None-clause-words c = words-nowhere c.args.line.now c.in-None.ensures
