use Rattle.vme_find.proofs.ConstantLemmas.{MakesRecording-constants}
use Rattle.vme_find.proofs.writing.constant_binding.Goals as goal

pub returns-clause-ok : goal.returns-clause-ok
returns-clause-ok c dump there = MakesRecording-constants _ c.in_ok-constant_text.field-0 c.in_ok-constant_text.ensures
    dump
    there
