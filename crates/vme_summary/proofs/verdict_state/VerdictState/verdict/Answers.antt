use Rattle.vme_summary.proofs.verdict_state.VerdictState.verdict.Goals as goal

pub returns : goal.returns
returns c = λ t sound few judged. c.verdict.ensures t (record { sound = sound; few = few; found_there = judged.found })
