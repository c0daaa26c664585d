-- Breaks after the one at which an audit stops leave those before it as they are.
use Rattle.vme_step_auditor.proofs.ReadOn.{read_by-stopped, is_stopped-stays}
use Rattle.vme_step_auditor.proofs.laws.stop_is_final.Goals as goal

pub returns-clause-stays : goal.returns-clause-stays
returns-clause-stays c =
    λ allowances stop t steps ok few h.
    is_stopped-stays allowances c.breaks_grow.ensures.step c.breaks_grow.ensures.within stop t steps ok few h

pub returns-clause-read : goal.returns-clause-read
returns-clause-read c =
    λ allowances stop t steps ok few h.
    read_by-stopped allowances c.breaks_grow.ensures.step c.breaks_grow.ensures.within stop t steps ok few h
