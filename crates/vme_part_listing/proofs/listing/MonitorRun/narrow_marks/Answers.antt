use Rattle.vme_part_listing.proofs.listing.MonitorRun.narrow_marks.Goals as goal

pub returns-clause-same : goal.returns-clause-same
returns-clause-same c = rw c.as_slice.ensures.value at c.narrow.ensures.same

pub returns-clause-late : goal.returns-clause-late
returns-clause-late c = rw c.as_slice.ensures.value at c.narrow.ensures.late
