-- The worked recordings settle, and are complete, as they are listed; computed from the definitions.
use Rattle.std.proofs.Common.{refl}
use Rattle.std.proofs.lemmas.List.Elements.{All-from_recursion}
use Rattle.std.specs.Prelude.{All}
use Rattle.vme_trace.specs.Instants.{any, those}
use Rattle.vme_trace.specs.Trace.{changed, levels_at}
use Rattle.vme_skew.specs.Settled.{group_start, settled, settled_until, steps_before}
use Rattle.vme_skew.specs.Worked.{Settles, worked, just_within, just_past, by_nothing, over_all, greatest, glitch}
use Rattle.vme_skew.specs.Worked.{ends_as_it_began, reset_and_loss_within, reset_and_loss_last, nothing}
use Rattle.vme_skew.specs.Worked.{HasComplete, worked_times, later_by_the_skew, later_by_more, first_by_the_skew}
use Rattle.vme_skew.specs.Worked.{by_nothing_after_last, by_nothing_at_last, first_by_more, never_over, reaches_none}
use Rattle.vme_skew.specs.Worked.{over_without_step}

-- each worked recording settles to the steps that it names
pub worked_settle : All Settles worked
unfolding settled steps_before group_start levels_at changed any those just_within just_past by_nothing over_all
    greatest glitch ends_as_it_began reset_and_loss_within reset_and_loss_last nothing
worked_settle = All-from_recursion Settles worked
    (refl, (refl, (refl, (refl, (refl, (refl, (refl, (refl, (refl, (refl, tt))))))))))

-- of each worked recording those steps are complete that it names
pub worked_complete : All HasComplete worked_times
unfolding settled_until settled steps_before group_start levels_at changed any those later_by_the_skew later_by_more
    first_by_the_skew first_by_more reaches_none never_over by_nothing_at_last by_nothing_after_last over_without_step
worked_complete = All-from_recursion HasComplete worked_times
    (refl, (refl, (refl, (refl, (refl, (refl, (refl, (refl, (refl, tt)))))))))
