use Rattle.std.proofs.Common.{length, refl, sym, ◌∙◌}
use Rattle.std.proofs.lemmas.Option.{slice_get-get_or, slice_get_read}
use Rattle.vme_monitor.proofs.LastSeen.{none_elsewhere, none_past_end, none_without_entry}
use Rattle.vme_monitor.proofs.merge.index_at_place.Goals as goal

pub returns-then-place-last_seen-clause-none : goal.returns-then-place-last_seen-clause-none
returns-then-place-last_seen-clause-none g c = λ e s. none_without_entry g.P.Enumerable.place_of c.args.merged.now
    c.args.last_seen.now c.args.place c.if-place-last_seen.true s

pub returns-then-at-merged-clause-none : goal.returns-then-at-merged-clause-none
returns-then-at-merged-clause-none g c =
    λ e s. none_past_end g.P.Enumerable.place_of c.args.merged.now c.args.last_seen.now c.args.place _
    (slice_get-get_or c.args.last_seen.now c.args.place 0 c.if-place-last_seen.false) c.if-at-merged.true s

pub returns-then-place-clause-none : goal.returns-then-place-clause-none
returns-then-place-clause-none g c =
    λ e s.
    none_elsewhere g.P.Enumerable.place_of c.args.merged.now c.args.last_seen.now c.args.place _
    c.index-merged-at.result (slice_get-get_or c.args.last_seen.now c.args.place 0 c.if-place-last_seen.false)
    (slice_get_read c.args.merged.now (length c.args.merged.now) _ c.index-merged-at.result refl c.if-at-merged.false
    c.index-merged-at.is)
    (λ h. c.if-place.true (c.place.ensures ∙ h)) s

pub returns-clause-there : goal.returns-clause-there
returns-clause-there g c = (
  c.index-merged-at.result,
  slice_get_read c.args.merged.now (length c.args.merged.now) _ c.index-merged-at.result
      refl c.if-at-merged.false c.index-merged-at.is,
  sym c.place.ensures ∙ c.if-place.false,
)
