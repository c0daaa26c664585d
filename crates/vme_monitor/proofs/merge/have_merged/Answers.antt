use Rattle.std.proofs.Common.{rules, ◌≡◌, ◌<◌, ◌+◌, ◌∷◌, [], ◌++◌, ap, arith, length, map, sym, take, ◌∙◌}
use Rattle.std.proofs.lemmas.List.{take_all, take_more}
use Rattle.std.proofs.lemmas.Option.{slice_get-get_or}
use Rattle.vme_monitor.specs.Meeting.{memories_in}
use Rattle.vme_monitor.specs.Walk.{outcome_of}
use Rattle.vme_monitor.proofs.LastSeen.{distinct_appended, memories_pushed, stamped_appended}
use Rattle.vme_monitor.proofs.merge.have_merged.Goals as goal

pub loop-row-preserved : goal.loop-row-preserved
loop-row-preserved g c =
    let i = c.loop-row.row-index in
    let row = c.row-item.result in
    let done = take i c.args.rows.now in
    let place = g.P.Enumerable.place_of in
    let lt : i < length c.args.rows.now = omega arith in
    let more : take (i + 1) c.args.rows.now ≡ done ++ row ∷ [] = take_more c.args.rows.now i row lt
    ∙ ap (λ x. done ++ x ∷ []) (sym c.row-item.is) in
    let all : memories_in (map outcome_of (take (i + 1) c.args.rows.now)) ≡ memories_in (map outcome_of done)
    ++ row.memory ∷ [] = ap (λ x. memories_in (map outcome_of x)) more ∙ memories_pushed done row in
    let below : c.place-place.result < length c.loop-row.last_seen = omega arith in
    record {
      stamped = rw all (stamped_appended place c.args.stamp (memories_in (map outcome_of done)) c.loop-row.last_seen
          row.memory c.place-place.result c.place-place.ensures below c.loop-row.invariant.stamped);
      apart = rw all (distinct_appended place c.args.stamp _ (memories_in (map outcome_of done)) c.loop-row.last_seen
          row.memory c.place-place.result c.place-place.ensures (slice_get-get_or c.loop-row.last_seen
          c.place-place.result 0 below) (λ e. absurd (search rules)) c.loop-row.invariant.stamped
          c.loop-row.invariant.apart);
    }

pub returns : goal.returns
returns g c = λ no. let all = take_all c.loop-row.row-index c.args.rows.now (omega arith) in
    rw all at c.loop-row.invariant.apart
