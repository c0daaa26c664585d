-- The marks (events of the bus) are those of the tables of all monitors, merged.
use Rattle.std.proofs.Common.{◌∙◌, ap}
use Rattle.std.proofs.lemmas.Result.{IfOk-weaker}
use Rattle.vme_monitor.specs.BothMonitors.{merged}
use Rattle.vme_monitor.specs.Outcome.{Outcome}
use Rattle.vme_monitor.specs.OverStretches.{opening_phase}
use Rattle.vme_monitor.specs.KnownRules.{known_begin}
use Rattle.vme_dtb.specs.Machine.{dtb_begin}
use Rattle.vme_dtb.specs.StabilityRules.{stability_begin}
use Rattle.vme_chains.specs.GrantRules.{grant_begin}
use Rattle.vme_chains.specs.AcknowledgeRules.{acknowledge_begin}
use Rattle.vme_summary.specs.Runs.{known_run, handshake_run, stability_run, grant_run, acknowledge_run}
use Rattle.vme_summary.specs.Summaries.{known_outcome, handshake_outcome, stability_outcome, grant_outcome}
use Rattle.vme_summary.specs.Summaries.{acknowledge_outcome}
use Rattle.vme_summary.proofs.Together.{outcome-from_opening, merged-marks_of_monitors}
use Rattle.vme_summary.proofs.summary.MonitorSummaries.marks.Goals as goal

pub returns : goal.returns
unfolding known_run handshake_run stability_run grant_run acknowledge_run
returns c =
    let s = c.args.self.now in
    let opening = c.args.opening.now in
    IfOk-weaker c.marks_together-4.result _ _
    (λ marks e t all.
    let of_known =
    c.in_ok-known.ensures ∙ ap (λ (o : Outcome _). o.marks) (outcome-from_opening (known_outcome s) s.known.steps
    (opening_phase known_begin) c.start.result opening t.opening t.steps c.start.ensures all.opens all.stands.known)
    ∙ c.known_over_recordings.ensures.marks t all.sound all.few in
    let of_handshake =
    c.in_ok-handshake.ensures ∙ ap (λ (o : Outcome _). o.marks)
    (outcome-from_opening (handshake_outcome s) s.handshake.steps
    (opening_phase dtb_begin) c.start-2.result opening t.opening t.steps c.start-2.ensures all.opens
    all.stands.handshake)
    ∙ c.handshake_over_recordings.ensures.marks t all.sound all.few in
    let of_stability =
    c.in_ok-stability.ensures ∙ ap (λ (o : Outcome _). o.marks)
    (outcome-from_opening (stability_outcome s) s.stability.steps
    (opening_phase stability_begin) c.start-3.result opening t.opening t.steps c.start-3.ensures all.opens
    all.stands.stability)
    ∙ c.stability_over_recordings.ensures.marks t all.sound all.few in
    let of_grant =
    c.in_ok-grant.ensures ∙ ap (λ (o : Outcome _). o.marks) (outcome-from_opening (grant_outcome s) s.grant.steps
    (opening_phase grant_begin) c.start-4.result opening t.opening t.steps c.start-4.ensures all.opens all.stands.grant)
    ∙ c.grants_over_recordings.ensures.marks t all.sound all.few in
    let of_acknowledge =
    c.in_ok-acknowledge.ensures ∙ ap (λ (o : Outcome _). o.marks) (outcome-from_opening (acknowledge_outcome s)
    s.acknowledge.steps (opening_phase acknowledge_begin) c.start-5.result opening t.opening t.steps c.start-5.ensures
    all.opens all.stands.acknowledge)
    ∙ c.acknowledge_over_recordings.ensures.marks t all.sound all.few in
    e
    ∙ ap (merged c.in_ok-known.known.items) (c.in_ok-started.ensures ∙ ap (merged c.in_ok-handshake.handshake.items)
    (c.in_ok-held.ensures ∙ ap (merged c.in_ok-stability.stability.items) c.in_ok-chains.ensures))
    ∙ merged-marks_of_monitors t _ _ _ _ _ of_known of_handshake of_stability of_grant of_acknowledge)
    c.marks_together-4.ensures
