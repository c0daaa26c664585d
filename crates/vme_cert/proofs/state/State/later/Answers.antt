use Rattle.std.proofs.Common.{refl}
use Rattle.vme_cert.specs.Vocabulary.{BBSY, BERR, DTACK, falls, grant_falls, strobe_rises}
use Rattle.vme_cert.proofs.Fields.{any_after-field_step, any_since-field_step}
use Rattle.vme_cert.proofs.state.State.later.Goals as goal

pub returns : goal.returns
returns c t stretch h =
    let j = c.args.bus.now.instant in
    let rises = c.strobe_rises-rises.ensures t h.at in
    let grants = c.grant_falls-grants.ensures t h.at in
    record {
      cycle = c.later.ensures t stretch c.args.self.now h refl (c.is_answer-is_answer.ensures t stretch h)
          (c.answers_write-writes.ensures t stretch h);
      transfer = c.later-2.ensures t stretch h.at h.judged h.holds.transfer;
      dtack_may_rise = any_since-field_step t stretch (falls t DTACK) (strobe_rises t) j h.judged
          h.holds.dtack_may_rise
          (c.falls-acknowledge_falls.ensures t h.at) rises;
      berr_may_rise = any_since-field_step t stretch (falls t BERR) (strobe_rises t) j h.judged h.holds.berr_may_rise
          (c.falls-error_falls.ensures t h.at) rises;
      requested = c.requested_later.ensures t stretch h.at h.judged h.holds.requested;
      granted = any_after-field_step t stretch (falls t BBSY) (grant_falls t) j h.judged h.holds.granted
          (c.falls-busy_falls.ensures t h.at) grants;
    }
