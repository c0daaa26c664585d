use Rattle.std.proofs.Common.{◌+◌, arith}
use Rattle.vme_cert.specs.Vocabulary.{BR, grant_falls, low}
use Rattle.vme_cert.specs.State.{is_requested}
use Rattle.vme_cert.proofs.Fields.{any_since-field_step}
use Rattle.vme_cert.proofs.Ranges.{get_or-four_levels}
use Rattle.vme_cert.proofs.state.State.requested_later.Goals as goal

pub returns : goal.returns
returns c t stretch at judged is =
    let j = c.args.bus.now.instant in
    let grants = c.grant_falls-keeps.ensures t at in
    get_or-four_levels (λ n. is_requested t stretch n (j + 1)) _ _ _ _
    (any_since-field_step t stretch (grant_falls t) (low t (BR 0)) j judged (is 0 (omega arith)) grants
    (c.requests.ensures t at))
    (any_since-field_step t stretch (grant_falls t) (low t (BR 1)) j judged (is 1 (omega arith)) grants
    (c.requests-2.ensures t at))
    (any_since-field_step t stretch (grant_falls t) (low t (BR 2)) j judged (is 2 (omega arith)) grants
    (c.requests-3.ensures t at))
    (any_since-field_step t stretch (grant_falls t) (low t (BR 3)) j judged (is 3 (omega arith)) grants
    (c.requests-4.ensures t at))
