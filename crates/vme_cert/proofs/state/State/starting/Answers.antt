use Rattle.std.proofs.Common.{ℕ, ◌+◌, ◌∙◌, ap, arith, sym}
use Rattle.vme_trace.proofs.Ranges.{greatest-empty}
use Rattle.vme_cert.specs.Vocabulary.{BBSY, BERR, BR, DTACK, cycle_starts, falls, grant_falls, low, strobe_rises}
use Rattle.vme_cert.specs.State.{is_requested}
use Rattle.vme_cert.proofs.Ranges.{get_or-four_levels}
use Rattle.vme_cert.proofs.Fields.{AreClosed-at_start, any_after-at_start, any_since-at_start}
use Rattle.vme_cert.proofs.state.State.starting.Goals as goal

pub returns : goal.returns
returns c t stretch at start =
    let rises = c.strobe_rises-rises.ensures t at ∙ ap (strobe_rises t) start in
    let begins = λ (n : ℕ). ap (low t (BR n)) start
    ∙ sym (any_since-at_start t stretch (grant_falls t) (low t (BR n))) in
    record {
      cycle = record {
        here = λ e. absurd (cc);
        absent = λ e. greatest-empty (cycle_starts t stretch) (stretch.start + 1) (stretch.start + 1) (omega arith);
      };
      transfer = record { here = λ e. absurd (cc); absent = λ e. AreClosed-at_start t stretch };
      dtack_may_rise = rises ∙ sym (any_since-at_start t stretch (falls t DTACK) (strobe_rises t));
      berr_may_rise = rises ∙ sym (any_since-at_start t stretch (falls t BERR) (strobe_rises t));
      requested = get_or-four_levels (λ n. is_requested t stretch n (stretch.start + 1))
          _ _ _ _ (c.requests.ensures t at ∙ begins 0)
          (c.requests-2.ensures t at ∙ begins 1) (c.requests-3.ensures t at ∙ begins 2)
          (c.requests-4.ensures t at ∙ begins 3);
      granted = sym (any_after-at_start t stretch (falls t BBSY) (grant_falls t));
    }
