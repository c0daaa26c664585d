use Rattle.std.proofs.Common.{refl}
use Rattle.vme_eval.proofs.Everything.{everything}
use Rattle.vme_judging_eval.proofs.malformed_steps.Goals as goal

pub returns : goal.returns
unfolding everything
returns c = record {
  no_change = refl;
  no_later = refl;
  no_line = refl;
  no_level = refl;
  no_order = refl;
  one_line_twice = refl;
}
