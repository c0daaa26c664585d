use Rattle.std.proofs.Common.{refl}
use Rattle.vme_account.proofs.known_times.KnownTimes.at_opening.Goals as goal

pub returns : goal.returns
returns c = λ t. record {
  first = refl;
  start = refl;
  reset = refl;
  tenure = refl;
  cycle = refl;
  waiting = refl;
  unanswered = refl;
  answered = refl;
  answer = refl;
}
