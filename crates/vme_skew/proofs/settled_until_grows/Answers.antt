use Rattle.vme_skew.proofs.Grown.{settled-grows, settled_until-grows, settled_until-with_steps}
use Rattle.vme_skew.proofs.settled_until_grows.Goals as goal

pub returns : goal.returns
returns c = record {
  kept = settled_until-with_steps;
  later = λ skew time later t more le late. settled_until-grows skew time t more late later le;
  whole = λ skew time t more late. settled-grows skew time t more late;
}
