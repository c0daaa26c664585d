use Rattle.vme_stability_eval.proofs.WriteDataAgree.{write_data_agree}
use Rattle.vme_stability_eval.proofs.write_data.Goals as goal

pub returns : goal.returns
returns c = write_data_agree
