use Rattle.std.proofs.Common.{◌∙◌}
use Rattle.std.specs.List.{each_same}
use Rattle.std.proofs.lemmas.Result.{IfOk-weaker}
use Rattle.vcd_read.proofs.ScopesLemmas.{flat_map-concat}
use Rattle.vcd_read.proofs.header.joined.Goals as goal

pub returns : goal.returns
returns c = IfOk-weaker c.concat.result _ _ (λ v clones. each_same _ _ clones ∙ flat_map-concat c.args.words.now)
    c.concat.ensures.ok
