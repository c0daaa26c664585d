use Rattle.std.proofs.Common.{◌++◌, drop, take}
use Rattle.std.proofs.lemmas.Result.{IfOk-weaker}
use Rattle.vcd_read.specs.Reading.{line_behind}
use Rattle.vcd_read.specs.Tokens.{tokens_from}
use Rattle.vcd_read.proofs.PieceLemmas.{tokens-cut}
use Rattle.vcd_start.proofs.first_time.first_time_in.Goals as goal

pub returns : goal.returns
returns c =
    let front = c.args.front.now in
    let k = c.whole_tokens-count.result in
    IfOk-weaker c.first_time_by_tokens.result _ _
    (λ first_time tells rest. tells (front ++ rest) (tokens_from (line_behind 1 (take k front)) (drop k front ++ rest))
    (tokens-cut front k c.whole_tokens-count.ensures.apart rest)) c.first_time_by_tokens.ensures
