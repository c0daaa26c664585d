-- The limit on steps counts those before deskewing. A deskewed recording has no more steps than before.
use Rattle.std.proofs.Common.{◌≡◌, ◌∙◌, false, true, length, sym}
use Rattle.std.specs.Prelude.{nat_lt}
use Rattle.vme_trace.specs.WellFormed.{capture_limit}
use Rattle.vme_commands.proofs.SettledLemmas.{settled_or-within, settled_or-too_long, length-settled_within}
use Rattle.vme_commands.proofs.judged_settled.settled_visitor.Goals as goal

pub returns-in-Ok : goal.returns-in-Ok
returns-in-Ok g c =
    let t = c.args.settling in
    let within : nat_lt capture_limit (length t.steps) ≡ false = sym c.is_too_long.ensures ∙ c.if-is_too_long.false in
    let made = g.F.StepVisitor.recorded c.in-Ok.visitor in
    let told = c.in-Ok.ensures in
    record {
      gives = λ formed. settled_or-within g.K.GhostSkew.skew t made within (told.settled formed);
      formed = told.formed;
      short = λ formed. length-settled_within g.K.GhostSkew.skew t made within (told.settled formed);
    }

pub returns-then-is_too_long-clause-gives : goal.returns-then-is_too_long-clause-gives
returns-then-is_too_long-clause-gives g c =
    let long : nat_lt capture_limit (length c.args.settling.steps) ≡ true =
    sym c.is_too_long.ensures ∙ c.if-is_too_long.true in
    λ formed. rw c.of_judging.ensures (settled_or-too_long g.K.GhostSkew.skew c.args.settling long)
