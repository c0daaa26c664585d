use Rattle.std.proofs.Common.{◌≡◌, ◌∙◌, false, length, refl, sym}
use Rattle.std.specs.Prelude.{nat_lt}
use Rattle.vme_trace.specs.WellFormed.{capture_limit}
use Rattle.vme_stream.specs.Refusals.{judging_refusal}
use Rattle.vme_commands.proofs.JudgedLemmas.{limited_in_blocks-refused}
use Rattle.vme_annotate.proofs.ListedLemmas.{settled_in_blocks-settled_refused}
use Rattle.vme_annotate.proofs.listed.settled_listing.Goals as goal

pub returns-in-Err : goal.returns-in-Err
returns-in-Err g c = λ formed.
    let t = c.args.settling in
    let within : nat_lt capture_limit (length t.steps) ≡ false = sym c.is_too_long.ensures ∙ c.if-is_too_long.false in
    let told = c.in-Err.ensures in
    rw c.of_judging-in-Err.ensures
    (settled_in_blocks-settled_refused g.K.GhostSkew.skew c.args.block t c.in-Some.lister within
    (c.in-Some.ensures.taker ∙ c.in-Ok.ensures.settled formed) (judging_refusal c.in-Err.why)
    (limited_in_blocks-refused c.in-Some.lister c.args.block _ told.too_many_steps told.too_many_blocks c.in-Err.why
    refl))
