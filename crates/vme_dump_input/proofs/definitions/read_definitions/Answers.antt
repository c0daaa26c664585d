-- The definitions are read on until they end.
use Rattle.std.proofs.Common.{◌<◌, [], Option, ap, subst, sym, ◌∙◌}
use Rattle.std.specs.Prelude.{Ok}
use Rattle.vme_dump_input.specs.DumpBeginnings.{HoldsDefinitionsIfSome, MayBegin}
use Rattle.vme_dump_input.specs.BufferedInputs.{FailsAs, InputSoFar, reads_left}
use Rattle.vme_dump_input.specs.declared.definitions.DumpAfterDefinitions.{DumpAfterDefinitions}
use Rattle.vme_dump_input.proofs.DumpRefusals.{IsDumpRefused-fails}
use Rattle.vme_dump_input.proofs.definitions.read_definitions.Goals as goal

pub loop-search-init : goal.loop-search-init
loop-search-init g c = record { read = λ old h limit. h; limit = λ h. h }

pub loop-search-preserved : goal.loop-search-preserved
loop-search-preserved g c = record {
  read = λ old h limit. c.in_default.ensures.read old [] (c.loop-search.invariant.read old h limit);
  limit = λ h. c.read.ensures.limit ∙ c.loop-search.invariant.limit h;
}

pub loop-search-preserved-in-Ok-None : goal.loop-search-preserved-in-Ok-None
loop-search-preserved-in-Ok-None g c =
    let inv = c.loop-search.invariant in
    let now = g.D.Source.reading c.begin.new.dump in
    record {
      read = λ old h limit.
          (subst (λ (b : Option DumpAfterDefinitions). MayBegin c.args.binding.now old now c.read.new.self
          c.begin.new.input (Ok b))
          c.in-Ok-None.field-0-is
          (c.in-Ok-None.ensures.read old (c.in_default.ensures.read old [] (inv.read old h limit))
          (c.read.ensures.limit ∙ inv.limit limit))).1;
      limit = λ h. c.begin.ensures.limit (c.read.ensures.limit ∙ inv.limit h);
    }

pub loop-search-smaller-in-Ok-None : goal.loop-search-smaller-in-Ok-None
loop-search-smaller-in-Ok-None g c =
    subst (λ (i : InputSoFar). reads_left i < reads_left c.loop-search.input)
    (sym (c.in-Ok-None.ensures.left (ap (λ (b : Option DumpAfterDefinitions). Ok b) c.in-Ok-None.field-0-is)))
    c.in_default.ensures.on

pub returns-in-Err-clause-read : goal.returns-in-Err-clause-read
returns-in-Err-clause-read g c old h limit =
    let now = g.D.Source.reading c.read.new.source in
    rw c.unread.ensures (IsDumpRefused-fails old now c.in-Err.fault
    (subst (λ n. FailsAs n old now c.in-Err.fault) (c.loop-search.invariant.limit limit)
    (c.in-Err.ensures.fails old [] (c.loop-search.invariant.read old h limit))))

pub returns-in-Ok-Some-clause-held : goal.returns-in-Ok-Some-clause-held
returns-in-Ok-Some-clause-held g c =
    subst (HoldsDefinitionsIfSome c.begin.new.input) c.in-Ok-Some.field-0-is c.in-Ok-Some.ensures.held

pub returns-in-Ok-Some-clause-read : goal.returns-in-Ok-Some-clause-read
returns-in-Ok-Some-clause-read g c old h limit =
    subst (λ (b : Option DumpAfterDefinitions). MayBegin c.args.binding.now old (g.D.Source.reading c.begin.new.dump)
    c.read.new.self
    c.begin.new.input (Ok b)) c.in-Ok-Some.field-0-is
    (c.in-Ok-Some.ensures.read old (c.in_default.ensures.read old [] (c.loop-search.invariant.read old h limit))
    (c.read.ensures.limit ∙ c.loop-search.invariant.limit limit))

pub returns-in-Err-begin-clause-read : goal.returns-in-Err-begin-clause-read
returns-in-Err-begin-clause-read g c old h limit =
    c.in-Err-begin.ensures.read old (c.in_default.ensures.read old [] (c.loop-search.invariant.read old h limit))
    (c.read.ensures.limit ∙ c.loop-search.invariant.limit limit)

pub returns-clause-read : goal.returns-clause-read
returns-clause-read g c old h limit =
    c.begin_last.ensures.read old (c.loop-search.invariant.read old h limit) (c.loop-search.invariant.limit limit)
