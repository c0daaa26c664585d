use Rattle.std.proofs.Common.{sym, ◌∙◌, drop, arith}
use Rattle.std.proofs.lemmas.List.{nil_from_length}
use Rattle.vcd_read.specs.Scopes.{name_in}
use Rattle.vcd_read.proofs.ScopesLemmas.{IsLaidOut-pop, names_at-pop, names_at-none}
use Rattle.vcd_read.proofs.scopes.Scopes.close.Goals as goal

pub invariant_of-self : goal.invariant_of-self
invariant_of-self c =
    let s = c.self.inside in
    rw c.truncate.ensures.items (IsLaidOut-pop s.path.items s.starts.items c.pop.new.self.items c.in-Some.start
    c.in-Some.ensures.items c.self.invariant)

pub returns-in-Some : goal.returns-in-Some
returns-in-Some c =
    let s = c.self.inside in (
      name_in (drop c.in-Some.start s.path.items),
      sym c.self.view_is ∙ rw c.truncate.ensures.items (names_at-pop s.path.items s.starts.items c.pop.new.self.items
          c.in-Some.start c.in-Some.ensures.items),
    )

pub returns-in-None : goal.returns-in-None
returns-in-None c =
    let s = c.self.inside in
    let rest = c.pop.new.self in (
      sym c.self.view_is ∙ names_at-none s.path.items s.starts.items
          (nil_from_length s.starts.items (omega (arith, c.in-None.ensures.cases.0, s.starts.ok.0))),
      names_at-none s.path.items rest.items
          (nil_from_length rest.items (omega (arith, c.in-None.ensures.cases.1, rest.ok.0))),
    )
