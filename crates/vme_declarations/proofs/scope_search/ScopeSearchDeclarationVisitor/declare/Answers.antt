use Rattle.std.proofs.Common.{refl}
use Rattle.vme_declarations.proofs.ScopeLemmas.{sought_in-next}
use Rattle.vme_declarations.proofs.scope_search.ScopeSearchDeclarationVisitor.declare.Goals.{then-self, else-self}
use Rattle.vme_declarations.proofs.scope_search.ScopeSearchDeclarationVisitor.declare.Goals as goal

pub returns-clause-taken : goal.returns-clause-taken
returns-clause-taken c =
    sought_in-next c.args.self.now.front.items c.args.variable.name.now c.args.self.now.open c.args.variable.net
    c.args.variable.size c.args.variable.index c.args.self.now.is_found c.if-self.self c.requires
    (elim c.if-self.branch [
      | then-self w ↦ rw (w.self-is, w.if-self.true) refl
      | else-self w ↦ rw (
        w.self-is,
        w.begin_with-self.ensures,
        w.deref.ensures.value,
        w.path.ensures,
        w.if-self.false,
      ) refl
    ])
