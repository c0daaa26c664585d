use Rattle.std.proofs.Common.{ap, sym, ◌∙◌}
use Rattle.vcd_read.specs.Header.{variable_in, Reference}
use Rattle.vme_bind.specs.declared.path_search.PathMatch.{PathMatch}
use Rattle.vme_bind.specs.declared.source.LevelSource.{LevelSource}
use Rattle.vme_bind.specs.PathSearch.{Searched, candidate_of, with_bits}
use Rattle.vme_bind.proofs.FoundLemmas.{candidate-same_path, candidate-other_name, with_bits-other_scopes}
use Rattle.vme_bind.proofs.path_search.PathSearch.visit.Goals as goal

pub returns-then-self-depth-clause-seen : goal.returns-then-self-depth-clause-seen
returns-then-self-depth-clause-seen c =
    let s = c.args.self.now in
    let v = c.args.variable in
    let r : Reference = record { name = v.name.now; index = v.index } in
    ap (λ (found : PathMatch). let seen : Searched = record { assignment = s.assignment.now; found = found } in seen)
    (with_bits-other_scopes s.assignment.now.source s.found c.args.scopes.now v.net v.size r s.matched_scopes
    c.requires.name
    c.requires.matched_scopes (λ e. c.if-self-depth.true (e ∙ sym c.depth.ensures)))

pub returns-then-eq-clause-seen : goal.returns-then-eq-clause-seen
returns-then-eq-clause-seen c =
    let s = c.args.self.now in
    let v = c.args.variable in
    let named = c.in-Variable.named in
    let scopes = c.args.scopes.now in
    let r : Reference = record { name = v.name.now; index = v.index } in
    let matched_scopes = rw c.in-Variable.is at c.requires.matched_scopes in
    let rest = rw (c.as_bytes.ensures, c.path.ensures) at c.rest_of.ensures in
    let same = sym c.eq.ensures ∙ c.if-eq.true in
    let here = candidate-same_path named scopes v.net v.size r c.requires.name s.matched_scopes c.rest_of.result.now
    matched_scopes (c.if-self-depth.false ∙ c.depth.ensures) rest same in
    let is = ap (λ (source : LevelSource). candidate_of source (variable_in scopes v.net v.size r)) c.in-Variable.is in
    ap (λ (found : PathMatch). let seen : Searched = record { assignment = s.assignment.now; found = found } in seen)
    (c.with-self.ensures ∙ ap (with_bits s.found) (c.meant-bits.ensures ∙ here ∙ sym is))

pub returns-else-eq-clause-seen : goal.returns-else-eq-clause-seen
returns-else-eq-clause-seen c =
    let s = c.args.self.now in
    let v = c.args.variable in
    let named = c.in-Variable.named in
    let scopes = c.args.scopes.now in
    let r : Reference = record { name = v.name.now; index = v.index } in
    let rest = rw (c.as_bytes.ensures, c.path.ensures) at c.rest_of.ensures in
    let other = sym c.eq.ensures ∙ c.if-eq.false in
    let none = candidate-other_name named scopes v.net v.size r c.requires.name c.rest_of.result.now rest other in
    let is = ap (λ (source : LevelSource). candidate_of source (variable_in scopes v.net v.size r)) c.in-Variable.is in
    ap (λ (found : PathMatch). let seen : Searched = record { assignment = s.assignment.now; found = found } in seen)
    (ap (with_bits s.found) (none ∙ sym is))
