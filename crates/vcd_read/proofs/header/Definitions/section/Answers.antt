use Rattle.std.proofs.Common.{◌∙◌, ◌∷◌, ℕ, List, drop, sym, ap}
use Rattle.std.specs.List.{concat}
use Rattle.std.proofs.lemmas.Result.{err_from_is_err_and}
use Rattle.vcd_read.specs.Reading.{left_at, token_at}
use Rattle.vcd_read.specs.Scopes.{texts}
use Rattle.vcd_read.specs.Sections.{declared_by, declared_in, header_of}
use Rattle.vcd_read.proofs.HeaderLemmas.{var_stops, var_refused, var_continues, scope_stops, scope_continues}
use Rattle.vcd_read.proofs.HeaderLemmas.{upscope_stops, upscope_refused, upscope_continues, end_stops, end_continues}
use Rattle.vcd_read.proofs.HeaderLemmas.{skipped_stops, skipped_continues, header_of-stray}
use Rattle.vcd_read.proofs.header.Definitions.section.Goals as goal

pub returns-in-Nothing-clause-rest : goal.returns-in-Nothing-clause-rest
returns-in-Nothing-clause-rest g c =
    let piece = c.args.reader.now.text in
    let text = piece.bytes.now in
    let d = declared_by g.D.DeclarationVisitor.scopes g.D.DeclarationVisitor.taken c.args.self.now in
    let t = token_at piece c.args.first.at c.args.first.bytes.now in
    let ts = left_at piece c.args.reader.now.at in
    rw c.fault.ensures (header_of-stray g.D.DeclarationVisitor.with_variable text d t ts c.in-Nothing.ensures)

pub returns-in_err-words-in-Var-clause-rest : goal.returns-in_err-words-in-Var-clause-rest
returns-in_err-words-in-Var-clause-rest g c =
    let piece = c.args.reader.now.text in
    let text = piece.bytes.now in
    let d = declared_by g.D.DeclarationVisitor.scopes g.D.DeclarationVisitor.taken c.args.self.now in
    let t = token_at piece c.args.first.at c.args.first.bytes.now in
    let ts = left_at piece c.args.reader.now.at in
    let p = err_from_is_err_and c.from_residual.result c.from_residual.ensures.1 in
    rw (p.1, p.2) (var_stops g.D.DeclarationVisitor.with_variable text d t ts c.in_err-words-in-Var.field-0.0
    c.in-Var.ensures c.in_err-words-in-Var.ensures.words)

pub returns-in_err-declare-in-Var-clause-rest : goal.returns-in_err-declare-in-Var-clause-rest
returns-in_err-declare-in-Var-clause-rest g c =
    let piece = c.args.reader.now.text in
    let text = piece.bytes.now in
    let d = declared_by g.D.DeclarationVisitor.scopes g.D.DeclarationVisitor.taken c.args.self.now in
    let t = token_at piece c.args.first.at c.args.first.bytes.now in
    let ts = left_at piece c.args.reader.now.at in
    let p = err_from_is_err_and c.from_residual-in_err-declare-in-Var.result
    c.from_residual-in_err-declare-in-Var.ensures.1 in
    rw (p.1, p.2) (var_refused g.D.DeclarationVisitor.with_variable text d t ts c.in_err-declare-in-Var.field-0.0
    (texts c.in_ok-words-in-Var.words.items) (left_at piece c.words_of.new.reader.at) c.in-Var.ensures
    c.in_ok-words-in-Var.ensures.words (rw (c.in_ok-words-in-Var.ensures.text, c.deref.ensures.value) at
    c.in_err-declare-in-Var.ensures))

pub returns-in_err-words-in-Scope-clause-rest : goal.returns-in_err-words-in-Scope-clause-rest
returns-in_err-words-in-Scope-clause-rest g c =
    let piece = c.args.reader.now.text in
    let text = piece.bytes.now in
    let d = declared_by g.D.DeclarationVisitor.scopes g.D.DeclarationVisitor.taken c.args.self.now in
    let t = token_at piece c.args.first.at c.args.first.bytes.now in
    let ts = left_at piece c.args.reader.now.at in
    let p = err_from_is_err_and c.from_residual-in_err-words-in-Scope.result
    c.from_residual-in_err-words-in-Scope.ensures.1 in
    rw (p.1, p.2) (scope_stops g.D.DeclarationVisitor.with_variable text d t ts c.in_err-words-in-Scope.field-0.0
    c.in-Scope.ensures c.in_err-words-in-Scope.ensures.words)

pub returns-in_err-skip_section-in-Upscope-clause-rest : goal.returns-in_err-skip_section-in-Upscope-clause-rest
returns-in_err-skip_section-in-Upscope-clause-rest g c =
    let piece = c.args.reader.now.text in
    let text = piece.bytes.now in
    let d = declared_by g.D.DeclarationVisitor.scopes g.D.DeclarationVisitor.taken c.args.self.now in
    let t = token_at piece c.args.first.at c.args.first.bytes.now in
    let ts = left_at piece c.args.reader.now.at in
    let p = err_from_is_err_and c.from_residual-in_err-skip_section-in-Upscope.result
    c.from_residual-in_err-skip_section-in-Upscope.ensures.1 in
    rw (p.1, p.2) (upscope_stops g.D.DeclarationVisitor.with_variable text d t ts
    c.in_err-skip_section-in-Upscope.field-0.0 c.in-Upscope.ensures c.in_err-skip_section-in-Upscope.ensures.rest)

pub returns-then-not-close-clause-rest : goal.returns-then-not-close-clause-rest
returns-then-not-close-clause-rest g c =
    let piece = c.args.reader.now.text in
    let text = piece.bytes.now in
    let d = declared_by g.D.DeclarationVisitor.scopes g.D.DeclarationVisitor.taken c.args.self.now in
    let t = token_at piece c.args.first.at c.args.first.bytes.now in
    let ts = left_at piece c.args.reader.now.at in
    rw (c.fault-then-not-close.ensures, c.in_ok-skip_section-in-Upscope.ensures.text)
    (upscope_refused g.D.DeclarationVisitor.with_variable text d t ts (left_at piece c.skip_section.new.reader.at)
    c.in-Upscope.ensures c.in_ok-skip_section-in-Upscope.ensures.rest c.if-not-close.ensures.scopes)

pub returns-in_err-skip_section-in-EndDefinitions-clause-rest
    : goal.returns-in_err-skip_section-in-EndDefinitions-clause-rest
returns-in_err-skip_section-in-EndDefinitions-clause-rest g c =
    let piece = c.args.reader.now.text in
    let text = piece.bytes.now in
    let d = declared_by g.D.DeclarationVisitor.scopes g.D.DeclarationVisitor.taken c.args.self.now in
    let t = token_at piece c.args.first.at c.args.first.bytes.now in
    let ts = left_at piece c.args.reader.now.at in
    let p = err_from_is_err_and c.from_residual-in_err-skip_section-in-EndDefinitions.result
    c.from_residual-in_err-skip_section-in-EndDefinitions.ensures.1 in
    rw (p.1, p.2) (end_stops g.D.DeclarationVisitor.with_variable text d t ts
    c.in_err-skip_section-in-EndDefinitions.field-0.0 c.in-EndDefinitions.ensures
    c.in_err-skip_section-in-EndDefinitions.ensures.rest)

pub returns-in-EndDefinitions-clause-rest : goal.returns-in-EndDefinitions-clause-rest
returns-in-EndDefinitions-clause-rest g c =
    let piece = c.args.reader.now.text in
    let text = piece.bytes.now in
    let d = declared_by g.D.DeclarationVisitor.scopes g.D.DeclarationVisitor.taken c.args.self.now in
    let t = token_at piece c.args.first.at c.args.first.bytes.now in
    let ts = left_at piece c.args.reader.now.at in
    end_continues g.D.DeclarationVisitor.with_variable text d t ts _ c.in-EndDefinitions.ensures
    c.in_ok-skip_section-in-EndDefinitions.ensures.rest

pub returns-in_err-skip_section-in-Skipped-clause-rest : goal.returns-in_err-skip_section-in-Skipped-clause-rest
returns-in_err-skip_section-in-Skipped-clause-rest g c =
    let piece = c.args.reader.now.text in
    let text = piece.bytes.now in
    let d = declared_by g.D.DeclarationVisitor.scopes g.D.DeclarationVisitor.taken c.args.self.now in
    let t = token_at piece c.args.first.at c.args.first.bytes.now in
    let ts = left_at piece c.args.reader.now.at in
    let p = err_from_is_err_and c.from_residual-in_err-skip_section-in-Skipped.result
    c.from_residual-in_err-skip_section-in-Skipped.ensures.1 in
    rw (p.1, p.2) (skipped_stops g.D.DeclarationVisitor.with_variable text d t ts
    c.in_err-skip_section-in-Skipped.field-0.0 c.in-Skipped.ensures c.in_err-skip_section-in-Skipped.ensures.rest)

pub returns-in_ok-declare-in-Var-clause-rest : goal.returns-in_ok-declare-in-Var-clause-rest
returns-in_ok-declare-in-Var-clause-rest g c =
    let piece = c.args.reader.now.text in
    let text = piece.bytes.now in
    let d = declared_by g.D.DeclarationVisitor.scopes g.D.DeclarationVisitor.taken c.args.self.now in
    let t = token_at piece c.args.first.at c.args.first.bytes.now in
    let ts = left_at piece c.args.reader.now.at in
    var_continues g.D.DeclarationVisitor.with_variable text d t ts (texts c.in_ok-words-in-Var.words.items)
    (left_at piece c.words_of.new.reader.at)
    (declared_by g.D.DeclarationVisitor.scopes g.D.DeclarationVisitor.taken c.declare.new.self) c.in-Var.ensures
    c.in_ok-words-in-Var.ensures.words (rw (c.in_ok-words-in-Var.ensures.text, c.deref.ensures.value) at
    c.in_ok-declare-in-Var.ensures)

pub returns-in_ok-open-in-Scope-clause-rest : goal.returns-in_ok-open-in-Scope-clause-rest
returns-in_ok-open-in-Scope-clause-rest g c =
    let piece = c.args.reader.now.text in
    let text = piece.bytes.now in
    let d = declared_by g.D.DeclarationVisitor.scopes g.D.DeclarationVisitor.taken c.args.self.now in
    let t = token_at piece c.args.first.at c.args.first.bytes.now in
    let ts = left_at piece c.args.reader.now.at in
    let words = c.in_ok-words-in-Scope.words.items in
    let rest = left_at piece c.words_of-in-Scope.new.reader.at in
    let name = c.deref-in-Scope-2.ensures.value ∙ c.in_ok-name-in-Scope.ensures ∙ ap (λ ws. concat (drop 1 (texts ws)))
    c.deref-in-Scope.ensures.value in
    let scopes = c.in_ok-open-in-Scope.ensures.scopes ∙ ap (λ (n : List ℕ). n ∷ d.scopes) name in
    scope_continues g.D.DeclarationVisitor.with_variable text d t ts (texts words) rest c.in-Scope.ensures
    c.in_ok-words-in-Scope.ensures.words
    ∙ ap (λ (scopes : List (List ℕ)). header_of g.D.DeclarationVisitor.with_variable text (record d { scopes = scopes })
    rest) (sym scopes)
    ∙ ap (λ taken. header_of g.D.DeclarationVisitor.with_variable text
    (declared_in (g.D.DeclarationVisitor.scopes c.«open».new.self) d.nets taken) rest)
    (sym c.in_ok-open-in-Scope.ensures.taken)

pub returns-else-not-close-clause-rest : goal.returns-else-not-close-clause-rest
returns-else-not-close-clause-rest g c =
    let piece = c.args.reader.now.text in
    let text = piece.bytes.now in
    let d = declared_by g.D.DeclarationVisitor.scopes g.D.DeclarationVisitor.taken c.args.self.now in
    let t = token_at piece c.args.first.at c.args.first.bytes.now in
    let ts = left_at piece c.args.reader.now.at in
    let rest = left_at piece c.skip_section.new.reader.at in
    upscope_continues g.D.DeclarationVisitor.with_variable text d t ts rest c.if-not-close.ensures.scopes.0
    (g.D.DeclarationVisitor.scopes c.close.new.self) c.in-Upscope.ensures c.in_ok-skip_section-in-Upscope.ensures.rest
    c.if-not-close.ensures.scopes.1
    ∙ ap (λ taken. header_of g.D.DeclarationVisitor.with_variable text
    (declared_in (g.D.DeclarationVisitor.scopes c.close.new.self) d.nets taken) rest)
    (sym c.if-not-close.ensures.taken)

pub returns-in_ok-skip_section-in-Skipped-clause-rest : goal.returns-in_ok-skip_section-in-Skipped-clause-rest
returns-in_ok-skip_section-in-Skipped-clause-rest g c =
    let piece = c.args.reader.now.text in
    let text = piece.bytes.now in
    let d = declared_by g.D.DeclarationVisitor.scopes g.D.DeclarationVisitor.taken c.args.self.now in
    let t = token_at piece c.args.first.at c.args.first.bytes.now in
    let ts = left_at piece c.args.reader.now.at in
    skipped_continues g.D.DeclarationVisitor.with_variable text d t ts _ c.in-Skipped.ensures
    c.in_ok-skip_section-in-Skipped.ensures.rest
