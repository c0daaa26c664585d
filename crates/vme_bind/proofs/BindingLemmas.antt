-- The binding that a text says, from its first statement, the statements after it, and the lines that it leaves out.
use Rattle.std.proofs.Common.{◌≡◌, ℕ, List, [], ◌∷◌, Some, None, Result, Ok, Err, refl, sym, ap, ◌∙◌}
use Rattle.std.specs.Result.{IsErrAnd}
use Rattle.vcd_read.specs.Header.{◌>>=◌}
use Rattle.vme_bind.specs.declared.fault.BindFault.{BindFault}
use Rattle.vme_bind.specs.declared.fault.BindFaultKind.{BindFaultKind}
use Rattle.vme_bind.specs.declared.fault.BindFaultKind.TheVariants.{Memory, SlotsFirst, Unbound}
use Rattle.vme_bind.specs.Answers.{at_line, BindFailsAs, BindFails, BindGives}
use Rattle.vme_bind.specs.Text.{StatementText, statements_of, end_line}
use Rattle.vme_bind.specs.Binding.{BoundLines, slots_stated, bound, bound_all, all_bound, finished, least_unbound}
use Rattle.vme_bind.specs.Binding.{unless_unbound, no_assignments, with_left_out, binding_from, binding_of}

-- a fault of `r` is the fault of `r` and what follows it
BindFailsAs-then : {X Y : Type 0} (line : ℕ) (kind : BindFaultKind) (r : Result X BindFault)
    (next : X → Result Y BindFault)
    → BindFailsAs line kind r → BindFailsAs line kind (r >>= next)
BindFailsAs-then line Memory r next h = h
BindFailsAs-then {X = X} {Y = Y} line kind r next h = ap (λ (r : Result X BindFault). r >>= next) h

-- a fault of the first part is the fault of the whole
pub BindFails-first : {X Y : Type 0} (fault : BindFault) (r : Result X BindFault) (next : X → Result Y BindFault)
    (whole : Result Y BindFault) → whole ≡ (r >>= next) → BindFails fault r → BindFails fault whole
BindFails-first fault r next whole e h = rw e (BindFailsAs-then fault.line fault.kind r next h)

-- `BindGives` holds of a `?` that returns a fault of the whole
pub BindGives-err : {X Y : Type 0} (view : X → Y) (r : Result X BindFault) (fault : BindFault)
    (whole : Result Y BindFault)
    → IsErrAnd r (λ e. e ≡ fault) → BindFails fault whole → BindGives view r whole
BindGives-err view (Ok x) fault whole is h = absurd is
BindGives-err view (Err e) fault whole is h = rw is h

-- the statements after the first are bound after it
pub bound_all-statement : (b : BoundLines) (s : StatementText) (ss : List StatementText) → bound_all b (s ∷ ss)
    ≡ (at_line s.line (bound b s) >>= λ next. bound_all next ss)
unfolding bound_all
bound_all-statement b s ss = refl

-- without statements the binding stays as it is
pub bound_all-end : (b : BoundLines) → bound_all b [] ≡ Ok b
unfolding bound_all
bound_all-end b = refl

-- the fault of a text without statements is `SlotsFirst` on its last line
pub binding_of-no_statement : (text : List ℕ) (line : ℕ) → statements_of text ≡ [] → line ≡ end_line text
    → binding_of text
    ≡ Err (record { line = line; kind = SlotsFirst })
unfolding binding_of
binding_of-no_statement text line e h = rw (e, ← h) refl

-- the binding of a text is made of its first statement, which states the slots, and the others
binding_of-statements : (text : List ℕ) (s : StatementText) (ss : List StatementText) → statements_of text ≡ s ∷ ss
    → binding_of text ≡ (at_line s.line (slots_stated s.first s.others) >>= λ slots. bound_all (no_assignments slots) ss
    >>= finished (end_line text))
unfolding binding_of
binding_of-statements text s ss e = ap (binding_from (end_line text)) e

-- where the first statement isn't `slots N`, the fault is `SlotsFirst` on its line
pub binding_of-no_slots : (text : List ℕ) (s : StatementText) (ss : List StatementText) → statements_of text ≡ s ∷ ss
    → slots_stated s.first s.others
    ≡ Err SlotsFirst → binding_of text ≡ Err (record { line = s.line; kind = SlotsFirst })
binding_of-no_slots text s ss e h = binding_of-statements text s ss e ∙ rw h refl

-- where the first statement is `slots N`, the binding is that of the other statements
pub binding_of-slots : (text : List ℕ) (s : StatementText) (ss : List StatementText) (slots : ℕ) → statements_of text
    ≡ s ∷ ss
    → slots_stated s.first s.others ≡ Ok slots
    → binding_of text ≡ (bound_all (no_assignments slots) ss >>= finished (end_line text))
binding_of-slots text s ss slots e h = binding_of-statements text s ss e ∙ rw h refl

-- where each line is bound at the end, the result is the binding with what was left out
pub finished-all_bound : (line : ℕ) (r : Result BoundLines BindFault) (b whole : BoundLines) → r ≡ Ok b → whole
    ≡ with_left_out line b → None ≡ least_unbound whole → (r >>= finished line) ≡ Ok whole
finished-all_bound line r b whole e w h = ap (λ (r : Result BoundLines BindFault). r >>= finished line) e
    ∙ ap (all_bound line)
    (sym w) ∙ ap (unless_unbound line whole) (sym h)

-- where the line `l` is the least unbound one at the end, the fault is `Unbound l` on the last line
pub finished-unbound : (line last : ℕ) (r : Result BoundLines BindFault) (b whole : BoundLines) (l : ℕ) → r ≡ Ok b
    → whole
    ≡ with_left_out line b → Some l ≡ least_unbound whole → last ≡ line
    → (r >>= finished line) ≡ Err (record { line = last; kind = Unbound l })
finished-unbound line last r b whole l e w h k =
    ap (λ (r : Result BoundLines BindFault). r >>= finished line) e ∙ ap (all_bound line) (sym w)
    ∙ ap (unless_unbound line whole) (sym h)
    ∙ ap (λ (n : ℕ). Err (record { line = n; kind = Unbound l })) (sym k)

-- where the first statement is bound, all statements are bound as the others are after it
pub bound_all-step : (b next : BoundLines) (s : StatementText) (ss : List StatementText) → at_line s.line (bound b s)
    ≡ Ok next
    → bound_all b (s ∷ ss) ≡ bound_all next ss
bound_all-step b next s ss h =
    bound_all-statement b s ss ∙ ap (λ (r : Result BoundLines BindFault). r >>= λ next. bound_all next ss)
    h
