-- Which result a dump has that is read piece by piece: a fault of the dump comes first, then one of the binding, and
-- else it is the recording.
use Rattle.std.proofs.Common.{◌≡◌, ℕ, false, List, Option, Some, None, Result, Ok, Err, refl, sym, ap, subst, ◌∙◌}
use Rattle.vme_trace.specs.Trace.{Trace}
use Rattle.vcd_read.specs.Body.{ready}
use Rattle.vcd_read.specs.Fronts.{going_on}
use Rattle.vcd_read.specs.Header.{◌>>=◌}
use Rattle.vcd_read.specs.Meaning.{ReadFails, ReadFailsAs, instants_from}
use Rattle.vcd_read.specs.Sections.{Headed, defined}
use Rattle.vcd_read.specs.Reached.{Reached, rest_of}
use Rattle.vcd_read.specs.BodyFold.{State, at_end}
use Rattle.vcd_read.specs.Tokens.{Token}
use Rattle.vcd_read.specs.declared.dump.Variable.{Variable}
use Rattle.vcd_read.specs.declared.fault.FaultKind.{FaultKind}
use Rattle.vcd_read.specs.declared.fault.FaultKind.TheVariants.{Memory}
use Rattle.vcd_read.specs.declared.fault.VcdFault.{VcdFault}
use Rattle.vme_bind.specs.declared.fault.BindFault.{BindFault}
use Rattle.vme_bind.specs.declared.fault.BindFaultKind.{BindFaultKind}
use Rattle.vme_bind.specs.declared.fault.BindFaultKind.TheVariants.{Memory as NoMemory}
use Rattle.vme_bind.specs.declared.fault.CaptureFault.{CaptureFault}
use Rattle.vme_bind.specs.declared.fault.CaptureFault.TheVariants.{Dump, Binding}
use Rattle.vme_bind.specs.BuilderState.{IsBegun, BuilderState, builder_change, builder_instant}
use Rattle.vme_bind.specs.declared.bound_groups.BoundGroup.{BoundGroup}
use Rattle.vme_bind.specs.Answers.{BindFails as BindFails, BindFailsAs as BindFailsAs}
use Rattle.vme_bind.specs.Binding.{BoundLines}
use Rattle.vme_bind.specs.BoundGroups.{bound_groups_in}
use Rattle.vme_bind.specs.TextCapture.{CaptureFailsBy, DumpFails, BindingFails, IsOfBinding, recording_after}
use Rattle.vme_bind.specs.TextPieces.{TextContinuesAs, body_outcome, outcome}
use Rattle.vme_bind.proofs.TextCaptureLemmas.{body_outcome-outcome, recording_read-bound, recording_read-refused}

-- a fault of the dump comes first, whatever the binding has
outcome-dump_fails : (binding_fault : Option BindFault) (line : ℕ) (kind : FaultKind)
    (read : Result (State BuilderState) VcdFault)
    → ReadFailsAs line kind read → DumpFails line kind (outcome binding_fault (read >>= at_end builder_instant))
outcome-dump_fails binding_fault line Memory read h = h
outcome-dump_fails None line kind read h =
    ap (λ (r : Result (State BuilderState) VcdFault). outcome None (r >>= at_end builder_instant)) h
outcome-dump_fails (Some fault) line kind read h =
    ap (λ (r : Result (State BuilderState) VcdFault). outcome (Some fault)
    (r >>= at_end builder_instant)) h

-- where two results are the same, a fault of the one is a fault of the other
DumpFails-same : (line : ℕ) (kind : FaultKind) (a b : Result Trace CaptureFault) → a ≡ b → DumpFails line kind b
    → DumpFails line kind a
DumpFails-same line Memory a b e h = h
DumpFails-same line kind a b e h = e ∙ h

-- a fault of reading is the fault of the result
pub CaptureFailsBy-outcome : (binding_fault : Option BindFault) (fault : VcdFault)
    (before : List Token → Result Trace CaptureFault)
    (read : List Token → Result (State BuilderState) VcdFault)
    → ((more : List Token) → before more ≡ outcome binding_fault (read more >>= at_end builder_instant))
    → ((more : List Token) → ReadFails fault (read more))
    → (more : List Token) → CaptureFailsBy (Dump fault) (before more)
CaptureFailsBy-outcome binding_fault fault before read is fails more =
    DumpFails-same fault.line fault.kind (before more) _ (is more)
    (outcome-dump_fails binding_fault fault.line fault.kind (read more) (fails more))

-- the result for a body by definition is that from a place at which nothing is read yet
pub body_outcome-begun : (binding_fault : Option BindFault) (slots : ℕ) (bound_groups : List BoundGroup) (head : Headed)
    (made : BuilderState)
    (r : Reached BuilderState) (first more : List Token) → IsBegun slots bound_groups made → r.nets ≡ head.nets
    → r.progress ≡ record { accumulator = made; time = 0; has_instant = false } → r.dump_section ≡ None → r.place
    ≡ ready
    → first ≡ head.body
    → body_outcome binding_fault slots bound_groups (going_on head more)
    ≡ outcome binding_fault (rest_of builder_change builder_instant r first more >>= at_end builder_instant)
body_outcome-begun binding_fault slots bound_groups head made r first more begun nets progress dump_section place body =
    rw (nets, progress, dump_section, place, body)
    (body_outcome-outcome slots bound_groups (going_on head more) binding_fault made begun)

-- a result that continues `before2` continues `before`, where the two are the same
pub TextContinuesAs-same : {X Y : Type 0} (view : X → List Token → Result Y CaptureFault) (r : Result X CaptureFault)
    (before before2 : List Token → Result Y CaptureFault)
    → ((more : List Token) → before more ≡ before2 more) → TextContinuesAs view r before2 → TextContinuesAs view r
    before
TextContinuesAs-same view (Ok x) before before2 e h = λ more. e more ∙ h more
TextContinuesAs-same view (Err fault) before before2 e h = λ more. subst (CaptureFailsBy fault) (sym (e more)) (h more)

-- ---- a body whose binding fits, and one whose doesn't

-- where the binding fits, the recording of a body is by its bound groups
pub recording_after-fitting : (b : BoundLines) (h : Headed) (variables : List Variable) (bound_groups : List BoundGroup)
    → bound_groups_in variables b.assignments ≡ Ok bound_groups
    → recording_after b (defined h variables) ≡ body_outcome None b.slots bound_groups h
recording_after-fitting b h variables bound_groups e =
    recording_read-bound b variables bound_groups (instants_from h.nets h.body) e

-- where the binding has a fault, it is the result, unless the body has one
pub recording_after-refused : (b : BoundLines) (h : Headed) (variables : List Variable) (bound_groups : List BoundGroup)
    (binding_fault : BindFault) → bound_groups_in variables b.assignments ≡ Err binding_fault
    → recording_after b (defined h variables) ≡ body_outcome (Some binding_fault) b.slots bound_groups h
recording_after-refused b h variables bound_groups binding_fault e =
    recording_read-refused b variables binding_fault (instants_from h.nets h.body) e

-- a fault of the binding that isn't want of memory is the answer
pub BindFails-not_memory : {Y : Type 0} (binding_fault : BindFault) (answer : Result Y BindFault)
    → IsOfBinding binding_fault → BindFails binding_fault answer
    → answer ≡ Err binding_fault
BindFails-not_memory binding_fault answer other fails = by_kind binding_fault.line binding_fault.kind other fails
  where
    by_kind : (line : ℕ) (kind : BindFaultKind) → (kind ≡ NoMemory → ⊥) → BindFailsAs line kind answer → answer
        ≡ Err (record { line = line; kind = kind })
    by_kind line NoMemory other fails = absurd (other refl)
    by_kind line kind other fails = fails

-- want of memory may be the answer whatever the result is
pub CaptureFailsBy-memory : {Y Z : Type 0} (binding_fault : BindFault) (answer : Result Y BindFault)
    (assigned : Result Z CaptureFault)
    → binding_fault.kind ≡ NoMemory → BindFails binding_fault answer → CaptureFailsBy (Binding binding_fault) assigned
CaptureFailsBy-memory binding_fault answer assigned is fails = by_kind binding_fault.line binding_fault.kind is fails
  where
    by_kind : (line : ℕ) (kind : BindFaultKind) → kind ≡ NoMemory → BindFailsAs line kind answer
        → BindingFails line kind assigned
    by_kind line NoMemory is fails = fails
    by_kind line kind is fails = absurd (cc is)

-- the fault of the binding may be the answer where it is the result
pub CaptureFailsBy-binding : {Y : Type 0} (binding_fault : BindFault) (answer : Result Y CaptureFault)
    → IsOfBinding binding_fault → answer
    ≡ Err (Binding binding_fault)
    → CaptureFailsBy (Binding binding_fault) answer
CaptureFailsBy-binding binding_fault answer other is = by_kind binding_fault.line binding_fault.kind other is
  where
    by_kind : (line : ℕ) (kind : BindFaultKind) → (kind ≡ NoMemory → ⊥) → answer
        ≡ Err (Binding (record { line = line; kind = kind })) → BindingFails line kind answer
    by_kind line NoMemory other is = absurd (other refl)
    by_kind line kind other is = is

-- a fault at the end of the dump comes before that of the binding
pub CaptureFailsBy-at_end : (binding_fault : Option BindFault) (fault : VcdFault) (read : Result BuilderState VcdFault)
    → ReadFails fault read
    → CaptureFailsBy (Dump fault) (outcome binding_fault read)
CaptureFailsBy-at_end binding_fault fault read fails = by_kind binding_fault fault.line fault.kind fails
  where
    by_kind : (binding_fault : Option BindFault) (line : ℕ) (kind : FaultKind) → ReadFailsAs line kind read
        → DumpFails line kind
        (outcome binding_fault read)
    by_kind binding_fault line Memory fails = fails
    by_kind None line kind fails = ap (outcome None) fails
    by_kind (Some fault) line kind fails = ap (outcome (Some fault)) fails
