-- What a binding makes of the text of a dump: the recording, or the first fault, each from the results of reading the
-- parts of the text.
use Rattle.std.proofs.Common.{◌≡◌, ℕ, Bool, true, false, cond, List, [], length, refl, sym, ap, ◌∙◌, subst, Option}
use Rattle.std.proofs.Common.{Some, None, Result, Ok, Err}
use Rattle.std.specs.Prelude.{nat_lt, IfOk}
use Rattle.std.specs.List.{fold}
use Rattle.std.proofs.lemmas.List.{append-nil}
use Rattle.vme_trace.specs.Trace.{Trace}
use Rattle.vme_trace.specs.WellFormed.{malformed_step, capture_limit}
use Rattle.vcd_read.specs.declared.dump.Bit.{Bit}
use Rattle.vcd_read.specs.declared.dump.Instant.{Instant}
use Rattle.vcd_read.specs.declared.dump.Variable.{Variable}
use Rattle.vcd_read.specs.declared.fault.FaultKind.{FaultKind}
use Rattle.vcd_read.specs.declared.fault.FaultKind.TheVariants.{Memory}
use Rattle.vcd_read.specs.declared.fault.VcdFault.{VcdFault}
use Rattle.vcd_read.specs.Contents.{Contents, TimesAscend}
use Rattle.vcd_read.specs.Tokens.{tokens}
use Rattle.vcd_read.specs.Header.{◌>>=◌, nothing_declared}
use Rattle.vcd_read.specs.Sections.{Headed, Defined, defined, header_of}
use Rattle.vcd_read.specs.Meaning.{ReadFails, ReadFailsAs, dump_of, instants_from}
use Rattle.vcd_read.specs.BodyFold.{fold_body}
use Rattle.vcd_read.proofs.ReadLemmas.{TimesAscend-instants_from}
use Rattle.vcd_read.proofs.ResultLemmas.{ok-same}
use Rattle.vcd_read.proofs.DumpLemmas.{contents_of_header, with_variables, whole_header, dump_of-header}
use Rattle.vcd_read.proofs.CurrentValues.{CurrentValues}
use Rattle.vcd_read.proofs.BodyFoldLemmas.{Ends, Follows, Follows-fold_body, ReadFails-followed, ok-followed}
use Rattle.vme_bind.specs.declared.fault.BindFault.{BindFault}
use Rattle.vme_bind.specs.declared.fault.BindFaultKind.{BindFaultKind}
use Rattle.vme_bind.specs.declared.fault.BindFaultKind.TheVariants.{TooManySteps, Memory as NoMemory}
use Rattle.vme_bind.specs.declared.fault.CaptureFault.{CaptureFault}
use Rattle.vme_bind.specs.declared.fault.CaptureFault.TheVariants.{Dump, Binding}
use Rattle.vme_bind.specs.declared.bound_groups.BoundGroup.{BoundGroup}
use Rattle.vme_bind.specs.Answers.{BindFails as BindFails, BindFailsAs as BindFailsAs}
use Rattle.vme_bind.specs.Binding.{BoundLines}
use Rattle.vme_bind.specs.PathSearch.{Searched, with_variable}
use Rattle.vme_bind.specs.BoundGroups.{bound_groups_in}
use Rattle.vme_bind.specs.Capture.{recording, recording_of, limited}
use Rattle.vme_bind.specs.BuilderState.{BuilderState, IsBegun, builder_change, builder_instant}
use Rattle.vme_bind.specs.TextCapture.{or_binding, or_dump, body_recording, capture_of_text, capture_read}
use Rattle.vme_bind.specs.TextCapture.{recording_read, recording_after, recording_of_text, DumpFails, BindingFails}
use Rattle.vme_bind.specs.TextCapture.{CaptureFailsBy, GivesBy}
use Rattle.vme_bind.specs.TextPieces.{body_outcome, outcome}
use Rattle.vme_bind.proofs.BeginningLemmas.{comes_of-after_header}
use Rattle.vme_bind.proofs.OpeningLemmas.{capture_of-is, recording_of-is, recording-formed}
use Rattle.vme_bind.proofs.BuilderLemmas.{Makes, makes-first, makes-change, makes-instant}

-- ---- a body

-- a recording as a result without a fault
abbrev ok_trace : Trace → Result Trace CaptureFault
ok_trace t = Ok t

-- the instants of a body; none if it has a fault
abbrev pub instants_in : Result (List Instant) VcdFault → List Instant
instants_in (Ok instants) = instants
instants_in (Err fault) = []

-- the result for a body where the binding has the fault `binding_fault`
abbrev refused : BindFault → Result (List Instant) VcdFault → Result Trace CaptureFault
refused binding_fault r = or_dump r >>= λ instants. Err (Binding binding_fault)

module _ (slots : ℕ) (bound_groups : List BoundGroup) (h : Headed) where
  -- what the builder has made of the first instants of the body, with the values of the nets since
  abbrev pub IsMadeOf : List Instant → CurrentValues → BuilderState → Type 0
  IsMadeOf = Makes slots bound_groups (length h.nets) (instants_in (instants_from h.nets h.body))

  -- what the builder makes of a body follows the body's instants
  pub builder-follows : (m : BuilderState) → IsBegun slots bound_groups m
      → Follows (Ends IsMadeOf) (instants_from h.nets h.body)
      (fold_body builder_change builder_instant h.nets m h.body)
  builder-follows m begun =
      let all : List Instant = instants_in (instants_from h.nets h.body) in
      Follows-fold_body builder_change builder_instant h.nets IsMadeOf
      (λ done current a net bits lt made. makes-change slots bound_groups (length h.nets) all done current a net bits lt
      made)
      (λ done current a time made. makes-instant slots bound_groups (length h.nets) all done current a time made)
      h.body m (makes-first slots bound_groups (length h.nets) all m begun)

  -- a fault that the builder's reading of the body meets is the fault of the body's recording
  pub body_recording-fails : (m : BuilderState) (fault : VcdFault) → IsBegun slots bound_groups m
      → ReadFails fault (fold_body builder_change builder_instant h.nets m h.body) → CaptureFailsBy (Dump fault)
      (body_recording slots bound_groups h)
  body_recording-fails m fault begun fails =
      dump_fails fault.line fault.kind (ReadFails-followed (Ends IsMadeOf) (instants_from h.nets h.body) _ fault
      (builder-follows m begun) fails)
    where
      dump_fails : (line : ℕ) (kind : FaultKind) → ReadFails (record { line = line; kind = kind })
          (instants_from h.nets h.body) → DumpFails line kind (body_recording slots bound_groups h)
      dump_fails line Memory e = e
      dump_fails line kind e = ap (λ (r : Result (List Instant) VcdFault). or_dump r >>= λ instants. Ok
          (recording slots bound_groups instants (length instants))) e

  -- the recording of the whole body is what the builder recorded at its end
  pub body_recording-built : (m end : BuilderState) → IsBegun slots bound_groups m
      → fold_body builder_change builder_instant h.nets m
      h.body ≡ Ok end → body_recording slots bound_groups h ≡ Ok end.recorded
  body_recording-built m end begun ok =
      let gives = ok-followed (Ends IsMadeOf) (instants_from h.nets h.body) _ end (builder-follows m begun) ok in
      let instants : List Instant = gives.0 in
      let all : instants_in (instants_from h.nets h.body) ≡ instants = ap instants_in gives.1 in
      let made = gives.2.1 [] (all ∙ sym (append-nil instants)) in
      ap (λ (r : Result (List Instant) VcdFault). or_dump r >>= λ instants. Ok (recording slots bound_groups instants
      (length instants))) gives.1
      ∙ ap (λ (xs : List Instant). ok_trace (recording slots bound_groups xs (length instants))) (sym all)
      ∙ ap ok_trace (sym made.recorded)

  -- ---- the result for a body

  -- a fault of the builder is the fault of the instants
  pub Follows-err : (instants : Result (List Instant) VcdFault) (taken : Result BuilderState VcdFault)
      (fault : VcdFault)
      → Follows (Ends IsMadeOf) instants taken → taken ≡ Err fault → instants ≡ Err fault
  Follows-err (Ok xs) taken fault follows e = absurd (cc (follows.1, e))
  Follows-err (Err first) taken fault follows e = let same : first ≡ fault = cc (follows, e) in
      ap (λ (f : VcdFault). Err f) same

  -- the result for a body by definition is that by the builder: its own fault, or that of the binding, or the recording
  pub body_outcome-outcome : (fault : Option BindFault) (m : BuilderState) → IsBegun slots bound_groups m
      → body_outcome fault slots
      bound_groups h ≡ outcome fault (fold_body builder_change builder_instant h.nets m h.body)
  body_outcome-outcome fault m begun = by_taken fault (fold_body builder_change builder_instant h.nets m h.body) refl
    where
      by_taken : (fault : Option BindFault) (taken : Result BuilderState VcdFault)
          → fold_body builder_change builder_instant h.nets
          m h.body ≡ taken → body_outcome fault slots bound_groups h ≡ outcome fault taken
      by_taken None (Ok end) e = body_recording-built m end begun e
      by_taken (Some binding_fault) (Ok end) e =
          ap (λ (r : Result (List Instant) VcdFault). refused binding_fault r)
          (ok-followed (Ends IsMadeOf) (instants_from h.nets h.body) _ end (builder-follows m begun) e).1
      by_taken None (Err first) e =
          ap (λ (r : Result (List Instant) VcdFault). or_dump r >>= λ instants. Ok
          (recording slots bound_groups instants (length instants)))
          (Follows-err (instants_from h.nets h.body) _ first (builder-follows m begun) e)
      by_taken (Some binding_fault) (Err first) e =
          ap (λ (r : Result (List Instant) VcdFault). refused binding_fault r)
          (Follows-err (instants_from h.nets h.body) _ first
          (builder-follows m begun) e)

-- ---- a text

-- the recording of a text is made of what its definitions are
pub recording_of_text-header : (b : BoundLines) (text : List ℕ)
    → recording_of_text b text ≡ (or_dump (whole_header text) >>= recording_after b)
unfolding recording_of_text
recording_of_text-header b text = ap (recording_read b) (dump_of-header text) ∙ by_header (whole_header text)
  where
    by_header : (r : Result (Defined (List Variable)) VcdFault)
        → recording_read b (r >>= contents_of_header) ≡ (or_dump r >>= recording_after b)
    by_header (Ok d) = refl
    by_header (Err fault) = refl

-- what a function gives for the body after the definitions, it gives for the whole text
pub GivesBy-recording_of_text : {X : Type 0} (view : X → Trace) (b : BoundLines) (text : List ℕ) (h : Headed)
    (first seen : List Searched) (r : Result X CaptureFault) → header_of with_variable text (nothing_declared first)
    (tokens text) ≡ Ok (defined h seen)
    → ((variables : List Variable) → seen ≡ fold with_variable first variables
    → GivesBy view r (recording_after b (defined h variables))) → GivesBy view r (recording_of_text b text)
GivesBy-recording_of_text view b text h first seen r head given =
    let whole = comes_of-after_header (recording_of_text b) (recording_after b) (recording_of_text-header b) text h
    first seen head in
    subst (GivesBy view r) (sym whole.2) (given whole.0 whole.1)

-- where the binding fits, the recording of the instants is that of the bound groups, or the fault of the dump
pub recording_read-bound : (b : BoundLines) (variables : List Variable) (bound_groups : List BoundGroup)
    (r : Result (List Instant) VcdFault) → bound_groups_in variables b.assignments ≡ Ok bound_groups
    → recording_read b (r >>= with_variables variables)
    ≡ (or_dump r >>= λ instants. Ok (recording b.slots bound_groups instants (length instants)))
recording_read-bound b variables bound_groups (Ok instants) e =
    let dump : Contents = record { variables = variables; instants = instants } in
    ap or_binding (recording_of-is b dump ∙ ap (λ (r : Result (List BoundGroup) BindFault). r >>= λ bound_groups. Ok
    (recording b.slots bound_groups instants (length instants))) e)
recording_read-bound b variables bound_groups (Err fault) e = refl

-- where the binding has the fault `binding_fault`, the result is the fault of the dump, or else `binding_fault`
pub recording_read-refused : (b : BoundLines) (variables : List Variable) (binding_fault : BindFault)
    (r : Result (List Instant) VcdFault)
    → bound_groups_in variables b.assignments ≡ Err binding_fault
    → recording_read b (r >>= with_variables variables) ≡ (or_dump r >>= λ instants. Err (Binding binding_fault))
recording_read-refused b variables binding_fault (Ok instants) e =
    let dump : Contents = record { variables = variables; instants = instants } in
    ap or_binding (recording_of-is b dump ∙ ap (λ (r : Result (List BoundGroup) BindFault). r >>= λ bound_groups. Ok
    (recording b.slots bound_groups instants (length instants))) e)
recording_read-refused b variables binding_fault (Err fault) e = refl

-- where the binding fits, what a function gives for the body it gives for what is after the definitions
pub GivesBy-recording_after : {X : Type 0} (view : X → Trace) (b : BoundLines) (h : Headed) (variables : List Variable)
    (bound_groups : List BoundGroup) (r : Result X CaptureFault) → bound_groups_in variables b.assignments
    ≡ Ok bound_groups
    → GivesBy view r (body_recording b.slots bound_groups h) → GivesBy view r (recording_after b (defined h variables))
GivesBy-recording_after view b h variables bound_groups r e given = subst (GivesBy view r)
    (sym (recording_read-bound b variables bound_groups (instants_from h.nets h.body) e)) given

-- ---- a binding that doesn't fit

-- a change of a net, of which nothing is kept
abbrev passed_change : Unit {0} → ℕ → List Bit → Unit {0}
passed_change u net bits = u

-- the end of an instant, of which nothing is kept
abbrev passed_instant : Unit {0} → ℕ → Unit {0}
passed_instant u time = u

-- nothing is asked of what is made of the instants
abbrev Passes : List Instant → CurrentValues → Unit {0} → Type 0
Passes done current u = Unit {0}

-- reading a body without keeping anything follows the body's instants
Follows-passing : (h : Headed) (u : Unit {0}) → Follows (Ends Passes) (instants_from h.nets h.body)
    (fold_body passed_change passed_instant h.nets u h.body)
Follows-passing h u = Follows-fold_body passed_change passed_instant h.nets Passes
    (λ done current a net bits lt made. tt)
    (λ done current a time made. tt) h.body u tt

-- a fault of the body is the fault of what is after the definitions
recording_after-DumpFails : (b : BoundLines) (h : Headed) (variables : List Variable) (line : ℕ) (kind : FaultKind)
    → ReadFailsAs line
    kind (instants_from h.nets h.body) → DumpFails line kind (recording_after b (defined h variables))
recording_after-DumpFails b h variables line Memory e = e
recording_after-DumpFails b h variables line kind e = ap (λ (r : Result (List Instant) VcdFault). recording_read b
    (r >>= with_variables variables)) e

-- a fault of the body comes before a fault of the binding
pub recording_after-dump_fails : (b : BoundLines) (h : Headed) (variables : List Variable) (u : Unit {0})
    (fault : VcdFault)
    → ReadFails fault (fold_body passed_change passed_instant h.nets u h.body)
    → CaptureFailsBy (Dump fault) (recording_after b (defined h variables))
recording_after-dump_fails b h variables u fault fails = recording_after-DumpFails b h variables fault.line fault.kind
    (ReadFails-followed (Ends Passes) (instants_from h.nets h.body) _ fault (Follows-passing h u) fails)

-- a fault of the binding is the fault of what it makes of the dump
BindingFails-recording_of : (line : ℕ) (kind : BindFaultKind) (b : BoundLines) (dump : Contents)
    (answer : Result Trace CaptureFault)
    → answer ≡ or_binding (recording_of b dump)
    → BindFailsAs line kind (bound_groups_in dump.variables b.assignments) → BindingFails line kind answer
BindingFails-recording_of line NoMemory b dump answer is e = e
BindingFails-recording_of line kind b dump answer is e =
    is ∙ ap or_binding (recording_of-is b dump ∙ ap (λ (r : Result (List BoundGroup) BindFault). r >>= λ bound_groups.
    Ok (recording b.slots bound_groups dump.instants (length dump.instants))) e)

-- a fault of the binding is the result where the body has no fault
pub recording_after-binding_fails : (b : BoundLines) (h : Headed) (variables : List Variable) (u end : Unit {0})
    (fault : BindFault)
    → fold_body passed_change passed_instant h.nets u h.body ≡ Ok end
    → BindFails fault (bound_groups_in variables b.assignments) → CaptureFailsBy (Binding fault)
    (recording_after b (defined h variables))
recording_after-binding_fails b h variables u end fault ok fails =
    let gives = ok-followed (Ends Passes) (instants_from h.nets h.body) _ end (Follows-passing h u) ok in
    let dump : Contents = record { variables = variables; instants = gives.0 } in
    let is : (instants_from h.nets h.body >>= with_variables variables)
    ≡ Ok dump = ap (λ (r : Result (List Instant) VcdFault). r >>= with_variables variables) gives.1 in
    BindingFails-recording_of fault.line fault.kind b dump (recording_after b (defined h variables))
    (ap (recording_read b) is) fails

-- ---- the recording, and whether it is too long

-- the recording, or `TooManySteps` where it is too long
abbrev in_limit : Result Trace CaptureFault → Result Trace CaptureFault
in_limit r = r >>= λ t. or_binding (limited t)

-- the capture of a text is its recording, unless that is too long
capture_of_text-in_limit : (b : BoundLines) (text : List ℕ) → capture_of_text b text
    ≡ in_limit (recording_of_text b text)
unfolding capture_of_text recording_of_text
capture_of_text-in_limit b text = by_dump (dump_of text)
  where
    by_bound_groups : (dump : Contents) (r : Result (List BoundGroup) BindFault)
        → or_binding (r >>= λ bound_groups. limited (recording b.slots bound_groups dump.instants
        (length dump.instants)))
        ≡ in_limit (or_binding (r >>= λ bound_groups. Ok (recording b.slots bound_groups dump.instants
        (length dump.instants))))
    by_bound_groups dump (Ok bound_groups) = refl
    by_bound_groups dump (Err fault) = refl

    by_dump : (r : Result Contents VcdFault) → capture_read b r ≡ in_limit (recording_read b r)
    by_dump (Ok dump) =
        ap or_binding (capture_of-is b dump) ∙ by_bound_groups dump (bound_groups_in dump.variables b.assignments)
        ∙ sym (ap (λ (r : Result Trace BindFault). in_limit (or_binding r)) (recording_of-is b dump))
    by_dump (Err fault) = refl

-- a fault of the recording without a limit is the fault of the capture
pub capture_of_text-fails : (b : BoundLines) (text : List ℕ) (fault : CaptureFault) → CaptureFailsBy fault
    (recording_of_text b text) → CaptureFailsBy fault (capture_of_text b text)
capture_of_text-fails b text (Dump fault) h = by_kind fault.line fault.kind h
  where
    by_kind : (line : ℕ) (kind : FaultKind) → DumpFails line kind (recording_of_text b text) → DumpFails line kind
        (capture_of_text b text)
    by_kind line Memory e = e
    by_kind line kind e = capture_of_text-in_limit b text ∙ ap in_limit e
capture_of_text-fails b text (Binding fault) h = by_kind fault.line fault.kind h
  where
    by_kind : (line : ℕ) (kind : BindFaultKind) → BindingFails line kind (recording_of_text b text)
        → BindingFails line kind (capture_of_text b text)
    by_kind line NoMemory e = e
    by_kind line kind e = capture_of_text-in_limit b text ∙ ap in_limit e

-- the capture of a text with the recording `t` is `limited t`
pub capture_of_text-limited : (b : BoundLines) (text : List ℕ) (t : Trace) (r : Result Trace BindFault)
    → recording_of_text b text
    ≡ Ok t → r ≡ limited t → GivesBy (λ (t : Trace). t) (or_binding r) (capture_of_text b text)
capture_of_text-limited b text t r e is =
    subst (λ (r : Result Trace BindFault). GivesBy (λ (t : Trace). t) (or_binding r) (capture_of_text b text)) (sym is)
    (by_test (nat_lt capture_limit (length t.steps)) (capture_of_text-in_limit b text ∙ ap in_limit e))
  where
    limited_by : Bool → Result Trace CaptureFault
    limited_by b = or_binding (cond b (Err (record { line = 0; kind = TooManySteps })) (Ok t))

    by_test : (test : Bool) → capture_of_text b text ≡ limited_by test → GivesBy (λ (t : Trace). t) (limited_by test)
        (capture_of_text b text)
    by_test true h = h
    by_test false h = h

-- ---- the steps of a recording are well formed

-- the recording that a binding makes of a text is well formed
pub recording_of_text-formed : (b : BoundLines) (text : List ℕ) (t : Trace) → recording_of_text b text ≡ Ok t
    → malformed_step t
    ≡ None
unfolding recording_of_text
recording_of_text-formed b text t e = by_dump (dump_of text) refl e
  where
    rises_in : (dump : Contents) (r : Result (Defined (List Variable)) VcdFault) → (r >>= contents_of_header) ≡ Ok dump
        → TimesAscend dump.instants
    rises_in dump (Err fault) e = absurd (cc e)
    rises_in dump (Ok d) e = by_result (instants_from d.head.nets d.head.body) refl e
      where
        by_result : (r : Result (List Instant) VcdFault) → instants_from d.head.nets d.head.body ≡ r
            → (r >>= with_variables d.variables) ≡ Ok dump → TimesAscend dump.instants
        by_result (Err fault) is e = absurd (cc e)
        by_result (Ok instants) is e = subst (λ (c : Contents). TimesAscend c.instants) (ok-same _ _ _ refl e)
            (TimesAscend-instants_from d.head.nets d.head.body instants is)

    by_bound_groups : (dump : Contents) → TimesAscend dump.instants → (r : Result (List BoundGroup) BindFault)
        → or_binding (r >>= λ bound_groups. Ok (recording b.slots bound_groups dump.instants (length dump.instants)))
        ≡ Ok t → malformed_step t ≡ None
    by_bound_groups dump up (Err fault) e = absurd (cc e)
    by_bound_groups dump up (Ok bound_groups) e = recording-formed b.slots bound_groups dump.instants t up
        (ok-same _ _ _ refl e)

    by_dump : (r : Result Contents VcdFault) → dump_of text ≡ r → recording_read b r ≡ Ok t → malformed_step t ≡ None
    by_dump (Err fault) is e = absurd (cc e)
    by_dump (Ok dump) is e =
        by_bound_groups dump (rises_in dump (whole_header text) (sym (dump_of-header text) ∙ is))
        (bound_groups_in dump.variables b.assignments) (sym (ap or_binding (recording_of-is b dump)) ∙ e)

-- the recording that a function gives for a text is well formed
pub GivesBy-formed : {X : Type 0} (view : X → Trace) (b : BoundLines) (text : List ℕ) (r : Result X CaptureFault)
    → GivesBy view r (recording_of_text b text) → IfOk r (λ x. malformed_step (view x) ≡ None)
GivesBy-formed view b text (Ok x) given = recording_of_text-formed b text (view x) given
GivesBy-formed view b text (Err fault) given = tt
