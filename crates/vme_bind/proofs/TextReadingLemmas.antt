-- Reading the text of a dump by a binding, piece by piece, gives what the definitions say of the whole text, also where
-- the text has a fault.
use Rattle.std.proofs.Common.{◌≡◌, ℕ, ◌-◌, List, [], length, false, Option, None, Result, Ok, Err, refl}
use Rattle.std.proofs.Common.{sym}
use Rattle.std.proofs.Common.{ap, ◌∙◌, ◌++◌, arith, subst}
use Rattle.std.proofs.lemmas.List.{append-nil}
use Rattle.vme_trace.specs.Trace.{Trace}
use Rattle.vme_trace.specs.WellFormed.{malformed_step}
use Rattle.vcd_read.specs.Body.{BodyItem, BodyPlace, ready, body_from}
use Rattle.vcd_read.specs.Bodies.{StoppedAs, UntilFault, until_fault}
use Rattle.vcd_read.specs.Fronts.{going_on}
use Rattle.vcd_read.specs.Header.{◌>>=◌, Net}
use Rattle.vcd_read.specs.Meaning.{instants_before_fault, instants_from}
use Rattle.vcd_read.specs.Meaning.{last_time_before_fault}
use Rattle.vcd_read.specs.Reached.{Reached, rest_until_fault}
use Rattle.vcd_read.specs.Sections.{Headed, defined}
use Rattle.vcd_read.specs.BodyFold.{State, BodyFold, at_end, at_first, reached_before, state_at, fold_body}
use Rattle.vcd_read.specs.Tokens.{Token, tokens}
use Rattle.vcd_read.specs.declared.dump.Instant.{Instant}
use Rattle.vcd_read.specs.declared.dump.Variable.{Variable}
use Rattle.vcd_read.specs.declared.fault.FaultKind.{FaultKind}
use Rattle.vcd_read.specs.declared.fault.FaultKind.TheVariants.{Memory}
use Rattle.vcd_read.specs.declared.fault.VcdFault.{VcdFault}
use Rattle.vcd_read.proofs.BeforeFaultLemmas.{instants_of-before_fault, TimesAscend-before_fault}
use Rattle.vcd_read.proofs.DumpLemmas.{whole_header}
use Rattle.vcd_read.proofs.InstantsLaw.{at_start}
use Rattle.vcd_read.proofs.BodyFoldLemmas.{Ends, ok-followed, KeepsBefore-reached_before}
use Rattle.vcd_read.proofs.ReadLemmas.{TimesAscend-instants_from}
use Rattle.vcd_read.proofs.TimeLemmas.{time-reached_before}
use Rattle.vme_bind.specs.declared.bound_groups.BoundGroup.{BoundGroup}
use Rattle.vme_bind.specs.declared.fault.BindFault.{BindFault}
use Rattle.vme_bind.specs.declared.fault.CaptureFault.TheVariants.{Binding}
use Rattle.vme_bind.specs.Binding.{BoundLines}
use Rattle.vme_bind.specs.BoundGroups.{bound_groups_in}
use Rattle.vme_bind.specs.Capture.{recording}
use Rattle.vme_bind.specs.BuilderState.{IsBegun, BuilderState, builder_change, builder_instant}
use Rattle.vme_bind.specs.TextCapture.{or_binding, or_dump}
use Rattle.vme_bind.specs.TextReading.{StopsAs, TextReading, body_reading, or_fault, reading_after, reading_by}
use Rattle.vme_bind.specs.TextReading.{reading_made, reading_of_text, reading_until_fault}
use Rattle.vme_bind.proofs.StepsLemmas.{malformed_step-recording}
use Rattle.vme_bind.proofs.BuilderLemmas.{Makes, makes-first, makes-change, makes-instant}
use Rattle.vme_bind.proofs.TextCaptureLemmas.{IsMadeOf, builder-follows, Follows-err, instants_in}

-- ---- where a body stops

-- readings with the same fault, recording and time are the same
reading_made-same : (fault : VcdFault) (t t2 : Trace) (time time2 : ℕ) → t ≡ t2 → time ≡ time2
    → reading_made t time (Err fault) ≡ reading_made t2 time2 (Err fault)
reading_made-same fault t t2 time time2 e e2 = rw (e, e2) refl

-- where reading a piece stops with a fault, the reading has that fault, and the recording and the time before it
pub StopsAs-piece : (line : ℕ) (kind : FaultKind) (made : BuilderState) (recorded : Trace) (time : ℕ)
    (read : UntilFault BuilderState)
    → recorded ≡ made.recorded
    → StoppedAs line kind made time read.reached.progress read.outcome
    → StopsAs line kind recorded time (reading_until_fault read)
StopsAs-piece line Memory made recorded time read e h = h
StopsAs-piece line kind made recorded time read e h =
    ap (λ (r : Result (State BuilderState) VcdFault). reading_made read.reached.progress.accumulator.recorded
    read.reached.progress.time (r >>= at_end builder_instant)) h.0
    ∙ reading_made-same (record { line = line; kind = kind }) _ _ _ _
    (sym (e ∙ ap (λ (m : BuilderState). m.recorded) h.1))
    (sym h.2)

-- where no tokens are left, the progress stays
pub reached_before-no_tokens : (nets : List Net) (timed : BodyFold BuilderState) (dump_section : Option ℕ)
    (place : BodyPlace)
    → (reached_before builder_change builder_instant nets (state_at timed dump_section) (body_from place [])).progress
    ≡ timed
unfolding reached_before body_from
reached_before-no_tokens nets timed dump_section ready = refl
reached_before-no_tokens nets timed dump_section place = refl

-- a fault at the end of the text is the fault of the reading
pub StopsAs-at_end : (line : ℕ) (kind : FaultKind) (made : BuilderState) (recorded : Trace) (time : ℕ)
    (r : Reached BuilderState) → recorded
    ≡ made.recorded
    → StoppedAs line kind made time r.progress ((rest_until_fault builder_change builder_instant r [] []).outcome
    >>= at_end builder_instant)
    → StopsAs line kind recorded time (reading_until_fault (rest_until_fault builder_change builder_instant r [] []))
StopsAs-at_end line Memory made recorded time r e h = h
StopsAs-at_end line kind made recorded time r e h =
    let read : UntilFault BuilderState = rest_until_fault builder_change builder_instant r [] [] in
    let none : read.reached.progress ≡ r.progress = reached_before-no_tokens r.nets r.progress r.dump_section r.place in
    ap (reading_made read.reached.progress.accumulator.recorded read.reached.progress.time) h.0
    ∙ reading_made-same (record { line = line; kind = kind }) _ _ _ _
    (ap (λ (p : BodyFold BuilderState). p.accumulator.recorded) none ∙ ap (λ (m : BuilderState). m.recorded) (sym h.1)
    ∙ sym e) (ap (λ (p : BodyFold BuilderState). p.time) none ∙ sym h.2)

-- without a fault at the end, the reading is what was recorded
pub reading_until_fault-at_end : (recorded : Trace) (made : BuilderState) (r : Reached BuilderState) → recorded
    ≡ made.recorded
    → ((rest_until_fault builder_change builder_instant r [] []).outcome >>= at_end builder_instant) ≡ Ok made
    → reading_until_fault (rest_until_fault builder_change builder_instant r [] [])
    ≡ record { recorded = recorded; fault = None; time = r.progress.time }
reading_until_fault-at_end recorded made r e is =
    let read : UntilFault BuilderState = rest_until_fault builder_change builder_instant r [] [] in
    ap (reading_made read.reached.progress.accumulator.recorded read.reached.progress.time) is
    ∙ ap (λ (p : BodyFold BuilderState). record { recorded = made.recorded; fault = None; time = p.time })
    (reached_before-no_tokens r.nets r.progress r.dump_section r.place)
    ∙ ap (λ (t : Trace). record { recorded = t; fault = None; time = r.progress.time }) (sym e)

-- ---- a body

module _ (slots : ℕ) (bound_groups : List BoundGroup) (h : Headed) (m : BuilderState)
    (begun : IsBegun slots bound_groups m)
  where
    -- the items of the body
    abbrev items : List BodyItem
    items = body_from ready h.body

    -- the items of the body, as they are read up to the first fault
    abbrev read : UntilFault BuilderState
    read = until_fault builder_change builder_instant h.nets (at_first m) items

    -- what the builder recorded before the first fault is the recording of the instants before it
    recorded-before_fault : (reached_before builder_change builder_instant h.nets (at_first m)
        items).progress.accumulator.recorded
        ≡ recording slots bound_groups (instants_before_fault h.nets h.body)
        (length (instants_before_fault h.nets h.body) - 1)
    recorded-before_fault =
        let all : List Instant = instants_before_fault h.nets h.body in
        let count = length h.nets in
        let follows = KeepsBefore-reached_before builder_change builder_instant h.nets
        (Makes slots bound_groups count all)
        (λ done current a net bits lt made. makes-change slots bound_groups count all done current a net bits lt made)
        (λ done current a time made. makes-instant slots bound_groups count all done current a time made)
        items (at_start h.nets) m (makes-first slots bound_groups count all m begun) in
        let before = instants_of-before_fault h.nets items in
        let made = follows.2 before.0 before.1 in
        ap (λ (s : State BuilderState). s.progress.accumulator.recorded) follows.1
        ∙ made.recorded
        ∙ ap (λ (n : ℕ). recording slots bound_groups all n) before.2

    -- the time of the builder before the first fault is the last time before it
    time-before_fault : read.reached.progress.time ≡ last_time_before_fault h.nets h.body
    time-before_fault = time-reached_before builder_change builder_instant h.nets (at_first m) items

    -- the reading of a body without a fault
    abbrev whole_reading : Trace → ℕ → TextReading
    whole_reading t time = record { recorded = t; fault = None; time = time }

    -- the reading of a body is made of the result `taken` of reading its items
    body_reading-by_result : (taken : Result BuilderState VcdFault)
        → fold_body builder_change builder_instant h.nets m h.body
        ≡ taken
        → body_reading slots bound_groups h
        ≡ reading_made read.reached.progress.accumulator.recorded read.reached.progress.time taken
    body_reading-by_result (Ok end) e =
        let gives = ok-followed (Ends (IsMadeOf slots bound_groups h)) (instants_from h.nets h.body) _ end
        (builder-follows slots bound_groups h m begun) e in
        let instants : List Instant = gives.0 in
        let all : instants_in (instants_from h.nets h.body) ≡ instants = ap instants_in gives.1 in
        let made = gives.2.1 [] (all ∙ sym (append-nil instants)) in
        ap (reading_by slots bound_groups h) gives.1
        ∙ ap (λ (xs : List Instant). whole_reading (recording slots bound_groups xs (length instants))
        (last_time_before_fault h.nets h.body)) (sym all)
        ∙ ap (λ (t : Trace). whole_reading t (last_time_before_fault h.nets h.body)) (sym made.recorded)
        ∙ ap (whole_reading end.recorded) (sym time-before_fault)
    body_reading-by_result (Err fault) e =
        ap (reading_by slots bound_groups h)
        (Follows-err slots bound_groups h (instants_from h.nets h.body) _ fault (builder-follows slots bound_groups h m
        begun) e)
        ∙ reading_made-same fault _ _ _ _ (sym recorded-before_fault) (sym time-before_fault)

    -- the reading of a body by definition is that by the builder
    pub body_reading-reading_until_fault : body_reading slots bound_groups h ≡ reading_until_fault read
    body_reading-reading_until_fault =
        body_reading-by_result (fold_body builder_change builder_instant h.nets m h.body) refl

-- the recorded steps of a body are well formed
malformed_step-body_reading : (slots : ℕ) (bound_groups : List BoundGroup) (h : Headed) → malformed_step
    (body_reading slots bound_groups h).recorded ≡ None
malformed_step-body_reading slots bound_groups h = by_instants (instants_from h.nets h.body) refl
  where
    by_instants : (r : Result (List Instant) VcdFault) → instants_from h.nets h.body ≡ r → malformed_step
        (reading_by slots bound_groups h r).recorded ≡ None
    by_instants (Ok instants) is = malformed_step-recording slots bound_groups instants (length instants) (omega arith)
        (TimesAscend-instants_from h.nets h.body instants is)
    by_instants (Err fault) is =
        let all : List Instant = instants_before_fault h.nets h.body in
        malformed_step-recording slots bound_groups all (length all - 1) (omega arith) (TimesAscend-before_fault h.nets
        (body_from ready h.body))

-- the recorded steps are well formed for any tokens after a place at which nothing is read yet
pub malformed_step-begun : (slots : ℕ) (bound_groups : List BoundGroup) (made : BuilderState) (r : Reached BuilderState)
    (tokens more : List Token) → IsBegun slots bound_groups made
    → r.progress ≡ record { accumulator = made; time = 0; has_instant = false } → r.dump_section ≡ None → r.place
    ≡ ready
    → malformed_step (reading_until_fault (rest_until_fault builder_change builder_instant r tokens more)).recorded
    ≡ None
malformed_step-begun slots bound_groups made r tokens more begun progress dump_section place =
    let h : Headed = record { nets = r.nets; body = tokens ++ more } in
    rw (progress, dump_section, place) (subst (λ (reading : TextReading). malformed_step reading.recorded ≡ None)
    (body_reading-reading_until_fault slots bound_groups h made begun)
    (malformed_step-body_reading slots bound_groups h))

-- the reading of a body by definition, or the fault of the binding, is that from a place at which nothing is read yet
pub or_fault-begun : (binding_fault : Option BindFault) (slots : ℕ) (bound_groups : List BoundGroup) (head : Headed)
    (made : BuilderState)
    (r : Reached BuilderState) (first more : List Token) → IsBegun slots bound_groups made → r.nets ≡ head.nets
    → r.progress ≡ record { accumulator = made; time = 0; has_instant = false } → r.dump_section ≡ None → r.place
    ≡ ready
    → first ≡ head.body
    → or_fault binding_fault (body_reading slots bound_groups (going_on head more))
    ≡ or_fault binding_fault (reading_until_fault (rest_until_fault builder_change builder_instant r first more))
or_fault-begun binding_fault slots bound_groups head made r first more begun nets progress dump_section place body =
    rw (nets, progress, dump_section, place, body)
    (ap (or_fault binding_fault) (body_reading-reading_until_fault slots bound_groups (going_on head more) made begun))

-- ---- a text

-- where the binding fits, the reading after the definitions is that of the body
pub reading_after-fitting : (b : BoundLines) (h : Headed) (variables : List Variable) (bound_groups : List BoundGroup)
    → bound_groups_in variables b.assignments ≡ Ok bound_groups
    → reading_after b (defined h variables) ≡ or_fault None (body_reading b.slots bound_groups h)
reading_after-fitting b h variables bound_groups e = ap (λ (r : Result (List BoundGroup) BindFault). or_binding r
    >>= λ bound_groups. Ok (body_reading b.slots bound_groups h)) e

-- where the binding has a fault, the reading after the definitions is that fault
pub reading_after-refused : (b : BoundLines) (h : Headed) (variables : List Variable) (binding_fault : BindFault)
    → bound_groups_in
    variables b.assignments ≡ Err binding_fault
    → reading_after b (defined h variables) ≡ Err (Binding binding_fault)
reading_after-refused b h variables binding_fault e = ap (λ (r : Result (List BoundGroup) BindFault). or_binding r
    >>= λ bound_groups. Ok (body_reading b.slots bound_groups h)) e

-- the reading of a text is made of what its definitions are
pub reading_of_text-header : (b : BoundLines) (text : List ℕ)
    → reading_of_text b text ≡ (or_dump (whole_header text) >>= reading_after b)
unfolding reading_of_text
reading_of_text-header b text = refl
