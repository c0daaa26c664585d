-- Reading the body of a dump succeeds where the dump has no fault, and else fails with the dump's fault, whatever is
-- made of it.
use Rattle.std.proofs.Common.{◌≡◌, ℕ, List, Result, Ok, Err, IfErr, OnOk, ap, ◌∙◌}
use Rattle.vcd_read.specs.declared.dump.Bit.{Bit}
use Rattle.vcd_read.specs.declared.dump.Instant.{Instant}
use Rattle.vcd_read.specs.declared.fault.VcdFault.{VcdFault}
use Rattle.vcd_read.specs.declared.dump.Variable.{Variable}
use Rattle.vcd_read.specs.Header.{◌>>=◌}
use Rattle.vcd_read.specs.Meaning.{ReadFails, ReadGives, dump_of, instants_from}
use Rattle.vcd_read.specs.Sections.{Defined, Headed}
use Rattle.vcd_read.specs.BodyFold.{fold_body}
use Rattle.vcd_read.proofs.DumpLemmas.{contents_of_header, with_variables, whole_header, dump_of-header}
use Rattle.vcd_read.proofs.DumpLemmas.{dump_of-whole_header}
use Rattle.vcd_read.proofs.ReadLemmas.{ReadFails-first}
use Rattle.vcd_read.proofs.CurrentValues.{CurrentValues}
use Rattle.vcd_read.proofs.BodyFoldLemmas.{Ends, Follows, ReadFails-followed, ok-followed, Follows-fold_body}
use Rattle.vme_declarations.specs.Dumps.{IsDump}

module _ {T : Type 0} (with_change : T → ℕ → List Bit → T) (with_instant : T → ℕ → T) where
  -- nothing is asked of what is made of the instants
  abbrev Any : List Instant → CurrentValues → T → Type 0
  Any done current t = Unit {0}

  -- reading a body follows its instants, whatever is made of them
  Follows-instants : (h : Headed) (t : T) → Follows (Ends Any) (instants_from h.nets h.body)
      (fold_body with_change with_instant h.nets t h.body)
  Follows-instants h t = Follows-fold_body with_change with_instant h.nets Any (λ done current a net bits lt made. tt)
      (λ done current a time made. tt) h.body t tt

  -- a fault of reading a body is the fault of its instants
  instants_from-fails : (h : Headed) (t : T) (fault : VcdFault) → ReadFails fault
      (fold_body with_change with_instant h.nets t h.body) → ReadFails fault (instants_from h.nets h.body)
  instants_from-fails h t fault fails = ReadFails-followed (Ends Any) (instants_from h.nets h.body) _ fault
      (Follows-instants h t) fails

  -- where reading a body succeeds, the body has instants
  instants_from-ok : (h : Headed) (t end : T) → fold_body with_change with_instant h.nets t h.body ≡ Ok end
      → (instants : List Instant) × (instants_from h.nets h.body ≡ Ok instants)
  instants_from-ok h t end ok =
      let gives = ok-followed (Ends Any) (instants_from h.nets h.body) _ end (Follows-instants h t) ok in
      (gives.0, gives.1)

  -- where reading a body succeeds, the body has instants, i.e. no fault
  pub instants_from-result_ok : {X : Type 0} (view : X → T) (h : Headed) (t : T) (r : Result X VcdFault)
      → ReadGives view r
      (fold_body with_change with_instant h.nets t h.body)
      → OnOk r ((instants : List Instant) × (instants_from h.nets h.body ≡ Ok instants))
  instants_from-result_ok view h t (Ok x) gives = instants_from-ok h t (view x) gives
  instants_from-result_ok view h t (Err fault) gives = tt

  -- where reading a body fails, the fault is that of its instants
  pub instants_from-result_fails : {X : Type 0} (view : X → T) (h : Headed) (t : T) (r : Result X VcdFault)
      → ReadGives view r
      (fold_body with_change with_instant h.nets t h.body)
      → IfErr r (λ fault. ReadFails fault (instants_from h.nets h.body))
  instants_from-result_fails view h t (Ok x) gives = tt
  instants_from-result_fails view h t (Err fault) gives = instants_from-fails h t fault gives

-- ---- the whole text

-- a fault of the definitions is the fault of the dump
pub dump_of-header_fails : (text : List ℕ) (fault : VcdFault) → ReadFails fault (whole_header text) → ReadFails fault
    (dump_of text)
dump_of-header_fails text fault fails =
    ReadFails-first fault (whole_header text) contents_of_header _ (dump_of-header text) fails

-- a fault of the body is the fault of the dump, where the definitions have none
pub dump_of-body_fails : (text : List ℕ) (d : Defined (List Variable)) (fault : VcdFault) → whole_header text ≡ Ok d
    → ReadFails fault (instants_from d.head.nets d.head.body) → ReadFails fault (dump_of text)
dump_of-body_fails text d fault e fails = ReadFails-first fault (instants_from d.head.nets d.head.body)
    (with_variables d.variables)
    _ (dump_of-whole_header text d e) fails

-- a text whose definitions and body have no fault is a dump
pub IsDump-body : (text : List ℕ) (d : Defined (List Variable)) → whole_header text ≡ Ok d → (instants : List Instant)
    × (instants_from d.head.nets d.head.body ≡ Ok instants) → IsDump text
IsDump-body text d e (instants, is) = (
  record { variables = d.variables; instants = instants },
  dump_of-whole_header text d e
      ∙ ap (λ (r : Result (List Instant) VcdFault). r >>= with_variables d.variables) is,
)

-- ---- from the body after the definitions to the whole text

-- where a result without a fault says that the body has instants, it says that the text is a dump
pub IsDump-result : {A : Type 0} (text : List ℕ) (d : Defined (List Variable)) (r : Result A VcdFault)
    → whole_header text
    ≡ Ok d
    → OnOk r ((instants : List Instant) × (instants_from d.head.nets d.head.body ≡ Ok instants)) → OnOk r (IsDump text)
IsDump-result text d (Ok x) e there = IsDump-body text d e there
IsDump-result text d (Err fault) e there = tt

-- where the fault of a result is that of the body, it is that of the dump
pub dump_of-result_fails : {A : Type 0} (text : List ℕ) (d : Defined (List Variable)) (r : Result A VcdFault)
    → whole_header text
    ≡ Ok d
    → IfErr r (λ fault. ReadFails fault (instants_from d.head.nets d.head.body))
    → IfErr r (λ fault. ReadFails fault (dump_of text))
dump_of-result_fails text d (Ok x) e fails = tt
dump_of-result_fails text d (Err fault) e fails = dump_of-body_fails text d fault e fails
