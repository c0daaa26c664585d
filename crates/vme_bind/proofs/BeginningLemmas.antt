-- The result of a text that is made of what its definitions are, from a prefix of the text on.
use Rattle.std.proofs.Common.{◌≡◌, ℕ, List, ◌++◌, Result, Ok, Err, sym, ap, ◌∙◌, subst}
use Rattle.std.specs.List.{fold}
use Rattle.vcd_read.specs.declared.dump.Variable.{Variable}
use Rattle.vcd_read.specs.declared.fault.FaultKind.{FaultKind}
use Rattle.vcd_read.specs.declared.fault.FaultKind.TheVariants.{Memory, NoEndDefinitions, UnfinishedSection}
use Rattle.vcd_read.specs.declared.fault.VcdFault.{VcdFault}
use Rattle.vcd_read.specs.Fronts.{IsMetAtTheEnd, going_on}
use Rattle.vcd_read.specs.Header.{◌>>=◌, nothing_declared}
use Rattle.vcd_read.specs.Meaning.{ReadFails, ReadFailsAs}
use Rattle.vcd_read.specs.Sections.{Headed, Defined, defined, header_of}
use Rattle.vcd_read.specs.Tokens.{Token, tokens}
use Rattle.vcd_read.proofs.DefinedLemmas.{HasHeader-visited, ReadFails-visited}
use Rattle.vcd_read.proofs.DumpLemmas.{whole_header}
use Rattle.vme_bind.specs.declared.fault.CaptureFault.{CaptureFault}
use Rattle.vme_bind.specs.declared.fault.CaptureFault.TheVariants.{Dump}
use Rattle.vme_bind.specs.PathSearch.{Searched, with_variable}
use Rattle.vme_bind.specs.TextCapture.{CaptureFailsBy, DumpFails, or_dump}

module _ {Z : Type 0} (comes_of : List ℕ → Result Z CaptureFault)
    (after : Defined (List Variable) → Result Z CaptureFault)
    (made : (text : List ℕ) → comes_of text ≡ (or_dump (whole_header text) >>= after)) where
  -- the result, from what reading the definitions gives
  abbrev result_of : Result (Defined (List Variable)) VcdFault → Result Z CaptureFault
  result_of r = or_dump r >>= after

  -- a fault of the definitions is the fault of the result
  pub CaptureFailsBy-header : (text : List ℕ) (seen : List Searched) (fault : VcdFault)
      → ReadFails fault (header_of with_variable text (nothing_declared seen) (tokens text))
      → CaptureFailsBy (Dump fault) (comes_of text)
  CaptureFailsBy-header text seen fault h =
      by_kind fault.line fault.kind (ReadFails-visited with_variable fault text seen h)
    where
      by_kind : (line : ℕ) (kind : FaultKind) → ReadFailsAs line kind (whole_header text)
          → DumpFails line kind (comes_of text)
      by_kind line Memory e = e
      by_kind line kind e = made text ∙ ap result_of e

  -- definitions that don't end in `front` are a fault of the dump `front`
  pub comes_of-unfinished : (front : List ℕ) (seen : List Searched) (fault : VcdFault)
      → header_of with_variable front (nothing_declared seen) (tokens front) ≡ Err fault
      → IsMetAtTheEnd fault.kind → comes_of front ≡ Err (Dump fault)
  comes_of-unfinished front seen fault is met = by_kind fault.line fault.kind is met
    where
      by_kind : (line : ℕ) (kind : FaultKind) → header_of with_variable front (nothing_declared seen) (tokens front)
          ≡ Err (record { line = line; kind = kind })
          → IsMetAtTheEnd kind → comes_of front ≡ Err (Dump (record { line = line; kind = kind }))
      by_kind line NoEndDefinitions is met =
          CaptureFailsBy-header front seen (record { line = line; kind = NoEndDefinitions }) is
      by_kind line UnfinishedSection is met =
          CaptureFailsBy-header front seen (record { line = line; kind = UnfinishedSection }) is
      by_kind line kind is met = absurd met

  -- the result is that of the body after the definitions
  pub comes_of-after_header : (text : List ℕ) (h : Headed) (first seen : List Searched)
      → header_of with_variable text (nothing_declared first) (tokens text) ≡ Ok (defined h seen)
      → (variables : List Variable) × (seen ≡ fold with_variable first variables)
      × (comes_of text ≡ after (defined h variables))
  comes_of-after_header text h first seen head =
      let whole = HasHeader-visited with_variable text h first seen head in
      (whole.0, whole.2, made text ∙ ap result_of whole.1)

  module _ (front : List ℕ) (first : List Searched) (whole : List ℕ) (more : List Token)
      (e : tokens whole ≡ tokens front ++ more) where
    -- a fault of the definitions in `front` is the fault of the result of a text that begins with `front`
    pub CaptureFailsBy-front : (fault : VcdFault)
        → ((text : List ℕ) (more : List Token)
        → ReadFails fault (header_of with_variable text (nothing_declared first) (tokens front ++ more)))
        → CaptureFailsBy (Dump fault) (comes_of whole)
    CaptureFailsBy-front fault fails = CaptureFailsBy-header whole first fault
        (subst (λ (ts : List Token). ReadFails fault (header_of with_variable whole (nothing_declared first) ts))
        (sym e) (fails whole more))

    -- the result of a text that begins with `front` is that of the body after the definitions in `front`
    pub comes_of-after_front : (h : Headed) (seen : List Searched)
        → ((text : List ℕ) (more : List Token)
        → header_of with_variable text (nothing_declared first) (tokens front ++ more)
        ≡ Ok (defined (going_on h more) seen))
        → (variables : List Variable) × (seen ≡ fold with_variable first variables)
        × (comes_of whole ≡ after (defined (going_on h more) variables))
    comes_of-after_front h seen found = comes_of-after_header whole (going_on h more) first seen
        (subst (λ (ts : List Token). header_of with_variable whole (nothing_declared first) ts
        ≡ Ok (defined (going_on h more) seen)) (sym e) (found whole more))
