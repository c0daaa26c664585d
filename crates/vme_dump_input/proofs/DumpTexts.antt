-- The result of reading the text of a dump agrees with the contents of the dump: the recording is the same, and so is a
-- fault.
use Rattle.std.proofs.Common.{◌≡◌, ℕ, List, [], length, Option, None, Some, refl, sym, ap, subst, ◌∙◌}
use Rattle.std.specs.Prelude.{Result, Ok, Err}
use Rattle.std.proofs.lemmas.Option.{same_Some}
use Rattle.vcd_read.specs.Contents.{Contents}
use Rattle.vcd_read.specs.Header.{◌>>=◌}
use Rattle.vcd_read.specs.Meaning.{dump_of, instants_from}
use Rattle.vcd_read.specs.Sections.{Defined}
use Rattle.vcd_read.specs.declared.dump.Instant.{Instant}
use Rattle.vcd_read.specs.declared.dump.Variable.{Variable}
use Rattle.vcd_read.specs.declared.fault.VcdFault.{VcdFault}
use Rattle.vcd_read.proofs.DumpLemmas.{contents_of_header, dump_of-header, whole_header}
use Rattle.vcd_read.proofs.ResultLemmas.{ok-same}
use Rattle.vme_trace.specs.Trace.{Trace}
use Rattle.vme_bind.specs.Binding.{BoundLines}
use Rattle.vme_bind.specs.BoundGroups.{bound_groups_in}
use Rattle.vme_bind.specs.Capture.{capture_of, limited, recording, recording_of}
use Rattle.vme_bind.specs.TextCapture.{or_binding, or_dump}
use Rattle.vme_bind.specs.TextReading.{TextReading, body_reading, reading_after, reading_by, reading_of_text}
use Rattle.vme_bind.specs.declared.fault.BindFault.{BindFault}
use Rattle.vme_bind.specs.declared.fault.CaptureFault.{CaptureFault}
use Rattle.vme_bind.specs.declared.fault.CaptureFault.TheVariants.{Dump}

-- the type of what a function gives, where it doesn't fail
abbrev OkOf : {A B E : Type 0} → (A → Result B E) → Type 0
OkOf {A} {B} f = B

-- the bound groups of a binding
abbrev Groups : Type 0
Groups = OkOf (bound_groups_in [])

module _ (b : BoundLines) where
  -- a reading without a fault is the recording of the contents; a fault of the reading, or of the definitions, is that
  -- of the dump
  pub record Agrees (dump : Result Contents VcdFault) (reading : Result TextReading CaptureFault) : Type 0 where
    pub whole : (r : TextReading) → reading ≡ Ok r → r.fault ≡ None
        → (contents : Contents) × (dump ≡ Ok contents) × (recording_of b contents ≡ Ok r.recorded)
    pub faulty : (r : TextReading) (fault : VcdFault) → reading ≡ Ok r → r.fault ≡ Some fault → dump ≡ Err fault
    pub fails : (fault : VcdFault) → reading ≡ Err (Dump fault) → dump ≡ Err fault

  -- no fault isn't some fault
  none_some : (x y : Option VcdFault) (fault : VcdFault) → x ≡ y → x ≡ None → y ≡ Some fault → ⊥
  none_some x y fault same none some = absurd (cc)

  module _ (d : Defined (List Variable)) where
    -- the contents of a dump with these instants
    abbrev with_variables : List Instant → Result Contents VcdFault
    with_variables instants = Ok (record { variables = d.variables; instants = instants })

    -- the reading of the body by these bound groups
    abbrev read_by : Groups → Result TextReading CaptureFault
    read_by groups = Ok (body_reading b.slots groups d.head)

    -- where the binding fits, the reading agrees with the contents, by the instants of the body
    Agrees-instants : (groups : Groups) → bound_groups_in d.variables b.assignments ≡ Ok groups
        → (r : Result (List Instant) VcdFault)
        → Agrees (r >>= with_variables) (Ok (reading_by b.slots groups d.head r))
    unfolding recording_of
    Agrees-instants groups e (Ok instants) = record {
      whole = λ r is none. (
        record { variables = d.variables; instants = instants },
        refl,
        ap (λ (w : Result Groups BindFault). w >>= λ g. Ok (recording b.slots g instants (length instants)))
            e
            ∙ ap (λ (x : TextReading). Ok x.recorded)
            (ok-same (reading_by b.slots groups d.head (Ok instants)) r _ refl is),
      );
      faulty = λ r fault is some.
          absurd (none_some None r.fault fault (ap (λ (x : TextReading). x.fault)
          (ok-same (reading_by b.slots groups d.head (Ok instants)) r _ refl is)) refl some);
      fails = λ fault is. absurd (cc);
    }
    Agrees-instants groups e (Err first) = record {
      whole = λ r is none.
          let same = ap (λ (x : TextReading). x.fault)
          (ok-same (reading_by b.slots groups d.head (Err first)) r _ refl is) in
          absurd (none_some r.fault (Some first) first (sym same) none refl);
      faulty = λ r fault is some.
          let same = ap (λ (x : TextReading). x.fault)
          (ok-same (reading_by b.slots groups d.head (Err first)) r _ refl is) in
          ap (λ (f : VcdFault). Err f) (same_Some first fault (same ∙ some));
      fails = λ fault is. absurd (cc);
    }

    -- the reading after the definitions agrees with the contents, whether the binding fits or not
    Agrees-bound_groups : (groups : Result Groups BindFault) → bound_groups_in d.variables b.assignments ≡ groups
        → Agrees (instants_from d.head.nets d.head.body >>= with_variables) (or_binding groups >>= read_by)
    Agrees-bound_groups (Ok groups) e = Agrees-instants groups e (instants_from d.head.nets d.head.body)
    Agrees-bound_groups (Err binding_fault) e = record {
      whole = λ r is none. absurd (cc);
      faulty = λ r fault is some. absurd (cc);
      fails = λ fault is. absurd (cc);
    }

  -- the reading agrees with the contents, whether the definitions have a fault or not
  Agrees-header : (h : Result (Defined (List Variable)) VcdFault)
      → Agrees (h >>= contents_of_header) (or_dump h >>= reading_after b)
  Agrees-header (Ok d) = Agrees-bound_groups d (bound_groups_in d.variables b.assignments) refl
  Agrees-header (Err first) = record {
    whole = λ r is none. absurd (cc);
    faulty = λ r fault is some. absurd (cc);
    fails = λ fault is. let same : first ≡ fault = cc in ap (λ (f : VcdFault). Err f) same;
  }

  -- the reading of a text agrees with the contents of the dump
  pub Agrees-text : (text : List ℕ) → Agrees (dump_of text) (reading_of_text b text)
  unfolding reading_of_text
  Agrees-text text =
      subst (λ (dump : Result Contents VcdFault). Agrees dump (or_dump (whole_header text) >>= reading_after b))
      (sym (dump_of-header text)) (Agrees-header (whole_header text))

  module _ (contents : Contents) (t : Trace) where
    -- the recording of the contents by these bound groups
    abbrev made : Groups → Trace
    made groups = recording b.slots groups contents.instants (length contents.instants)

    -- where the recording that is made is `t`, so it is within the limit
    limited-made : (groups : Result Groups BindFault) → (groups >>= λ g. Ok (made g)) ≡ Ok t
        → (groups >>= λ g. limited (made g)) ≡ limited t
    limited-made (Ok groups) is = ap limited (ok-same (made groups) t _ refl is)
    limited-made (Err binding_fault) is = absurd (cc)

    -- what is captured is what is recorded, if it isn't too long
    pub capture_of-limited : recording_of b contents ≡ Ok t → capture_of b contents ≡ limited t
    unfolding recording_of capture_of
    capture_of-limited = limited-made (bound_groups_in contents.variables b.assignments)
