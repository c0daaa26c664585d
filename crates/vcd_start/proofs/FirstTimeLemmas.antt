-- The fold over the body of a dump gives the first time of the dump, or has the fault of the dump.
use Rattle.std.proofs.Common.{◌≡◌, ℕ, false, List, [], ◌∷◌, ◌++◌, Option, None, Result, Ok, Err, refl, sym, ap}
use Rattle.std.proofs.Common.{subst, ◌∙◌}
use Rattle.vcd_read.specs.declared.dump.Instant.{Instant}
use Rattle.vcd_read.specs.declared.dump.Variable.{Variable}
use Rattle.vcd_read.specs.declared.fault.FaultKind.{FaultKind}
use Rattle.vcd_read.specs.declared.fault.FaultKind.TheVariants.{Memory}
use Rattle.vcd_read.specs.declared.fault.VcdFault.{VcdFault}
use Rattle.vcd_read.specs.Body.{ready}
use Rattle.vcd_read.specs.Contents.{Contents}
use Rattle.vcd_read.specs.DumpProgress.{values_from}
use Rattle.vcd_read.specs.Fronts.{going_on}
use Rattle.vcd_read.specs.Header.{◌>>=◌, Net, nothing_declared}
use Rattle.vcd_read.specs.Meaning.{ReadFails, ReadFailsAs, dump_of, instants_from}
use Rattle.vcd_read.specs.Reached.{Reached, outcome_of, rest_of}
use Rattle.vcd_read.specs.Sections.{Defined, Headed, defined, header_of}
use Rattle.vcd_read.specs.BodyFold.{State, at_end, fold_body}
use Rattle.vcd_read.specs.Tokens.{Token, tokens}
use Rattle.vcd_read.proofs.DefinedLemmas.{HasHeader-visited, dump_of-visited_fails, header_of-taken_head, taken_head}
use Rattle.vcd_read.proofs.DumpLemmas.{contents_of_header, dump_of-whole_header, dump_of-header, whole_header}
use Rattle.vcd_read.proofs.DumpLemmas.{with_variables}
use Rattle.vcd_read.proofs.CurrentValues.{CurrentValues}
use Rattle.vcd_read.proofs.BodyFoldLemmas.{Ends, Follows, ReadFails-followed, Follows-fold_body}
use Rattle.vcd_read.proofs.ReadLemmas.{ReadFailsAs-then}
use Rattle.vcd_start.specs.FirstTimes.{first_time_of, first_time_of_dump}
use Rattle.vcd_start.specs.FirstTimeReading.{LeadsToFirstTime, first_time_kept, first_time_or}

-- ---- the first time of instants

-- with one more instant, the first time is as before, or that of this instant if it is the first
first_time_of-push : (done : List Instant) (i : Instant)
    → first_time_of (done ++ i ∷ []) ≡ first_time_or (first_time_of done) i.time
first_time_of-push [] i = refl
first_time_of-push (x ∷ xs) i = refl

-- the first time that is known is that of the instants
abbrev HasFirst : List Instant → CurrentValues → Option ℕ → Type 0
HasFirst done current first_time = first_time ≡ first_time_of done

-- the fold over a body follows its instants with their first time
Follows-first_time : (nets : List Net) (body : List Token)
    → Follows (Ends HasFirst) (instants_from nets body) (fold_body first_time_kept first_time_or nets None body)
Follows-first_time nets body =
    Follows-fold_body first_time_kept first_time_or nets HasFirst (λ done current a net bits within h. h)
    (λ done current a time h. ap (λ (s : Option ℕ). first_time_or s time) h
    ∙ sym (first_time_of-push done (record { time = time; values = values_from 0 current })))
    body None refl

-- where instants are read, a fold that follows them gives their first time
first_time-followed : (r : Result (List Instant) VcdFault) (taken : Result (Option ℕ) VcdFault)
    (instants : List Instant)
    → r ≡ Ok instants → Follows (Ends HasFirst) r taken → taken ≡ Ok (first_time_of instants)
first_time-followed (Ok read_result) taken instants is f =
    let same : read_result ≡ instants = cc in
    f.1 ∙ ap (λ (s : Option ℕ). Ok s) (f.2.1 ∙ ap first_time_of same)
first_time-followed (Err fault) taken instants is f = absurd (cc)

-- ---- the header

-- a visitor that takes nothing of the variables
abbrev without_variables : Unit {0} → Variable → Unit {0}
without_variables taken variable = taken

module _ (text : List ℕ) (ts : List Token) (same : tokens text ≡ ts) where
  -- the header of the tokens of the text is that of `ts`
  header_of-tokens : header_of without_variables text (nothing_declared tt) (tokens text)
      ≡ header_of without_variables text (nothing_declared tt) ts
  header_of-tokens = ap (λ (l : List Token). header_of without_variables text (nothing_declared tt) l) same

  module _ (h : Headed) where
    -- a dump whose instants are read has these instants
    instants-of_dump : (variables : List Variable) (dump : Contents) (r : Result (List Instant) VcdFault)
        → (r >>= with_variables variables) ≡ Ok dump → r ≡ Ok dump.instants
    instants-of_dump variables dump (Ok instants) e =
        let whole : record { variables = variables; instants = instants } ≡ dump = cc in
        ap (λ (d : Contents). Ok d.instants) whole
    instants-of_dump variables dump (Err fault) e = absurd (cc)

    -- the fold over the body gives the first time of the dump
    pub fold_body-first_time_of_dump : header_of without_variables text (nothing_declared tt) ts ≡ Ok (defined h tt)
        → (dump : Contents)
        → dump_of text ≡ Ok dump
        → fold_body first_time_kept first_time_or h.nets None h.body ≡ Ok (first_time_of_dump dump)
    fold_body-first_time_of_dump is dump whole =
        let (variables, found, taken) = HasHeader-visited without_variables text h tt tt (header_of-tokens ∙ is) in
        let by_header = dump_of-whole_header text (defined h variables) found in
        first_time-followed (instants_from h.nets h.body) (fold_body first_time_kept first_time_or h.nets None h.body)
        dump.instants
        (instants-of_dump variables dump (instants_from h.nets h.body) (sym by_header ∙ whole))
        (Follows-first_time h.nets h.body)

    -- a fault of the fold over the body is a fault of the dump
    pub ReadFails-body : header_of without_variables text (nothing_declared tt) ts ≡ Ok (defined h tt)
        → (fault : VcdFault)
        → ReadFails fault (fold_body first_time_kept first_time_or h.nets None h.body) → ReadFails fault (dump_of text)
    ReadFails-body is fault fails =
        let (variables, found, taken) = HasHeader-visited without_variables text h tt tt (header_of-tokens ∙ is) in
        subst (ReadFailsAs fault.line fault.kind) (sym (dump_of-whole_header text (defined h variables) found))
        (ReadFailsAs-then fault.line fault.kind (instants_from h.nets h.body) (with_variables variables)
        (ReadFails-followed (Ends HasFirst) (instants_from h.nets h.body)
        (fold_body first_time_kept first_time_or h.nets None h.body) fault (Follows-first_time h.nets h.body) fails))

  -- a fault of the header is a fault of the dump
  pub ReadFails-header : (fault : VcdFault) → ReadFails fault (header_of without_variables text (nothing_declared tt)
      ts)
      → ReadFails fault (dump_of text)
  ReadFails-header fault fails =
      dump_of-visited_fails without_variables fault text tt
      (subst (ReadFailsAs fault.line fault.kind) (sym header_of-tokens) fails)

  -- a header that fails without its variables makes no dump
  header-not_faulty : (fault : VcdFault) (dump : Contents) (w : Result (Defined (List Variable)) VcdFault)
      → (w >>= λ (d : Defined (List Variable)). Ok (taken_head without_variables tt d)) ≡ Err fault
      → (w >>= contents_of_header) ≡ Ok dump → ⊥
  header-not_faulty fault dump (Ok d) fails whole = absurd (cc)
  header-not_faulty fault dump (Err read_result) fails whole = absurd (cc)

  -- a text whose header has a fault is no dump
  pub dump_of-faulty_header : (fault : VcdFault) → header_of without_variables text (nothing_declared tt) ts ≡ Err fault
      → (dump : Contents)
      → dump_of text ≡ Ok dump → ⊥
  dump_of-faulty_header fault fails dump whole =
      header-not_faulty fault dump (whole_header text)
      (sym (header_of-taken_head without_variables text tt) ∙ header_of-tokens ∙ fails)
      (sym (dump_of-header text) ∙ whole)

-- ---- the body

-- nothing of the body is read: `r` is at its start
module _ (r : Reached (Option ℕ)) (head : Headed) (nets : r.nets ≡ head.nets)
    (progress : r.progress ≡ record { accumulator = None; time = 0; has_instant = false })
    (dump_section : r.dump_section ≡ None) (place : r.place ≡ ready) where
  -- to read the body and `more` from its start on is the fold over both
  rest_of-unread : (more : List Token) → (rest_of first_time_kept first_time_or r head.body more >>= at_end
      first_time_or)
      ≡ fold_body first_time_kept first_time_or head.nets None (head.body ++ more)
  rest_of-unread more = rw (nets, progress, dump_section, place) refl

  module _ (text : List ℕ) (ts more : List Token) (same : tokens text ≡ ts ++ more)
      (is : header_of without_variables text (nothing_declared tt) (ts ++ more) ≡ Ok (defined (going_on head more) tt))
    where
      -- if reading `head.body` leads from `r` to `next`, reading on from `next` gives the first time of the dump
      pub LeadsToFirstTime-read : (next : Reached (Option ℕ)) → rest_of first_time_kept first_time_or r head.body more
          ≡ rest_of first_time_kept first_time_or next [] more
          → (dump : Contents) → dump_of text ≡ Ok dump → LeadsToFirstTime next more dump
      LeadsToFirstTime-read next goes dump whole =
          ap (λ (w : Result (State (Option ℕ)) VcdFault). w >>= at_end first_time_or) (sym goes) ∙ rest_of-unread more
          ∙ fold_body-first_time_of_dump text (ts ++ more) same (going_on head more) is dump whole

      -- a fault in reading `head.body` and `more` from `r` on is a fault of the dump
      pub ReadFails-rest : (fault : VcdFault) → ReadFails fault (rest_of first_time_kept first_time_or r head.body more)
          → ReadFails fault (dump_of text)
      ReadFails-rest fault fails =
          ReadFails-body text (ts ++ more) same (going_on head more) is fault
          (subst (ReadFailsAs fault.line fault.kind) (rest_of-unread more)
          (ReadFailsAs-then fault.line fault.kind (rest_of first_time_kept first_time_or r head.body more)
          (at_end first_time_or) fails))

-- ---- a fault

-- a reading that fails otherwise than by want of memory has no result
pub ReadFailsAs-no_result : {Y : Type 0} (read : Result Y VcdFault) (line : ℕ) (kind : FaultKind) → (kind ≡ Memory → ⊥)
    → ReadFailsAs line kind read → (y : Y) → read ≡ Ok y → ⊥
ReadFailsAs-no_result read line Memory other fails y is = other refl
ReadFailsAs-no_result read line kind other fails y is = absurd (cc)

-- ---- the end

-- at the end of the body, the outcome is the first time of the dump
pub first_time_of_dump-outcome : (r : Reached (Option ℕ)) (time : Option ℕ) (dump : Contents)
    → outcome_of first_time_kept first_time_or r ≡ Ok time
    → LeadsToFirstTime r [] dump → first_time_of_dump dump ≡ time
first_time_of_dump-outcome r time dump gives comes =
    let same : ◌≡◌ {A = Result (Option ℕ) VcdFault} (Ok (first_time_of_dump dump)) (Ok time) = sym comes ∙ gives in cc
