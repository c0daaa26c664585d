-- The answer by the rows that a listing has given is the answer to the whole listing, and so the confirmation.
use Rattle.std.proofs.Common.{◌≡◌, ℕ, List, [], ◌++◌, Option, Some, refl, sym, ap, subst, ◌∙◌}
use Rattle.std.specs.Prelude.{Result, Ok, Err}
use Rattle.vcd_read.specs.Contents.{Contents}
use Rattle.vcd_read.specs.Header.{◌>>=◌}
use Rattle.vme_trace.specs.Streams.{Reading}
use Rattle.vme_trace.specs.Trace.{Trace}
use Rattle.vme_bind.specs.Binding.{BoundLines}
use Rattle.vme_bind.specs.Capture.{capture_of}
use Rattle.vme_bind.specs.declared.fault.BindFault.{BindFault}
use Rattle.vme_listing.specs.Listed.{Listed}
use Rattle.vme_listing.specs.Reading.{listed}
use Rattle.vme_listing.specs.Recorded.{recorded_rows, rows_in}
use Rattle.vme_listing.specs.declared.row.Row.{Row}
use Rattle.vme_listing.specs.declared.row.Version.{Version}
use Rattle.vme_stream.specs.Inputs.{IsReading}
use Rattle.vme_cert.specs.Agreement.{DecidesListing}
use Rattle.vme_cert.specs.declared.compare.Answer.{Answer}
use Rattle.vme_cert.specs.declared.compare.Answer.TheVariants.{Yes, No}
use Rattle.vme_cert.specs.Comparing.{Decides}
use Rattle.vme_cert.proofs.Comparing.{DecidesListing-all}
use Rattle.vme_stream.specs.Answers.{dump_read, or_bad_binding}
use Rattle.vme_stream.specs.declared.refusal.Refusal.{Refusal}
use Rattle.vme_stream.specs.declared.refusal.Refusal.TheVariants.{BadBinding, Memory}
use Rattle.vme_skew.specs.Settled.{settled_or}
use Rattle.vme_confirm_command.specs.Confirmations.{GivesConfirmation, GivesRows, compared_settled}
use Rattle.vme_dump_input.specs.DumpBeginnings.{BeginsDump, IsDumpRefused, IsReadDump}
use Rattle.vme_confirm_command.specs.DumpChecks.{Compares, IsAnswerForDump}
use Rattle.vme_dump_input.specs.BufferedInputs.{InputSoFar}
use Rattle.vme_dump_input.specs.declared.definitions.DumpAfterDefinitions.{DumpAfterDefinitions}
use Rattle.vme_dump_input.specs.declared.definitions.DumpAfterDefinitions.TheVariants.{Body, Unusable}
use Rattle.vme_dump_input.proofs.BufferedLemmas.{IsReading-some}
use Rattle.vme_confirm_command.specs.FoundRows.{DecidesSoFar, IsAnswerByRows, IsAnswerTo, IsAnswerToListing}
use Rattle.vme_confirm_command.specs.RowsOfListing.{IsListingRead, rows_refusal}
use Rattle.vme_confirm_command.proofs.ConfirmLemmas.{listing_text-fits}
use Rattle.vme_confirm_command.specs.declared.rows_fault.RowsFault.{RowsFault}

-- ---- a listing that is read to its end

module _ (version : Version) (expected_rows : List Row) (given more : List Row) (over : Type 0)
    (ends : over → more ≡ []) where
  -- what the rows so far decide, they decide of the whole listing
  DecidesListing-so_far : (answer : Answer) → DecidesSoFar given expected_rows over answer
      → DecidesListing (given ++ more) expected_rows answer
  DecidesListing-so_far Yes h = DecidesListing-all {Source = Unit {0}} (λ _. over) given more expected_rows tt Yes h
      ends
  DecidesListing-so_far (No row) h = DecidesListing-all {Source = Unit {0}} (λ _. over) given more expected_rows tt
      (No row) h
      ends

-- a listing without a fault has the answer by its rows
pub IsAnswerToListing-whole : (old : Reading) (version : Version) (now : Reading) (given : List Row) (over : Type 0)
    (expected_rows : Result (List Row) BindFault) (found : Result Answer BindFault)
    → IsListingRead old version now given over (Ok tt)
    → IsAnswerByRows version expected_rows found given over → (result : Result Answer Refusal)
    → result ≡ or_bad_binding found → IsAnswerToListing old version now expected_rows result
IsAnswerToListing-whole old version now given over expected_rows found ends finds result is =
    let (text, more, reading, short, text_is, none) = ends in (
      Some text,
      Ok (listed version (given ++ more)),
      reading,
      subst (λ w. GivesRows w (Ok (listed version (given ++ more)))) (sym (listing_text-fits text short))
          (text_is.0, text_is.1),
      by_expected expected_rows found finds (more) none is,
    )
  where
    -- whether there are expected rows or not
    by_expected : (expected_rows : Result (List Row) BindFault) (found : Result Answer BindFault)
        → IsAnswerByRows version expected_rows found given over → (more : List Row) → (over → more ≡ [])
        → result ≡ or_bad_binding found
        → IsAnswerTo version expected_rows (Ok (listed version (given ++ more))) result
    by_expected (Ok expected) (Ok answer) finds more none is =
        (answer, is, refl, DecidesListing-so_far version expected given more over none answer finds)
    by_expected (Err reported) (Err fault) finds more none is =
        is ∙ ap (λ (f : BindFault). Err (BadBinding f)) (sym finds)
    by_expected (Ok expected) (Err fault) finds more none is = absurd finds
    by_expected (Err reported) (Ok answer) finds more none is = absurd finds

-- a listing with a fault is refused for it
pub IsAnswerToListing-faulty : (old : Reading) (version : Version) (now : Reading) (given : List Row) (over : Type 0)
    (expected_rows : Result (List Row) BindFault) (fault : RowsFault)
    → IsListingRead old version now given over (Err fault)
    → (result : Result Answer Refusal) → result ≡ Err (rows_refusal fault)
    → IsAnswerToListing old version now expected_rows result
IsAnswerToListing-faulty old version now given over expected_rows fault ends result is =
    let (bytes, reading, gives) = ends in
    (bytes, Err (rows_refusal fault), reading, gives, is)

-- ---- the answer

module _ (skew : ℕ) (binding : BoundLines) (contents : Contents) (dump : Option (List ℕ))
    (dump_is : dump_read dump ≡ Ok contents) where
  -- the listing `given` and the recording, or the first reason that one is missing
  compared_with : Result Listed Refusal → Result (Listed × Trace) Refusal
  compared_with given = compared_settled skew (Ok binding) (dump_read dump) given

  -- it is what the definition compares, with the binding and the contents of the dump
  compared_with-compared_settled : (given : Result Listed Refusal) → compared_with given
      ≡ compared_settled skew (Ok binding) (Ok contents) given
  unfolding compared_with
  compared_with-compared_settled given = ap (λ (w : Result Contents Refusal). compared_settled skew (Ok binding) w
      given) dump_is

  -- where there is nothing to compare, the refusal is the answer
  GivesConfirmation-refused : (refusal : Refusal) (w : Result (Listed × Trace) Refusal) → w ≡ Err refusal
      → GivesConfirmation (Err refusal) w
  GivesConfirmation-refused Memory w is = tt
  GivesConfirmation-refused refusal w is = is

  -- the listing `given`, and the recording, or its fault as a refusal
  abbrev with_given : Listed → Result Trace BindFault → Result (Listed × Trace) Refusal
  with_given given r = or_bad_binding r >>= λ t. Ok (given, t)

  -- the answer, if the binding makes a recording of the dump
  pub GivesConfirmation-recording : (version : Version) (t : Trace) → settled_or skew (capture_of binding contents)
      ≡ Ok t
      → (given : Result Listed Refusal) (found : Result Answer Refusal)
      → IsAnswerTo version (Ok (rows_in version (recorded_rows t))) given found
      → GivesConfirmation found (compared_settled skew (Ok binding) (dump_read dump) given)
  unfolding compared_with
  GivesConfirmation-recording version t is (Err refusal) found found_is =
      subst (λ f. GivesConfirmation f (compared_with (Err refusal))) (sym found_is)
      (GivesConfirmation-refused refusal (compared_with (Err refusal)) (compared_with-compared_settled (Err refusal)))
  GivesConfirmation-recording version t is (Ok given) found found_is =
      let (answer, same, version_is, decides) = found_is in
      subst (λ f. GivesConfirmation f (compared_with (Ok given))) (sym same) (
        given,
        t,
        compared_with-compared_settled (Ok given) ∙ ap (with_given given) is,
        subst (λ (v : Version). DecidesListing given.rows (rows_in v (recorded_rows t)) answer) (sym version_is)
            decides,
      )

  -- the answer, if the binding makes no recording of the dump
  pub GivesConfirmation-no_recording : (version : Version) (fault : BindFault) → capture_of binding contents ≡ Err fault
      → (given : Result Listed Refusal) (found : Result Answer Refusal)
      → IsAnswerTo version (Err fault) given found
      → GivesConfirmation found (compared_settled skew (Ok binding) (dump_read dump) given)
  unfolding compared_with
  GivesConfirmation-no_recording version fault is (Err refusal) found found_is =
      subst (λ f. GivesConfirmation f (compared_with (Err refusal))) (sym found_is)
      (GivesConfirmation-refused refusal (compared_with (Err refusal)) (compared_with-compared_settled (Err refusal)))
  GivesConfirmation-no_recording version fault is (Ok given) found found_is =
      subst (λ f. GivesConfirmation f (compared_with (Ok given))) (sym found_is)
      (GivesConfirmation-refused (BadBinding fault) (compared_with (Ok given))
      (compared_with-compared_settled (Ok given) ∙ ap (λ (r : Result Trace BindFault). with_given given
      (settled_or skew r)) is))

-- the answer, if there is no dump
pub GivesConfirmation-no_dump : (skew : ℕ) (binding : BoundLines) (old now : Reading) (refusal : Refusal)
    → IsDumpRefused old now refusal
    → (dump : Option (List ℕ)) × IsReading old now dump
    × GivesConfirmation (Err refusal) (compared_settled skew (Ok binding) (dump_read dump) (Err Memory))
GivesConfirmation-no_dump skew binding old now Memory is = (is.0, is.1, tt)
GivesConfirmation-no_dump skew binding old now refusal is = (
  is.0,
  is.1,
  ap (λ (w : Result Contents Refusal). compared_settled skew (Ok binding) w (Err Memory)) is.2,
)

-- ---- what is found of a recording, or of none

-- what is decided of the rows that a source has given is decided so far
DecidesSoFar-Decides : {Source : Type 0} (is_over : Source → Type 0) (given expected_rows : List Row) (source : Source)
    (answer : Answer)
    → Decides is_over given expected_rows source answer → DecidesSoFar given expected_rows (is_over source) answer
DecidesSoFar-Decides is_over given expected_rows source Yes h = h
DecidesSoFar-Decides is_over given expected_rows source (No row) h = h

module _ {Whole Source : Type 0} (whole : Whole) (source : Source) (gave : Whole → Source → List Row → Type 0)
    (is_over : Source → Type 0) (version : Version) (binding : BoundLines) (skew : ℕ) (old now : Reading)
    (r : Result (Result Answer BindFault) Refusal) (compares : Compares gave is_over whole version binding skew old now
    r
    source) where
  -- if an answer is found, a dump is read, and it is the answer for it
  pub Compares-found : (found : Result Answer BindFault) → r ≡ Ok found
      → (contents : Contents) × IsReadDump old now contents
      × IsAnswerForDump gave is_over whole version binding skew contents found source
  Compares-found found is =
      subst (λ (w : Result (Result Answer BindFault) Refusal). Compares gave is_over whole version binding skew old now
      w
      source) is compares

  -- if the dump is refused, some rows were given
  pub Compares-refused : (refusal : Refusal) → r ≡ Err refusal
      → IsDumpRefused old now refusal × ((rows : List Row) × gave whole source rows)
  Compares-refused refusal is =
      subst (λ (w : Result (Result Answer BindFault) Refusal). Compares gave is_over whole version binding skew old now
      w
      source) is compares

module _ {Whole Source : Type 0} (whole : Whole) (source : Source) (gave : Whole → Source → List Row → Type 0)
    (is_over : Source → Type 0) (version : Version) (binding : BoundLines) (skew : ℕ) (contents : Contents)
    (dump : Option (List ℕ)) (dump_is : dump_read dump ≡ Ok contents) where
  -- the answer for a dump is one by the rows that were given, and with the listing it makes the confirmation
  pub IsAnswerByRows-for_dump : (found : Result Answer BindFault)
      → IsAnswerForDump gave is_over whole version binding skew contents found source
      → (expected_rows : Result (List Row) BindFault) × (given : List Row) × gave whole source given
      × IsAnswerByRows version expected_rows found given (is_over source)
      × ((listing : Result Listed Refusal) (result : Result Answer Refusal)
      → IsAnswerTo version expected_rows listing result
      → GivesConfirmation result (compared_settled skew (Ok binding) (dump_read dump) listing))
  IsAnswerByRows-for_dump (Ok answer) finds =
      let (t, is, rest) = finds in
      let (more, gives, decides) = rest in (
        Ok (rows_in version (recorded_rows t)),
        more,
        gives,
        DecidesSoFar-Decides is_over more (rows_in version (recorded_rows t)) source answer decides,
        GivesConfirmation-recording skew binding contents dump dump_is version t is,
      )
  IsAnswerByRows-for_dump (Err fault) finds =
      let (rows, gives) = finds.1 in (
        Err fault,
        rows,
        gives,
        refl,
        GivesConfirmation-no_recording skew binding contents dump dump_is version fault
            finds.0,
      )

-- some reading of the dump leads to `now`
pub IsReading-begun : (binding : BoundLines) (old now : Reading) (input : InputSoFar) (begun : DumpAfterDefinitions)
    → BeginsDump binding old now input (Ok begun) → (bytes : Option (List ℕ)) × IsReading old now bytes
IsReading-begun binding old now input (Body r count) at = IsReading-some old now [] input at.read
IsReading-begun binding old now input (Unusable fault) is =
    let (contents, dump, fault_is) = is in
    (Some dump.text, dump.reading)
