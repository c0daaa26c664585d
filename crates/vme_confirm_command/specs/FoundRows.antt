-- The answer by the rows that a listing has given, and that to the listing once it is read to its end.
use Rattle.std.specs.Prelude.{◌≡◌, ℕ, ◌≤◌, ◌⊎◌, List, length, Option, Result, Ok, Err}
use Rattle.vme_trace.specs.Streams.{Reading}
use Rattle.vme_bind.specs.declared.fault.BindFault.{BindFault}
use Rattle.vme_listing.specs.Listed.{Listed}
use Rattle.vme_listing.specs.declared.row.Row.{Row}
use Rattle.vme_listing.specs.declared.row.Version.{Version}
use Rattle.vme_stream.specs.Inputs.{IsReading}
use Rattle.vme_cert.specs.Agreement.{DecidesListing, DiffersAt}
use Rattle.vme_cert.specs.declared.compare.Answer.{Answer}
use Rattle.vme_cert.specs.declared.compare.Answer.TheVariants.{Yes, No}
use Rattle.vme_stream.specs.declared.refusal.Refusal.{Refusal}
use Rattle.vme_stream.specs.declared.refusal.Refusal.TheVariants.{BadBinding}
use Rattle.vme_confirm_command.specs.Confirmations.{GivesRows, listing_text}

-- the answer by the rows `given`, which holds whatever rows follow them; `over` says that none do
abbrev pub DecidesSoFar : List Row → List Row → Type 0 → Answer → Type 0
DecidesSoFar given expected_rows over Yes = (given ≡ expected_rows) × over
DecidesSoFar given expected_rows over (No row) = DiffersAt given expected_rows row × ((row ≤ length given) ⊎ over)

-- by the rows that were given, the answer for the expected rows, or the fault for which there are no expected rows
abbrev pub IsAnswerByRows : Version → Result (List Row) BindFault → Result Answer BindFault → List Row → Type 0 → Type 0
IsAnswerByRows version (Ok expected_rows) (Ok answer) given over = DecidesSoFar given expected_rows over answer
IsAnswerByRows version (Err own) (Err fault) given over = own ≡ fault
IsAnswerByRows version (Ok expected_rows) (Err fault) given over = ⊥
IsAnswerByRows version (Err own) (Ok answer) given over = ⊥

-- `found` is the answer to the listing; or the reason that there is none, or the fault for which there are no expected
-- rows
abbrev pub IsAnswerTo : Version → Result (List Row) BindFault → Result Listed Refusal → Result Answer Refusal → Type 0
IsAnswerTo version expected_rows (Err refusal) found = found ≡ Err refusal
IsAnswerTo version (Err fault) (Ok given) found = found ≡ Err (BadBinding fault)
IsAnswerTo version (Ok expected_rows) (Ok given) found =
    (answer : Answer) × (found ≡ Ok answer) × (given.version ≡ version) × DecidesListing given.rows expected_rows answer

-- a listing was read to its end, and `found` is the answer to it, or why there is no answer
abbrev pub IsAnswerToListing : Reading → Version → Reading → Result (List Row) BindFault → Result Answer Refusal
    → Type 0
IsAnswerToListing old version now expected_rows found =
    (bytes : Option (List ℕ)) × (given : Result Listed Refusal) × IsReading old now bytes
    × GivesRows (listing_text bytes) given × IsAnswerTo version expected_rows given found
