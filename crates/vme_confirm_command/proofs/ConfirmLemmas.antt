-- How `confirm` ends: its answer and its exit status, by what it read and what it could write.
use Rattle.std.proofs.Common.{◌≡◌, ◌≤◌, ◌<◌, ◌↔◌, ℕ, suc, List, length, refl, ap, sym, subst, ◌∙◌, inl, inr, arith}
use Rattle.std.specs.Prelude.{Option, Some, Result, Ok, Err}
use Rattle.std.proofs.lemmas.Bool.{le-leb, lt-leb}
use Rattle.vcd_read.specs.Contents.{Contents}
use Rattle.vme_bind.specs.Binding.{BoundLines}
use Rattle.vme_trace.specs.Trace.{Trace}
use Rattle.vme_listing.specs.Listed.{Listed}
use Rattle.vme_listing.specs.Reading.{IsFirstFault, IsNoListing}
use Rattle.vme_listing.specs.declared.fault.ListFault.{ListFault}
use Rattle.vme_listing.specs.declared.fault.ListFault.TheVariants as list
use Rattle.vme_cert.specs.declared.compare.Answer.{Answer as Confirmation}
use Rattle.vme_cert.specs.declared.compare.Answer.TheVariants.{Yes, No}
use Rattle.vme_stream.specs.Answers.{CommandAnswer, AnswerGives, binding_read, dump_read}
use Rattle.vme_confirm_command.specs.Confirmations.{Confirms, GivesConfirmation, GivesRows, IsConfirmation, IsFound}
use Rattle.vme_confirm_command.specs.Confirmations.{IsListing}
use Rattle.vme_confirm_command.specs.Confirmations.{compared_settled, confirmation_answer_by}
use Rattle.vme_confirm_command.specs.Confirmations.{confirmation_status, listing_text, longest_listing}
use Rattle.vme_confirm_command.specs.Confirmations.{TellsConfirmation}
use Rattle.vme_stream.specs.Ends.{WritesAnswer, Ends}
use Rattle.vme_stream.specs.Inputs.{IsReadWhole}
use Rattle.vme_stream.specs.Refusals.{listing_refusal}
use Rattle.vme_stream.specs.declared.refusal.Input.TheVariants.{Listing}
use Rattle.vme_stream.specs.declared.refusal.Refusal.{Refusal}
use Rattle.vme_stream.specs.declared.refusal.Refusal.TheVariants.{Memory, TooLong}
use Rattle.vme_stream.proofs.EndLemmas.{eq-not_suc, IsReading-whole, refusal_status-small, Ends-unwritten}
use Rattle.vme_trace.specs.Streams.{Reading, Writing}

-- a refusal of the binding is the refusal of the confirmation
pub GivesConfirmation-no_binding : (skew : ℕ) (binding : Result BoundLines Refusal) (dump : Result Contents Refusal)
    (listing : Result Listed Refusal) (r : Refusal) → AnswerGives (λ (b : BoundLines). b) (Err r) binding
    → GivesConfirmation (Err r) (compared_settled skew binding dump listing)
GivesConfirmation-no_binding skew binding dump listing Memory is = tt
GivesConfirmation-no_binding skew binding dump listing r is = ap
    (λ (w : Result BoundLines Refusal). compared_settled skew w dump listing) is

-- a listing that isn't too long, and one that is
pub listing_text-fits : (text : List ℕ) → length text ≤ longest_listing → listing_text (Some text) ≡ Ok text
listing_text-fits text short = rw (le-leb (length text) longest_listing short) refl

-- a text that is too long is refused
pub listing_text-long : (text : List ℕ) → longest_listing < length text → listing_text (Some text)
    ≡ Err (TooLong Listing)
listing_text-long text long = rw (lt-leb (length text) longest_listing long) refl

-- a text that is no listing's has its first fault
pub GivesRows-fault : (text : List ℕ) (fault : ListFault) → IsFirstFault text fault → IsNoListing text fault
    → GivesRows (Ok text) (Err (listing_refusal fault))
GivesRows-fault text list.BadHeader first none = (list.BadHeader, refl, first, none)
GivesRows-fault text (list.BadRow row) first none = (list.BadRow row, refl, first, none)
GivesRows-fault text (list.Unsorted row) first none = (list.Unsorted row, refl, first, none)
GivesRows-fault text list.Memory first none = tt

-- the status of a confirmation is at most 4
confirmation_status-small : (found : Confirmation) → confirmation_status found ≤ 4
confirmation_status-small Yes = omega arith
confirmation_status-small (No row) = omega arith

-- the status of the answer is at most 4
confirmation_answer_by-small : (found : Result Confirmation Refusal) → (confirmation_answer_by found).status ≤ 4
confirmation_answer_by-small (Ok found) = confirmation_status-small found
confirmation_answer_by-small (Err r) = refusal_status-small r

-- the status is 5 exactly where a write to `out` failed
pub Confirms-unwritten : (skew : ℕ) (binding dump listing : Reading × Reading) (out err : Writing × Writing)
    (status : ℕ) → Confirms skew binding dump listing out err status
    → (status ≡ 5) ↔ (out.1.failures ≡ suc out.0.failures)
Confirms-unwritten skew binding dump listing out err status confirms =
    let (
      binding_bytes,
      dump_bytes,
      listing_bytes,
      given,
      found,
      binding_read,
      dump_read,
      listing_read,
      rows,
      answered,
      end,
    ) = confirms in
    Ends-unwritten confirmation_answer_by confirmation_answer_by-small found out err status end

-- ---- the exact answer

-- if memory suffices, what is given is found
IsFound-GivesConfirmation : (found : Result Confirmation Refusal) (said : Result (Listed × Trace) Refusal)
    → (found ≡ Err Memory → ⊥)
    → GivesConfirmation found said
    → IsFound found said
IsFound-GivesConfirmation (Ok answer) said memory given = given
IsFound-GivesConfirmation (Err Memory) said memory given = absurd (memory refl)
IsFound-GivesConfirmation (Err r) said memory given = given

-- where there is nothing to compare, the answer is the same refusal
IsFound-refused : (found : Result Confirmation Refusal) (r : Refusal) → IsFound found (Err r) → found ≡ Err r
IsFound-refused (Ok answer) r is = absurd (cc is.2)
IsFound-refused (Err q) r is =
    let same : r ≡ q = cc is in
    ap (λ (w : Refusal). Err w) (sym same)

-- if memory suffices, what is given of a text is its listing or its first fault
IsListing-GivesRows : (text : Result (List ℕ) Refusal) (given : Result Listed Refusal) → (given ≡ Err Memory → ⊥)
    → GivesRows text given → IsListing text given
IsListing-GivesRows text (Ok rows) memory is = is
IsListing-GivesRows text (Err Memory) memory is = absurd (memory refl)
IsListing-GivesRows text (Err r) memory is = is

-- if memory suffices, what is found by comparing is the answer to the inputs
IsConfirmation-compared : (skew : ℕ) (binding : Result BoundLines Refusal) (dump : Result Contents Refusal)
    (text : Result (List ℕ) Refusal) (given : Result Listed Refusal)
    (found : Result Confirmation Refusal) → (found ≡ Err Memory → ⊥) → GivesRows text given → GivesConfirmation found
    (compared_settled skew binding dump given)
    → IsConfirmation skew binding dump text found
IsConfirmation-compared skew (Err r) dump text given found memory rows is = IsFound-refused found r
    (IsFound-GivesConfirmation found (Err r) memory is)
IsConfirmation-compared skew (Ok bound) (Err r) text given found memory rows is = IsFound-refused found r
    (IsFound-GivesConfirmation found (Err r) memory is)
IsConfirmation-compared skew (Ok bound) (Ok contents) text given found memory rows is =
    let said : IsFound found (compared_settled skew (Ok bound) (Ok contents) given) = IsFound-GivesConfirmation found
    (compared_settled skew (Ok bound) (Ok contents) given) memory is in
    let none : (given ≡ Err Memory → ⊥) =
    λ lacks. memory
    (IsFound-refused found Memory
    (subst (λ (g : Result Listed Refusal). IsFound found (compared_settled skew (Ok bound) (Ok contents) g)) lacks
    said)) in
    (given, none, IsListing-GivesRows text given none rows, said)

-- if no write to `out` fails, the answer is written
WritesAnswer-Ends : (answer : CommandAnswer) (out err : Writing × Writing) (status : ℕ) → Ends answer out err status
    → out.1.failures ≡ out.0.failures → WritesAnswer answer out err status
WritesAnswer-Ends answer out err status (inl is_written) same = is_written
WritesAnswer-Ends answer out err status (inr failed) same =
    absurd
    (eq-not_suc out.1.failures out.0.failures same failed.out_is.1)

-- if the inputs are read whole, no write to `out` fails and memory suffices, exactly their answer is written
pub Confirms-exact : (skew : ℕ) (binding dump listing : Reading × Reading) (out err : Writing × Writing) (status : ℕ)
    → Confirms skew binding dump listing out err status
    → (b d l : List ℕ) → IsReadWhole binding.0 binding.1 b → IsReadWhole dump.0 dump.1 d
    → IsReadWhole listing.0 listing.1
    l
    → out.1.failures ≡ out.0.failures → (status ≡ 4 → ⊥)
    → TellsConfirmation skew b d l out err status
Confirms-exact skew binding dump listing out err status confirms b d l binding_whole dump_whole listing_whole same
    memory =
    let (
      binding_bytes,
      dump_bytes,
      listing_bytes,
      given,
      found,
      binding_reading,
      dump_reading,
      listing_reading,
      rows,
      answered,
      end,
    ) = confirms in
    let is_written : WritesAnswer (confirmation_answer_by found) out err status =
    WritesAnswer-Ends (confirmation_answer_by found) out err
    status end same in
    let none : (found ≡ Err Memory → ⊥) =
    λ lacks. memory (is_written.status_is ∙ ap (λ (f : Result Confirmation Refusal). (confirmation_answer_by f).status)
    lacks)
    in
    let is = IsConfirmation-compared skew (binding_read binding_bytes) (dump_read dump_bytes)
    (listing_text listing_bytes) given
    found none rows answered in
    let b_is : binding_bytes ≡ Some b = IsReading-whole binding.0 binding.1 binding_bytes b binding_reading
    binding_whole in
    let d_is : dump_bytes ≡ Some d = IsReading-whole dump.0 dump.1 dump_bytes d dump_reading dump_whole in
    let l_is : listing_bytes ≡ Some l = IsReading-whole listing.0 listing.1 listing_bytes l listing_reading
    listing_whole in
    let with_b = subst (λ (x : Option (List ℕ)). IsConfirmation skew (binding_read x) (dump_read dump_bytes)
    (listing_text listing_bytes) found) b_is is in
    let with_d = subst (λ (x : Option (List ℕ)). IsConfirmation skew (binding_read (Some b)) (dump_read x)
    (listing_text listing_bytes) found) d_is with_b in
    let with_l = subst (λ (x : Option (List ℕ)). IsConfirmation skew (binding_read (Some b)) (dump_read (Some d))
    (listing_text x) found) l_is with_d in
    (found, with_l, is_written)
