-- The rows of a listing are read from the bytes that are held of it, and stay so when more bytes are held.
use Rattle.std.proofs.Common.{◌≡◌, ℕ, ◌+◌, ◌^◌, ◌≤◌, ◌<◌, Bool, true, false, List, [], ◌∷◌, ◌++◌, length, take, drop}
use Rattle.std.proofs.Common.{Option, None, Some, refl, sym, ap, subst, ◌∙◌, arith, append_assoc, append-nil}
use Rattle.std.proofs.Common.{length-append}
use Rattle.std.proofs.Common.{length-drop}
use Rattle.std.specs.Prelude.{Ok, Err, is_none}
use Rattle.vme_trace.specs.Streams.{Reading}
use Rattle.vme_listing.specs.Reading.{HasRead, IsFaultOfText, IsFollowedBy, IsTextOfListing}
use Rattle.vme_listing.specs.Reading.{RowsSoFar, behind_rows, listed}
use Rattle.vme_listing.specs.declared.fault.ListFault.{ListFault}
use Rattle.vme_listing.specs.declared.row.Row.{Row}
use Rattle.vme_listing.specs.declared.row.Version.{Version}
use Rattle.vme_stream.specs.Inputs.{IsReading}
use Rattle.vme_stream.specs.declared.input.InFault.{InFault}
use Rattle.vme_stream.specs.declared.input.InFault.TheVariants as failed
use Rattle.vme_stream.specs.Refusals.{listing_refusal}
use Rattle.vme_stream.specs.declared.refusal.Input.TheVariants.{Listing}
use Rattle.vme_stream.specs.declared.refusal.Refusal.TheVariants.{TooLong}
use Rattle.vme_confirm_command.specs.Confirmations.{GivesRows, listing_text, longest_listing}
use Rattle.vme_dump_input.specs.BufferedInputs.{FailsAs, InputSoFar, IsReadTo}
use Rattle.vme_confirm_command.specs.RowsOfListing.{AreCounted, ListingGaveRows, IsSomeReading, rows_refusal}
use Rattle.vme_confirm_command.specs.declared.rows_fault.RowsFault.{RowsFault}
use Rattle.vme_confirm_command.specs.declared.rows_fault.RowsFault.TheVariants.{Input, Text}
use Rattle.vme_confirm_command.proofs.ConfirmLemmas.{GivesRows-fault, listing_text-fits, listing_text-long}
use Rattle.vme_confirm_command.specs.RowsOfListing.{AreRead, HasReadRows, IsCounted, HoldsMore, IsWholeText}
use Rattle.vme_dump_input.proofs.BufferedLemmas.{IsReading-some, append-taken, IsReadTo-taken}

-- ---- more bytes are held

-- an input holds its own bytes, and none more
pub HoldsMore-none : (input : InputSoFar) → HoldsMore input input
HoldsMore-none input = record {
  more = [];
  held = sym (append-nil input.held);
  none = λ whole. (refl, whole);
  limit = refl;
}

-- an input that hasn't ended may hold more bytes yet
pub HoldsMore-more : (first now later : InputSoFar) (more : List ℕ) → HoldsMore first now → later.held ≡ now.held
    ++ more
    → later.limit ≡ now.limit → now.is_whole ≡ false → HoldsMore first later
HoldsMore-more first now later more filled held limit going = record {
  more = filled.more ++ more;
  held = held ∙ ap (λ l. l ++ more) filled.held ∙ append_assoc first.held filled.more more;
  none = λ whole. let ended = (filled.none whole).1 in absurd (cc);
  limit = limit ∙ filled.limit;
}

-- what may follow the bytes of `new` may follow those of `old`, after the bytes that were added
followed_by-more : (old new : InputSoFar) (filled : HoldsMore old new) (future : List ℕ)
    → IsFollowedBy new.is_whole future
    → IsFollowedBy old.is_whole (filled.more ++ future)
followed_by-more old new filled future ends whole =
    let none = filled.none whole in
    ap (λ l. l ++ future) none.0 ∙ ends none.1

-- the bytes of `old`, those that were added, and the future ones are those of `new` and the future ones
held-append : (old new : InputSoFar) (filled : HoldsMore old new) (future : List ℕ)
    → old.held ++ (filled.more ++ future) ≡ new.held ++ future
held-append old new filled future =
    sym (append_assoc old.held filled.more future) ∙ ap (λ l. l ++ future) (sym filled.held)

-- rows that were read stay so when more bytes are held
pub HasReadRows-filled : (done : List ℕ) (old new : InputSoFar) (so_far : RowsSoFar) (rows : List Row)
    → HoldsMore old new
    → HasReadRows done old so_far rows → HasReadRows done new so_far rows
HasReadRows-filled done old new so_far rows filled has future ends =
    subst (λ l. HasRead (done ++ l) rows (behind_rows so_far l)) (held-append old new filled future)
    (has (filled.more ++ future) (followed_by-more old new filled future ends))

-- ---- some of the held bytes are taken

module _ (old now : Reading) (done : List ℕ) (input : InputSoFar) (h : IsReadTo old now done input) (n : ℕ)
    (within : n ≤ length input.held) (so_far : RowsSoFar) (rows : List Row) where
  -- the rows in the bytes that are taken are read
  pub AreRead-taken : ((future : List ℕ) → IsFollowedBy input.is_whole future
      → HasRead (done ++ (input.held ++ future)) rows (behind_rows so_far (drop n input.held ++ future)))
      → AreRead old now (record input { held = drop n input.held }) (Ok so_far) rows
  AreRead-taken has = (
    done ++ take n input.held,
    IsReadTo-taken old now done input h n within,
    λ future ends. subst (λ l. HasRead l rows (behind_rows so_far (drop n input.held ++ future)))
        (sym (append-taken done input.held n future)) (has future ends),
  )

-- without rows, the count is right
pub IsCounted-first : (so_far : RowsSoFar) (input : InputSoFar) (n : ℕ) → so_far.count ≡ 0 → input.read < 2 ^ 62
    → length input.held ≤ input.read → IsCounted so_far (record input { held = drop n input.held })
IsCounted-first so_far input n none small within = (omega (arith, none, within, length-drop n input.held), small)

-- ---- the end of a listing

-- no text is the same with one more byte
append-longer : (text : List ℕ) (byte : ℕ) → text ≡ text ++ byte ∷ [] → ⊥
append-longer text byte e = omega (arith, ap length e, length-append text (byte ∷ []))

-- if the text is that of a whole listing whatever follows, the input has ended
pub is_whole-whole_text : (done : List ℕ) (input : InputSoFar) (version : Version) (rows : List Row)
    → IsWholeText done input version rows → input.is_whole ≡ true
is_whole-whole_text done input version rows whole = by_flag input.is_whole refl
  where
    -- whether the input has ended or not
    by_flag : (flag : Bool) → input.is_whole ≡ flag → input.is_whole ≡ true
    by_flag true e = e
    by_flag false e =
        let none = whole [] (λ ends. refl) in
        let one = whole (0 ∷ []) (λ ends. absurd (cc)) in
        absurd (append-longer (done ++ (input.held ++ [])) 0
        (sym none.1 ∙ (one.1 ∙ (ap (λ l. done ++ (l ++ 0 ∷ [])) (sym (append-nil input.held))
        ∙ sym (append_assoc done (input.held ++ []) (0 ∷ []))))))

-- the bytes that were taken, and those that are held, are then the text of the listing
pub IsTextOfListing-whole : (done : List ℕ) (input : InputSoFar) (version : Version) (rows : List Row)
    → IsWholeText done input version rows → IsTextOfListing (done ++ input.held) (listed version rows)
IsTextOfListing-whole done input version rows whole =
    subst (λ l. IsTextOfListing (done ++ l) (listed version rows)) (append-nil input.held) (whole [] (λ ends. refl))

-- ---- the rows of a listing

-- while rows are read there is no fault
pub AreCounted-no_fault : (so_far : RowsSoFar) (fault : Option RowsFault) (input : InputSoFar)
    → AreCounted (Some so_far) fault input → fault ≡ None
AreCounted-no_fault so_far fault input counted = by_fault fault (counted so_far refl).0
  where
    -- whether there is a fault or not
    by_fault : (f : Option RowsFault) → is_none f ≡ true → f ≡ None
    by_fault None e = refl
    by_fault (Some own) e = absurd (cc)

-- while rows are read they are counted
pub IsCounted-AreCounted : (so_far : RowsSoFar) (fault : Option RowsFault) (input : InputSoFar)
    → AreCounted (Some so_far) fault input → IsCounted so_far input
IsCounted-AreCounted so_far fault input counted = (counted so_far refl).1

-- where no rows are read, nothing is asked of the count
pub AreCounted-none : (fault : Option RowsFault) (input : InputSoFar) → AreCounted None fault input
AreCounted-none fault input x is = absurd (cc)

-- what was read of a source is some reading of it
pub IsSomeReading-rows : (old : Reading) (version : Version) (now : Reading) (input : InputSoFar)
    (reader : Option RowsSoFar)
    (fault : Option RowsFault) (rows : List Row) → ListingGaveRows old version now input reader fault rows
    → IsSomeReading old now
IsSomeReading-rows old version now input reader (Some (Text fault)) rows gave =
    let (done, read, has) = gave.1 in
    IsReading-some old now done input read
IsSomeReading-rows old version now input reader (Some (Input fault)) rows gave = fails-some fault gave.1
  where
    -- a fault of the input comes of some reading
    fails-some : (fault : InFault) → FailsAs longest_listing old now fault → IsSomeReading old now
    fails-some failed.Read fails = (None, fails)
    fails-some failed.TooLong fails = (Some fails.0, fails.2)
    fails-some failed.Memory fails = fails
IsSomeReading-rows old version now input (Some so_far) None rows gave =
    let (done, read, has) = gave.2 in
    IsReading-some old now done input read
IsSomeReading-rows old version now input None None rows gave = absurd gave

-- ---- the end

-- the text of a listing with a fault is refused for this fault
pub GivesRows-text_fault : (text : List ℕ) (fault : ListFault) → length text ≤ longest_listing
    → IsFaultOfText text fault
    → GivesRows (listing_text (Some text)) (Err (rows_refusal (Text fault)))
GivesRows-text_fault text fault short is =
    subst (λ w. GivesRows w (Err (listing_refusal fault))) (sym (listing_text-fits text short))
    (GivesRows-fault text fault is.0 is.1)

-- a listing that can't be read, or is too long, is refused for that
pub GivesRows-input_fault : (old now : Reading) (fault : InFault) → FailsAs longest_listing old now fault
    → (bytes : Option (List ℕ)) × IsReading old now bytes
    × GivesRows (listing_text bytes) (Err (rows_refusal (Input fault)))
GivesRows-input_fault old now failed.Read fails = (None, fails, refl)
GivesRows-input_fault old now failed.TooLong fails = (
  Some fails.0,
  fails.2,
  subst (λ w. GivesRows w (Err (TooLong Listing))) (sym (listing_text-long fails.0 fails.1)) refl,
)
GivesRows-input_fault old now failed.Memory fails = (fails.0, fails.1, tt)
