-- How `list` ends: with the status of the verdict, and what is written is the text of the listing or a first part of
-- it.
use Rattle.std.proofs.Common.{◌≡◌, ◌≤◌, ◌↔◌, ℕ, suc, Bool, true, false, List, [], ◌∷◌, ◌++◌, take, refl}
use Rattle.std.proofs.Common.{ap, subst, ◌∙◌}
use Rattle.std.specs.Io.KnownBytes.{Appends}
use Rattle.std.specs.Prelude.{Option, Some, None, Result, Ok, Err, flat_map, if◌then◌else◌}
use Rattle.std.specs.List.{last_or}
use Rattle.vme_trace.specs.Judged.{Stretch, judged_stretches}
use Rattle.vme_trace.specs.Trace.{Trace}
use Rattle.vme_trace.specs.Rules.{all_rules, is_unreadable}
use Rattle.vme_trace.specs.Verdict.{rules_in_force, least_of, judge, verdict_by, verdict_on}
use Rattle.vme_trace.specs.declared.verdict.Break.{Break}
use Rattle.vme_trace.specs.declared.verdict.Verdict.TheVariants as verdict
use Rattle.vme_listing.specs.Listed.{Listed}
use Rattle.vme_listing.specs.RowText.{text_of}
use Rattle.vme_listing.specs.Recorded.{listing_by, listing_of, listing_of_stretches, listed_end, outcome_of}
use Rattle.vme_listing.specs.Recorded.{rows_of_stretch}
use Rattle.vme_listing.specs.declared.row.ListedVerdict.TheVariants as outcome
use Rattle.vme_listing.specs.declared.row.Row.{Row}
use Rattle.vme_listing.specs.declared.row.Row.TheVariants.{Verdict}
use Rattle.vme_stream.specs.declared.refusal.Refusal.{Refusal}
use Rattle.vme_stream.specs.Answers.{AnswerGives}
use Rattle.vme_stream.specs.Ends.{WritesAnswer}
use Rattle.vme_stream.specs.Texts.{verdict_status}
use Rattle.vme_stream.proofs.EndLemmas.{AnswersInputs-exact, AnswersInputs-unwritten, answer-AnswerGives}
use Rattle.vme_stream.proofs.EndLemmas.{refusal_status-small}
use Rattle.vme_stream.proofs.EndLemmas.{verdict_status-small}
use Rattle.vme_listing.specs.Written.{AppendsFront}
use Rattle.vme_stream.specs.Inputs.{IsReadWhole}
use Rattle.vme_trace.specs.Streams.{Reading, Writing}
use Rattle.vme_stream.proofs.OutputLemmas.{AppendsFront-take}
use Rattle.vme_commands.specs.Listings.{WritesListing, listing_answer_by, listing_answer_of}
use Rattle.vme_stream.specs.ListingStatus.{listing_status, rows_status, status_of_last, verdict_row_status}
use Rattle.vme_commands.specs.Settled.{settled_recording}

-- ---- the status

-- the last of some rows and one more is the one more
last_or-append : (o : Option Row) (rows : List Row) (row : Row) → last_or o (rows ++ row ∷ []) ≡ Some row
last_or-append o [] row = refl
last_or-append o (r ∷ rows) row = last_or-append (Some r) rows row

-- the status of the row for a break is that of its verdict
verdict_row_status-break : (b : Break) (unreadable : Bool)
    → verdict_row_status (if unreadable then outcome.Unreadable b.rule b.instant b.line
    else outcome.Broken b.rule b.instant b.line)
    ≡ verdict_status (if unreadable then verdict.Unreadable b else verdict.Broken b)
verdict_row_status-break b true = refl
verdict_row_status-break b false = refl

-- the status of the row for what was found is that of the verdict on it
verdict_row_status-outcome : (found : Option Break) → verdict_row_status (outcome_of found)
    ≡ verdict_status (verdict_on found)
verdict_row_status-outcome None = refl
verdict_row_status-outcome (Some b) = verdict_row_status-break b (is_unreadable b.rule)

-- the status of the listing of some judged stretches is that of the verdict on them
rows_status-stretches : (t : Trace) (stretches : List Stretch)
    → rows_status (listing_of_stretches all_rules t stretches) ≡ verdict_status (judge rules_in_force t stretches)
rows_status-stretches t [] = refl
rows_status-stretches t (stretch ∷ stretches) =
    let found : Option Break = least_of all_rules t (stretch ∷ stretches) in
    ap status_of_last (last_or-append None (flat_map (rows_of_stretch t (listed_end t found)) (stretch ∷ stretches))
    (Verdict (outcome_of found)))
    ∙ verdict_row_status-outcome found

-- a listing ends with the status of the verdict
pub listing_status-verdict : (t : Trace) → listing_status (listing_of t) ≡ verdict_status (verdict_by rules_in_force t)
unfolding listing_by verdict_by
listing_status-verdict t = rows_status-stretches t (judged_stretches t)

-- ---- what was written

-- if the text of a listing was written, so was that of an equal listing
pub Appends-same_listing : (old new : Option (List ℕ)) (listing same : Listed) → listing ≡ same → Appends old new
    (text_of listing) → Appends old new (text_of same)
Appends-same_listing old new listing same is took = subst (λ (l : Listed). Appends old new (text_of l)) is took

-- if a prefix of the text of a listing was written, so was one of that of an equal listing
pub Appends-front_of_same_listing : (old new : Option (List ℕ)) (listing same : Listed) → listing ≡ same
    → AppendsFront old new
    (text_of listing)
    → (n : ℕ) × Appends old new (take n (text_of same))
Appends-front_of_same_listing old new listing same is took = AppendsFront-take old new (text_of same)
    (subst (λ (l : Listed). AppendsFront old new (text_of l)) is took)

-- ---- how it ends

-- the status of the answer of `list` is at most 4
listing_answer_by-small : (recording : Result Trace Refusal) → (listing_answer_by recording).status ≤ 4
listing_answer_by-small (Ok t) = verdict_status-small (verdict_by rules_in_force t)
listing_answer_by-small (Err r) = refusal_status-small r

-- the recording that was read agrees with the settled recording of the bytes `b` of a binding and `d` of a dump
abbrev pub ReadAgreesWith : ℕ → ℕ → Option (List ℕ) → Option (List ℕ) → Result Trace Refusal → Type 0
ReadAgreesWith skew block b d recording = AnswerGives (λ (t : Trace). t) recording (settled_recording skew b d block)

-- the status of `list` is 5 exactly where a write on the output failed
pub WritesListing-unwritten : (skew : ℕ) (binding dump : Reading × Reading) (block : ℕ) (out err : Writing × Writing)
    (status : ℕ) → WritesListing skew binding dump block out err status
    → (status ≡ 5) ↔ (out.1.failures ≡ suc out.0.failures)
WritesListing-unwritten skew binding dump block out err status = AnswersInputs-unwritten listing_answer_by
    listing_answer_by-small (ReadAgreesWith skew block) binding dump out err status

-- if the inputs are read whole, no write fails and the status isn't 4, `list` writes exactly the answer of their bytes
pub WritesListing-exact : (skew : ℕ) (binding dump : Reading × Reading) (block : ℕ) (out err : Writing × Writing)
    (status : ℕ) → WritesListing skew binding dump block out err status
    → (b d : List ℕ) → IsReadWhole binding.0 binding.1 b → IsReadWhole dump.0 dump.1 d
    → out.1.failures ≡ out.0.failures → (status ≡ 4 → ⊥)
    → WritesAnswer (listing_answer_of skew (Some b) (Some d) block) out err status
WritesListing-exact skew binding dump block out err status lists b d =
    AnswersInputs-exact listing_answer_by listing_answer_by-small (ReadAgreesWith skew block) binding dump out err
    status lists
    b d (listing_answer_of skew (Some b) (Some d) block)
    (λ found. answer-AnswerGives listing_answer_by refl found (settled_recording skew (Some b) (Some d) block))
