-- How `annotate` and `list --times` end: their answers and exit statuses, by what they read and what they could write.
use Rattle.std.proofs.Common.{◌≡◌, ◌≤◌, ◌↔◌, ℕ, suc, List, refl, sym, ap, subst, ◌∙◌, inl, inr, map, true}
use Rattle.std.specs.Prelude.{◌==◌, filter, Option, None, Some, Result, Ok, Err}
use Rattle.vme_trace.specs.Streams.{Reading, Writing}
use Rattle.vme_trace.specs.Trace.{Trace}
use Rattle.vme_trace.specs.Verdict.{rules_in_force, verdict_by}
use Rattle.vme_stream.specs.Inputs.{IsReadWhole}
use Rattle.vme_listing.specs.Listed.{Listed}
use Rattle.vme_listing.specs.Recorded.{recorded_rows}
use Rattle.vme_stream.specs.Answers.{AnswerGives}
use Rattle.vme_stream.specs.Ends.{Ends, WritesAnswer}
use Rattle.vme_stream.specs.declared.refusal.Refusal.{Refusal}
use Rattle.vme_stream.specs.declared.refusal.Refusal.TheVariants.{Memory}
use Rattle.vme_stream.proofs.EndLemmas.{AnswersInputs-exact, AnswersInputs-unwritten, answer-AnswerGives, eq-not_suc}
use Rattle.vme_stream.proofs.EndLemmas.{IsReading-whole}
use Rattle.vme_stream.proofs.EndLemmas.{refusal_status-small}
use Rattle.vme_stream.proofs.EndLemmas.{Ends-unwritten, verdict_status-small}
use Rattle.vme_commands.specs.Settled.{settled_recording}
use Rattle.vme_commands.proofs.ListLemmas.{ReadAgreesWith}
use Rattle.vme_annotation.specs.Annotated.{ArePutAt, IsAnnotated, annotated}
use Rattle.vme_annotation.specs.Inserted.{PutChange, change_of}
use Rattle.vme_annotation.specs.Shown.{ShownChange, changes_at}
use Rattle.vcd_places.specs.Places.{ends_definitions_at}
use Rattle.vme_annotate.specs.Answers.{Annotates, IsAnnotationOf, TellsAnnotation, WritesTimes, annotation_answer_by}
use Rattle.vme_commands.specs.declared.built_in.TheConstants.{BLOCK}
use Rattle.vme_annotate.specs.Answers.{timed_answer_by, timed_answer_of}
use Rattle.vme_annotate.specs.Planned.{ArePlanned, planned}
use Rattle.vme_annotate.specs.Prepared.{IsPrepared}
use Rattle.vme_annotate.specs.TimedListings.{IsTimedListingOf, TimedListingValue, timed_rows_text, timed_text}
use Rattle.vme_annotate.specs.TimedListings.{times_of}
use Rattle.vme_annotate.specs.declared.annotating.AnnotatedDump.{AnnotatedDump}
use Rattle.vme_annotate.specs.declared.changes.PlannedChange.{PlannedChange}

-- ---- listings with times

-- the text of the listing of `t` with its times is that of the recording
pub timed_rows_text-timed_text : (t : Trace) (found : TimedListingValue) → IsTimedListingOf t found
    → timed_rows_text found.times found.listing.rows ≡ timed_text t
timed_rows_text-timed_text t found is =
    ap (λ (times : List ℕ). timed_rows_text times found.listing.rows) is.times_are
    ∙ ap (λ (listing : Listed). timed_rows_text (times_of t.steps) listing.rows) is.listing_is

-- the status of the answer is at most 4
timed_answer-small : (found : Result Trace Refusal) → (timed_answer_by found).status ≤ 4
timed_answer-small (Ok t) = verdict_status-small (verdict_by rules_in_force t)
timed_answer-small (Err r) = refusal_status-small r

module _ (skew : ℕ) (binding dump : Reading × Reading) (block : ℕ) (out err : Writing × Writing) (status : ℕ) where
  -- the status is 5 exactly where a write to `out` failed
  pub WritesTimes-unwritten : WritesTimes skew binding dump block out err status
      → (status ≡ 5) ↔ (out.1.failures ≡ suc out.0.failures)
  WritesTimes-unwritten =
      AnswersInputs-unwritten timed_answer_by timed_answer-small (ReadAgreesWith skew block) binding dump out err status

  -- if both inputs are read whole, no write to `out` fails and memory suffices, exactly their answer is written
  pub WritesTimes-exact : WritesTimes skew binding dump block out err status → (b d : List ℕ)
      → IsReadWhole binding.0 binding.1 b → IsReadWhole dump.0 dump.1 d → out.1.failures ≡ out.0.failures
      → (status ≡ 4 → ⊥) → WritesAnswer (timed_answer_of skew (Some b) (Some d) block) out err status
  WritesTimes-exact writes b d =
      AnswersInputs-exact timed_answer_by timed_answer-small (ReadAgreesWith skew block) binding dump out err status
      writes b d
      (timed_answer_of skew (Some b) (Some d) block)
      (λ found. answer-AnswerGives timed_answer_by refl found (settled_recording skew (Some b) (Some d) block))

-- ---- annotated dumps

-- the status of the answer is at most 4
annotation_answer-small : (text : List ℕ) (found : Result Trace Refusal) → (annotation_answer_by text found).status ≤ 4
annotation_answer-small text (Ok t) = verdict_status-small (verdict_by rules_in_force t)
annotation_answer-small text (Err r) = refusal_status-small r

-- if the status isn't 4, so that memory didn't run out, `found` is what the definition gives, `defined`
found-is_defined : (text : List ℕ) (found defined : Result Trace Refusal) → AnswerGives (λ (t : Trace). t) found defined
    → ((annotation_answer_by text found).status ≡ 4 → ⊥) → found ≡ defined
found-is_defined text (Ok t) defined given memory = sym given
found-is_defined text (Err Memory) defined given memory = absurd (memory refl)
found-is_defined text (Err r) defined given memory = sym given

-- if no write to `out` fails and memory suffices, the answer is that of what the definition gives, `defined`, and the
-- text is its annotation
WritesAnswer-defined : (text dump : List ℕ) (found defined : Result Trace Refusal) (out err : Writing × Writing)
    (status : ℕ)
    → Ends (annotation_answer_by text found) out err status → AnswerGives (λ (t : Trace). t) found defined
    → IsAnnotationOf (Some dump) found text → out.1.failures ≡ out.0.failures → (status ≡ 4 → ⊥)
    → IsAnnotationOf (Some dump) defined text × WritesAnswer (annotation_answer_by text defined) out err status
WritesAnswer-defined text dump found defined out err status (inl is_written) given annotation same memory =
    let is : found ≡ defined =
    found-is_defined text found defined given (λ is_memory. memory (is_written.status_is ∙ is_memory)) in (
      subst (λ (r : Result Trace Refusal). IsAnnotationOf (Some dump) r text) is annotation,
      subst (λ (r : Result Trace Refusal). WritesAnswer (annotation_answer_by text r) out err status) is is_written,
    )
WritesAnswer-defined text dump found defined out err status (inr failed) given annotation same memory =
    absurd (eq-not_suc out.1.failures out.0.failures same failed.out_is.1)

module _ (skew : ℕ) (binding dump : Reading × Reading) (out err : Writing × Writing) (status : ℕ) where
  -- the status is 5 exactly where a write to `out` failed
  pub Annotates-unwritten : Annotates skew binding dump out err status
      → (status ≡ 5) ↔ (out.1.failures ≡ suc out.0.failures)
  Annotates-unwritten does =
      let (binding_bytes, dump_bytes, found, text, binding_read, dump_read, given, annotation, end) = does in
      Ends-unwritten (annotation_answer_by text) (annotation_answer-small text) found out err status end

  -- if both inputs are read whole, no write to `out` fails and memory suffices, exactly their answer is written
  pub Annotates-exact : Annotates skew binding dump out err status → (b d : List ℕ)
      → IsReadWhole binding.0 binding.1 b → IsReadWhole dump.0 dump.1 d → out.1.failures ≡ out.0.failures
      → (status ≡ 4 → ⊥) → TellsAnnotation skew b d out err status
  Annotates-exact does b d binding_whole dump_whole same memory =
      let (binding_bytes, dump_bytes, found, text, binding_read, dump_read, given, annotation, end) = does in
      let b_is : binding_bytes ≡ Some b =
      IsReading-whole binding.0 binding.1 binding_bytes b binding_read binding_whole in
      let d_is : dump_bytes ≡ Some d = IsReading-whole dump.0 dump.1 dump_bytes d dump_read dump_whole in
      let with_b = subst (λ (x : Option (List ℕ)).
      AnswerGives (λ (t : Trace). t) found (settled_recording skew x dump_bytes BLOCK)) b_is given in
      let with_d = subst (λ (x : Option (List ℕ)).
      AnswerGives (λ (t : Trace). t) found (settled_recording skew (Some b) x BLOCK)) d_is with_b in
      let whole = subst (λ (x : Option (List ℕ)). IsAnnotationOf x found text) d_is annotation in
      let (is_written, tells) = WritesAnswer-defined text d found (settled_recording skew (Some b) (Some d) BLOCK) out
      err
      status
      end
      with_d whole same memory in
      (text, is_written, tells)

-- Let `d` be a dump that is prepared for the recording `t`, and `put` its changes, each where the dump comes to its
-- time. Then `annotated ..` is that dump, annotated with `t`.
pub annotated-IsAnnotated : (t : Trace) (d : AnnotatedDump) → IsPrepared t d → (start : ℕ) (put : List PutChange)
    → ends_definitions_at d.text.items start ≡ true → ArePutAt d.text.items t start put
    → map change_of put ≡ map (planned d.listing.listing.rows) d.changes.items
    → IsAnnotated d.text.items t (annotated d.text.items start d.added.scope d.added.own put)
annotated-IsAnnotated t d is start put starts placed put_is =
    let (defines, defines_are, beside) = is.added in
    record {
      defines = defines;
      defines_are = defines_are;
      underscores = beside.underscores;
      scope = beside.scope;
      own = d.added.own;
      count_is = beside.count_is;
      codes_are = beside.codes_are;
      start = start;
      starts = starts;
      put = put;
      placed = placed;
      changes_are = λ instant.
          ap (filter (λ (c : ShownChange). c.instant == instant)) put_is ∙ is.planned.are instant
          ∙ ap (λ (listing : Listed). changes_at listing.rows instant) is.timed.listing_is;
      text_is = ap (λ (scope : List ℕ). annotated d.text.items start scope d.added.own put) beside.scope_is;
    }

-- changes that are planned by the rows of `found`, the listing of `t`, are planned by the rows of `t`
pub ArePlanned-listing : (t : Trace) (found : TimedListingValue) → IsTimedListingOf t found
    → (changes : List PlannedChange)
    → ArePlanned found.listing.rows changes → ArePlanned (recorded_rows t) changes
ArePlanned-listing t found is changes are = subst (λ (listing : Listed). ArePlanned listing.rows changes) is.listing_is
    are

-- a dump that is annotated with `t` is the annotation of its bytes by `t`
pub IsAnnotationOf-annotated : (bytes : Option (List ℕ)) (dump : List ℕ) (t : Trace) (text : List ℕ) → bytes ≡ Some dump
    → IsAnnotated dump t text → IsAnnotationOf bytes (Ok t) text
IsAnnotationOf-annotated bytes dump t text is annotated =
    subst (λ (x : Option (List ℕ)). IsAnnotationOf x (Ok t) text) (sym is) annotated

-- where the recording is refused, nothing is asked of the text
pub IsAnnotationOf-refused : (bytes : Option (List ℕ)) (r : Refusal) (text : List ℕ) → IsAnnotationOf bytes (Err r) text
IsAnnotationOf-refused (Some dump) r text = tt
IsAnnotationOf-refused None r text = tt
