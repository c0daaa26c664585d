-- The recording of a text, deskewed and cut into blocks, is listed with its times, or its refusal is given.
use Rattle.std.proofs.Common.{◌≡◌, ℕ, false, List, length, ap, sym, subst, ◌∙◌}
use Rattle.std.specs.Prelude.{nat_lt, Option, Result, Ok, Err}
use Rattle.vcd_read.specs.Contents.{Contents}
use Rattle.vcd_read.specs.Header.{◌>>=◌}
use Rattle.vcd_read.specs.Meaning.{dump_of}
use Rattle.vme_bind.specs.Binding.{BoundLines}
use Rattle.vme_bind.specs.Capture.{capture_of, limited}
use Rattle.vme_bind.specs.TextCapture.{CaptureFailsBy, recording_of_text}
use Rattle.vme_bind.specs.declared.fault.CaptureFault.{CaptureFault}
use Rattle.vme_skew.specs.Settled.{settled, settled_or}
use Rattle.vme_trace.specs.Trace.{Trace}
use Rattle.vme_trace.specs.WellFormed.{capture_limit}
use Rattle.vme_stream.specs.Answers.{AnswerGives, binding_read, capture_by, dump_read, or_bad_binding}
use Rattle.vme_stream.specs.Answers.{or_bad_dump, or_too_long, recording_by}
use Rattle.vme_stream.specs.Refusals.{capture_refusal}
use Rattle.vme_stream.specs.declared.refusal.Refusal.{Refusal}
use Rattle.vme_stream.proofs.AnswerLemmas.{capture_by-or_too_long, capture_read-bound, capture_read-refused}
use Rattle.vme_stream.proofs.AnswerLemmas.{AnswerGives-then, recording_by-fails, recording_by-text}
use Rattle.vme_commands.specs.Judged.{in_blocks, limited_in_blocks}
use Rattle.vme_commands.specs.Settled.{settled_read, settled_recording}
use Rattle.vme_commands.proofs.JudgedLemmas.{limited_in_blocks-short}
use Rattle.vme_commands.proofs.SettledLemmas.{settled_read-refused, settled_recording-refused, settled_or-within}
use Rattle.vme_commands.proofs.SettledLemmas.{settled_or-refused}
use Rattle.vme_commands.proofs.SettledLemmas.{length-settled_within}
use Rattle.vme_annotate.specs.TimedListings.{GivesTimedListing, recording_to_list, settled_in_blocks}

-- a recording is found that is the one that is read, or a refusal
abbrev GivesTrace : Result Trace Refusal → Result Trace Refusal → Type 0
GivesTrace found read = AnswerGives (λ (t : Trace). t) found read

-- ---- a recording that isn't too long

-- the capture of a text is its recording, if this hasn't too many steps
pub capture_by-recording_of_text : (bound : BoundLines) (bytes : List ℕ) (t : Trace) → recording_of_text bound bytes
    ≡ Ok t
    → capture_by bound (or_bad_dump (dump_of bytes)) ≡ or_bad_binding (limited t)
capture_by-recording_of_text bound bytes t is =
    capture_by-or_too_long bound (or_bad_dump (dump_of bytes))
    ∙ ap (λ (r : Result Trace Refusal). r >>= or_too_long) (recording_by-text bound bytes t is)

-- ---- refusals

-- a refusal in place of the recording is one in place of the listing, also after deskewing and cutting into blocks
pub settled_in_blocks-refused : (skew block : ℕ) (r : Refusal) (read : Result Trace Refusal) → GivesTrace (Err r) read
    → GivesTimedListing (Err r) (settled_in_blocks skew block read)
settled_in_blocks-refused skew block r read is =
    AnswerGives-then r (settled_or skew read) (in_blocks block) (settled_or-refused skew read r is)

-- a fault of the text is the refusal of the listing
pub recording_to_list-text_refused : (skew block : ℕ) (bound : BoundLines) (bytes : List ℕ) (fault : CaptureFault)
    → CaptureFailsBy fault (recording_of_text bound bytes)
    → GivesTimedListing (Err (capture_refusal fault)) (recording_to_list skew bound (or_bad_dump (dump_of bytes)) block)
recording_to_list-text_refused skew block bound bytes fault is =
    settled_in_blocks-refused skew block (capture_refusal fault) (capture_by bound (or_bad_dump (dump_of bytes)))
    (subst (GivesTrace (Err (capture_refusal fault))) (sym (capture_by-or_too_long bound (or_bad_dump (dump_of bytes))))
    (AnswerGives-then (capture_refusal fault) (recording_by bound (or_bad_dump (dump_of bytes))) or_too_long
    (recording_by-fails bound bytes fault is)))

-- ---- the deskewed recording

module _ (skew block : ℕ) (t made : Trace) (within : nat_lt capture_limit (length t.steps) ≡ false)
    (is : made ≡ settled skew t) where
  -- a recording that hasn't too many steps is deskewed, and refused only if it needs too many blocks
  settled_in_blocks-limited : settled_in_blocks skew block (or_bad_binding (limited t)) ≡ limited_in_blocks block made
  settled_in_blocks-limited =
      ap (λ (r : Result Trace Refusal). r >>= in_blocks block) (settled_or-within skew t made within is)
      ∙ sym (limited_in_blocks-short made block (length-settled_within skew t made within is))

  -- a refusal of the deskewed recording is the refusal of the listing
  pub settled_in_blocks-settled_refused : (r : Refusal) → GivesTrace (Err r) (limited_in_blocks block made)
      → GivesTimedListing (Err r) (settled_in_blocks skew block (or_bad_binding (limited t)))
  settled_in_blocks-settled_refused r given = subst (GivesTrace (Err r)) (sym settled_in_blocks-limited) given

-- ---- what is read

-- the recording that is read, deskewed by `skew`, if it doesn't need too many blocks
abbrev settled_blocks : ℕ → ℕ → Result Trace Refusal → Result Trace Refusal
settled_blocks skew block read = settled_or skew read >>= in_blocks block

-- with a binding that is read, the recording of the inputs is that of the dump by it
pub settled_recording-bound : (skew block : ℕ) (binding dump : Option (List ℕ)) (bound : BoundLines)
    → binding_read binding
    ≡ Ok bound → settled_recording skew binding dump block ≡ recording_to_list skew bound (dump_read dump) block
unfolding settled_recording settled_read
settled_recording-bound skew block binding dump bound is =
    ap (settled_blocks skew block) (capture_read-bound binding dump bound is)

-- a refusal of the binding is the refusal of the listing
pub settled_recording-unread_binding : (skew block : ℕ) (binding dump : Option (List ℕ)) (r : Refusal)
    → AnswerGives (λ (bound : BoundLines). bound) (Err r) (binding_read binding)
    → GivesTimedListing (Err r) (settled_recording skew binding dump block)
settled_recording-unread_binding skew block binding dump r is =
    settled_recording-refused skew binding dump block r
    (settled_read-refused skew binding dump r (capture_read-refused binding dump r is))

-- a refusal of the dump is the refusal of the listing
pub recording_to_list-unread : (skew block : ℕ) (dump : Option (List ℕ)) (bound : BoundLines) (r : Refusal)
    → AnswerGives (λ (contents : Contents). contents) (Err r) (dump_read dump)
    → GivesTimedListing (Err r) (recording_to_list skew bound (dump_read dump) block)
recording_to_list-unread skew block dump bound r refused =
    settled_in_blocks-refused skew block r (capture_by bound (dump_read dump))
    (AnswerGives-then r (dump_read dump) (λ (contents : Contents). or_bad_binding (capture_of bound contents)) refused)

-- with a binding that is read, a refusal of the dump is the refusal of the listing
pub settled_recording-unread_dump : (skew block : ℕ) (binding dump : Option (List ℕ)) (bound : BoundLines) (r : Refusal)
    → binding_read binding ≡ Ok bound → AnswerGives (λ (contents : Contents). contents) (Err r) (dump_read dump)
    → GivesTimedListing (Err r) (settled_recording skew binding dump block)
settled_recording-unread_dump skew block binding dump bound r is refused =
    subst (GivesTimedListing (Err r)) (sym (settled_recording-bound skew block binding dump bound is))
    (recording_to_list-unread skew block dump bound r refused)
