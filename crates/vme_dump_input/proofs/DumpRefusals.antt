-- Why a dump is refused: it can't be read, is too long, has a fault, or the binding can't be used on it.
use Rattle.std.proofs.Common.{◌≡◌, ◌≤◌, ℕ, List, length, None, Some, refl, ap, ◌∙◌}
use Rattle.std.specs.Prelude.{Result, Ok, Err}
use Rattle.vcd_read.specs.Contents.{Contents}
use Rattle.vcd_read.specs.Header.{◌>>=◌}
use Rattle.vcd_read.specs.Meaning.{dump_of}
use Rattle.vcd_read.specs.declared.fault.FaultKind.{FaultKind}
use Rattle.vcd_read.specs.declared.fault.FaultKind.TheVariants as vcd
use Rattle.vcd_read.specs.declared.fault.VcdFault.{VcdFault}
use Rattle.vme_trace.specs.Streams.{Reading}
use Rattle.vme_trace.specs.Trace.{Trace}
use Rattle.vme_bind.specs.Binding.{BoundLines}
use Rattle.vme_bind.specs.Capture.{capture_of}
use Rattle.vme_bind.specs.declared.fault.BindFault.{BindFault}
use Rattle.vme_stream.specs.Inputs.{longest_input}
use Rattle.vme_stream.specs.declared.input.InFault.{InFault}
use Rattle.vme_stream.specs.declared.input.InFault.TheVariants as read
use Rattle.vme_stream.specs.Answers.{AnswerGives, dump_read, or_bad_dump, recorded_by}
use Rattle.vme_stream.specs.Refusals.{dump_refusal, input_refusal}
use Rattle.vme_stream.specs.declared.refusal.Input.TheVariants.{Dump}
use Rattle.vme_stream.specs.declared.refusal.Refusal.{Refusal}
use Rattle.vme_stream.specs.declared.refusal.Refusal.TheVariants.{BadDump, Memory}
use Rattle.vme_stream.proofs.AnswerLemmas.{bytes_within_limit-long, bytes_within_limit-short}
use Rattle.vme_dump_input.specs.DumpBeginnings.{HasFault, IsDumpRefused, IsReadDump}
use Rattle.vme_dump_input.specs.BufferedInputs.{FailsAs, IsAllOf}

-- the contents of a dump, or why there are none, by its bytes
abbrev read_or : Result (List ℕ) Refusal → Result Contents Refusal
read_or whole = whole >>= λ text. or_bad_dump (dump_of text)

-- what is read of a dump that isn't too long
pub dump_read-short : (text : List ℕ) → length text ≤ longest_input → (r : Result Contents VcdFault) → dump_of text ≡ r
    → dump_read (Some text) ≡ or_bad_dump r
unfolding dump_read
dump_read-short text short r is =
    ap read_or (bytes_within_limit-short Dump text short) ∙ ap (λ (w : Result Contents VcdFault). or_bad_dump w) is

-- a dump that can't be had is refused for that
pub IsDumpRefused-fails : (old now : Reading) (fault : InFault) → FailsAs longest_input old now fault
    → IsDumpRefused old now (input_refusal Dump fault)
unfolding dump_read
IsDumpRefused-fails old now read.Read fails = (None, fails, refl)
IsDumpRefused-fails old now read.TooLong fails =
    (Some fails.0, fails.2, ap read_or (bytes_within_limit-long Dump fails.0 fails.1))
IsDumpRefused-fails old now read.Memory fails = fails

-- a dump that has a fault is refused for it
pub IsDumpRefused-fault : (old now : Reading) (text : List ℕ) → IsAllOf old now text longest_input → (line : ℕ)
    (kind : FaultKind) → HasFault text line kind
    → IsDumpRefused old now (dump_refusal (record { line = line; kind = kind }))
IsDumpRefused-fault old now text all line vcd.Memory has = (Some text, all.0)
IsDumpRefused-fault old now text all line kind has =
    (Some text, all.0, dump_read-short text all.1 (Err (record { line = line; kind = kind })) has)

-- ---- a binding that can't be used

module _ (binding : BoundLines) (old now : Reading) (text : List ℕ) (all : IsAllOf old now text longest_input) where
  -- what a binding makes of a dump, by the result of reading it
  abbrev recorded : Result Contents VcdFault → Result (Result Trace BindFault) Refusal
  recorded dump = recorded_by binding (or_bad_dump dump)

  -- where the binding has a fault, the dump was read, and that is what the binding makes of it
  pub capture_of-unusable : (dump : Result Contents VcdFault) → dump_of text ≡ dump → (fault : BindFault)
      → recorded dump ≡ Ok (Err fault)
      → (contents : Contents) × IsReadDump old now contents × (capture_of binding contents ≡ Err fault)
  capture_of-unusable (Ok contents) is fault gives =
      let same : capture_of binding contents ≡ Err fault = cc in (
        contents,
        record { text = text; reading = all.0; is = dump_read-short text all.1 (Ok contents) is },
        same,
      )
  capture_of-unusable (Err dump_fault) is fault gives = absurd (cc)

  -- where the dump is refused, that is by its own fault
  dump_read-refused : (dump : Result Contents VcdFault) → dump_of text ≡ dump → (refusal : Refusal)
      → recorded dump ≡ Err refusal → dump_read (Some text) ≡ Err refusal
  dump_read-refused (Ok contents) is refusal gives = absurd (cc)
  dump_read-refused (Err dump_fault) is refusal gives =
      let same : BadDump dump_fault ≡ refusal = cc in
      dump_read-short text all.1 (Err dump_fault) is ∙ ap (λ (r : Refusal). Err r) same

  -- a dump is refused where it has a fault of its own
  pub IsDumpRefused-recorded : (dump : Result Contents VcdFault) → dump_of text ≡ dump → (refusal : Refusal)
      → AnswerGives (λ (r : Result Trace BindFault). r) (Err refusal) (recorded dump) → IsDumpRefused old now refusal
  IsDumpRefused-recorded dump is Memory gives = (Some text, all.0)
  IsDumpRefused-recorded dump is refusal gives = (Some text, all.0, dump_read-refused dump is refusal gives)
