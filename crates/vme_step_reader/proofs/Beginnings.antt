-- A text is read on from the first bytes of its front, which end at a token boundary, or has a fault there.
use Rattle.std.proofs.Common.{◌≡◌, ℕ, ◌<◌, ◌≤◌, ◌-◌, true, List, ◌++◌, Result, Ok, Err, refl, sym, ap, ◌∙◌, arith}
use Rattle.std.proofs.Common.{IfErr, IfOk, IfSome, None, Option, Some, append_assoc, drop, get_or, length, take}
use Rattle.std.proofs.lemmas.List.{drop-append-le, get_or-take, length-take-le, take-append-drop}
use Rattle.vcd_read.specs.Header.{◌>>=◌}
use Rattle.vcd_read.specs.Sections.{Defined}
use Rattle.vcd_read.specs.declared.dump.Variable.{Variable}
use Rattle.vcd_read.specs.declared.fault.FaultKind.{FaultKind}
use Rattle.vcd_read.specs.declared.fault.FaultKind.TheVariants.{Memory}
use Rattle.vcd_read.specs.declared.fault.VcdFault.{VcdFault}
use Rattle.vcd_read.specs.Reading.{EndsBetweenTokens, line_behind}
use Rattle.vcd_read.specs.Tokens.{Token, is_space, tokens, tokens_from}
use Rattle.vcd_read.proofs.PieceLemmas.{tokens-cut, tokens_from-append_left}
use Rattle.vcd_read.proofs.DumpLemmas.{contents_of_header, dump_of-header, whole_header}
use Rattle.vme_bind.specs.Binding.{BoundLines}
use Rattle.vme_bind.specs.BoundGroups.{bound_groups_in}
use Rattle.vme_bind.specs.TextCapture.{BindingFails, CaptureFailsBy, DumpFails, or_binding, or_dump, recording_of_text}
use Rattle.vme_bind.specs.TextCapture.{recording_read}
use Rattle.vme_bind.specs.SpeculativeReading.{with_recording}
use Rattle.vme_bind.specs.TextPieces.{TextReached}
use Rattle.vme_bind.specs.TextReading.{TextReading, body_reading, reading_ahead, reading_after, reading_of_text}
use Rattle.vme_step_reader.specs.StepReading.{StepReading, whole_reading}
use Rattle.vme_step_reader.proofs.PieceSteps.{reading_ahead-joined}
use Rattle.vme_bind.specs.declared.fault.BindFault.{BindFault}
use Rattle.vme_bind.specs.declared.fault.BindFaultKind.{BindFaultKind}
use Rattle.vme_bind.specs.declared.fault.BindFaultKind.TheVariants.{Memory as NoMemory}
use Rattle.vme_bind.specs.declared.fault.CaptureFault.{CaptureFault}
use Rattle.vme_bind.specs.declared.fault.CaptureFault.TheVariants.{Binding, Dump}

-- a result has one fault of the dump
Dump-same : {X : Type 0} (a b : VcdFault) (r : Result X CaptureFault) → r ≡ Err (Dump a) → r ≡ Err (Dump b)
    → a ≡ b
Dump-same a b r e h = cc

-- no result has a fault of the dump and one of the binding
Dump-not_Binding : {X : Type 0} (a : VcdFault) (b : BindFault) (r : Result X CaptureFault) → r ≡ Err (Dump a)
    → r ≡ Err (Binding b) → ⊥
Dump-not_Binding a b r e h = cc

-- a fault of the definitions is that of the recording
pub recording_of_text-definitions_fail : (b : BoundLines) (text : List ℕ) (fault : VcdFault) → reading_of_text b text
    ≡ Err (Dump fault)
    → recording_of_text b text ≡ Err (Dump fault)
unfolding reading_of_text recording_of_text
recording_of_text-definitions_fail b text fault is = ap (recording_read b) (dump_of-header text)
    ∙ by_header (whole_header text) is
  where
    -- a fault of the binding is none of the dump
    by_bound_groups : {A : Type 0} (reading : A → TextReading) (r : Result A BindFault)
        → (or_binding r >>= λ x. Ok (reading x)) ≡ Err (Dump fault) → ⊥
    by_bound_groups reading (Ok x) e = cc
    by_bound_groups reading (Err reported) e = cc

    -- whatever reading the header gives
    by_header : (r : Result (Defined (List Variable)) VcdFault) → (or_dump r >>= reading_after b) ≡ Err (Dump fault)
        → recording_read b (r >>= contents_of_header) ≡ Err (Dump fault)
    by_header (Ok d) e = absurd (by_bound_groups (λ bound_groups. body_reading b.slots bound_groups d.head)
        (bound_groups_in d.variables b.assignments) e)
    by_header (Err reported) e = ap (λ (f : VcdFault). Err (Dump f)) (Dump-same reported fault _ refl e)

-- no result is a fault of the dump and a value
pub Err-not_Ok : {X : Type 0} (fault : VcdFault) (x : X) (r : Result X CaptureFault) → r ≡ Err (Dump fault) → r ≡ Ok x
    → ⊥
Err-not_Ok fault x r e h = cc

-- if two results have the same fault of the dump, an error that reports the fault of the first reports that of the
-- second
pub CaptureFailsBy-same_fault : {X Y : Type 0} (reported : CaptureFault) (fault : VcdFault) (a : Result X CaptureFault)
    (b : Result Y CaptureFault) → a ≡ Err (Dump fault) → b ≡ Err (Dump fault) → CaptureFailsBy reported a
    → CaptureFailsBy reported b
CaptureFailsBy-same_fault (Dump reported) fault a b ea eb fails = by_kind reported.line reported.kind fails
  where
    -- if `a` fails by a fault of the dump, of any kind, so does `b`
    by_kind : (line : ℕ) (kind : FaultKind) → DumpFails line kind a → DumpFails line kind b
    by_kind line Memory fails = fails
    by_kind line kind fails = eb ∙ ap (λ (f : VcdFault). Err (Dump f)) (Dump-same _ _ a ea fails)
CaptureFailsBy-same_fault (Binding reported) fault a b ea eb fails = by_kind reported.line reported.kind fails
  where
    -- if `a` fails by a fault of the binding, of any kind, so does `b`
    by_kind : (line : ℕ) (kind : BindFaultKind) → BindingFails line kind a → BindingFails line kind b
    by_kind line NoMemory fails = fails
    by_kind line kind fails = absurd (Dump-not_Binding _ _ a ea fails)

-- ---- a body that begins in the front of a text

-- the bytes end with a space, if there are any
abbrev pub EndsAfterSpace : List ℕ → Type 0
EndsAfterSpace cut = 0 < length cut → is_space (get_or cut (length cut - 1) 0) ≡ true

-- the first `k` bytes end with a space, if the byte before `k` is one
pub EndsAfterSpace-take : (front : List ℕ) (k : ℕ) → k ≤ length front
    → (0 < k → is_space (get_or front (k - 1) 0) ≡ true) → EndsAfterSpace (take k front)
EndsAfterSpace-take front k within space some =
    let e : length (take k front) ≡ k = length-take-le k front within in
    ap (λ (n : ℕ). is_space (get_or (take k front) (n - 1) 0)) e
    ∙ ap is_space (get_or-take k front (k - 1) 0 (omega (arith, e, some)))
    ∙ space (omega (arith, e, some))

module _ (b : BoundLines) (front : List ℕ) (k : ℕ) (apart : EndsBetweenTokens (take k front)) where
  -- the first `k` bytes of `front`
  abbrev cut : List ℕ
  cut = take k front

  -- each text that begins with the tokens of `cut` is read on by `r`, from byte `n` on
  abbrev BeginsAt : StepReading → ℕ → Type 0
  BeginsAt r n = (whole : List ℕ) (more : List Token) → tokens whole ≡ tokens cut ++ more
      → reading_of_text b whole ≡ Ok (reading_ahead (with_recording r.given r.speculative)
      (tokens_from r.speculative.body.line (drop n cut)) more)

  -- from byte `n` of `cut` on, `cut`, the rest of `front` and a rest are left
  drop-cut : (n : ℕ) (rest : List ℕ) → n ≤ length cut → drop n cut ++ (drop k front ++ rest) ≡ drop n front ++ rest
  drop-cut n rest long =
      sym (append_assoc (drop n cut) (drop k front) rest)
      ∙ ap (λ (bytes : List ℕ). bytes ++ rest) (sym (drop-append-le n cut (drop k front) long)
      ∙ ap (drop n) (take-append-drop k front))

  -- if `r` reads on each text that begins with the tokens of `cut`, it reads on `front` with any bytes after it
  reading_of_text-from_cut : (r : StepReading) (n : ℕ) → EndsAfterSpace cut → n ≤ length cut
      → line_behind r.speculative.body.line (drop n cut) ≡ line_behind 1 cut → BeginsAt r n → (rest : List ℕ)
      → reading_of_text b (front ++ rest) ≡ Ok (whole_reading r (drop n front ++ rest))
  reading_of_text-from_cut r n space long line begins rest =
      let more : List ℕ = drop k front ++ rest in
      let reached : TextReached = with_recording r.given r.speculative in
      let first : ℕ = r.speculative.body.line in
      begins (front ++ rest) (tokens_from (line_behind 1 cut) more) (tokens-cut front k apart rest)
      ∙ ap Ok (ap (λ (l : ℕ). reading_ahead reached (tokens_from first (drop n cut)) (tokens_from l more)) (sym line)
      ∙ sym (reading_ahead-joined reached first (drop n cut) more (tokens_from-append_left cut more n first space))
      ∙ ap (whole_reading r) (drop-cut n rest long))

  -- a beginning of each text that begins with the tokens of `cut` is one of `front` with any bytes after it
  pub BeginsAt-from_cut : (result : Result (Option (StepReading × ℕ)) CaptureFault) → EndsAfterSpace cut
      → IfOk result (λ found. IfSome found (λ begun. begun.1 ≤ length cut))
      → IfOk result (λ found. IfSome found (λ begun.
      line_behind begun.0.speculative.body.line (drop begun.1 cut) ≡ line_behind 1 cut))
      → IfOk result (λ found. IfSome found (λ begun. BeginsAt begun.0 begun.1))
      → IfOk result (λ found. IfSome found (λ begun. (rest : List ℕ)
      → reading_of_text b (front ++ rest) ≡ Ok (whole_reading begun.0 (drop begun.1 front ++ rest))))
  BeginsAt-from_cut (Ok (Some begun)) space long line begins = reading_of_text-from_cut begun.0 begun.1 space long line
      begins
  BeginsAt-from_cut (Ok None) space long line begins = tt
  BeginsAt-from_cut (Err fault) space long line begins = tt

  -- a fault of each text that begins with the tokens of `cut` is one of `front` with any bytes after it
  pub CaptureFailsBy-from_cut : (result : Result (Option (StepReading × ℕ)) CaptureFault)
      → IfErr result (λ fault. (whole : List ℕ) (more : List Token) → tokens whole ≡ tokens cut ++ more
      → CaptureFailsBy fault (reading_of_text b whole))
      → IfErr result (λ fault. (rest : List ℕ) → CaptureFailsBy fault (reading_of_text b (front ++ rest)))
  CaptureFailsBy-from_cut (Ok found) fails = tt
  CaptureFailsBy-from_cut (Err fault) fails = λ rest. fails (front ++ rest) _ (tokens-cut front k apart rest)
