-- The instants of a whole body are those that the fold over its items gives at their end, and their times ascend.
use Rattle.std.proofs.Common.{◌≡◌, ℕ, List, [], ◌∷◌, Result, Ok, Err, refl, sym, ap, ◌∙◌, subst}
use Rattle.std.specs.Result.{IsErrAnd}
use Rattle.vcd_read.specs.declared.dump.Instant.{Instant}
use Rattle.vcd_read.specs.declared.fault.FaultKind.{FaultKind}
use Rattle.vcd_read.specs.declared.fault.FaultKind.TheVariants.{Memory}
use Rattle.vcd_read.specs.declared.fault.VcdFault.{VcdFault}
use Rattle.vcd_read.specs.Tokens.{Token}
use Rattle.vcd_read.specs.Header.{◌>>=◌, Net}
use Rattle.vcd_read.specs.Body.{BodyItem, BodyContext, ready, body_from, context_after, context_after_all, at_the_end}
use Rattle.vcd_read.specs.Body.{first_context}
use Rattle.vcd_read.specs.Meaning.{ReadFails, ReadFailsAs, ReadGives, instants_from, instants_of}
use Rattle.vcd_read.specs.DumpProgress.{DumpProgress, DumpState, steps, progress_after, ended}
use Rattle.vcd_read.specs.Contents.{TimesAscend}
use Rattle.vcd_read.proofs.InstantsLaw.{at_start, ended-instants_of, TimesAscend-instants_of}

-- what a body gives that is read to its end
abbrev pub at_end : DumpState → Result (List Instant) VcdFault
at_end s = at_the_end s.context >>= λ stood. Ok (ended s.progress)

-- the state with this progress and this context
abbrev with_context : DumpProgress → BodyContext → DumpState
with_context progress context = record { context = context; progress = progress }

-- if the context after items is that of the state from each state on, it is so after a result
context_after_all-after_result : (nets : List Net) (items : List BodyItem) (progress : DumpProgress)
    (r : Result BodyContext VcdFault)
    → ((s : DumpState) → context_after_all nets s.context items ≡ (steps nets s items >>= λ end. Ok end.context))
    → (r >>= λ next. context_after_all nets next items)
    ≡ (((r >>= λ next. Ok (with_context progress next)) >>= λ next. steps nets next items) >>= λ end. Ok
    end.context)
context_after_all-after_result nets items progress (Ok next) rest = rest (with_context progress next)
context_after_all-after_result nets items progress (Err fault) rest = refl

-- the context after the items is that of the state after them
context_after_all-steps : (nets : List Net) (s : DumpState) (items : List BodyItem)
    → context_after_all nets s.context items
    ≡ (steps nets s items >>= λ end. Ok end.context)
unfolding context_after_all steps
context_after_all-steps nets s [] = refl
context_after_all-steps nets s (item ∷ items) = context_after_all-after_result nets items
    (progress_after nets s.progress item)
    (context_after nets s.context item) (λ s2. context_after_all-steps nets s2 items)

-- what a body gives, by the state after its items, or the fault of these
abbrev result_of : Result DumpState VcdFault → Result (List Instant) VcdFault
result_of r = r >>= at_end

-- the instants by the definition are those of the state after the items, or their fault
instants-by_steps : (nets : List Net) (items : List BodyItem) (r : Result DumpState VcdFault)
    → steps nets (at_start nets) items
    ≡ r
    → (context_after_all nets first_context items >>= λ end. at_the_end end >>= λ stood. Ok (instants_of nets items))
    ≡ result_of r
instants-by_steps nets items (Ok s) e =
    let stand : context_after_all nets first_context items ≡ Ok s.context = context_after_all-steps nets (at_start nets)
    items
    ∙ ap (λ (r : Result DumpState VcdFault). r >>= λ end. Ok end.context) e in
    let law = ended-instants_of nets items s e in
    rw (stand, ← law) refl
instants-by_steps nets items (Err fault) e =
    let stand : context_after_all nets first_context items ≡ Err fault = context_after_all-steps nets (at_start nets)
    items
    ∙ ap (λ (r : Result DumpState VcdFault). r >>= λ end. Ok end.context) e in
    rw stand refl

-- the instants of a body are what the fold over its items gives at their end
pub instants_from-steps : (nets : List Net) (tokens : List Token) (s : DumpState) → s ≡ at_start nets
    → instants_from nets tokens
    ≡ (steps nets s (body_from ready tokens) >>= at_end)
instants_from-steps nets tokens s e = instants-by_steps nets (body_from ready tokens) _ refl
    ∙ ap (λ (s : DumpState). steps nets s (body_from ready tokens) >>= at_end) (sym e)

-- if the first part of a reading fails with this kind of fault at this line, so does the whole
pub ReadFailsAs-then : {X Y : Type 0} (line : ℕ) (kind : FaultKind) (r : Result X VcdFault)
    (next : X → Result Y VcdFault)
    → ReadFailsAs line kind r → ReadFailsAs line kind (r >>= next)
ReadFailsAs-then line Memory r next h = h
ReadFailsAs-then {X = X} {Y = Y} line kind r next h = ap (λ (r : Result X VcdFault). r >>= next) h

-- if the first part of a reading fails, the whole fails
pub ReadFails-first : {X Y : Type 0} (fault : VcdFault) (r : Result X VcdFault) (next : X → Result Y VcdFault)
    (whole : Result Y VcdFault) → whole ≡ (r >>= next) → ReadFails fault r → ReadFails fault whole
ReadFails-first fault r next whole e h = rw e (ReadFailsAs-then fault.line fault.kind r next h)

-- if `r` followed by a total function `f` fails, `r` fails with the same fault
pub ReadFailsAs-before_total : {X Y : Type 0} (line : ℕ) (kind : FaultKind) (r : Result X VcdFault) (f : X → Y)
    → ReadFailsAs line kind (r >>= λ x. Ok (f x)) → ReadFailsAs line kind r
ReadFailsAs-before_total line Memory r f h = h
ReadFailsAs-before_total line kind (Ok x) f h = absurd (cc h)
ReadFailsAs-before_total line kind (Err fault) f h = let same : fault ≡ record { line = line; kind = kind } =
    cc h in ap Err same

-- if reading fails with `fault`, `ReadGives` holds of the error `fault`, as `?` returns it
pub ReadGives-error : {X Y : Type 0} (view : X → Y) (r : Result X VcdFault) (fault : VcdFault)
    (read : Result Y VcdFault)
    → IsErrAnd r (λ e. e ≡ fault) → ReadFails fault read → ReadGives view r read
ReadGives-error view (Ok x) fault read is h = absurd is
ReadGives-error view (Err e) fault read is h = rw is h

-- what is read without a fault, and then gives instants, gives these
ok-same_instants : (r : Result BodyContext VcdFault) (xs ys : List Instant) → (r >>= λ stood. Ok xs) ≡ Ok ys → xs ≡ ys
ok-same_instants (Ok stood) xs ys h = cc
ok-same_instants (Err fault) xs ys h = absurd cc

-- the times of the instants that the state after the items gives ascend
TimesAscend-by_steps : (nets : List Net) (items : List BodyItem) (r : Result DumpState VcdFault)
    (instants : List Instant)
    → steps nets (at_start nets) items ≡ r → result_of r ≡ Ok instants → TimesAscend instants
TimesAscend-by_steps nets items (Ok s) instants e whole = subst TimesAscend (sym (ended-instants_of nets items s e)
    ∙ ok-same_instants (at_the_end s.context) (ended s.progress) instants whole)
    (TimesAscend-instants_of nets items s e)
TimesAscend-by_steps nets items (Err fault) instants e whole = absurd cc

-- the times of the instants of a body ascend
pub TimesAscend-instants_from : (nets : List Net) (tokens : List Token) (instants : List Instant)
    → instants_from nets tokens
    ≡ Ok instants → TimesAscend instants
TimesAscend-instants_from nets tokens instants whole = TimesAscend-by_steps nets (body_from ready tokens) _ instants
    refl
    (sym (instants_from-steps nets tokens (at_start nets) refl) ∙ whole)
