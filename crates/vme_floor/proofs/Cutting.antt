-- The result of deliveries of a cut: its recording, or a fault for want of memory or of a thread.
use Rattle.std.proofs.Common.{◌≡◌, ℕ, zero, suc, ◌+◌, ◌<◌, ◌≤◌, List, [], ◌∷◌, ◌++◌, append_assoc, length, slice_get}
use Rattle.std.proofs.Common.{take, drop, Some, Result, Ok, Err, sym, refl, ap, ◌∙◌, subst, arith, ◌⊎◌, inl, inr}
use Rattle.std.specs.Prelude.{IfErr, IfOk}
use Rattle.std.proofs.lemmas.List.{take-append-drop}
use Rattle.std.proofs.lemmas.Option.{none-some, same_Some, slice_get_within}
use Rattle.vme_trace.specs.Trace.{Trace}
use Rattle.vme_trace.specs.Verdict.{rules_in_force, verdict_by}
use Rattle.vme_trace.specs.declared.block.Block.{Block}
use Rattle.vme_summary.specs.Joins.{BlocksJoin, joined_trace}
use Rattle.vme_floor.specs.Answering.{IsFiledNumber}
use Rattle.vme_floor.specs.Claims.{HasAnswers, AreAnswered, InRange, IsContent, IsFault, IsLeastUnfiled, IsRecorded}
use Rattle.vme_floor.specs.Cuts.{AreDeliveriesOf, IsCutOf, IsOutcomeOf, LacksMemory}
use Rattle.vme_floor.specs.Orders.{IsLeastTornBlock}
use Rattle.vme_floor.specs.declared.answer.Answer.{Answer}
use Rattle.vme_floor.specs.declared.answer.Answer.TheVariants as answer
use Rattle.vme_floor.specs.declared.report.Report.{Report}
use Rattle.vme_floor.specs.declared.report.RunFault.{RunFault}
use Rattle.vme_floor.specs.declared.report.RunFault.TheVariants as fault
use Rattle.vme_floor.proofs.Places.{slice_get-within}

-- lists of one length that agree at each index are equal
pub list-equal : (xs ys : List Block) → length xs ≡ length ys → ((k : ℕ) (x : Block) → slice_get xs k ≡ Some x
    → slice_get ys k ≡ Some x) → xs ≡ ys
list-equal [] [] e h = refl
list-equal [] (y ∷ ys) e h = absurd (omega arith)
list-equal (x ∷ xs) [] e h = absurd (omega arith)
list-equal (x ∷ xs) (y ∷ ys) e h = let head : x ≡ y = sym (same_Some y x (h zero x refl)) in
    let tail = list-equal xs ys (omega arith) (λ k z at. h (suc k) z at) in λ i. head i ∷ tail i

-- if blocks join, the first k of them do
BlocksJoin-take : (k : ℕ) (xs : List Block) → BlocksJoin xs → BlocksJoin (take k xs)
BlocksJoin-take k xs j = record {
  follow = λ before after a b is. j.follow before (after ++ drop k xs) a b
      (sym (take-append-drop k xs) ∙ (ap (λ (l : List Block). l ++ drop k xs) is ∙ append_assoc before (a ∷ b ∷ after)
      (drop k xs)));
}

-- of blocks that join none is torn
pub IsLeastTornBlock-never : (bs : List Block) (n : ℕ) → BlocksJoin bs → IsLeastTornBlock bs n → ⊥
IsLeastTornBlock-never bs n j t = t.torn (BlocksJoin-take (n + 1) bs j)

-- a number from 1 to `most` is neither 0 nor above `most`
pub in_range-not_out : (n most : ℕ) → 0 < n → n ≤ most → (n ≡ 0) ⊎ (most < n) → ⊥
in_range-not_out n most positive few (inl none) = omega arith
in_range-not_out n most positive few (inr many) = omega arith

module _ (t : Trace) (total workers : ℕ) (blocks deliveries : List Block) (cut : IsCutOf t total blocks)
    (are : AreDeliveriesOf blocks deliveries) (range : InRange total deliveries workers) where
  -- the filed blocks are the blocks of the cut
  IsContent-blocks : (answers : List Answer) (content : List Block) → IsContent total deliveries answers content
      → content
      ≡ blocks
  IsContent-blocks answers content c = list-equal content blocks (c.count ∙ sym cut.count) (λ n b at.
      let f = c.filed n b at in ap (λ (k : ℕ). slice_get blocks k) (sym (c.numbered n b at)) ∙ are.of f.0 b f.1.1)

  -- the recording of the report is that of the cut
  capture-recording : (report : Report) → IsRecorded total deliveries report.answers report.capture report.span
      → report.capture ≡ t
  capture-recording report r =
      let same : r.blocks ≡ blocks = IsContent-blocks report.answers r.blocks r.content in
      same_Some report.capture t (sym r.capture_is ∙ (ap joined_trace same ∙ cut.joined))

  -- the answer to a delivery of a number that is missing is that there was no memory
  LacksMemory-answer : (n d : ℕ) (b : Block) (answers : List Answer) (a : Answer) → HasAnswers total deliveries answers
      → IsLeastUnfiled total deliveries answers n → slice_get blocks n ≡ Some b → slice_get deliveries d ≡ Some b
      → slice_get answers d ≡ Some a → LacksMemory deliveries answers n
  LacksMemory-answer n d b answers answer.Filed told missing at there is = absurd
      (missing.missing (b, cut.numbered n b at, (d, (is, there))))
  LacksMemory-answer n d b answers answer.Stranger told missing at there is = absurd
      (none-some answer.Stranger (sym (cut.accepted n b at) ∙ told.right d answer.Stranger b is there))
  LacksMemory-answer n d b answers answer.TooLong told missing at there is = absurd
      (none-some answer.TooLong (sym (cut.accepted n b at) ∙ told.right d answer.TooLong b is there))
  LacksMemory-answer n d b answers (answer.Malformed step) told missing at there is =
      absurd (none-some (answer.Malformed step)
      (sym (cut.accepted n b at) ∙ told.right d (answer.Malformed step) b is there))
  LacksMemory-answer n d b answers answer.Doubled told missing at there is = absurd
      (missing.missing (subst (λ (k : ℕ). IsFiledNumber deliveries answers k) (cut.numbered n b at)
      (told.doubled d b is there)))
  LacksMemory-answer n d b answers answer.Memory told missing at there is = (d, b, there, cut.numbered n b at, is)

  -- if no delivery of a number was filed, memory ran out for one of them
  LacksMemory-unfiled : (n : ℕ) (answers : List Answer) → HasAnswers total deliveries answers
      → IsLeastUnfiled total deliveries
      answers n → LacksMemory deliveries answers n
  LacksMemory-unfiled n answers told missing =
      let block = slice_get-within blocks n
      (let low = missing.within in let long = cut.count in omega (arith, low, long)) in
      let at : slice_get blocks n ≡ Some block.0 = block.1 in
      let delivery = are.all n block.0 at in
      let near = slice_get_within deliveries delivery.0 block.0 delivery.1 in
      let given = slice_get-within answers delivery.0 (let long = told.count in omega (arith, near, long)) in
      LacksMemory-answer n delivery.0 block.0 answers given.0 told missing at delivery.1 given.1

  -- a refusal is for want of memory or of a thread
  IsOutcomeOf-refusal : (f : RunFault) → AreAnswered total deliveries (Err f) → IsFault total deliveries workers f
      → IsOutcomeOf t deliveries workers (Err f)
  IsOutcomeOf-refusal fault.BadTotal told is = in_range-not_out total 4096 range.total_from range.total_to is
  IsOutcomeOf-refusal fault.BadDraws told is = let few = range.draws_to in let many = is.2 in omega (arith, few, many)
  IsOutcomeOf-refusal fault.BadWorkers told is = in_range-not_out workers 64 range.workers_from range.workers_to is.3
  IsOutcomeOf-refusal fault.Memory told is = tt
  IsOutcomeOf-refusal fault.NoWorker told is = is.1
  IsOutcomeOf-refusal fault.Stray told is = is
  IsOutcomeOf-refusal (fault.Missing n answers) told is = LacksMemory-unfiled n answers told is.1
  IsOutcomeOf-refusal (fault.Torn n answers) told is =
      let torn = is.1 in IsLeastTornBlock-never torn.blocks n
      (subst BlocksJoin (sym (IsContent-blocks answers torn.blocks torn.content))
      cut.joins) torn.torn

  -- the result of a run on deliveries of a cut is the verdict of its recording, or a refusal for want of memory or of a
  -- thread
  pub IsOutcomeOf-result : (outcome : Result Report RunFault) → AreAnswered total deliveries outcome
      → IfOk outcome (λ r. IsRecorded total deliveries r.answers r.capture r.span)
      → IfOk outcome (λ r. r.verdict ≡ verdict_by rules_in_force r.capture)
      → IfErr outcome (λ f. IsFault total deliveries workers f) → IsOutcomeOf t deliveries workers outcome
  IsOutcomeOf-result (Ok report) told recorded judged refusals =
      let same : report.capture ≡ t = capture-recording report recorded in
      (same, judged ∙ ap (λ (c : Trace). verdict_by rules_in_force c) same)
  IsOutcomeOf-result (Err f) told recorded judged refusals = IsOutcomeOf-refusal f told refusals
