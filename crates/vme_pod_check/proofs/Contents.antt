-- A run on deliveries of the blocks of a recording joins that recording, and reports the verdict on it or a fault that
-- may come.
use Rattle.std.proofs.Common.{◌≡◌, ℕ, ◌*◌, ◌<◌, ◌≤◌, List, length, slice_get, get_or, Some, None}
use Rattle.std.proofs.Common.{Result, Ok, Err, sym, refl, ap, ◌∙◌, subst, arith}
use Rattle.std.specs.Prelude.{All, IfErr, IfOk}
use Rattle.std.proofs.lemmas.Option.{get_or_from_slice_get, same_Some, slice_get-get_or, slice_get_within}
use Rattle.std.proofs.lemmas.List.FromFn.{get_or-map-range_with_len, length-map-range_with_len}
use Rattle.vme_trace.specs.Blocks.{block_at, block_count, blocks_of}
use Rattle.vme_trace.specs.WellFormed.{malformed_step}
use Rattle.vme_trace.specs.Trace.{Trace}
use Rattle.vme_trace.specs.declared.block.Block.{Block}
use Rattle.vme_summary.specs.Joins.{BlocksJoin, joined_trace}
use Rattle.vme_summary.proofs.Cuts.{blocks_of-not_empty, joined_trace-blocks_of, BlocksJoin-blocks_from}
use Rattle.vme_trace.specs.Verdict.{verdict_by, rules_in_force}
use Rattle.vme_trace.specs.declared.verdict.Verdict.{Verdict}
use Rattle.vme_floor.specs.Claims.{IsContent, IsFault, IsRecorded}
use Rattle.vme_floor.specs.declared.answer.Answer.{Answer}
use Rattle.vme_floor.specs.declared.report.Report.{Report}
use Rattle.vme_floor.specs.declared.report.RunFault.{RunFault}
use Rattle.vme_floor.specs.declared.report.RunFault.TheVariants as fault
use Rattle.vme_floor.proofs.Cutting.{list-equal, IsLeastTornBlock-never, in_range-not_out}
use Rattle.vme_pod_check.specs.Deliveries.{AreDeliveries, AreTakenFrom}
use Rattle.vme_pod_check.specs.Outcomes.{MayCome}
use Rattle.vme_pod_check.specs.Judgements.{NeedsThreads}
use Rattle.vme_pod_check.specs.declared.unjudged.Unjudged.{Unjudged}
use Rattle.vme_pod_check.specs.declared.unjudged.Unjudged.TheVariants.{NoWorker}

-- what holds of all items holds of the item with the index k
All-at : (P : Block → Type 0) (xs : List Block) (k : ℕ) (x : Block) → All P xs → slice_get xs k ≡ Some x → P x
All-at P xs k x all at = subst P (get_or_from_slice_get xs k x x at) (all k x (slice_get_within xs k x at))

-- the content of deliveries of some blocks is those blocks
pub IsContent-unique : (blocks deliveries : List Block) (answers : List Answer) (content : List Block) (total : ℕ)
    → total
    ≡ length blocks → AreTakenFrom blocks deliveries → IsContent total deliveries answers content → content ≡ blocks
IsContent-unique blocks deliveries answers content total count of c =
    list-equal content blocks (c.count ∙ count) (λ n b at.
    let f = c.filed n b at in let own : slice_get blocks b.number ≡ Some b = All-at
    (λ (x : Block). slice_get blocks x.number ≡ Some x) deliveries f.0 b of f.1.1 in
    ap (λ (k : ℕ). slice_get blocks k) (sym (c.numbered n b at)) ∙ own)

-- the blocks of a cut of a well-formed recording join
pub BlocksJoin-blocks_of : (t : Trace) (size : ℕ) → malformed_step t ≡ None → BlocksJoin (blocks_of size t)
BlocksJoin-blocks_of t size sound = BlocksJoin-blocks_from t size sound 0 0 0 (block_count size t) refl

-- the block with the index k of a cut is the block k
blocks_of-at : (t : Trace) (size : ℕ) (k : ℕ) (d : Block) → k < block_count size t → get_or (blocks_of size t) k d
    ≡ block_at size t k
blocks_of-at t size k d low = get_or-map-range_with_len (block_at size t) 0 (block_count size t) k k d low (omega arith)

-- the index of each block of a cut is its number
pub AreTakenFrom-blocks_of : (t : Trace) (size : ℕ) → AreTakenFrom (blocks_of size t) (blocks_of size t)
AreTakenFrom-blocks_of t size k d low =
    let long : length (blocks_of size t) ≡ block_count size t = length-map-range_with_len (block_at size t) 0
    (block_count size t) in
    let is = blocks_of-at t size k d (omega (arith, low, long)) in
    let at : slice_get (blocks_of size t) k ≡ Some (block_at size t k) = slice_get-get_or (blocks_of size t) k d low
    ∙ ap (λ (b : Block). Some b) is in
    subst (λ (b : Block). slice_get (blocks_of size t) b.number ≡ Some b) (sym is) at

-- the recording that the content of deliveries makes is the one that their blocks make
joined_trace-unique : (blocks : List Block) (t made : Trace) (content : List Block) → content ≡ blocks
    → joined_trace blocks
    ≡ Some t → joined_trace content ≡ Some made → made ≡ t
joined_trace-unique blocks t made content is joined content_joined = same_Some made t (sym content_joined
    ∙ (ap joined_trace is ∙ joined))

-- a report on deliveries of blocks that join has the verdict on their recording
pub verdict-of_report : (blocks deliveries : List Block) (total : ℕ) (outcome : Result Report RunFault) (t : Trace)
    → total
    ≡ length blocks → AreTakenFrom blocks deliveries → joined_trace blocks ≡ Some t
    → IfOk outcome (λ r. IsRecorded total deliveries r.answers r.capture r.span)
    → IfOk outcome (λ r. r.verdict ≡ verdict_by rules_in_force r.capture)
    → IfOk outcome (λ r. r.verdict ≡ verdict_by rules_in_force t)
verdict-of_report blocks deliveries total (Ok r) t count of joined recorded verdict =
    let content = IsContent-unique blocks deliveries r.answers recorded.blocks total count of recorded.content in
    let same : r.capture ≡ t = joined_trace-unique blocks t r.capture recorded.blocks content joined
    recorded.capture_is in
    verdict ∙ ap (λ (x : Trace). verdict_by rules_in_force x) same
verdict-of_report blocks deliveries total (Err f) t count of joined recorded verdict = tt

-- at most 4,096 blocks have at most 65,536 deliveries, if these are at most twice as many
deliveries-at_most : (blocks deliveries total : ℕ) → total ≡ blocks → total ≤ 4096 → deliveries ≤ 2 * blocks
    → 65536 < deliveries
    → ⊥
deliveries-at_most blocks deliveries total is few short many = omega arith

-- a fault of a run on deliveries of blocks that join, with numbers in range, satisfies `MayCome`
MayCome-of_fault : (blocks deliveries : List Block) (total workers : ℕ) (f : RunFault) → total ≡ length blocks
    → 0 < total
    → total ≤ 4096 → 0 < workers → workers ≤ 64
    → BlocksJoin blocks → AreDeliveries blocks deliveries → IsFault total deliveries workers f → MayCome f
MayCome-of_fault blocks ds total w fault.BadTotal is positive few some most join d r =
    in_range-not_out total 4096 positive few r
MayCome-of_fault blocks ds total w fault.BadDraws is positive few some most join d r =
    deliveries-at_most (length blocks) (length ds)
    total is few d.count r.2
MayCome-of_fault blocks ds total w fault.BadWorkers is positive few some most join d r =
    in_range-not_out w 64 some most r.3
MayCome-of_fault blocks ds total w fault.Memory is positive few some most join d r = tt
MayCome-of_fault blocks ds total w fault.NoWorker is positive few some most join d r = tt
MayCome-of_fault blocks ds total w fault.Stray is positive few some most join d r = r
MayCome-of_fault blocks ds total w (fault.Missing n answers) is positive few some most join d r = tt
MayCome-of_fault blocks ds total w (fault.Torn n answers) is positive few some most join d r =
    let torn = r.1 in
    IsLeastTornBlock-never torn.blocks n
    (subst BlocksJoin (sym (IsContent-unique blocks ds answers torn.blocks total is d.of torn.content)) join) torn.torn

-- a fault with which a run on deliveries of blocks that join ends, with numbers in range, satisfies `MayCome`
pub MayCome-of_outcome : (blocks deliveries : List Block) (total workers : ℕ) (outcome : Result Report RunFault) → total
    ≡ length blocks → 0 < total → total ≤ 4096 → 0 < workers → workers ≤ 64
    → BlocksJoin blocks → AreDeliveries blocks deliveries → IfErr outcome (λ f. IsFault total deliveries workers f)
    → IfErr outcome MayCome
MayCome-of_outcome blocks ds total w (Ok r) is positive few some most join d refusals = tt
MayCome-of_outcome blocks ds total w (Err f) is positive few some most join d refusals =
    MayCome-of_fault blocks ds total w f is
    positive few some most join d refusals

-- with one worker, no thread fails to start
pub NeedsThreads-of_outcome : (deliveries : List Block) (total workers : ℕ) (outcome : Result Report RunFault)
    (judged : Result Verdict Unjudged) → IfErr outcome (λ f. IsFault total deliveries workers f)
    → IfErr judged (λ unjudged. unjudged ≡ NoWorker → outcome ≡ Err fault.NoWorker) → NeedsThreads workers judged
NeedsThreads-of_outcome ds total w outcome (Ok v) refusals alone = tt
NeedsThreads-of_outcome ds total w outcome (Err unjudged) refusals alone = λ is.
    (subst (λ (o : Result Report RunFault). IfErr o (λ f. IsFault total ds w f)) (alone is) refusals).1

-- a fault that satisfies `MayCome` is `NoWorker`, `Memory` or `Missing`
pub MayCome-three_faults : (f : RunFault) → MayCome f → (f ≡ fault.NoWorker → ⊥) → (f ≡ fault.Memory → ⊥)
    → ((n : ℕ) (answers : List Answer) → f ≡ fault.Missing n answers → ⊥) → ⊥
MayCome-three_faults fault.BadTotal may worker memory missing = may
MayCome-three_faults fault.BadDraws may worker memory missing = may
MayCome-three_faults fault.BadWorkers may worker memory missing = may
MayCome-three_faults fault.Memory may worker memory missing = memory refl
MayCome-three_faults fault.NoWorker may worker memory missing = worker refl
MayCome-three_faults fault.Stray may worker memory missing = may
MayCome-three_faults (fault.Missing n answers) may worker memory missing = missing n answers refl
MayCome-three_faults (fault.Torn n answers) may worker memory missing = may

-- a number that isn't above 4,096 is at most 4,096
pub not_above-at_most : (n : ℕ) → (4096 < n → ⊥) → n ≤ 4096
not_above-at_most n h = grind arith

-- a cut that isn't refused for too many blocks has 1 to 4,096 blocks
pub length-blocks_of : (t : Trace) (size : ℕ) (blocks : List Block) → blocks ≡ blocks_of size t
    → block_count size t ≤ 4096
    → (1 ≤ length blocks) × (length blocks ≤ 4096)
length-blocks_of t size blocks is few =
    let full : 0 < length (blocks_of size t) = blocks_of-not_empty t size in
    let long : length (blocks_of size t) ≡ block_count size t = length-map-range_with_len (block_at size t) 0
    (block_count size t) in
    let same : length blocks ≡ length (blocks_of size t) = ap length is in
    (omega (arith, full, same), omega (arith, long, same, few))

-- the recording of a cut is the one that is cut
pub joined_trace-of_cut : (t : Trace) (size : ℕ) (blocks : List Block) → blocks ≡ blocks_of size t → 0 < size
    → joined_trace blocks ≡ Some t
joined_trace-of_cut t size blocks is some = ap joined_trace is ∙ joined_trace-blocks_of t size some
