-- Well-formed blocks that join make a well-formed recording, and a span that stands for them gives the verdict on it.
use Rattle.std.proofs.Common.{◌≡◌, ℕ, suc, ◌≤◌, Bool, true, false, List, [], ◌∷◌, refl, sym, ◌∙◌, ap, subst, arith}
use Rattle.std.proofs.Common.{Option, Some, None}
use Rattle.std.specs.Prelude.{All}
use Rattle.std.specs.Option.{option_or}
use Rattle.vme_trace.specs.Levels.{Levels}
use Rattle.vme_trace.specs.Trace.{Trace}
use Rattle.vme_trace.specs.Block.{trace_of}
use Rattle.vme_trace.specs.Blocks.{joined_steps}
use Rattle.vme_trace.specs.WellFormed.{malformed_step}
use Rattle.vme_trace.specs.Judged.{Stretch as Stretch, has_any_stretch, judged_stretches}
use Rattle.vme_trace.specs.Verdict.{judge, rules_in_force, verdict_by, verdict_on, least_of}
use Rattle.vme_trace.specs.declared.block.Block.{Block}
use Rattle.vme_trace.specs.declared.step.Step.{Step}
use Rattle.vme_trace.specs.declared.verdict.Break.{Break}
use Rattle.vme_trace.specs.declared.verdict.Verdict.{Verdict}
use Rattle.vme_trace.specs.declared.verdict.Verdict.TheVariants.{NeverIdle}
use Rattle.vme_summary.specs.Joins.{BlocksJoin, first_time, is_later_time, joined_trace, last_time, left_by}
use Rattle.vme_summary.specs.Progressed.{HasFound, HasFoundAll}
use Rattle.vme_summary.specs.Summaries.{StandsForAll, SummaryFindsFor, SummaryStandsFor, first_break_of}
use Rattle.vme_summary.specs.Summaries.{stands_finds_all}
use Rattle.vme_summary.specs.Stands.{IsVerdictOf, SpanStandsFor}
use Rattle.vme_summary.specs.declared.monitor_states.MonitorStates.{MonitorStates}
use Rattle.vme_summary.specs.declared.span.Span.{Span}
use Rattle.vme_summary.specs.declared.summary.MonitorSummaries.{MonitorSummaries}
use Rattle.vme_summary.proofs.Chains.{GoOn, GoOn-of_joined, GoOn-without_time}
use Rattle.vme_summary.proofs.Sound.{well_formed-append, well_formed-from_MayComeAfter}

-- a block is well formed
abbrev IsSound : Block → Type 0
IsSound b = malformed_step (trace_of b) ≡ None

-- of blocks that are well formed, those after the first are
AreSound-rest : (b : Block) (bs : List Block) → All IsSound (b ∷ bs) → All IsSound bs
AreSound-rest b bs all k d below = all (suc k) d (omega arith)

-- of blocks that are well formed, the first is
IsSound-first : (b : Block) (bs : List Block) → All IsSound (b ∷ bs) → IsSound b
IsSound-first b bs all = all 0 b (omega arith)

-- a recording without steps is well formed
malformed_step-no_steps : (v : Levels) → malformed_step (record { opening = v; steps = [] }) ≡ None
malformed_step-no_steps v = well_formed-from_MayComeAfter v [] tt

-- blocks that continue some steps begin later than the last of these steps, whatever the time t before them is
is_later_time-of_GoOn : (steps : List Step) (t : Option ℕ) (bs : List Block) (n : ℕ) (v : Levels)
    → GoOn n v (option_or (last_time steps) t) bs → is_later_time (last_time steps) (first_time (joined_steps bs))
    ≡ true
is_later_time-of_GoOn steps t bs n v g =
    by_last (last_time steps) (GoOn-without_time bs n v (option_or (last_time steps) t) g).1
  where
    by_last : (l : Option ℕ) → is_later_time (option_or l t) (first_time (joined_steps bs)) ≡ true
        → is_later_time l (first_time (joined_steps bs)) ≡ true
    by_last None h = refl
    by_last (Some s) h = h

-- the steps of well-formed blocks that go on from the lines v are well formed after v
malformed_step-of_GoOn : (bs : List Block) (n : ℕ) (v : Levels) (t : Option ℕ) → GoOn n v t bs → All IsSound bs
    → malformed_step (record { opening = v; steps = joined_steps bs }) ≡ None
malformed_step-of_GoOn [] n v t g all = malformed_step-no_steps v
malformed_step-of_GoOn (b ∷ bs) n v t g all =
    let whole = well_formed-append b.opening b.steps (joined_steps bs) (IsSound-first b bs all)
    (malformed_step-of_GoOn bs b.number (left_by b) (option_or (last_time b.steps) t) g.3 (AreSound-rest b bs all))
    (is_later_time-of_GoOn b.steps t bs b.number (left_by b) g.3) in
    subst (λ w. malformed_step (record { opening = w; steps = joined_steps (b ∷ bs) }) ≡ None) g.1 whole

-- the steps of well-formed blocks that join are well formed after the opening of the first
malformed_step-of_joined : (b : Block) (bs : List Block) → BlocksJoin (b ∷ bs) → All IsSound (b ∷ bs)
    → malformed_step (record { opening = b.opening; steps = joined_steps (b ∷ bs) }) ≡ None
malformed_step-of_joined b bs j all =
    let g = GoOn-of_joined b bs j in
    let h : GoOn b.number (left_by b) (option_or (last_time b.steps) None) bs = subst
    (λ k. GoOn b.number (left_by b) k bs) (option_or-no_default (last_time b.steps)) g in
    well_formed-append b.opening b.steps (joined_steps bs) (IsSound-first b bs all)
    (malformed_step-of_GoOn bs b.number (left_by b)
    (option_or (last_time b.steps) None) h (AreSound-rest b bs all))
    (is_later_time-of_GoOn b.steps None bs b.number (left_by b) h)
  where
    option_or-no_default : (l : Option ℕ) → l ≡ option_or l None
    option_or-no_default None = refl
    option_or-no_default (Some s) = refl

-- well-formed blocks that join make a well-formed recording
pub joined_trace-well_formed : (blocks : List Block) (t : Trace) → BlocksJoin blocks → All IsSound blocks
    → joined_trace blocks
    ≡ Some t → malformed_step t ≡ None
joined_trace-well_formed [] t j all e = absurd (cc)
joined_trace-well_formed (b ∷ bs) t j all e =
    let whole : record { opening = b.opening; steps = joined_steps (b ∷ bs) } ≡ t = cc in
    subst (λ k. malformed_step k ≡ None) whole (malformed_step-of_joined b bs j all)

-- the summary of a span with at most 21 slots, which stands for blocks, stands for the recording that they make
pub StandsForAll-of_span : (s : Span) → s.extent.opening.slots ≤ 21 → (blocks : List Block) (t : Trace)
    → SpanStandsFor s blocks
    → joined_trace blocks ≡ Some t → StandsForAll s.summary s.extent.opening t
StandsForAll-of_span s few [] t stands e = absurd (cc)
StandsForAll-of_span s few (b ∷ bs) t stands e =
    let opens : Some b.opening ≡ Some s.extent.opening = stands.extent.opening in
    let same : s.extent.opening ≡ b.opening = cc in
    let whole : record { opening = b.opening; steps = joined_steps (b ∷ bs) } ≡ t = cc in
    let here : StandsForAll s.summary s.extent.opening (record { opening = b.opening; steps = joined_steps (b ∷ bs) }) =
    record {
      sound = malformed_step-of_joined b bs stands.extent.join stands.extent.sound;
      few = subst (λ (v : Levels). v.slots ≤ 21) same few;
      opens = same;
      stands = subst (λ (v : Levels). SummaryStandsFor s.summary v (joined_steps (b ∷ bs))) same stands.summary;
    } in
    subst (λ k. StandsForAll s.summary s.extent.opening k) whole here

-- if there is a stretch, the verdict over the stretches is that on the least break in them
judge-some_stretch : (stretches : List Stretch) (t : Trace) → has_any_stretch stretches ≡ true
    → judge rules_in_force t stretches
    ≡ verdict_on (least_of rules_in_force t stretches)
judge-some_stretch [] t e = absurd (cc)
judge-some_stretch (stretch ∷ stretches) t e = refl

-- if there is no stretch, the verdict is that the bus is never idle
judge-no_stretch : (stretches : List Stretch) (t : Trace) → has_any_stretch stretches ≡ false
    → judge rules_in_force t stretches ≡ NeverIdle
judge-no_stretch [] t e = refl
judge-no_stretch (stretch ∷ stretches) t e = absurd (cc)

-- the verdict on a recording of which something is judged is that on its first break
pub verdict_by-judged : (t : Trace) (judged : Bool) (first_break : Option Break) → judged
    ≡ has_any_stretch (judged_stretches t)
    → first_break
    ≡ first_break_of t → judged ≡ true → verdict_by rules_in_force t ≡ verdict_on first_break
unfolding verdict_by
verdict_by-judged t judged first_break started first on = judge-some_stretch (judged_stretches t) t (sym started ∙ on)
    ∙ ap verdict_on (sym first)

-- the verdict on a recording of which nothing is judged is that the bus is never idle
pub verdict_by-unjudged : (t : Trace) (judged : Bool) → judged ≡ has_any_stretch (judged_stretches t) → judged ≡ false
    → verdict_by rules_in_force t ≡ NeverIdle
unfolding verdict_by
verdict_by-unjudged t judged started off = judge-no_stretch (judged_stretches t) t (sym started ∙ off)

-- f has what the monitors that begin at the opening o find of the steps that s covers
abbrev pub FindsFrom : MonitorSummaries → Levels → MonitorStates → Type 0
FindsFrom s o f = (x : List Step) → SummaryFindsFor s o x → HasFound f o x

-- if f has what is found of the steps that s covers, and these are all of t, f has what is found of t
pub HasFoundAll-of_FindsFrom : (s : MonitorSummaries) (o : Levels) (f : MonitorStates) (t : Trace) → FindsFrom s o f
    → StandsForAll s o
    t → HasFoundAll f t
HasFoundAll-of_FindsFrom s o f t finds all =
    let same = all.opens in
    let stands : SummaryStandsFor s o t.steps = subst (λ (v : Levels). SummaryStandsFor s v t.steps) (sym same)
    all.stands in
    record {
      sound = all.sound;
      few = all.few;
      found_there = subst (λ (v : Levels). HasFound f v t.steps) same
          (finds t.steps (stands_finds_all stands));
    }

-- if f has what is found of the steps of a span with at most 21 slots, the verdict that follows from f for any
-- recording is that of the span
pub IsVerdictOf-of_found : (s : Span) → s.extent.opening.slots ≤ 21 → (f : MonitorStates) → FindsFrom s.summary
    s.extent.opening f → (v : Verdict) → ((t : Trace) → HasFoundAll f t → verdict_by rules_in_force t ≡ v)
    → IsVerdictOf s v
IsVerdictOf-of_found s few f finds v found [] stands = let none : None ≡ Some s.extent.first = stands.extent.first in
    absurd (cc)
IsVerdictOf-of_found s few f finds v found (b ∷ bs) stands =
    let t : Trace = record { opening = b.opening; steps = joined_steps (b ∷ bs) } in
    ap Some (found t (HasFoundAll-of_FindsFrom s.summary s.extent.opening f t finds
    (StandsForAll-of_span s few (b ∷ bs) t stands refl)))
