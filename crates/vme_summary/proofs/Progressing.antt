-- Judging continues with further blocks, and with further steps.
use Rattle.std.proofs.Common.{◌≡◌, ℕ, ◌+◌, ◌≤◌, List, [], ◌∷◌, ◌++◌, length, length-append, sym, ◌∙◌, ap, subst, refl}
use Rattle.std.proofs.Common.{Some, None}
use Rattle.std.specs.Option.{option_map, option_or}
use Rattle.vme_trace.specs.Levels.{Levels}
use Rattle.vme_trace.specs.Trace.{Trace, levels_after}
use Rattle.vme_trace.specs.Blocks.{joined_steps}
use Rattle.vme_trace.specs.Verdict.{rules_in_force, verdict_by}
use Rattle.vme_trace.specs.declared.verdict.Verdict.{Verdict}
use Rattle.vme_trace.specs.declared.block.Block.{Block}
use Rattle.vme_trace.specs.declared.step.Change.{Change}
use Rattle.vme_trace.specs.declared.step.Step.{Step}
use Rattle.vme_trace.proofs.CutBlocks.{levels_after-append}
use Rattle.vme_monitor.specs.Outcome.{Outcome, shifted_break}
use Rattle.vme_monitor.specs.Run.{run_of}
use Rattle.vme_monitor.specs.Runs.{run_joined}
use Rattle.vme_monitor.specs.WithoutMarks.{FindsFor}
use Rattle.vme_monitor.specs.declared.mark.Next.{Next}
use Rattle.vme_summary.specs.Summaries.{SummaryStandsFor, stands_finds_all, summary_steps}
use Rattle.vme_summary.specs.Joins.{BlocksJoin}
use Rattle.vme_summary.specs.Extents.{IsExtent, Meets, joined_extent}
use Rattle.vme_summary.specs.Stands.{SpanStandsFor, first_number, recorded, step_count}
use Rattle.vme_summary.specs.Progressed.{FoundAfter, HasCome, HasFound, HasFoundAll, HasJudged, HasMonitorState}
use Rattle.vme_summary.specs.Progressed.{IsFoundOf, judged_steps}
use Rattle.vme_summary.specs.declared.extent.Extent.{Extent}
use Rattle.vme_summary.specs.declared.monitor_states.MonitorStates.{MonitorStates}
use Rattle.vme_summary.specs.declared.running_verdict.RunningVerdict.{RunningVerdict}
use Rattle.vme_summary.specs.declared.monitor_states.MonitorState.{MonitorState}
use Rattle.vme_summary.specs.declared.chunk_summary.ChunkSummary.{ChunkSummary}
use Rattle.vme_summary.specs.declared.verdict_state.VerdictState.{VerdictState}
use Rattle.vme_summary.specs.declared.span.Span.{Span}
use Rattle.vme_summary.proofs.Chains.{joined_steps-append}
use Rattle.vme_summary.proofs.Extents.{IsExtent-joined, levels_after-extent}
use Rattle.vme_summary.proofs.Whole.{joined_trace-well_formed}

-- if a is the state of a monitor after x, the state b of the memory and the break that it is left with by y is its
-- state after x and y
pub HasMonitorState-append : {P : Type 0} (next : P → Levels → Levels → List Change → Next P) (begin : Levels → P)
    (says : P → Outcome P) (count n : ℕ) (a b : MonitorState P) (o : Levels) (x y : List Step)
    → b.memory ≡ (says a.memory).leaving → b.first_break ≡ option_or a.first_break
    (option_map (shifted_break n) (says a.memory).first_break) → n ≡ length x
    → HasMonitorState (run_of next) begin a o x → FindsFor (run_of next) says count (levels_after o x) y
    → HasMonitorState (run_of next) begin b o (x ++ y)
HasMonitorState-append {P} next begin says count n a b o x y m e long seen finds =
    let after = levels_after o x in
    let so_far = run_of next (begin o) o x in
    let rest = run_of next so_far.leaving after y in
    let whole = run_joined next x y (begin o) o in
    let left : (says a.memory).leaving ≡ rest.leaving = finds.leaving a.memory
    ∙ ap (λ (p : P). (run_of next p after y).leaving) seen.memory in
    let broken : (says a.memory).first_break ≡ rest.first_break = finds.first_break a.memory
    ∙ ap (λ (p : P). (run_of next p after y).first_break) seen.memory in
    record {
      memory = m ∙ left ∙ sym (ap (λ (r : Outcome P). r.leaving) whole);
      first_break = e
          ∙ ap (λ (k : ℕ). option_or a.first_break (option_map (shifted_break k) (says a.memory).first_break)) long
          ∙ ap (λ v. option_or a.first_break (option_map (shifted_break (length x)) v)) broken
          ∙ ap (λ v. option_or v (option_map (shifted_break (length x)) rest.first_break)) seen.first_break
          ∙ sym (ap (λ (r : Outcome P). r.first_break) whole);
    }

-- if two extents meet, the joined extent, the number of all steps, and what is found after both are the state of
-- judging after the blocks of both
pub HasCome-append : (p : RunningVerdict) (s : Span) (e : Extent) (n : ℕ) (f : MonitorStates) → e
    ≡ joined_extent p.extent
    s.extent → n ≡ p.steps + summary_steps s.summary → Meets p.extent s.extent
    → FoundAfter p.found p.steps s.summary f
    → (x y : List Block) → HasCome p x → SpanStandsFor s y → HasCome (record { extent = e; steps = n; found = f })
    (x ++ y)
HasCome-append p s e n f same count m found x y c q =
    let opens : s.extent.opening ≡ levels_after p.extent.opening (joined_steps x) = m.opened
    ∙ sym (levels_after-extent p.extent x c.extent) in
    let second : SummaryStandsFor s.summary (levels_after p.extent.opening (joined_steps x)) (joined_steps y) = subst
    (λ v. SummaryStandsFor s.summary v (joined_steps y)) opens q.summary in
    let whole = found p.extent.opening (joined_steps x) (joined_steps y) c.steps c.found (stands_finds_all second) in
    let steps = joined_steps-append x y in
    let added_steps : summary_steps s.summary ≡ length (joined_steps y) = q.summary.known.counted in
    record {
      extent = subst (λ (k : Extent). IsExtent k (x ++ y)) (sym same) (IsExtent-joined p.extent s.extent x y c.extent
          q.extent m);
      steps = count ∙ ap (λ k. k + summary_steps s.summary) c.steps ∙ ap (λ k. length (joined_steps x) + k) added_steps
          ∙ sym (ap length steps ∙ length-append (joined_steps x) (joined_steps y));
      found = subst (λ (k : Extent). HasFound f k.opening (joined_steps (x ++ y))) (sym same)
          (subst (λ (steps : List Step). HasFound f p.extent.opening steps) (sym steps) whole);
    }

-- a verdict that follows from what is found of any recording is that of the recording of the judged blocks, with at
-- most 21 slots
pub verdict-of_HasCome : (p : RunningVerdict) → p.extent.opening.slots ≤ 21 → (v : Verdict)
    → ((t : Trace) → HasFoundAll p.found t → verdict_by rules_in_force t ≡ v) → (blocks : List Block) → HasCome p blocks
    → recorded (verdict_by rules_in_force) blocks ≡ Some v
verdict-of_HasCome p few v found [] c = let none : None ≡ Some p.extent.first = c.extent.first in absurd (cc)
verdict-of_HasCome p few v found (b ∷ bs) c =
    let opens : Some b.opening ≡ Some p.extent.opening = c.extent.opening in
    let same : p.extent.opening ≡ b.opening = cc in
    ap Some
    (found (record { opening = b.opening; steps = joined_steps (b ∷ bs) })
    (record {
      sound = joined_trace-well_formed (b ∷ bs) _ c.extent.join c.extent.sound refl;
      few = subst (λ (v : Levels). v.slots ≤ 21) same few;
      found_there = subst (λ (v : Levels). HasFound p.found v (joined_steps (b ∷ bs))) same c.found;
    }))

-- `judged_steps` is how many steps the judged blocks have
pub judged_steps-of_HasCome : (p : RunningVerdict) (blocks : List Block) → HasCome p blocks → judged_steps p
    ≡ length (joined_steps blocks)
judged_steps-of_HasCome p blocks c = c.steps

-- a span covers as many steps as its blocks have
pub step_count-of_span : (s : Span) (blocks : List Block) → SpanStandsFor s blocks → step_count s
    ≡ length (joined_steps blocks)
step_count-of_span s blocks p = p.summary.known.counted

-- a span starts at the number of its first block
pub first_number-of_span : (s : Span) (b : Block) (bs : List Block) → SpanStandsFor s (b ∷ bs) → first_number s
    ≡ b.number
first_number-of_span s b bs p = let first : Some b.number ≡ Some s.extent.first = p.extent.first in cc

-- blocks that have been judged join
pub BlocksJoin-of_HasCome : (p : RunningVerdict) (blocks : List Block) → HasCome p blocks → BlocksJoin blocks
BlocksJoin-of_HasCome p blocks c = c.extent.join

-- if j is the state of judging after x, it is, with what the summary of y finds, that after x and y
pub HasJudged-append : (j : VerdictState) (m : ChunkSummary) (n : ℕ) (f : MonitorStates) → n ≡ j.steps + summary_steps
    m.summary → FoundAfter j.found j.steps m.summary f
    → (o : Levels) (x y : List Step) → HasJudged j o x → IsFoundOf m (levels_after o x) y
    → HasJudged (record { left = m.left; steps = n; found = f }) o (x ++ y)
HasJudged-append j m n f count found o x y h made =
    let long : summary_steps m.summary ≡ length y = made.finds.known.counted in
    record {
      left = made.left ∙ sym (levels_after-append o x y);
      counted = count ∙ ap (λ k. k + summary_steps m.summary) h.counted ∙ ap (λ k. length x + k) long
          ∙ sym (length-append x y);
      found = found o x y h.counted h.found made.finds;
    }
