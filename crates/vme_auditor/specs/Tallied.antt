-- What happens in a recording, counted as its steps come, by the marks of each step.
use Rattle.std.specs.Prelude.{ℕ, ◌+◌, ◌-◌, ◌^◌, ◌==◌, Bool, true, false, Option, None, Some, min, if◌then◌else◌}
use Rattle.std.specs.Option.{option_map_or, option_or}
use Rattle.vme_trace.specs.LineNumbers.{DTACK}
use Rattle.vme_trace.specs.declared.class.Class.{Class}
use Rattle.vme_trace.specs.declared.class.Class.TheVariants as class
use Rattle.vme_monitor.specs.declared.mark.BusGrant.{BusGrant}
use Rattle.vme_monitor.specs.declared.mark.CycleStart.{CycleStart}
use Rattle.vme_monitor.specs.declared.mark.StepMarks.{StepMarks}
use Rattle.vme_monitor.specs.declared.mark.TransferAnswer.{TransferAnswer}
use Rattle.vme_audit.specs.Counted.{nothing_counted}
use Rattle.vme_audit.specs.declared.counts.Counts.{Counts}
use Rattle.vme_auditor.specs.declared.tally.StartedTransfer.{StartedTransfer}
use Rattle.vme_auditor.specs.declared.tally.Tally.{Tally}

-- one more, at most the greatest number of 64 bits
abbrev pub counted : ℕ → ℕ
counted n = min (n + 1) (2 ^ 64 - 1)

-- nothing is counted yet
abbrev pub no_counts : Tally
no_counts = record { counts = nothing_counted; has_cycle = false; waiting = None; unanswered = None }

-- what is counted, where `more` adds one to a count: with or without saturation
module _ (more : ℕ → ℕ) where
  -- the waiting transfer stays without an answer
  abbrev pub left_pending : Tally → Option StartedTransfer → Tally
  left_pending a None = a
  left_pending a (Some started) = record a {
    counts = record a.counts { pending = more a.counts.pending };
    waiting = None;
    unanswered = option_or a.unanswered (Some started);
  }

  -- the waiting transfer, if there is one, stays without an answer
  abbrev pub to_pending : Tally → Tally
  to_pending a = left_pending a a.waiting

  -- the part ends with a break, and another begins
  abbrev pub at_break : Tally → Tally
  at_break a = record (to_pending a) { has_cycle = false; unanswered = None }

  -- a reset ends the stretch
  abbrev pub at_reset : Tally → Tally
  at_reset a =
      let b = at_break a in
      record b { counts = record b.counts { resets = more b.counts.resets } }

  -- a tenure starts
  abbrev pub at_tenure : Tally → BusGrant → Tally
  at_tenure a grant = record a { counts = record a.counts { tenures = more a.counts.tenures } }

  -- a cycle of this class is counted
  abbrev pub of_class : Counts → Class → Counts
  of_class c class.S = record c { single = more c.single }
  of_class c class.K = record c { block = more c.block }
  of_class c class.F = record c { free = more c.free }
  of_class c class.I = record c { acknowledge = more c.acknowledge }

  -- a cycle starts
  abbrev pub at_cycle : Tally → CycleStart → Tally
  at_cycle a start = record a { has_cycle = true; counts = of_class a.counts start.class }

  -- a read, or a write (`true`), is counted
  abbrev pub of_direction : Counts → Bool → Counts
  of_direction c true = record c { writes = more c.writes }
  of_direction c false = record c { reads = more c.reads }

  -- a transfer starts, a write if `write`
  abbrev pub at_transfer : Tally → StartedTransfer → Bool → Tally
  at_transfer a started write =
      let b = to_pending a in
      record b { waiting = Some started; counts = of_direction b.counts write }

  -- an answer by this line is counted
  abbrev pub by_line : Counts → ℕ → Counts
  by_line c line = if line == DTACK then record c { by_dtack = more c.by_dtack }
      else record c { by_berr = more c.by_berr }

  -- the waiting transfer is answered in a cycle
  abbrev pub answered : Tally → ℕ → Option StartedTransfer → Tally
  answered a line None = a
  answered a line (Some started) = record a { waiting = None; counts = by_line a.counts line }

  -- before any cycle an answer leaves the waiting transfer without an answer
  abbrev pub at_answer : Tally → TransferAnswer → Tally
  at_answer a answer = if a.has_cycle then answered a answer.line a.waiting else to_pending a

  -- what happens at a step that breaks no rule, in order
  abbrev pub tallied : Tally → ℕ → ℕ → StepMarks → StepMarks → StepMarks → Tally
  tallied a instant time stretch tenure transfer =
      let b = if stretch.reset then at_reset a else a in
      let c = option_map_or (at_tenure b) tenure.tenure b in
      let d = option_map_or (at_cycle c) transfer.cycle c in
      let e = option_map_or (at_transfer d (record { instant = instant; time = time })) transfer.transfer d in
      option_map_or (at_answer e) transfer.answer e

  -- the counts, if the recording ends here
  abbrev pub counts_so_far : Tally → Counts
  counts_so_far a = (to_pending a).counts

-- the first transfer since the last break or reset that has no answer, if the recording ends here
abbrev pub hang_so_far : Tally → Option StartedTransfer
hang_so_far a = option_or a.unanswered a.waiting
