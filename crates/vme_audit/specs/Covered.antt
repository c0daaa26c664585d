-- Whether a recording is covered, and the outcome of its audit.
use Rattle.std.specs.Prelude.{ℕ, Bool, true, false, not, ◌+◌, List, [], ◌∷◌, filter, length, nat_lt, Option, None, Some}
use Rattle.std.specs.Prelude.{option_map, if◌then◌else◌}
use Rattle.std.specs.Option.{option_map_or, option_or}
use Rattle.std.specs.List.{list_any}
use Rattle.vme_trace.specs.Judged.{has_any_stretch, judged_stretches}
use Rattle.vme_trace.specs.Trace.{Trace, time_at}
use Rattle.vme_trace.specs.declared.verdict.Break.{Break}
use Rattle.vme_listing.specs.Places.{is_reset}
use Rattle.vme_listing.specs.declared.row.Row.{Row}
use Rattle.vme_listing.specs.declared.row.Row.TheVariants.{PendingTransfer}
use Rattle.vme_audit.specs.Allowances.{is_allowed, unreadables, wrongs}
use Rattle.vme_audit.specs.Counted.{counts, rows_of}
use Rattle.vme_audit.specs.Parts.{Part, breaks, last_part}
use Rattle.vme_audit.specs.declared.allowance.Allowance.{Allowance}
use Rattle.vme_audit.specs.declared.counts.Counts.{Counts}
use Rattle.vme_audit.specs.declared.outcome.CoverageGap.{CoverageGap}
use Rattle.vme_audit.specs.declared.outcome.CoverageGap.TheVariants.{NeverIdle, NeverIdleBehind, FewAnswers, Hang}
use Rattle.vme_audit.specs.declared.outcome.Outcome.{Outcome}
use Rattle.vme_audit.specs.declared.outcome.Outcome.TheVariants.{Conforming, NotCovered, Broken, Unreadable}

-- the start of the transfer of a row, if it is a transfer without an answer
abbrev pub pending_start : Row → Option ℕ
pending_start (PendingTransfer start direction) = Some start
pending_start row = None

-- the start of the first transfer without an answer that no reset follows
abbrev pub hanging : List Row → Option ℕ
hanging [] = None
hanging (row ∷ rows) =
    option_or (if list_any is_reset rows then None else pending_start row) (hanging rows)

-- the start, in the last part, of the first transfer that is still without an answer at the end of the recording, if
-- there is one
unfoldable pub hang : Trace → Option ℕ
hang t = hanging (rows_of (last_part t))

-- a part has a judged stretch
unfoldable pub is_judged_part : Part → Bool
is_judged_part p = has_any_stretch (judged_stretches p.trace)

-- how many transfers were answered
abbrev pub answered : Counts → ℕ
answered c = c.by_dtack + c.by_berr

-- the gap where nothing is judged in the last part, which opens at the last break, if there is one
abbrev pub never_idle : List Break → CoverageGap
never_idle [] = NeverIdle
never_idle (b ∷ bs) = behind b bs
  where
    behind : Break → List Break → CoverageGap
    behind b [] = NeverIdleBehind b.instant
    behind b (c ∷ cs) = behind c cs

-- the gap of a transfer without an answer that starts at instant `start` of the part; it names the instant of the whole
-- recording
abbrev pub hang_from : Part → ℕ → CoverageGap
hang_from p start = Hang (p.start + start) (time_at p.trace start)

-- why a recording isn't covered, if it isn't: nothing was judged since its last break, fewer than `wanted` transfers
-- were answered, or it ends in a hang
unfoldable pub gap : ℕ → Trace → Option CoverageGap
gap wanted t =
    if not (is_judged_part (last_part t)) then Some (never_idle (breaks t))
    else if nat_lt (answered (counts t)) wanted then Some (FewAnswers (answered (counts t)) wanted)
    else option_map (hang_from (last_part t)) (hang t)

-- there is a break
abbrev pub any_of : List Break → Bool
any_of [] = false
any_of (b ∷ bs) = true

-- how many breaks are allowed
abbrev pub allowed_count : List Allowance → Trace → ℕ
allowed_count allowances t = length (filter (is_allowed allowances) (breaks t))

-- the outcome of an audit with these allowances that requires `wanted` answered transfers
unfoldable pub outcome : List Allowance → ℕ → Trace → Outcome
outcome allowances wanted t =
    if any_of (wrongs allowances (breaks t)) then Broken
    else if any_of (unreadables allowances (breaks t)) then Unreadable
    else option_map_or NotCovered (gap wanted t) (Conforming (allowed_count allowances t))
