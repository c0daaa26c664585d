-- The instants of a body, as a fold over its items.
use Rattle.std.specs.Prelude.{ℕ, ◌+◌, Bool, true, false, ◌&&◌, not, ◌==◌, if◌then◌else◌, List, [], ◌∷◌, ◌++◌, length}
use Rattle.std.specs.Prelude.{replicate, slice_set, Option, Some, None, unwrap_or, Result, Ok}
use Rattle.vcd_read.specs.declared.dump.Bit.{Bit}
use Rattle.vcd_read.specs.declared.dump.Value.{Value}
use Rattle.vcd_read.specs.declared.dump.Instant.{Instant}
use Rattle.vcd_read.specs.declared.fault.VcdFault.{VcdFault}
use Rattle.vcd_read.specs.Numbers.{number, extended}
use Rattle.vcd_read.specs.Header.{◌>>=◌, Net, net_of, size_of}
use Rattle.vcd_read.specs.Body.{BodyItem, time_item, change, BodyContext, context_after}

-- The instants before the current time, and the last value of each net at it.
pub record DumpProgress : Type 0 where
  pub done : List Instant
  pub time : ℕ
  -- whether there is an instant at the current time
  pub has_instant : Bool
  pub current : List (Option (List Bit))

-- the values of the nets that have one, the first net of the list being `net`
abbrev pub values_from : ℕ → List (Option (List Bit)) → List Value
values_from net [] = []
values_from net (None ∷ current) = values_from (net + 1) current
values_from net (Some bits ∷ current) = record { net = net; bits = bits } ∷ values_from (net + 1) current

-- the current instant is done, and no net has a value at the current time
abbrev pub flushed : DumpProgress → DumpProgress
flushed p =
    record p {
      done = p.done ++ record { time = p.time; values = values_from 0 p.current } ∷ [];
      has_instant = false;
      current = replicate (length p.current) None;
    }

-- after a time item: if there is an instant at another time, it is done
abbrev pub advanced : DumpProgress → ℕ → DumpProgress
advanced p t =
    if p.has_instant && not (t == p.time) then record
    (flushed p) { time = t; has_instant = true } else record p { time = t; has_instant = true }

-- after a change of a net to these bits
abbrev pub changed : DumpProgress → ℕ → List Bit → DumpProgress
changed p net bits = record p { has_instant = true; current = slice_set p.current net (Some bits) }

-- the instants at the end of the body
abbrev pub ended : DumpProgress → List Instant
ended p = if p.has_instant then (flushed p).done else p.done

-- the instants after one more item
abbrev pub progress_after : List Net → DumpProgress → BodyItem → DumpProgress
progress_after nets p (time_item line digits) = advanced p (number digits)
progress_after nets p (change line digits code) =
    let net = unwrap_or (net_of nets code) 0 in
    changed p net (extended (size_of nets net) digits)
progress_after nets p item = p

-- ---- the context and the progress together

-- how far a body is read, and its instants so far
pub record DumpState : Type 0 where
  pub context : BodyContext
  pub progress : DumpProgress

-- the state after one more item, or the fault of the item
abbrev pub step : List Net → DumpState → BodyItem → Result DumpState VcdFault
step nets s item = context_after nets s.context item
    >>= λ next. Ok (record { context = next; progress = progress_after nets s.progress item })

-- the state after all items, or their first fault
unfoldable pub steps : List Net → DumpState → List BodyItem → Result DumpState VcdFault
steps nets s [] = Ok s
steps nets s (item ∷ items) = step nets s item >>= λ next. steps nets next items
