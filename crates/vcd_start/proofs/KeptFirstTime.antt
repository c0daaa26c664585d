-- Once the first time of a dump is known, reading on leaves it as it is.
use Rattle.std.proofs.Common.{◌≡◌, ℕ, Bool, true, false, List, Option, Some, Result, Ok, Err, refl}
use Rattle.std.proofs.Common.{sym, ap, ◌∙◌}
use Rattle.std.specs.Prelude.{if◌then◌else◌}
use Rattle.vcd_read.specs.declared.fault.VcdFault.{VcdFault}
use Rattle.vcd_read.specs.Body.{BodyContext, BodyItem, at_the_end, body_from}
use Rattle.vcd_read.specs.Contents.{Contents}
use Rattle.vcd_read.specs.Header.{◌>>=◌, Net}
use Rattle.vcd_read.specs.Reached.{Reached}
use Rattle.vcd_read.specs.BodyFold.{State, BodyFold, at_end, ended, state_at, steps}
use Rattle.vcd_read.specs.Tokens.{Token}
use Rattle.vcd_read.proofs.DetachedLemmas.{steps-keep}
use Rattle.vcd_start.specs.FirstTimes.{first_time_of_dump}
use Rattle.vcd_start.specs.FirstTimeReading.{LeadsToFirstTime, first_time_kept, first_time_or}

module _ (nets : List Net) (time : ℕ) where
  -- the first time is known, and is `time`
  abbrev HasTime : BodyFold (Option ℕ) → Type 0
  HasTime p = p.accumulator ≡ Some time

  -- items that are read without a fault leave the first time known
  HasTime-steps : (items : List BodyItem) (s end : State (Option ℕ)) → HasTime s.progress
      → steps first_time_kept first_time_or nets s items ≡ Ok end → HasTime end.progress
  HasTime-steps items s end h is =
      steps-keep first_time_kept first_time_or nets (λ (known : Option ℕ). known ≡ Some time)
      (λ known net bits e. e) (λ known t e. ap (λ (first_time : Option ℕ). first_time_or first_time t) e)
      s items end h is

  -- the end of the last instant leaves the first time known
  ended-HasTime : (p : BodyFold (Option ℕ)) → HasTime p → ended first_time_or p ≡ Some time
  ended-HasTime p h = by_case p.has_instant
    where
      -- whether there is an instant at the last time or not
      by_case : (b : Bool) → (if b then first_time_or p.accumulator p.time else p.accumulator) ≡ Some time
      by_case true = ap (λ (s : Option ℕ). first_time_or s p.time) h
      by_case false = h

  -- the end of the body leaves the first time known
  at_end-HasTime : (s : State (Option ℕ)) (first_time : Option ℕ) (c : Result BodyContext VcdFault) → HasTime s.progress
      → (c >>= λ stood. Ok (ended first_time_or s.progress)) ≡ Ok first_time → first_time ≡ Some time
  at_end-HasTime s first_time (Ok stood) h is =
      let same : ended first_time_or s.progress ≡ first_time = cc in sym same ∙ ended-HasTime s.progress h
  at_end-HasTime s first_time (Err fault) h is = absurd (cc)

-- if a first time is known where reading has come to `r`, it is that of the dump
pub first_time_of_dump-known : (r : Reached (Option ℕ)) (time : ℕ) → r.progress.accumulator ≡ Some time
    → (more : List Token) (dump : Contents) → LeadsToFirstTime r more dump → first_time_of_dump dump ≡ Some time
first_time_of_dump-known r time has more dump comes =
    by_steps (steps first_time_kept first_time_or r.nets (state_at r.progress r.dump_section) (body_from r.place more))
    refl comes
  where
    -- whatever reading the items gives, the first time of the dump is the one that is known
    by_steps : (w : Result (State (Option ℕ)) VcdFault)
        → steps first_time_kept first_time_or r.nets (state_at r.progress r.dump_section) (body_from r.place more) ≡ w
        → (w >>= at_end first_time_or) ≡ Ok (first_time_of_dump dump) → first_time_of_dump dump ≡ Some time
    by_steps (Ok end) is ends =
        at_end-HasTime r.nets time end (first_time_of_dump dump) (at_the_end end.context)
        (HasTime-steps r.nets time (body_from r.place more) (state_at r.progress r.dump_section) end has is) ends
    by_steps (Err fault) is ends = absurd (cc)
