-- The saturating counts of a tally are the exact ones: each is at most the number of the steps, which is below 2 ^ 64.
use Rattle.std.proofs.Common.{◌≡◌, ℕ, suc, ◌+◌, ◌-◌, ◌^◌, ◌<◌, ◌≤◌, Bool, true, false, List, [], ◌∷◌, length}
use Rattle.std.proofs.Common.{refl}
use Rattle.std.proofs.Common.{◌∙◌, ap, arith, cond, Option, None, Some}
use Rattle.std.specs.Prelude.{◌==◌}
use Rattle.std.specs.Option.{option_map_or}
use Rattle.vme_trace.specs.Levels.{Levels}
use Rattle.vme_trace.specs.LineNumbers.{DTACK}
use Rattle.vme_trace.specs.Trace.{changed}
use Rattle.vme_trace.specs.declared.class.Class.{Class}
use Rattle.vme_trace.specs.declared.class.Class.TheVariants as class
use Rattle.vme_trace.specs.declared.step.Step.{Step}
use Rattle.vme_monitor.specs.declared.mark.BusGrant.{BusGrant}
use Rattle.vme_monitor.specs.declared.mark.CycleStart.{CycleStart}
use Rattle.vme_monitor.specs.declared.mark.Fault.{Fault}
use Rattle.vme_monitor.specs.declared.mark.StepMarks.{StepMarks}
use Rattle.vme_monitor.specs.declared.mark.TransferAnswer.{TransferAnswer}
use Rattle.vme_summary.specs.Runs.{grant_at, handshake_at, known_at}
use Rattle.vme_audit.specs.declared.counts.Counts.{Counts}
use Rattle.vme_auditor.specs.Memories.{first_fault_of, memories_next}
use Rattle.vme_auditor.specs.Tallied.{answered, at_answer, at_break, at_cycle, at_reset, at_tenure, at_transfer}
use Rattle.vme_auditor.specs.Tallied.{counted, left_pending, of_class, of_direction, tallied, to_pending}
use Rattle.vme_auditor.specs.declared.memories.Memories.{Memories}
use Rattle.vme_auditor.specs.declared.tally.StartedTransfer.{StartedTransfer}
use Rattle.vme_auditor.specs.declared.tally.Tally.{Tally}
use Rattle.vme_auditor.proofs.TalliedSteps.{tally_after, tally_by}
use Rattle.vme_auditor.proofs.ReturnedBreaks.{memories_after}

-- a count below the greatest number of 64 bits gets one more
counted-suc : (k : ℕ) → k < 2 ^ 64 - 1 → counted k ≡ suc k
counted-suc k h = omega arith

-- 1 if a transfer waits for its answer, else 0
abbrev waiting_count : Option StartedTransfer → ℕ
waiting_count None = 0
waiting_count (Some s) = 1

-- bounds of the counts `d`, where `w` is the transfer that waits: at most `r` resets, `t` tenures, `c` cycles of each
-- class and `m` transfers, each with at most one outcome
pub record Fits (r t c m : ℕ) (d : Counts) (w : Option StartedTransfer) : Type 0 where
  pub resets : d.resets ≤ r
  pub tenures : d.tenures ≤ t
  pub single : d.single ≤ c
  pub block : d.block ≤ c
  pub free : d.free ≤ c
  pub acknowledge : d.acknowledge ≤ c
  pub moved : d.reads + d.writes ≤ m
  pub served : d.pending + d.by_dtack + d.by_berr + waiting_count w ≤ d.reads + d.writes

-- the saturating tally `a` is the exact tally `b`, whose counts are within bounds
pub record IsExact (r t c m : ℕ) (a b : Tally) : Type 0 where
  pub same : a ≡ b
  pub fits : Fits r t c m b.counts b.waiting

-- counts within bounds are within greater bounds
Fits-more : (r t c m r' t' c' m' : ℕ) (d : Counts) (w : Option StartedTransfer) → r ≤ r' → t ≤ t' → c ≤ c' → m ≤ m'
    → Fits r t c m d w → Fits r' t' c' m' d w
Fits-more r t c m r' t' c' m' d w p q u v f =
    record {
      resets = omega (arith, f.resets);
      tenures = omega (arith, f.tenures);
      single = omega (arith, f.single);
      block = omega (arith, f.block);
      free = omega (arith, f.free);
      acknowledge = omega (arith, f.acknowledge);
      moved = omega (arith, f.moved);
      served = f.served;
    }

-- counts within bounds whose cycles are others are within bounds, with c' cycles of each class, if the cycles are
Fits-cycles : (r t c m c' : ℕ) (d : Counts) (w : Option StartedTransfer) (single block free acknowledge : ℕ)
    → Fits r t c m d w → single ≤ c' → block ≤ c' → free ≤ c' → acknowledge ≤ c'
    → Fits r t c' m (record d { single = single; block = block; free = free; acknowledge = acknowledge }) w
Fits-cycles r t c m c' d w single block free acknowledge f p q u v =
    record {
      resets = f.resets;
      tenures = f.tenures;
      single = p;
      block = q;
      free = u;
      acknowledge = v;
      moved = f.moved;
      served = f.served;
    }

-- counts within bounds whose transfers are others are within bounds, with m' transfers, if the transfers are; x is the
-- transfer that waits
Fits-transfers : (r t c m m' : ℕ) (d : Counts) (w x : Option StartedTransfer)
    (reads writes pending by_dtack by_berr : ℕ) → Fits r t c m d w → reads + writes ≤ m'
    → pending + by_dtack + by_berr + waiting_count x ≤ reads + writes
    → Fits r t c m' (record d {
      reads = reads;
      writes = writes;
      pending = pending;
      by_dtack = by_dtack;
      by_berr = by_berr;
    }) x
Fits-transfers r t c m m' d w x reads writes pending by_dtack by_berr f p q =
    record {
      resets = f.resets;
      tenures = f.tenures;
      single = f.single;
      block = f.block;
      free = f.free;
      acknowledge = f.acknowledge;
      moved = p;
      served = q;
    }

-- the bounds are r resets, t tenures, c cycles of each class and m transfers
module _ (r t c m : ℕ) where
  -- the tally after the waiting transfer is left without an answer is exact
  pub pending_exact : (a : Tally) → Fits r t c m a.counts a.waiting → m ≤ 2 ^ 64 - 1
      → IsExact r t c m (to_pending counted a) (to_pending suc a)
  pending_exact a f few = by_waiting a.waiting refl
    where
      by_waiting : (w : Option StartedTransfer) → a.waiting ≡ w
          → IsExact r t c m (left_pending counted a w) (left_pending suc a w)
      by_waiting None e = record { same = refl; fits = f }
      by_waiting (Some s) e =
          let served : a.counts.pending + a.counts.by_dtack + a.counts.by_berr + 1 ≤ a.counts.reads + a.counts.writes =
          rw e at f.served in
          record {
            same = rw (counted-suc a.counts.pending (omega (arith, f.moved))) refl;
            fits = Fits-transfers r t c m m a.counts a.waiting None a.counts.reads a.counts.writes
                (suc a.counts.pending) a.counts.by_dtack a.counts.by_berr f f.moved (omega arith);
          }

  -- the tally after a break is exact
  break_exact : (a : Tally) → Fits r t c m a.counts a.waiting → m ≤ 2 ^ 64 - 1
      → IsExact r t c m (at_break counted a) (at_break suc a)
  break_exact a f few =
      let p = pending_exact a f few in
      record {
        same = ap (λ (b : Tally). record b { has_cycle = false; unanswered = None }) p.same;
        fits = p.fits;
      }

  -- the tally after a reset, if there is one (`b`), is exact, with one more reset as bound
  reset_exact : (b : Bool) (a : Tally) → Fits r t c m a.counts a.waiting → r < 2 ^ 64 - 1 → m ≤ 2 ^ 64 - 1
      → IsExact (suc r) t c m (cond b (at_reset counted a) a) (cond b (at_reset suc a) a)
  reset_exact false a f below few =
      record {
        same = refl;
        fits = Fits-more r t c m (suc r) t c m a.counts a.waiting (omega arith) (omega arith) (omega arith)
            (omega arith)
            f;
      }
  reset_exact true a f below few =
      let p = break_exact a f few in
      let d = (at_break suc a).counts in
      record {
        same =
            ap (λ (b : Tally). record b { counts = record b.counts { resets = counted b.counts.resets } }) p.same
            ∙ ap (λ n. record (at_break suc a) { counts = record d { resets = n } })
            (counted-suc d.resets (omega (arith, p.fits.resets)));
        fits = record {
          resets = omega (arith, p.fits.resets);
          tenures = p.fits.tenures;
          single = p.fits.single;
          block = p.fits.block;
          free = p.fits.free;
          acknowledge = p.fits.acknowledge;
          moved = p.fits.moved;
          served = p.fits.served;
        };
      }

  -- the tally after a tenure begins, if one does, is exact, with one more tenure as bound
  tenure_exact : (o : Option BusGrant) (a b : Tally) → IsExact r t c m a b → t < 2 ^ 64 - 1
      → IsExact r (suc t) c m (option_map_or (at_tenure counted a) o a) (option_map_or (at_tenure suc b) o b)
  tenure_exact None a b e below =
      record {
        same = e.same;
        fits = Fits-more r t c m r (suc t) c m b.counts b.waiting (omega arith) (omega arith) (omega arith)
            (omega arith)
            e.fits;
      }
  tenure_exact (Some g) a b e below =
      record {
        same =
            ap (λ (a : Tally). at_tenure counted a g) e.same
            ∙ ap (λ n. record b { counts = record b.counts { tenures = n } })
            (counted-suc b.counts.tenures (omega (arith, e.fits.tenures)));
        fits = record {
          resets = e.fits.resets;
          tenures = omega (arith, e.fits.tenures);
          single = e.fits.single;
          block = e.fits.block;
          free = e.fits.free;
          acknowledge = e.fits.acknowledge;
          moved = e.fits.moved;
          served = e.fits.served;
        };
      }

  -- one more cycle of the class `k` is counted exactly
  of_class-suc : (d : Counts) (w : Option StartedTransfer) (k : Class) → Fits r t c m d w → c < 2 ^ 64 - 1
      → of_class counted d k ≡ of_class suc d k
  of_class-suc d w class.S f below =
      ap (λ n. record d { single = n }) (counted-suc d.single (omega (arith, f.single)))
  of_class-suc d w class.K f below = ap (λ n. record d { block = n }) (counted-suc d.block (omega (arith, f.block)))
  of_class-suc d w class.F f below = ap (λ n. record d { free = n }) (counted-suc d.free (omega (arith, f.free)))
  of_class-suc d w class.I f below =
      ap (λ n. record d { acknowledge = n }) (counted-suc d.acknowledge (omega (arith, f.acknowledge)))

  -- one more cycle of the class `k` is within the bounds, with one more cycle
  of_class-fits : (d : Counts) (w : Option StartedTransfer) (k : Class) → Fits r t c m d w
      → Fits r t (suc c) m (of_class suc d k) w
  of_class-fits d w class.S f =
      Fits-cycles r t c m (suc c) d w (suc d.single) d.block d.free d.acknowledge f (omega (arith, f.single))
      (omega (arith, f.block)) (omega (arith, f.free)) (omega (arith, f.acknowledge))
  of_class-fits d w class.K f =
      Fits-cycles r t c m (suc c) d w d.single (suc d.block) d.free d.acknowledge f (omega (arith, f.single))
      (omega (arith, f.block)) (omega (arith, f.free)) (omega (arith, f.acknowledge))
  of_class-fits d w class.F f =
      Fits-cycles r t c m (suc c) d w d.single d.block (suc d.free) d.acknowledge f (omega (arith, f.single))
      (omega (arith, f.block)) (omega (arith, f.free)) (omega (arith, f.acknowledge))
  of_class-fits d w class.I f =
      Fits-cycles r t c m (suc c) d w d.single d.block d.free (suc d.acknowledge) f (omega (arith, f.single))
      (omega (arith, f.block)) (omega (arith, f.free)) (omega (arith, f.acknowledge))

  -- the tally after a cycle begins, if one does, is exact, with one more cycle as bound
  cycle_exact : (o : Option CycleStart) (a b : Tally) → IsExact r t c m a b → c < 2 ^ 64 - 1
      → IsExact r t (suc c) m (option_map_or (at_cycle counted a) o a) (option_map_or (at_cycle suc b) o b)
  cycle_exact None a b e below =
      record {
        same = e.same;
        fits = Fits-more r t c m r t (suc c) m b.counts b.waiting (omega arith) (omega arith) (omega arith)
            (omega arith)
            e.fits;
      }
  cycle_exact (Some s) a b e below =
      record {
        same =
            ap (λ (a : Tally). at_cycle counted a s) e.same
            ∙ ap (λ (d : Counts). record b { has_cycle = true; counts = d })
            (of_class-suc b.counts b.waiting s.class e.fits below);
        fits = of_class-fits b.counts b.waiting s.class e.fits;
      }

  -- one more transfer of a direction is counted exactly
  of_direction-suc : (d : Counts) (w : Option StartedTransfer) (write : Bool) → Fits r t c m d w → m < 2 ^ 64 - 1
      → of_direction counted d write ≡ of_direction suc d write
  of_direction-suc d w true f below =
      ap (λ n. record d { writes = n }) (counted-suc d.writes (omega (arith, f.moved)))
  of_direction-suc d w false f below = ap (λ n. record d { reads = n }) (counted-suc d.reads (omega (arith, f.moved)))

  -- if no transfer waited, one more transfer, which waits, is within the bounds, with one more transfer
  of_direction-fits : (d : Counts) (s : StartedTransfer) (write : Bool) → Fits r t c m d None
      → Fits r t c (suc m) (of_direction suc d write) (Some s)
  of_direction-fits d s true f =
      Fits-transfers r t c m (suc m) d None (Some s) d.reads (suc d.writes) d.pending d.by_dtack d.by_berr f
      (omega (arith, f.moved)) (omega (arith, f.served))
  of_direction-fits d s false f =
      Fits-transfers r t c m (suc m) d None (Some s) (suc d.reads) d.writes d.pending d.by_dtack d.by_berr f
      (omega (arith, f.moved)) (omega (arith, f.served))

  -- no transfer waits after the waiting one is left without an answer
  none_waits : (a : Tally) → (to_pending suc a).waiting ≡ None
  none_waits a = by_waiting a.waiting refl
    where
      by_waiting : (w : Option StartedTransfer) → a.waiting ≡ w → (left_pending suc a w).waiting ≡ None
      by_waiting None e = e
      by_waiting (Some s) e = refl

  -- the tally after a transfer begins, if one does, is exact, with one more transfer as bound
  transfer_exact : (o : Option Bool) (a b : Tally) (s : StartedTransfer) → IsExact r t c m a b → m < 2 ^ 64 - 1
      → IsExact r t c (suc m) (option_map_or (at_transfer counted a s) o a) (option_map_or (at_transfer suc b s) o b)
  transfer_exact None a b s e below =
      record {
        same = e.same;
        fits = Fits-more r t c m r t c (suc m) b.counts b.waiting (omega arith) (omega arith) (omega arith)
            (omega arith)
            e.fits;
      }
  transfer_exact (Some write) a b s e below =
      let p = pending_exact b e.fits (omega arith) in
      let left = to_pending suc b in
      let unfinished : Fits r t c m left.counts None = rw (none_waits b) at p.fits in
      record {
        same =
            ap (λ (a : Tally). at_transfer counted a s write) e.same
            ∙ ap (λ (b : Tally). record b { waiting = Some s; counts = of_direction counted b.counts write }) p.same
            ∙ ap (λ (d : Counts). record left { waiting = Some s; counts = d })
            (of_direction-suc left.counts left.waiting write p.fits below);
        fits = of_direction-fits left.counts s write unfinished;
      }

  -- the tally after the waiting transfer `s` is answered by DTACK (`dtack`) or BERR is exact
  line_exact : (b : Tally) (s : StartedTransfer) (dtack : Bool) → Fits r t c m b.counts (Some s) → m ≤ 2 ^ 64 - 1
      → IsExact r t c m
      (record b {
        waiting = None;
        counts = cond dtack (record b.counts { by_dtack = counted b.counts.by_dtack })
            (record b.counts { by_berr = counted b.counts.by_berr });
      })
      (record b {
        waiting = None;
        counts = cond dtack (record b.counts { by_dtack = suc b.counts.by_dtack })
            (record b.counts { by_berr = suc b.counts.by_berr });
      })
  line_exact b s true f few =
      record {
        same = ap (λ n. record b { waiting = None; counts = record b.counts { by_dtack = n } })
            (counted-suc b.counts.by_dtack (omega (arith, f.served, f.moved)));
        fits = Fits-transfers r t c m m b.counts (Some s) None b.counts.reads b.counts.writes b.counts.pending
            (suc b.counts.by_dtack) b.counts.by_berr f f.moved (omega (arith, f.served));
      }
  line_exact b s false f few =
      record {
        same = ap (λ n. record b { waiting = None; counts = record b.counts { by_berr = n } })
            (counted-suc b.counts.by_berr (omega (arith, f.served, f.moved)));
        fits = Fits-transfers r t c m m b.counts (Some s) None b.counts.reads b.counts.writes b.counts.pending
            b.counts.by_dtack (suc b.counts.by_berr) f f.moved (omega (arith, f.served));
      }

  -- the tally after the waiting transfer, if there is one, is answered by `line` is exact
  answered_exact : (b : Tally) (line : ℕ) → Fits r t c m b.counts b.waiting → m ≤ 2 ^ 64 - 1
      → IsExact r t c m (answered counted b line b.waiting) (answered suc b line b.waiting)
  answered_exact b line f few = by_waiting b.waiting refl
    where
      by_waiting : (w : Option StartedTransfer) → b.waiting ≡ w
          → IsExact r t c m (answered counted b line w) (answered suc b line w)
      by_waiting None e = record { same = refl; fits = f }
      by_waiting (Some s) e = line_exact b s (line == DTACK) (rw e at f) few

  -- the tally after an answer is exact, within a cycle (`cycle`) or before any
  answer_here : (b : Tally) (line : ℕ) (cycle : Bool) → Fits r t c m b.counts b.waiting → m ≤ 2 ^ 64 - 1
      → IsExact r t c m (cond cycle (answered counted b line b.waiting) (to_pending counted b))
      (cond cycle (answered suc b line b.waiting) (to_pending suc b))
  answer_here b line true f few = answered_exact b line f few
  answer_here b line false f few = pending_exact b f few

  -- the tally after an answer, if there is one, is exact
  answer_exact : (o : Option TransferAnswer) (a b : Tally) → IsExact r t c m a b → m ≤ 2 ^ 64 - 1
      → IsExact r t c m (option_map_or (at_answer counted a) o a) (option_map_or (at_answer suc b) o b)
  answer_exact None a b e few = e
  answer_exact (Some x) a b e few =
      let p = answer_here b x.line b.has_cycle e.fits few in
      record { same = ap (λ (a : Tally). at_answer counted a x) e.same ∙ p.same; fits = p.fits }

-- the tally after a step that breaks no rule, of which p, q and u are the marks of the stretch, the tenure and the
-- transfer, is exact: the step has at most one event of each kind
tallied_exact : (k : ℕ) (a : Tally) (instant time : ℕ) (p q u : StepMarks) → Fits k k k k a.counts a.waiting
    → k < 2 ^ 64 - 1
    → IsExact (suc k) (suc k) (suc k) (suc k) (tallied counted a instant time p q u) (tallied suc a instant time p q u)
tallied_exact k a instant time p q u f below =
    let first = reset_exact k k k k p.reset a f below (omega arith) in
    let second = tenure_exact (suc k) k k k q.tenure _ _ first below in
    let third = cycle_exact (suc k) (suc k) k k u.cycle _ _ second below in
    let fourth = transfer_exact (suc k) (suc k) (suc k) k u.transfer _ _
    (record { instant = instant; time = time }) third
    below in
    answer_exact (suc k) (suc k) (suc k) (suc k) u.answer _ _ fourth (omega arith)

-- the tally after a step, with the fault `fault` or none, is exact, with bounds that are one greater
tally_after_exact : (k : ℕ) (fault : Option Fault) (a : Tally) (instant time : ℕ) (p q u : StepMarks)
    → Fits k k k k a.counts a.waiting → k < 2 ^ 64 - 1
    → IsExact (suc k) (suc k) (suc k) (suc k) (tally_after counted fault a instant time p q u)
    (tally_after suc fault a instant time p q u)
tally_after_exact k None a instant time p q u f below = tallied_exact k a instant time p q u f below
tally_after_exact k (Some fault) a instant time p q u f below =
    let e = break_exact k k k k a f (omega arith) in
    record {
      same = e.same;
      fits = Fits-more k k k k (suc k) (suc k) (suc k) (suc k) (at_break suc a).counts (at_break suc a).waiting
          (omega arith) (omega arith) (omega arith) (omega arith) e.fits;
    }

-- the saturating tally is exact after steps `x`, where `k` bounds the counts before and `k + length x` fits 64 bits
pub tally_exact : (x : List Step) (m : Memories) (o : Levels) (n : ℕ) (a : Tally) (k : ℕ)
    → Fits k k k k a.counts a.waiting → k + length x ≤ 2 ^ 64 - 1
    → IsExact (k + length x) (k + length x) (k + length x) (k + length x) (tally_by counted m o n a x)
    (tally_by suc m o n a x)
unfolding tally_by
tally_exact [] m o n a k f few =
    record {
      same = refl;
      fits = Fits-more k k k k (k + 0) (k + 0) (k + 0) (k + 0) a.counts a.waiting (omega arith) (omega arith)
          (omega arith)
          (omega arith) f;
    }
tally_exact (s ∷ x) m o n a k f few =
    let after = changed o s.changes in
    let fault = first_fault_of m o after s.changes in
    let next = memories_after fault after (memories_next m o after s.changes) in
    let p = (known_at m.known o after s.changes).shown in
    let q = (grant_at m.grant o after s.changes).shown in
    let u = (handshake_at m.handshake o after s.changes).shown in
    let e = tally_after_exact k fault a (n + 1) s.time p q u f (omega arith) in
    let b = tally_after suc fault a (n + 1) s.time p q u in
    let rest = tally_exact x next after (n + 1) b (suc k) e.fits (omega arith) in
    let long : suc k + length x ≤ k + suc (length x) = omega arith in
    record {
      same = ap (λ (a : Tally). tally_by counted next after (n + 1) a x) e.same ∙ rest.same;
      fits = Fits-more (suc k + length x) (suc k + length x) (suc k + length x) (suc k + length x) (k + suc (length x))
          (k + suc (length x)) (k + suc (length x)) (k + suc (length x)) (tally_by suc next after (n + 1) b x).counts
          (tally_by suc next after (n + 1) b x).waiting long long long long rest.fits;
    }
