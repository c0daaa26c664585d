-- The kind of a row doesn't depend on where the row ends.
use Rattle.std.proofs.Common.{◌≡◌, ℕ, Option, None, Some, refl}
use Rattle.vme_listing.specs.declared.row.Direction.{Direction}
use Rattle.vme_listing.specs.declared.row.Row.{Row}
use Rattle.vme_listing.specs.declared.row.Row.TheVariants as row
use Rattle.vme_trace.specs.declared.class.Class.{Class}
use Rattle.vme_trace.specs.declared.class.Class.TheVariants as class
use Rattle.vme_monitor.specs.declared.mark.TransferAnswer.{TransferAnswer}
use Rattle.vme_summary.specs.MarkedRows.{marked_answer, marked_cycle, marked_line}
use Rattle.vme_account.proofs.KnownLemmas.{IgnoresEnd}
use Rattle.vme_account.specs.RowCounts.{one_if}
use Rattle.vme_account.specs.RowKinds.{is_of}
use Rattle.vme_account.specs.declared.row_kind.RowKind.{RowKind}
use Rattle.vme_account.specs.declared.row_kind.RowKind.TheVariants as kind

-- 1 if the row is of kind `k`, or else 0
abbrev pub weight : RowKind → Row → ℕ
weight k r = one_if (is_of k r)

-- what holds of each kind holds of any
pub by_kind : (P : RowKind → Type 0) → P kind.OpenTenures → ((level slot : ℕ) → P (kind.Tenures level slot))
    → P kind.SingleCycles → P kind.BlockCycles → P kind.FreeCycles → P kind.InterruptCycles → P kind.AnsweredReads
    → P kind.AnsweredWrites → P kind.AnsweredByDtack → P kind.AnsweredByBerr → P kind.PendingTransfers → P kind.Resets
    → (k : RowKind) → P k
by_kind P a b c d e f g h i j l m kind.OpenTenures = a
by_kind P a b c d e f g h i j l m (kind.Tenures level slot) = b level slot
by_kind P a b c d e f g h i j l m kind.SingleCycles = c
by_kind P a b c d e f g h i j l m kind.BlockCycles = d
by_kind P a b c d e f g h i j l m kind.FreeCycles = e
by_kind P a b c d e f g h i j l m kind.InterruptCycles = f
by_kind P a b c d e f g h i j l m kind.AnsweredReads = g
by_kind P a b c d e f g h i j l m kind.AnsweredWrites = h
by_kind P a b c d e f g h i j l m kind.AnsweredByDtack = i
by_kind P a b c d e f g h i j l m kind.AnsweredByBerr = j
by_kind P a b c d e f g h i j l m kind.PendingTransfers = l
by_kind P a b c d e f g h i j l m kind.Resets = m

-- the kinds of the row of an open tenure don't depend on its end
weight-open_tenure : (k : RowKind) (i : ℕ) (e : Option ℕ) → weight k (row.OpenTenure i e)
    ≡ weight k (row.OpenTenure i None)
weight-open_tenure k i e =
    by_kind (λ k. weight k (row.OpenTenure i e) ≡ weight k (row.OpenTenure i None))
    refl (λ level slot. refl) refl refl refl refl refl refl refl refl refl refl k

-- the kinds of the row of a tenure don't depend on its end
weight-tenure : (k : RowKind) (i granted taken : ℕ) (e : Option ℕ)
    → weight k (row.Tenure i granted taken e) ≡ weight k (row.Tenure i granted taken None)
weight-tenure k i granted taken e =
    by_kind (λ k. weight k (row.Tenure i granted taken e) ≡ weight k (row.Tenure i granted taken None))
    refl (λ level slot. refl) refl refl refl refl refl refl refl refl refl refl k

-- the kinds of the row of a cycle with an address don't depend on its end
weight-addressed_cycle : (k : RowKind) (i : ℕ) (c : Class) (modifier address : ℕ) (e : Option ℕ)
    → weight k (row.AddressedCycle i c modifier address e) ≡ weight k (row.AddressedCycle i c modifier address None)
weight-addressed_cycle k i c modifier address e =
    by_kind (λ k. weight k (row.AddressedCycle i c modifier address e)
    ≡ weight k (row.AddressedCycle i c modifier address None))
    refl (λ level slot. refl) refl refl refl refl refl refl refl refl refl refl k

-- the kinds of the row of a free cycle don't depend on its end
weight-free_cycle : (k : RowKind) (i modifier : ℕ) (e : Option ℕ)
    → weight k (row.FreeCycle i modifier e) ≡ weight k (row.FreeCycle i modifier None)
weight-free_cycle k i modifier e =
    by_kind (λ k. weight k (row.FreeCycle i modifier e) ≡ weight k (row.FreeCycle i modifier None))
    refl (λ level slot. refl) refl refl refl refl refl refl refl refl refl refl k

-- the kinds of the row of an interrupt acknowledge don't depend on its end
weight-interrupt_cycle : (k : RowKind) (i asked : ℕ) (e : Option ℕ)
    → weight k (row.InterruptCycle i asked e) ≡ weight k (row.InterruptCycle i asked None)
weight-interrupt_cycle k i asked e =
    by_kind (λ k. weight k (row.InterruptCycle i asked e) ≡ weight k (row.InterruptCycle i asked None))
    refl (λ level slot. refl) refl refl refl refl refl refl refl refl refl refl k

-- the kinds of the row of an answered transfer don't depend on its close
weight-transfer : (k : RowKind) (i : ℕ) (d : Direction) (e : Option ℕ) (r cycle : ℕ) (a : TransferAnswer)
    → weight k (row.Transfer d (marked_line a.line) i cycle r e a.lanes)
    ≡ weight k (row.Transfer d (marked_line a.line) i cycle r None a.lanes)
weight-transfer k i d e r cycle a =
    by_kind (λ k. weight k (row.Transfer d (marked_line a.line) i cycle r e a.lanes)
    ≡ weight k (row.Transfer d (marked_line a.line) i cycle r None a.lanes))
    refl (λ level slot. refl) refl refl refl refl refl refl refl refl refl refl k

-- whether a row is of a kind doesn't depend on where the row ends
pub IgnoresEnd-weight : (k : RowKind) → IgnoresEnd (weight k)
IgnoresEnd-weight k = record {
  open_tenure = weight-open_tenure k;
  tenure = weight-tenure k;
  cycle = by_class;
  answer = by_cycle;
}
  where
    by_class : (i modifier address : ℕ) (e : Option ℕ) (c : Class)
        → weight k (marked_cycle i modifier address e c) ≡ weight k (marked_cycle i modifier address None c)
    by_class i modifier address e class.S = weight-addressed_cycle k i class.S modifier _ e
    by_class i modifier address e class.K = weight-addressed_cycle k i class.K modifier _ e
    by_class i modifier address e class.F = weight-free_cycle k i modifier e
    by_class i modifier address e class.I = weight-interrupt_cycle k i _ e

    by_cycle : (i : ℕ) (d : Direction) (e : Option ℕ) (r : ℕ) (latest : Option ℕ) (a : TransferAnswer)
        → weight k (marked_answer i d e r latest a) ≡ weight k (marked_answer i d None r latest a)
    by_cycle i d e r None a = refl
    by_cycle i d e r (Some cycle) a = weight-transfer k i d e r cycle a
