-- Rows of the same cycle agree, and so do rows of the same transfer, if they show what the lines show.
use Rattle.std.proofs.Common.{◌≡◌, ℕ, ◌/◌, ◌%◌, true, refl, sym, ◌∙◌, ap, ap₂, subst, arith, inl, inr}
use Rattle.std.proofs.lemmas.Nat.Bits.{same_from_bits_below}
use Rattle.std.specs.Int.{bit_at}
use Rattle.std.specs.Prelude.{Option, None, Some}
use Rattle.vme_trace.specs.Cycle.{highest_address, is_block}
use Rattle.vme_trace.specs.Lanes.{lanes_at}
use Rattle.vme_trace.specs.Levels.{is_low}
use Rattle.vme_trace.specs.LineNumbers.{AM, IACK, WRITE}
use Rattle.vme_trace.specs.Signals.{level, low, high}
use Rattle.vme_trace.specs.Trace.{Trace, levels_at}
use Rattle.vme_trace.specs.declared.class.Class.TheVariants as class
use Rattle.vme_trace.specs.declared.data.Lanes.{Lanes}
use Rattle.vme_trace.proofs.Changing.{high_not_low}
use Rattle.vme_trace.proofs.Ranges.{clash}
use Rattle.vme_listing.specs.declared.row.Direction.TheVariants.{Read, Write}
use Rattle.vme_listing.specs.declared.row.Row.{Row}
use Rattle.vme_listing.specs.declared.row.Row.TheVariants.{Start, Reset, OpenTenure, Tenure, AddressedCycle}
use Rattle.vme_listing.specs.declared.row.Row.TheVariants.{FreeCycle, InterruptCycle, Transfer, PendingTransfer}
use Rattle.vme_listing.specs.declared.row.Row.TheVariants as row
use Rattle.vme_split.specs.Split.{ShowsBit, ShowNumber, address_line, data_instant, HaveSameData}
use Rattle.vme_split.specs.Split.{ShowsAcknowledge, ShowsModifier, ShowsAddress, ShowsDirection, ShowsData, IsOfItsCode}
use Rattle.vme_split.specs.Split.{AgreeOnCycle, AgreeOnTransfer}

-- a line isn't both high and low
high-not_low : (t : Trace) (line i : ℕ) → high t line i ≡ true → low t line i ≡ true → ⊥
unfolding high low
high-not_low t line i h l = clash (is_low (level t line i)) l (high_not_low (level t line i) h)

-- a line shows one bit at an instant
ShowsBit-equal : (t : Trace) (line i a b : ℕ) → ShowsBit t line i a → ShowsBit t line i b → a ≡ b
ShowsBit-equal t line i a b (inl x) (inl y) = x.0 ∙ sym y.0
ShowsBit-equal t line i a b (inl x) (inr y) = absurd (high-not_low t line i x.1 y.1)
ShowsBit-equal t line i a b (inr x) (inl y) = absurd (high-not_low t line i y.1 x.1)
ShowsBit-equal t line i a b (inr x) (inr y) = x.0 ∙ sym y.0

-- lines show one number at an instant
ShowNumber-equal : (t : Trace) (line : ℕ → ℕ) (count i x y : ℕ) → ShowNumber t line count i x
    → ShowNumber t line count i y
    → x ≡ y
ShowNumber-equal t line count i x y a b = same_from_bits_below count x y a.0 b.0
    (λ n small. ShowsBit-equal t (line n) i (bit_at x n) (bit_at y n) (a.1 n small) (b.1 n small))

-- lines show one number at instants that are the same
ShowNumber-equal_at : (t : Trace) (line : ℕ → ℕ) (count i j x y : ℕ) → i ≡ j → ShowNumber t line count i x
    → ShowNumber t line count j y → x ≡ y
ShowNumber-equal_at t line count i j x y q a b =
    ShowNumber-equal t line count i x y a (subst (λ (k : ℕ). ShowNumber t line count k y) (sym q) b)

-- the lines of the modifier show one code at an instant
ShowNumber-code : (t : Trace) (i j m n : ℕ) → i ≡ j → ShowNumber t (λ k. AM k) 6 i m → ShowNumber t (λ k. AM k) 6 j n
    → m ≡ n
ShowNumber-code t i j m n q a b = ShowNumber-equal_at t (λ k. AM k) 6 i j m n q a b

-- the address lines that are meaningful with a code show one address at an instant
ShowNumber-address : (t : Trace) (i j m n a b : ℕ) → i ≡ j → m ≡ n
    → (a % 2 ≡ 0) × ShowNumber t (λ k. address_line k) (highest_address m) i (a / 2)
    → (b % 2 ≡ 0) × ShowNumber t (λ k. address_line k) (highest_address n) j (b / 2) → a ≡ b
ShowNumber-address t i j m n a b q p x y =
    let half : a / 2 ≡ b / 2 = ShowNumber-equal_at t (λ k. address_line k) (highest_address m) i j (a / 2) (b / 2) q x.1
    (subst (λ (k : ℕ). ShowNumber t (λ k. address_line k) (highest_address k) j (b / 2)) (sym p) y.1) in
    omega (arith, half, x.0, y.0)

-- rows of cycles that show what the lines show as the cycle starts agree if the cycles start at one instant
pub cycles_alike : (t : Trace) (told other : Row) → ShowsAcknowledge t told → ShowsAcknowledge t other
    → IsOfItsCode told → IsOfItsCode other → ShowsModifier t told → ShowsModifier t other
    → ShowsAddress t told → ShowsAddress t other → AgreeOnCycle told other
cycles_alike t (Start i) other ack ack' of of' code code' place place' = tt
cycles_alike t (Reset i) other ack ack' of of' code code' place place' = tt
cycles_alike t (OpenTenure i e) other ack ack' of of' code code' place place' = tt
cycles_alike t (Tenure i l s e) other ack ack' of of' code code' place place' = tt
cycles_alike t (AddressedCycle i c m a e) (Start i') ack ack' of of' code code' place place' = tt
cycles_alike t (AddressedCycle i c m a e) (Reset i') ack ack' of of' code code' place place' = tt
cycles_alike t (AddressedCycle i c m a e) (OpenTenure i' e') ack ack' of of' code code' place place' = tt
cycles_alike t (AddressedCycle i c m a e) (Tenure i' l' s' e') ack ack' of of' code code' place place' = tt
cycles_alike t (AddressedCycle i class.S m a e) (AddressedCycle i' class.S m' a' e') ack ack' of of' code code' place
    place' = λ q. let same = ShowNumber-code t i i' m m' q code code' in
    (refl, same, ShowNumber-address t i i' m m' a a' q same place place')
cycles_alike t (AddressedCycle i class.S m a e) (AddressedCycle i' class.K m' a' e') ack ack' of of' code code' place
    place' = λ q. absurd (clash (is_block m) (ap is_block (ShowNumber-code t i i' m m' q code code') ∙ of') of.0)
cycles_alike t (AddressedCycle i class.S m a e) (AddressedCycle i' class.I m' a' e') ack ack' of of' code code' place
    place' = absurd of'
cycles_alike t (AddressedCycle i class.S m a e) (AddressedCycle i' class.F m' a' e') ack ack' of of' code code' place
    place' = absurd of'
cycles_alike t (AddressedCycle i class.K m a e) (AddressedCycle i' class.S m' a' e') ack ack' of of' code code' place
    place' = λ q. absurd (clash (is_block m) of (ap is_block (ShowNumber-code t i i' m m' q code code') ∙ of'.0))
cycles_alike t (AddressedCycle i class.K m a e) (AddressedCycle i' class.K m' a' e') ack ack' of of' code code' place
    place' = λ q. let same = ShowNumber-code t i i' m m' q code code' in
    (refl, same, ShowNumber-address t i i' m m' a a' q same place place')
cycles_alike t (AddressedCycle i class.K m a e) (AddressedCycle i' class.I m' a' e') ack ack' of of' code code' place
    place' = absurd of'
cycles_alike t (AddressedCycle i class.K m a e) (AddressedCycle i' class.F m' a' e') ack ack' of of' code code' place
    place' = absurd of'
cycles_alike t (AddressedCycle i class.I m a e) (AddressedCycle i' class.S m' a' e') ack ack' of of' code code' place
    place' = absurd of
cycles_alike t (AddressedCycle i class.I m a e) (AddressedCycle i' class.K m' a' e') ack ack' of of' code code' place
    place' = absurd of
cycles_alike t (AddressedCycle i class.I m a e) (AddressedCycle i' class.I m' a' e') ack ack' of of' code code' place
    place' = absurd of
cycles_alike t (AddressedCycle i class.I m a e) (AddressedCycle i' class.F m' a' e') ack ack' of of' code code' place
    place' = absurd of
cycles_alike t (AddressedCycle i class.F m a e) (AddressedCycle i' class.S m' a' e') ack ack' of of' code code' place
    place' = absurd of
cycles_alike t (AddressedCycle i class.F m a e) (AddressedCycle i' class.K m' a' e') ack ack' of of' code code' place
    place' = absurd of
cycles_alike t (AddressedCycle i class.F m a e) (AddressedCycle i' class.I m' a' e') ack ack' of of' code code' place
    place' = absurd of
cycles_alike t (AddressedCycle i class.F m a e) (AddressedCycle i' class.F m' a' e') ack ack' of of' code code' place
    place' = absurd of
cycles_alike t (AddressedCycle i class.S m a e) (FreeCycle i' m' e') ack ack' of of' code code' place place' = λ q. of.1
    (ap highest_address (ShowNumber-code t i i' m m' q code code') ∙ of'.1)
cycles_alike t (AddressedCycle i class.K m a e) (FreeCycle i' m' e') ack ack' of of' code code' place place' = λ q.
    clash (is_block m) of (ap is_block (ShowNumber-code t i i' m m' q code code') ∙ of'.0)
cycles_alike t (AddressedCycle i class.I m a e) (FreeCycle i' m' e') ack ack' of of' code code' place place' = absurd of
cycles_alike t (AddressedCycle i class.F m a e) (FreeCycle i' m' e') ack ack' of of' code code' place place' = absurd of
cycles_alike t (AddressedCycle i c m a e) (InterruptCycle i' l' e') ack ack' of of' code code' place place' = λ q.
    high-not_low t IACK i ack (ap (low t IACK) q ∙ ack')
cycles_alike t (AddressedCycle i c m a e) (Transfer d' l' i' c' r' k' x') ack ack' of of' code code' place place' = tt
cycles_alike t (AddressedCycle i c m a e) (PendingTransfer i' d') ack ack' of of' code code' place place' = tt
cycles_alike t (AddressedCycle i c m a e) (row.Verdict o') ack ack' of of' code code' place place' = tt
cycles_alike t (FreeCycle i m e) (Start i') ack ack' of of' code code' place place' = tt
cycles_alike t (FreeCycle i m e) (Reset i') ack ack' of of' code code' place place' = tt
cycles_alike t (FreeCycle i m e) (OpenTenure i' e') ack ack' of of' code code' place place' = tt
cycles_alike t (FreeCycle i m e) (Tenure i' l' s' e') ack ack' of of' code code' place place' = tt
cycles_alike t (FreeCycle i m e) (AddressedCycle i' c' m' a' e') ack ack' of of' code code' place place' = tt
cycles_alike t (FreeCycle i m e) (FreeCycle i' m' e') ack ack' of of' code code' place place' =
    λ q. ShowNumber-code t i i' m
    m' q code code'
cycles_alike t (FreeCycle i m e) (InterruptCycle i' l' e') ack ack' of of' code code' place place' = λ q. high-not_low t
    IACK i ack (ap (low t IACK) q ∙ ack')
cycles_alike t (FreeCycle i m e) (Transfer d' l' i' c' r' k' x') ack ack' of of' code code' place place' = tt
cycles_alike t (FreeCycle i m e) (PendingTransfer i' d') ack ack' of of' code code' place place' = tt
cycles_alike t (FreeCycle i m e) (row.Verdict o') ack ack' of of' code code' place place' = tt
cycles_alike t (InterruptCycle i l e) (Start i') ack ack' of of' code code' place place' = tt
cycles_alike t (InterruptCycle i l e) (Reset i') ack ack' of of' code code' place place' = tt
cycles_alike t (InterruptCycle i l e) (OpenTenure i' e') ack ack' of of' code code' place place' = tt
cycles_alike t (InterruptCycle i l e) (Tenure i' l' s' e') ack ack' of of' code code' place place' = tt
cycles_alike t (InterruptCycle i l e) (AddressedCycle i' c' m' a' e') ack ack' of of' code code' place place' = tt
cycles_alike t (InterruptCycle i l e) (FreeCycle i' m' e') ack ack' of of' code code' place place' = tt
cycles_alike t (InterruptCycle i l e) (InterruptCycle i' l' e') ack ack' of of' code code' place place' = λ q.
    ShowNumber-equal_at t (λ k. address_line k) 3 i i' l l' q place place'
cycles_alike t (InterruptCycle i l e) (Transfer d' l' i' c' r' k' x') ack ack' of of' code code' place place' = tt
cycles_alike t (InterruptCycle i l e) (PendingTransfer i' d') ack ack' of of' code code' place place' = tt
cycles_alike t (InterruptCycle i l e) (row.Verdict o') ack ack' of of' code code' place place' = tt
cycles_alike t (Transfer d l i c r k x) other ack ack' of of' code code' place place' = tt
cycles_alike t (PendingTransfer i d) other ack ack' of of' code code' place place' = tt
cycles_alike t (row.Verdict o) other ack ack' of of' code code' place place' = tt

-- rows of transfers that show the direction and the data agree if the transfers start at one instant
pub transfers_alike : (t : Trace) (told other : Row) → ShowsDirection t told → ShowsDirection t other
    → ShowsData t told → ShowsData t other → AgreeOnTransfer told other
transfers_alike t (Start i) other way way' lanes lanes' = tt
transfers_alike t (Reset i) other way way' lanes lanes' = tt
transfers_alike t (OpenTenure i e) other way way' lanes lanes' = tt
transfers_alike t (Tenure i l s e) other way way' lanes lanes' = tt
transfers_alike t (AddressedCycle i c m a e) other way way' lanes lanes' = tt
transfers_alike t (FreeCycle i m e) other way way' lanes lanes' = tt
transfers_alike t (InterruptCycle i l e) other way way' lanes lanes' = tt
transfers_alike t (Transfer d l i c r k x) (Start i') way way' lanes lanes' = tt
transfers_alike t (Transfer d l i c r k x) (Reset i') way way' lanes lanes' = tt
transfers_alike t (Transfer d l i c r k x) (OpenTenure i' e') way way' lanes lanes' = tt
transfers_alike t (Transfer d l i c r k x) (Tenure i' l' s' e') way way' lanes lanes' = tt
transfers_alike t (Transfer d l i c r k x) (AddressedCycle i' c' m' a' e') way way' lanes lanes' = tt
transfers_alike t (Transfer d l i c r k x) (FreeCycle i' m' e') way way' lanes lanes' = tt
transfers_alike t (Transfer d l i c r k x) (InterruptCycle i' l' e') way way' lanes lanes' = tt
transfers_alike t (Transfer Read l i c r k x) (Transfer Read l' i' c' r' k' x') way way' lanes lanes' = λ q.
    (refl, λ p. subst (λ (y : Option Lanes). HaveSameData y x') (sym lanes) tt)
transfers_alike t (Transfer Read l i c r k x) (Transfer Write l' i' c' r' k' x') way way' lanes lanes' = λ q. absurd
    (high-not_low t WRITE i way (ap (low t WRITE) q ∙ way'))
transfers_alike t (Transfer Write l i c r k x) (Transfer Read l' i' c' r' k' x') way way' lanes lanes' = λ q. absurd
    (high-not_low t WRITE i' way' (ap (low t WRITE) (sym q) ∙ way))
transfers_alike t (Transfer Write l i c r k None) (Transfer Write l' i' c' r' k' x') way way' lanes lanes' = λ q.
    (refl, λ p. tt)
transfers_alike t (Transfer Write l i c r k (Some x)) (Transfer Write l' i' c' r' k' None) way way' lanes lanes' = λ q.
    (refl, λ p. tt)
transfers_alike t (Transfer Write l i c r k (Some x)) (Transfer Write l' i' c' r' k' (Some x')) way way' lanes lanes'
    = λ q. (refl, λ p. lanes ∙ (ap₂ (λ (y z : ℕ). lanes_at (levels_at t (data_instant y z))) q p ∙ sym lanes'))
transfers_alike t (Transfer d l i c r k x) (PendingTransfer i' d') way way' lanes lanes' = tt
transfers_alike t (Transfer d l i c r k x) (row.Verdict o') way way' lanes lanes' = tt
transfers_alike t (PendingTransfer i d) (Start i') way way' lanes lanes' = tt
transfers_alike t (PendingTransfer i d) (Reset i') way way' lanes lanes' = tt
transfers_alike t (PendingTransfer i d) (OpenTenure i' e') way way' lanes lanes' = tt
transfers_alike t (PendingTransfer i d) (Tenure i' l' s' e') way way' lanes lanes' = tt
transfers_alike t (PendingTransfer i d) (AddressedCycle i' c' m' a' e') way way' lanes lanes' = tt
transfers_alike t (PendingTransfer i d) (FreeCycle i' m' e') way way' lanes lanes' = tt
transfers_alike t (PendingTransfer i d) (InterruptCycle i' l' e') way way' lanes lanes' = tt
transfers_alike t (PendingTransfer i d) (Transfer d' l' i' c' r' k' x') way way' lanes lanes' = tt
transfers_alike t (PendingTransfer i Read) (PendingTransfer i' Read) way way' lanes lanes' = λ q. refl
transfers_alike t (PendingTransfer i Read) (PendingTransfer i' Write) way way' lanes lanes' = λ q. absurd
    (high-not_low t WRITE i way (ap (low t WRITE) q ∙ way'))
transfers_alike t (PendingTransfer i Write) (PendingTransfer i' Read) way way' lanes lanes' = λ q. absurd
    (high-not_low t WRITE i' way' (ap (low t WRITE) (sym q) ∙ way))
transfers_alike t (PendingTransfer i Write) (PendingTransfer i' Write) way way' lanes lanes' = λ q. refl
transfers_alike t (PendingTransfer i d) (row.Verdict o') way way' lanes lanes' = tt
transfers_alike t (row.Verdict o) other way way' lanes lanes' = tt
