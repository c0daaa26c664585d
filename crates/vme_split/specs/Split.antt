-- How the rows of a listing split the edges of the lines of a stretch that is judged.
use Rattle.std.specs.Prelude.{◌≡◌, ◌≢◌, ◌⊎◌, ◌<◌, ◌≤◌, ◌+◌, ◌-◌, ◌/◌, ◌%◌, ◌^◌, ◌==◌, ◌&&◌, not}
use Rattle.std.specs.Prelude.{ℕ, suc, Bool, true, false}
use Rattle.std.specs.Prelude.{List, [], ◌∷◌, ◌++◌, map, flat_map, All, Contains, filter, min, nat_lt, if◌then◌else◌}
use Rattle.std.specs.Prelude.{Option, None, Some, MatchOption, IfSome, option_to_list}
use Rattle.std.specs.Int.{bit_at}
use Rattle.vme_trace.specs.Instants.{those}
use Rattle.vme_trace.specs.Cycle.{highest_address, is_block}
use Rattle.vme_trace.specs.LineNumbers.{AS, DTACK, BERR, IACK, AM, WRITE, A, BBSY, grant}
use Rattle.vme_trace.specs.Trace.{Trace, last_instant, levels_at}
use Rattle.vme_trace.specs.Lanes.{lanes_at}
use Rattle.vme_trace.specs.declared.data.Lanes.{Lanes}
use Rattle.vme_trace.specs.Signals.{low, high, falls, rises}
use Rattle.vme_trace.specs.Judged.{Stretch, is_idle_at, is_reset_at, judged_stretches}
use Rattle.vme_trace.specs.Transfers.{strobes_high}
use Rattle.vme_listing.specs.declared.row.AnswerLine.TheVariants.{Dtack, Berr}
use Rattle.vme_trace.specs.declared.class.Class.TheVariants as class
use Rattle.vme_listing.specs.declared.row.Direction.{Direction}
use Rattle.vme_listing.specs.declared.row.Direction.TheVariants.{Read, Write}
use Rattle.vme_trace.specs.declared.verdict.Verdict.{Verdict}
use Rattle.vme_trace.specs.declared.verdict.Verdict.TheVariants as said
use Rattle.vme_listing.specs.declared.row.ListedVerdict.{ListedVerdict}
use Rattle.vme_listing.specs.declared.row.ListedVerdict.TheVariants as outcome
use Rattle.vme_listing.specs.declared.row.Row.{Row}
use Rattle.vme_listing.specs.declared.row.Row.TheVariants.{Start, Reset, OpenTenure, Tenure, AddressedCycle}
use Rattle.vme_listing.specs.declared.row.Row.TheVariants.{FreeCycle, InterruptCycle, Transfer, PendingTransfer}
use Rattle.vme_listing.specs.declared.row.Row.TheVariants as row

-- what lasts from the instant `start` to the instant `end`, or has no end
pub record Interval : Type 0 where
  pub start : ℕ
  pub end : Option ℕ

-- the interval with this start and end
abbrev pub interval : ℕ → Option ℕ → Interval
interval start end = record { start = start; end = end }

-- the tenure of a row, if it is of one
abbrev pub tenure_in : Row → List Interval
tenure_in (OpenTenure start end) = interval start end ∷ []
tenure_in (Tenure start level slot end) = interval start end ∷ []
tenure_in other = []

-- the cycle of a row, if it is of one
abbrev pub cycle_in : Row → List Interval
cycle_in (AddressedCycle start class modifier address end) = interval start end ∷ []
cycle_in (FreeCycle start modifier end) = interval start end ∷ []
cycle_in (InterruptCycle start level end) = interval start end ∷ []
cycle_in other = []

-- the transfer of a row, if it is of one
abbrev pub transfer_in : Row → List Interval
transfer_in (Transfer direction line start cycle answer close lanes) = interval start close ∷ []
transfer_in (PendingTransfer start direction) = interval start None ∷ []
transfer_in other = []

-- the instant at which DTACK answers the transfer of a row, if it does
abbrev pub dtack_in : Row → List ℕ
dtack_in (Transfer direction Dtack start cycle answer close lanes) = answer ∷ []
dtack_in other = []

-- the instant at which BERR answers the transfer of a row, if it does
abbrev pub berr_in : Row → List ℕ
berr_in (Transfer direction Berr start cycle answer close lanes) = answer ∷ []
berr_in other = []

-- the instants at which the intervals start
abbrev pub starts_of : List Interval → List ℕ
starts_of intervals = map (λ a. a.start) intervals

-- the instants at which the intervals end, if they do
abbrev pub ends_of : List Interval → List ℕ
ends_of intervals = flat_map (λ a. option_to_list a.end) intervals

-- the first interval starts at n or later; each interval ends later than it starts; the next one starts later than that
-- end, and after an interval without an end comes none
abbrev pub AreInTurn : ℕ → List Interval → Type 0
AreInTurn n [] = Unit {0}
AreInTurn n (a ∷ more) =
    (n ≤ a.start) × MatchOption a.end (more ≡ []) (λ e. (a.start < e) × AreInTurn (e + 1) more)

-- the first number is n or more, and each later one is more than the one before
abbrev pub Ascends : ℕ → List ℕ → Type 0
Ascends n [] = Unit {0}
Ascends n (i ∷ more) = (n ≤ i) × Ascends (i + 1) more

-- the interval has started at i, and ended no earlier
abbrev pub Covers : Interval → ℕ → Type 0
Covers a i = (a.start ≤ i) × IfSome a.end (λ e. i ≤ e)

-- one of the intervals starts at `start` and covers instant i
abbrev pub StartsOneThatCovers : List Interval → ℕ → ℕ → Type 0
StartsOneThatCovers intervals start i =
    (end : Option ℕ) × Contains intervals (interval start end) × Covers (interval start end) i

-- one of the tenures covers the start of the cycle
abbrev pub StartsInOne : List Interval → Interval → Type 0
StartsInOne tenures cycle = (a : Interval) × Contains tenures a × Covers a cycle.start

-- a tenure is of a level from 0 to 3, and of a slot from 1 to `slots`
abbrev pub IsOfASlot : ℕ → Row → Type 0
IsOfASlot slots (Tenure start level slot end) = (level < 4) × (1 ≤ slot) × (slot ≤ slots)
IsOfASlot slots other = Unit {0}

-- the answer comes in the transfer, and in the cycle that the row names
abbrev pub IsAnsweredInCycle : List Interval → Row → Type 0
IsAnsweredInCycle cycles (Transfer direction line start cycle answer close lanes) =
    Covers (interval start close) answer × StartsOneThatCovers cycles cycle answer
IsAnsweredInCycle cycles other = Unit {0}

-- the address strobe doesn't rise after `start` and before `end`
abbrev pub StaysDown : Trace → ℕ → ℕ → Type 0
StaysDown t start end = (j : ℕ) → start < j → j < end → rises t AS j ≡ false

-- the address strobe doesn't rise after the start of a transfer and before its answer, or before `end` without one
abbrev pub AwaitsAnswer : Trace → ℕ → Row → Type 0
AwaitsAnswer t end (Transfer direction line start cycle answer close lanes) = StaysDown t start answer
AwaitsAnswer t end (PendingTransfer start direction) = StaysDown t start end
AwaitsAnswer t end other = Unit {0}

-- a transfer is a write where WRITE is low as it starts, and a read where it is high
abbrev pub ShowsDirection : Trace → Row → Type 0
ShowsDirection t (Transfer Read line start cycle answer close lanes) = high t WRITE start ≡ true
ShowsDirection t (Transfer Write line start cycle answer close lanes) = low t WRITE start ≡ true
ShowsDirection t (PendingTransfer start Read) = high t WRITE start ≡ true
ShowsDirection t (PendingTransfer start Write) = low t WRITE start ≡ true
ShowsDirection t other = Unit {0}

-- the instant at which the lines show the data of a transfer: the one before its answer, or that of its answer where
-- the transfer starts there
abbrev pub data_instant : ℕ → ℕ → ℕ
data_instant start answer = if start == answer then answer else answer - 1

-- the data of a write, where the row has them, are the levels of the lines that the transfer moves; a read has none
abbrev pub ShowsData : Trace → Row → Type 0
ShowsData t (Transfer Read line start cycle answer close lanes) = lanes ≡ None
ShowsData t (Transfer Write line start cycle answer close None) = Unit {0}
ShowsData t (Transfer Write line start cycle answer close (Some lanes)) =
    lanes ≡ lanes_at (levels_at t (data_instant start answer))
ShowsData t other = Unit {0}

-- a cycle is an interrupt acknowledge where IACK is low as it starts, and another where it is high
abbrev pub ShowsAcknowledge : Trace → Row → Type 0
ShowsAcknowledge t (InterruptCycle start level end) = low t IACK start ≡ true
ShowsAcknowledge t (AddressedCycle start class modifier address end) = high t IACK start ≡ true
ShowsAcknowledge t (FreeCycle start modifier end) = high t IACK start ≡ true
ShowsAcknowledge t other = Unit {0}

-- line l shows the bit at instant i: it is high for 1, and low for 0
abbrev pub ShowsBit : Trace → ℕ → ℕ → ℕ → Type 0
ShowsBit t l i bit = ((bit ≡ 1) × (high t l i ≡ true)) ⊎ ((bit ≡ 0) × (low t l i ≡ true))

-- `count` lines show the number x at instant i: line n shows bit n, and x has no further bits
abbrev pub ShowNumber : Trace → (ℕ → ℕ) → ℕ → ℕ → ℕ → Type 0
ShowNumber t line count i x = (x < 2 ^ count) × ((n : ℕ) → n < count → ShowsBit t (line n) i (bit_at x n))

-- the address lines start with A01
abbrev pub address_line : ℕ → ℕ
address_line n = A (suc n)

-- the modifier code of a cycle is what its six lines show as it starts
abbrev pub ShowsModifier : Trace → Row → Type 0
ShowsModifier t (AddressedCycle start class modifier address end) = ShowNumber t (λ n. AM n) 6 start modifier
ShowsModifier t (FreeCycle start modifier end) = ShowNumber t (λ n. AM n) 6 start modifier
ShowsModifier t other = Unit {0}

-- the address is what the lines show that are meaningful with the modifier code, and its bit 0, which has no line, is
-- 0; the level of an acknowledge is what A01 to A03 show
abbrev pub ShowsAddress : Trace → Row → Type 0
ShowsAddress t (AddressedCycle start class modifier address end) =
    (address % 2 ≡ 0) × ShowNumber t (λ n. address_line n) (highest_address modifier) start (address / 2)
ShowsAddress t (InterruptCycle start level end) = ShowNumber t (λ n. address_line n) 3 start level
ShowsAddress t other = Unit {0}

-- the class is that of the modifier code: K of a block, S of another with an address, and F of one without
abbrev pub IsOfItsCode : Row → Type 0
IsOfItsCode (AddressedCycle start class.S modifier address end) =
    (is_block modifier ≡ false) × (highest_address modifier ≢ 0)
IsOfItsCode (AddressedCycle start class.K modifier address end) = is_block modifier ≡ true
IsOfItsCode (AddressedCycle start class.I modifier address end) = ⊥
IsOfItsCode (AddressedCycle start class.F modifier address end) = ⊥
IsOfItsCode (FreeCycle start modifier end) = (is_block modifier ≡ false) × (highest_address modifier ≡ 0)
IsOfItsCode other = Unit {0}

-- at instant q the nets of the level are low up to the input of the slot, and the slot's output isn't
abbrev pub IsGrantedTo : Trace → ℕ → ℕ → ℕ → Type 0
IsGrantedTo t level slot q =
    ((k : ℕ) → k < slot → low t (grant level k) q ≡ true) × (low t (grant level slot) q ≡ false)

-- a tenure takes a grant: its level is granted to its slot as it starts, or at the instant before
abbrev pub ShowsGrant : Trace → Row → Type 0
ShowsGrant t (Tenure start level slot end) =
    (q : ℕ) × (q ≤ start) × (start ≤ q + 1) × IsGrantedTo t level slot q
ShowsGrant t other = Unit {0}

-- the row of a tenure says `open` where it starts with the stretch, and in no other case
abbrev pub IsOpenAtStart : ℕ → Row → Type 0
IsOpenAtStart first (OpenTenure start end) = start ≡ first
IsOpenAtStart first (Tenure start level slot end) = first < start
IsOpenAtStart first other = Unit {0}

-- the row is of a tenure, a cycle or a transfer
abbrev pub is_traffic : Row → Bool
is_traffic (Start instant) = false
is_traffic (Reset instant) = false
is_traffic (row.Verdict end) = false
is_traffic other = true

-- the direction of the answered transfer of a row, if it names the cycle
abbrev pub direction_in : ℕ → Row → List Direction
direction_in cycle (Transfer direction line start named answer close lanes) =
    if named == cycle then direction ∷ [] else []
direction_in cycle other = []

-- at most one transfer, or a read and then a write
abbrev pub IsSingle : List Direction → Type 0
IsSingle [] = Unit {0}
IsSingle (d ∷ []) = Unit {0}
IsSingle (d ∷ e ∷ []) = (d ≡ Read) × (e ≡ Write)
IsSingle (d ∷ e ∷ f ∷ more) = ⊥

-- all transfers have the same direction
abbrev pub IsOneWay : List Direction → Type 0
IsOneWay [] = Unit {0}
IsOneWay (d ∷ more) = All (λ e. e ≡ d) more

-- at most one transfer, a read
abbrev pub IsVectorRead : List Direction → Type 0
IsVectorRead [] = Unit {0}
IsVectorRead (d ∷ []) = d ≡ Read
IsVectorRead (d ∷ e ∷ more) = ⊥

-- the transfers that name a cycle are those that its class allows
abbrev pub IsOfItsClass : List Row → Row → Type 0
IsOfItsClass rows (AddressedCycle start class.S modifier address end) = IsSingle (flat_map (direction_in start) rows)
IsOfItsClass rows (AddressedCycle start class.K modifier address end) = IsOneWay (flat_map (direction_in start) rows)
IsOfItsClass rows (InterruptCycle start level end) = IsVectorRead (flat_map (direction_in start) rows)
IsOfItsClass rows other = Unit {0}

-- both strobes were high, and one isn't
abbrev pub strobes_leave : Trace → ℕ → Bool
strobes_leave t i = strobes_high t (i - 1) && not (strobes_high t i)

-- both strobes are high again
abbrev pub strobes_return : Trace → ℕ → Bool
strobes_return t i = not (strobes_high t (i - 1)) && strobes_high t i

-- first: the start of the stretch; end: where it ends, or the first instant that isn't listed, where that is earlier
module _ (t : Trace) (first end : ℕ) where
  -- the instants after `first` and before `end` at which p holds, in order
  abbrev pub instants : (ℕ → Bool) → List ℕ
  instants p = those p (first + 1) end

  -- the cycles are those of the address strobe: each of its falls starts one, and each of its rises ends one
  pub record CyclesSplit (rows : List Row) : Type 0 where
    pub start : starts_of (flat_map cycle_in rows) ≡ instants (falls t AS)
    pub stop : ends_of (flat_map cycle_in rows) ≡ instants (rises t AS)
    pub in_turn : AreInTurn (first + 1) (flat_map cycle_in rows)

  -- where the busy line is low at the start, a tenure is open there
  abbrev pub open_tenures : List ℕ
  open_tenures = if low t BBSY first then first ∷ [] else []

  -- the tenures are those of the busy line: each of its falls starts one, and each of its rises ends one; the open
  -- tenure comes first
  pub record TenuresSplit (rows : List Row) : Type 0 where
    pub start : starts_of (flat_map tenure_in rows) ≡ open_tenures ++ instants (falls t BBSY)
    pub stop : ends_of (flat_map tenure_in rows) ≡ instants (rises t BBSY)
    pub in_turn : AreInTurn first (flat_map tenure_in rows)

  -- the transfers are those of the strobes: one starts where both strobes were high and one isn't, and closes where
  -- both are high again
  pub record TransfersSplit (rows : List Row) : Type 0 where
    pub start : starts_of (flat_map transfer_in rows) ≡ instants (strobes_leave t)
    pub close : ends_of (flat_map transfer_in rows) ≡ instants (strobes_return t)
    pub in_turn : AreInTurn (first + 1) (flat_map transfer_in rows)

  -- each fall of an answer line is the answer of one transfer
  pub record AnswersSplit (rows : List Row) : Type 0 where
    pub dtack : flat_map dtack_in rows ≡ instants (falls t DTACK)
    pub berr : flat_map berr_in rows ≡ instants (falls t BERR)

  -- the rows keep the rules, agree with the levels of the lines, and are of tenures, cycles and transfers alone
  pub record KeepsRules (rows : List Row) : Type 0 where
    pub tenures_of_slots : All (IsOfASlot t.opening.slots) rows
    pub open_at_start : All (IsOpenAtStart first) rows
    pub grants : All (ShowsGrant t) rows
    pub cycles_in_tenures : All (StartsInOne (flat_map tenure_in rows)) (flat_map cycle_in rows)
    pub answers_in_cycles : All (IsAnsweredInCycle (flat_map cycle_in rows)) rows
    pub cycles_of_classes : All (IsOfItsClass rows) rows
    pub acknowledges : All (ShowsAcknowledge t) rows
    pub codes_of_classes : All IsOfItsCode rows
    pub modifiers : All (ShowsModifier t) rows
    pub addresses : All (ShowsAddress t) rows
    pub directions : All (ShowsDirection t) rows
    pub written_data : All (ShowsData t) rows
    pub strobe_awaits : All (AwaitsAnswer t end) rows
    pub nothing_else : All (λ told. is_traffic told ≡ true) rows

  -- the rows of a stretch split the edges of its lines, and keep the rules
  pub record SplitsStretch (rows : List Row) : Type 0 where
    pub cycles : CyclesSplit rows
    pub tenures : TenuresSplit rows
    pub transfers : TransfersSplit rows
    pub answers : AnswersSplit rows
    pub keeps : KeepsRules rows

-- limit: the first instant that isn't listed
module _ (t : Trace) (limit : ℕ) where
  -- the reset that ends a stretch
  abbrev pub reset_row : Stretch → List Row
  reset_row stretch = if is_reset_at t stretch.end && nat_lt stretch.end limit then Reset stretch.end ∷ [] else []

  -- a listing has for each stretch in turn its start, the rows that split its edges, and its reset; then the verdict
  abbrev pub SplitsRecording : ListedVerdict → List Stretch → List Row → Type 0
  SplitsRecording end [] rows = rows ≡ row.Verdict end ∷ []
  SplitsRecording end (stretch ∷ stretches) rows =
      (here : List Row) × (later : List Row) × (rows ≡ Start stretch.start ∷ here ++ reset_row stretch ++ later)
      × SplitsStretch t stretch.start (min stretch.end limit) here × SplitsRecording end stretches later

  -- the stretches whose start is listed
  abbrev pub listed_stretches : List Stretch
  listed_stretches = filter (λ stretch. nat_lt stretch.start limit) (judged_stretches t)

-- the rows of a listing split the judged edges of a recording with this verdict: all of them, or those before the
-- break. Where the bus is never idle, no instant is idle, so nothing is judged, and the listing has the verdict alone
abbrev pub Splits : Trace → Verdict → List Row → Type 0
Splits t said.Conforming rows = SplitsRecording t (last_instant t + 1) outcome.Conforming (judged_stretches t) rows
Splits t (said.Broken b) rows =
    SplitsRecording t b.instant (outcome.Broken b.rule b.instant b.line) (listed_stretches t b.instant) rows
Splits t (said.Unreadable b) rows =
    SplitsRecording t b.instant (outcome.Unreadable b.rule b.instant b.line) (listed_stretches t b.instant) rows
Splits t said.NeverIdle rows =
    ((i : ℕ) → i ≤ last_instant t → is_idle_at t i ≡ false) × (rows ≡ row.Verdict outcome.NeverIdle ∷ [])

-- an answered transfer: where it starts, the cycle that it names, and its answer
pub record AnsweredTransfer : Type 0 where
  pub start : ℕ
  pub cycle : ℕ
  pub answer : ℕ

-- the transfer with these instants of its start, of its cycle's start and of its answer
abbrev pub answered_transfer : ℕ → ℕ → ℕ → AnsweredTransfer
answered_transfer start cycle answer = record { start = start; cycle = cycle; answer = answer }

-- the transfer of a row that DTACK answers, if it is of one
abbrev pub answered_by_dtack : Row → List AnsweredTransfer
answered_by_dtack (Transfer direction Dtack start cycle answer close lanes) = answered_transfer start cycle answer ∷ []
answered_by_dtack other = []

-- the transfer of a row that BERR answers, if it is of one
abbrev pub answered_by_berr : Row → List AnsweredTransfer
answered_by_berr (Transfer direction Berr start cycle answer close lanes) = answered_transfer start cycle answer ∷ []
answered_by_berr other = []

-- rows of cycles with the same start are of the same kind, with the same class, modifier and address, or level
abbrev pub AgreeOnCycle : Row → Row → Type 0
AgreeOnCycle (AddressedCycle start class modifier address end) (AddressedCycle began kind code place stop) =
    start ≡ began → (class ≡ kind) × (modifier ≡ code) × (address ≡ place)
AgreeOnCycle (AddressedCycle start class modifier address end) (FreeCycle began code stop) = start ≢ began
AgreeOnCycle (AddressedCycle start class modifier address end) (InterruptCycle began line stop) = start ≢ began
AgreeOnCycle (FreeCycle start modifier end) (FreeCycle began code stop) = start ≡ began → modifier ≡ code
AgreeOnCycle (FreeCycle start modifier end) (InterruptCycle began line stop) = start ≢ began
AgreeOnCycle (InterruptCycle start level end) (InterruptCycle began line stop) = start ≡ began → level ≡ line
AgreeOnCycle told other = Unit {0}

-- where both rows have data, these are the same
abbrev pub HaveSameData : Option Lanes → Option Lanes → Type 0
HaveSameData None other = Unit {0}
HaveSameData (Some lanes) None = Unit {0}
HaveSameData (Some lanes) (Some other) = lanes ≡ other

-- rows of transfers with the same start, both answered or both pending, have the same direction; with the same answer,
-- too, they have the same data, where both have data
abbrev pub AgreeOnTransfer : Row → Row → Type 0
AgreeOnTransfer (Transfer direction line start cycle answer close lanes)
    (Transfer way from began named reply stop others) =
    start ≡ began → (direction ≡ way) × (answer ≡ reply → HaveSameData lanes others)
AgreeOnTransfer (PendingTransfer start direction) (PendingTransfer began way) = start ≡ began → direction ≡ way
AgreeOnTransfer told other = Unit {0}

-- `rows` and `others` have the same tenures, cycles and transfers, and the same answers, each of the same transfer in
-- the same cycle; rows of the same cycle or transfer agree
pub record HaveSameTraffic (rows others : List Row) : Type 0 where
  pub tenures : flat_map tenure_in rows ≡ flat_map tenure_in others
  pub cycles : flat_map cycle_in rows ≡ flat_map cycle_in others
  pub transfers : flat_map transfer_in rows ≡ flat_map transfer_in others
  pub dtack : flat_map answered_by_dtack rows ≡ flat_map answered_by_dtack others
  pub berr : flat_map answered_by_berr rows ≡ flat_map answered_by_berr others
  pub each_cycle : (told other : Row) → Contains rows told → Contains others other → AgreeOnCycle told other
  pub each_transfer : (told other : Row) → Contains rows told → Contains others other → AgreeOnTransfer told other
