-- The dump that a text denotes.
use Rattle.std.specs.Prelude.{◌≡◌, ℕ, ◌&&◌, ◌==◌, if◌then◌else◌, List, [], ◌∷◌, length, map, Option, Some, None}
use Rattle.std.specs.Prelude.{option_map, unwrap_or, Result, Ok, Err, filter_map, nat_eq}
use Rattle.std.specs.Prelude.{Bool, true, false}
use Rattle.std.specs.List.{range_with_len, dedup}
use Rattle.vcd_read.specs.declared.dump.Bit.{Bit}
use Rattle.vcd_read.specs.declared.dump.Value.{Value}
use Rattle.vcd_read.specs.declared.dump.Instant.{Instant}
use Rattle.vcd_read.specs.declared.fault.FaultKind.{FaultKind}
use Rattle.vcd_read.specs.declared.fault.FaultKind.TheVariants.{NoEndDefinitions, Memory}
use Rattle.vcd_read.specs.declared.fault.VcdFault.{VcdFault}
use Rattle.vcd_read.specs.Contents.{Contents}
use Rattle.vcd_read.specs.Tokens.{Token, tokens, line_after}
use Rattle.vcd_read.specs.Numbers.{number, extended}
use Rattle.vcd_read.specs.Header.{◌>>=◌, Net, net_of, size_of, between, header_from, declare_all, nothing_declared}
use Rattle.vcd_read.specs.Header.{appended}
use Rattle.vcd_read.specs.Body.{BodyItem, time_item, change, ready, body_from, first_context, context_after_all}
use Rattle.vcd_read.specs.Body.{BodyContext, at_the_end, context_after}

-- ---- the instants

-- a change with the time that it has
pub record NetChange : Type 0 where
  pub time : ℕ
  pub net : ℕ
  pub bits : List Bit

-- a change at the time `now`: its digits are extended to the size of the net
abbrev pub change_of : List Net → ℕ → List ℕ → List ℕ → NetChange
change_of nets now digits code =
    let net = unwrap_or (net_of nets code) 0 in
    record { time = now; net = net; bits = extended (size_of nets net) digits }

-- a change has the time of the last time item before it, or else `now`
unfoldable pub changes_from : List Net → ℕ → List BodyItem → List NetChange
changes_from nets now [] = []
changes_from nets now (time_item line digits ∷ items) = changes_from nets (number digits) items
changes_from nets now (change line digits code ∷ items) = change_of nets now digits code ∷ changes_from nets now items
changes_from nets now (item ∷ items) = changes_from nets now items

-- the time of each time item and each change
unfoldable pub times_from : ℕ → List BodyItem → List ℕ
times_from now [] = []
times_from now (time_item line digits ∷ items) = number digits ∷ times_from (number digits) items
times_from now (change line digits code ∷ items) = now ∷ times_from now items
times_from now (item ∷ items) = times_from now items

-- the bits of the last of the changes that is of the net `net` at the time `t`
unfoldable pub last_at : ℕ → ℕ → List NetChange → Option (List Bit)
last_at t net [] = None
last_at t net (c ∷ changes) = elim (last_at t net changes) [
  | Some bits ↦ Some bits
  | None ↦ if c.time == t && c.net == net then Some c.bits else None
]

-- a net, and its bits
abbrev pub value_of : ℕ → List Bit → Value
value_of net bits = record { net = net; bits = bits }

-- the value of a net at the time t, if a change gives it one there
abbrev pub value_at : ℕ → List NetChange → ℕ → Option Value
value_at t changes net = option_map (value_of net) (last_at t net changes)

-- the values of the first `count` nets at the time t
abbrev pub values_at : ℕ → ℕ → List NetChange → List Value
values_at count t changes = filter_map (value_at t changes) (range_with_len 0 count)

-- the instant at the time t, of `count` nets
abbrev pub instant_at : ℕ → List NetChange → ℕ → Instant
instant_at count changes t = record { time = t; values = values_at count t changes }

-- the instants of the items of a body, one for each time, in the order of the text
abbrev pub instants_of : List Net → List BodyItem → List Instant
instants_of nets items = map (instant_at (length nets) (changes_from nets 0 items)) (dedup nat_eq (times_from 0 items))

-- ---- the whole text

-- the tokens after the definitions, or the fault that these don't end
abbrev pub body_of : List ℕ → Option (List Token) → Result (List Token) VcdFault
body_of text None = Err (record { line = line_after text; kind = NoEndDefinitions })
body_of text (Some body) = Ok body

-- the instants of a body, or else its first fault
abbrev pub instants_from : List Net → List Token → Result (List Instant) VcdFault
instants_from nets body = do
  end ← context_after_all nets first_context (body_from ready body)
  stood ← at_the_end end
  Ok (instants_of nets (body_from ready body))

-- the items before the first that is a fault, or all of them
unfoldable pub items_before_fault : List Net → BodyContext → List BodyItem → List BodyItem
items_before_fault nets s [] = []
items_before_fault nets s (item ∷ items) = elim (context_after nets s item) [
  | Ok next ↦ item ∷ items_before_fault nets next items
  | Err fault ↦ []
]

-- the instants before the first fault of a body, or all of them
abbrev pub instants_before_fault : List Net → List Token → List Instant
instants_before_fault nets body = instants_of nets (items_before_fault nets first_context (body_from ready body))

-- the time of the last time item, or else `now`
unfoldable pub last_time : ℕ → List BodyItem → ℕ
last_time now [] = now
last_time now (time_item line digits ∷ items) = last_time (number digits) items
last_time now (item ∷ items) = last_time now items

-- the time of the last time item of a body before its first fault, or its end; 0 if there is none
abbrev pub last_time_before_fault : List Net → List Token → ℕ
last_time_before_fault nets body = last_time 0 (items_before_fault nets first_context (body_from ready body))

-- the dump that `text` denotes, or else its first fault
unfoldable pub dump_of : List ℕ → Result Contents VcdFault
dump_of text =
    let header = header_from between (tokens text) in do
      declared ← declare_all appended (nothing_declared []) header.items
      body ← body_of text header.body
      instants ← instants_from declared.nets body
      Ok (record { variables = declared.variables; instants = instants })

-- ---- what a reader answers

-- a fault of this kind at this line is what reading gives; lack of memory is at line 0
abbrev pub ReadFailsAs : {Y : Type 0} → ℕ → FaultKind → Result Y VcdFault → Type 0
ReadFailsAs line Memory read = line ≡ 0
ReadFailsAs line kind read = read ≡ Err (record { line = line; kind = kind })

-- the fault is what reading gives, unless memory ran out
abbrev pub ReadFails : {Y : Type 0} → VcdFault → Result Y VcdFault → Type 0
ReadFails fault read = ReadFailsAs fault.line fault.kind read

-- a fault of this kind is want of memory
abbrev pub is_want_of_memory : FaultKind → Bool
is_want_of_memory Memory = true
is_want_of_memory kind = false

-- what a function returned, seen by view, is what reading gives, unless memory ran out
abbrev pub ReadGives : {X Y : Type 0} → (X → Y) → Result X VcdFault → Result Y VcdFault → Type 0
ReadGives view (Ok x) read = read ≡ Ok (view x)
ReadGives view (Err fault) read = ReadFails fault read
