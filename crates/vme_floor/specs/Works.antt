-- The work of workers: the view of a bench, and the replies to the deliveries that it drew.
use Rattle.std.specs.Prelude.{◌≡◌, ◌⊎◌, ◌==◌, ℕ, zero, suc, ◌+◌, ◌<◌, ◌≤◌, cond}
use Rattle.std.specs.Prelude.{List, [], ◌∷◌, length, slice_get, Option, Some, None}
use Rattle.vme_trace.specs.declared.block.Block.{Block}
use Rattle.vme_core.specs.Counting.{occurrences, numbers, HasPair}
use Rattle.vme_core.specs.Stages.{HasSeen, SeesMore}
use Rattle.vme_core.specs.declared.stage.Stage.TheVariants as stage
use Rattle.vme_core.specs.declared.view.View.{View}
use Rattle.vme_board.specs.Benches.{IsOf, draws_of, total_of, view_of}
use Rattle.vme_board.specs.Views.{SameNumbers}
use Rattle.vme_board.specs.declared.bench.Bench.{Bench}
use Rattle.vme_board.specs.declared.board.Board.{Board}
use Rattle.vme_floor.specs.Answering.{IsRightAnswer}
use Rattle.vme_floor.specs.declared.answer.Answer.{Answer}
use Rattle.vme_floor.specs.declared.answer.Answer.TheVariants.{Filed, Stranger, TooLong, Malformed, Doubled, Memory}
use Rattle.vme_floor.specs.declared.answer.Reply.{Reply}
use Rattle.vme_floor.specs.declared.worker.Work.{Work}

-- the number of the block, or 0 if there is none
abbrev pub number_in : Option Block → ℕ
number_in None = 0
number_in (Some b) = b.number

-- the number of the block with the index d
abbrev pub number_at : List Block → ℕ → ℕ
number_at deliveries d = number_in (slice_get deliveries d)

-- 1 if an answer to a block of the number m says that n is filed, else 0
abbrev pub filing : Answer → ℕ → ℕ → ℕ
filing Filed m n = cond (n == m) 1 0
filing Stranger m n = 0
filing TooLong m n = 0
filing (Malformed step) m n = 0
filing Doubled m n = 0
filing Memory m n = 0

-- how many replies say that n is filed
abbrev pub filings : List Block → List Reply → ℕ → ℕ
filings deliveries [] n = 0
filings deliveries (r ∷ rs) n = filing r.answer (number_at deliveries r.delivery) n + filings deliveries rs n

-- the deliveries that have a reply
abbrev pub replied : List Reply → List ℕ
replied [] = []
replied (r ∷ rs) = r.delivery ∷ replied rs

-- P holds of each item
abbrev pub Each : {A : Type 0} → (A → Type 0) → List A → Type 0
Each P [] = Unit {0}
Each P (x ∷ xs) = P x × Each P xs

-- if the answer is Filed, the list has the block with its number
abbrev pub IsListed : List (ℕ × Block) → Block → Answer → Type 0
IsListed list b Filed = HasPair list b.number b
IsListed list b Stranger = Unit {0}
IsListed list b TooLong = Unit {0}
IsListed list b (Malformed step) = Unit {0}
IsListed list b Doubled = Unit {0}
IsListed list b Memory = Unit {0}

-- if the answer is Doubled, the bench has seen the delivery's number claimed
abbrev pub IsSeenIf : List Block → View → Reply → Type 0
IsSeenIf deliveries v r = r.answer ≡ Doubled → HasSeen v (number_at deliveries r.delivery) stage.Claimed

-- the reply is to one of the deliveries, and its answer is right for the block; if it is Filed, the list has the block
abbrev pub IsReply : ℕ → List Block → List (ℕ × Block) → Reply → Type 0
IsReply total deliveries list r =
    (r.delivery < length deliveries)
    × ((b : Block) → slice_get deliveries r.delivery ≡ Some b → IsRightAnswer total b r.answer × IsListed list b
    r.answer)

-- a bench's view and its replies: its draws are the deliveries with a reply, and its list has the numbers of those that
-- were answered Filed
pub record IsWork (total : ℕ) (deliveries : List Block) (v : View) (replies : List Reply) : Type 0 where
  pub drew : (d : ℕ) → occurrences d v.draws ≡ occurrences d (replied replies)
  pub filed : (n : ℕ) → occurrences n (numbers v.list) ≡ filings deliveries replies n
  pub right : Each (IsReply total deliveries v.list) replies
  pub doubled : Each (IsSeenIf deliveries v) replies
  pub draws_once : (d : ℕ) → occurrences d v.draws ≤ 1
  pub files_once : (n : ℕ) → occurrences n (numbers v.list) ≤ 1

-- a bench of the board that has drawn, filed and taken nothing
pub record IsNew (board : Board) (deliveries : List Block) (bench : Bench) : Type 0 where
  pub of : IsOf bench board
  pub draws : draws_of board ≡ length deliveries
  pub no_list : (view_of bench).list ≡ []
  pub no_takes : (view_of bench).takes ≡ []
  pub no_draws : (view_of bench).draws ≡ []

-- the work of a worker of this board on these deliveries
pub record IsWorkOf (board : Board) (deliveries : List Block) (work : Work) : Type 0 where
  pub of : IsOf work.bench board
  pub draws : draws_of board ≡ length deliveries
  pub did : IsWork (total_of board) deliveries (view_of work.bench) work.replies.items

-- the work of a worker that takes nothing
pub record IsOtherWorkOf (board : Board) (deliveries : List Block) (work : Work) : Type 0 where
  pub is_work : IsWorkOf board deliveries work
  pub takes : (view_of work.bench).takes ≡ []

-- the work of the worker with the number `worker`: it takes nothing, and has the share that the worker was given
abbrev pub IsWorkBy : Board → List Block → ℕ → Work → Type 0
IsWorkBy board deliveries worker work =
    IsOtherWorkOf board deliveries work × ((view_of work.bench).share ≡ worker ∷ [])

-- how a delivery of the block b with this answer changes the bench's list
abbrev pub IsListAfter : List (ℕ × Block) → List (ℕ × Block) → Block → Answer → Type 0
IsListAfter old new b Filed = (occurrences b.number (numbers old) ≡ 0) × (new ≡ (b.number, b) ∷ old)
IsListAfter old new b Stranger = new ≡ old
IsListAfter old new b TooLong = new ≡ old
IsListAfter old new b (Malformed step) = new ≡ old
IsListAfter old new b Doubled = new ≡ old
IsListAfter old new b Memory = new ≡ old

-- how many draws below k aren't in `found`
abbrev pub unfound_below : ℕ → List ℕ → ℕ
unfound_below zero found = 0
unfound_below (suc k) found = unfound_below k found + cond (occurrences k found == 0) 1 0

-- the bench has seen the number n filed, or taken
pub record IsKnownFiled (total : ℕ) (v : View) (n : ℕ) : Type 0 where
  pub within : n < total
  pub sees : HasSeen v n stage.Filed

-- the number n was in the list before, or is that of the delivery of the reply r, which was filed
abbrev pub IsOldOrFiled : List Block → List (ℕ × Block) → Reply → ℕ → Type 0
IsOldOrFiled deliveries old r n =
    (0 < occurrences n (numbers old)) ⊎ ((r.answer ≡ Filed) × (number_at deliveries r.delivery ≡ n))

-- how one more delivery, with the reply r, changes the bench's view
pub record IsDelivered (board : Board) (deliveries : List Block) (old new : View) (r : Reply) : Type 0 where
  pub within : r.delivery < length deliveries
  pub less : unfound_below (draws_of board) new.found < unfound_below (draws_of board) old.found
  pub takes : new.takes ≡ old.takes
  pub sees : SeesMore old new
  pub filed : r.answer ≡ Filed → IsKnownFiled (total_of board) new (number_at deliveries r.delivery)
  pub lists : (n : ℕ) → 0 < occurrences n (numbers new.list) → IsOldOrFiled deliveries old.list r n

-- how the view changes by the next delivery, or by finding that none is left
abbrev pub IsNext : Board → List Block → Work → Work → Option Reply → Type 0
IsNext board deliveries old new (Some r) = IsDelivered board deliveries (view_of old.bench) (view_of new.bench) r
IsNext board deliveries old new None = SameNumbers (view_of old.bench) (view_of new.bench)
