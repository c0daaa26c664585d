-- From the work of all workers to the answers and the contents.
use Rattle.std.specs.Prelude.{◌≡◌, ◌⊎◌, ℕ, ◌<◌, ◌≤◌, List, length, slice_get, Option, Some, None}
use Rattle.vme_trace.specs.declared.block.Block.{Block}
use Rattle.vme_core.specs.Counting.{occurrences, HasPair}
use Rattle.vme_core.specs.declared.view.View.{View}
use Rattle.vme_board.specs.Contents.{AreNumbered, DidAll, HasBlock, HasOnlyList, HasUntaken, LacksTakes, unlisted_count}
use Rattle.vme_board.specs.Contents.{untaken_count}
use Rattle.vme_board.specs.Views.{AllFound, SameBlocks}
use Rattle.vme_board.specs.declared.board.Closed.{Closed}
use Rattle.vme_floor.specs.Collecting.{IsCollected, OwnAreTaken}
use Rattle.vme_floor.specs.Works.{replied, IsWork}
use Rattle.vme_floor.specs.declared.answer.Answer.{Answer}
use Rattle.vme_floor.specs.declared.answer.Reply.{Reply}
use Rattle.vme_floor.specs.declared.collector.Collection.{Collection}

-- the reply with the answer `a` to the delivery with the index d
abbrev pub reply_of : ℕ → Answer → Reply
reply_of d a = record { delivery = d; answer = a }

-- the answer with the index d is that of a reply to the delivery d
abbrev pub AreReplies : List Reply → List Answer → Type 0
AreReplies replies answers =
    (d : ℕ) (a : Answer) → slice_get answers d ≡ Some a → (k : ℕ) × (slice_get replies k ≡ Some (reply_of d a))

-- the answers by delivery, from the first `seen` replies
pub record IsTable (replies : List Reply) (count seen : ℕ) (table : List (Option Answer)) : Type 0 where
  pub long : length table ≡ count
  pub some :
      (d : ℕ) (a : Answer) → slice_get table d ≡ Some (Some a) → (k : ℕ) × (slice_get replies k ≡ Some (reply_of d a))
  pub none :
      (d : ℕ) → slice_get table d ≡ Some None
      → (k : ℕ) → k < seen → (r : Reply) → slice_get replies k ≡ Some r → r.delivery ≡ d → ⊥

-- a delivery below `count` has no reply
abbrev pub LacksReply : List Reply → ℕ → Type 0
LacksReply replies count = (d : ℕ) × (d < count) × (occurrences d (replied replies) ≡ 0)

-- the contents of a board of `total` numbers that was closed by a bench with the view v
pub record IsClosing (total : ℕ) (v : View) (closed : Closed) : Type 0 where
  pub count : length closed.contents.items ≡ total
  pub numbered : AreNumbered closed.contents.items
  pub untaken : closed.taken ≡ 0 → HasUntaken v closed.contents.items
  pub gone : LacksTakes v closed.contents.items
  pub only : closed.others ≡ 0 → HasOnlyList v closed.contents.items
  pub saw_filed : unlisted_count v total ≤ closed.others
  pub saw_taken : untaken_count v total ≤ closed.taken

-- the work of the one bench of all workers, the blocks that it took, and the contents of the closed board
pub record IsAccount
    (total : ℕ) (deliveries : List Block) (v : View) (replies : List Reply) (collection : Collection) (closed : Closed)
    : Type 0 where
  pub work : IsWork total deliveries v replies
  pub collected : IsCollected total v collection
  pub closing : IsClosing total v closed
  pub same : SameBlocks v
  pub found : AllFound v (length deliveries)
  pub no_others : closed.others ≡ 0
  pub no_taken : closed.taken ≡ 0
  pub did : DidAll v

-- if `IsAccount` holds, and each number that the bench filed was taken, then all `total` blocks were taken early
abbrev pub IsOwnEarly : ℕ → List Block → List Reply → Collection → Closed → ℕ → Type 0
IsOwnEarly total deliveries replies collection closed early =
    (v : View) → IsAccount total deliveries v replies collection closed → OwnAreTaken v → early ≡ total

-- the contents are exactly the blocks of the view's list
pub record IsClosed (total : ℕ) (v : View) (contents : List (Option Block)) : Type 0 where
  pub count : length contents ≡ total
  pub listed : (n : ℕ) (b : Block) → HasPair v.list n b → HasBlock contents n b
  pub only : HasOnlyList v contents

-- no number has a block in both lists
abbrev pub ShareNoNumber : List (Option Block) → List (Option Block) → Type 0
ShareNoNumber xs ys = (n : ℕ) (b c : Block) → HasBlock xs n b → HasBlock ys n c → ⊥

-- zs has exactly the blocks of xs, and those of ys at numbers below `limit`
pub record IsUnionBelow (xs ys : List (Option Block)) (limit : ℕ) (zs : List (Option Block)) : Type 0 where
  pub long : length zs ≡ length xs
  pub first : (n : ℕ) (b : Block) → HasBlock xs n b → HasBlock zs n b
  pub second : (n : ℕ) (b : Block) → n < limit → HasBlock ys n b → HasBlock zs n b
  pub only : (n : ℕ) (b : Block) → HasBlock zs n b → HasBlock xs n b ⊎ ((n < limit) × HasBlock ys n b)

-- zs has exactly the blocks of xs and ys
abbrev pub IsUnion : List (Option Block) → List (Option Block) → List (Option Block) → Type 0
IsUnion xs ys zs = IsUnionBelow xs ys (length ys) zs
