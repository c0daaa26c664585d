-- Where blocks that join lie.
use Rattle.std.specs.Prelude.{◌≡◌, ◌+◌, true, List, Some, option_map}
use Rattle.std.specs.Option.{option_or}
use Rattle.vme_trace.specs.Blocks.{joined_steps}
use Rattle.vme_trace.specs.declared.block.Block.{Block}
use Rattle.vme_summary.specs.Joins.{AreSound, BlocksJoin, first_block, first_block_number, first_time, is_later_time}
use Rattle.vme_summary.specs.Joins.{last_block, last_block_number, last_time, left_by}
use Rattle.vme_summary.specs.declared.extent.Extent.{Extent}

-- the extent of blocks that join, each of which is well formed
pub record IsExtent (e : Extent) (blocks : List Block) : Type 0 where
  pub join : BlocksJoin blocks
  pub sound : AreSound blocks
  pub first : first_block_number blocks ≡ Some e.first
  pub last : last_block_number blocks ≡ Some e.last
  pub opening : option_map (λ b. b.opening) (first_block blocks) ≡ Some e.opening
  pub left : option_map left_by (last_block blocks) ≡ Some e.left
  pub starts : e.starts ≡ first_time (joined_steps blocks)
  pub ends : e.ends ≡ last_time (joined_steps blocks)

-- the extent b continues where a ends
pub record Meets (a b : Extent) : Type 0 where
  pub numbered : b.first ≡ a.last + 1
  pub opened : b.opening ≡ a.left
  pub later : is_later_time a.ends b.starts ≡ true

-- the extent of the blocks of a and then those of b
abbrev pub joined_extent : Extent → Extent → Extent
joined_extent a b =
    record {
      first = a.first;
      last = b.last;
      opening = a.opening;
      left = b.left;
      starts = option_or a.starts b.starts;
      ends = option_or b.ends a.ends;
    }
