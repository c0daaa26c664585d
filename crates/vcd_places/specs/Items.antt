-- What a token of a body begins, by how the item ends.
use Rattle.std.specs.Prelude.{List, ℕ}
use Rattle.vcd_read.specs.Body.{Shape, comment, end_shape, foreign, none, open_shape, scalar, time_shape, vector}
use Rattle.vcd_places.specs.declared.times.BegunItem.{BegunItem}
use Rattle.vcd_places.specs.declared.times.BegunItem.TheVariants.{Time, Code, Comment, Whole}

-- what a token begins
pub data BegunKind : Type 0 where
  -- a time stamp, by the digits after its #
  time_kind : List ℕ → BegunKind
  -- an item whose code is the next token
  code_kind : BegunKind
  -- a comment, up to the next `$end`
  comment_kind : BegunKind
  -- an item of one token
  single_kind : BegunKind

-- what a token of this shape begins
abbrev pub kind_of : Shape → BegunKind
kind_of (time_shape digits) = time_kind digits
kind_of (scalar digits code) = single_kind
kind_of (vector digits) = code_kind
kind_of foreign = code_kind
kind_of comment = comment_kind
kind_of open_shape = single_kind
kind_of end_shape = single_kind
kind_of none = single_kind

-- what a token begins, by the value of the implementation
abbrev pub begun_kind : BegunItem → BegunKind
begun_kind (Time digits) = time_kind digits.now
begun_kind Code = code_kind
begun_kind Comment = comment_kind
begun_kind Whole = single_kind
