-- What the code found a token to be, as a shape of the grammar.
use Rattle.vcd_read.specs.declared.shape.Shape.{Shape as FoundShape}
use Rattle.vcd_read.specs.declared.shape.Shape.TheVariants.{Time, Scalar, Vector, Foreign, Comment, Opens, Ends}
use Rattle.vcd_read.specs.declared.shape.Shape.TheVariants.{Unknown}
use Rattle.vcd_read.specs.Body.{Shape, time_shape, scalar, vector, foreign, comment, open_shape, end_shape, none}

-- the shape that is found
abbrev pub found_shape : FoundShape → Shape
found_shape (Time digits) = time_shape digits.now
found_shape (Scalar digit code) = scalar digit.now code.now
found_shape (Vector digits) = vector digits.now
found_shape Foreign = foreign
found_shape Comment = comment
found_shape Opens = open_shape
found_shape Ends = end_shape
found_shape Unknown = none
