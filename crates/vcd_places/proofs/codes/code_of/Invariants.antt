-- The loop over the digits of the code's number: a code of what is left of the number, after the bytes so far, makes a
-- code of the number.
use Rattle.std.proofs.Common.{◌≡◌, ◌⊎◌, ℕ, ◌<◌, ◌++◌, List, length, true}
use Rattle.vcd_read.specs.CodeNumbers.{code_number}
use Rattle.vcd_read.specs.Header.{is_code}
use Rattle.vcd_places.proofs.codes.code_of.Given as goal

abbrev pub invariant-loop-rest : goal.invariant-loop-rest
invariant-loop-rest l = record {
  number : (more : List ℕ) → code_number more ≡ l.rest → code_number (l.code.items ++ more) ≡ l.number;
  is_one : is_code l.code.items ≡ true;
  some : (0 < l.rest) ⊎ (0 < length l.code.items);
}

abbrev pub decreases-loop-rest : goal.decreases-loop-rest
decreases-loop-rest l = l.rest
