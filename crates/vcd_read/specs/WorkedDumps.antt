-- worked examples, computed
use Rattle.std.specs.Prelude.{◌≡◌, ℕ, List, [], ◌∷◌, ◌++◌, codes, Result, Ok, Err, refl, Some, None}
use Rattle.vcd_read.specs.declared.fault.FaultKind.TheVariants.{BadToken, UnfinishedSection, BadVar, ScopeUnderflow}
use Rattle.vcd_read.specs.declared.fault.FaultKind.TheVariants.{NoEndDefinitions, UndeclaredCode, TooWide, SizeConflict}
use Rattle.vcd_read.specs.declared.fault.FaultKind.TheVariants.{TimeBackwards, NumberTooLarge}
use Rattle.vcd_read.specs.declared.dump.Bit.TheVariants.{Zero, One, X, Z}
use Rattle.vcd_read.specs.Tokens.{cut_from}
use Rattle.vcd_read.specs.Header.{header_from, declare_all, size_of}
use Rattle.vcd_read.specs.Body.{body_from, context_after_all}
use Rattle.vcd_read.specs.Numbers.{extended}
use Rattle.vcd_read.specs.Contents.{Contents}
use Rattle.vcd_read.specs.Meaning.{dump_of, changes_from, times_from, last_at}
use Rattle.vcd_read.specs.declared.fault.VcdFault.{VcdFault}
use Rattle.vcd_read.specs.declared.fault.FaultKind.{FaultKind}

abbrev fault_at : ℕ → FaultKind → Result Contents VcdFault
fault_at line kind = Err (record { line = line; kind = kind })

abbrev head : List ℕ
head = codes "$var wire 1 p AS $end\n$enddefinitions $end\n"

undeclared_code : dump_of (head ++ codes "1q") ≡ fault_at 3 UndeclaredCode
unfolding dump_of declare_all header_from cut_from body_from context_after_all changes_from times_from last_at size_of
undeclared_code = refl

too_wide : dump_of (head ++ codes "b10 p") ≡ fault_at 3 TooWide
unfolding dump_of declare_all header_from cut_from body_from context_after_all changes_from times_from last_at size_of
too_wide = refl

time_backwards : dump_of (head ++ codes "#5\n#4") ≡ fault_at 4 TimeBackwards
unfolding dump_of declare_all header_from cut_from body_from context_after_all changes_from times_from last_at size_of
time_backwards = refl

number_too_large : dump_of (head ++ codes "#18446744073709551616") ≡ fault_at 3 NumberTooLarge
unfolding dump_of declare_all header_from cut_from body_from context_after_all changes_from times_from last_at size_of
number_too_large = refl

bad_token : dump_of (head ++ codes "2p") ≡ fault_at 3 BadToken
unfolding dump_of declare_all header_from cut_from body_from context_after_all changes_from times_from last_at size_of
bad_token = refl

unfinished_section : dump_of (head ++ codes "$dumpvars 1p") ≡ fault_at 3 UnfinishedSection
unfolding dump_of declare_all header_from cut_from body_from context_after_all changes_from times_from last_at size_of
unfinished_section = refl

scope_underflow : dump_of (codes "$upscope $end") ≡ fault_at 1 ScopeUnderflow
unfolding dump_of declare_all header_from cut_from body_from context_after_all changes_from times_from last_at size_of
scope_underflow = refl

bad_variable : dump_of (codes "$var wire 1 p $end") ≡ fault_at 1 BadVar
unfolding dump_of declare_all header_from cut_from body_from context_after_all changes_from times_from last_at size_of
bad_variable = refl

no_end_of_definitions : dump_of (codes "$var wire 1 p AS $end\n") ≡ fault_at 2 NoEndDefinitions
unfolding dump_of declare_all header_from cut_from body_from context_after_all changes_from times_from last_at size_of
no_end_of_definitions = refl

size_conflict : dump_of (codes "$var wire 1 p AS $end\n$var wire 2 p B $end") ≡ fault_at 2 SizeConflict
unfolding dump_of declare_all header_from cut_from body_from context_after_all changes_from times_from last_at size_of
size_conflict = refl

empty_text : dump_of [] ≡ fault_at 1 NoEndDefinitions
unfolding dump_of declare_all header_from cut_from body_from context_after_all changes_from times_from last_at size_of
empty_text = refl

zero_extends_one : extended 6 (codes "1x") ≡ Zero ∷ Zero ∷ Zero ∷ Zero ∷ One ∷ X ∷ []
zero_extends_one = refl

unknown_extends_unknown : extended 6 (codes "x1") ≡ X ∷ X ∷ X ∷ X ∷ X ∷ One ∷ []
unknown_extends_unknown = refl

float_extends_float : extended 6 (codes "z") ≡ Z ∷ Z ∷ Z ∷ Z ∷ Z ∷ Z ∷ []
float_extends_float = refl

zero_extends_zero : extended 6 (codes "0") ≡ Zero ∷ Zero ∷ Zero ∷ Zero ∷ Zero ∷ Zero ∷ []
zero_extends_zero = refl

whole : dump_of (codes "$timescale 1 ns $end $scope module bus $end $var wire 2 p D [1:0] $end $upscope $end "
    ++ codes "$var wire 1 q AS $end $enddefinitions $end b1x p #0 1q #7 0q 1q $comment x $end bz p") ≡ Ok (record {
      variables = record { path = codes "bus.D"; index = Some (1, 0); size = 2; net = 0 }
          ∷ record { path = codes "AS"; index = None; size = 1; net = 1 } ∷ [];
      instants =
          record {
            time = 0;
            values = record { net = 0; bits = One ∷ X ∷ [] } ∷ record { net = 1; bits = One ∷ [] } ∷ [];
          }
          ∷ record {
            time = 7;
            values = record { net = 0; bits = Z ∷ Z ∷ [] } ∷ record { net = 1; bits = One ∷ [] } ∷ [];
          }
          ∷ [];
    })
unfolding dump_of declare_all header_from cut_from body_from context_after_all changes_from times_from last_at size_of
whole = refl
