-- Which rules may be broken on a line.
use Rattle.std.specs.Prelude.{ℕ, Bool, true, false, ◌==◌, ◌&&◌, nat_le, nat_lt, List, [], ◌∷◌, if◌then◌else◌}
use Rattle.vme_cert.specs.Vocabulary.{A, AS, B1, B2, B3, B4, BBSY, BERR, C1, C2, D, DS1, G1, G2, G3, G4, G5, H1, H2, H3}
use Rattle.vme_cert.specs.Vocabulary.{H4, H5, H6, H7, H8, I1, I2, I3, I4, I5, IACK, Rule, S1, S2, S3, U1, U2, U3, U4}
use Rattle.vme_cert.specs.Vocabulary.{WRITE, grant, iack, is_answer_line, is_data, is_grant, is_slot_iack, is_strobe}

-- the rules that may be broken on a line at a judged instant, the lines by their numbers
unfoldable pub rules_on : ℕ → List Rule
rules_on l =
    if l == AS then H7 ∷ B3 ∷ []
    else if nat_le l DS1 then H2 ∷ H3 ∷ []
    else if nat_le l BERR then H1 ∷ H4 ∷ H5 ∷ H6 ∷ H8 ∷ C1 ∷ C2 ∷ I4 ∷ I5 ∷ []
    else if l == WRITE then U2 ∷ U3 ∷ S1 ∷ S2 ∷ []
    else if nat_le l (A 31) then U2 ∷ S1 ∷ []
    else if l == BBSY then B1 ∷ B2 ∷ B4 ∷ []
    else if nat_lt l (grant 0 0) then []
    else if nat_lt l (iack 1) then G1 ∷ G2 ∷ G3 ∷ G4 ∷ G5 ∷ []
    else if nat_lt l (D 0) then I1 ∷ I2 ∷ I3 ∷ []
    else if nat_le l (D 31) then U4 ∷ S3 ∷ []
    else []

-- the rule may be broken on the line at a judged instant: as `rules_on`, but by the rule, and the lines by their kinds
abbrev pub may_be_broken_on : Rule → ℕ → Bool
may_be_broken_on U1 l = false
may_be_broken_on U2 l = nat_le IACK l && nat_le l (A 31)
may_be_broken_on U3 l = l == WRITE
may_be_broken_on U4 l = is_data l
may_be_broken_on H2 l = is_strobe l
may_be_broken_on H3 l = is_strobe l
may_be_broken_on H7 l = l == AS
may_be_broken_on S1 l = nat_le IACK l && nat_le l (A 31)
may_be_broken_on S2 l = l == WRITE
may_be_broken_on S3 l = is_data l
may_be_broken_on G1 l = is_grant l
may_be_broken_on G2 l = is_grant l
may_be_broken_on G3 l = is_grant l
may_be_broken_on G4 l = is_grant l
may_be_broken_on G5 l = is_grant l
may_be_broken_on B1 l = l == BBSY
may_be_broken_on B2 l = l == BBSY
may_be_broken_on B3 l = l == AS
may_be_broken_on B4 l = l == BBSY
may_be_broken_on I1 l = is_slot_iack l
may_be_broken_on I2 l = is_slot_iack l
may_be_broken_on I3 l = is_slot_iack l
may_be_broken_on r l = is_answer_line l

-- the rule is broken only on a line that changes
abbrev pub needs_edge : Rule → Bool
needs_edge U1 = false
needs_edge U2 = false
needs_edge U3 = false
needs_edge U4 = false
needs_edge H1 = false
needs_edge r = true
