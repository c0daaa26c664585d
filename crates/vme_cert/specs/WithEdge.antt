-- A row with another last edge, i.e. another instant at which it ends, or at which its transfer closes.
use Rattle.std.specs.Prelude.{ℕ, Option}
use Rattle.vme_cert.specs.Vocabulary.{AddressedCycle, FreeCycle, InterruptCycle, OpenTenure, Row, Tenure, Transfer}

-- the row with `edge` as its end or its close; a row of another kind stays as it is
abbrev pub with_edge : Row → Option ℕ → Row
with_edge (OpenTenure start end) edge = OpenTenure start edge
with_edge (Tenure start level slot end) edge = Tenure start level slot edge
with_edge (AddressedCycle start class modifier address end) edge = AddressedCycle start class modifier address edge
with_edge (FreeCycle start modifier end) edge = FreeCycle start modifier edge
with_edge (InterruptCycle start level end) edge = InterruptCycle start level edge
with_edge (Transfer direction line start cycle answer close lanes) edge =
    Transfer direction line start cycle answer edge lanes
with_edge row edge = row
