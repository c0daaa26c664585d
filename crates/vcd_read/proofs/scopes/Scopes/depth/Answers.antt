use Rattle.std.proofs.Common.{ap, length, arith, List, ℕ}
use Rattle.vcd_read.proofs.ScopesLemmas.{names_at-count}
use Rattle.vcd_read.proofs.scopes.Scopes.depth.Goals as goal

pub returns : goal.returns
returns c =
    let s = c.self.inside in
    omega (
      arith,
      c.len.ensures,
      s.starts.ok.0,
      names_at-count s.path.items s.starts.items,
      ap (λ (ns : List (List ℕ)). length ns) c.self.view_is,
    )
