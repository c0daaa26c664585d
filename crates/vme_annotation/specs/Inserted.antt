-- Changes inserted into a dump.
use Rattle.std.specs.Prelude.{ℕ, ◌-◌, List, [], ◌∷◌, ◌++◌, take, drop}
use Rattle.vme_annotation.specs.Shown.{ShownChange}

-- a change, and the number of bytes of the dump after which it is inserted
pub record PutChange : Type 0 where
  pub place : ℕ
  pub change : ShownChange

-- the change that is inserted
abbrev pub change_of : PutChange → ShownChange
change_of p = p.change

-- the dump from the place `from` on, with the texts of the changes inserted at their places, which don't go back
unfoldable pub with_changes : (ShownChange → List ℕ) → ℕ → List PutChange → List ℕ → List ℕ
with_changes text_of from [] dump = drop from dump
with_changes text_of from (p ∷ put) dump =
    take (p.place - from) (drop from dump) ++ (text_of p.change ++ with_changes text_of p.place put dump)
