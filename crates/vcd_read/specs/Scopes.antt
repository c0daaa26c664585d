-- The open scopes as they are laid out in one text.
use Rattle.std.specs.Prelude.{◌≡◌, ℕ, ◌-◌, List, [], ◌∷◌, ◌++◌, length, take, drop, map}
use denote.Ref.{Bor}

-- the texts of the words
abbrev pub texts : List (Bor (List ℕ)) → List (List ℕ)
texts words = map (λ word. word.now) words

-- the part that a scope adds to the path: its name and a dot, or nothing if the name is empty
abbrev pub with_dot : List ℕ → List ℕ
with_dot [] = []
with_dot (b ∷ name) = (b ∷ name) ++ 46 ∷ []

-- the name in a part of the path: the part without its last byte, the dot
abbrev pub name_in : List ℕ → List ℕ
name_in part = take (length part - 1) part

-- the names of the scopes that begin at these places of a path, the innermost first
unfoldable pub names_at : List ℕ → List ℕ → List (List ℕ)
names_at path [] = []
names_at path (start ∷ starts) = name_in (drop start path) ∷ names_at (take start path) starts

-- the path of scopes, the innermost first
unfoldable pub path_in : List (List ℕ) → List ℕ
path_in [] = []
path_in (name ∷ names) = path_in names ++ with_dot name

-- where the part of each scope begins in the path, the innermost first
unfoldable pub starts_in : List (List ℕ) → List ℕ
starts_in [] = []
starts_in (name ∷ names) = length (path_in names) ∷ starts_in names

-- `path` and `starts` are those of the names that are found in them
pub record IsLaidOut (path starts : List ℕ) : Type 0 where
  pub whole : path ≡ path_in (names_at path starts)
  pub places : starts ≡ starts_in (names_at path starts)
