-- The path in which the open scopes are laid out: what opening and closing a scope changes, and the paths of variables.
use Rattle.std.proofs.Common.{◌≡◌, ℕ, suc, ◌-◌, ◌<◌, List, [], ◌∷◌, ◌++◌, length, get_or, take, drop, refl, sym, ap}
use Rattle.std.proofs.Common.{◌∙◌, arith, reverse, append_assoc, length-append}
use Rattle.std.specs.List.{concat, flat_map}
use Rattle.std.proofs.lemmas.List.{take_at, drop_at, append-nil, length-reverse, reverse-append}
use Rattle.std.proofs.lemmas.List.Folds.{flat_map-map}
use Rattle.std.proofs.lemmas.List.Concat.{concat_is}
use denote.Ref.{Bor}
use Rattle.vcd_read.specs.Header.{path_of, joined_by_dots}
use Rattle.vcd_read.specs.Scopes.{texts, with_dot, name_in, names_at, path_in, starts_in, IsLaidOut}

-- words as `concat` joins them
pub flat_map-concat : (words : List (Bor (List ℕ))) → flat_map (λ (word : Bor (List ℕ)). word.now) words
    ≡ concat (texts words)
flat_map-concat words = sym (concat_is (texts words) ∙ flat_map-map (λ (x : List ℕ). x)
    (λ (word : Bor (List ℕ)). word.now)
    words)

-- where no scope is open, the path is empty
pub IsLaidOut-none : IsLaidOut [] []
unfolding names_at path_in starts_in
IsLaidOut-none = record { whole = refl; places = refl }

-- an empty path has no names
pub names_at-empty : names_at [] [] ≡ []
unfolding names_at
names_at-empty = refl

-- the name in the part of a name is this name
name_in-with_dot : (name : List ℕ) → name_in (with_dot name) ≡ name
name_in-with_dot [] = refl
name_in-with_dot (b ∷ name) = take_at (b ∷ name) (46 ∷ []) (length (with_dot (b ∷ name)) - 1)
    (omega (arith, length-append (b ∷ name) (46 ∷ [])))

-- a scope that opens puts its part after the path
pub names_at-open : (path name starts : List ℕ) → names_at (path ++ with_dot name) (length path ∷ starts) ≡ name
    ∷ names_at path starts
unfolding names_at
names_at-open path name starts =
    ap (λ (part : List ℕ). name_in part ∷ names_at (take (length path) (path ++ with_dot name)) starts)
    (drop_at path (with_dot name) (length path) refl)
    ∙ ap (λ (n : List ℕ). n ∷ names_at (take (length path) (path ++ with_dot name)) starts) (name_in-with_dot name)
    ∙ ap (λ (front : List ℕ). name ∷ names_at front starts) (take_at path (with_dot name) (length path) refl)

-- a scope that opens keeps the path laid out
pub IsLaidOut-open : (path name starts : List ℕ) → IsLaidOut path starts → IsLaidOut (path ++ with_dot name)
    (length path ∷ starts)
unfolding path_in starts_in
IsLaidOut-open path name starts laid =
    let names = names_at-open path name starts in
    record {
      whole = ap (λ (front : List ℕ). front ++ with_dot name) laid.whole ∙ ap path_in (sym names);
      places = ap (λ (front : List ℕ). length front ∷ starts) laid.whole
          ∙ ap (λ (s : List ℕ). length (path_in (names_at path starts)) ∷ s) laid.places ∙ ap starts_in (sym names);
    }

-- a scope that closes cuts the path back to where the scope began
pub names_at-close : (path : List ℕ) (start : ℕ) (starts : List ℕ) → names_at path (start ∷ starts)
    ≡ name_in (drop start path) ∷ names_at (take start path) starts
unfolding names_at
names_at-close path start starts = refl

-- a scope that closes keeps the path laid out
pub IsLaidOut-close : (path : List ℕ) (start : ℕ) (starts : List ℕ) → IsLaidOut path (start ∷ starts)
    → IsLaidOut (take start path) starts
unfolding names_at path_in starts_in
IsLaidOut-close path start starts laid =
    let outer = names_at (take start path) starts in
    let begins : start ≡ length (path_in outer) = ap (λ (ns : List ℕ). get_or ns 0 0) laid.places in
    let others : starts ≡ starts_in outer = ap (λ (ns : List ℕ). drop 1 ns) laid.places in
    record {
      whole = ap (take start) laid.whole ∙ take_at (path_in outer) (with_dot (name_in (drop start path))) start
          (sym begins);
      places = others;
    }

-- a name that isn't empty, a dot and a rest are the name's part and the rest
with_dot-append : (b : ℕ) (name rest : List ℕ) → 0 < length rest → (b ∷ name) ++ 46 ∷ rest ≡ with_dot (b ∷ name) ++ rest
with_dot-append b name rest some = sym (append_assoc (b ∷ name) (46 ∷ []) rest)

-- the path of a name and other names, whose path isn't empty, is the name with a dot and that path
joined_by_dots-before : (name : List ℕ) (names : List (List ℕ)) (path : List ℕ) → 0 < length path → joined_by_dots names
    ≡ path
    → joined_by_dots (name ∷ names) ≡ with_dot name ++ path
joined_by_dots-before [] names path some e = e
joined_by_dots-before (b ∷ name) names [] some e = absurd (omega (arith, some))
joined_by_dots-before (b ∷ name) names (c ∷ path) some e = rw e (with_dot-append b name (c ∷ path) some)

-- names in scopes, whose own path isn't empty, are joined to the path of the scopes and their own
joined_by_dots-in_scopes : (scopes names : List (List ℕ)) (path : List ℕ) → 0 < length path → joined_by_dots names
    ≡ path
    → joined_by_dots (reverse scopes ++ names) ≡ path_in scopes ++ path
unfolding path_in
joined_by_dots-in_scopes [] names path some e = e
joined_by_dots-in_scopes (name ∷ scopes) names path some e =
    let last : reverse (name ∷ scopes) ≡ reverse scopes ++ name ∷ [] = reverse-append (name ∷ []) scopes in
    let back : reverse (name ∷ scopes) ++ names ≡ reverse scopes ++ (name ∷ names) = ap (λ (ns : List (List ℕ)). ns
    ++ names) last ∙ append_assoc (reverse scopes) (name ∷ []) names in
    ap joined_by_dots back
    ∙ joined_by_dots-in_scopes scopes (name ∷ names) (with_dot name ++ path)
    (omega (arith, some, length-append (with_dot name) path)) (joined_by_dots-before name names path some e)
    ∙ sym (append_assoc (path_in scopes) (with_dot name) path)

-- the path of a name that isn't empty is the path of its scopes, and the name
pub path_of-some : (scopes : List (List ℕ)) (name : List ℕ) → 0 < length name → path_of scopes name ≡ path_in scopes
    ++ name
path_of-some scopes [] some = absurd (omega (arith, some))
path_of-some scopes (c ∷ name) some = joined_by_dots-in_scopes scopes ((c ∷ name) ∷ []) (c ∷ name) some
    (append-nil (c ∷ name))

-- the last start is the first in reverse order
pub reverse-push : (starts : List ℕ) (start : ℕ) → reverse (starts ++ start ∷ []) ≡ start ∷ reverse starts
reverse-push starts start = reverse-append starts (start ∷ [])

-- a name that isn't empty has a dot after it in the path
pub with_dot-some : (name : List ℕ) → 0 < length name → name ++ 46 ∷ [] ≡ with_dot name
with_dot-some [] some = absurd (omega (arith, some))
with_dot-some (b ∷ name) some = refl

-- an empty name has no part in the path
pub with_dot-none : (name : List ℕ) → length name ≡ 0 → name ≡ with_dot name
with_dot-none [] none = refl
with_dot-none (b ∷ name) none = absurd (omega (arith, none))

-- a scope that opens is the first name, where the starts stand in the order in which the scopes were opened
pub names_at-push : (path part name starts starts' : List ℕ) (start : ℕ) → part ≡ with_dot name → start ≡ length path
    → starts' ≡ starts ++ start ∷ [] → names_at (path ++ part) (reverse starts') ≡ name ∷ names_at path (reverse starts)
names_at-push path part name starts starts' start e s more =
    ap (λ (ss : List ℕ). names_at (path ++ part) (reverse ss)) more
    ∙ ap (names_at (path ++ part)) (reverse-push starts start)
    ∙ ap (λ (p : List ℕ). names_at (path ++ p) (start ∷ reverse starts)) e
    ∙ ap (λ (n : ℕ). names_at (path ++ with_dot name) (n ∷ reverse starts)) s
    ∙ names_at-open path name (reverse starts)

-- a scope that opens keeps the path laid out, where the starts stand in the order in which the scopes were opened
pub IsLaidOut-push : (path part name starts starts' : List ℕ) (start : ℕ) → part ≡ with_dot name → start ≡ length path
    → starts' ≡ starts ++ start ∷ [] → IsLaidOut path (reverse starts) → IsLaidOut (path ++ part) (reverse starts')
IsLaidOut-push path part name starts starts' start e s more laid =
    rw (more, reverse-push starts start, e, s) (IsLaidOut-open path name (reverse starts) laid)

-- a scope that closes keeps the path laid out, where the starts stand in the order in which the scopes were opened
pub IsLaidOut-pop : (path starts starts' : List ℕ) (start : ℕ) → starts ≡ starts' ++ start ∷ []
    → IsLaidOut path (reverse starts) → IsLaidOut (take start path) (reverse starts')
IsLaidOut-pop path starts starts' start fewer laid =
    IsLaidOut-close path start (reverse starts') (rw (fewer, reverse-push starts' start) at laid)

-- the first name is that of the scope that was opened last
pub names_at-pop : (path starts starts' : List ℕ) (start : ℕ) → starts ≡ starts' ++ start ∷ []
    → names_at path (reverse starts) ≡ name_in (drop start path) ∷ names_at (take start path) (reverse starts')
names_at-pop path starts starts' start fewer = ap (λ (ss : List ℕ). names_at path (reverse ss)) fewer
    ∙ ap (names_at path) (reverse-push starts' start) ∙ names_at-close path start (reverse starts')

-- where no scope is open, there are no names
pub names_at-none : (path starts : List ℕ) → starts ≡ [] → names_at path (reverse starts) ≡ []
unfolding names_at
names_at-none path starts e = ap (λ (ss : List ℕ). names_at path (reverse ss)) e

-- there is a name for each start
names_at-length : (path starts : List ℕ) → length (names_at path starts) ≡ length starts
unfolding names_at
names_at-length path [] = refl
names_at-length path (start ∷ starts) = ap (λ (n : ℕ). suc n) (names_at-length (take start path) starts)

-- there is a start for each name
pub names_at-count : (path starts : List ℕ) → length (names_at path (reverse starts)) ≡ length starts
names_at-count path starts = names_at-length path (reverse starts) ∙ length-reverse starts
