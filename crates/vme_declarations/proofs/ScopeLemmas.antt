-- A search over the variables of a dump finds whether they have a scope; it compares the parts of each path alone.
use Rattle.std.proofs.Common.{◌≡◌, ℕ, ◌≤◌, Bool, false, ◌&&◌, ◌||◌, List, [], ◌∷◌, ◌++◌, length, take, drop}
use Rattle.std.proofs.Common.{◌<◌, Option, refl, sym, ap, ◌∙◌}
use Rattle.std.proofs.Common.{append_assoc}
use Rattle.std.specs.Prelude.{fold, bytes_eq, nat_eq}
use Rattle.std.specs.Bool.{Decides}
use Rattle.std.specs.List.{list_any, starts_with}
use Rattle.std.proofs.Math.Bool.{or-false, or_assoc}
use Rattle.std.proofs.lemmas.Bool.Decides.{Decides-and, same_from_decides}
use Rattle.std.proofs.lemmas.List.{drop_at, length-take-le, take-append-drop, take_at}
use Rattle.std.proofs.lemmas.Slice.Eq.{bytes_eq-Decides}
use Rattle.vcd_read.specs.declared.dump.Variable.{Variable}
use Rattle.vcd_read.specs.Header.{variable_in}
use Rattle.vcd_read.specs.Scopes.{path_in, with_dot}
use Rattle.vcd_read.proofs.PrefixLemmas.{Begins, starts_with-Decides}
use Rattle.vcd_read.proofs.ScopesLemmas.{path_of-some}
use Rattle.vme_declarations.specs.Scopes.{ScopeSought, has_scope, path_begins, sought_in}

-- ---- the search

-- the state of a search, by its parts
abbrev sought : List ℕ → Bool → ScopeSought
sought front found = record { front = front; is_found = found }

-- a search over variables finds whether the path of one of them begins with `front`
sought_in-all : (front : List ℕ) (found : Bool) (vs : List Variable) → fold sought_in (sought front found) vs
    ≡ sought front (found || list_any (path_begins front) vs)
sought_in-all front found [] = ap (sought front) (sym (or-false found))
sought_in-all front found (v ∷ vs) =
    sought_in-all front (found || path_begins front v) vs
    ∙ ap (sought front) (or_assoc found (path_begins front v) (list_any (path_begins front) vs))

-- a search over all variables finds whether they have the scope `path`
pub has_scope-sought : (path first front : List ℕ) (found there : Bool) (vs : List Variable) → first ≡ with_dot path
    → sought front found ≡ fold sought_in (sought first false) vs → found ≡ there → has_scope path vs ≡ there
has_scope-sought path first front found there vs is e here =
    ap (λ (f : List ℕ). list_any (path_begins f) vs) (sym is)
    ∙ sym (ap (λ (s : ScopeSought). s.is_found) (e ∙ sought_in-all first false vs)) ∙ here

-- the search after one variable more is that before it, with whether the path of the variable's name and scopes begins
-- with `front`
pub sought_in-next : (front name : List ℕ) (scopes : List (List ℕ)) (net size : ℕ) (index : Option (ℕ × ℕ))
    (found now : Bool) → 0 < length name → now ≡ (found || starts_with nat_eq (path_in scopes ++ name) front)
    → sought front now
    ≡ sought_in (sought front found) (variable_in scopes net size (record { name = name; index = index }))
sought_in-next front name scopes net size index found now some is =
    ap (sought front)
    (is ∙ ap (λ (path : List ℕ). found || starts_with nat_eq path front) (sym (path_of-some scopes name some)))

-- ---- two texts that begin with a third

-- where `first` is as long as `outer`, `outer ++ inner` begins with `first ++ second` exactly if its parts do so
starts_with-Decides_parts : (outer inner first second : List ℕ) → length first ≡ length outer
    → Decides (bytes_eq outer first && starts_with nat_eq inner second) (Begins (first ++ second) (outer ++ inner))
starts_with-Decides_parts outer inner first second same =
    let both = Decides-and {P = outer ≡ first} {Q = Begins second inner} (bytes_eq outer first)
    (starts_with nat_eq inner second) (bytes_eq-Decides outer first) (starts_with-Decides second inner) in (
      λ e. let h = both.0 e in (
        h.1.0,
        ap (λ (xs : List ℕ). xs ++ inner) h.0 ∙ ap (λ (xs : List ℕ). first ++ xs) h.1.1
            ∙ sym (append_assoc first second h.1.0),
      ),
      λ h.
          let whole : outer ++ inner ≡ first ++ (second ++ h.0) = h.1 ∙ append_assoc first second h.0 in
          both.1 (
            sym (take_at outer inner (length first) (sym same)) ∙ ap (take (length first)) whole
                ∙ take_at first (second ++ h.0) (length first) refl,
            (
              h.0,
              sym (drop_at outer inner (length first) (sym same)) ∙ ap (drop (length first)) whole
                  ∙ drop_at first (second ++ h.0) (length first) refl,
            ),
          ),
    )

-- `outer ++ inner` begins with `front` exactly if its parts begin with those of `front`, cut at the length of `outer`
pub starts_with-cut : (front outer inner first second : List ℕ) → length outer ≤ length front
    → first ≡ take (length outer) front → second ≡ drop (length outer) front
    → starts_with nat_eq (outer ++ inner) front ≡ (bytes_eq outer first && starts_with nat_eq inner second)
starts_with-cut front outer inner first second le is_first is_second =
    let whole : front ≡ first ++ second =
    sym (take-append-drop (length outer) front)
    ∙ ap (λ (xs : List ℕ). xs ++ drop (length outer) front) (sym is_first)
    ∙ ap (λ (xs : List ℕ). first ++ xs) (sym is_second) in
    ap (λ (f : List ℕ). starts_with nat_eq (outer ++ inner) f) whole
    ∙ same_from_decides (starts_with nat_eq (outer ++ inner) (first ++ second))
    (bytes_eq outer first && starts_with nat_eq inner second) (starts_with-Decides (first ++ second) (outer ++ inner))
    (starts_with-Decides_parts outer inner first second
    (ap (λ (xs : List ℕ). length xs) is_first ∙ length-take-le (length outer) front le))
