-- What the declarations that are put into a dump declare: four variables, each with a net of its own.
use Rattle.std.proofs.Common.{◌≡◌, ℕ, List, [], ◌∷◌, ◌++◌, None, Ok, true, false}
use Rattle.std.proofs.Common.{refl, ap, ◌∙◌, length, append_assoc}
use Rattle.std.specs.Prelude.{codes, map}
use Rattle.vcd_read.specs.declared.dump.Variable.{Variable}
use Rattle.vcd_read.specs.Tokens.{Token}
use Rattle.vcd_read.specs.Header.{Declared, HeaderItem, Net, appended, between, declare_all}
use Rattle.vcd_read.specs.Header.{header_from}
use Rattle.vcd_read.specs.Header.{is_code, is_end, net_of, variable_in, whole}
use Rattle.vcd_places.proofs.InsertionLemmas.{after_items, on_line}
use Rattle.vme_annotation.specs.Annotated.{declared_words}

-- ---- the nets with the declared ones added

-- the net of a variable of one bit with this code
abbrev pub net_one : List ℕ → Net
net_one code = record { code = code; size = 1 }

-- the nets, with that of c0
abbrev pub nets_1 : List ℕ → List Net → List Net
nets_1 c0 nets = nets ++ net_one c0 ∷ []

-- the nets, with those of c0 and c1
abbrev pub nets_2 : List ℕ → List ℕ → List Net → List Net
nets_2 c0 c1 nets = nets_1 c0 nets ++ net_one c1 ∷ []

-- the nets, with those of c0, c1 and c2
abbrev pub nets_3 : List ℕ → List ℕ → List ℕ → List Net → List Net
nets_3 c0 c1 c2 nets = nets_2 c0 c1 nets ++ net_one c2 ∷ []

-- the nets, with those of the four codes
abbrev pub nets_4 : List ℕ → List ℕ → List ℕ → List ℕ → List Net → List Net
nets_4 c0 c1 c2 c3 nets = nets_3 c0 c1 c2 nets ++ net_one c3 ∷ []

-- ---- the sections

-- the section that declares a variable with this code and this name
abbrev pub var_section : ℕ → List ℕ → List ℕ → HeaderItem
var_section line code name = whole (record {
  line = line;
  keyword = codes "$var";
  words = codes "string" ∷ codes "1" ∷ code ∷ name ∷ [];
})

module _ (scope c0 c1 c2 c3 : List ℕ) where
  -- the four codes
  abbrev pub four : List (List ℕ)
  four = c0 ∷ c1 ∷ c2 ∷ c3 ∷ []

  -- the six sections that are inserted
  abbrev pub inserted_sections : ℕ → List HeaderItem
  inserted_sections line =
      whole (record { line = line; keyword = codes "$scope"; words = codes "module" ∷ scope ∷ [] })
      ∷ var_section line c0 (codes "tenure") ∷ var_section line c1 (codes "cycle")
      ∷ var_section line c2 (codes "transfer") ∷ var_section line c3 (codes "verdict")
      ∷ whole (record { line = line; keyword = codes "$upscope"; words = [] }) ∷ []

  -- the words of the declarations are read as the six sections
  pub header_from-declared_words : (line : ℕ) (more : List Token) → is_end scope ≡ false → is_end c0 ≡ false → is_end c1
      ≡ false
      → is_end c2 ≡ false → is_end c3 ≡ false
      → header_from between (map (on_line line) (declared_words scope four) ++ more)
      ≡ after_items (inserted_sections line) (header_from between more)
  unfolding header_from
  header_from-declared_words line more s n0 n1 n2 n3 = rw (s, n0, n1, n2, n3) refl

  -- a variable of one bit, in the inserted scope
  abbrev pub shown_in : Declared (List Variable) → ℕ → List ℕ → Variable
  shown_in d net name = variable_in ((scope ++ []) ∷ d.scopes) net 1 (record { name = name; index = None })

  -- the four variables that the sections declare
  abbrev pub inserted_variables : Declared (List Variable) → List Variable
  inserted_variables d =
      shown_in d (length d.nets) (codes "tenure") ∷ shown_in d (length (nets_1 c0 d.nets)) (codes "cycle")
      ∷ shown_in d (length (nets_2 c0 c1 d.nets)) (codes "transfer")
      ∷ shown_in d (length (nets_3 c0 c1 c2 d.nets)) (codes "verdict")
      ∷ []

  -- what is declared after the six sections
  abbrev pub with_inserted : Declared (List Variable) → Declared (List Variable)
  with_inserted d = record {
    scopes = d.scopes;
    nets = nets_4 c0 c1 c2 c3 d.nets;
    variables = d.variables ++ inserted_variables d;
  }

  -- four elements that are appended one by one are appended together
  append-four : {A : Type 0} (xs : List A) (a b c d : A)
      → xs ++ a ∷ [] ++ b ∷ [] ++ c ∷ [] ++ d ∷ [] ≡ xs ++ a ∷ b ∷ c ∷ d ∷ []
  append-four {A = A} xs a b c d =
      ap (λ (ys : List A). ys ++ c ∷ [] ++ d ∷ []) (append_assoc xs (a ∷ []) (b ∷ []))
      ∙ ap (λ (ys : List A). ys ++ d ∷ []) (append_assoc xs (a ∷ b ∷ []) (c ∷ []))
      ∙ append_assoc xs (a ∷ b ∷ c ∷ []) (d ∷ [])

  -- if the four are codes, and each is new when its turn comes, the six sections declare the four variables
  pub declare_all-inserted_sections : (line : ℕ) (d : Declared (List Variable)) → is_code c0 ≡ true → is_code c1 ≡ true
      → is_code c2 ≡ true → is_code c3 ≡ true
      → net_of d.nets c0 ≡ None → net_of (nets_1 c0 d.nets) c1 ≡ None → net_of (nets_2 c0 c1 d.nets) c2 ≡ None
      → net_of (nets_3 c0 c1 c2 d.nets) c3 ≡ None
      → declare_all appended d (inserted_sections line) ≡ Ok (with_inserted d)
  unfolding declare_all
  declare_all-inserted_sections line d k0 k1 k2 k3 f0 f1 f2 f3 =
      rw (k0, k1, k2, k3, f0, f1, f2, f3) (ap (λ (variables : List Variable). Ok (record {
        scopes = d.scopes;
        nets = nets_4 c0 c1 c2 c3 d.nets;
        variables = variables;
      })) (append-four d.variables (shown_in d (length d.nets) (codes "tenure"))
      (shown_in d (length (nets_1 c0 d.nets)) (codes "cycle"))
      (shown_in d (length (nets_2 c0 c1 d.nets)) (codes "transfer"))
      (shown_in d (length (nets_3 c0 c1 c2 d.nets)) (codes "verdict"))))
