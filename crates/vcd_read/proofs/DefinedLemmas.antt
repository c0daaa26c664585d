-- What a visitor makes of the variables of a header is a fold over all of them, and the header's fault is the same.
use Rattle.std.proofs.Common.{◌≡◌, ℕ, Bool, true, false, cond, List, [], ◌∷◌, Result, Ok, Err, codes, refl, sym, ap}
use Rattle.std.proofs.Common.{◌∙◌, subst}
use Rattle.std.specs.Prelude.{bytes_eq}
use Rattle.std.specs.List.{fold}
use Rattle.std.proofs.lemmas.List.Sums.{fold-append}
use Rattle.vcd_read.specs.declared.dump.Variable.{Variable}
use Rattle.vcd_read.specs.declared.fault.FaultKind.{FaultKind}
use Rattle.vcd_read.specs.declared.fault.VcdFault.{VcdFault}
use Rattle.vcd_read.specs.Tokens.{Token, tokens}
use Rattle.vcd_read.specs.Header.{◌>>=◌, at_line, HeaderItem, whole, unfinished, stray, JoinedNets, net_for, net_of}
use Rattle.vcd_read.specs.Header.{VarWords, var_words, variable_in, reference_of, Declared, declare_all}
use Rattle.vcd_read.specs.Header.{declare_section, declare_var, open_scope, close_scope, nothing_declared, appended}
use Rattle.vcd_read.specs.Header.{header_from, between}
use Rattle.vcd_read.specs.Sections.{Defined, Headed, defined, headed, header_of}
use Rattle.vcd_read.specs.Meaning.{ReadFails, body_of, dump_of}
use Rattle.vcd_read.proofs.DumpLemmas.{contents_of_header, dump_of-header, whole_header}
use Rattle.vcd_read.proofs.ReadLemmas.{ReadFails-first, ReadFailsAs-before_total}
use Rattle.vcd_read.proofs.ResultLemmas.{ok-same}

module _ {V : Type 0} (with_variable : V → Variable → V) where
  -- what a visitor makes of `variables`, one after the other
  abbrev pub taken_all : V → List Variable → V
  taken_all v variables = fold with_variable v variables

  -- the declarations `d`, with what a visitor makes of their variables
  abbrev pub taken_in : V → Declared (List Variable) → Declared V
  taken_in v d = record { scopes = d.scopes; nets = d.nets; variables = taken_all v d.variables }

  -- the declarations, with what a visitor makes of their variables, or the fault
  abbrev taken_of : V → Result (Declared (List Variable)) FaultKind → Result (Declared V) FaultKind
  taken_of v r = r >>= λ d. Ok (taken_in v d)

  -- one more variable, whose net is found or added, is declared with a visitor as with all variables
  taken_of-joined : (v : V) (d : Declared (List Variable)) (var : VarWords) (r : Result JoinedNets FaultKind)
      → (r >>= λ joined. Ok (record (taken_in v d) {
        nets = joined.nets;
        variables = with_variable
            (taken_all v d.variables) (variable_in d.scopes joined.net var.size (reference_of var.size var.reference));
      }))
      ≡ taken_of v
      (r >>= λ joined. Ok
      (record d {
        nets = joined.nets;
        variables = appended d.variables (variable_in d.scopes joined.net var.size
            (reference_of var.size var.reference));
      }))
  taken_of-joined v d var (Ok joined) =
      ap (λ (all : V). Ok (record { scopes = d.scopes; nets = joined.nets; variables = all }))
      (sym (fold-append with_variable v d.variables (variable_in d.scopes joined.net var.size
      (reference_of var.size var.reference) ∷ [])))
  taken_of-joined v d var (Err kind) = refl

  -- one more variable, by the words of its section, is declared with a visitor as with all variables
  taken_of-var_words : (v : V) (d : Declared (List Variable)) (words : List (List ℕ)) (r : Result VarWords FaultKind)
      → (r >>= λ var. net_for d.nets var.code var.size (net_of d.nets var.code) >>= λ joined.
      Ok (record (taken_in v d) {
        nets = joined.nets;
        variables = with_variable (taken_all v d.variables)
            (variable_in d.scopes joined.net var.size (reference_of var.size var.reference));
      }))
      ≡ taken_of v (r >>= λ var. net_for d.nets var.code var.size (net_of d.nets var.code) >>= λ joined.
      Ok (record d {
        nets = joined.nets;
        variables = appended d.variables (variable_in d.scopes joined.net var.size
            (reference_of var.size var.reference));
      }))
  taken_of-var_words v d words (Ok var) = taken_of-joined v d var
      (net_for d.nets var.code var.size (net_of d.nets var.code))
  taken_of-var_words v d words (Err kind) = refl

  -- a scope closes with a visitor as with all variables
  close_scope-taken_in : (v : V) (d : Declared (List Variable)) (scopes : List (List ℕ))
      → close_scope (taken_in v d) scopes
      ≡ taken_of v (close_scope d scopes)
  close_scope-taken_in v d [] = refl
  close_scope-taken_in v d (name ∷ scopes) = refl

  -- a section of any kind declares with a visitor what it declares with all variables
  taken_of-section : (v : V) (d : Declared (List Variable)) (words : List (List ℕ)) (var scope upscope : Bool)
      → cond var (declare_var with_variable (taken_in v d) words) (cond scope (Ok (open_scope (taken_in v d) words))
      (cond upscope (close_scope (taken_in v d) d.scopes) (Ok (taken_in v d))))
      ≡ taken_of v (cond var (declare_var appended d words) (cond scope (Ok (open_scope d words))
      (cond upscope (close_scope d d.scopes) (Ok d))))
  taken_of-section v d words true scope upscope = taken_of-var_words v d words (var_words words)
  taken_of-section v d words false true upscope = refl
  taken_of-section v d words false false true = close_scope-taken_in v d d.scopes
  taken_of-section v d words false false false = refl

  -- the declarations, with what a visitor makes of their variables, or the fault with its line
  abbrev defined_in : V → Result (Declared (List Variable)) VcdFault → Result (Declared V) VcdFault
  defined_in v r = r >>= λ d. Ok (taken_in v d)

  -- a section on this line, and then items that declare with a visitor what they declare with all variables, do so
  defined_in-section : (v : V) (items : List HeaderItem) (line : ℕ) (r : Result (Declared (List Variable)) FaultKind)
      → ((d : Declared (List Variable)) → declare_all with_variable (taken_in v d) items
      ≡ defined_in v (declare_all appended d items))
      → (at_line line (taken_of v r) >>= λ next. declare_all with_variable next items)
      ≡ defined_in v (at_line line r >>= λ next. declare_all appended next items)
  defined_in-section v items line (Ok d) rest = rest d
  defined_in-section v items line (Err kind) rest = refl

  -- items declare with a visitor what they declare with all variables
  declare_all-taken_in : (v : V) (items : List HeaderItem) (d : Declared (List Variable))
      → declare_all with_variable (taken_in v d)
      items ≡ defined_in v (declare_all appended d items)
  unfolding declare_all
  declare_all-taken_in v [] d = refl
  declare_all-taken_in v (whole section ∷ items) d =
      ap (λ (r : Result (Declared V) FaultKind). at_line section.line r >>= λ next. declare_all with_variable next
      items)
      (taken_of-section v d section.words (bytes_eq section.keyword (codes "$var"))
      (bytes_eq section.keyword (codes "$scope")) (bytes_eq section.keyword (codes "$upscope")))
      ∙ defined_in-section v items section.line (declare_section appended d section)
      (λ d. declare_all-taken_in v items d)
  declare_all-taken_in v (unfinished line ∷ items) d = refl
  declare_all-taken_in v (stray line ∷ items) d = refl

  -- the header `d`, with what a visitor makes of its variables
  abbrev pub taken_head : V → Defined (List Variable) → Defined V
  taken_head v d = record { head = d.head; variables = taken_all v d.variables }

  -- declarations and a body make with a visitor the header that they make with all variables
  headed-taken_head : (v : V) (r : Result (Declared (List Variable)) VcdFault) (b : Result (List Token) VcdFault)
      → (defined_in v r >>= λ declared. b >>= λ body. Ok (headed declared body))
      ≡ ((r >>= λ declared. b >>= λ body. Ok (headed declared body)) >>= λ d. Ok (taken_head v d))
  headed-taken_head v (Ok d) (Ok body) = refl
  headed-taken_head v (Ok d) (Err fault) = refl
  headed-taken_head v (Err fault) b = refl

  -- to read a header with a visitor gives what the visitor makes of all its variables
  pub header_of-taken_head : (text : List ℕ) (v : V) → header_of with_variable text (nothing_declared v) (tokens text)
      ≡ (whole_header text >>= λ d. Ok (taken_head v d))
  header_of-taken_head text v =
      let header = header_from between (tokens text) in
      ap (λ (r : Result (Declared V) VcdFault). r >>= λ declared. body_of text header.body >>= λ body. Ok
      (headed declared body)) (declare_all-taken_in v header.items (nothing_declared []))
      ∙ headed-taken_head v (declare_all appended (nothing_declared []) header.items) (body_of text header.body)

  -- a fault of a header that is read with a visitor is the fault of the header
  pub ReadFails-visited : (fault : VcdFault) (text : List ℕ) (v : V)
      → ReadFails fault (header_of with_variable text (nothing_declared v) (tokens text))
      → ReadFails fault (whole_header text)
  ReadFails-visited fault text v fails =
      ReadFailsAs-before_total fault.line fault.kind (whole_header text) (taken_head v)
      (subst (λ (r : Result (Defined V) VcdFault). ReadFails fault r) (header_of-taken_head text v) fails)

  -- a fault of a header that is read with a visitor is the fault of the dump
  pub dump_of-visited_fails : (fault : VcdFault) (text : List ℕ) (v : V)
      → ReadFails fault (header_of with_variable text (nothing_declared v) (tokens text))
      → ReadFails fault (dump_of text)
  dump_of-visited_fails fault text v fails =
      ReadFails-first fault (whole_header text) contents_of_header _ (dump_of-header text)
      (ReadFails-visited fault text v fails)

  -- the header of `text` is `h`, and `last` is `first` after its variables
  abbrev pub HasHeader : List ℕ → Headed → V → V → Type 0
  HasHeader text h first last = (variables : List Variable) × (whole_header text ≡ Ok (defined h variables))
      × (last ≡ fold with_variable first variables)

  -- where a visitor makes `last` of the header `r` of `text`, `HasHeader` holds
  HasHeader-by_result : (text : List ℕ) (h : Headed) (first last : V) (r : Result (Defined (List Variable)) VcdFault)
      → whole_header text ≡ r → (r >>= λ d. Ok (taken_head first d)) ≡ Ok (defined h last)
      → HasHeader text h first last
  HasHeader-by_result text h first last (Ok d) e is =
      let same = ok-same (taken_head first d) (defined h last) _ refl is in (
        d.variables,
        e ∙ ap (λ (x : Defined V). Ok (defined x.head d.variables)) same,
        sym (ap (λ (x : Defined V). x.variables) same),
      )
  HasHeader-by_result text h first last (Err fault) e is = absurd (cc is)

  -- where a visitor reads the header of `text` without a fault, `HasHeader` holds
  pub HasHeader-visited : (text : List ℕ) (h : Headed) (first last : V)
      → header_of with_variable text (nothing_declared first) (tokens text) ≡ Ok (defined h last)
      → HasHeader text h first last
  HasHeader-visited text h first last e = HasHeader-by_result text h first last (whole_header text) refl
      (sym (header_of-taken_head text first) ∙ e)
