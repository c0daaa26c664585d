-- A dump with further declarations before the end of its definitions, and strings in its body: it is read as the dump
-- with further variables.
use Rattle.std.proofs.Common.{◌≡◌, ℕ, List, [], ◌∷◌, ◌++◌, Option, Some, None, Result, Ok, Err, true, false, refl, sym}
use Rattle.std.proofs.Common.{ap}
use Rattle.std.proofs.Common.{◌∙◌, Bool}
use Rattle.vcd_read.specs.Contents.{Contents}
use Rattle.vcd_read.specs.declared.dump.Instant.{Instant}
use Rattle.vcd_read.specs.declared.dump.Variable.{Variable}
use Rattle.vcd_read.specs.declared.fault.VcdFault.{VcdFault}
use Rattle.vcd_read.specs.Tokens.{Token, tokens}
use Rattle.vcd_read.specs.Header.{◌>>=◌, Declared, Header, HeaderItem, Section, appended, between}
use Rattle.vcd_read.specs.Header.{declare_all, ends_definitions, header_from, inside, is_end, nothing_declared}
use Rattle.vcd_read.specs.Header.{whole, with_item, with_word}
use Rattle.vcd_read.specs.Body.{body_from, ready}
use Rattle.vcd_read.specs.Meaning.{body_of, dump_of, instants_from}
use Rattle.vcd_places.proofs.InsertionLemmas.{declare_all-append}
use Rattle.vcd_places.proofs.SkippedLemmas.{instants_in}

-- in the section that ends the definitions, a token leaves no items, whether it ends the section (`test`) or is a word
items-end_definitions_token : (section : Section) (t : Token) (ts : List Token) → ends_definitions section ≡ true
    → (body : List Token)
    → (test : Bool)
    → ((header_from (inside (with_word section t.bytes)) ts).body ≡ Some body
    → (header_from (inside (with_word section t.bytes)) ts).items ≡ [])
    → (elim test as (λ _. Header) [
      | true ↦ elim (ends_definitions section) as (λ _. Header) [
        | true ↦ record { items = []; body = Some ts }
        | false ↦ with_item (whole section) (header_from between ts)
      ]
      | false ↦ header_from (inside (with_word section t.bytes)) ts
    ]).body ≡ Some body
    → (elim test as (λ _. Header) [
      | true ↦ elim (ends_definitions section) as (λ _. Header) [
        | true ↦ record { items = []; body = Some ts }
        | false ↦ with_item (whole section) (header_from between ts)
      ]
      | false ↦ header_from (inside (with_word section t.bytes)) ts
    ]).items ≡ []
items-end_definitions_token section t ts is body true rest ends = rw is refl
items-end_definitions_token section t ts is body false rest ends = rest ends

-- the section that ends the definitions declares nothing
pub items-end_definitions : (ts : List Token) (section : Section) → ends_definitions section ≡ true
    → (body : List Token) → (header_from (inside section) ts).body ≡ Some body
    → (header_from (inside section) ts).items ≡ []
unfolding header_from
items-end_definitions [] section is body ends = absurd cc
items-end_definitions (t ∷ ts) section is body ends =
    items-end_definitions_token section t ts is body (is_end t.bytes)
    (items-end_definitions ts (with_word section t.bytes) is body) ends

-- the contents of a dump are made of its definitions and its body
dump_of-parts : (text : List ℕ) (declared : Declared (List Variable)) (body : List Token) (instants : List Instant)
    → declare_all appended (nothing_declared []) (header_from between (tokens text)).items ≡ Ok declared
    → (header_from between (tokens text)).body ≡ Some body
    → instants_in declared.nets (body_from ready body) ≡ Ok instants
    → dump_of text ≡ Ok (record { variables = declared.variables; instants = instants })
unfolding dump_of
dump_of-parts text declared body instants declares ends comes =
    ap (λ (r : Result (Declared (List Variable)) VcdFault). r >>= λ declared.
    body_of text (header_from between (tokens text)).body >>= λ body. instants_from declared.nets body >>= λ instants.
    Ok (record { variables = declared.variables; instants = instants })) declares
    ∙ ap (λ (o : Option (List Token)). body_of text o >>= λ body. instants_from declared.nets body >>= λ instants.
    Ok (record { variables = declared.variables; instants = instants })) ends
    ∙ ap (λ (r : Result (List Instant) VcdFault). r >>= λ instants.
    Ok (record { variables = declared.variables; instants = instants })) comes

-- the definitions and the body of the text give what the contents `contents` have
pub record IsDump (text : List ℕ) (contents : Contents) : Type 0 where
  pub declared : Declared (List Variable)
  pub body : List Token
  pub declares : declare_all appended (nothing_declared []) (header_from between (tokens text)).items ≡ Ok declared
  pub ends : (header_from between (tokens text)).body ≡ Some body
  pub comes : instants_in declared.nets (body_from ready body) ≡ Ok contents.instants
  pub variables : contents.variables ≡ declared.variables

-- if a chain of two results is `Ok`, both are
pub bind-ok : {A B E : Type 0} (r : Result A E) (f : A → Result B E) (b : B) → (r >>= f) ≡ Ok b
    → (a : A) × (r ≡ Ok a) × (f a ≡ Ok b)
bind-ok (Ok a) f b e = (a, refl, e)
bind-ok (Err fault) f b e = absurd cc

-- a body that is no fault is there
body_of-ok : (text : List ℕ) (o : Option (List Token)) (body : List Token) → body_of text o ≡ Ok body → o ≡ Some body
body_of-ok text None body e = absurd cc
body_of-ok text (Some other) body e = cc

-- the contents, as a result without a fault
abbrev read_as : Contents → Result Contents VcdFault
read_as contents = Ok contents

-- the contents that are read, or else the others
abbrev contents_in : Contents → Result Contents VcdFault → Contents
contents_in other (Ok contents) = contents
contents_in other (Err fault) = other

-- contents that are read the same are the same
read_as-same : (a b : Contents) → read_as a ≡ read_as b → a ≡ b
read_as-same a b e = ap (contents_in a) e

-- a text that is read has definitions and a body that make its contents
pub IsDump-dump_of : (text : List ℕ) (contents : Contents) → dump_of text ≡ Ok contents → IsDump text contents
unfolding dump_of
IsDump-dump_of text contents e =
    let header : Header = header_from between (tokens text) in
    let first = bind-ok (declare_all appended (nothing_declared []) header.items) (λ declared.
    body_of text header.body >>= λ body. instants_from declared.nets body >>= λ instants.
    Ok (record { variables = declared.variables; instants = instants })) contents e in
    let second = bind-ok (body_of text header.body) (λ body. instants_from first.0.nets body >>= λ instants.
    Ok (record { variables = first.0.variables; instants = instants })) contents first.2 in
    let third = bind-ok (instants_from first.0.nets second.0) (λ instants.
    Ok (record { variables = first.0.variables; instants = instants })) contents second.2 in
    let made : Contents = record { variables = first.0.variables; instants = third.0 } in
    record {
      declared = first.0;
      body = second.0;
      declares = first.1;
      ends = body_of-ok text header.body second.0 second.1;
      comes = third.1 ∙ ap (λ (found : Contents). Ok found.instants) (read_as-same made contents third.2);
      variables = sym (ap (λ (found : Contents). found.variables) (read_as-same made contents third.2));
    }

-- a text with the items of the dump and then `more`, and a body of the same instants, is read as the dump with the
-- variables of `more`
pub dump_of-more_items : (dump text : List ℕ) (contents : Contents) (is : IsDump dump contents) (more : List HeaderItem)
    (declared : Declared (List Variable)) (body : List Token)
    → (header_from between (tokens text)).items ≡ (header_from between (tokens dump)).items ++ more
    → (header_from between (tokens text)).body ≡ Some body
    → declare_all appended is.declared more ≡ Ok declared
    → instants_in declared.nets (body_from ready body) ≡ Ok contents.instants
    → dump_of text ≡ Ok (record { variables = declared.variables; instants = contents.instants })
dump_of-more_items dump text contents is more declared body items ends declares comes =
    dump_of-parts text declared body contents.instants
    (ap (declare_all appended (nothing_declared [])) items
    ∙ declare_all-append appended (header_from between (tokens dump)).items more (nothing_declared [])
    ∙ ap (λ (r : Result (Declared (List Variable)) VcdFault). r >>= λ next. declare_all appended next more) is.declares
    ∙ declares)
    ends comes
