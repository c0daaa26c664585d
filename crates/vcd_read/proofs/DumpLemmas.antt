-- The dump of a text is made of the variables of its header and the instants of the body after it.
use Rattle.std.proofs.Common.{◌≡◌, ◌∙◌, ap, ℕ, List, [], Result, Ok, Err, refl}
use Rattle.vcd_read.specs.declared.dump.Instant.{Instant}
use Rattle.vcd_read.specs.declared.dump.Variable.{Variable}
use Rattle.vcd_read.specs.declared.fault.VcdFault.{VcdFault}
use Rattle.vcd_read.specs.Contents.{Contents}
use Rattle.vcd_read.specs.Tokens.{Token, tokens}
use Rattle.vcd_read.specs.Header.{◌>>=◌, Declared, declare_all, nothing_declared, appended, header_from, between}
use Rattle.vcd_read.specs.Sections.{Defined, headed, header_of}
use Rattle.vcd_read.specs.Meaning.{dump_of, body_of, instants_from}

-- the contents of a dump, by its header: its variables, and the instants of its body
abbrev pub contents_of_header : Defined (List Variable) → Result Contents VcdFault
contents_of_header d = instants_from d.head.nets d.head.body >>= λ instants. Ok
    (record { variables = d.variables; instants = instants })

-- the header of a text, with all of its variables
abbrev pub whole_header : List ℕ → Result (Defined (List Variable)) VcdFault
whole_header text = header_of appended text (nothing_declared []) (tokens text)

-- the declarations and the body give the contents, whether they make a header first or not
bind-contents_of_header : (d : Result (Declared (List Variable)) VcdFault) (b : Result (List Token) VcdFault)
    → (d >>= λ declared. b >>= λ body. contents_of_header (headed declared body))
    ≡ ((d >>= λ declared. b >>= λ body. Ok (headed declared body)) >>= contents_of_header)
bind-contents_of_header (Ok declared) (Ok body) = refl
bind-contents_of_header (Ok declared) (Err fault) = refl
bind-contents_of_header (Err fault) b = refl

-- the dump of a text is the contents by its header, or the fault of this
pub dump_of-header : (text : List ℕ) → dump_of text ≡ (whole_header text >>= contents_of_header)
unfolding dump_of
dump_of-header text =
    let header = header_from between (tokens text) in
    bind-contents_of_header (declare_all appended (nothing_declared []) header.items) (body_of text header.body)

-- the contents with these variables and instants
abbrev pub with_variables : List Variable → List Instant → Result Contents VcdFault
with_variables variables instants = Ok (record { variables = variables; instants = instants })

-- the dump of a text whose header is read has its variables, and the instants of its body, or their fault
pub dump_of-whole_header : (text : List ℕ) (d : Defined (List Variable)) → whole_header text ≡ Ok d → dump_of text
    ≡ (instants_from d.head.nets d.head.body >>= with_variables d.variables)
dump_of-whole_header text d e = dump_of-header text ∙ ap (λ (r : Result (Defined (List Variable)) VcdFault). r >>=
    contents_of_header) e
