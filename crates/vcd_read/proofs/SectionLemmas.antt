-- A section of the header is read word by word, up to its `$end`.
use Rattle.std.proofs.Common.{◌≡◌, ℕ, ◌<◌, ◌-◌, eqb, take, drop, get_or, Bool, true, false, cond, List, [], ◌∷◌, ◌++◌}
use Rattle.std.proofs.Common.{length, Option, Some, None, option_map, Result, Ok, Err, refl, sym, ap, ◌∙◌, append_assoc}
use Rattle.std.proofs.Common.{arith, length-append}
use Rattle.std.proofs.lemmas.List.{append-nil, map-append}
use Rattle.std.proofs.lemmas.List.Elements.{All-push}
use Rattle.std.specs.List.{All, concat}
use denote.Ref.{Bor}
use Rattle.vcd_read.specs.Scopes.{texts}
use Rattle.vcd_read.specs.declared.fault.FaultKind.{FaultKind}
use Rattle.vcd_read.specs.declared.fault.FaultKind.TheVariants.{UnfinishedSection, BadVar}
use Rattle.vcd_read.specs.declared.fault.VcdFault.{VcdFault}
use Rattle.vcd_read.specs.Tokens.{Token}
use Rattle.vcd_read.specs.Header.{◌>>=◌, is_end, is_code, VarWords, var_words}
use Rattle.vcd_read.specs.Numbers.{number_below}
use Rattle.vcd_read.specs.Sections.{Ended, after_word, ended_in, section_from, after_section}

-- `ended` with `words` before its own
abbrev pub after_words : List (List ℕ) → Ended → Ended
after_words words ended = record { words = words ++ ended.words; rest = ended.rest }

-- the result of reading a section's rest, with `words` before its words
abbrev pub with_words_before : List (List ℕ) → Result Ended VcdFault → Result Ended VcdFault
with_words_before words read = read >>= λ ended. Ok (after_words words ended)

-- a section that begins with the token `$end` has no words
section_end : (line : ℕ) (t : Token) (before ts : List Token) → before ≡ t ∷ ts → is_end t.bytes ≡ true
    → section_from line before ≡ Ok (record { words = []; rest = ts })
unfolding ended_in
section_end line t before ts cut end = ap (section_from line) cut ∙ rw (section_from, ended_in, end) refl

-- a word before a section's rest, be it ended or not, is put before the words of its result
word_before : (line : ℕ) (word : List ℕ) (ended : Option Ended) → elim (option_map (after_word word) ended) as
    (λ _. Result Ended VcdFault) [ None ↦ Err (record { line = line; kind = UnfinishedSection }) | Some e ↦ Ok e ]
    ≡ with_words_before (word ∷ []) (elim ended as (λ _. Result Ended VcdFault)
    [ None ↦ Err (record { line = line; kind = UnfinishedSection }) | Some e ↦ Ok e ])
word_before line word None = refl
word_before line word (Some e) = refl

-- a token other than `$end` is the first word of the section
section_word : (line : ℕ) (t : Token) (before ts : List Token) → before ≡ t ∷ ts → is_end t.bytes ≡ false
    → section_from line before ≡ with_words_before (t.bytes ∷ []) (section_from line ts)
unfolding ended_in
section_word line t before ts cut word = ap (section_from line) cut ∙ rw (section_from, ended_in, word)
    (word_before line t.bytes (ended_in ts))

-- the fault of a text that ends in a section of the line
abbrev pub unfinished_at : {Y : Type 0} → ℕ → Result Y VcdFault
unfinished_at line = Err (record { line = line; kind = UnfinishedSection })

-- without a token the section is unfinished
section_unfinished : (line : ℕ) (before : List Token) → before ≡ [] → section_from line before ≡ unfinished_at line
unfolding ended_in
section_unfinished line before cut = ap (section_from line) cut

-- a section with these words, after which `rest` follows
abbrev ended_as : List (List ℕ) → List Token → Result Ended VcdFault
ended_as words rest = Ok (record { words = words; rest = rest })

-- `back` and then `front` put before the words of a result are `front ++ back` before them
with_words_before-append : (front back : List (List ℕ)) (read : Result Ended VcdFault)
    → with_words_before front (with_words_before back read)
    ≡ with_words_before (front ++ back) read
with_words_before-append front back (Err fault) = refl
with_words_before-append front back (Ok ended) = ap (λ (words : List (List ℕ)). ended_as words ended.rest)
    (sym (append_assoc front back ended.words))

-- a section is read on, after the words so far

-- after `words` the token `$end` ends the section
pub words_end : (line : ℕ) (words : List (List ℕ)) (t : Token) (before ts : List Token) → before ≡ t ∷ ts
    → is_end t.bytes ≡ true → with_words_before words (section_from line before)
    ≡ Ok (record { words = words; rest = ts })
words_end line words t before ts cut end = ap (with_words_before words) (section_end line t before ts cut end)
    ∙ ap (λ (ws : List (List ℕ)). ended_as ws ts) (append-nil words)

-- after `words` a token other than `$end` is one more word
pub words_word : (line : ℕ) (words : List (List ℕ)) (t : Token) (before ts : List Token) → before ≡ t ∷ ts
    → is_end t.bytes ≡ false → with_words_before words (section_from line before)
    ≡ with_words_before (words ++ t.bytes ∷ [])
    (section_from line ts)
words_word line words t before ts cut word = ap (with_words_before words) (section_word line t before ts cut word)
    ∙ with_words_before-append words (t.bytes ∷ []) (section_from line ts)

-- after `words`, without a token, the section is unfinished
pub words_unfinished : (line : ℕ) (words : List (List ℕ)) (before : List Token) → before ≡ [] → with_words_before words
    (section_from line before) ≡ unfinished_at line
words_unfinished line words before cut = ap (with_words_before words) (section_unfinished line before cut)

-- where the words aren't kept

-- words before don't change what follows the section
same_rest : (words : List (List ℕ)) (read : Result Ended VcdFault)
    → (with_words_before words read >>= λ ended. Ok ended.rest) ≡ (read >>= λ ended. Ok ended.rest)
same_rest words (Err fault) = refl
same_rest words (Ok ended) = refl

-- a section that begins with the token `$end` ends there
pub skip_end : (line : ℕ) (t : Token) (before ts : List Token) → before ≡ t ∷ ts → is_end t.bytes ≡ true
    → after_section line before ≡ Ok ts
skip_end line t before ts cut end = ap (λ (read : Result Ended VcdFault). read >>= λ ended. Ok ended.rest)
    (section_end line t before ts cut end)

-- a token other than `$end` is skipped
pub skip_word : (line : ℕ) (t : Token) (before ts : List Token) → before ≡ t ∷ ts → is_end t.bytes ≡ false
    → after_section line before ≡ after_section line ts
skip_word line t before ts cut word = ap (λ (read : Result Ended VcdFault). read >>= λ ended. Ok ended.rest)
    (section_word line t before ts cut word) ∙ same_rest (t.bytes ∷ []) (section_from line ts)

-- without a token the section that is skipped is unfinished
pub skip_unfinished : (line : ℕ) (before : List Token) → before ≡ [] → after_section line before ≡ unfinished_at line
skip_unfinished line before cut = ap (λ (read : Result Ended VcdFault). read >>= λ ended. Ok ended.rest)
    (section_unfinished line before cut)

-- ---- words

-- the texts of words with one more at the end are those of the words, and its text
pub texts_push : (words : List (Bor (List ℕ))) (word : Bor (List ℕ)) → texts (words ++ word ∷ []) ≡ texts words
    ++ word.now ∷ []
texts_push words word = map-append (λ (w : Bor (List ℕ)). w.now) words (word ∷ [])

-- if no word is empty, none is with one more that isn't empty
pub All-push_word : (words : List (Bor (List ℕ))) (word : Bor (List ℕ)) → All (λ w. 0 < length w.now) words
    → 0 < length word.now → All (λ w. 0 < length w.now) (words ++ word ∷ [])
All-push_word words word each some = All-push (λ (w : Bor (List ℕ)). 0 < length w.now) words word each some

-- a `$var` section whose size is refused has the fault of the size
pub var_words-refused : (words : List (Bor (List ℕ))) (kind : FaultKind) (d : Bor (List ℕ)) → false
    ≡ eqb (length (take (length words - 3) (drop 3 words))) 0 → Err kind ≡ number_below 65537 BadVar
    (get_or words 1 d).now → var_words (texts words) ≡ Err kind
var_words-refused [] kind d some e = absurd cc
var_words-refused (w ∷ []) kind d some e = absurd cc
var_words-refused (w ∷ size ∷ []) kind d some e = absurd cc
var_words-refused (w ∷ size ∷ code ∷ []) kind d some e = absurd cc
var_words-refused (w ∷ size ∷ code ∷ first ∷ others) kind d some e = rw (← e) refl

-- the reference of a variable's section isn't empty

-- a variable that the words of a section make has the reference of those words
reference-of_var_words : (r : Result ℕ FaultKind) (valid : Bool) (code reference : List ℕ) (var : VarWords)
    → (r >>= λ n. cond valid (Ok (record { size = n; code = code; reference = reference })) (Err BadVar)) ≡ Ok var
    → var.reference ≡ reference
reference-of_var_words (Ok n) true code reference var e = ap reference_in (sym e)
  where
    reference_in : Result VarWords FaultKind → List ℕ
    reference_in (Ok var) = var.reference
    reference_in (Err kind) = []
reference-of_var_words (Ok n) false code reference var e = absurd (cc e)
reference-of_var_words (Err kind) valid code reference var e = absurd (cc e)

-- the reference of a variable isn't empty, if no word of its section is
pub reference-some : (words : List (Bor (List ℕ))) (var : VarWords) → All (λ w. 0 < length w.now) words
    → var_words (texts words) ≡ Ok var → 0 < length var.reference
reference-some [] var each e = absurd (cc e)
reference-some (w ∷ []) var each e = absurd (cc e)
reference-some (w ∷ size ∷ []) var each e = absurd (cc e)
reference-some (w ∷ size ∷ code ∷ []) var each e = absurd (cc e)
reference-some (w ∷ size ∷ code ∷ first ∷ others) var each e =
    let is = reference-of_var_words (number_below 65537 BadVar size.now) (is_code code.now) code.now
    (concat (first.now ∷ texts others))
    var e in
    let some : 0 < length first.now = each 3 first (omega arith) in
    omega (arith, some, ap length is, length-append first.now (concat (texts others)))
