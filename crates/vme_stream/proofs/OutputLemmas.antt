-- Writing a text in pieces, and one text after another.
use Rattle.std.proofs.Common.{◌≡◌, ◌-◌, ℕ, List, ◌++◌, length, take, drop, sym, ap, ◌∙◌, append_assoc, take-append-drop}
use Rattle.std.proofs.Common.{suc, ◌+◌, [], Option, refl, subst}
use Rattle.std.proofs.Math.Seq.{take-append_seam, take-append-add}
use Rattle.std.proofs.lemmas.List.{take_rest}
use Rattle.std.specs.Io.KnownBytes.{Appends}
use Rattle.std.proofs.KnownBytes.{Appends-nil, Appends-trans}
use Rattle.vme_trace.specs.Streams.{Writing}
use Rattle.vme_listing.specs.Written.{AppendsFront}
use Rattle.vme_stream.specs.Outputs.{FailsToWrite, Writes}

-- the next `n` bytes of `rest` were written, after `done`
pub append-next_written : (all done rest : List ℕ) (n : ℕ) → all ≡ done ++ rest → all ≡ (done ++ take n rest)
    ++ take (length rest - n) (drop n rest)
append-next_written all done rest n split =
    split ∙ ap (λ l. done ++ l) (sym (take-append-drop n rest)) ∙ sym (append_assoc done (take n rest) (drop n rest))
    ∙ ap (λ l. (done ++ take n rest) ++ l) (sym (take_rest rest n))

-- `done` is the first `length done` bytes of `all`
pub take-done : (all done rest : List ℕ) → all ≡ done ++ rest → done ≡ take (length done) all
take-done all done rest split = sym (ap (take (length done)) split ∙ take-append_seam done rest)

-- if a front of `text` was written, it is the first n bytes for some n
pub AppendsFront-take : (old new : Option (List ℕ)) (text : List ℕ) → AppendsFront old new text → (n : ℕ)
    × Appends old new
    (take n text)
AppendsFront-take old new text took =
    let (front, rest, split, appended) = took in
    (length front, subst (λ (bytes : List ℕ). Appends old new bytes) (take-done text front rest split) appended)

-- ---- one text after another

-- a prefix of `x` is a prefix of `x ++ y`
pub take-of_append : (x y : List ℕ) (n : ℕ) → take n x ≡ take (length (take n x)) (x ++ y)
take-of_append x y n =
    let split : x ++ y ≡ take n x ++ (drop n x ++ y) =
    ap (λ (l : List ℕ). l ++ y) (sym (take-append-drop n x)) ∙ append_assoc (take n x) (drop n x) y in
    sym (ap (take (length (take n x))) split ∙ take-append_seam (take n x) (drop n x ++ y))

-- a writer that takes nothing writes the empty text
pub Writes-nothing : (w : Writing) → Writes w w []
Writes-nothing w = (Appends-nil w.taken, refl)

-- two writes, of `x` and then of `y`, write `x ++ y`
pub Writes-append : (a b c : Writing) (x y : List ℕ) → Writes a b x → Writes b c y → Writes a c (x ++ y)
Writes-append a b c x y one two = (Appends-trans a.taken b.taken c.taken x y one.0 two.0, two.1 ∙ one.1)

-- a failed write of `x` is a failed write of `x ++ y`
pub FailsToWrite-longer : (a b : Writing) (x y : List ℕ) → FailsToWrite a b x → FailsToWrite a b (x ++ y)
FailsToWrite-longer a b x y one =
    let ((n, appends), more) = one in
    ((length (take n x), subst (Appends a.taken b.taken) (take-of_append x y n) appends), more)

-- a write of `x`, and then a failed one of `y`, is a failed write of `x ++ y`
pub FailsToWrite-after : (a b c : Writing) (x y : List ℕ) → Writes a b x → FailsToWrite b c y
    → FailsToWrite a c (x ++ y)
FailsToWrite-after a b c x y one two =
    let ((n, appends), more) = two in
    let both = Appends-trans a.taken b.taken c.taken x (take n y) one.0 appends in
    ((length x + n, subst (Appends a.taken c.taken) (sym (take-append-add x y n)) both), more ∙ ap suc one.1)
