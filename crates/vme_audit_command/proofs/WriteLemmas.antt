-- What is written of a text is a prefix of it, also after another text, or before more.
use Rattle.std.proofs.Common.{ℕ, ◌+◌, List, ◌++◌, length, take, sym, subst, ◌∙◌}
use Rattle.std.proofs.Math.Seq.{take-append-add, take-length}
use Rattle.std.specs.Io.KnownBytes.{Appends}
use Rattle.std.proofs.KnownBytes.{Appends-trans}
use Rattle.vme_trace.specs.Streams.{Writing}
use Rattle.vme_stream.specs.Outputs.{Writes}
use Rattle.vme_stream.proofs.OutputLemmas.{take-of_append}
use Rattle.vme_audit_command.specs.DumpAudits.{WritesPrefix}

-- a write of `x` writes a prefix of `x`
pub WritesPrefix-whole : (a b : Writing) (x : List ℕ) → Writes a b x → WritesPrefix a b x
WritesPrefix-whole a b x one = ((length x, subst (Appends a.taken b.taken) (sym (take-length x)) one.0), one.1)

-- a prefix of `x` that is written is one of `x ++ y`
pub WritesPrefix-longer : (a b : Writing) (x y : List ℕ) → WritesPrefix a b x → WritesPrefix a b (x ++ y)
WritesPrefix-longer a b x y one =
    let ((n, appends), same) = one in
    ((length (take n x), subst (Appends a.taken b.taken) (take-of_append x y n) appends), same)

-- a write of `x`, and then of a prefix of `y`, is a write of a prefix of `x ++ y`
pub WritesPrefix-after : (a b c : Writing) (x y : List ℕ) → Writes a b x → WritesPrefix b c y
    → WritesPrefix a c (x ++ y)
WritesPrefix-after a b c x y one two =
    let ((n, appends), same) = two in
    let both = Appends-trans a.taken b.taken c.taken x (take n y) one.0 appends in
    ((length x + n, subst (Appends a.taken c.taken) (sym (take-append-add x y n)) both), same ∙ one.1)
