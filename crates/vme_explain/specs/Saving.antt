-- Which files are written, and which aren't; and the line that says that one isn't.
use Rattle.std.specs.Prelude.{ℕ, Bool, ◌==◌, ◌&&◌, false, if◌then◌else◌, Option, None, Some, List, [], ◌∷◌, ◌++◌}
use Rattle.std.specs.Prelude.{codes, flat_map}
use Rattle.vme_text.specs.Escaping.{hex_escaped_byte}
use Rattle.vme_explain.specs.declared.saving.FileId.{FileId}
use Rattle.vme_explain.specs.declared.saving.PathEntry.{PathEntry}
use Rattle.vme_explain.specs.declared.saving.PathEntry.TheVariants.{Nothing, File, Other}
use Rattle.vme_explain.specs.declared.saving.SaveRefusal.{SaveRefusal}
use Rattle.vme_explain.specs.declared.saving.SaveRefusal.TheVariants.{Binding, Dump, Foreign, Shared}

-- two files are the same if they have the same number on the same device
abbrev pub is_same : FileId → FileId → Bool
is_same one other = one.device == other.device && one.number == other.number

-- the entry is file `id`
abbrev pub is_this_file : PathEntry → FileId → Bool
is_this_file Nothing id = false
is_this_file (File other is_ours) id = is_same other id
is_this_file Other id = false

-- both entries are the same file
abbrev pub is_one_file : PathEntry → PathEntry → Bool
is_one_file Nothing second = false
is_one_file (File id is_ours) second = is_this_file second id
is_one_file Other second = false

-- A file isn't written over the binding or the dump, nor over what this program didn't write.
abbrev pub save_refusal : PathEntry → FileId → FileId → Option SaveRefusal
save_refusal Nothing binding dump = None
save_refusal (File id is_ours) binding dump =
    if is_same id binding then Some Binding
    else if is_same id dump then Some Dump
    else if is_ours then None
    else Some Foreign
save_refusal Other binding dump = Some Foreign

-- why no file is written at a path, as the end of a line
abbrev pub refusal_reason : SaveRefusal → List ℕ
refusal_reason Binding = codes ": it is the binding" ++ 10 ∷ []
refusal_reason Dump = codes ": it is the dump" ++ 10 ∷ []
refusal_reason Foreign = codes ": it is there, and vmecheck didn't write it" ++ 10 ∷ []
refusal_reason Shared = codes ": two files are wanted there" ++ 10 ∷ []

-- the line that no file is written at a path, which it shows in visible characters alone, and why
abbrev pub save_refusal_text : List ℕ → SaveRefusal → List ℕ
save_refusal_text path refusal =
    codes "vmecheck: nothing is written over " ++ flat_map hex_escaped_byte path ++ refusal_reason refusal
