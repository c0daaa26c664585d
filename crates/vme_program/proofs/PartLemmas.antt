-- What is done with parts that are opened by their names.
use Rattle.std.proofs.Common.{◌≡◌, ℕ, List, Option, inr, subst, sym}
use Rattle.vme_trace.specs.Streams.{Reading, Writing}
use Rattle.vme_program.specs.Parts.{AreOpened, PartsCommandRelation, WithParts}

module _ (opens : List ℕ → Option Reading → Type 0) (Command : List (List ℕ) → PartsCommandRelation)
    (out err : Writing × Writing) (status : ℕ) where
  -- if the files of these names were opened, and the command was done with what was opened, it was done with these
  -- parts
  pub WithParts-opened : (words names : List (List ℕ)) (opened old new : List Reading) → AreOpened opens words opened
      → old ≡ opened → names ≡ words → Command names (old, new) out err status
      → WithParts opens words (Command words) out err status
  WithParts-opened words names opened old new are same named does = inr (inr (
    (old, new),
    subst (AreOpened opens words) (sym same) are,
    subst (λ (n : List (List ℕ)). Command n (old, new) out err status) named does,
  ))
