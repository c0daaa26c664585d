-- Pieces of the steps of a recording.
use Rattle.std.proofs.Common.{◌≡◌, ℕ, ◌+◌, ◌<◌, ◌^◌, Bool, true, false, List, [], ◌++◌, None, length, take, drop, refl}
use Rattle.std.proofs.Common.{ap, sym, ◌∙◌, subst, arith}
use Rattle.std.proofs.Math.Seq.{take-add}
use Rattle.std.proofs.lemmas.List.{take-append-drop}
use Rattle.vme_trace.specs.Levels.{Levels}
use Rattle.vme_trace.specs.Trace.{levels_after}
use Rattle.vme_trace.specs.WellFormed.{malformed_step}
use Rattle.vme_trace.specs.declared.step.Step.{Step}
use Rattle.vme_trace.proofs.CutBlocks.{levels_after-append}
use Rattle.vme_monitor.specs.Outcome.{Outcome, composed_outcome, nothing_shown}
use Rattle.vme_summary.proofs.Sound.{SoundParts-of_well_formed}
use Rattle.vme_part_format.specs.Tables.{TableValue}
use Rattle.vme_part_tables.specs.Marked.{AreNeeded, if_needed, is_needed}
use Rattle.vme_part_tables.specs.Runs.{AgreesWithRuns, IsComposition}
use Rattle.vme_part_tables.proofs.Joining.{AgreesWithRuns-composition}
use Rattle.vme_part_tables.proofs.Noting.{IsWithin-if_needed, if_needed-whole}
use Rattle.vme_parts.proofs.Bare.{AgreesWithRuns-same_runs}
use Rattle.vme_parts.proofs.Runs.{IsRun}

-- the first n steps and then a piece of k steps are the first m = n + k steps
pub take-piece : (xs : List Step) (n k m : ℕ) → n + k ≡ m → take n xs ++ take k (drop n xs) ≡ take m xs
take-piece xs n k m e = sym (take-add n k xs) ∙ ap (λ i. take i xs) e

-- the levels after the piece are those after the first m steps
pub levels_after-piece : (o : Levels) (xs : List Step) (n k m : ℕ) → n + k ≡ m
    → levels_after (levels_after o (take n xs)) (take k (drop n xs)) ≡ levels_after o (take m xs)
levels_after-piece o xs n k m e =
    sym (levels_after-append o (take n xs) (take k (drop n xs))) ∙ ap (levels_after o) (take-piece xs n k m e)

-- a piece of well-formed steps is well-formed from the levels after the steps before it
pub malformed_step-piece : (o : Levels) (xs : List Step) (n k : ℕ)
    → malformed_step (record { opening = o; steps = xs }) ≡ None
    → malformed_step (record { opening = levels_after o (take n xs); steps = take k (drop n xs) }) ≡ None
malformed_step-piece o xs n k e =
    let whole = subst (λ (l : List Step). malformed_step (record { opening = o; steps = l }) ≡ None)
    (sym (take-append-drop n xs)) e in
    let well_formed_after = (SoundParts-of_well_formed o (take n xs) (drop n xs) whole).second in
    let again =
    subst (λ (l : List Step). malformed_step (record { opening = levels_after o (take n xs); steps = l }) ≡ None)
    (sym (take-append-drop k (drop n xs))) well_formed_after in
    (SoundParts-of_well_formed (levels_after o (take n xs)) (take k (drop n xs)) (drop k (drop n xs)) again).first

-- the empty list of steps is well-formed
pub malformed_step-no_steps : (o : Levels) (xs : List Step) → malformed_step (record { opening = o; steps = xs }) ≡ None
    → malformed_step (record { opening = o; steps = [] }) ≡ None
malformed_step-no_steps o xs e = (SoundParts-of_well_formed o [] xs e).first

-- without steps there are no marks, so it doesn't matter which are needed
pub AgreesWithRuns-no_steps : {P : Type 0} (place : P → ℕ) (count : ℕ) (t : TableValue) (needs : List Bool)
    (run : P → Outcome P)
    → ((p : P) → run p ≡ nothing_shown p)
    → AgreesWithRuns true count place t (λ p. if_needed (is_needed needs (place p)) (run p))
    → AgreesWithRuns true count place t run
AgreesWithRuns-no_steps {P} place count t needs run e =
    AgreesWithRuns-same_runs true count place t (λ p. if_needed (is_needed needs (place p)) (run p)) run
    (λ p. rw (e p) (by_case (is_needed needs (place p)) p))
  where
    by_case : (b : Bool) (p : P) → if_needed b (nothing_shown p) ≡ nothing_shown p
    by_case true p = refl
    by_case false p = refl

-- the composition c of the tables a and b agrees with the run over the steps x and then y, if a agrees with the run
-- over x, and b with that over y, where b has marks at least for the memories in which a ends
pub AgreesWithRuns-needed : {P : Type 0} (run : P → Levels → List Step → Outcome P) → IsRun run
    → (place : P → ℕ) (count : ℕ)
    (needs : List Bool) (o v : Levels) (x y : List Step) (a b c : TableValue) → ((p : P) → place p < count)
    → v ≡ levels_after o x → length x + length y < 2 ^ 64 → IsComposition (length x) a b c → AreNeeded a needs
    → AgreesWithRuns true count place a (λ p. run p o x)
    → AgreesWithRuns true count place b (λ p. if_needed (is_needed needs (place p)) (run p v y))
    → AgreesWithRuns true count place c (λ p. run p o (x ++ y))
AgreesWithRuns-needed {P} run law place count needs o v x y a b c placed e fits s needed p q =
    AgreesWithRuns-composition (length x) (length y) fits place true count a b c (λ k. run k o x)
    (λ k. if_needed (is_needed needs (place k)) (run k v y)) (λ k. run k o (x ++ y)) s p q
    (λ k. IsWithin-if_needed (length y) (is_needed needs (place k)) (run k v y) (law.within k v y)) whole
  where
    whole : (k : P) → run k o (x ++ y) ≡ composed_outcome (length x) (run k o x)
        (if_needed (is_needed needs (place (run k o x).leaving)) (run (run k o x).leaving v y))
    whole k =
        let left = (run k o x).leaving in
        let low : place k < length a.entries = omega (arith, placed k, p.counted) in
        let there : is_needed needs (place left) ≡ true =
        subst (λ j. is_needed needs j ≡ true) (p.agrees k).leaving (needed (place k) low) in
        let goes : run k o (x ++ y) ≡ composed_outcome (length x) (run k o x) (run left v y)
        = rw e (law.joined k o x y) in
        goes
        ∙ ap (composed_outcome (length x) (run k o x))
        (sym (if_needed-whole (is_needed needs (place left)) (run left v y) there))
