-- What the changes of a step say of the lines on which I1 to I3 depend.
use Rattle.std.proofs.Common.{◌≡◌, ℕ, Bool, true, false, ◌&&◌, not, List, [], ◌∷◌, refl}
use Rattle.std.proofs.Common.{cond}
use Rattle.std.specs.Prelude.{None, Some}
use Rattle.std.specs.Option.{is_some}
use Rattle.std.proofs.lemmas.Bool.{and_left}
use Rattle.std.proofs.Math.Bool.{and-false, and-true}
use Rattle.vme_trace.specs.Edges.{low_near}
use Rattle.vme_trace.specs.Instants.{least}
use Rattle.vme_trace.specs.LineNumbers.{input_of}
use Rattle.vme_trace.specs.Levels.{Levels}
use Rattle.vme_trace.specs.Trace.{changed}
use Rattle.vme_trace.specs.Changes.{first_changed, is_changed}
use Rattle.vme_trace.specs.declared.step.Change.{Change}
use Rattle.vme_trace.proofs.Ranges.{fails-any, least-none, least-alike}
use Rattle.vme_trace.proofs.Changing.{level-kept, falls_between-unchanged}
use Rattle.vme_chains.specs.AcknowledgeRules.{passes_on, passes_unasked}

-- the least line with p where b holds is the least line with p if b holds, and else there is none
pub least-when : (p : ℕ → Bool) (b : Bool) (n : ℕ) → least (λ l. p l && b) 0 n ≡ cond b (least p 0 n) None
least-when p true n = least-alike (λ l. p l && true) p 0 n (λ l from to. and-true (p l))
least-when p false n = least-none (λ l. p l && false) 0 n (fails-any (λ l. p l && false) 0 n
    (λ l from to. and-false (p l)))

-- a slot whose output isn't changed doesn't pass an acknowledge on
pub passes_on-unchanged : (v : Levels) (cs : List Change) (l : ℕ) → is_changed cs l ≡ false
    → passes_on v (changed v cs) l
    ≡ false
passes_on-unchanged v cs l h = rw (falls_between-unchanged v (changed v cs) l (level-kept v cs l h)) (and-false _)

-- a slot whose output isn't changed doesn't pass one on while its input isn't low
pub passes_unasked-unchanged : (v : Levels) (cs : List Change) (l : ℕ) → is_changed cs l ≡ false
    → passes_unasked v (changed v cs) l
    ≡ false
passes_unasked-unchanged v cs l h = and_left (passes_on v (changed v cs) l) _ (passes_on-unchanged v cs l h)

-- if no slot passes an acknowledge on, none does while its input isn't low
pub passes_unasked-none : (v w : Levels) (cs : List Change) → is_some (first_changed (passes_on v w) cs) ≡ false
    → first_changed (passes_unasked v w) cs ≡ None
passes_unasked-none v w [] h = refl
passes_unasked-none v w (c ∷ cs) h = past_first (passes_on v w c.line) refl h (passes_unasked-none v w cs)
  where
    past_first : (b : Bool) → passes_on v w c.line ≡ b
        → is_some (cond b (Some c.line) (first_changed (passes_on v w) cs)) ≡ false
        → (is_some (first_changed (passes_on v w) cs) ≡ false → first_changed (passes_unasked v w) cs ≡ None)
        → first_changed (passes_unasked v w) (c ∷ cs) ≡ None
    past_first true e h rest = absurd (cc)
    past_first false e h rest = rw (and_left (passes_on v w c.line) (not (low_near v w (input_of c.line))) e) (rest h)
