-- A string with a declared code between two items of a body leaves what is read of the body as it was.
use Rattle.std.proofs.Common.{◌≡◌, ℕ, Bool, false, cond, List, [], ◌∷◌, ◌++◌, Option, Some, Result, Ok, Err}
use Rattle.std.proofs.Common.{refl, ap, ◌∙◌, arith, length}
use Rattle.std.specs.Prelude.{map, nat_eq, nat_lt}
use Rattle.std.specs.List.{dedup}
use Rattle.std.proofs.lemmas.Bool.Decides.{nat_tests}
use Rattle.vcd_read.specs.declared.dump.Instant.{Instant}
use Rattle.vcd_read.specs.declared.fault.FaultKind.TheVariants.{TooWide}
use Rattle.vcd_read.specs.declared.fault.VcdFault.{VcdFault}
use Rattle.vcd_read.specs.Numbers.{number}
use Rattle.vcd_read.specs.Header.{◌>>=◌, Net, at_line, net_of, size_of}
use Rattle.vcd_read.specs.Body.{BodyItem, BodyContext, at_the_end, change}
use Rattle.vcd_read.specs.Body.{first_context}
use Rattle.vcd_read.specs.Body.{fitting, skipped, context_after, context_after_all, time_item}
use Rattle.vcd_read.specs.Meaning.{NetChange, change_of, changes_from, instant_at, instants_of, times_from}
use Rattle.vcd_read.proofs.ResultLemmas.{bind-same}

-- the instants of the items of a body, or their first fault
abbrev pub instants_in : List Net → List BodyItem → Result (List Instant) VcdFault
instants_in nets items = context_after_all nets first_context items
    >>= λ end. at_the_end end >>= λ stood. Ok (instants_of nets items)

-- no number is below 0
nat_lt-zero : (n : ℕ) → nat_lt n 0 ≡ false
nat_lt-zero n = grind (arith, nat_tests)

-- `code`, which has the net `net`, is that of an item that is skipped on this line
module _ (nets : List Net) (line net : ℕ) (code : List ℕ) (is : net_of nets code ≡ Some net) where
  -- a skipped item leaves the context as it was
  context_after-skipped : (s : BodyContext) → context_after nets s (skipped line code) ≡ Ok s
  context_after-skipped s =
      ap (λ (o : Option ℕ). at_line line (fitting nets 0 o >>= λ net. Ok s)) is
      ∙ ap (λ (test : Bool). at_line line (cond test (Err TooWide) (Ok net) >>= λ net. Ok s))
      (nat_lt-zero (size_of nets net))

  -- a skipped item among others doesn't change the context after them, or their fault
  pub context_after_all-skipped : (xs ys : List BodyItem) (s : BodyContext)
      → context_after_all nets s (xs ++ skipped line code ∷ ys) ≡ context_after_all nets s (xs ++ ys)
  unfolding context_after_all
  context_after_all-skipped [] ys s =
      ap (λ (r : Result BodyContext VcdFault). r >>= λ next. context_after_all nets next ys) (context_after-skipped s)
  context_after_all-skipped (x ∷ xs) ys s = bind-same (context_after nets s x) _ _
      (λ next. context_after_all-skipped xs ys next)

  -- a skipped item among others doesn't alter the changes that they make
  pub changes_from-skipped : (xs ys : List BodyItem) (now : ℕ)
      → changes_from nets now (xs ++ skipped line code ∷ ys) ≡ changes_from nets now (xs ++ ys)
  unfolding changes_from
  changes_from-skipped [] ys now = refl
  changes_from-skipped (time_item l digits ∷ xs) ys now = changes_from-skipped xs ys (number digits)
  changes_from-skipped (change l digits c ∷ xs) ys now =
      ap (λ (cs : List NetChange). change_of nets now digits c ∷ cs) (changes_from-skipped xs ys now)
  changes_from-skipped (x ∷ xs) ys now = changes_from-skipped xs ys now

  -- a skipped item among others doesn't alter their times
  pub times_from-skipped : (xs ys : List BodyItem) (now : ℕ)
      → times_from now (xs ++ skipped line code ∷ ys) ≡ times_from now (xs ++ ys)
  unfolding times_from
  times_from-skipped [] ys now = refl
  times_from-skipped (time_item l digits ∷ xs) ys now =
      ap (λ (ts : List ℕ). number digits ∷ ts) (times_from-skipped xs ys (number digits))
  times_from-skipped (change l digits c ∷ xs) ys now = ap (λ (ts : List ℕ). now ∷ ts) (times_from-skipped xs ys now)
  times_from-skipped (x ∷ xs) ys now = times_from-skipped xs ys now

  -- a skipped item among others doesn't alter their instants
  pub instants_of-skipped : (xs ys : List BodyItem)
      → instants_of nets (xs ++ skipped line code ∷ ys) ≡ instants_of nets (xs ++ ys)
  instants_of-skipped xs ys =
      ap (λ (cs : List NetChange). map (instant_at (length nets) cs)
      (dedup nat_eq (times_from 0 (xs ++ skipped line code ∷ ys)))) (changes_from-skipped xs ys 0)
      ∙ ap (λ (ts : List ℕ). map (instant_at (length nets) (changes_from nets 0 (xs ++ ys))) (dedup nat_eq ts))
      (times_from-skipped xs ys 0)

  -- a body with the skipped item gives the same instants, or fault, as without it
  pub instants_in-skipped : (xs ys : List BodyItem)
      → instants_in nets (xs ++ skipped line code ∷ ys) ≡ instants_in nets (xs ++ ys)
  instants_in-skipped xs ys =
      ap (λ (r : Result BodyContext VcdFault). r >>= λ end. at_the_end end
      >>= λ stood. Ok (instants_of nets (xs ++ skipped line code ∷ ys))) (context_after_all-skipped xs ys first_context)
      ∙ ap (λ (instants : List Instant). context_after_all nets first_context (xs ++ ys)
      >>= λ end. at_the_end end >>= λ stood. Ok instants) (instants_of-skipped xs ys)
