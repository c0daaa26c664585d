-- What started at some instant and has lasted, from one instant to the next.
use Rattle.std.proofs.Common.{◌≡◌, ℕ, zero, suc, ◌+◌, ◌<◌, ◌≤◌, Bool, true, false, ◌||◌, ◌&&◌, not, refl, ◌∙◌, ap}
use Rattle.std.proofs.Common.{arith}
use Rattle.std.specs.Prelude.{nat_le}
use Rattle.std.proofs.lemmas.Bool.{not-true, le-leb}
use Rattle.vme_trace.specs.Instants.{any, none}
use Rattle.vme_trace.proofs.Ranges.{any-alike, any-fails, any-step, fails-any}

-- suc n is n + 1
pub suc-is : (n : ℕ) → suc n ≡ n + 1
suc-is n = omega arith

-- a test k that doesn't depend on the number moves out of the search
pub any-and : (q : ℕ → Bool) (k : Bool) (f n : ℕ) → any (λ i. q i && k) f n ≡ (any q f n && k)
unfolding any
any-and q k f zero = refl
any-and q k f (suc n) = rw (any-and q k f n) (spread (any q f n) (nat_le f n) (q n) k)
  where
    spread : (a b c k : Bool) → ((a && k) || (b && (c && k))) ≡ ((a || (b && c)) && k)
    spread true b c true = refl
    spread true true true false = refl
    spread true true false false = refl
    spread true false c false = refl
    spread false true c k = refl
    spread false false c k = refl

-- there is none up to n + 1 exactly if there is none up to n, and none at n + 1
pub none-next : (p : ℕ → Bool) (f n : ℕ) → f ≤ suc n → none p f (suc n + 1) ≡ (none p f (n + 1) && not (p (suc n)))
none-next p f n h = ap not (any-step p f (suc n)) ∙ more (any p f (suc n)) (any p f (n + 1)) (nat_le f (suc n))
    (p (suc n)) (ap (any p f) (suc-is n)) (le-leb f (suc n) h)
  where
    more : (a b c d : Bool) → a ≡ b → c ≡ true → not (a || (c && d)) ≡ (not b && not d)
    more a true c d e h = rw e refl
    more a false c d e h = rw (e, h) refl

-- there is none in an empty range
pub none-empty : (p : ℕ → Bool) (f : ℕ) → none p f f ≡ true
none-empty p f = ap not (fails-any p f f (λ i a b. absurd (omega arith)))

-- there is none in a range of one number exactly if p fails there
pub none-one : (p : ℕ → Bool) (f : ℕ) → none p f (f + 1) ≡ not (p f)
none-one p f = ap not (any-step p f f) ∙ one (any p f f) (nat_le f f) (p f)
    (fails-any p f f (λ i a b. absurd (omega arith))) (le-leb f f (omega arith))
  where
    one : (a b c : Bool) → a ≡ false → b ≡ true → not (a || (b && c)) ≡ not c
    one a b c e h = rw (e, h) refl

-- if there is none from f on below n, there is none below an m that is at most n
pub none-shorter : (p : ℕ → Bool) (f m n : ℕ) → m ≤ n → none p f n ≡ true → none p f m ≡ true
none-shorter p f m n order h = ap not (fails-any p f m (λ i a b. fails i a b))
  where
    fails : (i : ℕ) → f ≤ i → i < m → p i ≡ false
    fails i a b = any-fails p f n i (not-true (any p f n) h) a (omega arith)

module _ (old new : ℕ → Bool) (keep : Bool) (f n : ℕ) (from : f ≤ suc n) (kept : (i : ℕ) → f ≤ i → i ≤ n → new i
    ≡ (old i && keep)) where
  -- if `new` is `old` and `keep` for what started up to n, there is a `new` exactly if there is an `old` and `keep`
  pub any-kept : any new f (suc n) ≡ (any old f (n + 1) && keep)
  any-kept = any-alike new (λ i. old i && keep) f (suc n) (λ i a b. kept i a (omega arith))
      ∙ (any-and old keep f (suc n) ∙ ap (λ k. any old f k && keep) (suc-is n))
