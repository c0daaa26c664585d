-- A delivery to which no reply is, and the answers that are read off the table by delivery, one by one.
use Rattle.std.proofs.Common.{◌≡◌, ℕ, suc, ◌+◌, ◌<◌, List, [], ◌∷◌, ◌++◌, length, slice_get}
use Rattle.std.proofs.Common.{Option, Some, sym, refl, ap, ◌∙◌, arith, ⊎_elim}
use Rattle.vme_trace.proofs.ListLaws.{slice_get-append_one}
use Rattle.vme_core.specs.Counting.{occurrences}
use Rattle.vme_core.proofs.Sums.{occurrences-cons_other}
use Rattle.vme_floor.specs.declared.answer.Answer.{Answer}
use Rattle.vme_floor.specs.declared.answer.Reply.{Reply}
use Rattle.vme_floor.specs.Works.{replied}

-- the answer to a delivery, if there is one yet
abbrev O : Type 0
O = Option Answer

-- a delivery to which no reply is isn't among those with a reply
pub occurrences-no_reply : (replies : List Reply) (d : ℕ)
    → ((k : ℕ) → k < length replies → (t : Reply) → slice_get replies k
    ≡ Some t → t.delivery ≡ d → ⊥) → occurrences d (replied replies) ≡ 0
occurrences-no_reply [] d none = refl
occurrences-no_reply (t ∷ ts) d none =
    occurrences-cons_other d t.delivery (replied ts) (λ e. none 0 (omega arith) t refl (sym e))
    ∙ occurrences-no_reply ts d (λ k l u at is. none (suc k) (omega (arith, l)) u at is)

-- if the first i answers agree with the table, they do so after its item i is pushed
pub answers-pushed : (table : List O) (answers : List Answer) (i : ℕ) (a : Answer) → length answers ≡ i
    → slice_get table i
    ≡ Some (Some a)
    → ((d : ℕ) (b : Answer) → slice_get answers d ≡ Some b → slice_get table d ≡ Some (Some b)) → (d : ℕ) (b : Answer)
    → slice_get (answers ++ a ∷ []) d ≡ Some b → slice_get table d ≡ Some (Some b)
answers-pushed table answers i a long at inv d b is = ⊎_elim (λ x. inv d b x) (λ x. ap (slice_get table) (x.0 ∙ long)
    ∙ (at ∙ ap (λ (y : Answer). Some (Some y)) x.1)) (slice_get-append_one answers a b d is)
