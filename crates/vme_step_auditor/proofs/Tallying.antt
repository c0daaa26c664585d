-- The counts of breaks by category, break by break.
use Rattle.std.proofs.Common.{◌≡◌, ℕ, ◌+◌, Bool, true, false, not, List, [], ◌∷◌, ◌++◌, length, filter, refl, sym, ◌∙◌}
use Rattle.std.proofs.Common.{ap, arith, length-append}
use Rattle.std.proofs.lemmas.List.Elements.{filter-append}
use Rattle.std.proofs.lemmas.List.Filters.{length-filter_both}
use Rattle.vme_trace.specs.Rules.{is_unreadable}
use Rattle.vme_trace.specs.Trace.{Trace}
use Rattle.vme_trace.specs.declared.verdict.Break.{Break}
use Rattle.vme_audit.specs.Allowances.{faults, is_allowed, is_fault, unreadables, wrongs}
use Rattle.vme_audit.specs.Parts.{breaks}
use Rattle.vme_audit.specs.declared.allowance.Allowance.{Allowance}
use Rattle.vme_audit_lines.specs.AuditLines.{category_of}
use Rattle.vme_audit_lines.specs.declared.category.BreakCategory.{BreakCategory}
use Rattle.vme_audit_lines.specs.declared.category.BreakCategory.TheVariants as category
use Rattle.vme_auditor.specs.Findings.{AreBreakCountsOf}
use Rattle.vme_auditor.specs.declared.findings.BreakCounts.{BreakCounts}
use Rattle.vme_step_auditor.specs.Counting.{all_counted, as_allowed, as_broken, as_unreadable, faults_counted}
use Rattle.vme_step_auditor.specs.Counting.{with_category}

-- the number of breaks that `selected` selects of two lists is the sum of the numbers of each
length-selected_append : (selected : List Break → List Break)
    → ((xs ys : List Break) → selected (xs ++ ys) ≡ selected xs ++ selected ys)
    → (bs cs ds : List Break) → ds ≡ bs ++ cs → (n k : ℕ) → n ≡ length (selected bs) → length (selected cs) ≡ k
    → n + k ≡ length (selected ds)
length-selected_append selected joins bs cs ds e n k p q =
    let joined = ap (λ (x : List Break). length x) (joins bs cs) in
    let whole = ap (λ (x : List Break). length (selected x)) e in
    omega (arith, p, q, length-append (selected bs) (selected cs), joined, whole)

module _ (allowances : List Allowance) where
  -- the break says that the recording is wrong
  abbrev is_wrong : Break → Bool
  is_wrong b = not (is_unreadable b.rule)

  -- the break says that the recording can't be read on
  abbrev cannot_be_read : Break → Bool
  cannot_be_read b = is_unreadable b.rule

  -- the wrong breaks of two lists are those of each
  wrongs-append : (xs ys : List Break) → wrongs allowances (xs ++ ys) ≡ wrongs allowances xs ++ wrongs allowances ys
  wrongs-append xs ys =
      ap (filter is_wrong) (filter-append (is_fault allowances) xs ys)
      ∙ filter-append is_wrong (faults allowances xs) (faults allowances ys)

  -- the unreadable breaks of two lists are those of each
  unreadables-append : (xs ys : List Break) → unreadables allowances (xs ++ ys)
      ≡ unreadables allowances xs ++ unreadables allowances ys
  unreadables-append xs ys =
      ap (filter cannot_be_read) (filter-append (is_fault allowances) xs ys)
      ∙ filter-append cannot_be_read (faults allowances xs) (faults allowances ys)

  -- a break adds to the counts by its category
  record CountsOnce (b : Break) : Type 0 where
    broken : length (wrongs allowances (b ∷ [])) ≡ as_broken (category_of allowances b)
    unreadable : length (unreadables allowances (b ∷ [])) ≡ as_unreadable (category_of allowances b)
    allowed : length (filter (is_allowed allowances) (b ∷ [])) ≡ as_allowed (category_of allowances b)

  -- each break adds to the counts by its category
  CountsOnce-every : (b : Break) → CountsOnce b
  CountsOnce-every b = by_tests (is_allowed allowances b) (is_unreadable b.rule) refl refl
    where
      by_tests : (p q : Bool) → is_allowed allowances b ≡ p → is_unreadable b.rule ≡ q → CountsOnce b
      by_tests true q e f = record { broken = rw e refl; unreadable = rw e refl; allowed = rw e refl }
      by_tests false true e f =
          record { broken = rw (e, f) refl; unreadable = rw (e, f) refl; allowed = rw (e, f) refl }
      by_tests false false e f =
          record { broken = rw (e, f) refl; unreadable = rw (e, f) refl; allowed = rw (e, f) refl }

  -- if a break is added, the count of its category is one more
  pub AreBreakCountsOf-break : (c : BreakCounts) (t u : Trace) (b : Break) → AreBreakCountsOf c allowances t
      → breaks u ≡ breaks t ++ b ∷ [] → AreBreakCountsOf (with_category c (category_of allowances b)) allowances u
  AreBreakCountsOf-break c t u b counted e =
      let once = CountsOnce-every b in
      record {
        broken =
            length-selected_append (wrongs allowances) wrongs-append (breaks t) (b ∷ []) (breaks u) e c.broken
            (as_broken (category_of allowances b)) counted.broken once.broken;
        unreadable =
            length-selected_append (unreadables allowances) unreadables-append (breaks t) (b ∷ []) (breaks u) e
            c.unreadable
            (as_unreadable (category_of allowances b)) counted.unreadable once.unreadable;
        allowed =
            length-selected_append (filter (is_allowed allowances)) (filter-append (is_allowed allowances)) (breaks t)
            (b ∷ [])
            (breaks u) e c.allowed (as_allowed (category_of allowances b)) counted.allowed once.allowed;
      }

  -- if no break is added, the counts stay
  pub AreBreakCountsOf-same : (c : BreakCounts) (t u : Trace) → AreBreakCountsOf c allowances t → breaks u ≡ breaks t
      → AreBreakCountsOf c allowances u
  AreBreakCountsOf-same c t u counted e =
      record {
        broken = counted.broken ∙ ap (λ (bs : List Break). length (wrongs allowances bs)) (sym e);
        unreadable = counted.unreadable ∙ ap (λ (bs : List Break). length (unreadables allowances bs)) (sym e);
        allowed = counted.allowed ∙ ap (λ (bs : List Break). length (filter (is_allowed allowances) bs)) (sym e);
      }

  -- the counts of a recording without breaks are 0
  pub AreBreakCountsOf-none : (c : BreakCounts) (t : Trace) → c.broken ≡ 0 → c.unreadable ≡ 0 → c.allowed ≡ 0 → breaks t
      ≡ []
      → AreBreakCountsOf c allowances t
  AreBreakCountsOf-none c t broken unreadable allowed e =
      record {
        broken = broken ∙ ap (λ (bs : List Break). length (wrongs allowances bs)) (sym e);
        unreadable = unreadable ∙ ap (λ (bs : List Break). length (unreadables allowances bs)) (sym e);
        allowed = allowed ∙ ap (λ (bs : List Break). length (filter (is_allowed allowances) bs)) (sym e);
      }

  -- the counts of the breaks that aren't allowed make the number of the faults
  pub faults_counted-faults : (c : BreakCounts) (t : Trace) → AreBreakCountsOf c allowances t
      → faults_counted c ≡ length (faults allowances (breaks t))
  faults_counted-faults c t counted =
      let both = length-filter_both cannot_be_read is_wrong (λ b. refl) (faults allowances (breaks t)) in
      omega (arith, both, counted.broken, counted.unreadable)

-- a break is counted once
pub all_counted-with_category : (c : BreakCounts) (s : BreakCategory) → all_counted (with_category c s)
    ≡ all_counted c + 1
all_counted-with_category c category.Broken = omega arith
all_counted-with_category c category.Unreadable = omega arith
all_counted-with_category c category.Allowed = omega arith
