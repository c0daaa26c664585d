-- The place of the row is compared with the least row that differs so far.
use Rattle.std.proofs.Common.{◌≡◌, ℕ, List, refl, sym, ◌∙◌, ap, subst, arith}
use Rattle.std.specs.Prelude.{None, Option, Some}
use Rattle.vme_cert.specs.Vocabulary.{Row}
use Rattle.vme_cert.specs.Comparing.{IsCompared, IsDue, IsSame, without}
use Rattle.vme_cert.specs.WithEdge.{with_edge}
use Rattle.vme_cert.specs.declared.comparison.OpenRow.{OpenRow}
use Rattle.vme_cert.proofs.Comparing.{compare_row-later, compare_row-other}
use Rattle.vme_cert.proofs.comparison.Comparison.compare_row.Goals.{in-Some-wrong, in_default-wrong}
use Rattle.vme_cert.proofs.comparison.Comparison.compare_row.Goals.{in_default-wrong-via-in-Some-wrong+else-wrong-row}
use Rattle.vme_cert.proofs.comparison.Comparison.compare_row.Goals.{in_default-wrong-via-in_default-wrong}
use Rattle.vme_cert.proofs.comparison.Comparison.compare_row.Goals as goal

-- the given row differs from the expected one, if it isn't the open row with its last edge
IsSame-not_given : (given expected : List Row) (taken : ℕ) (edge : Option ℕ) (row : OpenRow) (shown : Row)
    → IsDue given expected taken edge (Some row) → shown ≡ with_edge row.expected edge → (row.given ≡ Some shown → ⊥)
    → IsSame given expected row.place → ⊥
IsSame-not_given given expected taken edge row shown (below, given_is, expected_is) is other same =
    other (given_is ∙ (same ∙ (expected_is ∙ ap (λ (r : Row). Some r) (sym is))))

pub returns : goal.returns
returns g c = record {
  source = refl;
  version = refl;
  taken = refl;
  wrong = λ given expected open_at h due_any.
      let row = c.in-Some.row in
      let taken = c.args.self.now.taken in
      let due = subst (IsDue given expected taken c.args.edge) c.in-Some.is due_any in
      let other = IsSame-not_given given expected taken c.args.edge row c.with_edge.result due c.with_edge.ensures
      (c.is_given.ensures.other c.if-is_given.false) in
      subst (λ (o : Option OpenRow). IsCompared given expected taken (without open_at o) c.match-self.self)
      (sym c.in-Some.is)
      (elim c.match-self.branch [
        | in-Some-wrong w ↦
            rw w.self-is (compare_row-later given expected taken open_at row (Some w.in-Some-wrong.wrong)
            (rw w.in-Some-wrong.is at h) (omega (arith, w.if-wrong-row.true)))
        | in_default-wrong w ↦
            elim w.in_default-wrong.branch [
              | in_default-wrong-via-in-Some-wrong+else-wrong-row v ↦
                  rw w.self-is (compare_row-other given expected taken open_at row (Some v.in-Some-wrong.wrong)
                  (rw v.in-Some-wrong.is at h) due.0 (omega (arith, v.if-wrong-row.false)) other)
              | in_default-wrong-via-in_default-wrong v ↦
                  rw w.self-is (compare_row-other given expected taken open_at row None
                  (rw v.in_default-wrong.is at h) due.0 (omega (arith, due.0)) other)
            ]
      ]);
}
