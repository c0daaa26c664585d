-- The steps of the blocks, one block after the other, are all steps.
use Rattle.std.proofs.Common.{◌≡◌, ℕ, ◌<◌, [], ◌++◌, length, ap, sym, ◌∙◌, subst, arith, rules, append_assoc}
use Rattle.std.proofs.Common.{append-nil, length-append, inl}
use Rattle.std.proofs.lemmas.List.{nil_from_length}
use Rattle.vme_trace.specs.Levels.{Levels}
use Rattle.vme_summary.proofs.cut.judged_by_blocks.Goals as goal

-- a number other than 0 is more than 0
positive-not_zero : (n : ℕ) → (n ≡ 0 → ⊥) → 0 < n
positive-not_zero n h = grind arith

pub chunks-block-items-requires : goal.chunks-block-items-requires
chunks-block-items-requires g c = positive-not_zero c.args.size (λ none. let bad = c.in_ok-check_size.ensures.bad_size.1
    (inl none) in absurd (cc))

pub loop-block-init : goal.loop-block-init
loop-block-init g c =
    let some : 0 < c.args.size = positive-not_zero c.args.size (λ none. let bad = c.in_ok-check_size.ensures.bad_size.1
    (inl none) in absurd (cc)) in
    let from = c.into_iter-block-iterator.ensures.into_iter_gives in (
      rw (from, c.chunks-block-items.ensures.size) some,
      tt,
      (
        [],
        subst (λ (o : Levels). g.J.ChunkJudge.is_past c.at-judging.result o []) c.opening.ensures.opening
            c.at-judging.ensures,
        rw from (c.chunks-block-items.ensures.rest ∙ c.steps-steps.ensures.steps),
      ),
    )

pub go_on-requires : goal.go_on-requires
go_on-requires g c =
    let inv = c.loop-block.invariant in
    let parts = c.in-Some.ensures.steps.1.0 in (
      c.args.capture.now.opening,
      inv.2.0,
      inv.2.1,
      omega (
        arith,
        sym (length-append inv.2.0 _) ∙ ap length inv.2.2,
        ap length parts
            ∙ length-append c.in-Some.block.now _,
        c.steps-steps.ensures.sound.limited,
      ),
    )

pub loop-block-preserved : goal.loop-block-preserved
loop-block-preserved g c =
    let inv = c.loop-block.invariant in
    let parts = c.in-Some.ensures.steps.1.0 in (
      search rules,
      tt,
      (
        inv.2.0 ++ c.in-Some.block.now,
        c.in-Ok.ensures.past _ _ inv.2.1,
        append_assoc inv.2.0 _ _
            ∙ ap (λ x. inv.2.0 ++ x) (sym parts) ∙ inv.2.2,
      ),
    )

pub returns-clause-past : goal.returns-clause-past
returns-clause-past g c =
    let inv = c.loop-block.invariant in
    let none = nil_from_length _ c.in-None.ensures.steps.1.0 in
    let all = sym (append-nil inv.2.0) ∙ ap (λ x. inv.2.0 ++ x) (sym none) ∙ inv.2.2 in
    subst (λ x. g.J.ChunkJudge.is_past c.loop-block.judging c.args.capture.now.opening x) all inv.2.1
