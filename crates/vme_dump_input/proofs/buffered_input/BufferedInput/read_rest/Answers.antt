-- All that is held is taken before each read.
use Rattle.std.proofs.Common.{◌≤◌, ℕ, List, [], ◌++◌, append_assoc, append-nil, length, refl, sym, ap, subst, take, ◌∙◌}
use Rattle.std.proofs.Common.{arith}
use Rattle.std.proofs.lemmas.Bool.{true≢false}
use Rattle.vme_dump_input.specs.BufferedInputs.{FailsAs, InputSoFar, IsAllOf, IsReadTo}
use Rattle.vme_dump_input.proofs.BufferedLemmas.{IsAllOf-whole, append-taken_and_read, IsReadTo-taken}
use Rattle.vme_dump_input.proofs.buffered_input.BufferedInput.read_rest.Goals as goal

pub loop-self-init : goal.loop-self-init
loop-self-init g c = record {
  read = λ old done h. (
    [],
    [],
    subst (λ (l : List ℕ). IsReadTo old (g.R.Source.reading c.args.source.now) l c.args.self.now)
        (sym (append-nil done)) h,
    sym (append-nil c.args.self.now.held),
    λ _. refl,
  );
  whole = λ h. h;
  limit = refl;
}

pub loop-self-preserved : goal.loop-self-preserved
loop-self-preserved g c =
    let inv = c.loop-self.invariant in
    let here = c.loop-self.self in
    let going = ap (λ (i : InputSoFar). i.is_whole) (sym c.self.view_is) ∙ c.loop-self-test.true in
    let n = length c.bytes-held.result.now in
    let within : n ≤ length here.held =
    omega (arith, ap (λ (l : List ℕ). length l) c.bytes-held.ensures.held) in
    record {
      read = λ old done h.
          let (gone, more, read, same, none) = inv.read old done h in
          let taken = subst (IsReadTo old (g.R.Source.reading c.loop-self.source) ((done ++ gone) ++ take n here.held))
          (sym c.take_first.ensures)
          (IsReadTo-taken old (g.R.Source.reading c.loop-self.source) (done ++ gone) here read n within) in
          let grown = c.in_default.ensures.grown in (
            gone ++ take n here.held,
            more ++ grown.more,
            subst (λ (l : List ℕ). IsReadTo old (g.R.Source.reading c.read.new.source) l c.read.new.self)
                (append_assoc done gone (take n here.held))
                (c.in_default.ensures.read old ((done ++ gone) ++ take n here.held) taken),
            append-taken_and_read c.args.self.now.held gone more here.held grown.more c.read.new.self.held n same
                (grown.held ∙ ap (λ (i : InputSoFar). i.held ++ grown.more) c.take_first.ensures),
            λ whole. absurd (true≢false (sym (inv.whole whole) ∙ going)),
          );
      whole = λ whole. absurd (true≢false (sym (inv.whole whole) ∙ going));
      limit = c.read.ensures.limit ∙ ap (λ (i : InputSoFar). i.limit) c.take_first.ensures ∙ inv.limit;
    }

pub returns-in-Err-clause-fails : goal.returns-in-Err-clause-fails
returns-in-Err-clause-fails g c old done h =
    let inv = c.loop-self.invariant in
    let here = c.loop-self.self in
    let n = length c.bytes-held.result.now in
    let within : n ≤ length here.held =
    omega (arith, ap (λ (l : List ℕ). length l) c.bytes-held.ensures.held) in
    let (gone, more, read, same, none) = inv.read old done h in
    let taken = subst (IsReadTo old (g.R.Source.reading c.loop-self.source) ((done ++ gone) ++ take n here.held))
    (sym c.take_first.ensures)
    (IsReadTo-taken old (g.R.Source.reading c.loop-self.source) (done ++ gone) here read n within) in
    subst (λ k. FailsAs k old (g.R.Source.reading c.read.new.source) c.in-Err.fault)
    (ap (λ (i : InputSoFar). i.limit) c.take_first.ensures ∙ inv.limit)
    (c.in-Err.ensures.fails old ((done ++ gone) ++ take n here.held) taken)

pub returns-clause-whole : goal.returns-clause-whole
returns-clause-whole g c old done h =
    let inv = c.loop-self.invariant in
    let here = c.loop-self.self in
    let now = g.R.Source.reading c.loop-self.source in
    let (gone, more, read, same, none) = inv.read old done h in (
      more,
      none,
      subst (λ k. IsAllOf old now (done ++ (c.args.self.now.held ++ more)) k) inv.limit
          (subst (λ (l : List ℕ). IsAllOf old now l here.limit)
          (append_assoc done gone here.held ∙ ap (λ (l : List ℕ). done ++ l) same)
          (IsAllOf-whole old now (done ++ gone) here read
          (ap (λ (i : InputSoFar). i.is_whole) (sym c.self.view_is) ∙ c.loop-self-test.false))),
    )
