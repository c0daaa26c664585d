-- The first level that is granted without being requested is the least one whose grant falls so.
use Rattle.std.proofs.Common.{◌≡◌, Bool, true, false, Some, sym, ◌∙◌, ap, arith, refl}
use Rattle.std.specs.Prelude.{not, ◌&&◌, option_map}
use Rattle.vme_trace.specs.LineNumbers.{grant}
use Rattle.vme_trace.proofs.Ranges.{least-is, least-none}
use Rattle.vme_chains.specs.GrantLevels.{falls_between}
use Rattle.vme_chains.specs.GrantMemory.{is_in}
use Rattle.vme_chains.proofs.grant.unrequested.Goals as goal

-- `a && not b` holds if a holds and b doesn't
and_not-holds : (a b : Bool) → a ≡ true → b ≡ false → (a && not b) ≡ true
and_not-holds a b h k = rw (h, k) refl

pub returns-then-not-has : goal.returns-then-not-has
returns-then-not-has c =
    ap Some c.grant-net.ensures
    ∙ sym
    (ap (option_map (λ n. grant n 0))
    (least-is (λ n. falls_between c.args.before.now c.args.after.now (grant n 0) && not (is_in c.args.requests n)) 0 4
    c.loop-level.level (omega arith) c.loop-level-test.true
    (and_not-holds _ _ (ap (falls_between c.args.before.now c.args.after.now) (sym c.grant-net.ensures)
    ∙ sym c.falls.ensures
    ∙ c.if-falls.true) (sym c.has.ensures ∙ c.if-not-has.true)) c.loop-level.invariant))

pub returns : goal.returns
returns c =
    let e : c.loop-level.level ≡ 4 = omega arith in
    sym (ap (option_map (λ n. grant n 0)) (least-none (λ n. falls_between c.args.before.now c.args.after.now (grant n 0)
    && not (is_in c.args.requests n)) 0 4 (rw e at c.loop-level.invariant)))
