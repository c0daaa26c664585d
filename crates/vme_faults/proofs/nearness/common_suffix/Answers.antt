use Rattle.std.proofs.Common.{◌≡◌, ◌-◌, ◌<◌, true, false, get_or, length, reverse, arith, rules}
use Rattle.std.proofs.lemmas.Bool.Decides.{nat_tests}
use Rattle.std.proofs.lemmas.List.{get_or-reverse, length-reverse}
use Rattle.std.specs.Char.{eq_ignore_ascii_case}
use Rattle.vme_faults.proofs.NearnessLemmas.{common_prefix-ends, common_prefix-other, common_prefix-same}
use Rattle.vme_faults.proofs.nearness.common_suffix.Goals as goal

pub returns-then-not-eq_ignore_ascii_case : goal.returns-then-not-eq_ignore_ascii_case
returns-then-not-eq_ignore_ascii_case c =
    let one = c.args.one.now in
    let other = c.args.other.now in
    let at = c.loop-at.at in
    let h : at < length one = first_of (grind (arith, nat_tests), search rules) in
    let k : at < length other = first_of (grind (arith, nat_tests), search rules) in
    let i : at < length (reverse one) = omega (arith, length-reverse one) in
    let j : at < length (reverse other) = omega (arith, length-reverse other) in
    let differ
    : eq_ignore_ascii_case (get_or one (length one - 1 - at) 0) (get_or other (length other - 1 - at) 0) ≡ false =
    first_of (cc c.if-not-eq_ignore_ascii_case.ensures, search (rules, c.if-not-eq_ignore_ascii_case.ensures)) in
    let e = common_prefix-other (reverse one) (reverse other) at i j
    (rw (get_or-reverse one at 0 h, get_or-reverse other at 0 k) differ) in
    omega arith

pub loop-at-preserved : goal.loop-at-preserved
loop-at-preserved c =
    let one = c.args.one.now in
    let other = c.args.other.now in
    let at = c.loop-at.at in
    let h : at < length one = first_of (grind (arith, nat_tests), search rules) in
    let k : at < length other = first_of (grind (arith, nat_tests), search rules) in
    let i : at < length (reverse one) = omega (arith, length-reverse one) in
    let j : at < length (reverse other) = omega (arith, length-reverse other) in
    let agree
    : eq_ignore_ascii_case (get_or one (length one - 1 - at) 0) (get_or other (length other - 1 - at) 0) ≡ true =
    first_of (cc c.if-not-eq_ignore_ascii_case.ensures, search (rules, c.if-not-eq_ignore_ascii_case.ensures)) in
    let e = common_prefix-same (reverse one) (reverse other) at i j
    (rw (get_or-reverse one at 0 h, get_or-reverse other at 0 k) agree) in
    omega arith

pub returns : goal.returns
returns c =
    let one = c.args.one.now in
    let other = c.args.other.now in
    let p = length-reverse one in
    let q = length-reverse other in
    let e =
    common_prefix-ends (reverse one) (reverse other) c.loop-at.at
    (λ h. first_of (grind (arith, nat_tests), search rules)) in
    omega arith
