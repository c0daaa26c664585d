use Rattle.std.proofs.Common.{◌≡◌, ◌<◌, true, false, get_or, length, arith, rules}
use Rattle.std.proofs.lemmas.Bool.Decides.{nat_tests}
use Rattle.std.specs.Char.{eq_ignore_ascii_case}
use Rattle.vme_faults.proofs.NearnessLemmas.{common_prefix-ends, common_prefix-other, common_prefix-same}
use Rattle.vme_faults.proofs.nearness.common_prefix.Goals as goal

pub returns-then-not-eq_ignore_ascii_case : goal.returns-then-not-eq_ignore_ascii_case
returns-then-not-eq_ignore_ascii_case c =
    let one = c.args.one.now in
    let other = c.args.other.now in
    let at = c.loop-at.at in
    let h : at < length one = first_of (grind (arith, nat_tests), search rules) in
    let k : at < length other = first_of (grind (arith, nat_tests), search rules) in
    let differ : eq_ignore_ascii_case (get_or one at 0) (get_or other at 0) ≡ false =
    first_of (cc c.if-not-eq_ignore_ascii_case.ensures, search (rules, c.if-not-eq_ignore_ascii_case.ensures)) in
    let e = common_prefix-other one other at h k differ in
    omega arith

pub loop-at-preserved : goal.loop-at-preserved
loop-at-preserved c =
    let one = c.args.one.now in
    let other = c.args.other.now in
    let at = c.loop-at.at in
    let h : at < length one = first_of (grind (arith, nat_tests), search rules) in
    let k : at < length other = first_of (grind (arith, nat_tests), search rules) in
    let agree : eq_ignore_ascii_case (get_or one at 0) (get_or other at 0) ≡ true =
    first_of (cc c.if-not-eq_ignore_ascii_case.ensures, search (rules, c.if-not-eq_ignore_ascii_case.ensures)) in
    let e = common_prefix-same one other at h k agree in
    omega arith

pub returns : goal.returns
returns c =
    let one = c.args.one.now in
    let other = c.args.other.now in
    let e = common_prefix-ends one other c.loop-at.at (λ h. first_of (grind (arith, nat_tests), search rules)) in
    omega arith
