-- The number of an option is the one that is read from its text, if it is from `least` to `greatest`.
use Rattle.std.proofs.Common.{arith}
use Rattle.std.specs.Str.Parse.{ParsesUnsigned, ExplainsUnsignedError, HasUnsignedDigitsIfOk}
use Rattle.vme_words.proofs.OrderLemmas.{number_in-read, HasSignedIn-read, Some-injective, not_None-of_Some}
use Rattle.vme_words.proofs.words.number.Goals as goal

pub returns-in-Some-clause-value : goal.returns-in-Some-clause-value
returns-in-Some-clause-value c =
    number_in-read _ (λ bs r. ParsesUnsigned 32 10 bs r × ExplainsUnsignedError 10 bs r × HasUnsignedDigitsIfOk bs r)
    c.args.found.now c.args.name.now
    c.in-Some.number c.get_one.result c.get_one.ensures.none c.get_one.ensures.value (λ t v h. h.0.1) c.in-Some.is

pub returns-in_default-clause-found : goal.returns-in_default-clause-found
returns-in_default-clause-found c has =
    let got = HasSignedIn-read _ (λ bs r. ParsesUnsigned 32 10 bs r × ExplainsUnsignedError 10 bs r
    × HasUnsignedDigitsIfOk
    bs r) c.args.found.now c.args.name.now
    c.args.least c.args.greatest c.get_one.result has c.ranges.greatest.fits c.get_one.ensures.value (λ t x h. h.0) in
    let same = Some-injective c.get_one.result got.0 c.in-Some.number got.1 c.in-Some.is in
    absurd (omega (arith, got.3, same, c.if-number-greatest.false))

pub returns-in_default-2-clause-found : goal.returns-in_default-2-clause-found
returns-in_default-2-clause-found c has =
    let got = HasSignedIn-read _ (λ bs r. ParsesUnsigned 32 10 bs r × ExplainsUnsignedError 10 bs r
    × HasUnsignedDigitsIfOk
    bs r) c.args.found.now c.args.name.now
    c.args.least c.args.greatest c.get_one.result has c.ranges.greatest.fits c.get_one.ensures.value (λ t x h. h.0) in
    let same = Some-injective c.get_one.result got.0 c.in-Some.number got.1 c.in-Some.is in
    absurd (omega (arith, got.2, same, c.if-least-number.false))

pub returns-in_default-3-clause-found : goal.returns-in_default-3-clause-found
returns-in_default-3-clause-found c has =
    let got = HasSignedIn-read _ (λ bs r. ParsesUnsigned 32 10 bs r × ExplainsUnsignedError 10 bs r
    × HasUnsignedDigitsIfOk
    bs r) c.args.found.now c.args.name.now
    c.args.least c.args.greatest c.get_one.result has c.ranges.greatest.fits c.get_one.ensures.value (λ t x h. h.0) in
    absurd (not_None-of_Some c.get_one.result got.0 got.1 c.in_default.is)
