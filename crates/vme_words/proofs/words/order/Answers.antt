-- The order that the program's command gives the words, or the fault that its rules find in them.
use Rattle.std.proofs.Common.{◌≡◌, ◌∙◌, [], ap, refl, sym, subst, map, string_bytes, is_some, true, true≢false}
use Rattle.clap.specs.Words.{App, HasKind, fault_of, is_simple, is_simple_and_free, subcommand_of}
use Rattle.clap.proofs.OnLiterals.{clap_on_literals}
use Rattle.vme_words.specs.Commands.{vmecheck_app}
use Rattle.vme_words.specs.Orders.{HasOrder, IsOrder}
use Rattle.vme_words.proofs.OrderLemmas.{IsFaultOf-passed_up}
use Rattle.vme_words.proofs.TakenLemmas.{HasOrder-words}
use Rattle.vme_words.proofs.words.order.Goals as goal

-- the program's command is simple, and no argument has a rule on another
is_simple_and_free-vmecheck_app : is_simple_and_free vmecheck_app ≡ true
unfolding clap_on_literals
is_simple_and_free-vmecheck_app = refl

-- the program's command is simple, so that clap's meaning of the words gives the matches
is_simple-vmecheck_app : is_simple vmecheck_app ≡ true
unfolding clap_on_literals
is_simple-vmecheck_app = refl

pub returns-in_err-matches-clause-faulty : goal.returns-in_err-matches-clause-faulty
returns-in_err-matches-clause-faulty c =
    let app = c.in_ok-vmecheck_command.ensures in
    let words = map string_bytes c.args.words.now in
    IsFaultOf-passed_up c.from_residual-in_err-matches.result c.in_err-matches.field-0.0 words
    c.from_residual-in_err-matches.ensures.1
    (subst (λ (a : App). HasKind (fault_of a words) c.in_err-matches.field-0.0) app
    (c.in_err-matches.ensures.kinds (ap is_simple_and_free app ∙ is_simple_and_free-vmecheck_app)))

pub returns-in-Some-clause-ok : goal.returns-in-Some-clause-ok
returns-in-Some-clause-ok c =
    let app = c.in_ok-vmecheck_command.ensures in
    let words = map string_bytes c.args.words.now in
    let met = (c.in_ok-matches.ensures.matches (ap is_simple app ∙ is_simple-vmecheck_app)).1
    ∙ ap (λ (a : App). subcommand_of a words) app in
    let said = rw c.in-Some.is at c.in_ok-order.ensures.said in
    subst (IsOrder c.in-Some.order) met said

pub returns-in-Some-clause-taken : goal.returns-in-Some-clause-taken
returns-in-Some-clause-taken c =
    let app = c.in_ok-vmecheck_command.ensures in
    let words = map string_bytes c.args.words.now in
    subst (λ (a : App). fault_of a words ≡ []) app (c.in_ok-matches.ensures.kinds (ap is_simple_and_free app
    ∙ is_simple_and_free-vmecheck_app))

pub returns-clause-faulty : goal.returns-clause-faulty
returns-clause-faulty c =
    let app = c.in_ok-vmecheck_command.ensures in
    let words = map string_bytes c.args.words.now in
    let taken : fault_of vmecheck_app words ≡ [] = subst (λ (a : App). fault_of a words ≡ []) app
    (c.in_ok-matches.ensures.kinds (ap is_simple_and_free app ∙ is_simple_and_free-vmecheck_app)) in
    let met = (c.in_ok-matches.ensures.matches (ap is_simple app ∙ is_simple-vmecheck_app)).1
    ∙ ap (λ (a : App). subcommand_of a words) app in
    let found = c.in_ok-order.ensures.found (subst HasOrder (sym met) (HasOrder-words words taken)) in
    absurd (true≢false (sym found ∙ ap is_some c.in-None.is))
