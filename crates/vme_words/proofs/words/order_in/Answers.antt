use Rattle.std.proofs.Common.{◌≡◌, ◌∙◌, List, ap, sym}
use Rattle.std.specs.Prelude.{Option, Some, option_map, unwrap_or}
use Rattle.clap.specs.Words.{Row, Text, found_of, rows_of, subcommand_name_of, subcommand_rows_of}
use Rattle.vme_words.specs.Orders.{task_name}
use Rattle.vme_words.specs.declared.order.Task.{Task}
use Rattle.vme_words.proofs.OrderLemmas.{HasAll-met}
use Rattle.vme_words.proofs.words.order_in.Goals as goal

pub returns-in-Some-task_named-clause-found : goal.returns-in-Some-task_named-clause-found
returns-in-Some-task_named-clause-found c has =
    let m = c.args.matches.now in
    let rows = rows_of (found_of c.in-Some.found.now) in
    let named : subcommand_name_of m ≡ Some c.in-Some.name.now = sym c.in-Some.ensures.name in
    let its : option_map (λ (p : Text × List Row). p.1) (subcommand_rows_of m) ≡ Some rows =
    sym c.in-Some.ensures.rows in
    let only : (t : Task) → c.in-Some.name.now ≡ task_name t → c.in-Some-task_named.task ≡ t = λ t called.
    ap (λ (o : Option Task). unwrap_or o t) (sym c.in-Some-task_named.is ∙ c.task_named.ensures.found t called) in
    c.order_to.ensures.found (HasAll-met m c.in-Some.name.now rows c.in-Some-task_named.task named its only has)
