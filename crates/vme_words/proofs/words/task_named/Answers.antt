-- The task that is found is the only one with the name.
use Rattle.vme_words.proofs.TaskLemmas.{only-task_named}
use Rattle.vme_words.proofs.words.task_named.Goals as goal

pub returns-clause-found : goal.returns-clause-found
returns-clause-found c = only-task_named c.find_task.result c.args.name.now c.find_task.ensures.named
    c.find_task.ensures.none
