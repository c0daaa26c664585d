-- No two tasks have the same name.
use Rattle.std.proofs.Common.{◌≡◌, ◌≢◌, ◌∙◌, ap, refl, sym, List, [], ◌∷◌, Option, Some, None, IfSome, IfNone}
use Rattle.std.specs.Prelude.{find, unwrap_or}
use Rattle.std.specs.Str.{bytes_eq}
use Rattle.clap.specs.Words.{Text}
use Rattle.clap.proofs.OnLiterals.{clap_on_literals}
use Rattle.vme_words.specs.Orders.{task_name}
use Rattle.vme_words.specs.declared.order.Task.{Task}
use Rattle.vme_words.specs.declared.order.Task.TheVariants as tasks

-- all tasks
abbrev all_tasks : List Task
all_tasks =
    tasks.Check ∷ tasks.List ∷ tasks.Confirm ∷ tasks.Rules ∷ tasks.Faults ∷ tasks.Variables
    ∷ tasks.Bind ∷ tasks.Explain ∷ tasks.Audit ∷ tasks.Annotate ∷ tasks.Part ∷ tasks.Join ∷ tasks.Tell ∷ []

-- the first task that has a name, if one has it
abbrev first_named : Text → Option Task
first_named name = find (λ task. bytes_eq name (task_name task)) all_tasks

-- the first task that has the name of a task is this task
first_named-own : (task : Task) → first_named (task_name task) ≡ Some task
unfolding clap_on_literals
first_named-own tasks.Check = refl
first_named-own tasks.List = refl
first_named-own tasks.Confirm = refl
first_named-own tasks.Rules = refl
first_named-own tasks.Faults = refl
first_named-own tasks.Variables = refl
first_named-own tasks.Bind = refl
first_named-own tasks.Explain = refl
first_named-own tasks.Audit = refl
first_named-own tasks.Annotate = refl
first_named-own tasks.Part = refl
first_named-own tasks.Join = refl
first_named-own tasks.Tell = refl

-- two tasks with the same name are the same
task_name-same : (t u : Task) → task_name t ≡ task_name u → t ≡ u
task_name-same t u e =
    ap (λ (o : Option Task). unwrap_or o t) (sym (first_named-own t) ∙ ap first_named e ∙ first_named-own u)

-- if a task is found that has the name, or else none has it, then the task with the name is found
pub only-task_named : (found : Option Task) (name : Text) → IfSome found (λ task. name ≡ task_name task)
    → IfNone found ((task : Task) → name ≢ task_name task) → (task : Task) → name ≡ task_name task → found ≡ Some task
only-task_named (Some t) name named none task called =
    ap (λ (u : Task). Some u) (task_name-same t task (sym named ∙ called))
only-task_named None name named none task called = absurd (none task called)
