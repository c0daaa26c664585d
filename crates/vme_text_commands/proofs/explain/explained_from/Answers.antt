use Rattle.std.proofs.Common.{◌≤◌, length, rules}
use Rattle.std.proofs.lemmas.List.{places}
use Rattle.std.specs.Prelude.{Some}
use Rattle.vme_stream.specs.Inputs.{longest_input}
use Rattle.vme_stream.proofs.AnswerLemmas.{binding_read-whole, binding_read-fault}
use Rattle.vme_text_commands.proofs.ExplainLemmas.{AnswerGives-binding_refused}
use Rattle.vme_stream.proofs.InputLemmas.{IsReading-unread}
use Rattle.vme_text_commands.proofs.explain.explained_from.Goals as goal

pub returns-in-Ok-clause-read : goal.returns-in-Ok-clause-read
returns-in-Ok-clause-read g c =
    let text = c.in-Ok.text.items in
    let short : length text ≤ longest_input = search (rules, places) in
    let read = rw c.as_slice.ensures.value at c.explained_bound.ensures.read in
    let (bytes, reading, given) = read in
    (Some text, bytes, c.in-Ok.ensures.bytes, reading, given (Some text) (binding_read-whole text short))

pub returns-in-Err-clause-read : goal.returns-in-Err-clause-read
returns-in-Err-clause-read g c =
    let (bytes, reading, refused) = binding_read-fault _ _ c.read_all.result c.in-Err.fault c.in-Err.is
    c.read_all.ensures.read c.read_all.ensures.too_long c.read_all.ensures.memory in
    let left = IsReading-unread (g.D.Source.reading c.args.dump.now) in
    rw c.of_input.ensures (
      bytes,
      left.0,
      reading,
      left.1,
      AnswerGives-binding_refused c.args.skew bytes left.0 _
          refused,
    )
