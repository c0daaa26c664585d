use Rattle.vme_text_commands.proofs.explain.explained_by.Goals as goal

pub returns-clause-read : goal.returns-clause-read
returns-clause-read g c =
    let (bytes, reading, given) = c.account_of_dump-account.ensures in
    (bytes, reading, c.explained_account.ensures.read _ given)
