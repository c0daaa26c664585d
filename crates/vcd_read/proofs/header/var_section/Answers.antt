use Rattle.std.proofs.lemmas.Result.{err_from_is_err_and}
use Rattle.vcd_read.proofs.SectionLemmas.{var_words-refused}
use Rattle.vcd_read.proofs.header.var_section.Goals as goal

pub returns-in_err-size : goal.returns-in_err-size
returns-in_err-size c =
    let p = err_from_is_err_and c.from_residual.result c.from_residual.ensures.1 in
    rw (p.1, p.2) (var_words-refused c.args.words.now c.in_err-size.field-0.0 _ c.if-is_empty.ensures
    c.in_err-size.ensures)
