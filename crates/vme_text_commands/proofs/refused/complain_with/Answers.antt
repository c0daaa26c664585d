use Rattle.std.proofs.Common.{[], ◌++◌, refl, inl, inr}
use Rattle.std.proofs.lemmas.List.{append-nil, append_assoc}
use Rattle.vme_stream.specs.Texts.{line_of, refusal_text}
use Rattle.vme_faults.specs.Pages.{page_text}
use Rattle.vme_faults.specs.Refusals.{kind_of}
use Rattle.vme_text_commands.proofs.refused.complain_with.Goals as goal

pub returns-in-Ok : goal.returns-in-Ok
returns-in-Ok g c =
    let (shown, is) = c.in-Ok.ensures in
    let line = line_of (refusal_text c.args.refusal.now) in
    let page = page_text (kind_of c.args.refusal.now) in
    (shown ++ page, inr (shown, refl), rw (c.as_bytes.ensures, is, append_assoc line shown page) at c.say.ensures)

pub returns-in-Err : goal.returns-in-Err
returns-in-Err g c = (
  [],
  inl refl,
  rw (append-nil (line_of (refusal_text c.args.refusal.now))) (rw c.refusal_line.ensures at c.complain.ensures),
)
