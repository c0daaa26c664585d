-- The steps of each piece are compared.
use Rattle.std.proofs.Common.{ℕ, List, refl, subst, sym, ◌∙◌}
use Rattle.vme_dump_input.specs.SettledReadings.{skew_of}
use Rattle.vme_dump_input.specs.BufferedInputs.{FailsAs}
use Rattle.vme_dump_input.specs.BodyPieces.{IsAtEnd}
use Rattle.vme_dump_input.proofs.BodyLemmas.{IsAtEnd-whole, IsAtBody-grown}
use Rattle.vme_dump_input.proofs.DumpRefusals.{IsDumpRefused-fails}
use Rattle.vme_confirm_command.proofs.body.compare_body.Goals as goal

pub loop-reader-init : goal.loop-reader-init
loop-reader-init g c = record {
  at = λ binding old at. at;
  checks = λ skew t h. (t, h, λ whole version compared. compared);
  limit = refl;
}

pub check_piece-requires : goal.check_piece-requires
check_piece-requires g c =
    let (skew, t, h) = c.requires in
    let (later, checked, compared) = c.loop-reader.invariant.checks skew t h in
    (skew, later, checked)

pub loop-reader-preserved : goal.loop-reader-preserved
loop-reader-preserved g c =
    let inv = c.loop-reader.invariant in
    let now = g.D.Source.reading c.loop-reader.dump in
    let input = c.check_piece.new.input in
    record {
      at = λ binding old at.
          let next = c.in-Ok.ensures.reads binding old now (inv.at binding old at) in
          IsAtBody-grown binding old now input c.in-Ok.reader next (g.D.Source.reading c.read.new.source)
          c.read.new.self
          (c.check_piece.ensures.input.1 ∙ (sym c.is_whole.ensures ∙ c.loop-reader-test.true))
          c.in_default.ensures.grown (c.in_default.ensures.read old next.done next.read);
      checks = λ skew t h.
          let (later, checked, compared) = inv.checks skew t h in
          let (last, last_checked, last_compared) = c.in-Ok.ensures.checks skew later checked in
          (last, last_checked, λ whole version first. last_compared whole version (compared whole version first));
      limit = c.read.ensures.limit ∙ c.check_piece.ensures.input.0 ∙ inv.limit;
    }

pub returns-in-Err : goal.returns-in-Err
returns-in-Err g c binding old skew t whole version h first at limit =
    let inv = c.loop-reader.invariant in
    let (later, checked, compared) = inv.checks (skew_of skew) t h in (
      c.refused_in_body-refusal.ensures old (c.check_piece.ensures.input.0 ∙ inv.limit ∙ limit)
          (c.in-Err.ensures.reads binding old (g.D.Source.reading c.loop-reader.dump) (inv.at binding old at)),
      c.into_source.ensures whole version (c.check_piece.ensures.comparing whole version
          (record { t = later; taken = checked.stepped.taken; compared = compared whole version first })),
    )

pub returns-in-Err-read : goal.returns-in-Err-read
returns-in-Err-read g c binding old skew t whole version h first at limit =
    let inv = c.loop-reader.invariant in
    let (later, checked, compared) = inv.checks (skew_of skew) t h in
    let now = g.D.Source.reading c.read.new.source in
    let next = c.in-Ok.ensures.reads binding old (g.D.Source.reading c.loop-reader.dump) (inv.at binding old at) in (
      rw c.unread.ensures (IsDumpRefused-fails old now c.in-Err-read.fault
          (subst (λ n. FailsAs n old now c.in-Err-read.fault)
          (c.check_piece.ensures.input.0 ∙ inv.limit ∙ limit)
          (c.in-Err-read.ensures.fails old next.done next.read))),
      c.into_source-in-Err-read.ensures whole version (c.check_piece.ensures.comparing whole version
          (record { t = later; taken = checked.stepped.taken; compared = compared whole version first })),
    )

pub check_last-requires : goal.check_last-requires
check_last-requires g c =
    let (skew, t, h) = c.requires in
    let (later, checked, compared) = c.loop-reader.invariant.checks skew t h in
    (skew, later, checked)

pub returns : goal.returns
returns g c binding old skew t whole version h first at limit =
    let inv = c.loop-reader.invariant in
    let now = g.D.Source.reading c.loop-reader.dump in
    let (later, checked, compared) = inv.checks (skew_of skew) t h in
    c.check_last.ensures binding old now skew later whole version checked (compared whole version first)
    (subst (λ (l : List ℕ). IsAtEnd binding old now l c.loop-reader.reader) (sym c.bytes.ensures.held)
    (IsAtEnd-whole binding old now c.loop-reader.input c.loop-reader.reader (inv.at binding old at)
    (sym c.is_whole.ensures ∙ c.loop-reader-test.false) (inv.limit ∙ limit)))
