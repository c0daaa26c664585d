-- The rows begin after the header.
use Rattle.std.proofs.Common.{◌≤◌, ℕ, Bool, List, [], ◌++◌, drop, length, refl, subst, sym, arith}
use Rattle.std.specs.Prelude.{Ok}
use Rattle.vme_listing.specs.Reading.{HasNoListing, HasRead, IsFirstFault, IsFollowedBy, behind_rows}
use Rattle.vme_listing.specs.declared.fault.ListFault.TheVariants.{BadHeader}
use Rattle.vme_dump_input.specs.BufferedInputs.{FailsAs, InputSoFar}
use Rattle.vme_confirm_command.specs.RowsOfListing.{AreRead, IsCounted}
use Rattle.vme_confirm_command.proofs.RowLemmas.{IsCounted-first, AreRead-taken}
use Rattle.vme_confirm_command.proofs.row_reading.begin_rows.Goals as goal

pub returns-in-Err-clause-begun : goal.returns-in-Err-clause-begun
returns-in-Err-clause-begun g c old read limit =
    subst (λ n. FailsAs n old (g.L.Source.reading c.fill.new.source) c.in-Err.fault) limit
    (c.in-Err.ensures.fails old [] read)

pub returns-in-Some-clause-begun : goal.returns-in-Some-clause-begun
returns-in-Some-clause-begun g c old read limit =
    let now = g.L.Source.reading c.fill.new.source in
    let n = c.in-Some.count in
    let reader = c.in-Some.reader in
    subst (λ (i : InputSoFar). AreRead old now i (Ok reader) []) (sym c.take_first.ensures)
    (AreRead-taken old now [] c.fill.new.input (c.in_default.ensures.read old [] read) n
    (subst (λ (l : List ℕ). n ≤ length l) c.bytes.ensures.held c.in-Some.ensures.within) reader []
    (λ future ends. subst (λ (l : List ℕ). HasRead (l ++ future) [] (behind_rows reader (drop n l ++ future)))
    c.bytes.ensures.held (c.in-Some.ensures.read future)))

pub returns-in-None-clause-begun : goal.returns-in-None-clause-begun
returns-in-None-clause-begun g c old read limit = (
  [],
  c.in_default.ensures.read old [] read,
  λ future ends.
      let follows = subst (λ (b : Bool). IsFollowedBy b future) (sym c.is_whole.ensures) ends in (
        subst (λ (l : List ℕ). IsFirstFault (l ++ future) BadHeader) c.bytes.ensures.held
            (c.in-None.ensures.fault future follows refl),
        subst (λ (l : List ℕ). HasNoListing (l ++ future)) c.bytes.ensures.held
            (c.in-None.ensures.none future follows refl),
      ),
)

pub returns-in-Some-clause-counted : goal.returns-in-Some-clause-counted
returns-in-Some-clause-counted g c =
    subst (IsCounted c.in-Some.reader) (sym c.take_first.ensures)
    (IsCounted-first c.in-Some.reader c.fill.new.input c.in-Some.count c.in-Some.ensures.first
    (c.fill.ensures.small c.requires.small) (omega (arith, c.fill.ensures.counted, c.requires.held)))
