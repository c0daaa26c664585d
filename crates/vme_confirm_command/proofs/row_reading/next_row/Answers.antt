-- The next row is read, or the listing is whole, or there is a fault.
use Rattle.std.proofs.Common.{◌<◌, ◌≤◌, ℕ, Bool, List, ◌∷◌, ◌++◌, Option, [], ap, drop, length, subst, sym}
use Rattle.std.specs.Prelude.{IfSome, Ok}
use Rattle.vme_listing.specs.Reading.{HasRead, IsFollowedBy, IsTextOfListing, RowsSoFar, behind_rows, listed}
use Rattle.vme_listing.specs.declared.row.Version.{Version}
use Rattle.vme_listing.specs.declared.row.Row.{Row}
use Rattle.vme_dump_input.specs.BufferedInputs.{FailsAs, InputSoFar}
use Rattle.vme_confirm_command.specs.RowsOfListing.{AreRead}
use Rattle.vme_confirm_command.proofs.RowLemmas.{HasReadRows-filled, AreRead-taken}
use Rattle.vme_confirm_command.proofs.row_reading.next_row.Goals as goal

pub returns-in-Err-clause-row : goal.returns-in-Err-clause-row
returns-in-Err-clause-row g c old rows are limit =
    let (done, read, has) = are in
    subst (λ n. FailsAs n old (g.L.Source.reading c.fill.new.source) c.in-Err.fault) limit
    (c.in-Err.ensures.fails old done read)

pub returns-in-Ok-Some-clause-row : goal.returns-in-Ok-Some-clause-row
returns-in-Ok-Some-clause-row g c old rows are limit =
    let (done, read, has) = are in
    let now = g.L.Source.reading c.fill.new.source in
    let held = c.fill.new.input.held in
    let row = c.in-Ok-Some.row in
    let n = c.in-Ok-Some.count in
    let next = c.next.new.self in
    let filled = HasReadRows-filled done c.args.input.now c.fill.new.input c.args.reader.now rows
    c.in_default.ensures.filled
    has in
    let within = subst (λ (l : List ℕ). n ≤ length l) c.bytes.ensures.held
    (subst (λ (found : Option (Row × ℕ)). IfSome found (λ next. (0 < next.1) × (next.1 ≤ length c.bytes.result.now)))
    c.in-Ok-Some.field-0-is c.in-Ok-Some.ensures.within).1 in
    subst (λ (i : InputSoFar). AreRead old now i (Ok next) (rows ++ row ∷ [])) (sym c.take_first.ensures)
    (AreRead-taken old now done c.fill.new.input (c.in_default.ensures.read old done read) n within next
    (rows ++ row ∷ [])
    (λ future ends.
    let follows = subst (λ (b : Bool). IsFollowedBy b future) (sym c.is_whole.ensures) ends in
    let text = done ++ (held ++ future) in
    let given = subst (λ (l : List ℕ). HasRead text rows (behind_rows c.args.reader.now (l ++ future)))
    (sym c.bytes.ensures.held) (filled future ends) in
    subst (λ (l : List ℕ). HasRead text (rows ++ row ∷ []) (behind_rows next (drop n l ++ future))) c.bytes.ensures.held
    (subst (λ (found : Option (Row × ℕ)). IfSome found (λ more. HasRead text (rows ++ more.0 ∷ [])
    (behind_rows next (drop more.1 c.bytes.result.now ++ future)))) c.in-Ok-Some.field-0-is
    (c.in-Ok-Some.ensures.row text future rows follows given))))

pub returns-in-Ok-None-clause-row : goal.returns-in-Ok-None-clause-row
returns-in-Ok-None-clause-row g c old rows are limit =
    let (done, read, has) = are in
    let held = c.fill.new.input.held in
    let reader = c.args.reader.now in
    let filled = HasReadRows-filled done c.args.input.now c.fill.new.input reader rows c.in_default.ensures.filled has
    in
    let now_read = c.in_default.ensures.read old done read in
    let is_none = ap (λ (found : Option (Row × ℕ)). Ok found) c.in-Ok-None.field-0-is in
    let same = (c.in-Ok-None.ensures.stays (c.in-Ok-None.ensures.over is_none)).1 in (
      (
        done,
        now_read,
        λ future ends.
            subst (λ (p : RowsSoFar). HasRead (done ++ (held ++ future)) rows (behind_rows p (held ++ future)))
            (sym same) (filled future ends),
      ),
      (
        done,
        now_read,
        λ future ends.
            let follows = subst (λ (b : Bool). IsFollowedBy b future) (sym c.is_whole.ensures) ends in
            let text = done ++ (held ++ future) in
            let given = subst (λ (l : List ℕ). HasRead text rows (behind_rows reader (l ++ future)))
            (sym c.bytes.ensures.held) (filled future ends) in
            subst (λ (v : Version). IsTextOfListing text (listed v rows)) (sym c.next.ensures.version)
            (c.in-Ok-None.ensures.whole text future rows follows given is_none),
      ),
    )

pub returns-in-Err-next-clause-row : goal.returns-in-Err-next-clause-row
returns-in-Err-next-clause-row g c old rows are limit =
    let (done, read, has) = are in
    let held = c.fill.new.input.held in
    let reader = c.args.reader.now in
    let filled = HasReadRows-filled done c.args.input.now c.fill.new.input reader rows c.in_default.ensures.filled has
    in (
      done,
      c.in_default.ensures.read old done read,
      λ future ends.
          let follows = subst (λ (b : Bool). IsFollowedBy b future) (sym c.is_whole.ensures) ends in
          let text = done ++ (held ++ future) in
          let given = subst (λ (l : List ℕ). HasRead text rows (behind_rows reader (l ++ future)))
          (sym c.bytes.ensures.held) (filled future ends) in
          c.in-Err-next.ensures.fault text future rows follows given,
    )
