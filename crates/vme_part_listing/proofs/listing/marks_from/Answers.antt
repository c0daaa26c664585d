use Rattle.std.proofs.Common.{◌≡◌, ◌<◌, length, map, sym, subst, ◌∙◌, ◌∷◌, arith, List, None, Option}
use Rattle.std.specs.Global.{Vec}
use Rattle.std.proofs.lemmas.Option.{IfSome_then}
use Rattle.std.proofs.lemmas.Result.{IfOk-weaker}
use Rattle.vme_monitor.specs.declared.mark.Mark.{Mark}
use Rattle.vme_summary.specs.Runs.{known_run, handshake_run, stability_run, grant_run, acknowledge_run}
use Rattle.vme_summary.proofs.Together.{merged-marks_of_monitors}
use Rattle.vme_part_format.specs.Tables.{segment_value}
use Rattle.vme_part_listing.specs.Late.{HasLateMark}
use Rattle.vme_part_listing.specs.Marks.{ShowLate, ShowsFiles, marks_of_runs}
use Rattle.vme_part_listing.proofs.MarkedFiles.{ShowLate-shown, MarksTo-first, MarksTo-next, ShowsFiles-none_left}
use Rattle.vme_part_listing.proofs.MarkedFiles.{ShowLate-stops}
use Rattle.vme_parts.proofs.Ordering.{IsSegment-item_at}
use Rattle.vme_part_listing.proofs.listing.marks_from.Goals as goal

pub of-judging-requires : goal.of-judging-requires
of-judging-requires c = c.requires.first.tables

pub go_past-requires-clause-tables : goal.go_past-requires-clause-tables
go_past-requires-clause-tables c = c.requires.first.tables

pub go_past-requires-in-loop-segment-clause-tables : goal.go_past-requires-in-loop-segment-clause-tables
go_past-requires-in-loop-segment-clause-tables c =
    (IsSegment-item_at c.args.rest.now c.loop-segment.segment-index c.segment-item.result (omega arith)
    c.segment-item.is
    c.requires.rest).tables

pub go_past-requires-in-Ok-clause-tables : goal.go_past-requires-in-Ok-clause-tables
go_past-requires-in-Ok-clause-tables c =
    (IsSegment-item_at c.args.rest.now c.loop-segment.segment-index c.segment-item.result (omega arith)
    c.segment-item.is
    c.requires.rest).tables

pub loop-segment-init : goal.loop-segment-init
loop-segment-init c =
    record {
      fit = c.of-judging.ensures.fit;
      runs = c.in_ok-go_past.ensures.fit;
      come = MarksTo-first c.of-judging.result c.at-runs.result c.go_past.new.self (segment_value c.args.first.now)
          (map segment_value c.args.rest.now) (omega arith) c.of-judging.ensures.judged c.at-runs.ensures.shows
          c.in_ok-go_past.ensures.shows;
    }

pub loop-segment-preserved : goal.loop-segment-preserved
loop-segment-preserved c =
    let lt : c.loop-segment.segment-index < length c.args.rest.now = omega arith in
    record {
      fit = c.go_past-in-loop-segment.ensures.fit;
      runs = c.in_ok-go_past-in-Ok.ensures.fit;
      come = MarksTo-next c.loop-segment.judging c.loop-segment.runs (segment_value c.args.first.now) c.args.rest.now
          c.loop-segment.segment-index c.segment-item.result lt c.segment-item.is c.loop-segment.invariant.come
          c.go_past-in-loop-segment.new.self c.go_past-in-Ok.new.self (omega arith) c.in-Ok.ensures.judged
          c.in_ok-go_past-in-Ok.ensures.shows;
    }

pub returns : goal.returns
unfolding known_run handshake_run stability_run grant_run acknowledge_run
returns c =
    let s = segment_value c.args.first.now in
    let ss = s ∷ map segment_value c.args.rest.now in
    let ms = marks_of_runs c.loop-segment.runs in
    let whole = ShowsFiles-none_left c.loop-segment.judging c.loop-segment.runs s c.args.rest.now
    c.loop-segment.segment-index
    (omega (arith, c.loop-segment-test.false))
    (λ t sound few has.
    merged-marks_of_monitors t _ _ _ _ _ (has.known.marks ∙ c.known_over_recordings.ensures.marks t sound few)
    (has.handshake.marks ∙ c.handshake_over_recordings.ensures.marks t sound few)
    (has.stability.marks ∙ c.stability_over_recordings.ensures.marks t sound few)
    (has.grant.marks ∙ c.grants_over_recordings.ensures.marks t sound few)
    (has.acknowledge.marks ∙ c.acknowledge_over_recordings.ensures.marks t sound few))
    c.loop-segment.invariant.come in
    let P : Option (Vec Mark) → Type 0 = λ found. found ≡ None → HasLateMark ms in
    let Q : Option (Vec Mark) → Type 0 = λ found. found ≡ None → ShowLate ss in
    record {
      shows = IfOk-weaker c.together.result _ _
          (λ found given. IfSome_then found given
          (λ v e. subst (λ (zs : List Mark). ShowsFiles s.opening ss zs) (sym e) whole))
          c.together.ensures.same;
      late = IfOk-weaker c.together.result P Q
          (λ found given none. ShowLate-shown s.opening ss ms whole (given none)) c.together.ensures.late;
    }

pub returns-in-Err-clause-late : goal.returns-in-Err-clause-late
returns-in-Err-clause-late c =
    λ none.
    let lt : c.loop-segment.segment-index < length c.args.rest.now = omega arith in
    ShowLate-stops c.loop-segment.judging c.loop-segment.runs (segment_value c.args.first.now) c.args.rest.now
    c.loop-segment.segment-index c.segment-item.result lt c.segment-item.is c.loop-segment.invariant.come
    c.go_past-in-loop-segment.result _ c.in-Err.is c.go_past-in-loop-segment.ensures.stops
