-- The marks of all monitors, merged, are those of each step, one step after the other.
use Rattle.std.proofs.Common.{◌≡◌, ℕ, ◌<◌, ◌≤◌, List, [], ◌∷◌, ◌++◌, length, map, refl, sym}
use Rattle.std.proofs.Common.{◌∙◌}
use Rattle.std.proofs.Common.{ap, arith, append-nil}
use Rattle.std.proofs.lemmas.List.{map-append}
use Rattle.std.proofs.lemmas.Bool.{le-ltb, lt-ltb}
use Rattle.vme_trace.specs.Levels.{Levels}
use Rattle.vme_trace.specs.Trace.{changed}
use Rattle.vme_trace.specs.declared.step.Step.{Step}
use Rattle.vme_monitor.specs.BothMonitors.{both_within, front, kind_number, merged, merged_joined}
use Rattle.vme_monitor.specs.BothMonitors.{rest}
use Rattle.vme_monitor.specs.Outcome.{shifted_mark}
use Rattle.vme_monitor.specs.RuleMonitors.{run_within}
use Rattle.vme_monitor.specs.Run.{kinds_of, mark_at}
use Rattle.vme_monitor.specs.declared.mark.Mark.{Mark}
use Rattle.vme_monitor.specs.declared.mark.MarkKind.{MarkKind}
use Rattle.vme_monitor.proofs.JoinedMarks.{AllFrom, MarksWithin-marks_at_one, marks_at_one}
use Rattle.vme_monitor.proofs.MergingMarks.{merged-nothing}
use Rattle.vme_summary.specs.Runs.{grant_at, handshake_at, known_at}
use Rattle.vme_summary.specs.Runs.{acknowledge_run, grant_run, handshake_run, known_run, stability_run}
use Rattle.vme_auditor.specs.JoinedMarks.{joined_marks, kinds_shown}
use Rattle.vme_auditor.specs.Memories.{memories_next}
use Rattle.vme_auditor.specs.declared.memories.Memories.{Memories}
use Rattle.vme_auditor.proofs.ShownKinds.{AllBelow, IsNothing-acknowledge, AllFrom-append, OfTenure-grant}
use Rattle.vme_auditor.proofs.ShownKinds.{OfTransfer-handshake}
use Rattle.vme_auditor.proofs.ShownKinds.{OfStretch-known, IsNothing-stability, AllBelow-stretch, AllBelow-tenure}
use Rattle.vme_auditor.proofs.ShownKinds.{AllFrom-tenure}
use Rattle.vme_auditor.proofs.ShownKinds.{AllFrom-transfer}

-- in a merge, a mark of a kind from `n` on comes after marks of kinds below `n`
module _ (n : ℕ) where
  -- all marks of kinds below n come before a mark of a kind from n on
  front_all : (k : MarkKind) (ls : List MarkKind) → n ≤ kind_number k → AllBelow n ls
      → front (mark_at 1 k) (marks_at_one ls) ≡ marks_at_one ls
  front_all k [] h b = refl
  front_all k (l ∷ ls) h b = rw (lt-ltb (kind_number l) (kind_number k) (omega (arith, b.0)))
      (ap (λ x. mark_at 1 l ∷ x) (front_all k ls h b.1))

  -- no mark of a kind below n comes after a mark of a kind from n on
  rest_none : (k : MarkKind) (ls : List MarkKind) → n ≤ kind_number k → AllBelow n ls
      → rest (mark_at 1 k) (marks_at_one ls) ≡ []
  rest_none k [] h b = refl
  rest_none k (l ∷ ls) h b = rw (lt-ltb (kind_number l) (kind_number k) (omega (arith, b.0))) (rest_none k ls h b.1)

  -- no mark of a kind from n on comes before a mark of a kind below n
  front_none : (k : MarkKind) (ls : List MarkKind) → kind_number k < n → AllFrom n ls
      → front (mark_at 1 k) (marks_at_one ls) ≡ []
  front_none k [] h b = refl
  front_none k (l ∷ ls) h b = rw (le-ltb (kind_number l) (kind_number k) (omega (arith, b.0))) refl

  -- all marks of kinds from n on come after a mark of a kind below n
  rest_all : (k : MarkKind) (ls : List MarkKind) → kind_number k < n → AllFrom n ls
      → rest (mark_at 1 k) (marks_at_one ls) ≡ marks_at_one ls
  rest_all k [] h b = refl
  rest_all k (l ∷ ls) h b = rw (le-ltb (kind_number l) (kind_number k) (omega (arith, b.0))) refl

  -- if the kinds of the second list are below n and those of the first aren't, the second comes first
  merged-below_second : (ks ls : List MarkKind) → AllFrom n ks → AllBelow n ls
      → merged (marks_at_one ks) (marks_at_one ls) ≡ marks_at_one (ls ++ ks)
  merged-below_second [] ls f b = ap marks_at_one (sym (append-nil ls))
  merged-below_second (k ∷ ks) ls f b =
      rw (front_all k ls f.0 b, rest_none k ls f.0 b, merged-nothing (marks_at_one ks))
      (sym (map-append (mark_at 1) ls (k ∷ ks)))

  -- if the kinds of the first list are below n and those of the second aren't, the first comes first
  merged-below_first : (ks ls : List MarkKind) → AllBelow n ks → AllFrom n ls
      → merged (marks_at_one ks) (marks_at_one ls) ≡ marks_at_one (ks ++ ls)
  merged-below_first [] ls b f = refl
  merged-below_first (k ∷ ks) ls b f =
      rw (front_none k ls b.0 f, rest_all k ls b.0 f) (ap (λ x. mark_at 1 k ∷ x) (merged-below_first ks ls b.1 f))

-- the stability monitor shows no marks
stability_has_no_marks : (x : List Step) (m : Memories) (o : Levels) → (stability_run m.stability o x).marks ≡ []
unfolding stability_run
stability_has_no_marks [] m o = refl
stability_has_no_marks (s ∷ x) m o =
    let after = changed o s.changes in
    let next = memories_next m o after s.changes in
    rw (IsNothing-stability m o after s.changes) (ap (map (shifted_mark 1)) (stability_has_no_marks x next after))

-- the monitor of interrupt acknowledges shows no marks
acknowledge_has_no_marks : (x : List Step) (m : Memories) (o : Levels) → (acknowledge_run m.acknowledge o x).marks ≡ []
unfolding acknowledge_run
acknowledge_has_no_marks [] m o = refl
acknowledge_has_no_marks (s ∷ x) m o =
    let after = changed o s.changes in
    let next = memories_next m o after s.changes in
    rw (IsNothing-acknowledge m o after s.changes) (ap (map (shifted_mark 1)) (acknowledge_has_no_marks x next after))

-- the merged marks of the stretches, of the tenures, and of the cycles and transfers are the joined marks
three_joined : (x : List Step) (m : Memories) (o : Levels)
    → merged (known_run m.known o x).marks (merged (handshake_run m.handshake o x).marks (grant_run m.grant o x).marks)
    ≡ joined_marks m o x
unfolding known_run handshake_run grant_run joined_marks
three_joined [] m o = refl
three_joined (s ∷ x) m o =
    let after = changed o s.changes in
    let next = memories_next m o after s.changes in
    let k = (known_at m.known o after s.changes).shown in
    let d = (handshake_at m.handshake o after s.changes).shown in
    let g = (grant_at m.grant o after s.changes).shown in
    let known = known_run next.known after x in
    let handshake = handshake_run next.handshake after x in
    let grant = grant_run next.grant after x in
    let known_within = run_within known_at x next.known after in
    let handshake_within = run_within handshake_at x next.handshake after in
    let grant_within = run_within grant_at x next.grant after in
    let two_within = (both_within (length x) handshake grant handshake_within grant_within).1 in
    let d_from : AllFrom 5 (kinds_of d) =
    AllFrom-transfer 5 (omega arith) d (OfTransfer-handshake m o after s.changes) in
    let g_below : AllBelow 5 (kinds_of g) = AllBelow-tenure g (OfTenure-grant m o after s.changes) in
    let k_below : AllBelow 2 (kinds_of k) = AllBelow-stretch k (OfStretch-known m o after s.changes) in
    let gd_from : AllFrom 2 (kinds_of g ++ kinds_of d) = AllFrom-append 2 (kinds_of g) (kinds_of d)
    (AllFrom-tenure g (OfTenure-grant m o after s.changes))
    (AllFrom-transfer 2 (omega arith) d (OfTransfer-handshake m o after s.changes)) in
    ap (merged (marks_at_one (kinds_of k) ++ map (shifted_mark 1) known.marks))
    (merged_joined 1 (length x) (marks_at_one (kinds_of d)) (marks_at_one (kinds_of g)) handshake.marks grant.marks
    (MarksWithin-marks_at_one (kinds_of d)) (MarksWithin-marks_at_one (kinds_of g)) handshake_within.1 grant_within.1
    ∙ ap (λ (y : List Mark). y ++ map (shifted_mark 1) (merged handshake.marks grant.marks))
    (merged-below_second 5 (kinds_of d) (kinds_of g) d_from g_below))
    ∙ merged_joined 1 (length x) (marks_at_one (kinds_of k)) (marks_at_one (kinds_of g ++ kinds_of d)) known.marks
    (merged handshake.marks grant.marks) (MarksWithin-marks_at_one (kinds_of k))
    (MarksWithin-marks_at_one (kinds_of g ++ kinds_of d))
    known_within.1 two_within
    ∙ ap (λ (y : List Mark). y ++ map (shifted_mark 1) (merged known.marks (merged handshake.marks grant.marks)))
    (merged-below_first 2 (kinds_of k) (kinds_of g ++ kinds_of d) k_below gd_from)
    ∙ ap (λ (y : List Mark). marks_at_one (kinds_shown m o after s.changes) ++ map (shifted_mark 1) y)
    (three_joined x next after)

-- the merged marks of the five monitors' runs are the joined marks
pub runs_joined : (x : List Step) (m : Memories) (o : Levels)
    → merged (known_run m.known o x).marks
    (merged (handshake_run m.handshake o x).marks
    (merged (stability_run m.stability o x).marks
    (merged (grant_run m.grant o x).marks (acknowledge_run m.acknowledge o x).marks)))
    ≡ joined_marks m o x
runs_joined x m o =
    rw (
      stability_has_no_marks x m o,
      acknowledge_has_no_marks x m o,
      merged-nothing (grant_run m.grant o x).marks,
    ) (three_joined x m o)
