-- The steps are judged, if there are any.
use Rattle.std.proofs.Common.{◌+◌, Bool, arith, length, subst}
use Rattle.std.proofs.lemmas.Result.{err_from_is_err_and}
use Rattle.vme_parts.specs.NodeCounts.{tables_for}
use Rattle.vme_parts.specs.OnlyWithMarks.{IsRefusedFile}
use Rattle.vme_file_part.proofs.CountedNodes.{HaveNodesSoFar-more}
use Rattle.vme_file_part.proofs.SoFar.{IsFoundOfFile-file, IsFoundIn-file}
use Rattle.vme_file_part.proofs.file_so_far.FileSoFar.go_on.Goals as goal

pub segment_with-requires-clause-found : goal.segment_with-requires-clause-found
segment_with-requires-clause-found c =
    let (number, listing, start, t, h, may) = c.requires in
    (t, IsFoundIn-file number listing start c.args.self t h, may)

pub returns-clause-so_far : goal.returns-clause-so_far
returns-clause-so_far c number listing start t h may = record {
  number_is = h.number_is;
  listing_is = h.listing_is;
  first_time_is = h.first_time_is;
  found = record {
    opened = h.found.opened;
    found = IsFoundOfFile-file number listing start c.args.self t h c.in_ok-segment.segment _
        (c.in_ok-segment.ensures.found t (IsFoundIn-file number listing start c.args.self t h) may);
  };
}

pub returns-in_err-segment-clause-refused : goal.returns-in_err-segment-clause-refused
returns-in_err-segment-clause-refused c number listing start t h =
    let p = err_from_is_err_and c.from_residual.result c.from_residual.ensures.1 in
    rw (p.1, p.2) (subst (λ (l : Bool). IsRefusedFile l c.in_err-segment.field-0.0) h.listing_is
    c.in_err-segment.ensures.refused)

pub returns-then-is_empty-clause-nodes : goal.returns-then-is_empty-clause-nodes
returns-then-is_empty-clause-nodes c k a =
    HaveNodesSoFar-more k (k + tables_for (length c.args.steps.now)) c.args.self.segment (omega arith) a

pub returns-clause-nodes : goal.returns-clause-nodes
returns-clause-nodes c k a = c.in_ok-segment.ensures.nodes k a

pub returns-in_err-segment-clause-many : goal.returns-in_err-segment-clause-many
returns-in_err-segment-clause-many c k a =
    let p = err_from_is_err_and c.from_residual.result c.from_residual.ensures.1 in
    rw (p.1, p.2) (c.in_err-segment.ensures.many k a)
