-- A new book has nothing inserted.
use Rattle.std.proofs.Common.{[], ◌<◌, ◌≤◌, arith}
use Rattle.vme_book.proofs.Prefixes.{Keeps-nothing}
use Rattle.vme_book.proofs.book.Book.new.Goals as goal

pub invariant_of-result : goal.invariant_of-result
invariant_of-result c =
    let some : 0 < c.args.total = omega arith in
    let few : c.args.total ≤ 4096 = omega arith in (
      [],
      [],
      Keeps-nothing c.in-Ok.places c.new-2.result c.args.total some few c.in-Ok.ensures.blocks
          c.in-Ok.ensures.spans c.new-2.ensures.count c.new-2.ensures.span,
    )
