use Rattle.std.proofs.Common.{arith, refl}
use Rattle.std.proofs.lemmas.Result.{err_from_is_err_and}
use Rattle.vme_part_format.specs.Tables.{table_value}
use Rattle.vme_file_part.proofs.CountedNodes.{IsPartRefusal-not_few}
use Rattle.vme_file_part.proofs.file_so_far.extended.Goals as goal

-- 4, 147, 13, 35 and 11 are the numbers of memories (states) of the five monitors
pub joined_table-requires : goal.joined_table-requires
joined_table-requires c = (4, c.requires.first.known, c.requires.second.known)

pub joined_table-requires-2 : goal.joined_table-requires-2
joined_table-requires-2 c = (147, c.requires.first.handshake, c.requires.second.handshake)

pub joined_table-requires-3 : goal.joined_table-requires-3
joined_table-requires-3 c = (13, c.requires.first.stability, c.requires.second.stability)

pub joined_table-requires-4 : goal.joined_table-requires-4
joined_table-requires-4 c = (35, c.requires.first.grant, c.requires.second.grant)

pub joined_table-requires-5 : goal.joined_table-requires-5
joined_table-requires-5 c = (11, c.requires.first.acknowledge, c.requires.second.acknowledge)

pub returns-clause-extends : goal.returns-clause-extends
returns-clause-extends c =
    record {
      first = refl;
      order = refl;
      steps = refl;
      opening = refl;
      left = refl;
      times = c.joined_times.ensures;
      known = c.in_ok-known.ensures.joins;
      handshake = c.in_ok-handshake.ensures.joins;
      stability = c.in_ok-stability.ensures.joins;
      grant = c.in_ok-grant.ensures.joins;
      acknowledge = c.in_ok-acknowledge.ensures.joins;
    }

pub returns-in_err-known-clause-refused : goal.returns-in_err-known-clause-refused
returns-in_err-known-clause-refused c listing a b =
    let p = err_from_is_err_and c.from_residual.result c.from_residual.ensures.1 in
    rw (p.1, p.2) (c.in_err-known.ensures.refused listing a.known b.known)

pub returns-in_err-handshake-clause-refused : goal.returns-in_err-handshake-clause-refused
returns-in_err-handshake-clause-refused c listing a b =
    let p = err_from_is_err_and c.from_residual-in_err-handshake.result c.from_residual-in_err-handshake.ensures.1 in
    rw (p.1, p.2) (c.in_err-handshake.ensures.refused listing a.handshake b.handshake)

pub returns-in_err-stability-clause-refused : goal.returns-in_err-stability-clause-refused
returns-in_err-stability-clause-refused c listing a b =
    let p = err_from_is_err_and c.from_residual-in_err-stability.result c.from_residual-in_err-stability.ensures.1 in
    rw (p.1, p.2) (c.in_err-stability.ensures.refused listing a.stability b.stability)

pub returns-in_err-grant-clause-refused : goal.returns-in_err-grant-clause-refused
returns-in_err-grant-clause-refused c listing a b =
    let p = err_from_is_err_and c.from_residual-in_err-grant.result c.from_residual-in_err-grant.ensures.1 in
    rw (p.1, p.2) (c.in_err-grant.ensures.refused listing a.grant b.grant)

pub returns-in_err-acknowledge-clause-refused : goal.returns-in_err-acknowledge-clause-refused
returns-in_err-acknowledge-clause-refused c listing a b =
    let p = err_from_is_err_and c.from_residual-in_err-acknowledge.result
    c.from_residual-in_err-acknowledge.ensures.1 in
    rw (p.1, p.2) (c.in_err-acknowledge.ensures.refused listing a.acknowledge b.acknowledge)

pub returns-in_err-known-clause-many : goal.returns-in_err-known-clause-many
returns-in_err-known-clause-many c k j a b =
    let p = err_from_is_err_and c.from_residual.result c.from_residual.ensures.1 in
    rw (p.1, p.2) (IsPartRefusal-not_few 4 k j (table_value c.args.first.known)
    (table_value c.args.second.known) c.in_err-known.field-0.0 c.requires.first.known (omega arith)
    a.known b.known c.in_err-known.ensures.many)

pub returns-in_err-handshake-clause-many : goal.returns-in_err-handshake-clause-many
returns-in_err-handshake-clause-many c k j a b =
    let p = err_from_is_err_and c.from_residual-in_err-handshake.result c.from_residual-in_err-handshake.ensures.1 in
    rw (p.1, p.2) (IsPartRefusal-not_few 147 k j (table_value c.args.first.handshake)
    (table_value c.args.second.handshake) c.in_err-handshake.field-0.0 c.requires.first.handshake (omega arith)
    a.handshake b.handshake c.in_err-handshake.ensures.many)

pub returns-in_err-stability-clause-many : goal.returns-in_err-stability-clause-many
returns-in_err-stability-clause-many c k j a b =
    let p = err_from_is_err_and c.from_residual-in_err-stability.result c.from_residual-in_err-stability.ensures.1 in
    rw (p.1, p.2) (IsPartRefusal-not_few 13 k j (table_value c.args.first.stability)
    (table_value c.args.second.stability) c.in_err-stability.field-0.0 c.requires.first.stability (omega arith)
    a.stability b.stability c.in_err-stability.ensures.many)

pub returns-in_err-grant-clause-many : goal.returns-in_err-grant-clause-many
returns-in_err-grant-clause-many c k j a b =
    let p = err_from_is_err_and c.from_residual-in_err-grant.result c.from_residual-in_err-grant.ensures.1 in
    rw (p.1, p.2) (IsPartRefusal-not_few 35 k j (table_value c.args.first.grant)
    (table_value c.args.second.grant) c.in_err-grant.field-0.0 c.requires.first.grant (omega arith)
    a.grant b.grant c.in_err-grant.ensures.many)

pub returns-in_err-acknowledge-clause-many : goal.returns-in_err-acknowledge-clause-many
returns-in_err-acknowledge-clause-many c k j a b =
    let p = err_from_is_err_and c.from_residual-in_err-acknowledge.result
    c.from_residual-in_err-acknowledge.ensures.1 in
    rw (p.1, p.2) (IsPartRefusal-not_few 11 k j (table_value c.args.first.acknowledge)
    (table_value c.args.second.acknowledge) c.in_err-acknowledge.field-0.0 c.requires.first.acknowledge (omega arith)
    a.acknowledge b.acknowledge c.in_err-acknowledge.ensures.many)
