use Rattle.vme_audit_command.proofs.command.audit.Goals as goal
use Rattle.vme_stream.proofs.OutputLemmas.{Writes-nothing}

pub returns-in-Err-clause-refused : goal.returns-in-Err-clause-refused
returns-in-Err-clause-refused g c =
    let (bytes, read, gives) = c.in-Err.ensures in
    λ _. record {
      bytes = bytes;
      refusal = c.in-Err.refusal;
      read = read;
      gives = gives;
      out_is = Writes-nothing (g.O.Sink.writing c.args.out.now);
      err_is = c.tell_refusal.ensures.told;
      status_is = c.tell_refusal.ensures.status;
    }

pub returns-in-Ok-clause-audited : goal.returns-in-Ok-clause-audited
returns-in-Ok-clause-audited g c =
    let (bytes, read, gives) = c.in-Ok.ensures in
    λ _. record {
      bytes = bytes;
      bound = c.in-Ok.bound;
      read = read;
      is = gives;
      audits = c.audit_all.ensures;
    }
