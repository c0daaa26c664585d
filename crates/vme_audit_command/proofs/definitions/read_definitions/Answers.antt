use Rattle.std.proofs.Common.{Ok, ap}
use Rattle.vme_audit_command.proofs.DefinitionLemmas.{Consumes-held, ReadsDefinitions-begun}
use Rattle.vme_audit_command.proofs.DefinitionLemmas.{ReadsDefinitions-not_begun_at_end}
use Rattle.vme_audit_command.proofs.DefinitionLemmas.{ReadsDefinitions-not_begun_here, ReadsDefinitions-unread}
use Rattle.vme_audit_command.proofs.definitions.read_definitions.Goals as goal

pub returns-in-Err-begin_last-clause-reads : goal.returns-in-Err-begin_last-clause-reads
returns-in-Err-begin_last-clause-reads g c =
    let old = g.D.Source.reading c.args.dump.now in
    let now = g.D.Source.reading c.loop.dump in
    let new = g.D.Source.reading c.read.new.dump in
    let (more, read, is) = c.in-Ok-false.ensures.more in
    ReadsDefinitions-not_begun_at_end c.args.binding.now old new c.begin_last.new.input c.read.new.self
    c.in-Err-begin_last.why
    (Consumes-held old.left now.left new.left c.loop.input more c.read.new.self c.loop.invariant.held read is)
    (c.in-Ok-false.ensures.end (ap Ok c.in-Ok-false.field-0-test))
    c.in-Err-begin_last.ensures.begins

pub returns-in-Err-clause-reads : goal.returns-in-Err-clause-reads
returns-in-Err-clause-reads g c = ReadsDefinitions-unread c.args.binding.now (g.D.Source.reading c.args.dump.now)
    (g.D.Source.reading c.read.new.dump) c.read.new.self c.in-Err.fault c.not_read.result c.not_read.ensures

pub returns-in-Ok-Some-clause-reads : goal.returns-in-Ok-Some-clause-reads
returns-in-Ok-Some-clause-reads g c =
    let old = g.D.Source.reading c.args.dump.now in
    let now = g.D.Source.reading c.loop.dump in
    let new = g.D.Source.reading c.read.new.dump in
    let (more, read, is) = c.in-Ok-true.ensures.more in
    ReadsDefinitions-begun c.args.binding.now old new c.begin.new.input c.read.new.self c.in-Ok-Some.field-0
    c.in-Ok-Some.reader
    c.in-Ok-Some.field-0-is c.in-Ok-Some.ensures.begins
    (Consumes-held old.left now.left new.left c.loop.input more c.read.new.self c.loop.invariant.held read is)

pub returns-in-Err-begin-clause-reads : goal.returns-in-Err-begin-clause-reads
returns-in-Err-begin-clause-reads g c =
    let old = g.D.Source.reading c.args.dump.now in
    let now = g.D.Source.reading c.loop.dump in
    let new = g.D.Source.reading c.read.new.dump in
    let (more, read, is) = c.in-Ok-true.ensures.more in
    ReadsDefinitions-not_begun_here c.args.binding.now old new c.begin.new.input c.read.new.self c.in-Err-begin.why
    (Consumes-held old.left now.left new.left c.loop.input more c.read.new.self c.loop.invariant.held read is)
    c.in-Err-begin.ensures.begins
