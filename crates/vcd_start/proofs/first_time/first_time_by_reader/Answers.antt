use Rattle.std.proofs.Common.{sym, ◌∙◌}
use Rattle.vcd_read.specs.Reached.{reached}
use Rattle.vcd_start.proofs.KeptFirstTime.{first_time_of_dump-known}
use Rattle.vcd_start.proofs.first_time.first_time_by_reader.Goals as goal

pub returns-in-Some : goal.returns-in-Some
returns-in-Some c front text more read same dump whole =
    first_time_of_dump-known (reached (λ v. v.time) c.args.reader) c.in-Some.time
    (sym c.with_visitor.ensures.visitor ∙ sym c.into_time.ensures ∙ c.in-Some.is) more dump
    (read text more dump same whole)
