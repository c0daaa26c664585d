use Rattle.vme_stream.proofs.IntakeLemmas.{take-moved}
use Rattle.vme_stream.proofs.byte_consumer.move_to_front.Goals as goal

pub returns-clause-left : goal.returns-clause-left
returns-clause-left c =
    let bytes = c.args.bytes.now in
    let after = rw (c.as_mut_slice.ensures.value, c.len-count.ensures) at c.copy_within.ensures.after in
    let len = rw c.as_mut_slice.ensures.value at c.copy_within.ensures.len in
    take-moved bytes.items c.copy_within.new.self bytes.len c.args.from bytes.ok.0 c.requires len after
