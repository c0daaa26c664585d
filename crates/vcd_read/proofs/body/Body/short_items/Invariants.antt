-- The loop over short items: each was read whole, and whatever follows, reading on from here gives what reading from
-- the start gives.
use Rattle.std.proofs.Common.{◌≡◌, ◌≤◌, ◌-◌, List, length}
use Rattle.vcd_read.specs.Tokens.{Token}
use Rattle.vcd_read.specs.Body.{ready}
use Rattle.vcd_read.specs.BodyPieces.{rest_in}
use Rattle.vcd_read.specs.declared.open_item.OpenItem.TheVariants.{Ready}
use Rattle.vcd_read.proofs.body.Body.short_items.Given as goal

abbrev pub invariant-loop : goal.invariant-loop
invariant-loop g l = record {
  codes : l.self.codes ≡ l.fn.self.codes;
  still : l.self.reader ≡ l.fn.self.reader;
  text : l.reader.text ≡ l.fn.self.reader.text;
  forward : l.fn.self.reader.at ≤ l.reader.at;
  between : l.self.place ≡ Ready;
  rest : (more : List Token)
      → rest_in g.T.ChangeVisitor.with_change g.T.ChangeVisitor.with_instant g.T.ChangeVisitor.taken
      l.fn.self ready l.fn.self.reader more
      ≡ rest_in g.T.ChangeVisitor.with_change g.T.ChangeVisitor.with_instant g.T.ChangeVisitor.taken
      l.self ready l.reader more;
}

abbrev pub decreases-loop : goal.decreases-loop
decreases-loop g l = length l.reader.text.bytes.now - l.reader.at
