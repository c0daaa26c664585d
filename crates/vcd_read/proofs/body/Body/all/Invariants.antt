-- The loop over items: each was read whole, and whatever follows, reading on from here gives what reading from the
-- start gives.
use Rattle.std.proofs.Common.{◌≡◌, ◌-◌, List, length}
use Rattle.vcd_read.specs.Tokens.{Token}
use Rattle.vcd_read.specs.Bodies.{place_of}
use Rattle.vcd_read.specs.BodyPieces.{rest_in}
use Rattle.vcd_read.specs.declared.open_item.OpenItem.TheVariants.{Ready}
use Rattle.vcd_read.proofs.body.Body.all.Given as goal

abbrev pub invariant-loop-self : goal.invariant-loop-self
invariant-loop-self g l = record {
  codes : l.self.codes ≡ l.fn.self.codes;
  text : l.self.reader.text ≡ l.fn.self.reader.text;
  between : l.self.place ≡ Ready;
  rest : (more : List Token)
      → rest_in g.T.ChangeVisitor.with_change g.T.ChangeVisitor.with_instant g.T.ChangeVisitor.taken
      l.fn.self (place_of l.fn.self.place) l.fn.self.reader more
      ≡ rest_in g.T.ChangeVisitor.with_change g.T.ChangeVisitor.with_instant g.T.ChangeVisitor.taken
      l.self (place_of l.self.place) l.self.reader more;
}

abbrev pub decreases-loop-self : goal.decreases-loop-self
decreases-loop-self g l = length l.self.reader.text.bytes.now - l.self.reader.at
