use Rattle.std.proofs.Common.{◌<◌, ◌∙◌, refl, arith}
use Rattle.vme_annotate.proofs.WritingLemmas.{times_left-times_ahead, StaysWithin-past_next, IsWrittenTo-before_next}
use Rattle.vme_annotate.proofs.WritingLemmas.{IsWrittenTo-for_time, IsWrittenTo-no_next}
use Rattle.vme_annotate.proofs.WritingLemmas.{IsWrittenTo-past_next}
use Rattle.vme_annotate.proofs.inserting.WritingPlace.go_to.Goals as goal

pub loop-self-init : goal.loop-self-init
loop-self-init c = record {
  count = refl;
  text = refl;
  within = λ within. within;
  written = λ dump asked is le. IsWrittenTo-for_time dump asked c.args.time c.args.self.now is le;
}

pub returns-then-found-time-2-clause-written : goal.returns-then-found-time-2-clause-written
returns-then-found-time-2-clause-written c = λ dump asked is le reached sorted.
    IsWrittenTo-before_next dump asked c.args.time c.loop-self.self (c.loop-self.invariant.written dump asked is le)
    c.in-Some.found c.in-Some.is le reached sorted c.if-found-time-2.true

pub loop-self-preserved : goal.loop-self-preserved
loop-self-preserved c = record {
  count = c.loop-self.invariant.count;
  text = c.next-self.ensures.text ∙ c.loop-self.invariant.text;
  within = λ within.
      StaysWithin-past_next c.loop-self.self (c.loop-self.invariant.within within) c.next-self.result
      c.next-self.new.self
      c.next-self.ensures.text c.next-self.ensures.place;
  written = λ dump asked is le.
      let lt : c.in-Some.found.time < c.args.time = omega (arith, c.if-found-time.false, c.if-found-time-2.false) in
      IsWrittenTo-past_next dump asked c.args.time c.loop-self.self (c.loop-self.invariant.written dump asked is le)
      c.in-Some.found c.in-Some.is c.next-self.result c.next-self.new.self c.next-self.ensures.text
      (times_left-times_ahead c.next-self.result c.loop-self.self.places c.next-self.new.self c.next-self.ensures.time
      c.next-self.ensures.none) c.next-self.ensures.place c.next-self.ensures.order lt;
}

pub returns-clause-written : goal.returns-clause-written
returns-clause-written c = λ dump asked is le reached sorted.
    IsWrittenTo-no_next dump asked c.args.time c.loop-self.self (c.loop-self.invariant.written dump asked is le) le
    reached
    c.in_default.is
