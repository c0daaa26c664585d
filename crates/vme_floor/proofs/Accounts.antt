-- The claims of a run follow from the work of all workers and the contents of the closed board.
use Rattle.std.proofs.Common.{◌≡◌, ℕ, zero, suc, ◌+◌, ◌<◌, ◌≤◌, cond, List, length, map, slice_get, Option, Some, None}
use Rattle.std.proofs.Common.{sym, refl, ap, ◌∙◌, subst, arith, eq-eqb, ⊎_elim}
use Rattle.std.proofs.lemmas.Option.{none-some, same_Some, slice_get_within}
use mathlib.Core.Logic.{dite}
use native.Mathlib.Decide.{ℕ_discrete}
use Rattle.vme_trace.specs.declared.block.Block.{Block}
use Rattle.vme_core.specs.Counting.{occurrences, numbers, HasPair, lack, missing_count}
use Rattle.vme_core.specs.declared.view.View.{View}
use Rattle.vme_core.proofs.Sums.{occurrences-of_pair, HasPair-of_occurrences}
use Rattle.vme_board.specs.Contents.{DidAll, HasBlock}
use Rattle.vme_core.specs.Stages.{HasSeen}
use Rattle.vme_core.specs.declared.stage.Stage.TheVariants.{Claimed}
use Rattle.vme_board.specs.declared.board.Closed.{Closed}
use Rattle.vme_floor.specs.Answering.{IsRightAnswer, FiledAs, IsFiled, IsFiledNumber}
use Rattle.vme_floor.specs.Claims.{HasAnswers, IsContent, IsRecorded, IsLeastUnfiled, IsTorn}
use Rattle.vme_floor.specs.Collecting.{OwnAreTaken}
use Rattle.vme_floor.specs.Accounts.{reply_of, AreReplies, IsAccount, IsClosed, IsUnion}
use Rattle.vme_floor.specs.declared.collector.Collection.{Collection}
use Rattle.vme_floor.specs.Works.{number_in, number_at, filings, IsListed, IsReply, IsSeenIf, IsWork}
use Rattle.vme_floor.specs.declared.answer.Answer.{Answer}
use Rattle.vme_floor.specs.declared.answer.Answer.TheVariants.{Filed, Doubled}
use Rattle.vme_floor.specs.declared.answer.Reply.{Reply}
use Rattle.vme_book.specs.Inserted as Inserted
use Rattle.vme_book.specs.Inserted.{IsWhole}
use Rattle.vme_book.specs.declared.book.Whole.{Whole}
use Rattle.vme_floor.proofs.Collecting.{block_count-all, slice_get-stored}
use Rattle.vme_floor.proofs.Ordering.{slice_get-contents, length-contents}
use Rattle.vme_floor.proofs.Places.{Each-at, slice_get-within}
use Rattle.vme_floor.proofs.Weighing.{draws_of, files_of, weigh-draws_of, weigh-files_of, weigh-two, weigh-some}
use Rattle.vme_floor.proofs.Weighing.{filing-positive}
use Rattle.vme_floor.proofs.Weighing.{filing-here, HasPair-one_block}

-- a place without a block
abbrev no_block : Option Block
no_block = None

-- a place with a block isn't one without
Some-not_none : (b : Block) → Some b ≡ no_block → ⊥
Some-not_none b e = none-some b (sym e)

module _ (total : ℕ) (ds : List Block) (v : View) (replies : List Reply) (answers : List Answer)
    (w : IsWork total ds v replies) (are : AreReplies replies answers) (count : length answers ≡ length ds) where
  -- each reply is to one of the deliveries, and right for it
  IsReply-at : (k : ℕ) (r : Reply) → slice_get replies k ≡ Some r → IsReply total ds v.list r
  IsReply-at k r at = Each-at (IsReply total ds v.list) replies k r w.right at

  -- the answer to a delivery is right for its block, and the list has the block if it was filed
  IsRightAnswer-at : (d : ℕ) (a : Answer) (b : Block) → slice_get answers d ≡ Some a → slice_get ds d ≡ Some b
      → IsRightAnswer
      total b a
      × IsListed v.list b a
  IsRightAnswer-at d a b at there = let p = are d a at in (IsReply-at p.0 (reply_of d a) p.1).1 b there

  -- replies to one delivery are the same
  reply-of_delivery : (k l : ℕ) (r s : Reply) → slice_get replies k ≡ Some r → slice_get replies l ≡ Some s → r.delivery
      ≡ s.delivery → r ≡ s
  reply-of_delivery k l r s at there e = dite (ℕ_discrete k l)
      (λ z. same_Some r s (sym at ∙ (ap (slice_get replies) z ∙ there)))
      (λ ne. let two = weigh-two (draws_of r.delivery) replies k l r s ne at there in
      let d = weigh-draws_of r.delivery replies in let o = w.draws_once r.delivery in let drew = w.drew r.delivery in
      let one : ℕ = 1 in let nil : ℕ = 0 in let a : draws_of r.delivery r ≡ one = ap (λ b. cond b one nil)
      (eq-eqb r.delivery r.delivery refl) in let b : draws_of r.delivery s ≡ one = ap (λ b. cond b one nil)
      (eq-eqb r.delivery s.delivery e) in absurd (omega (arith, two, d, o, drew, a, b)))

  -- the answer to the delivery of a reply is that of the reply
  slice_get-answer : (k : ℕ) (r : Reply) → slice_get replies k ≡ Some r → slice_get answers r.delivery ≡ Some r.answer
  slice_get-answer k r at =
      let near = (IsReply-at k r at).0 in let a = slice_get-within answers r.delivery (omega (arith, near, count)) in
      let p = are r.delivery a.0 a.1 in
      let same : reply_of r.delivery a.0 ≡ r = reply-of_delivery p.0 k (reply_of r.delivery a.0) r p.1 at refl in
      a.1 ∙ ap (λ (x : Reply). Some x.answer) same

  -- the block of a delivery that was answered Filed is in the list
  HasPair-filed : (d : ℕ) (b : Block) → FiledAs ds answers d b → HasPair v.list b.number b
  HasPair-filed d b f = (IsRightAnswer-at d Filed b f.0 f.1).1

  -- each block in the list is that of a delivery that was answered Filed
  IsFiled-listed : (n : ℕ) (b : Block) → HasPair v.list n b → (b.number ≡ n) × IsFiled ds answers b
  IsFiled-listed n b h =
      let some = weigh-some (files_of ds n) replies (omega (
        arith,
        weigh-files_of ds n replies,
        w.filed n,
        occurrences-of_pair
            v.list n b h,
      )) in
      let k : ℕ = some.0 in let r : Reply = some.1 in let is =
      filing-positive r.answer (number_at ds r.delivery) n some.3 in
      let t = IsReply-at k r some.2 in let c = slice_get-within ds r.delivery t.0 in
      let number : c.0.number ≡ n = sym (ap number_in c.1) ∙ sym is.1 in
      let there : HasPair v.list c.0.number c.0 = subst (λ (a : Answer). IsListed v.list c.0 a) is.0 (t.1 c.0 c.1).1 in
      let same : c.0 ≡ b = HasPair-one_block v.list n c.0 b (w.files_once n)
      (subst (λ (m : ℕ). HasPair v.list m c.0) number
      there) h in (
        sym (ap (λ (x : Block). x.number) same) ∙ number,
        (
          r.delivery,
          (
            slice_get-answer k r some.2 ∙ ap (λ (a : Answer). Some a) is.0,
            c.1
                ∙ ap (λ (x : Block). Some x) same,
          ),
        ),
      )

  -- no two deliveries of one number were filed
  FiledAs-once : (d e : ℕ) (b c : Block) → FiledAs ds answers d b → FiledAs ds answers e c → b.number ≡ c.number → d ≡ e
  FiledAs-once d e b c f g same =
      let p = are d Filed f.0 in let q = are e Filed g.0 in let n : ℕ = b.number in dite (ℕ_discrete p.0 q.0)
      (λ s. ap (λ (x : Reply). x.delivery) (same_Some (reply_of d Filed) (reply_of e Filed)
      (sym p.1 ∙ (ap (slice_get replies) s ∙ q.1))))
      (λ ne. let two = weigh-two (files_of ds n) replies p.0 q.0 (reply_of d Filed) (reply_of e Filed) ne p.1 q.1 in
      let k = weigh-files_of ds n replies in
      let a = filing-here (number_at ds d) n (sym (ap number_in f.1)) in
      let z = filing-here (number_at ds e) n (same ∙ sym (ap number_in g.1)) in
      absurd (omega (arith, two, k, a, z, w.filed n, w.files_once n)))

  -- if a reply says that n is filed, some delivery of n was filed
  IsFiledNumber-filings : (n : ℕ) → 0 < filings ds replies n → IsFiledNumber ds answers n
  IsFiledNumber-filings n said =
      let some = weigh-some (files_of ds n) replies (omega (arith, weigh-files_of ds n replies, said)) in
      let k : ℕ = some.0 in let r : Reply = some.1 in let is =
      filing-positive r.answer (number_at ds r.delivery) n some.3 in
      let c = slice_get-within ds r.delivery (IsReply-at k r some.2).0 in (
        c.0,
        sym (ap number_in c.1) ∙ sym is.1,
        (
          r.delivery,
          (
            slice_get-answer k r some.2 ∙ ap (λ (a : Answer). Some a) is.0,
            c.1,
          ),
        ),
      )

  -- if a delivery was answered Doubled, and the bench did all that it has seen done, some delivery of its number was
  -- filed
  IsFiledNumber-doubled : DidAll v → (d : ℕ) (b : Block) → slice_get answers d ≡ Some Doubled → slice_get ds d ≡ Some b
      → IsFiledNumber ds answers b.number
  IsFiledNumber-doubled did d b at there =
      let p = are d Doubled at in let n_is : number_at ds d ≡ b.number = ap number_in there in
      let saw : HasSeen v (number_at ds d) Claimed = Each-at (IsSeenIf ds v) replies p.0 (reply_of d Doubled) w.doubled
      p.1 refl in
      let one = did.list b.number (subst (λ (m : ℕ). HasSeen v m Claimed) n_is saw) in let filed = w.filed b.number in
      IsFiledNumber-filings b.number (omega (arith, one, filed))

  -- the first claim of a run: `HasAnswers` holds of the answers, if the bench did all that it has seen done
  pub HasAnswers-work : DidAll v → HasAnswers total ds answers
  HasAnswers-work did = record {
    count = count;
    right = λ d a b at here. (IsRightAnswer-at d a b at here).0;
    once = FiledAs-once;
    doubled = IsFiledNumber-doubled did;
  }

  module _ (contents : List (Option Block)) (is_closed : IsClosed total v contents) where
    -- the block at a place of the contents has that number, and was filed
    IsFiled-content : (n : ℕ) (b : Block) → slice_get contents n ≡ Some (Some b) → (b.number ≡ n) × IsFiled ds answers b
    IsFiled-content n b at = IsFiled-listed n b (is_closed.only n b at)

    -- if each place has a block, the blocks are the filed ones
    content : (bs : List Block) → contents ≡ map Some bs → IsContent total ds answers bs
    content bs all = record {
      count = length-contents bs contents (sym all) ∙ is_closed.count;
      numbered = λ n b at. (IsFiled-content n b (slice_get-contents bs contents (sym all) n b at)).0;
      filed = λ n b at. (IsFiled-content n b (slice_get-contents bs contents (sym all) n b at)).1;
    }

    -- the second claim of a run: `IsRecorded` holds of the recording and the span of blocks that join, if these are all
    -- the contents
    pub IsRecorded-whole : (whole : Whole) (bs : List Block) → IsWhole contents whole bs → IsRecorded total ds answers
        whole.capture whole.span
    IsRecorded-whole whole bs is = record {
      blocks = bs;
      content = content bs is.all;
      joins = is.stands.extent.join;
      capture_is = is.capture;
      stands = is.stands;
      first = is.starts;
    }

    -- the third claim of a run: the least place of the contents without a block is the least number of which no
    -- delivery was filed
    pub IsLeastUnfiled-missing : (n : ℕ) → Inserted.IsLeastMissing contents n → IsLeastUnfiled total ds answers n
    IsLeastUnfiled-missing n e = record {
      within = let c = is_closed.count in let l = e.within in omega (arith, c, l);
      missing = λ f. Some-not_none f.0
          (same_Some (Some f.0) no_block (sym (ap (slice_get contents) (sym f.1) ∙ is_closed.listed f.0.number f.0
          (HasPair-filed f.2.0 f.0 f.2.1)) ∙ slice_get-stored contents n no_block e.within e.missing));
      least = λ k l. let c = e.before k l in let w = e.within in
          let f = IsFiled-content k c.0 (slice_get-stored contents k (Some c.0) (omega (arith, w, l)) c.1) in
          (c.0, f.0, f.1);
    }

    -- if the block at n is the first of the contents that doesn't join those before it, `IsTorn` holds of n
    pub IsTorn-first : (n : ℕ) (bs : List Block) → Inserted.IsLeastTorn contents n bs → IsTorn total ds answers n
    IsTorn-first n bs torn = record {
      blocks = bs;
      content = content bs torn.all;
      torn = record
          { within = torn.within; joins = torn.join; torn = torn.torn };
    }

-- if `lack s h` is 0 and s is positive, so is h
lt-no_lack : (s h : ℕ) → lack s h ≡ 0 → 0 < s → 0 < h
lt-no_lack zero h e some = absurd (omega (arith, some))
lt-no_lack (suc s) zero e some = absurd (omega (arith, e))
lt-no_lack (suc s) (suc h) e some = omega arith

-- if no number below `limit` is missing, each that was seen there was had
occurrences-none_missing : (saw had : List ℕ) (limit : ℕ) → missing_count saw had limit ≤ 0 → (n : ℕ) → n < limit
    → 0 < occurrences
    n saw → 0 < occurrences n had
occurrences-none_missing saw had zero none n low some = absurd (omega (arith, low))
occurrences-none_missing saw had (suc k) none n low some = dite (ℕ_discrete n k)
    (λ is. let z : 0 < occurrences k saw = subst (λ (y : ℕ). 0 < occurrences y saw) is some in
    subst (λ (y : ℕ). 0 < occurrences y had) (sym is) (lt-no_lack (occurrences k saw) (occurrences k had)
    (omega (arith, none)) z))
    (λ ne. occurrences-none_missing saw had k (omega (arith, none)) n (omega (arith, low, ne)) some)

-- the blocks that were collected, and the contents of the closed board
module _ (total : ℕ) (ds : List Block) (v : View) (replies : List Reply) (c : Collection) (closed : Closed)
    (k : IsAccount total ds v replies c closed) where
  -- no block that was collected is left on the board
  pub HasBlock-apart : (n : ℕ) (b d : Block) → HasBlock c.book n b → HasBlock closed.contents.items n d → ⊥
  HasBlock-apart n b d at left =
      let h = occurrences-of_pair v.takes n b (k.collected.took n b at) in
      Some-not_none d (same_Some (Some d) no_block (sym left ∙ k.closing.gone n h))

  module _ (others : closed.others ≡ 0) (taken : closed.taken ≡ 0) where
    -- each number that was seen filed is in the list, if others filed none
    occurrences-seen_listed : (n : ℕ) → n < total → 0 < occurrences n v.filed → 0 < occurrences n (numbers v.list)
    occurrences-seen_listed n low some =
        let most = k.closing.saw_filed in occurrences-none_missing v.filed (numbers v.list) total
        (omega (arith, most, others)) n low some

    -- each number that was seen taken was taken by the bench, if none was taken by others
    occurrences-seen_taken : (n : ℕ) → n < total → 0 < occurrences n v.taken → 0 < occurrences n (numbers v.takes)
    occurrences-seen_taken n low some =
        let most = k.closing.saw_taken in occurrences-none_missing v.taken (numbers v.takes) total
        (omega (arith, most, taken)) n low some

    -- each block that was collected was filed by the bench
    HasPair-collected : (n : ℕ) (b : Block) → HasBlock c.book n b → HasPair v.list n b
    HasPair-collected n b at =
        let took = k.collected.took n b at in
        let low : n < total = let l = k.collected.long in let w = slice_get_within c.book n (Some b) at in
        omega (arith, l, w) in
        let p = HasPair-of_occurrences v.list n
        (occurrences-seen_listed n low
        (k.collected.saw n (occurrences-of_pair v.takes n b took))) in
        subst (λ (x : Block). HasPair v.list n x) (k.same n p.0 b p.1 took) p.1

    -- the blocks that were collected and those left on the board are exactly those that the bench filed
    pub IsClosed-union : (all : List (Option Block)) → IsUnion c.book closed.contents.items all → IsClosed total v all
    IsClosed-union all u = record {
      count = u.long ∙ k.collected.long;
      listed = λ n b h. dite (ℕ_discrete (occurrences n (numbers v.takes)) 0)
          (λ z. let at = k.closing.untaken taken n b h z in
          u.second n b (slice_get_within closed.contents.items n (Some b) at) at)
          (λ ne. let p = HasPair-of_occurrences v.takes n (omega (arith, ne)) in
          u.first n b (k.collected.kept n b (subst (λ (x : Block). HasPair v.takes n x) (sym (k.same n b p.0 h p.1))
          p.1)));
      only = λ n b at. ⊎_elim (λ x. HasPair-collected n b x) (λ x. k.closing.only others n b x.1) (u.only n b at);
    }

    -- if each number that the bench filed was taken, and each place has a block, all blocks were collected
    pub count-all_early : (all : List (Option Block)) → IsUnion c.book closed.contents.items all → OwnAreTaken v
        → ((n : ℕ) → n < total → (b : Block) × HasBlock all n b) → c.count ≡ total
    count-all_early all u own there =
        let long = k.collected.long in let counted = k.collected.counted in
        let full = block_count-all c.book (λ n low.
        let near : n < total = omega (arith, low, long) in
        let b = there n near in
        let h = (IsClosed-union all u).only n b.0 b.1 in
        let gone : 0 < occurrences n (numbers v.takes) + occurrences n v.taken =
        own n (occurrences-of_pair v.list n b.0 h)
        in
        let took : 0 < occurrences n (numbers v.takes) = dite (ℕ_discrete (occurrences n v.taken) 0)
        (λ z. omega (arith, gone, z)) (λ ne. occurrences-seen_taken n near (omega (arith, ne))) in
        let p = HasPair-of_occurrences v.takes n took in (p.0, k.collected.kept n p.0 p.1)) in
        omega (arith, full, counted, long)
