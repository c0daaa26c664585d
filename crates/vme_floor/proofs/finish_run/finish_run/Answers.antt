-- The report at the end of a run: its answers, its recording, what was taken early, and why there is none.
use Rattle.std.proofs.Common.{◌≡◌, ℕ, List, Option, sym, subst, arith}
use Rattle.vme_trace.specs.declared.block.Block.{Block}
use Rattle.vme_core.specs.Counting.{occurrences}
use Rattle.vme_core.specs.declared.view.View.{View}
use Rattle.vme_book.specs.Inserted as Inserted
use Rattle.vme_book.specs.Inserted.{RefusesClose}
use Rattle.vme_floor.specs.Accounts.{AreReplies, IsClosed}
use Rattle.vme_floor.specs.Works.{replied}
use Rattle.vme_floor.specs.declared.answer.Answer.{Answer}
use Rattle.vme_floor.specs.declared.answer.Reply.{Reply}
use Rattle.vme_floor.proofs.Collecting.{block_count-le_length}
use Rattle.vme_floor.proofs.Ordering.{HasBlock-contents}
use Rattle.vme_floor.proofs.Accounts.{count-all_early, HasAnswers-work, HasBlock-apart, IsClosed-union, IsTorn-first}
use Rattle.vme_floor.proofs.Accounts.{IsLeastUnfiled-missing, IsRecorded-whole}
use Rattle.vme_floor.proofs.finish_run.finish_run.Goals as goal

-- the answers to replies are those to the same replies
AreReplies-same : (lent replies : List Reply) (answers : List Answer) → lent ≡ replies → AreReplies lent answers
    → AreReplies replies answers
AreReplies-same lent replies answers is are = subst (λ (rs : List Reply). AreReplies rs answers) is are

pub insert_all-requires-clause-apart : goal.insert_all-requires-clause-apart
insert_all-requires-clause-apart c n b d at left =
    HasBlock-apart c.args.total c.args.deliveries.now c.requires.account.0
    c.args.replies.items c.args.collection c.args.closed c.requires.account.1 n b d at left

-- the answers are those to all replies
pub returns-in-Ok-close-clause-answers : goal.returns-in-Ok-close-clause-answers
returns-in-Ok-close-clause-answers c =
    let are = AreReplies-same c.as_slice.result.now c.args.replies.items c.in-Ok.answers c.as_slice.ensures.value
    c.in-Ok.ensures.replies in
    HasAnswers-work c.args.total c.args.deliveries.now c.requires.account.0 c.args.replies.items c.in-Ok.answers
    c.requires.account.1.work are c.in-Ok.ensures.count c.requires.account.1.did

pub returns-in-Err-default-Missing-clause-answers : goal.returns-in-Err-default-Missing-clause-answers
returns-in-Err-default-Missing-clause-answers c =
    let are = AreReplies-same c.as_slice.result.now c.args.replies.items c.in-Ok.answers c.as_slice.ensures.value
    c.in-Ok.ensures.replies in
    HasAnswers-work c.args.total c.args.deliveries.now c.requires.account.0 c.args.replies.items c.in-Ok.answers
    c.requires.account.1.work are c.in-Ok.ensures.count c.requires.account.1.did

pub returns-in-Err-default-Torn-clause-answers : goal.returns-in-Err-default-Torn-clause-answers
returns-in-Err-default-Torn-clause-answers c =
    let are = AreReplies-same c.as_slice.result.now c.args.replies.items c.in-Ok.answers c.as_slice.ensures.value
    c.in-Ok.ensures.replies in
    HasAnswers-work c.args.total c.args.deliveries.now c.requires.account.0 c.args.replies.items c.in-Ok.answers
    c.requires.account.1.work are c.in-Ok.ensures.count c.requires.account.1.did

-- the filed blocks join, and make the recording
pub returns-in-Ok-close-clause-recorded : goal.returns-in-Ok-close-clause-recorded
returns-in-Ok-close-clause-recorded c =
    let are = AreReplies-same c.as_slice.result.now c.args.replies.items c.in-Ok.answers c.as_slice.ensures.value
    c.in-Ok.ensures.replies in let v : View = c.requires.account.0 in let k = c.requires.account.1 in
    let all : List (Option Block) = c.in-Ok-insert_all.book in let whole = c.in-Ok-close.ensures.whole in
    let closed : IsClosed c.args.total v all = IsClosed-union c.args.total c.args.deliveries.now v c.args.replies.items
    c.args.collection c.args.closed k k.no_others k.no_taken all c.in-Ok-insert_all.ensures in
    IsRecorded-whole c.args.total c.args.deliveries.now v c.args.replies.items c.in-Ok.answers k.work are
    c.in-Ok.ensures.count
    all closed c.in-Ok-close.whole whole.0 whole.1

-- how many blocks were taken early
pub returns-in-Ok-close-clause-within : goal.returns-in-Ok-close-clause-within
returns-in-Ok-close-clause-within c =
    let k = c.requires.account.1.collected in let most = block_count-le_length c.args.collection.book in
    let counted = k.counted in let long = k.long in omega (arith, most, counted, long)

pub returns-in-Ok-close-clause-own : goal.returns-in-Ok-close-clause-own
returns-in-Ok-close-clause-own c v k own =
    let all : List (Option Block) = c.in-Ok-insert_all.book in let whole = c.in-Ok-close.ensures.whole in
    let union = c.in-Ok-insert_all.ensures in let long = union.long in let held = k.collected.long in
    count-all_early c.args.total c.args.deliveries.now v c.args.replies.items c.args.collection c.args.closed k
    k.no_others
    k.no_taken all union own
    (λ n low. HasBlock-contents whole.0 all (sym whole.1.all) n (omega (arith, low, long, held)))

-- a refusal names the least number that is missing, or the first block that is torn
pub returns-in-Err-default-Missing-clause-refusals : goal.returns-in-Err-default-Missing-clause-refusals
returns-in-Err-default-Missing-clause-refusals c =
    let are = AreReplies-same c.as_slice.result.now c.args.replies.items c.in-Ok.answers c.as_slice.ensures.value
    c.in-Ok.ensures.replies in let v : View = c.requires.account.0 in let k = c.requires.account.1 in
    let all : List (Option Block) = c.in-Ok-insert_all.book in
    let closed : IsClosed c.args.total v all = IsClosed-union c.args.total c.args.deliveries.now v c.args.replies.items
    c.args.collection c.args.closed k k.no_others k.no_taken all c.in-Ok-insert_all.ensures in
    let why : Inserted.IsLeastMissing all c.in-Err-default-Missing.number = subst (RefusesClose all)
    c.in-Err-default-Missing.field-0-1-is c.in-Err-default-Missing.ensures.why in
    IsLeastUnfiled-missing c.args.total c.args.deliveries.now v c.args.replies.items c.in-Ok.answers k.work are
    c.in-Ok.ensures.count all closed c.in-Err-default-Missing.number why

pub returns-in-Err-default-Torn-clause-refusals : goal.returns-in-Err-default-Torn-clause-refusals
returns-in-Err-default-Torn-clause-refusals c =
    let are = AreReplies-same c.as_slice.result.now c.args.replies.items c.in-Ok.answers c.as_slice.ensures.value
    c.in-Ok.ensures.replies in let v : View = c.requires.account.0 in let k = c.requires.account.1 in
    let all : List (Option Block) = c.in-Ok-insert_all.book in
    let closed : IsClosed c.args.total v all = IsClosed-union c.args.total c.args.deliveries.now v c.args.replies.items
    c.args.collection c.args.closed k k.no_others k.no_taken all c.in-Ok-insert_all.ensures in
    let why : (bs : List Block) × Inserted.IsLeastTorn all c.in-Err-default-Torn.number bs = subst (RefusesClose all)
    c.in-Err-default-Torn.field-0-1-is c.in-Err-default-Torn.ensures.why in
    IsTorn-first c.args.total c.args.deliveries.now v c.args.replies.items c.in-Ok.answers k.work are
    c.in-Ok.ensures.count all closed c.in-Err-default-Torn.number why.0 why.1

-- the benches account for the board: each delivery was drawn by one of them
pub unreachable-requires : goal.unreachable-requires
unreachable-requires c =
    let lacks = c.in-Err-Undrawn.ensures.undrawn c.in-Err-Undrawn.field-0-is in let d : ℕ = lacks.0 in
    let k = c.requires.account.1 in
    let none : occurrences d (replied c.args.replies.items) ≡ 0 = subst (λ (rs : List Reply). occurrences d (replied rs)
    ≡ 0) c.as_slice.ensures.value lacks.2 in
    let drew = k.work.drew d in let one = k.did.draws d (k.found d lacks.1) in omega (arith, none, drew, one)
