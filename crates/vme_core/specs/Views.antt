-- How each step changes the view of the bench that takes it. A bench is a worker's handle to the board of blocks, and
-- its view is what it has done and seen (`View`). A draw is a number that one bench alone wins. A share is a list of
-- exponents e, each for a part 2^-e of the board (`specs/Shares`).
use Rattle.std.specs.Prelude.{ℕ, List, [], ◌∷◌, ◌++◌}
use Rattle.vme_trace.specs.declared.block.Block.{Block}
use Rattle.vme_core.specs.declared.view.View.{View}
use Rattle.vme_core.specs.Shares.{kept_share, split_share}

-- the view of a bench that was joined to another: it has no share
abbrev pub empty_view : View
empty_view = record {
  list = [];
  takes = [];
  draws = [];
  found = [];
  claimed = [];
  filed = [];
  taken = [];
  pending = [];
  share = [];
}

-- the view of the first bench: it has the whole share, one part of 2^0
abbrev pub first_view : View
first_view = record empty_view { share = 0 ∷ [] }

-- the view of a bench after another was split off
abbrev pub kept_view : View → View
kept_view v = record v { share = kept_share v.share }

-- the view of a bench split off: it has seen the same, and has filed, taken and drawn nothing
abbrev pub split_view : View → View
split_view v = record {
  list = [];
  takes = [];
  draws = [];
  found = v.found;
  claimed = v.claimed;
  filed = v.filed;
  taken = v.taken;
  pending = [];
  share = split_share v.share;
}

-- the view of a bench with the view v after a bench with the view w was joined to it
abbrev pub joint_view : View → View → View
joint_view v w = record {
  list = v.list ++ w.list;
  takes = v.takes ++ w.takes;
  draws = v.draws ++ w.draws;
  found = v.found ++ w.found;
  claimed = v.claimed ++ w.claimed;
  filed = v.filed ++ w.filed;
  taken = v.taken ++ w.taken;
  pending = v.pending ++ w.pending;
  share = v.share ++ w.share;
}

-- the view of a bench that has seen the numbers ns claimed
abbrev pub with_claimed : View → List ℕ → View
with_claimed v ns = record v { claimed = ns ++ v.claimed }

-- the view of a bench that has seen the numbers ns filed, and so claimed
abbrev pub with_filed : View → List ℕ → View
with_filed v ns = record v { claimed = ns ++ v.claimed; filed = ns ++ v.filed }

-- the view of a bench that has seen the numbers ns taken, and so filed and claimed
abbrev pub with_taken : View → List ℕ → View
with_taken v ns = record v { claimed = ns ++ v.claimed; filed = ns ++ v.filed; taken = ns ++ v.taken }

-- the view of a bench that has seen the draw d won
abbrev pub with_found : View → ℕ → View
with_found v d = record v { found = d ∷ v.found }

-- the view of a bench after it won the draw d
abbrev pub after_draw : View → ℕ → View
after_draw v d = record v { draws = d ∷ v.draws; found = d ∷ v.found }

-- the view of a bench after it claimed the number n
abbrev pub after_claim : View → ℕ → View
after_claim v n = record v { claimed = n ∷ v.claimed; pending = n ∷ [] }

-- the view of a bench after it filed the number n with the block b
abbrev pub after_filing : View → ℕ → Block → View
after_filing v n b = record v { list = (n, b) ∷ v.list; claimed = n ∷ v.claimed; filed = n ∷ v.filed; pending = [] }

-- the view of a bench after it took the number n, whose block is b
abbrev pub after_take : View → ℕ → Block → View
after_take v n b = record v {
  takes = (n, b) ∷ v.takes;
  claimed = n ∷ v.claimed;
  filed = n ∷ v.filed;
  taken = n ∷ v.taken;
}
