-- The parts of a recording, each of which is judged anew, and all breaks of it.
use Rattle.std.specs.Prelude.{ℕ, zero, suc, ◌+◌, List, [], ◌∷◌, drop, take, length, flat_map, Option, None, Some}
use Rattle.std.specs.Prelude.{option_map}
use Rattle.std.specs.Option.{option_map_or, option_to_list}
use Rattle.vme_trace.specs.Trace.{Trace, levels_at}
use Rattle.vme_trace.specs.Verdict.{verdict}
use Rattle.vme_trace.specs.declared.verdict.Break.{Break}
use Rattle.vme_trace.specs.declared.verdict.Verdict.{Verdict}
use Rattle.vme_trace.specs.declared.verdict.Verdict.TheVariants.{Conforming, Broken, Unreadable, NeverIdle}

-- the rest of a recording after instant j: it opens with the levels of that instant, and has the steps after it, so
-- that its instant i is instant j + i of the recording
abbrev pub rest_after : Trace → ℕ → Trace
rest_after t j = record { opening = levels_at t j; steps = drop j t.steps }

-- the recording up to instant j, included
abbrev pub cut_after : Trace → ℕ → Trace
cut_after t j = record { opening = t.opening; steps = take j t.steps }

-- the break of a verdict, if it has one
abbrev pub named_break : Verdict → Option Break
named_break Conforming = None
named_break (Broken b) = Some b
named_break (Unreadable b) = Some b
named_break NeverIdle = None

-- a part of a longer recording: `trace`, which opens at instant `start` of the longer one
pub record Part : Type 0 where
  pub start : ℕ
  pub trace : Trace

-- the break by which a part ends, with its instant in the part
unfoldable pub own_break : Part → Option Break
own_break p = named_break (verdict p.trace)

-- a break of a part that opens at `start`, with its instant in the whole recording
abbrev pub moved_by : ℕ → Break → Break
moved_by start b = record { instant = start + b.instant; time = b.time; rule = b.rule; line = b.line }

-- the break by which a part ends, with its instant in the whole recording
abbrev pub break_of : Part → Option Break
break_of p = option_map (moved_by p.start) (own_break p)

-- what is left of a part after its break b: it opens with the levels at the break, and has fewer steps
abbrev pub part_after : Part → Break → Part
part_after p b = record { start = p.start + b.instant; trace = rest_after p.trace b.instant }

-- a part, and the parts after its break, at most as many as the first argument says
unfoldable pub parts_from : ℕ → Part → List Part
parts_from zero p = p ∷ []
parts_from (suc n) p = p ∷ option_map_or (λ b. parts_from n (part_after p b)) (own_break p) []

-- the whole recording as a part
abbrev pub whole : Trace → Part
whole t = record { start = 0; trace = t }

-- the parts of a recording: itself, and the rest after each of its breaks. A break is after the opening, so there are
-- at most as many breaks as steps
unfoldable pub parts : Trace → List Part
parts t = parts_from (length t.steps) (whole t)

-- the last part of the list; `p` where the list is empty
abbrev pub last_from : Part → List Part → Part
last_from p [] = p
last_from p (q ∷ qs) = last_from q qs

-- the part that ends by no break
abbrev pub last_part : Trace → Part
last_part t = last_from (whole t) (parts t)

-- the breaks by which the parts end, with their instants in the whole recording
abbrev pub breaks_of : List Part → List Break
breaks_of ps = flat_map (λ p. option_to_list (break_of p)) ps

-- all breaks of a recording: in each part the least one, since judging starts anew at the first idle instant from it on
abbrev pub breaks : Trace → List Break
breaks t = breaks_of (parts t)
