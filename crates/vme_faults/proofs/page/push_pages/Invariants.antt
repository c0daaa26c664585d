-- The loop over kinds: the pages of those so far were added to the text.
use Rattle.std.specs.Prelude.{◌≡◌, ◌++◌, flat_map, take}
use Rattle.vme_faults.specs.Pages.{page_text}
use Rattle.vme_faults.proofs.page.push_pages.Given as goal

abbrev pub invariant-loop-kind : goal.invariant-loop-kind
invariant-loop-kind l = l.text ≡ l.fn.text ++ flat_map page_text (take l.kind-index l.kinds)
