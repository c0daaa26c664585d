use Rattle.std.proofs.Common.{◌∙◌, List, ℕ, subst, sym, take}
use Rattle.std.specs.List.Sorted.{IsStrictlyIncreasing}
use Rattle.std.proofs.lemmas.List.{length-map}
use Rattle.vcd_places.specs.Codes.{IsUnused}
use Rattle.vcd_read.specs.CodeNumbers.{code_number}
use Rattle.vme_annotate.specs.Added.{bytes_of}
use Rattle.vme_annotate.proofs.AddedLemmas.{All-map, map-of_map}
use Rattle.vme_annotate.proofs.added.added_beside.Goals as goal

pub returns : goal.returns
returns c =
    let (underscores, free, is) = c.in_ok-free_scope.ensures in
    let codes = c.in_ok-unused_codes.field-0.items in
    let told = c.in_ok-unused_codes.ensures in
    record {
      underscores = underscores;
      scope = free;
      scope_is = is;
      count_is = length-map codes bytes_of ∙ told.count;
      start = c.in-Some.section.start;
      starts = c.in-Some.ensures.start;
      each = All-map bytes_of
          (λ (code : List ℕ). IsUnused (take c.in-Some.section.start c.args.dump.now) (code_number code) code) codes
          told.each;
      ascend = subst IsStrictlyIncreasing (sym (map-of_map bytes_of code_number codes)) told.ascend;
    }
