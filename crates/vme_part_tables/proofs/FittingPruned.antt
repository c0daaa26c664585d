-- If a table can be written, it can be written when pruned.
use Rattle.std.proofs.Common.{◌≡◌, ℕ, ◌<◌, Bool, true, false, List, [], ◌∷◌, ◌++◌, length, map, refl}
use Rattle.std.proofs.Common.{ap}
use Rattle.std.proofs.Common.{subst, ◌∙◌, Some}
use Rattle.std.specs.Prelude.{IfSome, slice_get}
use Rattle.std.proofs.lemmas.Bool.{lt-ltb}
use Rattle.std.proofs.lemmas.List.{length-map, map-append}
use Rattle.std.proofs.lemmas.List.Elements.{All-map}
use Rattle.std.proofs.lemmas.Option.{slice_get_within}
use Rattle.vme_part_format.specs.Bounds.{FitNodes, FitsBreak, FitsTable, HasNodes, stays}
use Rattle.vme_part_format.specs.Tables.{NodeValue, TableValue}
use Rattle.vme_part_format.specs.declared.table.TableEntry.{TableEntry}
use Rattle.vme_part_tables.specs.Ways.{HasWays, NodesGoOn}
use Rattle.vme_part_tables.specs.Pruned.{KeepsWays, entry_kept, nodes_kept, table_kept}
use Rattle.vme_part_tables.proofs.Fitting.{at_two}
use Rattle.vme_part_tables.proofs.Pruning.{length-entries_table_kept, HasWays-table_kept}

-- if nodes can be written, those of them that are kept can
FitNodes-nodes_kept : (m count steps : ℕ) (bs : List Bool) (ns : List NodeValue) → FitNodes count steps ns
    → NodesGoOn count (nodes_kept m bs ns) → FitNodes count steps (nodes_kept m bs ns)
FitNodes-nodes_kept m count steps [] ns f w = tt
FitNodes-nodes_kept m count steps (b ∷ bs) [] f w = tt
FitNodes-nodes_kept m count steps (true ∷ bs) (n ∷ ns) f w = (
  record { next = w.0; first_break = f.0.first_break; some = f.0.some; marks = f.0.marks },
  FitNodes-nodes_kept m count steps bs ns f.1 w.1,
)
FitNodes-nodes_kept m count steps (false ∷ bs) (n ∷ ns) f w = FitNodes-nodes_kept m count steps bs ns f.1 w

-- if a table has no nodes in a part without marks, none of them is kept there
HasNodes-nodes_kept : (listing : Bool) (m : ℕ) (bs : List Bool) (ns : List NodeValue) → HasNodes listing ns
    → HasNodes listing (nodes_kept m bs ns)
HasNodes-nodes_kept true m bs ns h = tt
HasNodes-nodes_kept false m bs ns h = ap (nodes_kept m bs) h ∙ none bs
  where
    none : (bs : List Bool) → nodes_kept m bs [] ≡ []
    none [] = refl
    none (b ∷ bs) = refl

-- with more than two memories, the entry `stays` is the same among the kept nodes
entry_kept-stays : (m : ℕ) (keeps : List Bool) → 2 < m → entry_kept m keeps stays ≡ stays
entry_kept-stays m keeps h = rw (lt-ltb 2 m h) refl

-- a table t that can be written, of which `keeps` keeps the nodes that its runs reach
module _ (listing : Bool) (count steps : ℕ) (t : TableValue) (keeps : List Bool)
    (c : KeepsWays (length t.entries) keeps t.entries t.nodes) (h : HasWays t) (f : FitsTable listing count steps t)
  where
    -- an entry whose way counts the kept nodes alone
    abbrev on : TableEntry → TableEntry
    on = entry_kept (length t.entries) keeps

    -- the entry `stays` is in the pruned table between the entries before it and those after it
    ended_kept : (table_kept keeps t).entries ≡ map on f.ended.0 ++ stays ∷ map on f.ended.1
    ended_kept =
        let there : slice_get t.entries 2 ≡ Some stays
        = ap (λ es. slice_get es 2) f.ended.3 ∙ at_two f.ended.0 stays f.ended.1 f.ended.2 in
        let within = slice_get_within t.entries 2 stays there in
        ap (map on) f.ended.3
        ∙ (map-append on f.ended.0 (stays ∷ f.ended.1)
        ∙ ap (λ e. map on f.ended.0 ++ e ∷ map on f.ended.1) (entry_kept-stays (length t.entries) keeps within))

    -- the pruned table can be written, if t can
    pub FitsTable-table_kept : FitsTable listing count steps (table_kept keeps t)
    FitsTable-table_kept =
        let ways = HasWays-table_kept t keeps c h in
        let memories : length (table_kept keeps t).entries ≡ count = length-entries_table_kept t keeps c ∙ f.as_many in
        record {
          as_many = memories;
          ended = (map on f.ended.0, map on f.ended.1, length-map f.ended.0 on ∙ f.ended.2, ended_kept);
          entries = λ k d i. record {
            next = rw (← memories) (ways.entries k d i);
            first_break =
                All-map (λ (e : TableEntry). IfSome e.first_break (FitsBreak steps)) on t.entries
                (λ k d i. (f.entries k d i).first_break) k d i;
          };
          nodes = FitNodes-nodes_kept (length t.entries) count steps keeps t.nodes f.nodes
              (subst (λ m. NodesGoOn m (table_kept keeps t).nodes) memories ways.nodes);
          few = rw (← memories) ways.few;
          listed = HasNodes-nodes_kept listing (length t.entries) keeps t.nodes f.listed;
        }
