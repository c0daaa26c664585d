-- Which nodes of a table are kept: what the loops that mark and collect them preserve.
use Rattle.std.proofs.Common.{inl, inr, ◌≡◌, ℕ, zero, suc, ◌+◌, ◌-◌, ◌<◌, ◌≤◌, Bool, true, false, List, [], ◌∷◌, length}
use Rattle.std.proofs.Common.{map, drop}
use Rattle.std.proofs.Common.{get_or, refl, ap, sym, subst, ◌∙◌, arith, ◌++◌, Some, add-one, reverse, take}
use Rattle.std.specs.Prelude.{◌⊎◌}
use Rattle.std.proofs.Math.Seq.{drop-cons}
use Rattle.std.proofs.lemmas.Bool.{cases_lt}
use Rattle.std.proofs.lemmas.List.{get_or-drop, get_or-take, length-drop, length-map}
use Rattle.std.proofs.lemmas.List.{reverse-append, take-take}
use Rattle.vme_part_format.specs.Tables.{node_value}
use Rattle.vme_part_format.specs.declared.table.TableNode.{TableNode}
use Rattle.vme_part_tables.specs.Ways.{NodesGoOn}
use Rattle.vme_part_tables.specs.Pruned.{IsKept, KeptGoOn, node_kept, nodes_kept}
use Rattle.vme_part_tables.proofs.InPlaceChanges.{get_or-any_default}

-- there are m memories; a way below m is a memory, another one the node w - m
module _ (m : ℕ) where
  -- the way w, which counts the nodes after the node k, leads to a kept node
  pub IsKept-after_node : (xs : List Bool) (k w : ℕ) → suc k + (w - m) < length xs → get_or xs (suc k + (w - m)) false
      ≡ true
      → IsKept m (drop (suc k) xs) w
  IsKept-after_node xs k w h e past =
      (rw length-drop (omega arith), rw (get_or-drop (suc k) xs (w - m) false) e)

  -- if the way w, which counts the nodes after the node k, leads to a node that is kept, that node is there and kept
  -- among all nodes
  pub IsKept-node_after : (xs : List Bool) (k w : ℕ) → m ≤ w → IsKept m (drop (suc k) xs) w
      → (suc k + (w - m) < length xs) × (get_or xs (suc k + (w - m)) false ≡ true)
  IsKept-node_after xs k w past h =
      let there = h past in
      (omega (arith, length-drop (suc k) xs, there.0), sym (get_or-drop (suc k) xs (w - m) false) ∙ there.1)

  -- what is kept stays so if all nodes that are kept still are
  pub IsKept-superset : (xs ys : List Bool) → length ys ≡ length xs
      → ((k : ℕ) → get_or xs k false ≡ true → get_or ys k false ≡ true) → (w : ℕ) → IsKept m xs w → IsKept m ys w
  IsKept-superset xs ys len more w kept past = let there = kept past in (rw len there.0, more (w - m) there.1)

  -- a node continues with a memory or a node after it
  pub NodesGoOn-next_bound : (ns : List TableNode) (k : ℕ) (d : TableNode) → NodesGoOn m (map node_value ns)
      → k < length ns
      → (get_or ns k d).next < m + (length ns - suc k)
  NodesGoOn-next_bound [] k d g h = absurd (omega arith)
  NodesGoOn-next_bound (n ∷ ns) zero d g h = let e = g.0 in omega (arith, length-map ns node_value, e)
  NodesGoOn-next_bound (n ∷ ns) (suc k) d g h = let more = NodesGoOn-next_bound ns k d g.1 (omega arith) in omega arith

  -- if each kept node continues with a memory or a kept node after it, all do
  pub KeptGoOn-of_each : (xs : List Bool) (ns : List TableNode) → length xs ≡ length ns
      → ((k : ℕ) (d : TableNode) → k < length ns → get_or xs k false ≡ true
      → IsKept m (drop (suc k) xs) (get_or ns k d).next) → KeptGoOn m xs (map node_value ns)
  KeptGoOn-of_each [] ns l each = tt
  KeptGoOn-of_each (b ∷ bs) [] l each = absurd (omega arith)
  KeptGoOn-of_each (b ∷ bs) (n ∷ ns) l each = (
    λ e. each zero n (omega arith) e,
    KeptGoOn-of_each bs ns (omega arith)
        (λ k d h e. each (suc k) d (omega arith) e),
  )

  -- the loop invariant holds after one more node: each kept node before p + 1 continues with a memory or a kept node
  pub IsKept-next_one_more : (xs ys : List Bool) (ns : List TableNode) (p : ℕ) (n : TableNode) → n ≡ get_or ns p n
      → p < length ns → length ys ≡ length xs
      → ((k : ℕ) → get_or xs k false ≡ true → get_or ys k false ≡ true)
      → ((k : ℕ) → k ≤ p → get_or ys k false ≡ get_or xs k false)
      → (get_or ys p false ≡ true → IsKept m (drop (p + 1) ys) n.next)
      → ((k : ℕ) (d : TableNode) → k < p → get_or xs k false ≡ true → IsKept m (drop (suc k) xs) (get_or ns k d).next)
      → (k : ℕ) (d : TableNode) → k < p + 1 → get_or ys k false ≡ true → IsKept m (drop (suc k) ys) (get_or ns k d).next
  IsKept-next_one_more xs ys ns p n is within len more before here each k d h e = by_place (cases_lt k p)
    where
      by_place : ((k < p) ⊎ (p ≤ k)) → IsKept m (drop (suc k) ys) (get_or ns k d).next
      by_place (inl i) = λ past.
          let was : get_or xs k false ≡ true = sym (before k (omega arith)) ∙ e in
          let there = IsKept-node_after xs k (get_or ns k d).next past (each k d i was) in
          IsKept-after_node ys k (get_or ns k d).next (rw len there.0)
          (more (suc k + ((get_or ns k d).next - m)) there.1) past
      by_place (inr i) =
          let same : k ≡ p = omega arith in
          let node : get_or ns k d ≡ n = ap (λ j. get_or ns j d) same ∙ (get_or-any_default ns p d n within ∙ sym is) in
          let to : suc k ≡ p + 1 = omega arith in
          let kept = here (subst (λ j. get_or ys j false ≡ true) same e) in
          rw (node, to) kept

  -- if all kept nodes continue with memories or kept nodes, the kept node k does
  pub IsKept-next_at : (xs : List Bool) (ns : List TableNode) (k : ℕ) (d : TableNode)
      → KeptGoOn m xs (map node_value ns)
      → length xs ≡ length ns → k < length ns → get_or xs k false ≡ true
      → IsKept m (drop (suc k) xs) (get_or ns k d).next
  IsKept-next_at [] ns k d g l h e = absurd (omega arith)
  IsKept-next_at (b ∷ bs) [] k d g l h e = absurd (omega arith)
  IsKept-next_at (b ∷ bs) (n ∷ ns) zero d g l h e = g.0 e
  IsKept-next_at (b ∷ bs) (n ∷ ns) (suc k) d g l h e = IsKept-next_at bs ns k d g.1 (omega arith) (omega arith) e

-- the kept nodes from the node p on, which is n; xs says which nodes are kept
module _ (m : ℕ) (xs : List Bool) (ns : List TableNode) (p : ℕ) (n : TableNode) (within : p < length ns)
    (as_many : length xs ≡ length ns) (is : n ≡ get_or ns p n) where
  -- the nodes from p on are n and those after p
  drop-node : drop p ns ≡ n ∷ drop (suc p) ns
  drop-node = drop-cons ns p n within ∙ ap (λ x. x ∷ drop (suc p) ns) (sym is)

  -- from p on, `xs` says b of n, and then what it says of the nodes after p
  drop-flag : (b : Bool) → get_or xs p false ≡ b → drop p xs ≡ b ∷ drop (suc p) xs
  drop-flag b e =
      let below : p < length xs = omega arith in
      drop-cons xs p false below ∙ ap (λ x. x ∷ drop (suc p) xs) e

  -- if the node p is kept, the kept nodes from p on are it and those after it
  pub nodes_kept-kept_node : get_or xs p false ≡ true → nodes_kept m (drop p xs) (map node_value (drop p ns))
      ≡ node_kept m (drop (suc p) xs) (node_value n) ∷ nodes_kept m (drop (suc p) xs) (map node_value (drop (suc p) ns))
  nodes_kept-kept_node e = rw (drop-flag true e, drop-node) refl

  -- if the node p isn't kept, the kept nodes from p on are those after it
  pub nodes_kept-dropped_node : get_or xs p false ≡ false → nodes_kept m (drop p xs) (map node_value (drop p ns))
      ≡ nodes_kept m (drop (suc p) xs) (map node_value (drop (suc p) ns))
  nodes_kept-dropped_node e = rw (drop-flag false e, drop-node) refl

-- the node that is popped from the first l nodes is that with the index l - 1
get_or-popped : (xs ys : List TableNode) (l p : ℕ) (n : TableNode) → ys ≡ take l xs → l ≤ length xs → p + 1 ≡ l
    → Some n ≡ Some (get_or ys (l - 1) n) → n ≡ get_or xs p n
get_or-popped xs ys l p n front few e last =
    let is : n ≡ get_or ys (l - 1) n = cc in
    let at : l - 1 ≡ p = omega arith in
    let below : p < l = omega arith in
    is ∙ (ap (λ k. get_or ys k n) at ∙ (ap (λ (k : List TableNode). get_or k p n) front ∙ get_or-take l xs p n below))

-- after a node was popped from the first l nodes, the first l - 1 are left
pub take-popped : (xs ys zs : List TableNode) (l p : ℕ) → ys ≡ take l xs → zs ≡ take (l - 1) ys → p + 1 ≡ l
    → zs ≡ take p xs
take-popped xs ys zs l p front left e =
    let at : l - 1 ≡ p = omega arith in
    left ∙ (ap (λ k. take k ys) at ∙ (ap (take p) front ∙ take-take p l xs (omega arith)))

-- n is popped from ys, the first l nodes of xs, so that it is the node p = l - 1
module _ (m : ℕ) (keeps : List Bool) (xs ys : List TableNode) (l p q : ℕ) (n : TableNode) (front : ys ≡ take l xs)
    (few : l ≤ length xs) (count : p + 1 ≡ l) (place : q ≡ p) (last : Some n ≡ Some (get_or ys (l - 1) n))
    (as_many : length keeps ≡ length xs) where
  -- n is the node q, which is p
  get_or-last : n ≡ get_or xs q n
  get_or-last = get_or-popped xs ys l p n front few count last ∙ ap (λ k. get_or xs k n) (sym place)

  -- if n is kept, it continues with a memory or a kept node
  pub IsKept-last_next : KeptGoOn m keeps (map node_value xs) → get_or keeps q false ≡ true
      → IsKept m (drop (q + 1) keeps) n.next
  IsKept-last_next g e =
      let kept = IsKept-next_at m keeps xs q n g as_many (omega arith) e in
      let kept = subst (λ (k : TableNode). IsKept m (drop (suc q) keeps) k.next) (sym get_or-last) kept in
      subst (λ k. IsKept m (drop k keeps) n.next) (sym (add-one q)) kept

  -- if n is kept, the kept nodes from p on are, in reverse, those collected from l on and n
  pub nodes_kept-last_kept : (kept items : List TableNode) (new : TableNode) → get_or keeps q false ≡ true
      → items ≡ kept ++ new ∷ [] → node_value new ≡ node_kept m (drop (q + 1) keeps) (node_value n)
      → map node_value (reverse kept) ≡ nodes_kept m (drop l keeps) (map node_value (drop l xs))
      → map node_value (reverse items) ≡ nodes_kept m (drop p keeps) (map node_value (drop p xs))
  nodes_kept-last_kept kept items new e more same done =
      let next_is : suc q ≡ l = omega arith in
      ap (λ k. map node_value (reverse k)) more
      ∙ (ap (map node_value) (reverse-append kept (new ∷ []))
      ∙ (ap (λ k. k ∷ map node_value (reverse kept)) same
      ∙ (ap (λ k. node_kept m (drop (q + 1) keeps) (node_value n) ∷ k) done
      ∙ (ap (λ k. node_kept m (drop k keeps) (node_value n) ∷ nodes_kept m (drop l keeps) (map node_value (drop l xs)))
      (add-one q)
      ∙ (ap (λ k. node_kept m (drop (suc q) keeps) (node_value n) ∷ nodes_kept m (drop k keeps)
      (map node_value (drop k xs))) (sym next_is)
      ∙ (sym (nodes_kept-kept_node m keeps xs q n (omega arith) as_many get_or-last e)
      ∙ ap (λ k. nodes_kept m (drop k keeps) (map node_value (drop k xs))) place))))))

  -- if n isn't kept, the kept nodes from p on are those collected from l on
  pub nodes_kept-last_dropped : (kept : List TableNode) → get_or keeps q false ≡ false
      → map node_value (reverse kept) ≡ nodes_kept m (drop l keeps) (map node_value (drop l xs))
      → map node_value (reverse kept) ≡ nodes_kept m (drop p keeps) (map node_value (drop p xs))
  nodes_kept-last_dropped kept e done =
      let next_is : suc q ≡ l = omega arith in
      done
      ∙ (ap (λ k. nodes_kept m (drop k keeps) (map node_value (drop k xs))) (sym next_is)
      ∙ (sym (nodes_kept-dropped_node m keeps xs q n (omega arith) as_many get_or-last e)
      ∙ ap (λ k. nodes_kept m (drop k keeps) (map node_value (drop k xs))) place))
