-- Reading a list in a loop, one item after the other: `front` has the items read so far, and `total` is the result of
-- the whole.
use Rattle.std.proofs.Common.{◌≡◌, ℕ, suc, Bool, ◌-◌, ◌+◌, ◌≤◌, ◌<◌, List, [], ◌∷◌, ◌++◌, Option, Some, Result, Ok, Err}
use Rattle.std.proofs.Common.{refl, sym, ap, ◌∙◌, append_assoc, arith}
use Rattle.std.proofs.lemmas.List.{append-nil}
use Rattle.vme_part_format.specs.declared.fault.FieldError.{FieldError}
use Rattle.vme_part_format.specs.declared.fault.FieldError.TheVariants as field
use Rattle.vme_part_format.specs.declared.fault.FieldFault.{FieldFault}
use Rattle.vme_part_format.specs.declared.table.TableEntry.{TableEntry}
use Rattle.vme_part_format.specs.declared.wide.WideMark.{WideMark}
use Rattle.vme_part_format.specs.Reading.{◌>>=◌, Fails, after_items, entries_at, entry_at, mark_at, marks_at, node_at}
use Rattle.vme_part_format.specs.Reading.{nodes_at}
use Rattle.vme_part_format.specs.Reading.{segment_at, segments_at}
use Rattle.vme_part_format.specs.Tables.{NodeValue, SegmentValue, last_of}

-- reading an item and the rest after `front` is reading the rest after `front` and that item
pub after_items-read_one : {A : Type 0} (front : List A) (a : A) (read : Result (List A × List ℕ) FieldFault)
    → after_items front (read >>= λ x. Ok (a ∷ x.0, x.1)) ≡ after_items (front ++ a ∷ []) read
after_items-read_one front a (Ok x) = ap (λ (xs : List _). Ok (xs, x.1)) (simp append_assoc)
after_items-read_one front a (Err f) = refl

-- the entries of a table are read, of which i were
module _ (listing : Bool) (steps ways : ℕ) where
  -- the loop invariant holds after one more entry was read
  pub entries_at-one_more : (front : List TableEntry) (count i : ℕ) (bytes : List ℕ) (e : TableEntry) (after : List ℕ)
      (total : Result (List TableEntry × List ℕ) FieldFault) → i < count
      → entry_at listing steps ways bytes ≡ Ok (e, after)
      → after_items front (entries_at listing steps ways (count - i) bytes) ≡ total
      → after_items (front ++ e ∷ []) (entries_at listing steps ways (count - (i + 1)) after) ≡ total
  unfolding entries_at
  entries_at-one_more front count i bytes e after total lt h so_far =
      let k : count - i ≡ suc (count - (i + 1)) = omega arith in
      let one : after_items front (entries_at listing steps ways (count - i) bytes)
      ≡ after_items (front ++ e ∷ []) (entries_at listing steps ways (count - (i + 1)) after) =
      rw (k, h) (after_items-read_one front e (entries_at listing steps ways (count - (i + 1)) after)) in
      sym one ∙ so_far

  -- the fault of reading an entry is that of the whole
  pub entries_at-fails : (error : FieldError) (front : List TableEntry) (count i : ℕ) (bytes : List ℕ)
      (total : Result (List TableEntry × List ℕ) FieldFault) → i < count
      → Fails error (entry_at listing steps ways bytes)
      → after_items front (entries_at listing steps ways (count - i) bytes) ≡ total → Fails error total
  unfolding entries_at
  entries_at-fails field.Memory front count i bytes total lt h so_far = tt
  entries_at-fails (field.Fault f) front count i bytes total lt h so_far =
      let k : count - i ≡ suc (count - (i + 1)) = omega arith in
      let one : after_items front (entries_at listing steps ways (count - i) bytes) ≡ Err f = rw (k, h) refl in
      sym so_far ∙ one

  -- if all entries were read, the result is `front`
  pub entries_at-all : (front : List TableEntry) (count i : ℕ) (bytes : List ℕ)
      (total : Result (List TableEntry × List ℕ) FieldFault) → count ≤ i
      → after_items front (entries_at listing steps ways (count - i) bytes) ≡ total → total ≡ Ok (front, bytes)
  unfolding entries_at
  entries_at-all front count i bytes total le so_far =
      let k : count - i ≡ 0 = omega arith in
      let one : after_items front (entries_at listing steps ways (count - i) bytes) ≡ Ok (front, bytes) =
      rw k (ap (λ (es : List TableEntry). Ok (es, bytes)) (append-nil front)) in
      sym so_far ∙ one

-- the loop invariant, `after_items front read ≡ total`, holds after one more item, a
pub after_items-one_more : {A : Type 0} (front : List A) (a : A)
    (read later total : Result (List A × List ℕ) FieldFault)
    → read ≡ (later >>= λ x. Ok (a ∷ x.0, x.1)) → after_items front read ≡ total → after_items (front ++ a ∷ []) later ≡
    total
after_items-one_more front a read later total step so_far =
    sym (after_items-read_one front a later)
    ∙ ap (λ (r : Result (List _ × List ℕ) FieldFault). after_items front r) (sym step) ∙
    so_far

-- the error of reading an item is the error of the whole
pub after_items-fails : {A : Type 0} (error : FieldError) (front : List A)
    (read total : Result (List A × List ℕ) FieldFault)
    → Fails error read → after_items front read ≡ total → Fails error total
after_items-fails field.Memory front read total fails so_far = tt
after_items-fails (field.Fault f) front read total fails so_far =
    sym so_far ∙ ap (λ (r : Result (List _ × List ℕ) FieldFault). after_items front r) fails

-- if no item is left, the result is `front`
pub after_items-all : {A : Type 0} (front : List A) (bytes : List ℕ) (read total : Result (List A × List ℕ) FieldFault)
    → read ≡ Ok ([], bytes) → after_items front read ≡ total → total ≡ Ok (front, bytes)
after_items-all front bytes read total none so_far =
    sym so_far ∙ ap (λ (r : Result (List _ × List ℕ) FieldFault). after_items front r) none
    ∙ ap (λ (xs : List _). Ok (xs, bytes)) (append-nil front)

-- marks and nodes are read, of which i were
module _ (steps : ℕ) where
  -- reading the other marks is reading the next one, and then the rest
  pub marks_at-one_more : (before count i : ℕ) (bytes : List ℕ) (m : WideMark) (after : List ℕ) → i < count
      → mark_at steps before bytes ≡ Ok (m, after)
      → marks_at steps before (count - i) bytes
      ≡ (marks_at steps m.instant (count - (i + 1)) after >>= λ x. Ok (m ∷ x.0, x.1))
  unfolding marks_at
  marks_at-one_more before count i bytes m after lt h =
      let k : count - i ≡ suc (count - (i + 1)) = omega arith in rw (k, h) refl

  -- the fault of reading a mark is that of reading the others
  pub marks_at-fails : (error : FieldError) (before count i : ℕ) (bytes : List ℕ) → i < count
      → Fails error (mark_at steps before bytes) → Fails error (marks_at steps before (count - i) bytes)
  unfolding marks_at
  marks_at-fails field.Memory before count i bytes lt h = tt
  marks_at-fails (field.Fault f) before count i bytes lt h =
      let k : count - i ≡ suc (count - (i + 1)) = omega arith in rw (k, h) refl

  -- if all marks were read, none is left
  pub marks_at-all : (before count i : ℕ) (bytes : List ℕ) → count ≤ i
      → marks_at steps before (count - i) bytes ≡ Ok ([], bytes)
  unfolding marks_at
  marks_at-all before count i bytes le = let k : count - i ≡ 0 = omega arith in rw k refl

  -- reading the other nodes is reading the next one, and then the rest
  pub nodes_at-one_more : (memories count i : ℕ) (bytes : List ℕ) (n : NodeValue) (after : List ℕ) → i < count
      → node_at steps (memories + (count - i - 1)) bytes ≡ Ok (n, after)
      → nodes_at memories steps (count - i) bytes
      ≡ (nodes_at memories steps (count - (i + 1)) after >>= λ x. Ok (n ∷ x.0, x.1))
  unfolding nodes_at
  nodes_at-one_more memories count i bytes n after lt h =
      let k : count - i ≡ suc (count - (i + 1)) = omega arith in
      let j : count - i - 1 ≡ count - (i + 1) = omega arith in
      let one = ap (λ (k : ℕ). node_at steps (memories + k) bytes) (sym j) ∙ h in rw (k, one) refl

  -- the fault of reading a node is that of reading the others
  pub nodes_at-fails : (error : FieldError) (memories count i : ℕ) (bytes : List ℕ) → i < count
      → Fails error (node_at steps (memories + (count - i - 1)) bytes)
      → Fails error (nodes_at memories steps (count - i) bytes)
  unfolding nodes_at
  nodes_at-fails field.Memory memories count i bytes lt h = tt
  nodes_at-fails (field.Fault f) memories count i bytes lt h =
      let k : count - i ≡ suc (count - (i + 1)) = omega arith in
      let j : count - i - 1 ≡ count - (i + 1) = omega arith in
      let one = ap (λ (k : ℕ). node_at steps (memories + k) bytes) (sym j) ∙ h in rw (k, one) refl

  -- if all nodes were read, none is left
  pub nodes_at-all : (memories count i : ℕ) (bytes : List ℕ) → count ≤ i
      → nodes_at memories steps (count - i) bytes ≡ Ok ([], bytes)
  unfolding nodes_at
  nodes_at-all memories count i bytes le = let k : count - i ≡ 0 = omega arith in rw k refl

-- the segments of a part are read, of which i were
module _ (listing : Bool) where
  -- reading the other segments is reading the next one, and then the rest
  pub segments_at-one_more : (before : Option ℕ) (count i : ℕ) (bytes : List ℕ) (s : SegmentValue) (after : List ℕ)
      → i < count
      → segment_at listing before bytes ≡ Ok (s, after)
      → segments_at listing before (count - i) bytes
      ≡ (segments_at listing (Some (last_of s.first s.order)) (count - (i + 1)) after >>= λ x. Ok (s ∷ x.0, x.1))
  unfolding segments_at
  segments_at-one_more before count i bytes s after lt h =
      let k : count - i ≡ suc (count - (i + 1)) = omega arith in rw (k, h) refl

  -- the fault of reading a segment is that of reading the others
  pub segments_at-fails : (error : FieldError) (before : Option ℕ) (count i : ℕ) (bytes : List ℕ) → i < count
      → Fails error (segment_at listing before bytes) → Fails error (segments_at listing before (count - i) bytes)
  unfolding segments_at
  segments_at-fails field.Memory before count i bytes lt h = tt
  segments_at-fails (field.Fault f) before count i bytes lt h =
      let k : count - i ≡ suc (count - (i + 1)) = omega arith in rw (k, h) refl

  -- if all segments were read, none is left
  pub segments_at-all : (before : Option ℕ) (count i : ℕ) (bytes : List ℕ) → count ≤ i
      → segments_at listing before (count - i) bytes ≡ Ok ([], bytes)
  unfolding segments_at
  segments_at-all before count i bytes le = let k : count - i ≡ 0 = omega arith in rw k refl
