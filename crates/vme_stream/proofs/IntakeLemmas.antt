-- A source is read by a consumer of its bytes: what holds after each read and each piece that the consumer takes, and
-- what the reading then is.
use Rattle.std.proofs.Common.{◌≡◌, ℕ, suc, ◌+◌, ◌-◌, ◌≤◌, ◌<◌, List, ◌++◌, length, take, drop, Some, None, sym, ap}
use Rattle.std.proofs.Common.{subst, ◌∙◌, append_assoc, append-nil, length-append, length-take-le, arith}
use Rattle.std.specs.List.{copy_within}
use Rattle.std.proofs.Math.Nat.{zero-add}
use Rattle.std.proofs.Math.Seq.{paste, take-add, take-append_seam}
use Rattle.std.proofs.lemmas.List.{drop-take, length-drop, take-append-drop, take-take, take_rest}
use Rattle.std.proofs.lemmas.List.Edits.{take-paste}
use Rattle.std.specs.Io.KnownBytes.{Consumes, IsAtEnd}
use Rattle.std.proofs.KnownBytes.{Consumes-trans}
use Rattle.vme_stream.specs.Inputs.{IsReading, least_room, longest_input, most_reads}
use Rattle.vcd_read.specs.ByteConsumers.{ContinuesAs}
use Rattle.vme_stream.proofs.InputLemmas.{IsRoomy, IsReading-many_reads, IsReading-more_than, IsReading-read_to_end}
use Rattle.vme_stream.proofs.InputLemmas.{IsRoomy-read_some}
use Rattle.vme_trace.specs.Streams.{Reading}

-- `reads` reads gave bytes: `done`, the `taken` ones that the consumer took, and the `filled` ones that are held, at
-- the front of `buffer`.
pub record IsUnderway {O : Type 0} (old now : Reading) (first here : List ℕ → O) (buffer done : List ℕ)
    (taken filled reads : ℕ) : Type 0 where
  pub within : filled ≤ length buffer
  pub counted : reads ≤ taken + filled
  pub done_is : length done ≡ taken
  pub few : taken ≤ longest_input
  pub read : Consumes old.left now.left (done ++ take filled buffer)
  pub reads_are : now.reads ≡ old.reads + reads
  pub roomy : IsRoomy old now reads (taken + filled)
  pub failures : now.failures ≡ old.failures
  pub passes : ContinuesAs first here done

-- a consumer that takes `xs` and then `ys` has taken `xs ++ ys`
ContinuesAs-append : {O : Type 0} (first here next : List ℕ → O) (xs ys : List ℕ) → ContinuesAs first here xs
    → ContinuesAs here
    next ys → ContinuesAs first next (xs ++ ys)
ContinuesAs-append first here next xs ys one two rest = ap first (append_assoc xs ys rest) ∙ one (ys ++ rest) ∙ two rest

module _ {O : Type 0} (old now : Reading) (first here : List ℕ → O) (buffer done : List ℕ) (taken filled reads : ℕ)
    (u : IsUnderway old now first here buffer done taken filled reads) where
  -- all bytes that were read so far
  abbrev pub all_read : List ℕ
  all_read = done ++ take filled buffer

  -- as many bytes are held as the buffer is filled with
  length-held : length (take filled buffer) ≡ filled
  length-held = length-take-le filled buffer u.within

  -- the number of bytes that were read is that of those taken and those held
  pub length-all_read : length all_read ≡ taken + filled
  length-all_read = length-append done (take filled buffer) ∙ omega (arith, length-held, u.done_is)

  -- `count` of the held bytes are taken
  module _ (limit : taken + filled ≤ longest_input) (next : List ℕ → O) (after : List ℕ) (count : ℕ)
      (within : count ≤ filled) (room : (filled - count) + least_room ≤ length after)
      (left : take (filled - count) after ≡ drop count (take filled buffer))
      (passed : ContinuesAs here next (take count buffer)) where
    -- the bytes that were read are the same after `count` of them are taken
    all_read-taken : all_read ≡ (done ++ take count buffer) ++ take (filled - count) after
    all_read-taken =
        ap (λ (xs : List ℕ). done ++ xs) (sym (take-append-drop count (take filled buffer))
        ∙ ap (λ (xs : List ℕ). xs ++ drop count (take filled buffer)) (take-take count filled buffer within)
        ∙ ap (λ (xs : List ℕ). take count buffer ++ xs) (sym left))
        ∙ sym (append_assoc done (take count buffer) (take (filled - count) after))

    -- reading is underway after the consumer took `count` of the held bytes
    pub IsUnderway-taken : IsUnderway old now first next after (done ++ take count buffer) (taken + count)
        (filled - count)
        reads
    IsUnderway-taken = record {
      within = omega (arith, room);
      counted = omega (arith, u.counted, within);
      done_is = length-append done (take count buffer) ∙ omega (
        arith,
        u.done_is,
        length-take-le count buffer
            (omega (arith, within, u.within)),
      );
      few = omega (arith, limit, within);
      read = subst (Consumes old.left now.left) all_read-taken u.read;
      reads_are = u.reads_are;
      roomy = record { rooms = omega (arith, u.roomy.rooms, within); few = u.roomy.few };
      failures = u.failures;
      passes = ContinuesAs-append first here next done (take count buffer) u.passes passed;
    }

  -- reading is underway after one more read that gave bytes, with room enough, if there weren't too many before
  pub IsUnderway-read : (later : Reading) (after : List ℕ) (count : ℕ) → take filled after ≡ take filled buffer
      → filled + count ≤ length after → 0 < count → taken + filled ≤ longest_input
      → filled + least_room ≤ length after
      → Consumes now.left later.left (take count (drop filled after)) → later.reads ≡ now.reads + 1
      → (count ≡ 0 → later.short_reads ≡ now.short_reads)
      × (0 < count → count < length (drop filled after) → later.short_reads ≡ suc now.short_reads)
      × (length (drop filled after) ≤ count → later.short_reads ≡ now.short_reads)
      → later.failures ≡ now.failures
      → IsUnderway old later first here after done taken (filled + count) (reads + 1)
  IsUnderway-read later after count front fits some limit room read reads_are counts failures =
      let enough : least_room ≤ length (drop filled after) = omega (arith, length-drop filled after, room) in
      let on = IsRoomy-read_some old now later reads (taken + filled) count (length (drop filled after)) u.roomy limit
      some
      enough counts in
      let joined : done ++ take (filled + count) after ≡ all_read ++ take count (drop filled after) =
      ap (λ (xs : List ℕ). done ++ xs) (take-add filled count after
      ∙ ap (λ (xs : List ℕ). xs ++ take count (drop filled after)) front)
      ∙ sym (append_assoc done (take filled buffer) (take count (drop filled after))) in
      record {
        within = fits;
        counted = omega (arith, u.counted, some);
        done_is = u.done_is;
        few = u.few;
        read = subst (Consumes old.left later.left) (sym joined) (Consumes-trans old.left now.left later.left _ _ u.read
            read);
        reads_are = omega (arith, reads_are, u.reads_are);
        roomy = record { rooms = omega (arith, on.rooms); few = on.few };
        failures = failures ∙ u.failures;
        passes = u.passes;
      }

  -- if the last read gave no bytes, those that were read are all bytes of the input
  pub IsReading-at_end : (later : Reading) (after : List ℕ) → take filled after ≡ take filled buffer → Consumes now.left
      later.left (take 0 (drop filled after)) → IsAtEnd later.left
      → later.reads ≡ now.reads → later.failures ≡ now.failures → reads < most_reads
      → IsReading old later (Some all_read)
  IsReading-at_end later after front read end reads_are failures few =
      IsReading-read_to_end old later all_read (subst (Consumes old.left later.left) (append-nil all_read)
      (Consumes-trans old.left now.left later.left _ _ u.read read)) end
      (record { failures = failures ∙ u.failures; reads = omega (arith, reads_are, u.reads_are, few) })

  -- if too many bytes were read, the input is too long
  pub IsReading-too_long : longest_input < taken + filled → reads < most_reads → (bytes : List ℕ)
      × (longest_input < length bytes) × IsReading old now (Some bytes)
  IsReading-too_long long few =
      IsReading-more_than old now all_read longest_input u.read (omega (arith, long, length-all_read))
      (record { failures = u.failures; reads = omega (arith, u.reads_are, few) })

  -- if `most_reads` reads gave bytes, reading is given up
  pub IsReading-given_up : most_reads ≤ reads → now.reads ≡ old.reads + most_reads → IsReading old now None
  IsReading-given_up many reads_are =
      IsReading-many_reads old now all_read u.read (omega (arith, many, u.counted, length-all_read)) reads_are
      (omega (arith, many, u.roomy.few)) u.failures

-- ---- bytes that are moved to the front of a buffer

-- the bytes from `from` on, moved to the front of a list, are its first ones
copy_within-front : (xs : List ℕ) (from : ℕ) → from ≤ length xs
    → take (length xs - from) (copy_within xs from (length xs) 0)
    ≡ drop from xs
copy_within-front xs from le =
    let k = length xs - from in
    subst (λ (j : ℕ). take j (paste xs 0 (drop from xs) k) ≡ drop from xs) (zero-add k)
    (take-paste xs 0 (drop from xs) k (omega arith) (omega (arith, length-drop from xs)) ∙ take_rest xs from)

-- of the first `filled` bytes of a buffer `count` were taken, and those after them are then at the front
pub take-left : (before moved_bytes after : List ℕ) (len filled count : ℕ) → filled ≤ len → count ≤ filled
    → take (len - count) moved_bytes ≡ drop count before → take (filled - count) after
    ≡ take (filled - count) moved_bytes
    → take (filled - count) after ≡ drop count (take filled before)
take-left before moved_bytes after len filled count within some left front =
    let less : filled - count ≤ len - count = omega (arith, within) in
    let all : count + (filled - count) ≡ filled = omega (arith, some) in
    front ∙ sym (take-take (filled - count) (len - count) moved_bytes less) ∙ ap (take (filled - count)) left
    ∙ sym (drop-take count (filled - count) before) ∙ ap (λ (n : ℕ). drop count (take n before)) all

-- bytes that are written over the start of a buffer are its first ones
pub take-written : (xs given : List ℕ) (n : ℕ) → n ≡ length given → take n (given ++ drop (length given) xs) ≡ given
take-written xs given n e = ap (λ (k : ℕ). take k (given ++ drop (length given) xs)) e ∙ take-append_seam given
    (drop (length given) xs)

-- the bytes from `from` on, moved to the front of a buffer that is written back, are its first ones
pub take-moved : (xs given : List ℕ) (n from : ℕ) → n ≡ length xs → from ≤ n → length given ≡ length xs → given
    ≡ copy_within xs from n 0
    → take (n - from) (take n (given ++ drop (length given) xs)) ≡ drop from xs
take-moved xs given n from e le len is =
    ap (take (n - from)) (take-written xs given n (e ∙ sym len) ∙ is)
    ∙ ap (λ (k : ℕ). take (k - from) (copy_within xs from k 0)) e
    ∙ copy_within-front xs from (omega (arith, e, le))
