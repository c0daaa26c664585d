-- The state of an input that is read in pieces stays right as bytes are read and taken, and says at each point what can
-- be said of its source.
use Rattle.std.proofs.Common.{◌≡◌, ℕ, suc, ◌+◌, ◌*◌, ◌≤◌, ◌<◌, ◌⊎◌, inl, inr, Bool, true, false, List, [], ◌∷◌, ◌++◌}
use Rattle.std.proofs.Common.{length, take, drop, Option, None, Some, refl, sym, ap, subst, ◌∙◌, arith}
use Rattle.std.proofs.Common.{append_assoc, append-nil, length-append, take-append-drop}
use Rattle.std.specs.Io.KnownBytes.{Consumes, IsAtEnd}
use Rattle.std.proofs.KnownBytes.{Consumes-trans}
use Rattle.std.proofs.Math.Nat.{suc-mul}
use Rattle.std.proofs.lemmas.Bool.{both_ways, cases_lt}
use Rattle.std.proofs.lemmas.Nat.{mul-le}
use Rattle.vme_trace.specs.Streams.{Reading}
use Rattle.vme_stream.specs.Inputs.{IsInTime, IsReading, longest_input, most_reads}
use Rattle.vme_stream.proofs.InputLemmas.{IsReading-many_reads, in_time, IsReading-read_to_end, IsReading-more_than}
use Rattle.vme_stream.specs.InFaults.{InputFailsBy}
use Rattle.vme_stream.specs.declared.input.InFault.{InFault}
use Rattle.vme_stream.specs.declared.input.InFault.TheVariants as failed
use Rattle.vme_dump_input.specs.BufferedInputs.{FailsAs, InputSoFar, IsAllOf, IsGrown, IsReadOn, IsReadTo}
use Rattle.vme_dump_input.specs.BufferedInputs.{HasAllIfWhole, IsRoomFor, not_read}

module _ (old now : Reading) (done : List ℕ) (input : InputSoFar) (h : IsReadTo old now done input) where
  -- `IsReadTo` holds after the first `n` held bytes are taken
  pub IsReadTo-taken : (n : ℕ) → n ≤ length input.held
      → IsReadTo old now (done ++ take n input.held) (record input { held = drop n input.held })
  IsReadTo-taken n within =
      let same : (done ++ take n input.held) ++ drop n input.held ≡ done ++ input.held =
      append_assoc done (take n input.held) (drop n input.held)
      ∙ ap (λ l. done ++ l) (take-append-drop n input.held) in
      record {
        consumed = subst (Consumes old.left now.left) (sym same) h.consumed;
        read = ap (λ l. length l) same ∙ h.read;
        failures = h.failures;
        reads = h.reads;
        some = h.some;
        full = h.full;
        has_full = h.has_full;
        bounded = h.bounded;
        limits = h.limits;
        within = h.within;
        whole = subst (λ l. HasAllIfWhole input.is_whole old l input.read input.limit) (sym same) h.whole;
        in_time = h.in_time;
      }

  -- with fewer than `most_reads` reads the source was read in time
  IsInTime-few_reads : input.reads < most_reads → IsInTime old now
  IsInTime-few_reads less = record { failures = h.failures; reads = omega (arith, h.reads, less) }

  -- the bytes of an input that is read to its end, those that are gone and those that are held, are all of the source
  pub IsAllOf-whole : input.is_whole ≡ true → IsAllOf old now (done ++ input.held) input.limit
  IsAllOf-whole ends =
      let all = subst (λ (b : Bool). HasAllIfWhole b old (done ++ input.held) input.read input.limit) ends h.whole in
      ((IsInTime-few_reads (h.in_time ends), all.0), omega (arith, h.read, all.1))

  -- at most 65,537 reads are full, within the limit and one read more
  full_reads-at_most : (full room read limit : ℕ) → full * room ≤ read → read ≤ limit + room → IsRoomFor limit room
      → full ≤ 65537
  full_reads-at_most full room read limit most within may = by_order (cases_lt full 65538)
    where
      by_order : (full < 65538) ⊎ (65538 ≤ full) → full ≤ 65537
      by_order (inl less) = omega (arith, less)
      by_order (inr many) =
          absurd (omega (arith, mul-le 65538 room full room many (omega arith), most, within, may.few, may.some))

  -- after `most_reads` reads, reading is given up
  pub IsReading-given_up : input.reads ≡ most_reads → IsReading old now None
  IsReading-given_up many =
      let few = full_reads-at_most h.full input.room input.read input.limit h.has_full.enough h.within h.limits in
      IsReading-many_reads old now (done ++ input.held) h.consumed (omega (arith, h.read, h.some, many))
      (omega (arith, h.reads, many)) (omega (arith, h.has_full.counted, many, few)) h.failures

  -- an input of which more than the limit was read is too long
  pub IsReading-too_long : input.reads < most_reads → input.limit < input.read
      → (bytes : List ℕ) × (input.limit < length bytes) × IsReading old now (Some bytes)
  IsReading-too_long less long =
      IsReading-more_than old now (done ++ input.held) input.limit h.consumed (omega (arith, h.read, long))
      (IsInTime-few_reads less)

  -- an input of fewer than `most_reads` reads has some reading
  pub IsReading-few_reads : input.reads < most_reads → (bytes : Option (List ℕ)) × IsReading old now bytes
  IsReading-few_reads less = in_time old now (IsInTime-few_reads less)

  -- an input that isn't read on has some reading
  pub IsReading-some : (bytes : Option (List ℕ)) × IsReading old now bytes
  IsReading-some = by_reads (cases_lt input.reads most_reads)
    where
      by_reads : (input.reads < most_reads) ⊎ (most_reads ≤ input.reads)
          → (bytes : Option (List ℕ)) × IsReading old now bytes
      by_reads (inl less) = IsReading-few_reads less
      by_reads (inr many) = (None, IsReading-given_up (omega (arith, many, h.bounded)))

  module _ (later : Reading) where
    -- an input whose next read fails can't be read
    pub IsReading-failed : later.failures ≡ suc now.failures → IsReading old later None
    IsReading-failed failed = inl (failed ∙ ap (λ n. suc n) h.failures)

    -- an input can't be had for the fault of the next read
    pub FailsAs-fault : (limit : ℕ) (fault : InFault) → input.reads < most_reads → later.reads ≡ now.reads
        → InputFailsBy now later fault → FailsAs limit old later fault
    FailsAs-fault limit failed.Read less same fails = IsReading-failed fails
    FailsAs-fault limit failed.TooLong less same fails = absurd fails
    FailsAs-fault limit failed.Memory less same fails =
        in_time old later (record { failures = fails ∙ h.failures; reads = omega (arith, same, h.reads, less) })

    -- `IsReadTo` holds after a read that finds the end
    pub IsReadTo-end : Consumes now.left later.left [] → IsAtEnd later.left → later.failures ≡ now.failures
        → later.reads ≡ now.reads → later.short_reads ≡ now.short_reads → input.reads < most_reads
        → input.read ≤ input.limit → IsReadTo old later done (record input { is_whole = true })
    IsReadTo-end none ends same reads shorts less within =
        let bytes = done ++ input.held in
        let consumed : Consumes old.left later.left bytes =
        subst (Consumes old.left later.left) (append-nil bytes)
        (Consumes-trans old.left now.left later.left bytes [] h.consumed none) in
        let time : IsInTime old later = record {
          failures = same ∙ h.failures;
          reads = omega (arith, reads, h.reads, less);
        } in
        record {
          consumed = consumed;
          read = h.read;
          failures = same ∙ h.failures;
          reads = reads ∙ h.reads;
          some = h.some;
          full = h.full;
          has_full = record {
            counted = h.has_full.counted ∙ ap (λ n. n + h.full) (sym shorts);
            enough = h.has_full.enough;
          };
          bounded = h.bounded;
          limits = h.limits;
          within = h.within;
          whole = ((IsReading-read_to_end old later bytes consumed ends time).1, within);
          in_time = λ _. less;
        }

    module _ (more : List ℕ) (some : 0 < length more) (consumed : Consumes now.left later.left more)
        (same : later.failures ≡ now.failures) (reads : later.reads ≡ suc now.reads) (less : input.reads < most_reads)
        (going : input.is_whole ≡ false) where
      -- nothing is asked of an input that isn't whole
      HasAllIfWhole-not_whole : (flag : Bool) → flag ≡ false → (bytes : List ℕ) (read limit : ℕ)
          → HasAllIfWhole flag old bytes read limit
      HasAllIfWhole-not_whole true e bytes read limit = absurd (cc)
      HasAllIfWhole-not_whole false e bytes read limit = tt

      -- an input that isn't whole has no last read that has to be in time
      in_time-not_whole : (flag : Bool) → flag ≡ false → (n : ℕ) → flag ≡ true → n < most_reads
      in_time-not_whole true e n h = absurd (cc)
      in_time-not_whole false e n h = absurd (cc)

      -- `IsReadTo` holds after more bytes are read, where `full` of the reads so far were full
      IsReadTo-more : input.read + length more ≤ input.limit + input.room → (full : ℕ)
          → old.short_reads + (input.reads + 1) ≡ later.short_reads + full
          → full * input.room ≤ input.read + length more
          → IsReadTo old later done
          (record input { held = input.held ++ more; read = input.read + length more; reads = input.reads + 1 })
      IsReadTo-more within full counted enough =
          let same_bytes : (done ++ input.held) ++ more ≡ done ++ (input.held ++ more) =
          append_assoc done input.held more in
          record {
            consumed = subst (Consumes old.left later.left) same_bytes
                (Consumes-trans old.left now.left later.left (done ++ input.held) more h.consumed consumed);
            read = ap (λ l. length l) (sym same_bytes) ∙ length-append (done ++ input.held) more
                ∙ ap (λ n. n + length more) h.read;
            failures = same ∙ h.failures;
            reads = omega (arith, reads, h.reads);
            some = omega (arith, h.some, some);
            full = full;
            has_full = record { counted = counted; enough = enough };
            bounded = omega (arith, less);
            limits = h.limits;
            within = within;
            whole = HasAllIfWhole-not_whole input.is_whole going (done ++ (input.held ++ more))
                (input.read + length more) input.limit;
            in_time = in_time-not_whole input.is_whole going (input.reads + 1);
          }

      -- one full read more gives at least as many bytes more as it has room for
      full_reads-next : (full room read n : ℕ) → full * room ≤ read → room ≤ n → suc full * room ≤ read + n
      full_reads-next full room read n enough all = omega (arith, suc-mul full room, enough, all)

      -- `IsReadTo` holds after one more read that gave bytes, short or full
      pub IsReadTo-read_on : input.read + length more ≤ input.limit + input.room
          → (length more < input.room → later.short_reads ≡ suc now.short_reads)
          → (input.room ≤ length more → later.short_reads ≡ now.short_reads)
          → IsReadTo old later done
          (record input { held = input.held ++ more; read = input.read + length more; reads = input.reads + 1 })
      IsReadTo-read_on within short full = by_room (cases_lt (length more) input.room)
        where
          by_room : (length more < input.room) ⊎ (input.room ≤ length more)
              → IsReadTo old later done
              (record input { held = input.held ++ more; read = input.read + length more; reads = input.reads + 1 })
          by_room (inl less_room) =
              IsReadTo-more within h.full (omega (arith, h.has_full.counted, short less_room))
              (omega (arith, h.has_full.enough))
          by_room (inr all) =
              IsReadTo-more within (suc h.full) (omega (arith, h.has_full.counted, full all))
              (full_reads-next h.full input.room input.read (length more) h.has_full.enough all)

-- `IsReadTo` holds before the first read
IsReadTo-not_read : (here : Reading) (limit room : ℕ) → IsRoomFor limit room
    → IsReadTo here here [] (not_read limit room)
IsReadTo-not_read here limit room may = record {
  consumed = nothing here.left;
  read = refl;
  failures = refl;
  reads = omega arith;
  some = omega arith;
  full = 0;
  has_full = record { counted = refl; enough = omega arith };
  bounded = omega arith;
  limits = may;
  within = omega arith;
  whole = tt;
  in_time = λ ends. absurd (cc);
}
  where
    nothing : (told : Option (List ℕ)) → Consumes told told []
    nothing None = tt
    nothing (Some bytes) = refl

-- an input of which nothing was read is read to the start
pub IsReadTo-first : (here : Reading) (limit room : ℕ) (input : InputSoFar) → input ≡ not_read limit room
    → IsRoomFor limit room → IsReadTo here here [] input
IsReadTo-first here limit room input is may =
    subst (λ (i : InputSoFar). IsReadTo here here [] i) (sym is) (IsReadTo-not_read here limit room may)

-- the input of a dump of which nothing was read is read to the start
pub IsReadTo-dump : (here : Reading) (input : InputSoFar) → input ≡ not_read longest_input 65536
    → IsReadTo here here [] input
IsReadTo-dump here input is = IsReadTo-first here longest_input 65536 input is
    (record { some = omega arith; few = omega arith; small = omega arith })

-- two inputs with the same fields are equal
pub InputSoFar-same : (a b : InputSoFar) → a.held ≡ b.held → a.limit ≡ b.limit → a.room ≡ b.room → a.read ≡ b.read
    → a.reads ≡ b.reads → a.is_whole ≡ b.is_whole → a ≡ b
InputSoFar-same a b held limit room read reads whole =
    ap (λ (x : List ℕ). record a { held = x }) held
    ∙ (ap (λ (x : ℕ). record a { held = b.held; limit = x }) limit
    ∙ (ap (λ (x : ℕ). record a { held = b.held; limit = b.limit; room = x }) room
    ∙ (ap (λ (x : ℕ). record a { held = b.held; limit = b.limit; room = b.room; read = x }) read
    ∙ (ap (λ (x : ℕ). record a { held = b.held; limit = b.limit; room = b.room; read = b.read; reads = x }) reads
    ∙ ap (λ (x : Bool). record b { is_whole = x }) whole))))

-- one more read, by the fields of the input after it
module _ (old now later : Reading) (done : List ℕ) (before after : InputSoFar) (h : IsReadTo old now done before)
    (more : List ℕ) (count : ℕ) (long : length more ≡ count) (held : after.held ≡ before.held ++ more)
    (limit : after.limit ≡ before.limit) (room : after.room ≡ before.room) where
  -- `IsReadTo` holds after a read that gave bytes
  pub IsReadTo-some_bytes : 0 < count → after.read ≡ before.read + count → after.reads ≡ before.reads + 1
      → after.is_whole ≡ before.is_whole → Consumes now.left later.left more → later.failures ≡ now.failures
      → later.reads ≡ suc now.reads
      → (count < before.room → later.short_reads ≡ suc now.short_reads)
      → (before.room ≤ count → later.short_reads ≡ now.short_reads) → before.reads < most_reads
      → before.is_whole ≡ false → before.read + count ≤ before.limit + before.room → IsReadTo old later done after
  IsReadTo-some_bytes some read reads whole consumed same reads_are short full less going within =
      subst (IsReadTo old later done)
      (sym (InputSoFar-same after
      (record before { held = before.held ++ more; read = before.read + length more; reads = before.reads + 1 }) held
      limit room (read ∙ ap (λ n. before.read + n) (sym long)) reads whole))
      (IsReadTo-read_on old now done before h later more (omega (arith, some, long)) consumed same reads_are less going
      (omega (arith, long, within)) (λ l. short (omega (arith, l, long))) (λ l. full (omega (arith, l, long))))

  -- `IsReadTo` holds after a read that gave no bytes, which is the end
  pub IsReadTo-no_bytes : count ≡ 0 → after.read ≡ before.read → after.reads ≡ before.reads → after.is_whole ≡ true
      → Consumes now.left later.left more → IsAtEnd later.left → later.failures ≡ now.failures
      → later.reads ≡ now.reads → later.short_reads ≡ now.short_reads → before.reads < most_reads
      → before.read ≤ before.limit → IsReadTo old later done after
  IsReadTo-no_bytes none read reads whole consumed ends same reads_are shorts less within =
      let nothing : more ≡ [] = no-bytes more (long ∙ none) in
      subst (IsReadTo old later done)
      (sym (InputSoFar-same after (record before { is_whole = true })
      (held ∙ (ap (λ l. before.held ++ l) nothing ∙ append-nil before.held)) limit room read reads whole))
      (IsReadTo-end old now done before h later (subst (Consumes now.left later.left) nothing consumed) ends same
      reads_are
      shorts less within)
    where
      no-bytes : (l : List ℕ) → length l ≡ 0 → l ≡ []
      no-bytes [] e = refl
      no-bytes (x ∷ l) e = absurd (omega (arith, e))

-- ---- what is taken before each read

-- the bytes that are gone and those that are held stay the same text, as the first `n` held ones are taken and more are
-- read
pub append-taken_and_read : (first gone more held added next : List ℕ) (n : ℕ) → gone ++ held ≡ first ++ more
    → next ≡ drop n held ++ added → (gone ++ take n held) ++ next ≡ first ++ (more ++ added)
append-taken_and_read first gone more held added next n same is =
    ap (λ (l : List ℕ). (gone ++ take n held) ++ l) is
    ∙ append_assoc gone (take n held) (drop n held ++ added)
    ∙ ap (λ (l : List ℕ). gone ++ l) (sym (append_assoc (take n held) (drop n held) added)
    ∙ ap (λ (l : List ℕ). l ++ added) (take-append-drop n held))
    ∙ sym (append_assoc gone held added) ∙ ap (λ (l : List ℕ). l ++ added) same ∙ append_assoc first more added

-- ---- a prefix of what is held is taken

module _ (done held : List ℕ) (n : ℕ) where
  -- the text stays the same as the first `n` held bytes are taken
  pub append-taken : (future : List ℕ) → (done ++ take n held) ++ (drop n held ++ future) ≡ done ++ (held ++ future)
  append-taken future =
      append_assoc done (take n held) (drop n held ++ future)
      ∙ ap (λ l. done ++ l) (sym (append_assoc (take n held) (drop n held) future))
      ∙ ap (λ l. done ++ (l ++ future)) (take-append-drop n held)

-- ---- more is read, and nothing is taken

-- nothing more is read
pub IsReadOn-none : (input : InputSoFar) → IsReadOn input input
IsReadOn-none input = record {
  more = [];
  held = sym (append-nil input.held);
  follows = λ rest ends. ends;
}

-- an input that wasn't whole may be read on
pub IsReadOn-grown : (before here after : InputSoFar) → IsReadOn before here → here.is_whole ≡ false
    → IsGrown here after
    → IsReadOn before after
IsReadOn-grown before here after is_read_on going is_grown = record {
  more = is_read_on.more ++ is_grown.more;
  held = is_grown.held ∙ ap (λ (l : List ℕ). l ++ is_grown.more) is_read_on.held
      ∙ append_assoc before.held is_read_on.more is_grown.more;
  follows = λ rest ends whole.
      append_assoc is_read_on.more is_grown.more rest
      ∙ is_read_on.follows (is_grown.more ++ rest) (λ here_whole. absurd (both_ways here.is_whole going here_whole))
      whole;
}
