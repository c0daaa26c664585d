-- What is read of a source in pieces: all of its bytes, more than a limit, or too many short reads, for which reading
-- is given up.
use Rattle.std.proofs.Common.{◌≡◌, ◌≤◌, ◌<◌, ◌+◌, ◌*◌, ℕ, suc, List, [], ◌++◌, length, take, drop, Option, Some, None}
use Rattle.std.proofs.Common.{IfSome, refl, sym, ap, subst, ◌∙◌, append-nil, length-append, length-take-le, arith}
use Rattle.std.proofs.Common.{◌⊎◌, inl, inr}
use Rattle.std.proofs.lemmas.Bool.{cases_lt}
use Rattle.std.proofs.Math.Seq.{take-add}
use Rattle.std.specs.Io.KnownBytes.{Consumes, IsAtEnd}
use Rattle.std.proofs.KnownBytes.{Consumes-trans}
use Rattle.vme_stream.specs.Inputs.{IsInTime, IsReading, fewest_short_reads, least_room, longest_input, most_full_reads}
use Rattle.vme_stream.specs.Inputs.{most_reads}
use Rattle.vme_trace.specs.Streams.{Reading}

-- the first `f` bytes of a list were read, and then the next `n`: together the first `f + n`
pub Consumes-grown : (a b c : Option (List ℕ)) (xs ys : List ℕ) (f n : ℕ) → take f ys ≡ take f xs
    → Consumes a b (take f xs) → Consumes b c (take n (drop f ys)) → Consumes a c (take (f + n) ys)
Consumes-grown a b c xs ys f n front before read =
    let all : take (f + n) ys ≡ take f xs ++ take n (drop f ys) = take-add f n ys ∙ ap (λ l. l ++ take n (drop f ys))
    front in
    subst (Consumes a c) (sym all) (Consumes-trans a b c _ _ before read)

-- where the bytes of a source are known, those that were read up to its end are all of them
told-at_end : (a b : Option (List ℕ)) (bs : List ℕ) → Consumes a b bs → IsAtEnd b → IfSome a (λ t. bs ≡ t)
told-at_end None b bs read end = tt
told-at_end (Some x) None bs read end = absurd read
told-at_end (Some x) (Some y) bs read end = sym (read ∙ ap (λ l. bs ++ l) end ∙ append-nil bs)

-- the bytes that were read up to the end are those of the source
pub IsReading-read_to_end : (old new : Reading) (bs : List ℕ) → Consumes old.left new.left bs → IsAtEnd new.left
    → IsInTime old new
    → IsReading old new (Some bs)
IsReading-read_to_end old new bs read end time = (time, told-at_end old.left new.left bs read end)

-- a list is longer than k if a first part of it is
lt-length_whole : (x y bs : List ℕ) (k : ℕ) → x ≡ bs ++ y → k < length bs → k < length x
lt-length_whole x y bs k read long = omega (arith, ap length read, length-append bs y)

-- where more than k bytes of a source were read, it has more than k
told-more_than : (a b : Option (List ℕ)) (bs : List ℕ) (k : ℕ) → Consumes a b bs → k < length bs
    → (bytes : List ℕ) × (k < length bytes) × IfSome a (λ t. bytes ≡ t)
told-more_than None b bs k read long = (bs, long, tt)
told-more_than (Some x) None bs k read long = absurd read
told-more_than (Some x) (Some y) bs k read long = (x, lt-length_whole x y bs k read long, refl)

-- if more than `k` bytes were read, the source has more than `k` bytes
pub IsReading-more_than : (old new : Reading) (bs : List ℕ) (k : ℕ) → Consumes old.left new.left bs → k < length bs
    → IsInTime old new
    → (bytes : List ℕ) × (k < length bytes) × IsReading old new (Some bytes)
IsReading-more_than old new bs k read long time =
    let (bytes, many, told) = told-more_than old.left new.left bs k read long in
    (bytes, many, (time, told))

-- the first f elements are more than k, if f is and there are as many
pub lt-length_take : (ys : List ℕ) (k f : ℕ) → f ≤ length ys → k < f → k < length (take f ys)
lt-length_take ys k f fits more = rw (length-take-le f ys fits) more

-- a list has at least k elements if a first part of it has
le-length_whole : (x y bs : List ℕ) (k : ℕ) → x ≡ bs ++ y → k ≤ length bs → k ≤ length x
le-length_whole x y bs k read long = omega (arith, ap length read, length-append bs y)

-- where the bytes of a source are known, they are at least as many as were read of it
told-at_least : (a b : Option (List ℕ)) (bs : List ℕ) (k : ℕ) → Consumes a b bs → k ≤ length bs
    → IfSome a (λ t. k ≤ length t)
told-at_least None b bs k read long = tt
told-at_least (Some x) None bs k read long = absurd read
told-at_least (Some x) (Some y) bs k read long = le-length_whole x y bs k read long

-- `reads` reads gave `bytes` bytes: each full one gave at least 4,096, and at most `most_full_reads` were full
pub record IsRoomy (old now : Reading) (reads bytes : ℕ) : Type 0 where
  pub rooms : 4096 * (old.short_reads + reads) ≤ 4096 * now.short_reads + bytes
  pub few : old.short_reads + reads ≤ now.short_reads + most_full_reads

-- `IsRoomy` still holds after one more read, which gave `n` bytes, short or full, where there were at most
-- `longest_input` bytes before it
IsRoomy-read : (old now later : Reading) (reads bytes n room : ℕ) → IsRoomy old now reads bytes → bytes ≤ longest_input
    → least_room ≤ room → (n < room → later.short_reads ≡ suc now.short_reads)
    → (room ≤ n → later.short_reads ≡ now.short_reads) → (n < room) ⊎ (room ≤ n)
    → IsRoomy old later (reads + 1) (bytes + n)
IsRoomy-read old now later reads bytes n room is limit enough short full (inl less) = record {
  rooms = omega (arith, is.rooms, short less);
  few = omega (arith, is.few, short less);
}
IsRoomy-read old now later reads bytes n room is limit enough short full (inr all) = record {
  rooms = omega (arith, is.rooms, full all, all, enough);
  few = omega (arith, is.rooms, full all, limit);
}

-- `IsRoomy` still holds after one more read, which gave bytes, with room enough, where there weren't too many before
pub IsRoomy-read_some : (old now later : Reading) (reads bytes n room : ℕ) → IsRoomy old now reads bytes
    → bytes ≤ longest_input
    → 0 < n → least_room ≤ room
    → (n ≡ 0 → later.short_reads ≡ now.short_reads)
    × (0 < n → n < room → later.short_reads ≡ suc now.short_reads)
    × (room ≤ n → later.short_reads ≡ now.short_reads)
    → IsRoomy old later (reads + 1) (bytes + n)
IsRoomy-read_some old now later reads bytes n room is limit some enough counts =
    let (none, short, full) = counts in
    IsRoomy-read old now later reads bytes n room is limit enough (short some) full (cases_lt n room)

-- at least `most_reads` bytes were read by `most_reads` reads, at least `fewest_short_reads` of them short: reading is
-- given up
pub IsReading-many_reads : (old new : Reading) (bytes : List ℕ) → Consumes old.left new.left bytes
    → most_reads ≤ length bytes
    → new.reads ≡ old.reads + most_reads → old.short_reads + fewest_short_reads ≤ new.short_reads
    → new.failures ≡ old.failures → IsReading old new None
IsReading-many_reads old new bytes read long reads short failures =
    inr (record {
      failures = failures;
      reads = reads;
      short_reads = short;
      told = told-at_least old.left new.left bytes most_reads read long;
    })

-- a number is less than itself plus `most_reads`
lt-plus_most_reads : (n : ℕ) → n < n + most_reads
lt-plus_most_reads n = omega arith

-- there are bytes that are those of the source, if these are known
told-some : (told : Option (List ℕ)) → (bytes : List ℕ) × IfSome told (λ t. bytes ≡ t)
told-some None = ([], tt)
told-some (Some x) = (x, refl)

-- a source that was read in time, without a failure, has some reading
pub in_time : (old new : Reading) → IsInTime old new → (bytes : Option (List ℕ)) × IsReading old new bytes
in_time old new time =
    let (bytes, told) = told-some old.left in
    (Some bytes, (time, told))

-- a source that isn't read at all has some reading
pub IsReading-unread : (here : Reading) → (bytes : Option (List ℕ)) × IsReading here here bytes
IsReading-unread here = in_time here here (record { failures = refl; reads = lt-plus_most_reads here.reads })
