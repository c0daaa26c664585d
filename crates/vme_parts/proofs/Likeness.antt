-- Parts of one backplane, all with marks or all without, and why parts can't be joined.
use Rattle.std.proofs.Common.{◌≡◌, ℕ, ◌+◌, ◌<◌, ◌≤◌, Bool, List, length, map, get_or, take, ap, sym, subst, ◌∙◌, arith}
use Rattle.std.proofs.Common.{Some}
use Rattle.std.specs.Prelude.{All}
use Rattle.std.specs.Option.{option_map}
use Rattle.std.proofs.lemmas.List.{get_or-map, length-map}
use Rattle.std.proofs.lemmas.Option.{slice_get-get_or, slice_get-map}
use Rattle.vme_part_format.specs.Tables.{PartValue, part_value}
use Rattle.vme_part_format.specs.declared.part.Part.{Part}
use Rattle.vme_trace.specs.declared.block.Block.{Block}
use Rattle.vme_parts.specs.Alike.{AreRefused, HasUnlikeAt, IsLike, IsSegmentRefusal}
use Rattle.vme_parts.specs.Alike.{HaveManyNodes, SegmentsDifferAt, SomeHaveTooManySteps}
use Rattle.vme_parts.specs.Files.{IsPartOf}
use Rattle.vme_parts.specs.Gathering.{segments_of}
use Rattle.vme_parts.specs.declared.join_refusal.JoinRefusal.{JoinRefusal}
use Rattle.vme_parts.specs.declared.join_refusal.JoinRefusal.TheVariants as refusal
use Rattle.vme_parts.proofs.Measures.{All-take_next, All-take_all}

-- of the parts xs, the first i have been compared with `backplane` and `listing`
module _ (backplane : ℕ) (listing : Bool) (xs : List Part) (i : ℕ) where
  -- if the first i parts are alike, and the part x with the index i is like them, the first i + 1 are alike
  pub IsLike-take_next : (x : Part) → i < length xs → x ≡ get_or xs i x → x.backplane ≡ backplane → x.listing ≡ listing
      → All (IsLike backplane listing) (take i (map part_value xs))
      → All (IsLike backplane listing) (take (i + 1) (map part_value xs))
  IsLike-take_next x h is p q was =
      All-take_next (IsLike backplane listing) (map part_value xs) i (part_value x)
      (omega (arith, h, length-map xs part_value))
      (ap part_value is ∙ sym (get_or-map part_value xs i x (part_value x) h)) (p, q) was

  -- if as many parts are alike as there are, all are
  pub IsLike-take_all : length xs ≤ i → All (IsLike backplane listing) (take i (map part_value xs))
      → All (IsLike backplane listing) (map part_value xs)
  IsLike-take_all h was =
      All-take_all (IsLike backplane listing) (map part_value xs) i (omega (arith, h, length-map xs part_value)) was

  -- if the first i parts are alike, and `Is` holds of the part x with the index i, then `HasUnlikeAt` holds
  pub HasUnlikeAt-next : (Is : PartValue → Type 0) (x : Part) → i < length xs → x ≡ get_or xs i x
      → All (IsLike backplane listing) (take i (map part_value xs)) → Is (part_value x)
      → HasUnlikeAt backplane listing (map part_value xs) i Is
  HasUnlikeAt-next Is x h is was one = (
    part_value x,
    slice_get-map part_value xs i ∙ ap (option_map part_value) (slice_get-get_or xs i x h ∙ ap Some (sym is)),
    was,
    one,
  )

-- ---- why parts can't be joined

-- a refusal of parts for a difference is true if two of their segments of the same files differ
pub AreRefused-differs : (ps : List PartValue) (why : JoinRefusal) (number : ℕ) → why ≡ refusal.Differs number
    → SegmentsDifferAt (segments_of ps) number → AreRefused ps why
AreRefused-differs ps why number e h = subst (AreRefused ps) (sym e) h

-- two segments may be refused for too many nodes if there are too many
pub IsSegmentRefusal-many_nodes : (P R : Type 0) (why : JoinRefusal) → why ≡ refusal.TooManyNodes → R
    → IsSegmentRefusal P R why
IsSegmentRefusal-many_nodes P R why e h = subst (IsSegmentRefusal P R) (sym e) h

-- a refusal of two segments stays one if `Q` follows from `P`, and `S` from `R`
pub IsSegmentRefusal-map : (P Q R S : Type 0) (why : JoinRefusal) → (P → Q) → (R → S) → IsSegmentRefusal P R why
    → IsSegmentRefusal Q S why
IsSegmentRefusal-map P Q R S refusal.Memory f g h = tt
IsSegmentRefusal-map P Q R S (refusal.Backplane place) f g h = absurd h
IsSegmentRefusal-map P Q R S (refusal.Marks place) f g h = absurd h
IsSegmentRefusal-map P Q R S (refusal.Differs number) f g h = absurd h
IsSegmentRefusal-map P Q R S refusal.TooManySteps f g h = f h
IsSegmentRefusal-map P Q R S refusal.TooManyNodes f g h = g h
IsSegmentRefusal-map P Q R S refusal.TooManySegments f g h = absurd h

-- a refusal of two segments is a true one of the parts, if some of the parts' files have too many steps where it is for
-- steps, and their segments have too many nodes where it is for nodes
pub AreRefused-by_segments : (ps : List PartValue) (why : JoinRefusal)
    → IsSegmentRefusal ((files : List Block) → All (IsPartOf files) ps → SomeHaveTooManySteps files)
    (HaveManyNodes (segments_of ps)) why
    → AreRefused ps why
AreRefused-by_segments ps refusal.Memory h = tt
AreRefused-by_segments ps (refusal.Backplane place) h = absurd h
AreRefused-by_segments ps (refusal.Marks place) h = absurd h
AreRefused-by_segments ps (refusal.Differs number) h = absurd h
AreRefused-by_segments ps refusal.TooManySteps h = h
AreRefused-by_segments ps refusal.TooManyNodes h = h
AreRefused-by_segments ps refusal.TooManySegments h = absurd h
