-- Which parts can be joined: they are of one backplane, all have marks or none has, and no two segments of the same
-- files differ.
use Rattle.std.specs.Prelude.{◌≡◌, ℕ, ◌*◌, ◌<◌, ◌≤◌, ◌^◌, ◌⊎◌, Bool, false, List, [], ◌∷◌, All, Contains, Some, drop}
use Rattle.std.specs.Prelude.{length, slice_get, sum_by, take}
use Rattle.vme_trace.specs.declared.block.Block.{Block}
use Rattle.vme_part_format.specs.Tables.{PartValue, SegmentValue, TableValue}
use Rattle.vme_part_tables.specs.Ways.{outcome_in}
use Rattle.vme_parts.specs.Files.{AllStand, IsPartOf}
use Rattle.vme_parts.specs.Gathering.{Gathered, segments_of}
use Rattle.vme_parts.specs.Progress.{HaveTooManySteps}
use Rattle.vme_parts.specs.declared.join_refusal.JoinRefusal.{JoinRefusal}
use Rattle.vme_parts.specs.declared.join_refusal.JoinRefusal.TheVariants as refusal

-- t and u have the same number of memories, and the runs from each memory end in the same memory and have the same
-- first break
pub record AreTablesAlike (t u : TableValue) : Type 0 where
  pub as_many : length u.entries ≡ length t.entries
  pub leaving : (memory : ℕ) → memory < length t.entries
      → (outcome_in t memory).leaving ≡ (outcome_in u memory).leaving
  pub first_break : (memory : ℕ) → memory < length t.entries → (outcome_in t memory).first_break
      ≡ (outcome_in u memory).first_break

-- two segments agree in all but the marks
pub record AreAlike (s t : SegmentValue) : Type 0 where
  pub steps : s.steps ≡ t.steps
  pub opening : s.opening ≡ t.opening
  pub left : s.left ≡ t.left
  pub times : s.times ≡ t.times
  pub known : AreTablesAlike s.known t.known
  pub handshake : AreTablesAlike s.handshake t.handshake
  pub stability : AreTablesAlike s.stability t.stability
  pub grant : AreTablesAlike s.grant t.grant
  pub acknowledge : AreTablesAlike s.acknowledge t.acknowledge

-- two segments are of the same files
abbrev pub HaveSameFiles : SegmentValue → SegmentValue → Type 0
HaveSameFiles s t = (s.first ≡ t.first) × (s.order ≡ t.order)

-- any two segments of the same files agree
abbrev pub AllAlike : List SegmentValue → Type 0
AllAlike ss = (s t : SegmentValue) → Contains ss s → Contains ss t → HaveSameFiles s t → AreAlike s t

-- two segments of the same files, from `number` on, differ
pub record SegmentsDifferAt (ss : List SegmentValue) (number : ℕ) : Type 0 where
  pub one : SegmentValue
  pub other : SegmentValue
  pub one_there : Contains ss one
  pub other_there : Contains ss other
  pub numbered : one.first ≡ number
  pub same_files : HaveSameFiles one other
  pub differ : AreAlike one other → ⊥

-- the part p is of `backplane`, and has marks if `listing` is `true`, else none
abbrev pub IsLike : ℕ → Bool → PartValue → Type 0
IsLike backplane listing p = (p.backplane ≡ backplane) × (p.listing ≡ listing)

-- the sum of the backplane of the first part
abbrev pub first_backplane : List PartValue → ℕ
first_backplane [] = 0
first_backplane (p ∷ ps) = p.backplane

-- whether the first part has marks
abbrev pub first_listing : List PartValue → Bool
first_listing [] = false
first_listing (p ∷ ps) = p.listing

-- the parts ps have r's backplane, have marks exactly if r has, and no two of their segments of the same files differ
pub record MakeOne (ps : List PartValue) (r : PartValue) : Type 0 where
  pub like : All (IsLike r.backplane r.listing) ps
  pub alike : AllAlike (segments_of ps)

-- the parts before `place` are of `backplane` and `listing`, and `Is` holds of the part at `place`
abbrev pub HasUnlikeAt : ℕ → Bool → List PartValue → ℕ → (PartValue → Type 0) → Type 0
HasUnlikeAt backplane listing ps place Is =
    (p : PartValue) × (slice_get ps place ≡ Some p) × All (IsLike backplane listing) (take place ps) × Is p

-- some of the files follow one another, and have more steps than 64 bits count
abbrev pub SomeHaveTooManySteps : List Block → Type 0
SomeHaveTooManySteps files = (n k : ℕ) × HaveTooManySteps (take k (drop n files))

-- whichever files the segments stand for, some of these have too many steps
abbrev pub AreTooLong : List SegmentValue → Type 0
AreTooLong ss = (listing : Bool) (files : List Block) → AllStand listing files ss → SomeHaveTooManySteps files

-- how many nodes the tables of `Known` have, in all of the segments together
abbrev pub known_nodes : List SegmentValue → ℕ
known_nodes ss = sum_by (λ (s : SegmentValue). length s.known.nodes) ss

-- how many nodes the tables of `Dtb` have, in all of the segments together
abbrev pub handshake_nodes : List SegmentValue → ℕ
handshake_nodes ss = sum_by (λ (s : SegmentValue). length s.handshake.nodes) ss

-- how many nodes the tables of `Stability` have, in all of the segments together
abbrev pub stability_nodes : List SegmentValue → ℕ
stability_nodes ss = sum_by (λ (s : SegmentValue). length s.stability.nodes) ss

-- how many nodes the tables of `Grant` have, in all of the segments together
abbrev pub grant_nodes : List SegmentValue → ℕ
grant_nodes ss = sum_by (λ (s : SegmentValue). length s.grant.nodes) ss

-- how many nodes the tables of `Iack` have, in all of the segments together
abbrev pub acknowledge_nodes : List SegmentValue → ℕ
acknowledge_nodes ss = sum_by (λ (s : SegmentValue). length s.acknowledge.nodes) ss

-- the tables of one monitor have more than two nodes for each of its memories, in all of the segments together
abbrev pub HaveManyNodes : List SegmentValue → Type 0
HaveManyNodes ss =
    (2 * 4 < known_nodes ss) ⊎ ((2 * 147 < handshake_nodes ss) ⊎ ((2 * 13 < stability_nodes ss)
    ⊎ ((2 * 35 < grant_nodes ss) ⊎ (2 * 11 < acknowledge_nodes ss))))

-- more segments than 32 bits count were gathered from those of the parts
abbrev pub HaveManySegments : List PartValue → Type 0
HaveManySegments ps = (ss : List SegmentValue) × Gathered (segments_of ps) ss × (2 ^ 32 ≤ length ss)

-- when a refusal of the parts ps is true, where `backplane` and `listing` are those of the first
abbrev pub AreRefusedBy : ℕ → Bool → List PartValue → JoinRefusal → Type 0
AreRefusedBy backplane listing ps refusal.Memory = Unit {0}
AreRefusedBy backplane listing ps (refusal.Backplane place) =
    HasUnlikeAt backplane listing ps place (λ p. p.backplane ≡ backplane → ⊥)
AreRefusedBy backplane listing ps (refusal.Marks place) =
    HasUnlikeAt backplane listing ps place (λ p. (p.backplane ≡ backplane) × (p.listing ≡ listing → ⊥))
AreRefusedBy backplane listing ps (refusal.Differs number) = SegmentsDifferAt (segments_of ps) number
AreRefusedBy backplane listing ps refusal.TooManySteps =
    (files : List Block) → All (IsPartOf files) ps → SomeHaveTooManySteps files
AreRefusedBy backplane listing ps refusal.TooManyNodes = HaveManyNodes (segments_of ps)
AreRefusedBy backplane listing ps refusal.TooManySegments = HaveManySegments ps

-- when a refusal of the parts ps is true
abbrev pub AreRefused : List PartValue → JoinRefusal → Type 0
AreRefused ps why = AreRefusedBy (first_backplane ps) (first_listing ps) ps why

-- a refusal for which two segments aren't joined: for want of memory; for too many steps, and then `Steps` holds; or
-- for too many nodes, and then `Nodes` holds
abbrev pub IsSegmentRefusal : Type 0 → Type 0 → JoinRefusal → Type 0
IsSegmentRefusal Steps Nodes refusal.Memory = Unit {0}
IsSegmentRefusal Steps Nodes (refusal.Backplane place) = ⊥
IsSegmentRefusal Steps Nodes (refusal.Marks place) = ⊥
IsSegmentRefusal Steps Nodes (refusal.Differs number) = ⊥
IsSegmentRefusal Steps Nodes refusal.TooManySteps = Steps
IsSegmentRefusal Steps Nodes refusal.TooManyNodes = Nodes
IsSegmentRefusal Steps Nodes refusal.TooManySegments = ⊥
