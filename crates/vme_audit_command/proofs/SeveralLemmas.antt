-- Several dumps, one after the other: their status, their error lines, and what is written of them.
use Rattle.std.proofs.Common.{◌≡◌, ◌⊎◌, ℕ, ◌+◌, ◌<◌, ◌≤◌, Bool, true, false, ◌||◌, if◌then◌else◌, nat_eq, List, [], ◌∷◌}
use Rattle.std.proofs.Common.{◌++◌, flat_map, length, get_or, set, take, drop, map, inl, inr}
use Rattle.std.proofs.Common.{refl, sym, ap, subst, ◌∙◌, add-zero, append-nil, append_assoc, take-append-drop}
use Rattle.std.specs.List.{list_any}
use Rattle.std.proofs.lemmas.Bool.{eq-eqb, eqb-false}
use Rattle.std.proofs.lemmas.Grind.{flat_map-append}
use Rattle.std.proofs.lemmas.List.{get_or-drop, map-append, take_all, take_more, take_more_set}
use Rattle.std.proofs.lemmas.List.Folds.{list_any-append}
use Rattle.std.proofs.lemmas.Simd.{map-map}
use Rattle.vme_trace.specs.Streams.{Reading, Writing}
use Rattle.vme_trace.proofs.ListLaws.{AllZip-push}
use Rattle.vme_bind.specs.Binding.{BoundLines}
use Rattle.vme_bind.proofs.PathSearchLemmas.{drop-set_same_rest}
use Rattle.vme_stream.specs.Outputs.{TriesToWrite, Writes}
use Rattle.vme_stream.proofs.OutputLemmas.{FailsToWrite-after, Writes-append, Writes-nothing}
use Rattle.vme_audit_command.specs.DumpAnswers.{AuditOptions}
use Rattle.vme_audit_command.specs.DumpEnds.{CannotWriteDump, WritesDump}
use Rattle.vme_audit_command.specs.SeveralDumps.{AuditsDumps, CannotWriteDumps, DumpEnd, MayEnd, NamedReading}
use Rattle.vme_audit_command.specs.SeveralDumps.{TriesEach, WritesDumps, audit_status, cannot_write_line}
use Rattle.vme_audit_command.specs.SeveralDumps.{first_occurred}

-- ---- the status

-- `s` isn't the first of `statuses` that occurred, whichever occurred
abbrev IsNoneOf : ℕ → List ℕ → Type 0
IsNoneOf s statuses = (occurred : List ℕ) → nat_eq (first_occurred statuses occurred) s ≡ false

-- without statuses the first that occurred is 0, which isn't `s`
IsNoneOf-empty : (s : ℕ) → nat_eq 0 s ≡ false → IsNoneOf s []
IsNoneOf-empty s other occurred = other

-- if `s` isn't `t`, nor the first of `statuses` that occurred, it isn't the first of `t` and these
IsNoneOf-cons : (s t : ℕ) (statuses : List ℕ) → nat_eq t s ≡ false → IsNoneOf s statuses → IsNoneOf s (t ∷ statuses)
IsNoneOf-cons s t statuses other none occurred = by_test (list_any (λ n. nat_eq n t) occurred)
  where
    -- by whether `t` occurred
    by_test : (b : Bool) → nat_eq (if b then t else first_occurred statuses occurred) s ≡ false
    by_test true = other
    by_test false = none occurred

-- the first of `statuses` that occurred in a list and one more is the first of them that occurred in two: the first one
-- of the list, and the last one
abbrev IsFirst : List ℕ → Type 0
IsFirst statuses = (occurred : List ℕ) (last : ℕ)
    → first_occurred statuses (occurred ++ last ∷ [])
    ≡ first_occurred statuses (first_occurred statuses occurred ∷ last ∷ [])

-- if `s` isn't the first of `statuses` that occurred, and the statuses have `IsFirst`, so have `s` and they
IsFirst-cons : (s : ℕ) (statuses : List ℕ) → IsNoneOf s statuses → IsFirst statuses → IsFirst (s ∷ statuses)
IsFirst-cons s statuses none first occurred last =
    ap (λ (b : Bool). if b then s else first_occurred statuses (occurred ++ last ∷ []))
    (list_any-append (λ n. nat_eq n s) occurred (last ∷ []))
    ∙ by_test (list_any (λ n. nat_eq n s) occurred) (nat_eq last s)
  where
    -- the first of `statuses` that occurred
    first_other : ℕ
    first_other = first_occurred statuses occurred

    -- the first of `s` and `statuses` that occurred in f and `last`, if b says whether `last` is `s`
    first_of_two : Bool → ℕ → ℕ
    first_of_two b f = if nat_eq f s || (b || false) then s else first_occurred statuses (f ∷ last ∷ [])

    -- by whether `s` occurred, and whether it is `last`
    by_test : (a b : Bool) → (if a || (b || false) then s else first_occurred statuses (occurred ++ last ∷ []))
        ≡ first_of_two b (if a then s else first_other)
    by_test true b = ap (λ (e : Bool). if e || (b || false) then s else first_occurred statuses (s ∷ last ∷ []))
        (sym (eq-eqb s s refl))
    by_test false true = ap (λ (e : Bool). if e || true then s else first_occurred statuses (first_other ∷ last ∷ []))
        (sym (none occurred))
    by_test false false = first occurred last
        ∙ ap (λ (e : Bool). if e || false then s else first_occurred statuses (first_other ∷ last ∷ []))
        (sym (none occurred))

-- the status after one more dump is that of the status so far and the one of this dump
pub audit_status-push : (occurred : List ℕ) (last : ℕ)
    → audit_status (occurred ++ last ∷ []) ≡ audit_status (audit_status occurred ∷ last ∷ [])
audit_status-push =
    let n0 : (s : ℕ) → nat_eq 0 s ≡ false → IsNoneOf s [] = IsNoneOf-empty in
    let l6 = 6 ∷ [] in
    let l2 = 2 ∷ l6 in
    let l1 = 1 ∷ l2 in
    let l3 = 3 ∷ l1 in
    let l4 = 4 ∷ l3 in
    IsFirst-cons 5 l4 (IsNoneOf-cons 5 4 l3 refl (IsNoneOf-cons 5 3 l1 refl (IsNoneOf-cons 5 1 l2 refl
    (IsNoneOf-cons 5 2 l6 refl (IsNoneOf-cons 5 6 [] refl (n0 5 refl))))))
    (IsFirst-cons 4 l3 (IsNoneOf-cons 4 3 l1 refl (IsNoneOf-cons 4 1 l2 refl (IsNoneOf-cons 4 2 l6 refl
    (IsNoneOf-cons 4 6 [] refl (n0 4 refl)))))
    (IsFirst-cons 3 l1 (IsNoneOf-cons 3 1 l2 refl (IsNoneOf-cons 3 2 l6 refl
    (IsNoneOf-cons 3 6 [] refl (n0 3 refl))))
    (IsFirst-cons 1 l2 (IsNoneOf-cons 1 2 l6 refl (IsNoneOf-cons 1 6 [] refl (n0 1 refl)))
    (IsFirst-cons 2 l6 (IsNoneOf-cons 2 6 [] refl (n0 2 refl))
    (IsFirst-cons 6 [] (n0 6 refl) (λ occurred last. refl))))))

-- ---- standard error

-- if each of some lines was tried, and then each of others, each of all of them was
pub TriesEach-append : (a b c : Writing) (xs ys : List (List ℕ)) → TriesEach a b xs → TriesEach b c ys
    → TriesEach a c (xs ++ ys)
TriesEach-append a b c [] ys none two = subst (λ (w : Writing). TriesEach w c ys) none two
TriesEach-append a b c (x ∷ xs) ys one two =
    let (next, first, others) = one in
    (next, first, TriesEach-append next b c xs ys others two)

-- if a line was tried, each of the list of that line was
pub TriesEach-one : (a b : Writing) (x : List ℕ) → TriesToWrite a b x → TriesEach a b (x ∷ [])
TriesEach-one a b x one = (b, one, refl)

-- ---- each dump

-- what f gives for a list, and then for x, is what it gives for the list and x
flat_map-push : {X A : Type 0} (f : X → List A) (xs : List X) (x : X) → flat_map f xs ++ f x ≡ flat_map f (xs ++ x ∷ [])
flat_map-push f xs x = ap (λ l. flat_map f xs ++ l) (sym (append-nil (f x))) ∙ sym (flat_map-append f xs (x ∷ []))

-- a number that the test finds not to be 5 isn't 5
pub not-five : (n : ℕ) → nat_eq n 5 ≡ false → n ≡ 5 → ⊥
not-five n other = eqb-false n 5 other

-- the source of a dump d whose name and source are `f d`
abbrev source_by : {A : Type 0} → (A → NamedReading) → A → Reading
source_by f d = (f d).dump

module _ (options : AuditOptions) (bound : BoundLines) where
  -- before the first dump nothing was written, and the status is 0
  pub WritesDumps-none : (out err : Writing) → WritesDumps options bound [] [] (out, out) (err, err) 0
  WritesDumps-none out err = record {
    ends = [];
    each = tt;
    afters_are = refl;
    out_is = Writes-nothing out;
    err_is = refl;
    status_is = refl;
  }

  -- `dumps` were audited, with status `so_far`, and `named` comes next. The output goes from a to b before it, and from
  -- b to c with it; standard error from e to p, and from p to h.
  module _ (dumps : List NamedReading) (afters : List Reading) (named : NamedReading) (after : Reading)
      (a b c e p h : Writing) (so_far ended : ℕ)
      (before : WritesDumps options bound dumps afters (a, b) (e, p) so_far) where
    -- `named` was audited too, with status `ended`
    WritesDumps-push : WritesDump options bound named after (b, c) (p, h) ended
        → WritesDumps options bound (dumps ++ named ∷ []) (afters ++ after ∷ []) (a, c) (e, h)
        (audit_status (so_far ∷ ended ∷ []))
    WritesDumps-push one = record {
      ends = before.ends ++ one.end ∷ [];
      each = AllZip-push (MayEnd options bound) dumps before.ends named one.end before.each one.may;
      afters_are = ap (λ (l : List Reading). l ++ after ∷ []) before.afters_are
          ∙ ap (λ (r : Reading). map (λ (x : DumpEnd). x.after) before.ends ++ r ∷ []) (sym one.after_is)
          ∙ sym (map-append (λ (x : DumpEnd). x.after) before.ends (one.end ∷ []));
      out_is = subst (Writes a c) (flat_map-push (λ (x : DumpEnd). x.out) before.ends one.end)
          (Writes-append a b c _ one.end.out before.out_is one.out_is);
      err_is = subst (TriesEach e h) (flat_map-push (λ (x : DumpEnd). x.errors) before.ends one.end)
          (TriesEach-append e p h _ one.end.errors before.err_is one.err_is);
      status_is = ap (λ (n : ℕ). audit_status (n ∷ ended ∷ [])) before.status_is
          ∙ ap (λ (n : ℕ). audit_status (audit_status (map (λ (x : DumpEnd). x.status) before.ends) ∷ n ∷ []))
          one.status_is
          ∙ sym (audit_status-push (map (λ (x : DumpEnd). x.status) before.ends) one.end.status)
          ∙ ap audit_status (sym (map-append (λ (x : DumpEnd). x.status) before.ends (one.end ∷ [])));
    }

    -- a dump whose text can't be written
    CannotWriteDumps-after : (others : List NamedReading)
        → CannotWriteDump options bound named after (b, c) (p, h) ended
        → CannotWriteDumps options bound (dumps ++ named ∷ others)
        (afters ++ after ∷ map (λ (n : NamedReading). n.dump) others) (a, c) (e, h) 5
    CannotWriteDumps-after others one = record {
      before = dumps;
      named = named;
      others = others;
      split = refl;
      ends = before.ends;
      each = before.each;
      after = after;
      none_fails = one.none_fails;
      afters_are = ap (λ (l : List Reading). l ++ after ∷ map (λ (n : NamedReading). n.dump) others) before.afters_are;
      bytes = one.bytes;
      all = one.all;
      out_is = FailsToWrite-after a b c _ _ before.out_is one.out_is;
      err_is = TriesEach-append e p h _ (cannot_write_line ∷ []) before.err_is
          (TriesEach-one p h cannot_write_line one.err_is);
      status_is = refl;
    }

  -- the dumps before index `i` were audited, and `now` are the dumps then; the dump at `i` is x, and y after its audit
  module _ {A : Type 0} (f : A → NamedReading) (now dumps : List A) (i : ℕ) (x y : A) (within : i < length now)
      (same : length now ≡ length dumps) (is : x ≡ get_or now i x) (rest : drop i now ≡ drop i dumps) where
    -- the dump at index i is still the one of the dumps at first
    get_or-not_yet_audited : x ≡ get_or dumps i x
    get_or-not_yet_audited =
        is ∙ ap (λ (n : ℕ). get_or now n x) (sym (add-zero i)) ∙ sym (get_or-drop i now 0 x)
        ∙ ap (λ (l : List A). get_or l 0 x) rest ∙ get_or-drop i dumps 0 x
        ∙ ap (λ (n : ℕ). get_or dumps n x) (add-zero i)

    -- the dumps before index i and x are the dumps up to index i
    map-next_dump : map f (take i dumps) ++ f x ∷ [] ≡ map f (take (i + 1) dumps)
    map-next_dump =
        sym (map-append f (take i dumps) (x ∷ []))
        ∙ ap (map f) (ap (λ (d : A). take i dumps ++ d ∷ []) get_or-not_yet_audited
        ∙ sym (take_more dumps i x (subst (λ (n : ℕ). i < n) same within)))

    -- the sources of the dumps up to index `i`, if the dump there is then `y`
    sources-with_next : map (source_by f) (take i now) ++ source_by f y ∷ []
        ≡ map (source_by f) (take (i + 1) (set now i y))
    sources-with_next =
        sym (map-append (source_by f) (take i now) (y ∷ []))
        ∙ ap (map (source_by f)) (sym (take_more_set now i y within))

    -- the sources of all dumps, if the dump at index `i` is then `y`, and those after it are as at first
    sources-with_others : map (source_by f) (take i now)
        ++ source_by f y ∷ map (λ (n : NamedReading). n.dump) (map f (drop (i + 1) dumps))
        ≡ map (source_by f) (set now i y)
    sources-with_others =
        let later = drop (i + 1) dumps in
        let stepped = set now i y in
        ap (λ (l : List Reading). map (source_by f) (take i now) ++ source_by f y ∷ l)
        (map-map (λ (n : NamedReading). n.dump) f later)
        ∙ sym (append_assoc (map (source_by f) (take i now)) (source_by f y ∷ []) (map (source_by f) later))
        ∙ ap (λ (l : List Reading). l ++ map (source_by f) later) sources-with_next
        ∙ ap (λ (l : List A). map (source_by f) (take (i + 1) stepped) ++ map (source_by f) l)
        (sym (drop-set_same_rest now dumps i y rest))
        ∙ sym (map-append (source_by f) (take (i + 1) stepped) (drop (i + 1) stepped))
        ∙ ap (map (source_by f)) (take-append-drop (i + 1) stepped)

    module _ (a b c e p h : Writing) (so_far ended : ℕ)
        (before : WritesDumps options bound (map f (take i dumps)) (map (source_by f) (take i now)) (a, b) (e, p)
        so_far) where
      -- the audit of the dump at index `i`
      abbrev Audits : A → Type 0
      Audits d = WritesDump options bound (f d) (source_by f y) (b, c) (p, h) ended
          ⊎ CannotWriteDump options bound (f d) (source_by f y) (b, c) (p, h) ended

      -- if the status of the dump at index i isn't 5, the dumps up to it were audited
      WritesDumps-this : (ended ≡ 5 → ⊥) → Audits x
          → WritesDumps options bound (map f (take (i + 1) dumps)) (map (source_by f) (take (i + 1) (set now i y)))
          (a, c) (e, h) (audit_status (so_far ∷ ended ∷ []))
      WritesDumps-this other (inl one) =
          subst (λ (l : List NamedReading). WritesDumps options bound l
          (map (source_by f) (take (i + 1) (set now i y))) (a, c) (e, h) (audit_status (so_far ∷ ended ∷ [])))
          map-next_dump
          (subst (λ (l : List Reading). WritesDumps options bound (map f (take i dumps) ++ f x ∷ []) l (a, c) (e, h)
          (audit_status (so_far ∷ ended ∷ []))) sources-with_next
          (WritesDumps-push (map f (take i dumps)) (map (source_by f) (take i now)) (f x) (source_by f y) a b c e p h
          so_far ended before one))
      WritesDumps-this other (inr one) = absurd (other one.status_is)

      -- if the status of the dump at index i is 5, a write failed in its text, and the other dumps aren't audited
      AuditsDumps-cannot_write_this : ended ≡ 5 → Audits x
          → AuditsDumps options bound (map f dumps) (map (source_by f) (set now i y)) (a, c) (e, h) 5
      AuditsDumps-cannot_write_this five (inl one) = absurd (one.other five)
      AuditsDumps-cannot_write_this five (inr one) =
          let later = drop (i + 1) dumps in
          let split : map f dumps ≡ map f (take i dumps) ++ f x ∷ map f later =
          ap (map f) (sym (take-append-drop (i + 1) dumps)) ∙ map-append f (take (i + 1) dumps) later
          ∙ ap (λ (l : List NamedReading). l ++ map f later) (sym map-next_dump)
          ∙ append_assoc (map f (take i dumps)) (f x ∷ []) (map f later) in
          inr (subst (λ (l : List NamedReading). CannotWriteDumps options bound l (map (source_by f) (set now i y))
          (a, c) (e, h) 5) (sym split)
          (subst (λ (l : List Reading). CannotWriteDumps options bound (map f (take i dumps) ++ f x ∷ map f later) l
          (a, c) (e, h) 5) sources-with_others
          (CannotWriteDumps-after (map f (take i dumps)) (map (source_by f) (take i now)) (f x) (source_by f y) a b c e
          p h
          so_far ended before (map f later) one)))

      -- if the status of the dump at index i of the dumps now isn't 5, the dumps up to it were audited
      pub WritesDumps-next : (ended ≡ 5 → ⊥) → Audits (get_or now i x)
          → WritesDumps options bound (map f (take (i + 1) dumps)) (map (source_by f) (take (i + 1) (set now i y)))
          (a, c) (e, h) (audit_status (so_far ∷ ended ∷ []))
      WritesDumps-next other audits = WritesDumps-this other (subst Audits (sym is) audits)

      -- if the status of the dump at index i of the dumps now is 5, a write failed in its text, and the other dumps
      -- aren't audited
      pub AuditsDumps-cannot_write_next : ended ≡ 5 → Audits (get_or now i x)
          → AuditsDumps options bound (map f dumps) (map (source_by f) (set now i y)) (a, c) (e, h) 5
      AuditsDumps-cannot_write_next five audits = AuditsDumps-cannot_write_this five (subst Audits (sym is) audits)

  -- all dumps were audited
  pub AuditsDumps-all : {A : Type 0} (f : A → NamedReading) (now dumps : List A) (i : ℕ) → length dumps ≤ i
      → length now ≡ length dumps → (status : ℕ) (a b e p : Writing)
      → WritesDumps options bound (map f (take i dumps)) (map (source_by f) (take i now)) (a, b) (e, p) status
      → AuditsDumps options bound (map f dumps) (map (source_by f) now) (a, b) (e, p) status
  AuditsDumps-all {A} f now dumps i within same status a b e p each =
      let short : length now ≤ i = subst (λ (n : ℕ). n ≤ i) (sym same) within in
      inl (subst (λ (l : List A). WritesDumps options bound (map f l) (map (source_by f) now) (a, b) (e, p) status)
      (take_all i dumps within)
      (subst (λ (l : List A). WritesDumps options bound (map f (take i dumps)) (map (source_by f) l) (a, b) (e, p)
      status) (take_all i now short) each))
