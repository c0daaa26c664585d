-- The number of open scopes that the path of a search begins with is right after each scope that opens or closes, and
-- says which variables have that path.
use Rattle.std.proofs.Common.{◌≡◌, ℕ, ◌+◌, ◌<◌, ◌≤◌, eqb, Bool, true, false, cond, ◌&&◌, List, [], ◌∷◌, ◌++◌, length}
use Rattle.std.proofs.Common.{get_or, take, drop, map, refl, sym, ap, ◌∙◌, add-zero, arith, append_assoc}
use Rattle.std.specs.Prelude.{bytes_eq, min, nat_eq}
use Rattle.std.specs.Bool.{Decides}
use Rattle.std.specs.List.{All, starts_with}
use Rattle.std.proofs.lemmas.Bool.Decides.{Decides-and, same_from_decides, nat_tests}
use Rattle.std.proofs.Math.ListN.{set}
use Rattle.std.proofs.lemmas.Grind.{drop_more_same}
use Rattle.std.proofs.lemmas.List.{length-map, take_at, drop_at, take_more, take_more_set, map-append}
use Rattle.std.proofs.lemmas.List.{get_or-drop, drop-set-lt}
use Rattle.std.proofs.lemmas.List.Elements.{All-map}
use Rattle.std.proofs.lemmas.Simd.{map-map}
use Rattle.std.proofs.lemmas.Slice.Eq.{bytes_eq-Decides}
use Rattle.vcd_read.specs.Header.{path_of}
use Rattle.vcd_read.specs.Scopes.{with_dot, path_in}
use Rattle.vcd_read.proofs.PrefixLemmas.{Begins, starts_with-Decides}
use Rattle.vcd_read.proofs.ScopesLemmas.{path_of-some}
use denote.Ref.{Bor}
use Rattle.vme_bind.specs.declared.assignment.Assignment.{Assignment}
use Rattle.vme_bind.specs.declared.path_search.PathSearch.{PathSearch}
use Rattle.vme_bind.specs.PathSearch.{HasOpened, Searched, closed, found_in, matched_after, opened, path_to_find}
use Rattle.vme_bind.specs.PathSearch.{scopes_matched}

-- ---- the prefix of a text

-- `text` begins with `front ++ part` exactly if it begins with `front` and its rest with `part`
starts_with-Decides_append : (front part text : List ℕ)
    → Decides (starts_with nat_eq text front && starts_with nat_eq (drop (length front) text) part)
    (Begins (front ++ part) text)
starts_with-Decides_append front part text =
    let both = Decides-and {P = Begins front text} {Q = Begins part (drop (length front) text)}
    (starts_with nat_eq text front) (starts_with nat_eq (drop (length front) text) part)
    (starts_with-Decides front text) (starts_with-Decides part (drop (length front) text)) in (
      λ e. let h = both.0 e in
          let rest_is : h.0.0 ≡ part ++ h.1.0 = sym (ap (drop (length front)) h.0.1 ∙ drop_at front h.0.0 (length front)
          refl) ∙ h.1.1 in
          (h.1.0, h.0.1 ∙ ap (λ (rest : List ℕ). front ++ rest) rest_is ∙ sym (append_assoc front part h.1.0)),
      λ h.
          let whole : text ≡ front ++ (part ++ h.0) = h.1 ∙ append_assoc front part h.0 in
          both.1 (
            (part ++ h.0, whole),
            (
              h.0,
              ap (drop (length front)) whole ∙ drop_at front (part ++ h.0)
                  (length front) refl,
            ),
          ),
    )

-- a text begins with `front ++ part` exactly if it begins with `front`, and what follows with `part`
pub starts_with-append : (front part text : List ℕ) → starts_with nat_eq text (front ++ part)
    ≡ (starts_with nat_eq text front && starts_with nat_eq (drop (length front) text) part)
starts_with-append front part text =
    same_from_decides (starts_with nat_eq text (front ++ part))
    (starts_with nat_eq text front && starts_with nat_eq (drop (length front) text) part)
    (starts_with-Decides (front ++ part) text) (starts_with-Decides_append front part text)

-- `text` is `front ++ name` exactly if it begins with `front` and its rest is `name`
append-Decides : (front name text : List ℕ)
    → Decides (starts_with nat_eq text front && bytes_eq (drop (length front) text) name) (front ++ name ≡ text)
append-Decides front name text =
    let both = Decides-and {P = Begins front text} {Q = drop (length front) text ≡ name}
    (starts_with nat_eq text front) (bytes_eq (drop (length front) text) name) (starts_with-Decides front text)
    (bytes_eq-Decides (drop (length front) text) name) in (
      λ e. let h = both.0 e in
          let rest_is : h.0.0 ≡ name = sym (ap (drop (length front)) h.0.1 ∙ drop_at front h.0.0 (length front) refl)
          ∙ h.1 in
          sym (h.0.1 ∙ ap (λ (rest : List ℕ). front ++ rest) rest_is),
      λ h. both.1 ((name, sym h), ap (drop (length front)) (sym h) ∙ drop_at front name (length front) refl),
    )

-- ---- the open scopes

-- a path begins with at most as many of the scopes as there are
matched_scopes-at_most : (path : List ℕ) (scopes : List (List ℕ)) → scopes_matched path scopes ≤ length scopes
unfolding scopes_matched
matched_scopes-at_most path [] = omega arith
matched_scopes-at_most path (name ∷ scopes) = by_test (starts_with nat_eq path (path_in (name ∷ scopes)))
    (matched_scopes-at_most path scopes)
  where
    by_test : (b : Bool) → scopes_matched path scopes ≤ length scopes → cond b (length scopes + 1)
        (scopes_matched path scopes) ≤ length (name ∷ scopes)
    by_test true le = omega arith
    by_test false le = omega (arith, le)

-- a path begins with all of the scopes exactly where it begins with their path
pub matched_scopes-all : (path : List ℕ) (scopes : List (List ℕ)) → eqb (scopes_matched path scopes) (length scopes)
    ≡ starts_with nat_eq path (path_in scopes)
unfolding scopes_matched path_in
matched_scopes-all path [] = refl
matched_scopes-all path (name ∷ scopes) = by_test (starts_with nat_eq path (path_in scopes ++ with_dot name))
    (matched_scopes-at_most path scopes)
  where
    by_test : (b : Bool) → scopes_matched path scopes ≤ length scopes
        → eqb (cond b (length scopes + 1) (scopes_matched path scopes)) (length (name ∷ scopes)) ≡ b
    by_test true le = grind (arith, nat_tests)
    by_test false le = grind (arith, nat_tests)

-- after one more scope is entered, `matched_after` makes the number of matched scopes from that before
pub matched_scopes-open : (path name : List ℕ) (scopes : List (List ℕ)) → matched_after (length scopes)
    (length (path_in scopes)) (with_dot name) path (scopes_matched path scopes) ≡ scopes_matched path (name ∷ scopes)
unfolding scopes_matched path_in
matched_scopes-open path name scopes =
    ap (λ (b : Bool). cond (b && starts_with nat_eq (drop (length (path_in scopes)) path) (with_dot name))
    (length scopes + 1) (scopes_matched path scopes)) (matched_scopes-all path scopes)
    ∙ ap (λ (b : Bool). cond b (length scopes + 1) (scopes_matched path scopes))
    (sym (starts_with-append (path_in scopes) (with_dot name) path))

-- after the innermost scope is closed, the number of matched scopes is that before, or that of the scopes if this is
-- less
pub matched_scopes-close : (path name : List ℕ) (scopes : List (List ℕ)) → min (scopes_matched path (name ∷ scopes))
    (length scopes) ≡ scopes_matched path scopes
unfolding scopes_matched path_in
matched_scopes-close path name scopes =
    by_tests (starts_with nat_eq path (path_in scopes ++ with_dot name)) (starts_with nat_eq path (path_in scopes))
    (starts_with nat_eq (drop (length (path_in scopes)) path) (with_dot name))
    (starts_with-append (path_in scopes) (with_dot name) path) (matched_scopes-all path scopes)
    (matched_scopes-at_most path scopes)
  where
    by_tests : (b outer inner : Bool) → b ≡ (outer && inner) → eqb (scopes_matched path scopes) (length scopes) ≡ outer
        → scopes_matched path scopes ≤ length scopes
        → min (cond b (length scopes + 1) (scopes_matched path scopes)) (length scopes) ≡ scopes_matched path scopes
    by_tests true true inner both all le = grind (arith, nat_tests)
    by_tests true false inner both all le = absurd (cc both)
    by_tests false outer inner both all le = omega (arith, le)

-- a variable in the open scopes has `path` exactly if all scopes match and `name` is the rest of the path
pub bytes_eq-path_of : (path name : List ℕ) (scopes : List (List ℕ)) → 0 < length name
    → bytes_eq (path_of scopes name) path ≡ (eqb (scopes_matched path scopes) (length scopes)
    && bytes_eq (drop (length (path_in scopes)) path) name)
bytes_eq-path_of path name scopes some =
    ap (λ (p : List ℕ). bytes_eq p path) (path_of-some scopes name some)
    ∙ same_from_decides (bytes_eq (path_in scopes ++ name) path) (starts_with nat_eq path (path_in scopes)
    && bytes_eq (drop (length (path_in scopes)) path) name) (bytes_eq-Decides (path_in scopes ++ name) path)
    (append-Decides (path_in scopes) name path)
    ∙ ap (λ (b : Bool). b && bytes_eq (drop (length (path_in scopes)) path) name) (sym (matched_scopes-all path scopes))

-- ---- all searches

-- where no scope is open, the right number of matched scopes is 0
pub HasOpened-no_scope : (s : PathSearch) → s.matched_scopes ≡ 0 → HasOpened [] s
unfolding scopes_matched
HasOpened-no_scope s e = e

-- a search with the right `matched_scopes` has it after one more scope is entered
HasOpened-opened : (name : List ℕ) (scopes : List (List ℕ)) (s : PathSearch) → HasOpened scopes s
    → HasOpened (name ∷ scopes)
    (opened (length scopes) (length (path_in scopes)) (with_dot name) s)
HasOpened-opened name scopes s matched_scopes =
    let path : List ℕ = path_to_find s.assignment.now.source in
    ap (matched_after (length scopes) (length (path_in scopes)) (with_dot name) path) matched_scopes
    ∙ matched_scopes-open path name scopes

-- a search with the same assignment and the same `matched_scopes` has the right number too
pub HasOpened-same : (scopes : List (List ℕ)) (s s' : PathSearch) → s'.matched_scopes ≡ s.matched_scopes → s'.assignment
    ≡ s.assignment
    → HasOpened scopes s → HasOpened scopes s'
HasOpened-same scopes s s' matched_scopes same is = matched_scopes ∙ is
    ∙ sym (ap (λ (a : Bor Assignment). scopes_matched (path_to_find a.now.source) scopes) same)

-- if all searches have the right `matched_scopes`, they have it after one more scope is entered
pub All-opened : (name : List ℕ) (scopes : List (List ℕ)) (searches : List PathSearch) → All (HasOpened scopes) searches
    → All (HasOpened (name ∷ scopes)) (map (opened (length scopes) (length (path_in scopes)) (with_dot name)) searches)
All-opened name scopes searches all =
    All-map (HasOpened (name ∷ scopes)) (opened (length scopes) (length (path_in scopes)) (with_dot name)) searches
    (λ k s at. HasOpened-opened name scopes (get_or searches k s) (all k s at))

-- a search with the right `matched_scopes` has it after the innermost scope is closed
HasOpened-closed : (name : List ℕ) (scopes : List (List ℕ)) (s : PathSearch) → HasOpened (name ∷ scopes) s
    → HasOpened scopes
    (closed (length scopes) s)
HasOpened-closed name scopes s matched_scopes = ap (λ (n : ℕ). min n (length scopes)) matched_scopes
    ∙ matched_scopes-close (path_to_find s.assignment.now.source) name scopes

-- if all searches have the right `matched_scopes`, they have it after the innermost scope is closed
pub All-closed : (name : List ℕ) (scopes : List (List ℕ)) (searches : List PathSearch) → All (HasOpened (name ∷ scopes))
    searches → All (HasOpened scopes) (map (closed (length scopes)) searches)
All-closed name scopes searches all =
    All-map (HasOpened scopes) (closed (length scopes)) searches
    (λ k s at. HasOpened-closed name scopes (get_or searches k s)
    (all k s at))

-- the path in one more scope, after that in the scopes, is the scope's name with a dot
pub drop-path_in : (name : List ℕ) (scopes : List (List ℕ)) → drop (length (path_in scopes)) (path_in (name ∷ scopes))
    ≡ with_dot name
unfolding path_in
drop-path_in name scopes = drop_at (path_in scopes) (with_dot name) (length (path_in scopes)) refl

-- ---- one element after the other

-- where the rests of two lists from `i` on are the same, their elements at `i` are
get_or-same_rest : {A : Type 0} (xs ys : List A) (i : ℕ) (d : A) → drop i xs ≡ drop i ys → get_or ys i d ≡ get_or xs i d
get_or-same_rest {A} xs ys i d e =
    rw add-zero at (sym (get_or-drop i ys 0 d) ∙ (sym (ap (λ (l : List A). get_or l 0 d) e)
    ∙ get_or-drop i xs 0 d))

-- seen by `f`, the first `i + 1` elements are changed by `g`, where the first `i` are and element `i` is
pub take-set_seen : {A B : Type 0} (f : A → B) (g : B → B) (xs ys : List A) (i : ℕ) (x y : A) → i < length xs
    → length xs
    ≡ length ys → x ≡ get_or xs i x → f y ≡ g (f x)
    → map f (take i xs) ≡ map g (map f (take i ys)) → drop i xs ≡ drop i ys → map f (take (i + 1) (set xs i y))
    ≡ map g (map f (take (i + 1) ys))
take-set_seen f g xs ys i x y h n r e done rest =
    let k : i < length ys = rw (← n) h in
    let s : get_or ys i x ≡ x = get_or-same_rest xs ys i x rest ∙ sym r in
    rw (
      take_more_set xs i y h,
      take_more ys i x k,
      s,
      map-append f (take i xs) (y ∷ []),
      map-append f (take i ys)
          (x ∷ []),
      map-append g (map f (take i ys)) (f x ∷ []),
      done,
      e,
    ) refl

-- the first `i + 1` elements are changed by `g`, where the first `i` are and element `i` is
pub take-set_changed : {A : Type 0} (g : A → A) (xs ys : List A) (i : ℕ) (x y : A) → i < length xs → length xs
    ≡ length ys → x
    ≡ get_or xs i x → y ≡ g x
    → take i xs ≡ map g (take i ys) → drop i xs ≡ drop i ys → take (i + 1) (set xs i y) ≡ map g (take (i + 1) ys)
take-set_changed g xs ys i x y h n r e done rest =
    let k : i < length ys = rw (← n) h in
    let s : get_or ys i x ≡ x = get_or-same_rest xs ys i x rest ∙ sym r in
    rw (take_more_set xs i y h, take_more ys i x k, s, map-append g (take i ys) (x ∷ []), done, e) refl

-- setting element `i` leaves the rests after it the same, where those from `i` on are
pub drop-set_same_rest : {A : Type 0} (xs ys : List A) (i : ℕ) (y : A) → drop i xs ≡ drop i ys
    → drop (i + 1) (set xs i y)
    ≡ drop (i + 1) ys
drop-set_same_rest xs ys i y e = drop-set-lt (i + 1) xs i y (omega arith) ∙ drop_more_same xs ys i e

-- ---- what is lent as a slice and given back

-- where all searches were lent, and `new` is given back, the searches are `new`
take-given_back : (searches new : List PathSearch) (len : ℕ) → len ≡ length searches → length new ≡ length searches
    → take len (new ++ drop (length new) searches) ≡ new
take-given_back searches new len e n = take_at new (drop (length new) searches) len (n ∙ sym e)

-- as many searches are given back as were lent
length-given_back : (f : PathSearch → PathSearch) (searches lent new : List PathSearch) → lent ≡ searches → new
    ≡ map f lent
    → length new ≡ length searches
length-given_back f searches lent new e is = ap (λ (xs : List PathSearch). length xs) is ∙ length-map lent f
    ∙ ap (λ (xs : List PathSearch). length xs) e

-- all searches have the right `matched_scopes` after one more scope is entered, also through a slice
pub All-opened_slice : (name : List ℕ) (scopes now : List (List ℕ)) (searches lent new : List PathSearch)
    (len depth start : ℕ)
    (part : List ℕ) → All (HasOpened scopes) searches → now ≡ name ∷ scopes → len ≡ length searches → lent ≡ searches
    → new ≡ map (opened depth start part) lent → depth ≡ length scopes → start ≡ length (path_in scopes) → part
    ≡ drop start (path_in now) → All (HasOpened now) (take len (new ++ drop (length new) searches))
All-opened_slice name scopes now searches lent new len depth start part all names e same is d s p =
    let part_is : part ≡ with_dot name = p ∙ ap (λ (n : ℕ). drop n (path_in now)) s
    ∙ ap (λ (ns : List (List ℕ)). drop (length (path_in scopes)) (path_in ns)) names ∙ drop-path_in name scopes in
    let mapped : new ≡ map (opened (length scopes) (length (path_in scopes)) (with_dot name)) searches =
    is ∙ ap (λ (xs : List PathSearch). map (opened depth start part) xs) same
    ∙ ap (λ (n : ℕ). map (opened n start part) searches) d
    ∙ ap (λ (n : ℕ). map (opened (length scopes) n part) searches) s
    ∙ ap (λ (b : List ℕ). map (opened (length scopes) (length (path_in scopes)) b) searches) part_is in
    rw (
      take-given_back searches new len e (length-given_back (opened depth start part) searches lent new same is),
      mapped,
      names,
    )
    (All-opened name scopes searches all)

-- all searches have the right `matched_scopes` after the innermost scope is closed, also through a slice
pub All-closed_slice : (name : List ℕ) (scopes now : List (List ℕ)) (searches lent new : List PathSearch)
    (len depth : ℕ)
    → All (HasOpened scopes) searches → scopes ≡ name ∷ now → len ≡ length searches → lent ≡ searches
    → new ≡ map (closed depth) lent → depth ≡ length now → All (HasOpened now)
    (take len (new ++ drop (length new) searches))
All-closed_slice name scopes now searches lent new len depth all names e same is d =
    let mapped : new ≡ map (closed (length now)) searches = is ∙ ap (λ (xs : List PathSearch). map (closed depth) xs)
    same
    ∙ ap (λ (n : ℕ). map (closed n) searches) d in
    let before : All (HasOpened (name ∷ now)) searches = rw names at all in
    rw (take-given_back searches new len e (length-given_back (closed depth) searches lent new same is), mapped)
    (All-closed name now searches before)

-- a change of the searches that leaves `found_in` of each as it is, leaves it so for all, also through a slice
pub found_in-same_slice : (f : PathSearch → PathSearch) (searches lent new : List PathSearch) (len : ℕ)
    → ((s : PathSearch) → found_in (f s) ≡ found_in s) → len ≡ length searches → lent ≡ searches → new ≡ map f lent
    → map found_in (take len (new ++ drop (length new) searches)) ≡ map found_in searches
found_in-same_slice f searches lent new len kept e same is =
    ap (λ (xs : List PathSearch). map found_in xs)
    (take-given_back searches new len e (length-given_back f searches lent new same is)
    ∙ is ∙ ap (λ (xs : List PathSearch). map f xs) same)
    ∙ map-map found_in f searches ∙ map-same (λ s. found_in (f s)) found_in searches kept
  where
    map-same : (g h : PathSearch → Searched) (xs : List PathSearch) → ((s : PathSearch) → g s ≡ h s) → map g xs
        ≡ map h xs
    map-same g h [] k = refl
    map-same g h (x ∷ xs) k = ap (λ (y : Searched). y ∷ map g xs) (k x) ∙ ap (λ (ys : List Searched). h x ∷ ys)
        (map-same g h xs k)
