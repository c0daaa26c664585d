-- What the typed getters of a parse read from its matches, and that these are what an order needs and says.
use Rattle.std.proofs.Common.{◌≡◌, ℕ, ◌<◌, ◌≤◌, ◌^◌, List, [], refl, ap, sym, subst, ◌∙◌, IfErr, IsErrAnd, false, inl}
use Rattle.std.proofs.Common.{inr, is_some, true≢false}
use Rattle.std.specs.Prelude.{Option, Some, None, Result, Ok, Err, find, option_map, slice_get, unwrap_or}
use Rattle.std.specs.Str.{bytes_eq}
use Rattle.std.specs.Borrow.{Bor}
use Rattle.std.specs.Str.Parse.{ParsesUnsigned}
use Rattle.clap.specs.Words.{HasKind, IsAmong, Row, Text, ReadsOne, fault_of, first_of, first_value, found_of, kind_of}
use Rattle.clap.specs.Words.{one_text, rows_of, without_minus}
use Rattle.clap.specs.Values.{IsUnsignedIn, read_as}
use Rattle.clap.specs.declared.builder.value_parser.Reading.{Reading}
use Rattle.clap.proofs.CallerReads.{signed_reads}
use Rattle.clap.specs.declared.error.Error.{Error}
use Rattle.clap.specs.declared.parser.matches.ArgMatches.{ArgMatches}
use Rattle.clap.proofs.WalkLemmas.{first_value-rows, one_text-rows}
use Rattle.clap.specs.Words.{subcommand_name_of, subcommand_rows_of}
use Rattle.clap.specs.declared.parser.matches.ArgMatches.TheViews.{out-ArgMatches}
use Rattle.vme_words.specs.Orders.{HasAll, HasOrder, HasSignedIn, HasUnsignedFrom, IsOrder, Says, number_in, number_of}
use Rattle.vme_words.specs.Orders.{task_name, task_of}
use Rattle.vme_words.specs.Commands.{greatest_number, vmecheck_app}
use Rattle.vme_words.specs.OrderFaults.{ComesOf, IsFaultOf}
use Rattle.vme_words.specs.declared.order_fault.OrderFault.{OrderFault}
use Rattle.vme_words.specs.declared.order_fault.OrderFault.TheVariants.{Usage, Memory as no_memory}
use Rattle.vme_words.specs.declared.order.Order.{Order}
use Rattle.vme_words.specs.declared.order.Task.{Task}

-- if a getter reads the number `n` of the option `id`, then `n` is the number of its text
pub number_in-read : (E : Type 0) (G : List ℕ → Result ℕ E → Type 0) (m : ArgMatches) (id : Text) (n : ℕ) (r : Option ℕ)
    → (one_text (found_of m) id ≡ None → r ≡ None) → ((t : List ℕ) → one_text (found_of m) id ≡ Some t → ReadsOne G t r)
    → ((t : List ℕ) (v : ℕ) → G t (Ok v) → v ≡ number_of t) → r ≡ Some n → number_in id (rows_of (found_of m)) ≡ Some n
number_in-read E G m id n r none value reads is = go (one_text (found_of m) id) refl
  where
    -- whether the option has a text or not
    go : (o : Option (List ℕ)) → one_text (found_of m) id ≡ o → number_in id (rows_of (found_of m)) ≡ Some n
    go None e =
        let bad : None ≡ Some n = sym (none e) ∙ is in
        cc
    go (Some t) e =
        let read : ReadsOne G t (Some n) = subst (λ (o : Option ℕ). ReadsOne G t o) is (value t e) in
        let number : n ≡ number_of t = reads t n read in
        ap (λ (o : Option (List ℕ)). option_map number_of o) (sym (one_text-rows (found_of m) id) ∙ e)
        ∙ ap (λ (k : ℕ). Some k) (sym number)

-- if the option `id` has a number from `least` to `greatest`, below 2^32, the getter reads one in that range
pub HasSignedIn-read : (E : Type 0) (G : List ℕ → Result ℕ E → Type 0) (m : ArgMatches) (id : Text) (least greatest : ℕ)
    (r : Option ℕ)
    → HasSignedIn id least greatest (rows_of (found_of m)) → greatest < 2 ^ 32
    → ((t : List ℕ) → one_text (found_of m) id ≡ Some t → ReadsOne G t r)
    → ((t : List ℕ) (x : Result ℕ E) → G t x → ParsesUnsigned 32 10 t x)
    → (n : ℕ) × (r ≡ Some n) × (least ≤ n) × (n ≤ greatest)
HasSignedIn-read E G m id least greatest r has small value only =
    signed_reads E G 32 least greatest has.text r (value (without_minus has.text) (one_text-rows (found_of m) id
    ∙ has.read)) only small has.says

-- a text that is a number of 64 bits from `least` on is read as such a number
IsUnsignedIn-read : (E : Type 0) (G : List ℕ → Result ℕ E → Type 0) (least : ℕ) (t : List ℕ) (r : Option ℕ)
    → ReadsOne G t r → ((u : List ℕ) (x : Result ℕ E) → G u x → ParsesUnsigned 64 10 u x)
    → IsUnsignedIn least greatest_number t → (n : ℕ) × (r ≡ Some n) × (least ≤ n)
IsUnsignedIn-read E G least t (Some n) read only says =
    let parsed = only t (Ok n) read in
    (n, refl, rw parsed.1 says.2)
IsUnsignedIn-read E G least t None read only says = absurd (only t (Err read.0) read.1 (says.0, says.1))

-- if the option `id` has a number of 64 bits from `least` on, the getter reads one in that range
pub HasUnsignedFrom-read : (E : Type 0) (G : List ℕ → Result ℕ E → Type 0) (m : ArgMatches) (id : Text) (least : ℕ)
    (r : Option ℕ) → HasUnsignedFrom id least (rows_of (found_of m))
    → ((t : List ℕ) → one_text (found_of m) id ≡ Some t → ReadsOne G t r)
    → ((t : List ℕ) (x : Result ℕ E) → G t x → ParsesUnsigned 64 10 t x) → (n : ℕ) × (r ≡ Some n) × (least ≤ n)
HasUnsignedFrom-read E G m id least r has value only =
    IsUnsignedIn-read E G least has.text r (value has.text (one_text-rows (found_of m) id ∙ has.read)) only has.says

-- an option that isn't given has no number
pub number_in-none : (id : Text) (rows : List Row) → first_of id rows ≡ None → number_in id rows ≡ None
number_in-none id rows none = go (find (λ r. bytes_eq r.id id) rows) refl
  where
    -- where there is no text, there is no number
    text : (o : Option Text) (how : Reading) → o ≡ None → option_map number_of (option_map (read_as how) o) ≡ None
    text o how e = rw e refl

    -- whether the option has a row or not
    go : (o : Option Row) → find (λ r. bytes_eq r.id id) rows ≡ o → number_in id rows ≡ None
    go None e = rw e refl
    go (Some r) e = rw e (text (slice_get r.values 0) r.reading (rw e at none))

-- an option that is `Some n` and `Some m` has n equal to m
pub Some-injective : (r : Option ℕ) (n m : ℕ) → r ≡ Some n → r ≡ Some m → n ≡ m
Some-injective r n m is same = ap (λ (o : Option ℕ). unwrap_or o 0) (sym is ∙ same)

-- an option that is `Some n` isn't `None`
pub not_None-of_Some : (r : Option ℕ) (n : ℕ) → r ≡ Some n → r ≡ None → ⊥
not_None-of_Some r n is none =
    let bad : Some n ≡ None = sym is ∙ none in
    cc

-- if the argument `id` isn't given, the getter reads no value
pub is_some-not_given : (m : ArgMatches) (id : Text) (r : Option (Bor (List ℕ)))
    → option_map (λ (s : Bor (List ℕ)). s.now) r
    ≡ first_value (found_of m) id → first_of id (rows_of (found_of m)) ≡ None → is_some r ≡ false
is_some-not_given m id None gives none = refl
is_some-not_given m id (Some s) gives none =
    let bad : Some s.now ≡ None = gives ∙ first_value-rows (found_of m) id ∙ none in
    cc

-- if the getter reads no value, the argument `id` isn't given
pub first_of-not_given : (m : ArgMatches) (id : Text) (r : Option (Bor (List ℕ)))
    → option_map (λ (s : Bor (List ℕ)). s.now) r
    ≡ first_value (found_of m) id → is_some r ≡ false → first_of id (rows_of (found_of m)) ≡ None
first_of-not_given m id None gives e = sym (first_value-rows (found_of m) id) ∙ sym gives
first_of-not_given m id (Some s) gives e = absurd (true≢false e)

-- the first value of the argument `id` is the text that the getter reads, if it reads one
pub first_of-read : (m : ArgMatches) (id : Text) (r o : Option (Bor (List ℕ)))
    → option_map (λ (s : Bor (List ℕ)). s.now) r
    ≡ first_value (found_of m) id → r ≡ o → first_of id (rows_of (found_of m))
    ≡ option_map (λ (s : Bor (List ℕ)). s.now) o
first_of-read m id r o gives is =
    sym (first_value-rows (found_of m) id) ∙ sym gives ∙ ap (option_map (λ (s : Bor (List ℕ)). s.now)) is

-- ---- an error of a parse

-- the error of a fault, or else the other one
abbrev error_in : Error → OrderFault → Error
error_in other (Usage error) = error
error_in other no_memory = other

-- a fault has one error
Usage-same : (a b : Error) → Usage a ≡ Usage b → a ≡ b
Usage-same a b is = ap (error_in a) is

-- a fault that comes of an error of the parse of `words` is a fault of `words`
IsFaultOf-ComesOf : (words : List Text) (error : Error) (fault : OrderFault) → ComesOf error fault
    → HasKind (fault_of vmecheck_app words) error → IsFaultOf words fault
IsFaultOf-ComesOf words error (Usage usage_error) comes (inl none) =
    let bad : Usage usage_error ≡ no_memory = comes.memory none in
    cc
IsFaultOf-ComesOf words error (Usage usage_error) comes (inr among) =
    let is : Usage usage_error ≡ Usage error = comes.usage (λ none. let bad : Usage usage_error
    ≡ no_memory = comes.memory none in
    cc) in
    let same : usage_error ≡ error = Usage-same usage_error error is in
    subst (λ (e : Error). IsAmong (kind_of e) (fault_of vmecheck_app words)) (sym same) among
IsFaultOf-ComesOf words error no_memory comes has = tt

-- if `r` is a fault that `?` made of an error of the parse of `words`, it is a fault of `words`
pub IsFaultOf-passed_up : {T : Type 0} (r : Result T OrderFault) (error : Error) (words : List Text)
    → IsErrAnd r (λ fault. ComesOf error fault)
    → HasKind (fault_of vmecheck_app words) error → IfErr r (IsFaultOf words)
IsFaultOf-passed_up (Ok x) error words comes has = tt
IsFaultOf-passed_up (Err fault) error words comes has = IsFaultOf-ComesOf words error fault comes has

-- ---- an order by its task

-- two maps, one after the other, are one
option_map-map : {A B C : Type 0} (f : A → B) (g : B → C) (o : Option A) → option_map (λ a. g (f a)) o
    ≡ option_map g (option_map f o)
option_map-map f g None = refl
option_map-map f g (Some a) = refl

-- if the subcommand of `m` is named `name`, `task` is the only task of that name, and `m` has all that an order needs,
-- then `rows`, those of the subcommand, have all that the order of `task` needs
pub HasAll-met : (m : ArgMatches) (name : Text) (rows : List Row) (task : Task) → subcommand_name_of m ≡ Some name
    → option_map (λ (p : Text × List Row). p.1) (subcommand_rows_of m) ≡ Some rows
    → ((t : Task) → name ≡ task_name t → task ≡ t) → HasOrder (subcommand_rows_of m) → HasAll task rows
HasAll-met m name rows task named its only has =
    let both = ap (option_map (λ (p : Text × List Row). p.0)) has.command in
    let called : name ≡ task_name has.task = ap (λ (o : Option Text). unwrap_or o [])
    (sym named ∙ option_map-map _ (λ (p : Text × List Row). p.0) (out-ArgMatches m).subcommand ∙ both) in
    let same : rows ≡ has.rows = ap (λ (o : Option (List Row)). unwrap_or o [])
    (sym its ∙ ap (option_map (λ (p : Text × List Row). p.1)) has.command) in
    rw (only has.task called, same) has.has

-- if `rows` have the values of `order`, then `order` is that of its task's name with `rows`
pub is_order_by_values : (order : Order) (rows : List Row) → Says order rows
    → IsOrder order (Some (task_name (task_of order), rows))
is_order_by_values order rows says = record { rows = rows; command = refl; says = says }
