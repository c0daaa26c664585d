-- The dump that a binding is written for.
use Rattle.std.specs.Prelude.{◌≡◌, ℕ, List, Option, option_map, string_bytes}
use Rattle.vme_trace.specs.Streams.{Reading, Writing}
use Rattle.vme_stream.specs.declared.refusal.Input.TheVariants.{Dump}
use Rattle.vme_text_commands.specs.TextAnswers.{TellsBinding}
use Rattle.vme_words.specs.declared.order.BindOrder.{BindOrder}
use Rattle.vme_program.specs.Openings.{WithInput}
use denote.Ref.{Bor}

-- the scope that an order names, if it names one
abbrev pub IsScopeOf : BindOrder → Option (Bor (List ℕ)) → Type 0
IsScopeOf order scope = option_map (λ path. path.now) scope ≡ option_map string_bytes order.scope

-- a binding is written for a dump, with the slots and the scope that the order gives
abbrev pub BindsBy : BindOrder → Reading × Reading → Writing × Writing → Writing × Writing → ℕ → Type 0
BindsBy order dump out err status =
    (scope : Option (Bor (List ℕ))) × IsScopeOf order scope × TellsBinding order.slots scope dump out err status

-- a binding is written for the dump that the order names
abbrev pub BindsFile : (List ℕ → Option Reading → Type 0) → BindOrder → Writing × Writing → Writing × Writing → ℕ
    → Type 0
BindsFile opens order = WithInput opens (string_bytes order.dump) Dump (BindsBy order)
