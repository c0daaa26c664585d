use Rattle.std.proofs.Common.{sym, ap, ◌∙◌, ◌≡◌, ◌++◌, ◌∷◌, [], List, ℕ, None, map, subst, arith, length}
use Rattle.std.proofs.lemmas.List.{map_push, length-map}
use Rattle.vcd_read.specs.declared.codes.NetCode.{NetCode}
use Rattle.vcd_read.specs.Header.{Net, net_of}
use Rattle.vcd_read.specs.OneByteCodes.{HasOneByteCodes}
use Rattle.vcd_read.specs.Nets.{net_code, AreIndexed}
use Rattle.vcd_read.proofs.CodesLemmas.{AreIndexed-push, HasOneByteCodes-push}
use Rattle.vcd_read.proofs.codes.Codes.add.Goals as goal

pub enter_one_byte_code-requires : goal.enter_one_byte_code-requires
enter_one_byte_code-requires c = c.self.invariant.1.0

pub invariant_of-self-2 : goal.invariant_of-self-2
invariant_of-self-2 c =
    let nets : List Net = map net_code c.self.inside.nets.items in
    let none : net_of (map net_code c.self.inside.nets.items) c.args.code.now ≡ None = rw c.self.view_is c.requires in
    let more : map net_code c.push_reserved.new.self.items ≡ map net_code c.self.inside.nets.items
    ++ record { code = c.args.code.now; size = c.args.size } ∷ [] =
    ap (map net_code) c.push_reserved.ensures.items
    ∙ map_push net_code c.reserve.new.self.items _
    ∙ ap (λ (before : List NetCode). map net_code before
    ++ record { code = c.in_ok-bytes.bytes.items; size = c.args.size } ∷ []) c.reserve.ensures.items
    ∙ ap (λ (bytes : List ℕ). map net_code c.self.inside.nets.items ++ record { code = bytes; size = c.args.size } ∷ [])
    c.in_ok-bytes.ensures.items in
    let indexed = AreIndexed-push nets c.self.inside.index c.insert.new.self c.args.code.now c.args.size
    c.len-net.result
    c.self.invariant.0 none (simp length-map (omega (arith, c.len-net.ensures))) (omega (arith, c.if-net.false))
    c.in_ok-insert.ensures.ok in
    let number : c.len-net.result ≡ length nets = simp length-map (omega (arith, c.len-net.ensures)) in
    let table = c.enter_one_byte_code.new.table.items in
    let one_byte = HasOneByteCodes-push nets c.self.inside.one_byte.items table c.args.code.now c.args.size
    (c.len-net.result, c.args.size) c.self.invariant.1 none
    (ap (λ (n : ℕ). (n, c.args.size)) number) c.enter_one_byte_code.ensures.whole c.enter_one_byte_code.ensures.net in (
      subst (λ (nets : List Net). AreIndexed nets c.insert.new.self) (sym more) indexed,
      subst (λ (nets : List Net). HasOneByteCodes nets table) (sym more) one_byte,
    )
