use Rattle.std.proofs.Common.{◌≡◌, ◌<◌, sym, ◌∙◌, get_or, arith, rules}
use lib.Seq.{ext_get_or}
use Rattle.laws.proofs.Tabulate.{length-tabulate, get_d_tabulate}
use Rattle.cipher.specs.Field.{sub_byte}
use Rattle.cipher.specs.Aes.{at, sub_bytes}
use Rattle.cipher.proofs.state.sub_bytes.Goals as goal

pub returns : goal.returns
unfolding sub_bytes
returns c =
    let m = c.map.ensures.items in
    ext_get_or 0 _ _ (m.long ∙ sym (length-tabulate (λ i. sub_byte (at c.args.state i)) 16))
    (λ i h.
    let k : i < 16 = omega (arith, m.long) in
    let each = m.at i 0 0 k in
    let y : get_or c.map.result i 0 ≡ sub_byte (at c.args.state i) = search rules in
    y ∙ sym (get_d_tabulate (λ i. sub_byte (at c.args.state i)) 0 16 i k))
