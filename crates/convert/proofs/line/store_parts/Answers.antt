use Rattle.convert.proofs.Stores.{parts-stored}
use Rattle.convert.proofs.line.store_parts.Goals as goal

pub returns : goal.returns
returns c =
    let a = c.args in
    parts-stored a.out.now a.front.now a.rest.now _ _ c.requires c.copy_in.ensures c.copy_in-2.ensures
