use Rattle.std.proofs.Common.{◌∙◌, rules, tests, drop, ◌+◌, refl, ap}
use Rattle.std.proofs.lemmas.Iterator.{YieldsList-from_slice}
use Rattle.std.proofs.lemmas.Iterator.Consumers.{YieldsList-from_enumerate}
use Rattle.std.proofs.lemmas.Iterator.Search.{any_from_yields_List}
use Rattle.std.specs.List.{list_any}
use lib.Dec.{eqb}
use lib.ListN.{length, take}
use Prim.Native.Nat.{◌-◌}
use Rattle.slots.proofs.NoRepeat.{any-behind}
use Rattle.slots.proofs.repeats.has_repeat.Goals as goal

pub returns : goal.returns
returns c =
    let list = c.args.list.now in
    let numbers = YieldsList-from_slice list (ap (λ s. s.rest.now) c.enumerate.ensures.source ∙ c.iter.ensures.rest) in
    any_from_yields_List (λ p. list_any (λ y. eqb y p.1) (take (length list - (p.0 + 1)) (drop (p.0 + 1) list))) _ _ c.any.result c.any.ensures.ran
    (YieldsList-from_enumerate {s = c.enumerate.result} numbers c.enumerate.ensures.count) (λ x b q k. search (rules, tests))
    ∙ any-behind list list 0 refl
