-- What the code's private parts give: an answer, 0 or 33, with the rest of a draw or of a shuffle.
-- Assumes nothing.
use Rattle.std.specs.Prelude.{◌≡◌, cond, List, ℕ}
use Rattle.pools.specs.Draws.{Drawn}
use Rattle.pools.specs.Promises.{number, value_of}
use Rattle.pools.specs.declared.Fortuna.{Fortuna}
use Rattle.pools.specs.declared.Outcome.{Outcome}
use Rattle.draws.specs.declared.draw.Draw.{Draw}

-- a draw's value
abbrev pub DrawsValue : Drawn Fortuna → Draw → Type 0
DrawsValue o r =
    (number r.answer ≡ cond o.found 0 33) × (r.emptied ≡ o.effect.emptied) × (value_of r.answer ≡ o.value) × (r.next ≡ o.effect.next)

-- a shuffle, and the numbers that it leaves
abbrev pub DrawsList : Drawn Fortuna → Outcome Fortuna → List ℕ → Type 0
DrawsList o r list =
    (number r.answer ≡ cond o.found 0 33) × (r.emptied ≡ o.effect.emptied) × (r.next ≡ o.effect.next) × (list ≡ o.effect.buffer)
