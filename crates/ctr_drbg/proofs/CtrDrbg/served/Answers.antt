use native.Mathlib.Omega.{arith}
use Rattle.ctr_drbg.specs.Refusals.{reseed_interval}
use Rattle.ctr_drbg.proofs.Effects.{served-is}
use Rattle.ctr_drbg.proofs.CtrDrbg.served.Goals as goal

pub overflow_add-self : goal.overflow_add-self
unfolding reseed_interval
overflow_add-self c = record { fits = omega (arith, c.requires.0) }

pub returns : goal.returns
returns c =
    let f = c.advanced-next.ensures in
    served-is c.args.self _ _ _ _ c.args.additional.now _ _ c.working.ensures c.padded.ensures f.0 f.1 c.counted.ensures
