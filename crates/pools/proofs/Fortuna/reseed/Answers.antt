use Rattle.std.proofs.Common.{◌≡◌, length, refl, rules}
use Rattle.pools.specs.Effects.{next_reseed}
use Rattle.pools.proofs.Reseeding.{reseed-made}
use Rattle.pools.proofs.Fortuna.reseed.Goals as goal

pub returns : goal.returns
unfolding next_reseed
returns c =
    let taken = c.collect_digests-count in
    let size : length taken.new.seed ≡ 1024 = search rules in
    let a = c.args in
    (taken.ensures.counted, reseed-made a.self.now a.clock _ _ _ _ _ c.requires refl taken.ensures size c.reseed.ensures.1)
