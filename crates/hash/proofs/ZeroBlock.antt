-- The hash value after the zero block, by computation. The numbers stand here too: behind their name the comparison takes too many
-- steps.
-- Assumes nothing.
use Rattle.std.proofs.Common.{◌≡◌, [], ◌∷◌, refl}
use Rattle.hash.specs.Constants.{H⁰}
use Rattle.hash.specs.Block.{compress}
use Rattle.hash.specs.ShaD.{zero_block, zero_block_hash}
use Rattle.hash.specs.Statements.{ZeroBlockHash}
use Rattle.hash.proofs.Computing.{compressing}

hashed :
    0xda56_98be ∷ 0x17b9_b469 ∷ 0x6233_5799 ∷ 0x779f_beca ∷ 0x8ce5_d491 ∷ 0xc0d2_6243 ∷ 0xbafe_f9ea ∷ 0x1837_a9d8 ∷ []
    ≡ compress H⁰ zero_block
unfolding compressing zero_block
hashed = refl

pub zero-block-hash : ZeroBlockHash
unfolding zero_block_hash
zero-block-hash = hashed
