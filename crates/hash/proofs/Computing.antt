-- What computing a hash value, a digest and a refusal unfolds, named once: whatever unfolds one of these unfolds all that its own line names.
-- Assumes nothing.
use Rattle.laws.specs.Lists.{tabulate}
use Rattle.hash.specs.Constants.{K, H⁰}
use Rattle.hash.specs.Padding.{zero_bytes, padding}
use Rattle.hash.specs.Block.{next_word, schedule, T₁, T₂, round, rounds, compress}
use Rattle.hash.specs.Sha256.{blocks, digest_from, sha256}
use Rattle.hash.specs.ShaD.{max_message, max_d_message, max_pool_length}
use Rattle.hash.specs.Answers.{within}

-- the compression of a block
unfoldable pub compressing : Unit {0}
unfolding tabulate K H⁰ next_word schedule T₁ T₂ round rounds compress
compressing = tt

-- the digest of a message
unfoldable pub digesting : Unit {0}
unfolding compressing blocks digest_from zero_bytes padding sha256
digesting = tt

-- the test of a length
unfoldable pub limiting : Unit {0}
unfolding within max_message max_d_message max_pool_length
limiting = tt
