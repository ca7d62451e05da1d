-- The boundary rows, by computation, a declaration for each, since one alone may take only so many steps.
-- Assumes nothing.
use Rattle.std.proofs.Common.{refl}
use Rattle.laws.specs.Lists.{tabulate}
use Rattle.hash.specs.Padding.{zero_bytes, padding}
use Rattle.hash.specs.Prepared.{prepared, prepared_round}
use Rattle.hash.specs.Hasher.{zero_filled, absorb_from, absorb, finish}
use Rattle.hash.specs.ShaD.{zero_block, D, max_message, max_d_message, max_pool_length, with_zero_block, pool_digest}
use Rattle.hash.specs.Answers.{within, length_number}
use Rattle.hash.specs.Boundaries.{messages, digests, passed, PaddingsRow, LengthsRow, edge_words, PreparedWordsRow, FirstRoundRow}
use Rattle.hash.specs.Boundaries.{MessageLimitRow, ShaDLimitRow, PoolLimitRow, StandardRow, EdgesRow, ShaDRow, FinishesRow}
use Rattle.hash.specs.Boundaries.{PoolDigestsRow, AbsorbsRow, LongestRow, Boundaries}
use Rattle.hash.proofs.Computing.{compressing, digesting}

paddings : PaddingsRow
unfolding tabulate zero_bytes padding
paddings = refl

lengths : LengthsRow
unfolding tabulate zero_bytes padding
lengths = refl

prepared-words : PreparedWordsRow
unfolding compressing prepared edge_words
prepared-words = refl

first_round : FirstRoundRow
unfolding compressing prepared prepared_round
first_round = refl

message-limit : MessageLimitRow
unfolding length_number within max_message
message-limit = refl

sha-d-limit : ShaDLimitRow
unfolding length_number within max_d_message max_message
sha-d-limit = refl

pool-limit : PoolLimitRow
unfolding length_number within max_pool_length max_d_message max_message
pool-limit = refl

standard : StandardRow
unfolding digesting messages digests
standard = refl

edges : EdgesRow
unfolding digesting
edges = refl

sha-d : ShaDRow
unfolding digesting zero_block D
sha-d = refl

finishes : FinishesRow
unfolding digesting finish passed
finishes = refl

pool-digests : PoolDigestsRow
unfolding digesting finish passed with_zero_block pool_digest
pool-digests = refl

absorbs : AbsorbsRow
unfolding digesting absorb absorb_from zero_filled passed
absorbs = refl

longest : LongestRow
unfolding digesting absorb absorb_from zero_filled passed
longest = refl

pub boundaries : Boundaries
boundaries =
    record {
      paddings = paddings;
      lengths = lengths;
      prepared_words = prepared-words;
      first_round = first_round;
      message_limit = message-limit;
      sha_d_limit = sha-d-limit;
      pool_limit = pool-limit;
      standard = standard;
      edges = edges;
      sha_d = sha-d;
      finishes = finishes;
      pool_digests = pool-digests;
      absorbs = absorbs;
      longest = longest;
    }
