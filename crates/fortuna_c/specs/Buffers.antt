-- What a call leaves in a caller's buffer.
-- Assumes nothing.
use Rattle.std.specs.Prelude.{cond, List, ℕ, ltb}

-- the digest buffer after a message of n bytes whose digest is d: as before where the message is above the limit
unfoldable pub digest_buffer : ℕ → ℕ → List ℕ → List ℕ → List ℕ
digest_buffer limit n before d = cond (ltb limit n) before d
