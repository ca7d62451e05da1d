-- The digest buffer, from the answer of the hash.
-- Assumes nothing.
use mathlib.Core.Path.{◌≡◌, ◌∙◌}
use mathlib.Core.List.{List}
use Prim.Native.Nat.{ℕ}
use lib.Dec.{ltb}
use Rattle.std.specs.Prelude.{Result, MatchResult}
use borrow.Author.Tests.{ltb-false}
use Rattle.laws.proofs.Cases.{by-test}
use Rattle.hash.specs.declared.answer.TooLong.{TooLong}
use Rattle.hash.specs.Answers.{within}
use Rattle.hash.proofs.Laws.{above-limit, within-limit}
use Rattle.fortuna_c.specs.Buffers.{digest_buffer}

-- what a buffer holds after an answer for a message of n bytes whose digest would be x
pub stored : (limit n : ℕ) (x before after : List ℕ) (h : Result (List ℕ) TooLong) → h ≡ within limit n x
    → MatchResult h (λ d. after ≡ d) (λ _. after ≡ before) → after ≡ digest_buffer limit n before x
unfolding digest_buffer
stored limit n x before after h e s =
    by-test (ltb limit n) _
    (λ t. rw (e ∙ above-limit limit n x t) at s ∙ rw t)
    (λ t. rw (e ∙ within-limit limit n x (ltb-false limit n t)) at s ∙ rw t)
