-- Two chains of refusals, one after the other, and the two chains of each call.
-- Assumes nothing.
use Rattle.std.proofs.Common.{◌≡◌, ℕ, cond, eqb, ◌≢◌, sym, refl, eq-eqb, ne_eqb, eqb-true}
use borrow.Author.Tests.{eqb-false}
use Rattle.laws.proofs.Cases.{split, cond-cong, by-test}
use Rattle.pools.specs.declared.Fortuna.{Fortuna}
use Rattle.pools.specs.Refusals.{and_then, event_number, request_number, write_number, update_number, draw_number, shuffle_number}
use Rattle.pools.specs.Calls.{Call, event, request, update, write, draw, shuffle, input_number, state_number, call_number}

-- nothing after the first; the first has a number, or has none
pub then-nothing : (n : ℕ) → and_then n 0 ≡ n
unfolding and_then
then-nothing n = by-test (eqb n 0) (cond (eqb n 0) 0 n ≡ n) (λ t. rw t (sym (eqb-true n 0 t))) (λ t. rw t)

pub then-first : (m n : ℕ) → m ≢ 0 → and_then m n ≡ m
unfolding and_then
then-first m n h = rw (ne_eqb m 0 h)

pub then-second : (m n : ℕ) → m ≡ 0 → and_then m n ≡ n
unfolding and_then
then-second m n e = rw (eq-eqb m 0 e)

-- an accepted call has passed both
pub both-passed : (m n : ℕ) → and_then m n ≡ 0 → (m ≡ 0) × (n ≡ 0)
unfolding and_then
both-passed m n e =
    by-test (eqb m 0) ((m ≡ 0) × (n ≡ 0))
    (λ t. (eqb-true m 0 t, rw t at e))
    (λ t. absurd (eqb-false m 0 t (rw t at e)))

-- the second chain counts only where the first has no number
pub then-cong : (m n n' : ℕ) → (m ≡ 0 → n ≡ n') → and_then m n ≡ and_then m n'
unfolding and_then
then-cong m n n' h = cond-cong (eqb m 0) (λ t. h (eqb-true m 0 t)) (λ t. refl)

-- three chains, one after the other
pub then-then : (m n k : ℕ) → and_then m (and_then n k) ≡ and_then (and_then m n) k
unfolding and_then
then-then m n k = by-test (eqb m 0) (and_then m (and_then n k) ≡ and_then (and_then m n) k) (λ t. rw t) (λ t. rw (t, t))

-- the first chain asked a second time, behind another
pub then-absorbed : (m l n : ℕ) → and_then m (and_then l n) ≡ and_then m (and_then l (and_then m n))
unfolding and_then
then-absorbed m l n =
    by-test (eqb m 0) (and_then m (and_then l n) ≡ and_then m (and_then l (and_then m n))) (λ t. rw t) (λ t. rw t)

-- what holds of each number of two chains holds of the first that applies
pub then-holds : (P : ℕ → Type 0) (first second : ℕ) → P first → P second → P (and_then first second)
unfolding and_then
then-holds P first second h k = split P (eqb first 0) (λ t. k) (λ t. h)

-- ---- a call's number is by its input, then by its state

pub call-chains : (s : Fortuna) (c : Call) → call_number s c ≡ and_then (input_number c) (state_number s c)
unfolding call_number input_number state_number event_number request_number update_number write_number draw_number shuffle_number
call-chains s (event source pool content) = refl
call-chains s (request clock buffer) = refl
call-chains s (update clock seed) = refl
call-chains s (write clock seed) = refl
call-chains s (draw clock n d) = refl
call-chains s (shuffle clock list) = refl
