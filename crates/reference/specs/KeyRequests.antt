-- Request (iv): how stale the key is. The number in the state counts the requests made since the last pool reseed, up to 65,535.
-- Assumes nothing.
use Rattle.std.specs.Prelude.{◌≡◌, cond, List, [], ◌∷◌, ℕ, ◌+◌, min, ltb, length}
use Rattle.laws.specs.Refusals.{guarded}
use Rattle.pools.specs.declared.Fortuna.{Fortuna}
use Rattle.pools.specs.State.{fresh}
use Rattle.pools.specs.Calls.{Call, event, request, update, write, draw, shuffle}
use Rattle.pools.specs.Tries.{call_tries}
use Rattle.quotas.specs.Entries.{Entry, entry_number, entry_step}
use Rattle.reference.specs.Runs.{state_after}

-- the requests that an accepted call makes: a request and a seed call are one each, a draw and a shuffle one for each try, an event none
unfoldable pub requests_of : Fortuna → Call → ℕ
requests_of s (event source pool content) = 0
requests_of s (request clock buffer) = 1
requests_of s (update clock seed) = 1
requests_of s (write clock seed) = 1
requests_of s (draw clock n d) = length (call_tries s (draw clock n d))
requests_of s (shuffle clock list) = length (call_tries s (shuffle clock list))

-- a refused call makes none
unfoldable pub requests_made : Fortuna → Entry → ℕ
requests_made s c = guarded (entry_number s c) (requests_of s c.call) 0

-- the requests made on the key after some calls, where n were made before them: a call that empties pools starts anew with its own
unfoldable pub since_reseed : ℕ → Fortuna → List Entry → ℕ
since_reseed n s [] = n
since_reseed n s (c ∷ calls) =
    since_reseed (cond (ltb 0 (entry_step s c).effect.emptied) 0 n + requests_made s c) (entry_step s c).effect.next calls

-- after the calls the number is the smaller of 65,535 and the count of these requests
abbrev pub OnOneKey : List Entry → Type 0
OnOneKey calls = (state_after calls).key_requests ≡ min 65535 (since_reseed 0 fresh calls)

-- a call on any state, whatever its number before: a call that empties pools starts anew, and each request that it makes is one more
abbrev pub CountStep : Type 0
CountStep =
    (s : Fortuna) (c : Entry) (n : ℕ) → s.key_requests ≡ min 65535 n →
    (entry_step s c).effect.next.key_requests ≡ min 65535 (cond (ltb 0 (entry_step s c).effect.emptied) 0 n + requests_made s c)
