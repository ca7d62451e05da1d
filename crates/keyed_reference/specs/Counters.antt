-- No counter block is enciphered twice in a run, and none is left out of the trace. The trace has the Block steps of C; block t of the scheduler
-- is none: it is enciphered under the scheduler key. And how stale the key is (02 (iv)).
-- Assumes nothing.
use Rattle.std.specs.Prelude.{◌≡◌, cond, not, ◌&&◌, List, [], ◌∷◌, ℕ, ◌+◌, min, eqb, ltb, length}
use Rattle.laws.specs.Lists.{joined}
use Rattle.pools.specs.Calls.{Outcome}
use Rattle.keyed.specs.declared.Keyed.{Keyed}
use Rattle.keyed.specs.State.{counter_of}
use Rattle.keyed.specs.Entries.{Entry}
use Rattle.keyed_reference.specs.Runs.{run, state_after, tally, is_event, is_update}

-- the counter blocks of a run, in the order of its Block steps
unfoldable pub counter_blocks : List ℕ → List Entry → List (List ℕ)
counter_blocks key calls = joined (λ (o : Outcome Keyed). o.effect.trace) (run key calls)

-- the pools emptied in a run, and its accepted updates, each of which reseeds the generator with its seed
unfoldable pub emptyings : {S : Type 0} → List Entry → List (Outcome S) → ℕ
emptyings calls os = tally (λ c o. o.effect.emptied) calls os

unfoldable pub seeds : {S : Type 0} → List Entry → List (Outcome S) → ℕ
seeds calls os = tally (λ c o. cond (is_update c.call && eqb o.number 0) 1 0) calls os

-- the trace is whole: C, which starts at 0, counts each of its blocks, each emptying and each seed
abbrev pub Counted : List ℕ → List Entry → Type 0
Counted key calls =
    counter_of (state_after key calls)
    ≡ length (counter_blocks key calls) + (emptyings calls (run key calls) + seeds calls (run key calls))

-- the requests made on the key, where n were made before these calls: an emptying starts anew, and each accepted call that is no event is one
unfoldable pub since_emptying : {S : Type 0} → ℕ → List Entry → List (Outcome S) → ℕ
since_emptying n [] os = n
since_emptying n (c ∷ cs) [] = n
since_emptying n (c ∷ cs) (o ∷ os) =
    since_emptying (cond (ltb 0 o.effect.emptied) 0 n + cond (not (is_event c.call) && eqb o.number 0) 1 0) cs os

-- after the calls the number is the smaller of 65,535 and their count
abbrev pub OnOneKey : List ℕ → List Entry → Type 0
OnOneKey key calls = (state_after key calls).key_requests ≡ min 65535 (since_emptying 0 calls (run key calls))
