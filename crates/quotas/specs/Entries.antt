-- Calls that take a list of quotas, and calls without one (02 (x)): the number that refuses each, what it gives, and the list it returns.
-- Assumes nothing.
use Rattle.std.specs.Prelude.{cond, List, [], ◌∷◌, ℕ, eqb, ltb, length}
use Rattle.pools.specs.declared.Fortuna.{Fortuna}
use Rattle.pools.specs.Events.{gain}
use Rattle.pools.specs.Refusals.{and_then}
use Rattle.pools.specs.Calls.{Call, event, request, update, write, draw, shuffle}
use Rattle.pools.specs.Calls.{input_buffer, input_number, state_number, call_found, call_value, call_effect, Outcome, outcome}
use Rattle.quotas.specs.declared.Quota.{Quota}
use Rattle.quotas.specs.Records.{quotas_number, event_quotas_number, charged, cleared}

-- what a call takes: no list, or the records that the lent list holds
pub data Quotas : Type 0 where
  without : Quotas
  within : List Quota → Quotas

-- a call, and the list that it takes
pub record Entry : Type 0 where
  pub call : Call
  pub quotas : Quotas

abbrev pub taking : Quotas → Call → Entry
taking q c = record { call = c; quotas = q }

-- ---- numbers

-- the number that a list gives a call: 37; for an event, which costs what its pool gains, 38 and 39 too
unfoldable pub list_number : Quotas → Call → ℕ
list_number without c = 0
list_number (within rs) (event source pool content) = event_quotas_number rs source (gain (length content))
list_number (within rs) (request clock buffer) = quotas_number rs
list_number (within rs) (update clock seed) = quotas_number rs
list_number (within rs) (write clock seed) = quotas_number rs
list_number (within rs) (draw clock n d) = quotas_number rs
list_number (within rs) (shuffle clock list) = quotas_number rs

-- 0, or the number that refuses the call before it does anything: the input's, then the list's, then the state's
unfoldable pub entry_number : Fortuna → Entry → ℕ
entry_number s e = and_then (input_number e.call) (and_then (list_number e.quotas e.call) (state_number s e.call))

-- ---- what a call gives

-- the step of a Fortuna state: as without a list, but that `entry_number` refuses it
unfoldable pub entry_step : Fortuna → Entry → Outcome Fortuna
entry_step s e =
    outcome (entry_number s e) (call_found s e.call) (call_value s e.call) (input_buffer e.call) s (call_effect s e.call)

-- the list once an accepted call is charged: an event adds to its source's record
unfoldable pub charged_for : Call → List Quota → List Quota
charged_for (event source pool content) rs = charged rs source (gain (length content))
charged_for (request clock buffer) rs = rs
charged_for (update clock seed) rs = rs
charged_for (write clock seed) rs = rs
charged_for (draw clock n d) rs = rs
charged_for (shuffle clock list) rs = rs

-- what is left of the list rs after a call of any kind: nothing spent where it emptied pools; `charge` where it was accepted; else rs
abbrev pub settled_list : {S : Type 0} → Outcome S → List Quota → List Quota → List Quota
settled_list o charge rs = cond (ltb 0 o.effect.emptied) (cleared rs) (cond (eqb o.number 0) charge rs)

-- the list that a call returns: with nothing spent where it made a pool reseed, 33 included; charged where it was accepted; else as it was
unfoldable pub quotas_left : {S : Type 0} → Call → List Quota → Outcome S → List Quota
quotas_left c rs o = settled_list o (charged_for c rs) rs

-- without a list there is none to return
unfoldable pub left_with : (List Quota → List Quota) → Quotas → Quotas
left_with f without = without
left_with f (within rs) = within (f rs)

unfoldable pub list_remaining : {S : Type 0} → Entry → Outcome S → Quotas
list_remaining e o = left_with (λ rs. quotas_left e.call rs o) e.quotas

-- the lists that calls of any kind return, by their outcomes, where f says what each returns
unfoldable pub lists_with : {E S : Type 0} → (E → Outcome S → Quotas) → List E → List (Outcome S) → List Quotas
lists_with f [] os = []
lists_with f (c ∷ cs) [] = []
lists_with f (c ∷ cs) (o ∷ os) = f c o ∷ lists_with f cs os
