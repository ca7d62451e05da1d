-- Calls that take a list of quotas, and calls without one (02 (x) and (xiv)): the number that refuses each, what it gives, and the list
-- that it returns.
-- Assumes nothing.
use Rattle.std.specs.Prelude.{true, List, ℕ, length}
use Rattle.pools.specs.Events.{gain}
use Rattle.pools.specs.Refusals.{and_then}
use Rattle.pools.specs.Calls.{Outcome, outcome}
use Rattle.quotas.specs.declared.Quota.{Quota}
use Rattle.quotas.specs.Records.{quotas_number, event_quotas_number, charged}
use Rattle.quotas.specs.Entries.{Quotas, without, within, settled_list, left_with}
use Rattle.keyed.specs.declared.Keyed.{Keyed}
use Rattle.keyed.specs.Calls.{Call, event, request, update, write, input_buffer, input_number, state_number, call_effect}

-- a call, and the list that it takes
pub record Entry : Type 0 where
  pub call : Call
  pub quotas : Quotas

abbrev pub taking : Quotas → Call → Entry
taking q c = record { call = c; quotas = q }

-- the number that a list gives a call: 37; for an event, which costs what its pool gains, 38 and 39 too
unfoldable pub list_number : Quotas → Call → ℕ
list_number without c = 0
list_number (within rs) (event source content) = event_quotas_number rs source (gain (length content))
list_number (within rs) (request buffer) = quotas_number rs
list_number (within rs) (update seed) = quotas_number rs
list_number (within rs) (write seed) = quotas_number rs

-- 0, or the number that refuses the call before it does anything: the input's, then the list's, then the state's
unfoldable pub entry_number : Keyed → Entry → ℕ
entry_number s e = and_then (input_number e.call) (and_then (list_number e.quotas e.call) (state_number s e.call))

-- the step of a state: as without a list, but that `entry_number` refuses it
unfoldable pub entry_step : Keyed → Entry → Outcome Keyed
entry_step s e = outcome (entry_number s e) true 0 (input_buffer e.call) s (call_effect s e.call)

-- the list once an accepted call is charged: an event adds to its source's record
unfoldable pub charged_for : Call → List Quota → List Quota
charged_for (event source content) rs = charged rs source (gain (length content))
charged_for (request buffer) rs = rs
charged_for (update seed) rs = rs
charged_for (write seed) rs = rs

-- the list that a call returns: with nothing spent where it emptied a pool, its own event's bytes included; charged where it was accepted;
-- else as it was
unfoldable pub quotas_left : {S : Type 0} → Call → List Quota → Outcome S → List Quota
quotas_left c rs o = settled_list o (charged_for c rs) rs

-- without a list there is none to return
unfoldable pub list_remaining : {S : Type 0} → Entry → Outcome S → Quotas
list_remaining e o = left_with (λ rs. quotas_left e.call rs o) e.quotas

-- what the call c leaves of its list rs on the state s
unfoldable pub left_by : Keyed → List Quota → Call → List Quota
left_by s rs c = quotas_left c rs (entry_step s (taking (within rs) c))
