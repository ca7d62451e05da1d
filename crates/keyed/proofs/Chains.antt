-- The two chains of each call: a call's number is by its input, then by its state.
-- Assumes nothing.
use mathlib.Core.Path.{◌≡◌, refl}
use Rattle.pools.specs.Refusals.{and_then, request_number, update_number, write_number}
use Rattle.keyed.specs.declared.Keyed.{Keyed}
use Rattle.keyed.specs.Refusals.{event_number}
use Rattle.keyed.specs.Calls.{Call, event, request, update, write, input_number, state_number, call_number}

pub call-chains : (s : Keyed) (c : Call) → call_number s c ≡ and_then (input_number c) (state_number s c)
unfolding call_number input_number state_number event_number request_number update_number write_number
call-chains s (event source content) = refl
call-chains s (request buffer) = refl
call-chains s (update seed) = refl
call-chains s (write seed) = refl
