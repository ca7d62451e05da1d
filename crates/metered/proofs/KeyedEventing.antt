-- An event of the keyed scheduler with its list: its number, its outcome, and the list that it leaves.
-- Assumes nothing.
use mathlib.Core.Path.{◌≡◌, refl, sym, ap, ap₂, ◌∙◌, subst₂}
use mathlib.Core.Logic.{◌≢◌}
use mathlib.Core.Bool.{Bool, true, false, cond, ◌&&◌}
use mathlib.Core.List.{List, []}
use Prim.Native.Nat.{ℕ}
use lib.Dec.{eqb, ltb}
use lib.ListN.{length}
use borrow.Author.Tests.{eqb-true}
use Rattle.std.proofs.Common.{Err}
use Rattle.laws.specs.Refusals.{refuse}
use Rattle.laws.proofs.Cases.{cond-cong}
use Rattle.pools.specs.Events.{max_source, gain}
use Rattle.pools.specs.Pool.{full}
use Rattle.pools.specs.Refusals as Pools
use Rattle.pools.specs.Refusals.{and_then}
use Rattle.pools.specs.Effects.{unchanged}
use Rattle.pools.specs.Calls as Calls
use Rattle.pools.specs.Calls.{outcome}
use Rattle.pools.specs.declared.Outcome as Method
use Rattle.pools.specs.declared.refusal.Refusal.{Refusal}
use Rattle.pools.specs.Promises.{code, number, Gives}
use Rattle.pools.proofs.Chains.{then-nothing}
use Rattle.pools.proofs.Outcomes.{outcome-refused}
use Rattle.quotas.specs.declared.Quota.{Quota}
use Rattle.quotas.specs.Records.{quotas_number, charged, cleared}
use Rattle.quotas.specs.Charges.{comes_first, charge_number, charge_list, cleared_after}
use Rattle.quotas.specs.Entries.{within}
use Rattle.quotas.proofs.Lists.{cleared-charged}
use Rattle.keyed.specs.declared.Keyed.{Keyed}
use Rattle.keyed.specs.Scheduler.{empties}
use Rattle.keyed.specs.State.{pool_at, counter_of, malformed, picked}
use Rattle.keyed.specs.Refusals.{max_step, step_number, event_input, event_state}
use Rattle.keyed.specs.Calls.{Call, event, input_buffer, input_number, state_number, call_number, call_effect, step}
use Rattle.keyed.specs.Entries.{taking, list_number, entry_number, entry_step, charged_for, quotas_left, left_by}
use Rattle.keyed.proofs.Chains.{call-chains}
use Rattle.metered.specs.Metering.{known_of, cost_of}
use Rattle.metered.specs.KeyedMetering.{KeyedMeters}
use Rattle.metered.proofs.EventNumbers.{ByState, own_number, listed_number, charge-number, listed-passed, Own, own-or-list}
use Rattle.metered.proofs.Gating.{some-code}

-- ---- its state's number

state-numbers : (t u e f : Bool) → ByState (and_then (refuse t 21 (refuse u 22 0)) (refuse e 45 (refuse f 24 0)))
unfolding comes_first known_of and_then
state-numbers true u e f = record { behind = refl; late = refl }
state-numbers false true e f = record { behind = refl; late = refl }
state-numbers false false true f = record { behind = refl; late = refl }
state-numbers false false false true = record { behind = refl; late = refl }
state-numbers false false false false = record { behind = refl; late = refl }

state-late : (s : Keyed) (source : ℕ) (content : List ℕ) → ByState (state_number s (event source content))
unfolding state_number event_state Pools.event_state step_number
state-late s source content =
    state-numbers (malformed s) (full (pool_at s (picked s)).length (gain (length content)))
    (eqb s.step max_step) (empties s.step && Pools.spent (counter_of s) true 0)

module _ (s : Keyed) (rs : List Quota) (source : ℕ) (content : List ℕ) where
  abbrev c : Call
  c = event source content

  abbrev n : ℕ
  n = length content

  abbrev E : Calls.Outcome Keyed
  E = entry_step s (taking (within rs) c)

  abbrev N : ℕ
  N = entry_number s (taking (within rs) c)

  -- the test for 11; none is for 12
  abbrev no_source : Bool
  no_source = ltb max_source source

  -- its number with the list, and without
  number-with : N ≡ listed_number rs source n no_source false (state_number s c)
  unfolding entry_number input_number list_number event_input
  number-with = refl

  number-own : call_number s c ≡ own_number rs source n no_source false (state_number s c)
  unfolding input_number event_input
  number-own = call-chains s c

  -- a number that the list does not give is the event's own
  own-number : Own (call_number s c) N
  own-number = subst₂ Own (sym number-own) (sym number-with) (own-or-list rs source n no_source false (state_number s c))

  own_is : (step s c).number ≡ call_number s c
  unfolding step outcome
  own_is = then-nothing (call_number s c)

  listed-is : E.number ≡ N
  unfolding entry_step outcome
  listed-is = then-nothing N

  number_is : charge_number rs source (cost_of n) (known_of (step s c).number (quotas_number rs)) ≡ N
  number_is =
      ap (λ (k : ℕ). charge_number rs source (cost_of n) (known_of k (quotas_number rs))) (own_is ∙ number-own)
      ∙ charge-number rs source n no_source false (state_number s c) (state-late s source content)
      ∙ sym number-with

  -- ---- accepted: as without a list; else everything is as it was

  module _ (accepted : N ≡ 0) where
    both : (own_number rs source n no_source false (state_number s c) ≡ 0) × (cost_of n ≡ gain n)
    both = listed-passed rs source n no_source false (state_number s c) (sym number-with ∙ accepted)

    E-done : E ≡ step s c
    unfolding entry_step step
    E-done = rw (accepted, number-own ∙ both.0)

  E-refused : N ≢ 0 → E ≡ record { number = N; value = 0; effect = unchanged [] s }
  unfolding entry_step input_buffer
  E-refused h = outcome-refused N true 0 [] s (call_effect s c) h

  -- ---- its list: charged where it was accepted, and then with nothing spent where its step emptied a pool

  charged-list :
      (cost : ℕ) → (N ≡ 0 → cost ≡ gain n) → cond (eqb N 0) (charged rs source cost) rs ≡ cond (eqb N 0) (charged rs source (gain n)) rs
  charged-list cost h = cond-cong (eqb N 0) (λ t. ap (charged rs source) (h (eqb-true N 0 t))) (λ t. refl)

  cleared-list : (t : Bool) (cost : ℕ) → cleared (cond t (charged rs source cost) rs) ≡ cleared rs
  cleared-list true cost = cleared-charged rs source cost
  cleared-list false cost = refl

  list_left : cleared_after E.effect.emptied (cond (eqb N 0) (charged rs source (gain n)) rs) ≡ left_by s rs c
  unfolding cleared_after left_by quotas_left charged_for
  list_left =
      cond-cong (ltb 0 E.effect.emptied) (λ t. cleared-list (eqb N 0) (gain n))
      (λ t. ap (λ (j : ℕ). cond (eqb j 0) (charged rs source (gain n)) rs) (sym listed-is))

  module _ (own : Method.Outcome Keyed) (k : ℕ) (ys : List Quota) (given : Gives (step s c) own)
      (told : k ≡ charge_number rs source (cost_of n) (known_of (number own.answer) (quotas_number rs)))
      (settled : ys ≡ charge_list rs source (cost_of n) (known_of (number own.answer) (quotas_number rs))) where
    charged-number : charge_number rs source (cost_of n) (known_of (number own.answer) (quotas_number rs)) ≡ N
    charged-number = ap (λ (m : ℕ). charge_number rs source (cost_of n) (known_of m (quotas_number rs))) given.0 ∙ number_is

    told-is : k ≡ N
    told-is = told ∙ charged-number

    charge : ys ≡ cond (eqb N 0) (charged rs source (gain n)) rs
    unfolding charge_list
    charge =
        settled ∙ ap (λ (j : ℕ). cond (eqb j 0) (charged rs source (cost_of n)) rs) charged-number
        ∙ charged-list (cost_of n) (λ z. (both z).1)

    pub gives-done : k ≡ 0 → Gives E own
    gives-done z = rw (E-done (sym told-is ∙ z)) given

    pub gives-refused :
        (r : Method.Outcome Keyed) (refusal : Refusal) → code refusal ≡ k → (r.answer ≡ Err refusal) × (r.emptied ≡ 0) × (r.next ≡ s) → Gives E r
    unfolding unchanged
    gives-refused r refusal is h =
        rw (E-refused (λ z. some-code refusal (is ∙ told-is ∙ z))) (ap number h.0 ∙ is ∙ told-is, h.1, h.2)

    pub metered-event : (r : Method.Outcome Keyed) (zs : List Quota) → Gives E r → zs ≡ cleared_after r.emptied ys → KeyedMeters s rs c r zs
    metered-event r zs made e = (made, e ∙ ap₂ cleared_after made.1 charge ∙ list_left)
