-- An event with its list: its number, the list it leaves, and the pool to store.
-- Assumes nothing.
use mathlib.Core.Path.{◌≡◌, refl, sym, ap, ap₂, ◌∙◌, subst₂}
use mathlib.Core.Logic.{◌≢◌}
use mathlib.Core.Bool.{Bool, true, false, cond}
use mathlib.Core.List.{List, []}
use Prim.Native.Nat.{ℕ, ◌-◌, ◌%◌}
use native.Mathlib.Nat.{mod-eq_of_lt}
use lib.Dec.{eqb, ltb}
use lib.ListN.{length}
use borrow.Author.Tests.{eqb-true, eqb-false}
use Rattle.std.proofs.Common.{Result}
use Rattle.laws.specs.Refusals.{refuse}
use Rattle.laws.proofs.Cases.{by-test}
use Rattle.pools.specs.declared.Fortuna.{Fortuna}
use Rattle.pools.specs.declared.Gain.{Gain}
use Rattle.pools.specs.declared.Outcome as Method
use Rattle.pools.specs.declared.refusal.Refusal.{Refusal}
use Rattle.pools.specs.Events.{max_source, pool_count, gain}
use Rattle.pools.specs.Pool.{full}
use Rattle.pools.specs.State.{pool_at, malformed}
use Rattle.pools.specs.Refusals.{event_input, event_state}
use Rattle.pools.specs.Effects.{with_pool, unchanged}
use Rattle.pools.specs.Calls.{Call, event, input_buffer, input_number, state_number, call_number, call_found, call_value, call_effect, Outcome, outcome, step}
use Rattle.pools.specs.Promises.{number, Gains}
use Rattle.pools.proofs.Chains.{then-nothing, call-chains}
use Rattle.pools.proofs.EventCalls.{gain-place, pool-kept}
use Rattle.pools.proofs.Outcomes.{outcome-refused}
use Rattle.quotas.specs.declared.Quota.{Quota}
use Rattle.quotas.specs.Records.{quotas_number, charged}
use Rattle.quotas.specs.Charges.{comes_first, charge_number, charge_list}
use Rattle.quotas.specs.Entries.{within, taking, list_number, entry_number, entry_step}
use Rattle.quotas.specs.Left.{left_by}
use Rattle.quotas.proofs.Left.{left-refused, left-charged}
use Rattle.hash.specs.declared.hasher.Hasher.{Hasher}
use Rattle.metered.specs.Metering.{known_of, cost_of, Meters, MetersGain}
use Rattle.metered.proofs.EventNumbers.{ByState, own_number, listed_number, charge-number, listed-passed, Own, own-or-list}

-- ---- its state's number

state-numbers : (t u : Bool) → ByState (refuse t 21 (refuse u 22 0))
unfolding comes_first known_of
state-numbers true u = record { behind = refl; late = refl }
state-numbers false true = record { behind = refl; late = refl }
state-numbers false false = record { behind = refl; late = refl }

state-late : (s : Fortuna) (source pool : ℕ) (content : List ℕ) → ByState (state_number s (event source pool content))
unfolding state_number event_state
state-late s source pool content = state-numbers (malformed s) (full (pool_at s pool).length (gain (length content)))

module _ (s : Fortuna) (rs : List Quota) (source pool : ℕ) (content : List ℕ) where
  abbrev c : Call
  c = event source pool content

  abbrev n : ℕ
  n = length content

  abbrev E : Outcome Fortuna
  E = entry_step s (taking (within rs) c)

  abbrev N : ℕ
  N = entry_number s (taking (within rs) c)

  -- the tests for 11 and 12
  abbrev no_source : Bool
  no_source = ltb max_source source

  abbrev no_pool : Bool
  no_pool = ltb (pool_count - 1) pool

  -- its number with the list, and without
  number-with : N ≡ listed_number rs source n no_source no_pool (state_number s c)
  unfolding entry_number input_number list_number event_input
  number-with = refl

  number-own : call_number s c ≡ own_number rs source n no_source no_pool (state_number s c)
  unfolding input_number event_input
  number-own = call-chains s c

  -- a number that the list does not give is the event's own
  own-number : Own (call_number s c) N
  own-number = subst₂ Own (sym number-own) (sym number-with) (own-or-list rs source n no_source no_pool (state_number s c))

  own_is : (step s c).number ≡ call_number s c
  unfolding step outcome call_found
  own_is = then-nothing (call_number s c)

  number_is : charge_number rs source (cost_of n) (known_of (call_number s c) (quotas_number rs)) ≡ N
  number_is =
      ap (λ (k : ℕ). charge_number rs source (cost_of n) (known_of k (quotas_number rs))) number-own
      ∙ charge-number rs source n no_source no_pool (state_number s c) (state-late s source pool content)
      ∙ sym number-with

  -- ---- accepted: as without a list

  module _ (accepted : N ≡ 0) where
    both : (own_number rs source n no_source no_pool (state_number s c) ≡ 0) × (cost_of n ≡ gain n)
    both = listed-passed rs source n no_source no_pool (state_number s c) (sym number-with ∙ accepted)

    E-done : E ≡ step s c
    unfolding entry_step step
    E-done = rw (accepted, number-own ∙ both.0)

  E-refused : N ≢ 0 → E ≡ record { number = N; value = 0; effect = unchanged [] s }
  unfolding entry_step input_buffer
  E-refused h = outcome-refused N (call_found s c) (call_value s c) [] s (call_effect s c) h

  -- ---- what is stored, and the list: a is the answer by the list, and g what the event comes to without one

  -- charged by its own number without a list
  charged-number : (own : ℕ) → own ≡ (step s c).number → charge_number rs source (cost_of n) (known_of own (quotas_number rs)) ≡ N
  charged-number own e =
      ap (λ (k : ℕ). charge_number rs source (cost_of n) (known_of k (quotas_number rs))) (e ∙ own_is) ∙ number_is

  list_left : (cost : ℕ) → (N ≡ 0 → cost ≡ gain n) → cond (eqb N 0) (charged rs source cost) rs ≡ left_by s rs c
  list_left cost h =
      by-test (eqb N 0) (cond (eqb N 0) (charged rs source cost) rs ≡ left_by s rs c)
      (λ t. let e = eqb-true N 0 t in rw (t, h e) (sym (left-charged s rs source pool content e)))
      (λ t. rw t (sym (left-refused s rs c (eqb-false N 0 t))))

  module _ (g : Gain) (k : ℕ) (zs : List Quota) (own : Gains (step s c) s pool g)
      (told : k ≡ charge_number rs source (cost_of n) (known_of (number g.answer) (quotas_number rs)))
      (settled : zs ≡ charge_list rs source (cost_of n) (known_of (number g.answer) (quotas_number rs))) where
    told-is : k ≡ N
    told-is = told ∙ charged-number (number g.answer) own.0

    left_is : zs ≡ left_by s rs c
    unfolding charge_list
    left_is =
        settled ∙ ap (λ (j : ℕ). cond (eqb j 0) (charged rs source (cost_of n)) rs) (charged-number (number g.answer) own.0)
        ∙ list_left (cost_of n) (λ z. (both z).1)

    pub metered-done : k ≡ 0 → MetersGain s rs source pool content g zs
    metered-done z = (rw (E-done (sym told-is ∙ z)) own, left_is)

    pub metered-refused :
        (a : Result Unit Refusal) (held : Hasher) → k ≢ 0 → number a ≡ k → held ≡ pool_at s g.place →
        MetersGain s rs source pool content (record { answer = a; place = g.place; pool = held }) zs
    unfolding unchanged
    metered-refused a held some is kept =
        let place = own.2 in
        let there : held ≡ pool_at s (pool % pool_count) = kept ∙ ap (pool_at s) place in (
          rw (E-refused (λ z. some (told-is ∙ z)))
              (is ∙ told-is, refl, place, ap₂ (with_pool s) place there ∙ pool-kept s (pool % pool_count), there),
          left_is,
        )

  -- the pool stored: the event's outcome
  pub stored-gain :
      (g : Gain) (r : Method.Outcome Fortuna) (left : List Quota) → MetersGain s rs source pool content g left →
      (r.answer ≡ g.answer) × (r.emptied ≡ 0) × (r.next ≡ with_pool s (g.place % 32) g.pool) → Meters s rs c r left
  stored-gain g r left m e =
      let given = m.0 in
      let place : g.place % 32 ≡ g.place = mod-eq_of_lt (gain-place pool g.place given.2) in
      ((ap number e.0 ∙ given.0, e.1 ∙ sym given.1, e.2 ∙ ap (λ (i : ℕ). with_pool s i g.pool) place ∙ given.3), m.1)
