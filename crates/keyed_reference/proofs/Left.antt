-- What a call leaves of its list, and which numbers refuse it.
-- Assumes nothing.
use mathlib.Core.Path.{◌≡◌, refl, sym, ap, ◌∙◌}
use mathlib.Core.Bool.{Bool, true, false, cond, ◌&&◌, true≢false}
use mathlib.Core.Logic.{◌≢◌}
use mathlib.Core.List.{List, map}
use Prim.Native.Nat.{ℕ, ◌+◌, ◌<◌}
use native.Mathlib.Omega.{arith}
use lib.Dec.{eqb, ltb}
use lib.ListN.{length}
use borrow.Author.Tests.{eqb-true, eqb-false, ltb-true, ltb-false, lt-ltb}
use Rattle.laws.specs.Refusals.{refuse}
use Rattle.laws.specs.Lists.{count_of}
use Rattle.laws.proofs.Cases.{by-test}
use Rattle.pools.specs.Events.{header_length, gain}
use Rattle.pools.specs.Refusals as Pools
use Rattle.pools.specs.Refusals.{and_then}
use Rattle.pools.specs.Effects.{unchanged}
use Rattle.pools.specs.Calls.{Outcome, effect_of, outcome}
use Rattle.pools.proofs.Chains.{then-holds, then-second, both-passed, then-cong}
use Rattle.pools.proofs.Outcomes.{outcome-refused}
use Rattle.quotas.specs.declared.Quota.{Quota}
use Rattle.quotas.specs.Records.{malformed_quotas, quotas_number, event_quotas_number, cleared}
use Rattle.quotas.specs.Entries.{Quotas, without, within}
use Rattle.quotas.proofs.Lists.{charged-each, event-passes, charged-formed, cleared-formed}
use Rattle.quotas.proofs.Left.{passed-alone}
use Rattle.keyed.specs.declared.Keyed.{Keyed}
use Rattle.keyed.specs.Scheduler.{empties}
use Rattle.keyed.specs.Refusals.{step_number, event_input, event_state}
use Rattle.keyed.specs.Effects.{add_event, random_data_from, random_data, reseed_with_seed, update_seed, write_seed}
use Rattle.keyed.specs.Calls.{Call, event, request, update, write, input_buffer, input_number, state_number, call_effect, step}
use Rattle.keyed.specs.Entries.{taking, list_number, entry_number, entry_step, charged_for, quotas_left, left_by}
use Rattle.keyed.proofs.Chains.{call-chains}
use Rattle.keyed_reference.specs.Runs.{is_event}
use Rattle.keyed_reference.specs.Schedule.{EmptiedLaw}
use Rattle.keyed_reference.specs.Provenance.{NoEvent}
use Rattle.keyed_reference.specs.Left.{WithoutList, LeftLaw, entry_numbers, NumbersLaw}
use Rattle.keyed_reference.proofs.Lists.{step-number}

-- ---- which calls empty a pool

accepted-emptied : (s : Keyed) (c : Call) → (call_effect s c).emptied ≡ cond (is_event c && empties s.step) 1 0
unfolding call_effect add_event random_data random_data_from update_seed reseed_with_seed write_seed is_event
accepted-emptied s (event source content) = refl
accepted-emptied s (request buffer) = refl
accepted-emptied s (update seed) = refl
accepted-emptied s (write seed) = refl

pub emptied-law : EmptiedLaw
unfolding entry_step outcome effect_of
emptied-law s c = go (is_event c.call) (accepted-emptied s c.call) (eqb (entry_number s c) 0)
  where
    go : (u : Bool) → (call_effect s c.call).emptied ≡ cond (u && empties s.step) 1 0 → (t : Bool)
        → (cond t (call_effect s c.call) (unchanged (input_buffer c.call) s)).emptied ≡ cond (u && t && empties s.step) 1 0
    go true e true = e
    go true e false = unfold unchanged in refl
    go false e true = e
    go false e false = unfold unchanged in refl

-- ---- the list

no-event : (c : Call) → is_event c ≡ false → (source : ℕ) (content : List ℕ) → c ≡ event source content → ⊥
unfolding is_event
no-event c h source content q = true≢false (sym (ap is_event q) ∙ h)

module _ (s : Keyed) (rs : List Quota) where
  abbrev giving : Call → Outcome Keyed
  giving c = entry_step s (taking (within rs) c)

  refused-left : (c : Call) → entry_number s (taking (within rs) c) ≢ 0 → left_by s rs c ≡ rs
  unfolding left_by quotas_left entry_step unchanged
  refused-left c h =
      let n = entry_number s (taking (within rs) c) in
      rw (outcome-refused n true 0 (input_buffer c) s (call_effect s c) h, ne-zero n h)
    where
      ne-zero : (n : ℕ) → n ≢ 0 → eqb n 0 ≡ false
      ne-zero n k = by-test (eqb n 0) (eqb n 0 ≡ false) (λ t. absurd (k (eqb-true n 0 t))) (λ t. t)

  cleared-left : (c : Call) → 0 < (giving c).effect.emptied → left_by s rs c ≡ cleared rs
  unfolding left_by quotas_left
  cleared-left c h = rw (lt-ltb 0 (giving c).effect.emptied h)

  charged-left : (c : Call) → entry_number s (taking (within rs) c) ≡ 0 → (giving c).effect.emptied ≡ 0 → left_by s rs c ≡ charged_for c rs
  unfolding left_by quotas_left
  charged-left c h z = rw (z, step-number s (taking (within rs) c), h)

  allowed : (source : ℕ) (content : List ℕ) → entry_number s (taking (within rs) (event source content)) ≡ 0
      → event_quotas_number rs source (gain (length content)) ≡ 0
  unfolding entry_number list_number
  allowed source content h = (both-passed _ _ (both-passed (input_number (event source content)) _ h).1).0

  event-left : (source : ℕ) (content : List ℕ) → entry_number s (taking (within rs) (event source content)) ≡ 0
      → (giving (event source content)).effect.emptied ≡ 0
      → left_by s rs (event source content)
      ≡ map (λ (r : Quota). record {
        source = r.source;
        allowance = r.allowance;
        spent = r.spent + cond (eqb r.source source) (3 + length content) 0;
      }) rs
  unfolding charged_for gain header_length
  event-left source content h z =
      let p = event-passes rs source (gain (length content)) (allowed source content h) in
      charged-left (event source content) h z ∙ charged-each rs source (3 + length content) (passed-alone rs p.formed)

  plain-charge : (c : Call) → NoEvent (taking (within rs) c) → charged_for c rs ≡ rs
  unfolding charged_for
  plain-charge (event source content) none = absurd (none source content refl)
  plain-charge (request buffer) none = refl
  plain-charge (update seed) none = refl
  plain-charge (write seed) none = refl

  plain-emptied : (c : Call) → NoEvent (taking (within rs) c) → (giving c).effect.emptied ≡ 0
  plain-emptied c none = emptied-law s (taking (within rs) c) ∙ go c none
    where
      go : (d : Call) → ((source : ℕ) (content : List ℕ) → d ≡ event source content → ⊥)
          → ◌≡◌ {A = ℕ} (cond (is_event d && eqb (entry_number s (taking (within rs) c)) 0 && empties s.step) 1 0) 0
      go (event source content) h = absurd (h source content refl)
      go (request buffer) h = unfold is_event in refl
      go (update seed) h = unfold is_event in refl
      go (write seed) h = unfold is_event in refl

  others-left : (c : Call) → NoEvent (taking (within rs) c) → left_by s rs c ≡ rs
  others-left c none =
      by-test (eqb (entry_number s (taking (within rs) c)) 0) _
      (λ t. charged-left c (eqb-true _ 0 t) (plain-emptied c none) ∙ plain-charge c none)
      (λ t. refused-left c (eqb-false _ 0 t))

  event-formed : (source : ℕ) (content : List ℕ) → malformed_quotas rs ≡ false → malformed_quotas (left_by s rs (event source content)) ≡ false
  event-formed source content h =
      let c = event source content in
      by-test (eqb (entry_number s (taking (within rs) c)) 0) (malformed_quotas (left_by s rs c) ≡ false)
      (λ t. by-test (ltb 0 (giving c).effect.emptied) (malformed_quotas (left_by s rs c) ≡ false)
      (λ u. rw (cleared-left c (ltb-true 0 _ u)) (cleared-formed rs h))
      (λ u. rw (charged-left c (eqb-true _ 0 t) (none-emptied u))
      (unfold charged_for in charged-formed rs source _ (event-passes rs source _ (allowed source content (eqb-true _ 0 t))))))
      (λ t. rw (refused-left c (eqb-false _ 0 t)) h)
    where
      none-emptied : {n : ℕ} → ltb 0 n ≡ false → n ≡ 0
      none-emptied {n} u = omega (arith, ltb-false 0 n u)

  left-formed : (c : Call) → malformed_quotas rs ≡ false → malformed_quotas (left_by s rs c) ≡ false
  left-formed (event source content) h = event-formed source content h
  left-formed (request buffer) h = rw (others-left (request buffer) (no-event (request buffer) (unfold is_event in refl))) h
  left-formed (update seed) h = rw (others-left (update seed) (no-event (update seed) (unfold is_event in refl))) h
  left-formed (write seed) h = rw (others-left (write seed) (no-event (write seed) (unfold is_event in refl))) h

  pub left-law : LeftLaw s rs
  left-law =
      record {
        refused = refused-left;
        emptied = λ c h. cleared-left c h ∙ (unfold cleared in refl);
        event = event-left;
        others = others-left;
        formed = left-formed;
      }

-- ---- without a list

pub without-list : WithoutList
unfolding entry_step step entry_number list_number
without-list s c =
    ap (λ (n : ℕ). outcome n true 0 (input_buffer c) s (call_effect s c))
    (then-cong (input_number c) (and_then 0 (state_number s c)) (state_number s c) (λ _. then-second 0 (state_number s c) refl) ∙ sym (call-chains s c))

-- ---- the numbers

record Known (q : Quotas) (c : Call) (n : ℕ) : Type 0 where
  listed : count_of n (entry_numbers q c) ≡ 1

module _ (q : Quotas) (c : Call) where
  refuse-known : (t : Bool) (n rest : ℕ) → Known q c n → Known q c rest → Known q c (refuse t n rest)
  refuse-known true n rest h k = h
  refuse-known false n rest h k = k

  then-known : (first second : ℕ) → Known q c first → Known q c second → Known q c (and_then first second)
  then-known = then-holds (Known q c)

-- the chains of which the checks are made
chains : Unit {0}
unfolding event_input event_state step_number Pools.event_state Pools.request_input Pools.output_state Pools.seed_input Pools.update_input Pools.update_state
chains = tt

number-known : (s : Keyed) (q : Quotas) (c : Call) → Known q c (entry_number s (taking q c))
unfolding entry_number input_number state_number list_number quotas_number event_quotas_number chains count_of entry_numbers
number-known s without (event source content) = search (refuse-known, then-known) depth 10
number-known s without (request buffer) = search (refuse-known, then-known) depth 10
number-known s without (update seed) = search (refuse-known, then-known) depth 10
number-known s without (write seed) = search (refuse-known, then-known) depth 10
number-known s (within rs) (event source content) = search (refuse-known, then-known) depth 12
number-known s (within rs) (request buffer) = search (refuse-known, then-known) depth 10
number-known s (within rs) (update seed) = search (refuse-known, then-known) depth 10
number-known s (within rs) (write seed) = search (refuse-known, then-known) depth 10

pub numbers-law : NumbersLaw
numbers-law s q c = (number-known s q c).listed
