-- A call of the keyed scheduler that is no event, behind the gate of its list.
-- Assumes nothing.
use mathlib.Core.Path.{◌≡◌, refl, sym, subst}
use mathlib.Core.Bool.{true}
use mathlib.Core.List.{List}
use Prim.Native.Nat.{ℕ}
use lib.Dec.{eqb}
use borrow.Author.Tests.{eqb-true, eqb-false}
use Rattle.laws.proofs.Cases.{split, by-test}
use Rattle.pools.specs.Effects.{Effect, unchanged}
use Rattle.pools.specs.Calls as Calls
use Rattle.pools.specs.Calls.{outcome, effect_of}
use Rattle.pools.specs.declared.Outcome as Method
use Rattle.pools.specs.Promises.{GivesBytes}
use Rattle.quotas.specs.declared.Quota.{Quota}
use Rattle.quotas.specs.Records.{quotas_number}
use Rattle.quotas.specs.Entries.{within}
use Rattle.keyed.specs.declared.Keyed.{Keyed}
use Rattle.keyed.specs.Effects.{random_data_from, random_data, update_seed, write_seed}
use Rattle.keyed.specs.Calls.{Call, request, update, write, input_buffer, input_number, state_number, call_effect, step}
use Rattle.keyed.specs.Entries.{taking, list_number, entry_number, entry_step, charged_for, quotas_left, left_by}
use Rattle.keyed.proofs.Chains.{call-chains}
use Rattle.metered.specs.Metering.{gate_number}
use Rattle.metered.specs.KeyedMetering.{KeyedMetersBytes, BehindGate}
use Rattle.metered.proofs.Gating.{passed-is, refused-is}

-- ---- calls that are no events: the list gives them 37 alone, they charge nothing, and they empty no pool

pub record Plain (c : Call) : Type 0 where
  pub number : (rs : List Quota) → list_number (within rs) c ≡ quotas_number rs
  pub free : (rs : List Quota) → charged_for c rs ≡ rs
  pub none : (s : Keyed) → (call_effect s c).emptied ≡ 0

pub request-plain : (buffer : List ℕ) → Plain (request buffer)
unfolding list_number charged_for call_effect random_data random_data_from
request-plain buffer = record { number = λ rs. refl; free = λ rs. refl; none = λ s. refl }

pub update-plain : (seed : List ℕ) → Plain (update seed)
unfolding list_number charged_for call_effect update_seed random_data random_data_from
update-plain seed = record { number = λ rs. refl; free = λ rs. refl; none = λ s. refl }

pub write-plain : (seed : List ℕ) → Plain (write seed)
unfolding list_number charged_for call_effect write_seed random_data random_data_from
write-plain seed = record { number = λ rs. refl; free = λ rs. refl; none = λ s. refl }

-- what empties no pool when it is done empties none at all
none-emptied : (n : ℕ) (buffer : List ℕ) (s : Keyed) (done : Effect Keyed) → done.emptied ≡ 0 → (outcome n true 0 buffer s done).effect.emptied ≡ 0
unfolding outcome effect_of unchanged
none-emptied n buffer s done e = split (λ (x : Effect Keyed). x.emptied ≡ 0) (eqb n 0) (λ _. e) (λ _. refl)

module _ (s : Keyed) (rs : List Quota) (c : Call) (p : Plain c) where
  abbrev E : Calls.Outcome Keyed
  E = entry_step s (taking (within rs) c)

  -- its list stays
  left-plain : rs ≡ left_by s rs c
  unfolding left_by quotas_left entry_step
  left-plain =
      let n = entry_number s (taking (within rs) c) in
      rw (none-emptied n (input_buffer c) s (call_effect s c) (p.none s), p.free rs)
      (split (λ (l : List Quota). rs ≡ l) (eqb (outcome n true 0 (input_buffer c) s (call_effect s c)).number 0) (λ _. refl) (λ _. refl))

  -- the gate open, and shut
  passed : 0 ≡ gate_number (quotas_number rs) (input_number c) → step s c ≡ E
  unfolding step entry_step entry_number
  passed h =
      rw (call-chains s c, p.number rs) (passed-is rs (input_number c) (state_number s c) true 0 (input_buffer c) s (call_effect s c) h)

  refused : (k : ℕ) → (k ≡ 0 → ⊥) → k ≡ gate_number (quotas_number rs) (input_number c)
      → E ≡ record { number = k; value = 0; effect = unchanged (input_buffer c) s }
  unfolding entry_step entry_number
  refused k some h =
      rw (p.number rs) (refused-is rs (input_number c) (state_number s c) true 0 (input_buffer c) s (call_effect s c) k some h)

  -- what behind_gate tells, i the input number, is what the call with its list promises
  pub meters-bytes :
      (r : Method.Outcome Keyed) (out : List ℕ) (i : ℕ) →
      BehindGate (quotas_number rs) i s (input_buffer c) (GivesBytes (step s c)) r out → i ≡ input_number c → KeyedMetersBytes s rs c r out
  unfolding unchanged
  meters-bytes r out i h is =
      let k : ℕ = gate_number (quotas_number rs) (input_number c) in
      let told = subst (λ (n : ℕ). BehindGate (quotas_number rs) n s (input_buffer c) (GivesBytes (step s c)) r out) is h in (
        by-test (eqb 0 k) _
            (λ t. subst (λ (o : Calls.Outcome Keyed). GivesBytes o r out) (passed (eqb-true 0 k t)) (told.0 (eqb-true 0 k t)))
            (λ t.
            let g = told.1 (eqb-false 0 k t) in
            rw (refused k (λ z. eqb-false 0 k t (sym z)) refl) ((g.0, g.1, g.2), g.3)),
        left-plain,
      )
