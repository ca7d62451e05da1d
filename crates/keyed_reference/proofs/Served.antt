-- What a call that is no event leaves, what a refused call leaves, and that a moved timer is refused.
-- Assumes nothing.
use mathlib.Core.Path.{◌≡◌, refl, sym, ap, subst, ◌∙◌}
use mathlib.Core.Bool.{true, false, or-true, and-false}
use mathlib.Core.Logic.{◌≢◌, ◌⊎◌, ⊎_elim}
use mathlib.Core.List.{List, ◌++◌}
use Prim.Native.Nat.{ℕ, ◌+◌}
use native.Mathlib.Omega.{arith}
use lib.Dec.{eqb}
use lib.ListN.{length}
use borrow.Author.Tests.{ne_eqb}
use Rattle.hash.specs.ShaD.{D}
use Rattle.generator.specs.Steps.{GeneratorState, decode, encode, reseed}
use Rattle.generator.proofs.Laws.{decode-encode}
use Rattle.pools.specs.Refusals as Pools
use Rattle.pools.specs.Refusals.{and_then, seed_size, output_state, update_state}
use Rattle.pools.specs.Effects.{unchanged}
use Rattle.pools.specs.Calls.{Outcome, outcome, effect_of}
use Rattle.pools.proofs.Chains.{both-passed, then-second}
use Rattle.pools.proofs.Acceptance.{update-room}
use Rattle.pools.proofs.Outcomes.{outcome-refused}
use Rattle.quotas.specs.Entries.{Quotas, left_with}
use Rattle.keyed.specs.declared.Keyed.{Keyed}
use Rattle.keyed.specs.State.{counter_of, timer_moved, malformed_fields, malformed}
use Rattle.keyed.specs.Refusals.{event_state}
use Rattle.keyed.specs.Effects.{random_data_from, random_data, write_seed, served}
use Rattle.keyed.specs.Calls.{Call, event, request, update, write, input_buffer, input_number, state_number, call_number, call_effect}
use Rattle.keyed.specs.Entries.{taking, list_number, entry_number, entry_step, list_remaining, left_by}
use Rattle.keyed.proofs.Chains.{call-chains}
use Rattle.keyed.proofs.Requests.{update-is}
use Rattle.keyed_reference.specs.Served.{Serves, ServedLaw, kept, RefusedLaw, ListTold, TimerLaw, NoClauseLaw}

done : (s : Keyed) (q : Quotas) (c : Call) → entry_number s (taking q c) ≡ 0 → (entry_step s (taking q c)).effect ≡ call_effect s c
unfolding entry_step outcome effect_of
done s q c e = rw e

from : (s : Keyed) (w : GeneratorState) (n : ℕ) → Serves s w n (random_data_from s w n)
unfolding random_data_from served
from s w n = record { bytes = refl; next = refl; trace = refl; pools = refl; key = refl; step = refl }

own : (s : Keyed) (q : Quotas) (c : Call) → entry_number s (taking q c) ≡ 0 → call_number s c ≡ 0
unfolding entry_number
own s q c e =
    let p = both-passed (input_number c) _ e in
    call-chains s c ∙ then-second (input_number c) (state_number s c) p.0 ∙ (both-passed (list_number q c) (state_number s c) p.1).1

seeded : (s : Keyed) (seed : List ℕ) → call_number s (update seed) ≡ 0
    → decode (encode (reseed (decode s.generator) seed)) ≡ record { key = D (s.generator.key ++ seed); count = counter_of s + 1 }
unfolding call_number counter_of
seeded s seed e =
    let r = update-room (malformed s) (decode s.generator).count false seed e in
    decode-encode (reseed (decode s.generator) seed) (unfold reseed in omega arith) ∙ (unfold reseed decode in refl)

-- an accepted update's effect
updated : (s : Keyed) (q : Quotas) (seed : List ℕ) → entry_number s (taking q (update seed)) ≡ 0 →
    (entry_step s (taking q (update seed))).effect ≡ random_data_from s (record { key = D (s.generator.key ++ seed); count = counter_of s + 1 }) 64
unfolding call_effect seed_size
updated s q seed e =
    done s q (update seed) e ∙ update-is s seed ∙ ap (λ (w : GeneratorState). random_data_from s w 64) (seeded s seed (own s q (update seed) e))

pub served-law : (s : Keyed) (q : Quotas) → ServedLaw s q
unfolding call_effect random_data write_seed seed_size
served-law s q =
    let w : GeneratorState = decode s.generator in
    record {
      request = λ b e. subst (Serves s w (length b)) (sym (done s q (request b) e)) (from s w (length b));
      update = λ d e. subst (Serves s _ 64) (sym (updated s q d e)) (from s _ 64);
      write = λ d e. subst (Serves s w 64) (sym (done s q (write d) e)) (from s w 64);
    }

refused : (s : Keyed) (q : Quotas) (c : Call) → entry_number s (taking q c) ≢ 0 → (entry_step s (taking q c)).effect ≡ kept s (input_buffer c)
unfolding entry_step unchanged
refused s q c h =
    ap (λ (o : Outcome Keyed). o.effect) (outcome-refused (entry_number s (taking q c)) true 0 (input_buffer c) s (call_effect s c) h)

pub refused-law : (s : Keyed) (q : Quotas) → RefusedLaw s q
unfolding input_buffer
refused-law s q =
    record {
      event = λ x d h. refused s q (event x d) h;
      request = λ b h. refused s q (request b) h;
      update = λ d h. refused s q (update d) h;
      write = λ d h. refused s q (write d) h;
    }

pub list-told : (s : Keyed) (c : Call) → ListTold s c
unfolding list_remaining left_with left_by
list-told s c = record { within = λ rs. refl; none = refl }

-- ---- a moved timer

moved : (s : Keyed) → (s.last_reseed ≢ 0) ⊎ (s.reseed_count ≢ 0) ⊎ (s.reseeded ≡ true) →
    timer_moved s.reseeded s.last_reseed s.reseed_count ≡ true
unfolding timer_moved
moved s h =
    ⊎_elim
    (λ k. rw (ne_eqb s.last_reseed 0 k) (or-true s.reseeded))
    (λ k. ⊎_elim
    (λ l. rw (ne_eqb s.reseed_count 0 l, and-false (eqb s.last_reseed 0)) (or-true s.reseeded))
    (λ l. rw l)
    k)
    h

moved-malformed : (s : Keyed) → timer_moved s.reseeded s.last_reseed s.reseed_count ≡ true → malformed s ≡ true
unfolding malformed malformed_fields
moved-malformed s h = rw (h, or-true, or-true)

by-21 : (s : Keyed) (c : Call) → malformed s ≡ true → state_number s c ≡ 21
unfolding state_number event_state Pools.event_state output_state update_state and_then
by-21 s (event source content) h = rw h
by-21 s (request buffer) h = rw h
by-21 s (update seed) h = rw h
by-21 s (write seed) h = rw h

pub timer-law : TimerLaw
unfolding entry_number
timer-law s q c i l h =
    then-second (input_number c) _ i ∙ then-second (list_number q c) (state_number s c) l ∙ by-21 s c (moved-malformed s (moved s h))

pub no-clause-law : NoClauseLaw
unfolding malformed
no-clause-law s t key = refl
