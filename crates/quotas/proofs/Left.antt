-- What a call leaves of its list.
-- Assumes nothing.
use mathlib.Core.Path.{◌≡◌, refl, ap, ◌∙◌}
use mathlib.Core.Logic.{◌≢◌}
use mathlib.Core.Bool.{false, ◌||◌}
use mathlib.Core.List.{List, [], ◌∷◌, map}
use Prim.Native.Nat.{ℕ, zero, suc, ◌+◌, ◌<◌}
use native.Mathlib.Nat.{not-suc-le-zero, le_of_suc-le-suc}
use native.Mathlib.Omega.{arith}
use lib.Dec.{eqb, ltb}
use lib.ListN.{length, length-map}
use borrow.Author.Tests.{lt-ltb, ltb-true, ltb-false, eqb-true, eqb-false, ne_eqb}
use Rattle.laws.proofs.Cases.{by-test, neither, split}
use Rattle.pools.specs.declared.Fortuna.{Fortuna}
use Rattle.pools.specs.Events.{header_length, gain}
use Rattle.pools.specs.Effects.{unchanged}
use Rattle.pools.specs.Calls.{Call, event, request, update, write, draw, shuffle, call_effect, call_found, effect_of, Outcome, outcome}
use Rattle.pools.proofs.Chains.{then-nothing}
use Rattle.pools.proofs.Outcomes.{outcome-refused}
use Rattle.quotas.specs.declared.Quota.{Quota}
use Rattle.quotas.specs.Records.{max_quotas, repeats, overspent, malformed_quotas, unspent, charged, cleared}
use Rattle.quotas.specs.Entries.{Quotas, within, Entry, taking, entry_number, entry_step, charged_for, quotas_left}
use Rattle.quotas.specs.Left.{left_by, record_at, LeftLaw}
use Rattle.quotas.proofs.Lists.{added_to, charged-each, charged-formed, cleared-formed}
use Rattle.quotas.proofs.Runs.{event-allowed}

-- ---- the outcome of a refused call, and of an accepted event

pub entry-refused : (s : Fortuna) (e : Entry) → entry_number s e ≢ 0
    → (eqb (entry_step s e).number 0 ≡ false) × ((entry_step s e).effect.emptied ≡ 0)
unfolding entry_step unchanged
entry-refused s e h =
    let o = outcome-refused (entry_number s e) _ _ _ s (call_effect s e.call) h in
    (ap (λ (x : Outcome Fortuna). eqb x.number 0) o ∙ ne_eqb (entry_number s e) 0 h, ap (λ (x : Outcome Fortuna). x.effect.emptied) o)

event-done : (s : Fortuna) (q : Quotas) (source pool : ℕ) (content : List ℕ) → entry_number s (taking q (event source pool content)) ≡ 0
    → let o = entry_step s (taking q (event source pool content)) in (o.number ≡ 0) × (o.effect.emptied ≡ 0)
unfolding entry_step outcome effect_of call_effect call_found
event-done s q source pool content h = rw h (then-nothing 0, refl)

-- ---- the list

module _ (c : Call) (rs : List Quota) (o : Outcome Fortuna) where
  left-reseeded : 0 < o.effect.emptied → quotas_left c rs o ≡ cleared rs
  unfolding quotas_left
  left-reseeded h = rw (lt-ltb 0 _ h)

  left-not-done : o.effect.emptied ≡ 0 → eqb o.number 0 ≡ false → quotas_left c rs o ≡ rs
  unfolding quotas_left
  left-not-done q e = rw (q, e)

  left-done : o.effect.emptied ≡ 0 → o.number ≡ 0 → quotas_left c rs o ≡ charged_for c rs
  unfolding quotas_left
  left-done q e = rw (q, e)

  left-free : o.effect.emptied ≡ 0 → charged_for c rs ≡ rs → quotas_left c rs o ≡ rs
  unfolding quotas_left
  left-free q e = rw (q, e) (split (λ (l : List Quota). l ≡ rs) (eqb o.number 0) (λ _. refl) (λ _. refl))

none_below : (n : ℕ) → ltb 0 n ≡ false → n ≡ 0
none_below n t = let l = ltb-false 0 n t in omega (arith, l)

-- only an event is charged
free : (c : Call) (rs : List Quota) → ((source pool : ℕ) (content : List ℕ) → c ≢ event source pool content) → charged_for c rs ≡ rs
unfolding charged_for
free (event source pool content) rs h = absurd (h source pool content refl)
free (request clock buffer) rs h = refl
free (update clock seed) rs h = refl
free (write clock seed) rs h = refl
free (draw clock n d) rs h = refl
free (shuffle clock list) rs h = refl

each_at : (f : Quota → Quota) (rs : List Quota) (i : ℕ) → i < length rs → record_at (map f rs) i ≡ f (record_at rs i)
each_at f [] i l = absurd (not-suc-le-zero l)
each_at f (r ∷ rs) zero l = refl
each_at f (r ∷ rs) (suc i) l = each_at f rs i (le_of_suc-le-suc l)

-- a list of which each record is another's by f
Each : (Quota → Quota) → List Quota → List Quota → Type 0
Each f rs us = (length us ≡ length rs) × ((i : ℕ) → i < length rs → record_at us i ≡ f (record_at rs i))

each-is : (f : Quota → Quota) (rs us : List Quota) → us ≡ map f rs → Each f rs us
unfolding Each
each-is f rs us e = rw e (length-map rs f, each_at f rs)

cleared-each : (rs : List Quota) → cleared rs ≡ map unspent rs
unfolding cleared
cleared-each rs = refl

pub passed-alone : (rs : List Quota) → malformed_quotas rs ≡ false → repeats rs ≡ false
unfolding malformed_quotas
passed-alone rs h = (neither (ltb max_quotas (length rs)) (repeats rs) (neither (ltb max_quotas (length rs) || repeats rs) (overspent rs) h).0).1

-- ---- the law

module _ (s : Fortuna) (rs : List Quota) where
  pub left-refused : (c : Call) → entry_number s (taking (within rs) c) ≢ 0 → left_by s rs c ≡ rs
  unfolding left_by
  left-refused c h = let r = entry-refused s (taking (within rs) c) h in left-not-done c rs _ r.1 r.0

  left_after : (c : Call) → 0 < (entry_step s (taking (within rs) c)).effect.emptied → Each unspent rs (left_by s rs c)
  unfolding left_by
  left_after c h = each-is unspent rs _ (left-reseeded c rs _ h ∙ cleared-each rs)

  left-none-drawn : (c : Call) → (entry_step s (taking (within rs) c)).number ≡ 33
      → (entry_step s (taking (within rs) c)).effect.emptied ≡ 0 → left_by s rs c ≡ rs
  unfolding left_by
  left-none-drawn c n q = left-not-done c rs _ q (ap (λ (k : ℕ). eqb k 0) n)

  left-others : (c : Call) → ((source pool : ℕ) (content : List ℕ) → c ≢ event source pool content)
      → (entry_step s (taking (within rs) c)).effect.emptied ≡ 0 → left_by s rs c ≡ rs
  unfolding left_by
  left-others c h q = left-free c rs _ q (free c rs h)

  module _ (source pool : ℕ) (content : List ℕ) (accepted : entry_number s (taking (within rs) (event source pool content)) ≡ 0) where
    pub left-charged : left_by s rs (event source pool content) ≡ charged rs source (gain (length content))
    unfolding left_by charged_for
    left-charged =
        let done = event-done s (within rs) source pool content accepted in
        left-done (event source pool content) rs _ done.1 done.0

    left-event : Each (added_to source (3 + length content)) rs (left_by s rs (event source pool content))
    unfolding gain header_length
    left-event =
        let done = event-done s (within rs) source pool content accepted in
        let alone = passed-alone rs (event-allowed s rs source pool content done.0).formed in
        each-is (added_to source (3 + length content)) rs _ (left-charged ∙ charged-each rs source (3 + length content) alone)

  plain-formed : (c : Call) → charged_for c rs ≡ rs → malformed_quotas rs ≡ false → malformed_quotas (left_by s rs c) ≡ false
  unfolding left_by
  plain-formed c free h =
      by-test (ltb 0 (entry_step s (taking (within rs) c)).effect.emptied) _
      (λ t. rw (left-reseeded c rs (entry_step s (taking (within rs) c)) (ltb-true 0 _ t)) (cleared-formed rs h))
      (λ t. rw (left-free c rs (entry_step s (taking (within rs) c)) (none_below _ t) free) h)

  left-formed : (c : Call) → malformed_quotas rs ≡ false → malformed_quotas (left_by s rs c) ≡ false
  left-formed (event source pool content) h =
      let call = event source pool content in
      by-test (eqb (entry_number s (taking (within rs) call)) 0) _
      (λ t.
      let accepted = eqb-true _ 0 t in
      let passes = event-allowed s rs source pool content (event-done s (within rs) source pool content accepted).0 in
      rw (left-charged source pool content accepted) (charged-formed rs source (gain (length content)) passes))
      (λ t. rw (left-refused call (eqb-false _ 0 t)) h)
  left-formed (request clock buffer) h = plain-formed (request clock buffer) (unfold charged_for in refl) h
  left-formed (update clock seed) h = plain-formed (update clock seed) (unfold charged_for in refl) h
  left-formed (write clock seed) h = plain-formed (write clock seed) (unfold charged_for in refl) h
  left-formed (draw clock n d) h = plain-formed (draw clock n d) (unfold charged_for in refl) h
  left-formed (shuffle clock list) h = plain-formed (shuffle clock list) (unfold charged_for in refl) h

  pub left-law : LeftLaw s rs
  unfolding Each
  left-law =
      record {
        refused = left-refused;
        reseeded = left_after;
        none-drawn = left-none-drawn;
        others = left-others;
        event = left-event;
        formed = left-formed;
      }
