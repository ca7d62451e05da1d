-- The number of a call with its list: by its input, by the list, and then as without one.
-- Assumes nothing.
use mathlib.Core.Path.{◌≡◌, refl, sym, ap, subst, ◌∙◌}
use mathlib.Core.Logic.{◌≢◌}
use mathlib.Core.Bool.{Bool, false, not}
use Prim.Native.Nat.{ℕ, ◌+◌}
use native.Mathlib.Omega.{arith}
use lib.Dec.{eqb, ltb}
use lib.ListN.{length}
use borrow.Author.Tests.{eqb-true, eqb-false, ne_eqb}
use Rattle.laws.specs.Lists.{count_of}
use Rattle.laws.specs.Refusals.{refuse}
use Rattle.laws.proofs.Cases.{split, by-test}
use Rattle.pools.specs.declared.Fortuna.{Fortuna}
use Rattle.pools.specs.Events.{gain}
use Rattle.pools.specs.Refusals.{and_then}
use Rattle.pools.specs.Calls.{Call, event, request, update, write, draw, shuffle, input_number, state_number, call_number, call_effect, step}
use Rattle.pools.specs.Promises.{call_numbers}
use Rattle.pools.proofs.Bounds.{call-numbers}
use Rattle.pools.proofs.Chains.{then-first, then-second, then-cong, then-holds, both-passed, call-chains}
use Rattle.quotas.specs.Records.{is_listed, quota_of, malformed_quotas, quotas_number, event_quotas_number}
use Rattle.quotas.specs.Entries.{Quotas, without, within, Entry, taking, list_number, entry_number, entry_step}
use Rattle.quotas.specs.Left.{AsBefore, ByList, entry_numbers, EntryNumbersLaw}
use Rattle.pools.specs.Effects.{unchanged}
use Rattle.pools.proofs.Outcomes.{outcome-refused}

-- an accepted call passes the three checks
pub entry-passed : (s : Fortuna) (e : Entry) → entry_number s e ≡ 0
    → (input_number e.call ≡ 0) × ((list_number e.quotas e.call ≡ 0) × (state_number s e.call ≡ 0))
unfolding entry_number
entry-passed s e h =
    let p = both-passed (input_number e.call) _ h in
    (p.0, both-passed (list_number e.quotas e.call) (state_number s e.call) p.1)

-- after the list's number the call's own without a list says the same as its state's: the input has none by then
pub entry-number : (s : Fortuna) (e : Entry)
    → entry_number s e ≡ and_then (input_number e.call) (and_then (list_number e.quotas e.call) (call_number s e.call))
unfolding entry_number
entry-number s e =
    then-cong (input_number e.call) _ _ (λ z.
    ap (and_then (list_number e.quotas e.call)) (sym (call-chains s e.call ∙ then-second (input_number e.call) (state_number s e.call) z)))

-- ---- without a list

without-number : (s : Fortuna) (c : Call) → entry_number s (taking without c) ≡ call_number s c
unfolding entry_number list_number
without-number s c =
    then-cong (input_number c) (and_then 0 (state_number s c)) (state_number s c) (λ _. then-second 0 (state_number s c) refl)
    ∙ sym (call-chains s c)

pub as_before : AsBefore
unfolding entry_step step
as_before s c = rw (without-number s c)

passed-number : (s : Fortuna) (q : Quotas) (c : Call) → list_number q c ≡ 0 → entry_number s (taking q c) ≡ call_number s c
unfolding entry_number
passed-number s q c h =
    then-cong (input_number c) (and_then (list_number q c) (state_number s c)) (state_number s c)
    (λ _. then-second (list_number q c) (state_number s c) h)
    ∙ sym (call-chains s c)

refused-number : (s : Fortuna) (q : Quotas) (c : Call) → input_number c ≡ 0 → list_number q c ≢ 0 → entry_number s (taking q c) ≡ list_number q c
unfolding entry_number
refused-number s q c i h = then-second (input_number c) _ i ∙ then-first (list_number q c) (state_number s c) h

pub by-list : (s : Fortuna) (q : Quotas) (c : Call) → ByList s q c
by-list s q c =
    record {
      passed = λ h. unfold entry_step step in rw (passed-number s q c h);
      refused = λ i h. unfold entry_step unchanged in
          let n = refused-number s q c i h in
          outcome-refused (entry_number s (taking q c)) _ _ _ s (call_effect s c) (λ e. h (sym n ∙ e)) ∙ rw n;
    }

-- ---- which numbers there are

-- a number that no call gives without a list
others : (s : Fortuna) (c : Call) (n : ℕ) → count_of n (call_numbers c) ≡ 0 → eqb (call_number s c) n ≡ false
others s c n h = ne_eqb (call_number s c) n (λ e. let k : count_of n (call_numbers c) ≡ 1 = rw e at (call-numbers s c) in absurd (omega (arith, h, k)))

own-known : (s : Fortuna) (q : Quotas) (c : Call) → count_of (call_number s c) (entry_numbers q c) ≡ 1
unfolding count_of call_numbers entry_numbers
own-known s without c = call-numbers s c
own-known s (within rs) (event source pool content) =
    let c = event source pool content in
    let own = call-numbers s c in
    rw (others s c 37 refl, others s c 38 refl, others s c 39 refl) (omega (arith, own))
own-known s (within rs) (request clock buffer) =
    let own = call-numbers s (request clock buffer) in rw (others s (request clock buffer) 37 refl) (omega (arith, own))
own-known s (within rs) (update clock seed) =
    let own = call-numbers s (update clock seed) in rw (others s (update clock seed) 37 refl) (omega (arith, own))
own-known s (within rs) (write clock seed) =
    let own = call-numbers s (write clock seed) in rw (others s (write clock seed) 37 refl) (omega (arith, own))
own-known s (within rs) (draw clock n d) =
    let own = call-numbers s (draw clock n d) in rw (others s (draw clock n d) 37 refl) (omega (arith, own))
own-known s (within rs) (shuffle clock list) =
    let own = call-numbers s (shuffle clock list) in rw (others s (shuffle clock list) 37 refl) (omega (arith, own))

none-known : (q : Quotas) (c : Call) → count_of 0 (entry_numbers q c) ≡ 1
unfolding count_of call_numbers entry_numbers
none-known without (event source pool content) = refl
none-known without (request clock buffer) = refl
none-known without (update clock seed) = refl
none-known without (write clock seed) = refl
none-known without (draw clock n d) = refl
none-known without (shuffle clock list) = refl
none-known (within rs) (event source pool content) = refl
none-known (within rs) (request clock buffer) = refl
none-known (within rs) (update clock seed) = refl
none-known (within rs) (write clock seed) = refl
none-known (within rs) (draw clock n d) = refl
none-known (within rs) (shuffle clock list) = refl

module _ (q : Quotas) (c : Call) where
  abbrev Known : ℕ → Type 0
  Known n = count_of n (entry_numbers q c) ≡ 1

  refuse-known : (t : Bool) (n rest : ℕ) → Known n → Known rest → Known (refuse t n rest)
  refuse-known t n rest h k = split Known t (λ _. h) (λ _. k)

  -- the input's number is the call's own
  input-known : Fortuna → Known (input_number c)
  input-known s =
      by-test (eqb (input_number c) 0) (Known (input_number c))
      (λ t. subst Known (sym (eqb-true (input_number c) 0 t)) (none-known q c))
      (λ t. subst Known (call-chains s c ∙ then-first (input_number c) (state_number s c) (eqb-false (input_number c) 0 t)) (own-known s q c))

list-known : (q : Quotas) (c : Call) → Known q c (list_number q c)
unfolding count_of entry_numbers list_number quotas_number event_quotas_number
list-known without c = none-known without c
list-known (within rs) (event source pool content) =
    let q = within rs in
    let c = event source pool content in
    let over : Bool = ltb (quota_of rs source).allowance ((quota_of rs source).spent + gain (length content)) in
    refuse-known q c (malformed_quotas rs) 37 _ refl
    (refuse-known q c (not (is_listed rs source)) 38 (refuse over 39 0) refl (refuse-known q c over 39 0 refl refl))
list-known (within rs) (request clock buffer) = refuse-known (within rs) (request clock buffer) (malformed_quotas rs) 37 0 refl refl
list-known (within rs) (update clock seed) = refuse-known (within rs) (update clock seed) (malformed_quotas rs) 37 0 refl refl
list-known (within rs) (write clock seed) = refuse-known (within rs) (write clock seed) (malformed_quotas rs) 37 0 refl refl
list-known (within rs) (draw clock n d) = refuse-known (within rs) (draw clock n d) (malformed_quotas rs) 37 0 refl refl
list-known (within rs) (shuffle clock list) = refuse-known (within rs) (shuffle clock list) (malformed_quotas rs) 37 0 refl refl

pub entry-numbers : EntryNumbersLaw
entry-numbers s q c =
    subst (Known q c) (sym (entry-number s (taking q c)))
    (then-holds (Known q c) (input_number c) _ (input-known q c s)
    (then-holds (Known q c) (list_number q c) (call_number s c) (list-known q c) (own-known s q c)))

-- no call is refused by 33: it always says that tries were made
not-by-33 : (q : Quotas) (c : Call) → count_of 33 (entry_numbers q c) ≡ 1 → ⊥
unfolding count_of call_numbers entry_numbers
not-by-33 without (event source pool content) h = omega (arith, h)
not-by-33 without (request clock buffer) h = omega (arith, h)
not-by-33 without (update clock seed) h = omega (arith, h)
not-by-33 without (write clock seed) h = omega (arith, h)
not-by-33 without (draw clock n d) h = omega (arith, h)
not-by-33 without (shuffle clock list) h = omega (arith, h)
not-by-33 (within rs) (event source pool content) h = omega (arith, h)
not-by-33 (within rs) (request clock buffer) h = omega (arith, h)
not-by-33 (within rs) (update clock seed) h = omega (arith, h)
not-by-33 (within rs) (write clock seed) h = omega (arith, h)
not-by-33 (within rs) (draw clock n d) h = omega (arith, h)
not-by-33 (within rs) (shuffle clock list) h = omega (arith, h)

pub entry-not-33 : (s : Fortuna) (e : Entry) → entry_number s e ≢ 33
entry-not-33 s e h = not-by-33 e.quotas e.call (rw h at (entry-numbers s e.quotas e.call))

-- ---- what holds of 0, 37, 38 and 39 holds of a list's number

pub list-holds : (P : ℕ → Type 0) → P 0 → P 37 → P 38 → P 39 → (q : Quotas) (c : Call) → P (list_number q c)
unfolding list_number quotas_number event_quotas_number
list-holds P z a b d without c = z
list-holds P z a b d (within rs) (event source pool content) =
    split P (malformed_quotas rs) (λ _. a)
    (λ _. split P (not (is_listed rs source)) (λ _. b)
    (λ _. split P (ltb (quota_of rs source).allowance ((quota_of rs source).spent + gain (length content))) (λ _. d) (λ _. z)))
list-holds P z a b d (within rs) (request clock buffer) = split P (malformed_quotas rs) (λ _. a) (λ _. z)
list-holds P z a b d (within rs) (update clock seed) = split P (malformed_quotas rs) (λ _. a) (λ _. z)
list-holds P z a b d (within rs) (write clock seed) = split P (malformed_quotas rs) (λ _. a) (λ _. z)
list-holds P z a b d (within rs) (draw clock n e) = split P (malformed_quotas rs) (λ _. a) (λ _. z)
list-holds P z a b d (within rs) (shuffle clock list) = split P (malformed_quotas rs) (λ _. a) (λ _. z)
