-- Bounds of what a call answers: its number is one of a list, of two digits, and no more pools are emptied than there are.
-- Assumes nothing.
use Rattle.std.proofs.Common.{◌≡◌, ℕ, zero, suc, ◌+◌, ◌-◌, ◌<◌, ◌≤◌, Bool, true, false, cond, eqb, ltb, List, [], ◌∷◌, length, zero-le, arith, lit≤, length-append, ltb-false}
use Rattle.std.specs.Prelude.{Result, Ok, Err}
use Rattle.laws.specs.Lists.{count_of}
use Rattle.laws.specs.Refusals.{refuse}
use Rattle.laws.proofs.Cases.{split}
use Rattle.pools.specs.Events.{pool_count}
use Rattle.pools.specs.Schedule.{used, used_below, used_pools}
use Rattle.pools.specs.State.{due}
use Rattle.pools.specs.Refusals.{and_then, event_input, event_state, event_number, request_input, output_state, request_number, seed_input, write_number, update_input, update_state, update_number, draw_input, draw_number, list_input, shuffle_state, shuffle_number}
use Rattle.pools.specs.Effects.{unchanged, next_reseed, emptied_by, random_data, update_seed, write_seed}
use Rattle.pools.specs.Draws.{Drawn, leaving, tries, shuffle_from, shuffled, try_at}
use Rattle.pools.specs.Calls.{Call, event, request, update, write, draw, shuffle, input_buffer, call_number, call_effect, call_found, effect_of, outcome, step}
use Rattle.pools.specs.Promises.{number, call_numbers, CallNumbersLaw, NoneDrawnLaw}
use Rattle.pools.specs.declared.Fortuna.{Fortuna}
use Rattle.pools.specs.declared.refusal.Refusal.{Refusal}
use Rattle.pools.specs.declared.refusal.Refusal.TheVariants.{SourceOutOfRange, PoolOutOfRange, DataLength, RequestTooLong, SeedSize, Malformed, PoolFull, Unseeded, CounterSpent, SlotRange, TryRange, NoneDrawn, BlankSeed, QuotasMalformed, SourceNotListed, OverAllowance, StepsSpent}
use Rattle.pools.proofs.Chains.{then-holds}
use Rattle.pools.proofs.OneReseed.{first-try, first-shuffle}

-- ---- numbers

-- a number of the call's list, of two digits
record Known (c : Call) (n : ℕ) : Type 0 where
  listed : count_of n (call_numbers c) ≡ 1
  small : ltb 99 n ≡ false

module _ (c : Call) where
  refuse-known : (t : Bool) (n rest : ℕ) → Known c n → Known c rest → Known c (refuse t n rest)
  refuse-known true n rest h k = h
  refuse-known false n rest h k = k

  then-known : (first second : ℕ) → Known c first → Known c second → Known c (and_then first second)
  then-known = then-holds (Known c)

-- the chains of which checks are made; a search goes along them, whatever their order
chains : Unit {0}
unfolding event_number event_input event_state request_number request_input output_state seed_input write_number update_input update_state update_number
chains = tt

draw_chains : Unit {0}
unfolding draw_number draw_input list_input shuffle_state shuffle_number
draw_chains = tt

number-known : (s : Fortuna) (c : Call) → Known c (call_number s c)
unfolding call_number chains draw_chains count_of call_numbers
number-known s (event source pool content) = search (refuse-known, then-known) depth 8
number-known s (request clock buffer) = search (refuse-known, then-known) depth 8
number-known s (update clock seed) = search (refuse-known, then-known) depth 8
number-known s (write clock seed) = search (refuse-known, then-known) depth 8
number-known s (draw clock n d) = search (refuse-known, then-known) depth 8
number-known s (shuffle clock list) = search (refuse-known, then-known) depth 8

pub call-numbers : CallNumbersLaw
call-numbers s c = (number-known s c).listed

not_listed : (c : Call) → count_of 33 (call_numbers c) ≡ 1 → ⊥
unfolding count_of call_numbers
not_listed (event source pool content) h = omega (arith, h)
not_listed (request clock buffer) h = omega (arith, h)
not_listed (update clock seed) h = omega (arith, h)
not_listed (write clock seed) h = omega (arith, h)
not_listed (draw clock n d) h = omega (arith, h)
not_listed (shuffle clock list) h = omega (arith, h)

pub none-drawn : NoneDrawnLaw
none-drawn s c e = not_listed c (rw e at (call-numbers s c))

pub step-number-small : (s : Fortuna) (c : Call) → (step s c).number ≤ 99
unfolding step outcome
step-number-small s c =
    then-holds (λ (k : ℕ). k ≤ 99) _ _ (ltb-false 99 _ (number-known s c).small)
    (split (λ (k : ℕ). k ≤ 99) (call_found s c) (λ t. zero-le) (λ t. lit≤ tt))

-- an answer's number
pub answer-small : {T : Type 0} (a : Result T Refusal) → number a < 100
answer-small (Ok x) = lit≤ tt
answer-small (Err SourceOutOfRange) = lit≤ tt
answer-small (Err PoolOutOfRange) = lit≤ tt
answer-small (Err DataLength) = lit≤ tt
answer-small (Err RequestTooLong) = lit≤ tt
answer-small (Err SeedSize) = lit≤ tt
answer-small (Err Malformed) = lit≤ tt
answer-small (Err PoolFull) = lit≤ tt
answer-small (Err Unseeded) = lit≤ tt
answer-small (Err CounterSpent) = lit≤ tt
answer-small (Err SlotRange) = lit≤ tt
answer-small (Err TryRange) = lit≤ tt
answer-small (Err NoneDrawn) = lit≤ tt
answer-small (Err BlankSeed) = lit≤ tt
answer-small (Err QuotasMalformed) = lit≤ tt
answer-small (Err SourceNotListed) = lit≤ tt
answer-small (Err OverAllowance) = lit≤ tt
answer-small (Err StepsSpent) = lit≤ tt

-- ---- pools emptied

used-few : (n k : ℕ) → length (used_below n k) ≤ k
unfolding used_below
used-few n zero = zero-le
used-few n (suc k) = rw length-append (go (used n k) (used-few n k))
  where
    go : (t : Bool) → length (used_below n k) ≤ k → length (used_below n k) + length (cond t (k ∷ []) []) ≤ suc k
    go true h = omega arith
    go false h = omega arith

emptied-few : (s : Fortuna) (clock : ℕ) → emptied_by s clock ≤ pool_count
unfolding emptied_by used_pools
emptied-few s clock = go (due s clock)
  where
    go : (t : Bool) → cond t (length (used_below (next_reseed s) pool_count)) 0 ≤ pool_count
    go true = used-few (next_reseed s) pool_count
    go false = zero-le

-- a draw and a shuffle: those of their first try
draw-few : (clock n d : ℕ) (s : Fortuna) → (tries (try_at clock) n d s).effect.emptied ≤ pool_count
draw-few clock n zero s = unfold tries unchanged in zero-le
draw-few clock n (suc d) s = rw (first-try clock n d s).0 (emptied-few s clock)

shuffle-few : (clock p : ℕ) (list : List ℕ) (s : Fortuna) → (shuffle_from (try_at clock) p list s).effect.emptied ≤ pool_count
shuffle-few clock zero list s = unfold shuffle_from unchanged in zero-le
shuffle-few clock (suc p) list s = rw (first-shuffle clock p list s).0 (emptied-few s clock)

shuffled-few : (clock : ℕ) (list : List ℕ) (s : Fortuna) → (shuffled (try_at clock) list s).effect.emptied ≤ pool_count
unfolding shuffled leaving
shuffled-few clock list s =
    let few = shuffle-few clock (length list - 1) list s in
    split (λ (o : Drawn Fortuna). o.effect.emptied ≤ pool_count) (shuffle_from (try_at clock) (length list - 1) list s).found (λ t. few) (λ t. few)

effect-few : (s : Fortuna) (c : Call) → (call_effect s c).emptied ≤ pool_count
unfolding call_effect random_data update_seed write_seed
effect-few s (event source pool content) = zero-le
effect-few s (request clock buffer) = emptied-few s clock
effect-few s (update clock seed) = emptied-few _ clock
effect-few s (write clock seed) = emptied-few s clock
effect-few s (draw clock n d) = draw-few clock n d s
effect-few s (shuffle clock list) = shuffled-few clock list s

pub step-emptied-few : (s : Fortuna) (c : Call) → (step s c).effect.emptied ≤ pool_count
unfolding step outcome effect_of
step-emptied-few s c = go (eqb (call_number s c) 0)
  where
    go : (t : Bool) → (cond t (call_effect s c) (unchanged (input_buffer c) s)).emptied ≤ pool_count
    go true = effect-few s c
    go false = unfold unchanged in zero-le

pub pools-small : pool_count ≤ 99
unfolding pool_count
pools-small = lit≤ tt
