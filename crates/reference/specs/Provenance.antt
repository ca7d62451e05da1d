-- Demand 3, events: at which pool reseed the bytes of each event enter the key, told by the place of its call in the list.
-- The station runs beside its pools' strings, kept as pieces with the place of their call and emptied by the station's own rule.
-- Assumes nothing.
use Rattle.std.specs.Prelude.{◌≡◌, Bool, true, cond, ◌&&◌, ◌↔◌, ℕ, zero, suc, ◌+◌, ◌*◌, ◌/◌, ◌^◌, ◌≤◌, ◌<◌, ltb, eqb, length}
use mathlib.Core.List.{List, [], ◌∷◌, ◌++◌, map, Memᴰ}
use Rattle.laws.specs.Lists.{joined, select}
use Rattle.hash.specs.ShaD.{D, pool_of}
use Rattle.generator.specs.Steps.{GeneratorState, decode, encode, reseed, pseudo_random_data}
use Rattle.generator.specs.declared.Generator.{Generator}
use Rattle.pools.specs.declared.Fortuna.{Fortuna}
use Rattle.pools.specs.Events.{pool_count, event_bytes}
use Rattle.pools.specs.Schedule.{used, used_pools}
use Rattle.pools.specs.State.{fresh, pool_at, due}
use Rattle.pools.specs.Refusals.{seed_size}
use Rattle.pools.specs.Effects.{Effect, unchanged, next_reseed, digests, pool_reseed, reseed_with_seed}
use Rattle.pools.specs.Draws.{Drawn, try_size, tries, shuffled}
use Rattle.pools.specs.Calls.{Call, event, request, update, write, draw, shuffle, reading_of, Outcome}
use Rattle.quotas.specs.Entries.{Quotas, Entry, taking, entry_number, entry_step}
use Rattle.reference.specs.Runs.{state_after}
use Rattle.reference.specs.Reference.{Accepted, consumed_at, reference_after}
use Rattle.reference.specs.Timer.{requests, reseeds_after}

-- the bytes that the call at a place put into its pool
pub record Piece : Type 0 where
  pub place : ℕ
  pub bytes : List ℕ

-- at a pool reseed, counted from 1 without wrap, a pool gave D of these pieces' bytes
pub record PoolUse : Type 0 where
  pub reseed_number : ℕ
  pub pool : ℕ
  pub pieces : List Piece

-- the pieces' bytes, joined
unfoldable pub erased : List Piece → List ℕ
erased pieces = joined (λ p. p.bytes) pieces

-- ---- the traced station

-- a state, the pool reseeds made, the pieces in each pool, and the uses of pools so far
pub record Traced : Type 0 where
  pub state : Fortuna
  pub reseeds : ℕ
  pub pieces : ℕ → List Piece
  pub uses : List PoolUse

unfoldable pub traced_fresh : Traced
traced_fresh = record { state = fresh; reseeds = 0; pieces = λ i. []; uses = [] }

-- an accepted call finds a pool reseed due
unfoldable pub due_for : Fortuna → Call → Bool
due_for s c = requests c && due s (reading_of c)

-- what an accepted call puts into pool i
unfoldable pub puts_into : ℕ → Call → ℕ → List Piece
puts_into place (event source pool content) i =
    cond (eqb pool i) (record { place = place; bytes = event_bytes source content } ∷ []) []
puts_into place (request clock buffer) i = []
puts_into place (update clock seed) i = []
puts_into place (write clock seed) i = []
puts_into place (draw clock n d) i = []
puts_into place (shuffle clock list) i = []

-- what the next pool reseed takes of pool i, and of all that it uses
unfoldable pub use_of : Traced → ℕ → List PoolUse
use_of t i = record { reseed_number = t.reseeds + 1; pool = i; pieces = t.pieces i } ∷ []

unfoldable pub next_uses : Traced → List PoolUse
next_uses t = joined (use_of t) (used_pools (next_reseed t.state))

-- the pieces after a pool reseed
unfoldable pub traced_reseed : Traced → Traced
traced_reseed t =
    record {
      state = t.state;
      reseeds = t.reseeds + 1;
      pieces = λ i. cond (used (next_reseed t.state) i) [] (t.pieces i);
      uses = t.uses ++ next_uses t;
    }

-- the pieces after an accepted call
unfoldable pub traced_accepted : ℕ → Traced → Call → Traced
traced_accepted place t c =
    let r = cond (due_for t.state c) (traced_reseed t) t in
    record { state = r.state; reseeds = r.reseeds; pieces = λ i. r.pieces i ++ puts_into place c i; uses = r.uses }

-- the station's step, and the pieces' beside it
unfoldable pub traced_step : ℕ → Traced → Entry → Traced
traced_step place t c =
    let r = cond (eqb (entry_number t.state c) 0) (traced_accepted place t c.call) t in
    record { state = (entry_step t.state c).effect.next; reseeds = r.reseeds; pieces = r.pieces; uses = r.uses }

unfoldable pub traced_from : ℕ → Traced → List Entry → Traced
traced_from place t [] = t
traced_from place t (c ∷ cs) = traced_from (suc place) (traced_step place t c) cs

unfoldable pub traced : List Entry → Traced
traced calls = traced_from 0 traced_fresh calls

-- ---- erasing the tags gives the station's own

-- each pool is the running hash of its pieces' bytes, and the next pool reseed hashes those very strings
pub record Faithful (calls : List Entry) : Type 0 where
  pub state : (traced calls).state ≡ state_after calls
  pub reseeds : (traced calls).reseeds ≡ reseeds_after calls
  pub strings : (i : ℕ) → i < pool_count → pool_at (state_after calls) i ≡ pool_of (erased ((traced calls).pieces i))
  pub hashes :
      digests (state_after calls) (next_reseed (state_after calls)) ≡ joined (λ u. D (erased u.pieces)) (next_uses (traced calls))

-- the state in which a call's pool reseed is made: of an update, after the seed went in
unfoldable pub at_reseed : Fortuna → Call → Fortuna
at_reseed s (event source pool content) = s
at_reseed s (request clock buffer) = s
at_reseed s (update clock seed) = reseed_with_seed s seed
at_reseed s (write clock seed) = s
at_reseed s (draw clock n d) = s
at_reseed s (shuffle clock list) = s

-- a request for n bytes of K and C alone
unfoldable pub served : ℕ → GeneratorState → Effect GeneratorState
served n w =
    let made = pseudo_random_data w n in
    record { emptied = 0; buffer = made.bytes; next = made.next; trace = made.trace }

-- what a call makes of K and C alone
unfoldable pub made_from : GeneratorState → Call → Drawn GeneratorState
made_from w (event source pool content) = record { found = true; value = 0; effect = unchanged [] w }
made_from w (request clock buffer) = record { found = true; value = 0; effect = served (length buffer) w }
made_from w (update clock seed) = record { found = true; value = 0; effect = served seed_size w }
made_from w (write clock seed) = record { found = true; value = 0; effect = served seed_size w }
made_from w (draw clock n d) = tries (served try_size) n d w
made_from w (shuffle clock list) = shuffled (served try_size) list w

-- the generator that a call's pool reseed leaves: K becomes D(K followed by the D of the strings)
unfoldable pub reseeded_by : List Entry → Call → Generator
reseeded_by calls c =
    encode (reseed (decode (at_reseed (state_after calls) c).generator) (joined (λ u. D (erased u.pieces)) (next_uses (traced calls))))

-- an outcome's number, value, bytes and next K and C are these
pub record TakenFrom (made : Drawn GeneratorState) (o : Outcome Fortuna) : Type 0 where
  pub number : o.number ≡ cond made.found 0 33
  pub value : o.value ≡ made.value
  pub bytes : o.effect.buffer ≡ made.effect.buffer
  pub next : o.effect.next.generator ≡ encode made.effect.next

-- the call c after these: where it makes a pool reseed, the uses grow by that reseed's, whose strings are the ones hashed into the key,
-- and its answer and its next K and C come from that key; where it makes none, the uses stay
pub record EntersKey (calls : List Entry) (c : Entry) : Type 0 where
  pub grows :
      (traced (calls ++ (c ∷ []))).uses
      ≡ (traced calls).uses ++ cond (ltb 0 (entry_step (state_after calls) c).effect.emptied) (next_uses (traced calls)) []
  pub key : (pool_reseed (at_reseed (state_after calls) c.call) (reading_of c.call)).generator ≡ reseeded_by calls c.call
  pub taken :
      entry_number (state_after calls) c ≡ 0 → due_for (state_after calls) c.call ≡ true →
      TakenFrom (made_from (decode (reseeded_by calls c.call)) c.call) (entry_step (state_after calls) c)

-- ---- what the schedule says

unfoldable pub piece_of : Accepted → Piece
piece_of e = record { place = e.place; bytes = e.bytes }

-- at reseed n, pool i takes in the accepted events of pool i booked for n, in arrival order
unfoldable pub scheduled_use : List Accepted → ℕ → ℕ → List PoolUse
scheduled_use es n i = record { reseed_number = n; pool = i; pieces = map piece_of (select (consumed_at n i) es) } ∷ []

-- at the reseeds 1 to n
unfoldable pub scheduled_uses : List Accepted → ℕ → List PoolUse
scheduled_uses es zero = []
scheduled_uses es (suc n) = scheduled_uses es n ++ joined (scheduled_use es (suc n)) (used_pools (suc n))

-- ---- when an event enters

-- the bytes that the call at a place put into pool i stand in the string whose D the pool gives to reseed n
pub record EntersAt (calls : List Entry) (place n i : ℕ) : Type 0 where
  pub pool_use : PoolUse
  pub made : Memᴰ pool_use (traced calls).uses
  pub reseed_number : pool_use.reseed_number ≡ n
  pub pool : pool_use.pool ≡ i
  pub piece : Piece
  pub inside : Memᴰ piece pool_use.pieces
  pub own : piece.place ≡ place

-- an event of a list: accepted, it enters through its pool at reseed 2^i × (floor(r / 2^i) + 1), r the pool reseeds made before it,
-- if the run reaches that, and at no other, and what enters are its own bytes; refused, it never enters
pub record EventEnters (before : List Entry) (q : Quotas) (source pool : ℕ) (content : List ℕ) (later : List Entry) : Type 0 where
  pub once :
      entry_number (state_after before) (taking q (event source pool content)) ≡ 0 → (n i : ℕ) →
      EntersAt (before ++ (taking q (event source pool content) ∷ later)) (length before) n i
      ↔ ((i ≡ pool) × (n ≡ 2 ^ pool * (reseeds_after before / 2 ^ pool + 1))
      × (n ≤ reseeds_after (before ++ (taking q (event source pool content) ∷ later))))
  pub own :
      entry_number (state_after before) (taking q (event source pool content)) ≡ 0 → (n i : ℕ) →
      (e : EntersAt (before ++ (taking q (event source pool content) ∷ later)) (length before) n i) → e.piece.bytes ≡ event_bytes source content
  pub never :
      (entry_number (state_after before) (taking q (event source pool content)) ≡ 0 → ⊥) → (n i : ℕ) →
      EntersAt (before ++ (taking q (event source pool content) ∷ later)) (length before) n i → ⊥

-- a call that is no event never enters
abbrev pub NoEvent : Entry → Type 0
NoEvent c = (source pool : ℕ) (content : List ℕ) → c.call ≡ event source pool content → ⊥

abbrev pub OthersNever : List Entry → Entry → List Entry → Type 0
OthersNever before c later = NoEvent c → (n i : ℕ) → EntersAt (before ++ (c ∷ later)) (length before) n i → ⊥

-- ---- the claim about a list of calls
pub record Provenance (calls : List Entry) : Type 0 where
  -- what each pool gave to each reseed is what was booked for it, in arrival order
  pub uses : (traced calls).uses ≡ scheduled_uses (reference_after calls).events (reference_after calls).reseeds
  pub faithful : Faithful calls
  -- each call of the list, by where it stands
  pub key : (before : List Entry) (c : Entry) (later : List Entry) → before ++ (c ∷ later) ≡ calls → EntersKey before c
  pub events :
      (before : List Entry) (q : Quotas) (source pool : ℕ) (content : List ℕ) (later : List Entry) →
      before ++ (taking q (event source pool content) ∷ later) ≡ calls → EventEnters before q source pool content later
  pub others : (before : List Entry) (c : Entry) (later : List Entry) → before ++ (c ∷ later) ≡ calls → OthersNever before c later
