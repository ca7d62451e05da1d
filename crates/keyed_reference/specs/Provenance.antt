-- At which step the bytes of each event enter the key, told by the place of its call in the list. The station runs beside its pools'
-- strings, kept as pieces with the place of their call and emptied by the station's own rule.
-- Assumes nothing.
use Rattle.std.specs.Prelude.{◌≡◌, cond, ◌↔◌, ℕ, zero, suc, ◌+◌, ◌*◌, ◌^◌, ◌≤◌, ◌<◌, eqb, length}
use mathlib.Core.List.{List, [], ◌∷◌, ◌++◌, map, Memᴰ}
use Rattle.laws.specs.Refusals.{guarded}
use Rattle.laws.specs.Lists.{select}
use Rattle.hash.specs.ShaD.{D, pool_of}
use Rattle.generator.specs.Steps.{GeneratorState, decode, encode, reseed}
use Rattle.pools.specs.Events.{pool_count, event_bytes}
use Rattle.quotas.specs.Entries.{Quotas}
use Rattle.reference.specs.Provenance.{Piece, erased}
use Rattle.keyed.specs.declared.Keyed.{Keyed}
use Rattle.keyed.specs.Scheduler.{input_pool, empties, output_pool, takes}
use Rattle.keyed.specs.State.{fresh, pool_at, picked}
use Rattle.keyed.specs.Calls.{Call, event, request, update, write}
use Rattle.keyed.specs.Entries.{Entry, taking, entry_number, entry_step}
use Rattle.keyed_reference.specs.Runs.{state_after}
use Rattle.keyed_reference.specs.Reference.{Accepted, consumed_at, scheduled_step, reference_after}

-- at a step a pool gave D of these pieces' bytes to the key
pub record PoolUse : Type 0 where
  pub step : ℕ
  pub pool : ℕ
  pub pieces : List Piece

-- ---- the traced station

-- a state, the pieces in each pool, and the emptyings so far
pub record Traced : Type 0 where
  pub state : Keyed
  pub pieces : ℕ → List Piece
  pub uses : List PoolUse

unfoldable pub traced_fresh : List ℕ → Traced
traced_fresh key = record { state = fresh key; pieces = λ i. []; uses = [] }

-- the pieces once an event of these bytes is in its pool
unfoldable pub gains : ℕ → Traced → List ℕ → ℕ → List Piece
gains place t bytes i = t.pieces i ++ cond (eqb (picked t.state) i) (record { place = place; bytes = bytes } ∷ []) []

-- what the step empties then
unfoldable pub uses_now : ℕ → Traced → List ℕ → List PoolUse
uses_now place t bytes =
    let n = t.state.step in
    cond (empties n) (record { step = n; pool = output_pool n; pieces = gains place t bytes (output_pool n) } ∷ []) []

-- pieces and emptyings after an accepted call; the state is that of the step
unfoldable pub traced_accepted : ℕ → Traced → Call → Traced
traced_accepted place t (event source content) =
    let bytes = event_bytes source content in
    record {
      state = t.state;
      pieces = λ i. cond (takes t.state.step i) [] (gains place t bytes i);
      uses = t.uses ++ uses_now place t bytes;
    }
traced_accepted place t (request buffer) = t
traced_accepted place t (update seed) = t
traced_accepted place t (write seed) = t

-- the station's step, and the pieces' beside it
unfoldable pub traced_step : ℕ → Traced → Entry → Traced
traced_step place t c =
    let r = cond (eqb (entry_number t.state c) 0) (traced_accepted place t c.call) t in
    record { state = (entry_step t.state c).effect.next; pieces = r.pieces; uses = r.uses }

unfoldable pub traced_from : ℕ → Traced → List Entry → Traced
traced_from place t [] = t
traced_from place t (c ∷ cs) = traced_from (suc place) (traced_step place t c) cs

unfoldable pub traced : List ℕ → List Entry → Traced
traced key calls = traced_from 0 (traced_fresh key) calls

-- ---- erasing the tags gives the station's own

-- each pool is the running hash of its pieces' bytes
pub record Faithful (key : List ℕ) (calls : List Entry) : Type 0 where
  pub state : (traced key calls).state ≡ state_after key calls
  pub strings : (i : ℕ) → i < pool_count → pool_at (state_after key calls) i ≡ pool_of (erased ((traced key calls).pieces i))

-- what an event of these bytes after the calls empties
abbrev pub empties_now : List ℕ → List Entry → List ℕ → List PoolUse
empties_now key calls bytes = uses_now (length calls) (traced key calls) bytes

-- K and C once these uses have entered: for each, a reseed with D of its string
unfoldable pub reseed_with : GeneratorState → List PoolUse → GeneratorState
reseed_with w [] = w
reseed_with w (u ∷ us) = reseed_with (reseed w (D (erased u.pieces))) us

-- the event after these calls: accepted, the uses grow by what its step empties, whose string has the event's own bytes where it went there, and
-- these very strings enter the key: where the step empties none, K and C stay; refused, the uses stay
pub record EntersKey (key : List ℕ) (calls : List Entry) (q : Quotas) (source : ℕ) (content : List ℕ) : Type 0 where
  pub grows :
      (traced key (calls ++ (taking q (event source content) ∷ []))).uses
      ≡ (traced key calls).uses
      ++ guarded (entry_number (state_after key calls) (taking q (event source content))) (empties_now key calls (event_bytes source content)) []
  pub enters :
      entry_number (state_after key calls) (taking q (event source content)) ≡ 0 →
      (entry_step (state_after key calls) (taking q (event source content))).effect.next.generator
      ≡ encode (reseed_with (decode (state_after key calls).generator) (empties_now key calls (event_bytes source content)))

-- a call that is no event puts nothing into a pool and leaves the uses; that no pool enters K with it says ServedLaw
abbrev pub NoEvent : Entry → Type 0
NoEvent c = (source : ℕ) (content : List ℕ) → c.call ≡ event source content → ⊥

abbrev pub UsesStay : List ℕ → List Entry → Entry → Type 0
UsesStay key calls c = NoEvent c → (traced key (calls ++ (c ∷ []))).uses ≡ (traced key calls).uses

-- ---- what the schedule says

unfoldable pub piece_of : Accepted → Piece
piece_of e = record { place = e.place; bytes = e.bytes }

-- at step n, if it empties a pool, that pool's events booked for n, in arrival order
unfoldable pub scheduled_use : List Accepted → ℕ → List PoolUse
scheduled_use es n =
    cond (empties n) (record { step = n; pool = output_pool n; pieces = map piece_of (select (consumed_at n (output_pool n)) es) } ∷ []) []

-- at the steps below n
unfoldable pub scheduled_uses : List Accepted → ℕ → List PoolUse
scheduled_uses es zero = []
scheduled_uses es (suc n) = scheduled_uses es n ++ scheduled_use es n

-- ---- when an event enters

-- the bytes that the call at a place put into pool i stand in the string whose D the pool gives to the key at step n
pub record EntersAt (key : List ℕ) (calls : List Entry) (place n i : ℕ) : Type 0 where
  pub pool_use : PoolUse
  pub made : Memᴰ pool_use (traced key calls).uses
  pub at_step : pool_use.step ≡ n
  pub pool : pool_use.pool ≡ i
  pub piece : Piece
  pub inside : Memᴰ piece pool_use.pieces
  pub own : piece.place ≡ place

-- the steps that a run made
abbrev pub steps_after : List ℕ → List Entry → ℕ
steps_after key calls = (state_after key calls).step

-- an event of a list: accepted at step t, it enters through the pool that t picks, at the first step from t on that empties this pool, if the
-- run makes that step, and at no other; what enters are its own bytes; refused, it never enters
pub record EventEnters (key : List ℕ) (before : List Entry) (q : Quotas) (source : ℕ) (content : List ℕ) (later : List Entry) : Type 0 where
  pub once :
      entry_number (state_after key before) (taking q (event source content)) ≡ 0 → (n i : ℕ) →
      EntersAt key (before ++ (taking q (event source content) ∷ later)) (length before) n i
      ↔ ((i ≡ input_pool key (steps_after key before)) × (n ≡ scheduled_step i (steps_after key before))
      × (n < steps_after key (before ++ (taking q (event source content) ∷ later))))
  -- fewer than 32 × 2^(i + 1) steps after its own
  pub soon :
      (n i : ℕ) → EntersAt key (before ++ (taking q (event source content) ∷ later)) (length before) n i →
      (steps_after key before ≤ n) × (n < steps_after key before + 32 * 2 ^ (i + 1))
  pub own :
      entry_number (state_after key before) (taking q (event source content)) ≡ 0 → (n i : ℕ) →
      (e : EntersAt key (before ++ (taking q (event source content) ∷ later)) (length before) n i) → e.piece.bytes ≡ event_bytes source content
  pub never :
      (entry_number (state_after key before) (taking q (event source content)) ≡ 0 → ⊥) → (n i : ℕ) →
      EntersAt key (before ++ (taking q (event source content) ∷ later)) (length before) n i → ⊥

abbrev pub OthersNever : List ℕ → List Entry → Entry → List Entry → Type 0
OthersNever key before c later = NoEvent c → (n i : ℕ) → EntersAt key (before ++ (c ∷ later)) (length before) n i → ⊥

-- each piece's call stands before those of the pieces after it: in arrival order, each once
abbrev pub InOrder : List Piece → Type 0
InOrder [] = Unit {0}
InOrder (p ∷ ps) = ((r : Piece) → Memᴰ r ps → p.place < r.place) × InOrder ps

-- ---- the claim about a list of calls
pub record Provenance (key : List ℕ) (calls : List Entry) : Type 0 where
  -- what each step empties is what was booked for it, in arrival order
  pub uses : (traced key calls).uses ≡ scheduled_uses (reference_after key calls).events (reference_after key calls).steps
  pub order : (u : PoolUse) → Memᴰ u (traced key calls).uses → InOrder u.pieces
  pub faithful : Faithful key calls
  -- each call of the list, by where it stands
  pub strings :
      (before : List Entry) (q : Quotas) (source : ℕ) (content : List ℕ) (later : List Entry) →
      before ++ (taking q (event source content) ∷ later) ≡ calls → EntersKey key before q source content
  pub stay : (before : List Entry) (c : Entry) (later : List Entry) → before ++ (c ∷ later) ≡ calls → UsesStay key before c
  pub events :
      (before : List Entry) (q : Quotas) (source : ℕ) (content : List ℕ) (later : List Entry) →
      before ++ (taking q (event source content) ∷ later) ≡ calls → EventEnters key before q source content later
  pub others : (before : List Entry) (c : Entry) (later : List Entry) → before ++ (c ∷ later) ≡ calls → OthersNever key before c later
