-- Boundary rows over what calls do: the text that station and model share is checked here by itself. Each number's last accepted and
-- first refused value, the order of the numbers, what a refused call leaves, and each clause of 21 with a well-formed neighbour.
-- Assumes nothing.
use Rattle.std.specs.Prelude.{◌≡◌, Bool, true, false, cond, ◌&&◌, eqb, ltb, List, [], ◌∷◌, ◌++◌, map, ℕ, ◌+◌, ◌-◌, ◌^◌, length, get_or, take, drop, replicate, set}
use Rattle.laws.specs.Lists.{tabulate}
use Rattle.hash.specs.Constants.{H⁰}
use Rattle.hash.specs.ShaD.{D, empty_pool}
use Rattle.hash.specs.declared.hasher.Hasher.{Hasher}
use Rattle.generator.specs.Steps.{GeneratorState, encode, reseed, pseudo_random_data}
use Rattle.pools.specs.declared.Fortuna.{Fortuna}
use Rattle.pools.specs.Schedule.{used_pools}
use Rattle.pools.specs.Effects.{Effect, random_data}
use Rattle.pools.specs.Draws.{Drawn, tries, shuffled, try_at}
use Rattle.pools.specs.State.{fresh, pool_at, malformed}
use Rattle.pools.specs.Tries.{draw_tries, shuffle_tries}
use Rattle.pools.specs.Promises.{call_numbers}
use Rattle.pools.specs.Calls.{Call, event, request, update, write, draw, shuffle, call_number, outcome, step}
use Rattle.reference.specs.Readings.{whole_blocks, reseeded_state, seeded_state}

-- the number that a state answers a call with
unfoldable pub answers : Fortuna → List Call → List ℕ
answers s calls = map (λ (c : Call). (step s c).number) calls

-- a state with other pools, and one with another pool 0
unfoldable pub with_pools : Fortuna → List Hasher → Fortuna
with_pools s ps =
    record {
      generator = s.generator;
      pools = ps;
      last_reseed = s.last_reseed;
      reseed_count = s.reseed_count;
      reseeded = s.reseeded;
      key_requests = s.key_requests;
    }

unfoldable pub with_first_pool : Fortuna → Hasher → Fortuna
with_first_pool s p = with_pools s (set s.pools 0 p)

-- a fresh state's neighbour with another K
unfoldable pub with_key : List ℕ → Fortuna
with_key key =
    record {
      generator = encode (record { key = key; count = 0 });
      pools = fresh.pools;
      last_reseed = 0;
      reseed_count = 0;
      reseeded = false;
      key_requests = 0;
    }

-- and one with the first byte of K, C, time, count and flag
unfoldable pub with_timer : ℕ → ℕ → ℕ → ℕ → Bool → Fortuna
with_timer key c last count made =
    record {
      generator = encode (record { key = key ∷ replicate 31 0; count = c });
      pools = replicate 32 empty_pool;
      last_reseed = last;
      reseed_count = count;
      reseeded = made;
      key_requests = 0;
    }

-- a state with another number of requests on the key
unfoldable pub with_requests : Fortuna → ℕ → Fortuna
with_requests s n =
    record {
      generator = s.generator;
      pools = s.pools;
      last_reseed = s.last_reseed;
      reseed_count = s.reseed_count;
      reseeded = s.reseeded;
      key_requests = n;
    }

-- C = 0 with K not all zero: a state that 21 refuses
unfoldable pub keyed_unseeded : Fortuna
keyed_unseeded = with_timer 1 0 0 0 false

-- 11, 12, 13, and each before the next; 32 bytes are accepted, 33 and none are not
abbrev pub EventRow : Type 0
EventRow =
    answers fresh
    (event 256 31 (1 ∷ []) ∷ event 65535 31 (1 ∷ []) ∷ event 65536 32 [] ∷ event 65535 32 [] ∷ event 65535 31 []
    ∷ event 0 0 (replicate 32 1) ∷ event 0 0 (replicate 33 1) ∷ [])
    ≡ 0 ∷ 0 ∷ 11 ∷ 12 ∷ 13 ∷ 0 ∷ 13 ∷ []

-- input numbers before 21
abbrev pub EventOrderRow : Type 0
EventOrderRow =
    answers keyed_unseeded (event 65536 0 (1 ∷ []) ∷ event 0 32 (1 ∷ []) ∷ event 0 0 [] ∷ event 0 0 (1 ∷ []) ∷ [])
    ≡ 11 ∷ 12 ∷ 13 ∷ 21 ∷ []

-- the source in two bytes, least significant first, and the length
abbrev pub HeaderRow : Type 0
HeaderRow =
    map (λ (source : ℕ). take 3 (pool_at (step fresh (event source 0 (1 ∷ 2 ∷ []))).effect.next 0).tail) (0 ∷ 255 ∷ 256 ∷ 900 ∷ 65535 ∷ [])
    ≡ (0 ∷ 0 ∷ 2 ∷ []) ∷ (255 ∷ 0 ∷ 2 ∷ []) ∷ (0 ∷ 1 ∷ 2 ∷ []) ∷ (0x84 ∷ 0x03 ∷ 2 ∷ []) ∷ (255 ∷ 255 ∷ 2 ∷ []) ∷ []

-- 22: length + 3 + data length up to 2^61 - 65, in that pool alone; a length above that is 21
abbrev pub RoomRow : Type 0
RoomRow =
    map (λ (n : ℕ). (step (with_first_pool fresh (whole_blocks n)) (event 0 0 (replicate 30 1))).number)
    ((2 ^ 61 - 128) ∷ (2 ^ 61 - 64) ∷ [])
    ++ map (λ (n : ℕ). (step (with_first_pool fresh (whole_blocks (2 ^ 61 - 128))) (event 0 0 (replicate n 1))).number) (31 ∷ 32 ∷ [])
    ++ answers (with_first_pool fresh (record { chain = replicate 8 0; tail = replicate 64 0; length = 2 ^ 61 - 69 }))
    (event 0 0 (1 ∷ []) ∷ event 0 0 (1 ∷ 2 ∷ []) ∷ event 0 1 (1 ∷ 2 ∷ []) ∷ [])
    ≡ 0 ∷ 21 ∷ 0 ∷ 0 ∷ 0 ∷ 22 ∷ 0 ∷ []

-- 21 before 23 before 24; 23 not where a reseed is due; a request of no bytes takes 2, with a due reseed 3
abbrev pub RequestRow : Type 0
RequestRow =
    answers keyed_unseeded (request 0 [] ∷ []) ++ answers fresh (request 0 [] ∷ request 0 (1 ∷ []) ∷ [])
    ++ answers (with_first_pool fresh (whole_blocks 64)) (request 0 [] ∷ [])
    ++ map (λ (c : ℕ). (step (reseeded_state c 1 0) (request 200 [])).number) ((2 ^ 128 - 4) ∷ (2 ^ 128 - 3) ∷ [])
    ≡ 21 ∷ 23 ∷ 23 ∷ 0 ∷ 0 ∷ 24 ∷ []

-- 64 bytes that are not all equal, and a page that reads b everywhere
unfoldable pub first_seed : List ℕ
first_seed = tabulate (λ (i : ℕ). i) 64

unfoldable pub page : ℕ → List ℕ
page b = replicate 64 b

-- 15 before 21; a write is 23 where unseeded and takes 6, an update seeds and takes 7, either one more with a due reseed
abbrev pub SeedRow : Type 0
SeedRow =
    answers keyed_unseeded
    (update 0 (take 63 first_seed) ∷ update 0 (0 ∷ first_seed) ∷ update 0 first_seed ∷ write 0 [] ∷ write 0 first_seed ∷ [])
    ++ answers fresh (update 0 first_seed ∷ write 0 first_seed ∷ [])
    ++ answers (with_first_pool fresh (whole_blocks 64)) (write 0 first_seed ∷ [])
    ≡ 15 ∷ 15 ∷ 21 ∷ 15 ∷ 21 ∷ 0 ∷ 23 ∷ 0 ∷ []

-- 36: an update of 64 equal bytes, FF and 00 among them; 63 and 65 of them are 15
abbrev pub BlankRow : Type 0
BlankRow =
    (answers fresh (update 0 (page 0xff) ∷ update 0 (page 0) ∷ update 0 (page 0x5a) ∷ []) ≡ 36 ∷ 36 ∷ 36 ∷ [])
    × (tabulate (λ (b : ℕ). (step fresh (update 0 (page b))).number) 256 ≡ replicate 256 36)
    × (answers fresh (update 0 (replicate 63 0xff) ∷ update 0 (replicate 65 0xff) ∷ []) ≡ 15 ∷ 15 ∷ [])

-- another byte at any one place, the first and the last among them, is accepted, and so is a page whose halves are equal
abbrev pub BlankPlacesRow : Type 0
BlankPlacesRow =
    (tabulate (λ (i : ℕ). (step fresh (update 0 (set (page 0xff) i 0))).number) 64 ≡ replicate 64 0)
    × ((step fresh (update 0 (take 32 first_seed ++ take 32 first_seed))).number ≡ 0)

-- 15 before 36, 36 before 21 and before 24, and with a reseed due; each beside an update of other bytes
abbrev pub BlankOrderRow : Type 0
BlankOrderRow =
    answers keyed_unseeded (update 0 (replicate 63 0) ∷ update 0 (page 0) ∷ update 0 first_seed ∷ [])
    ++ answers (seeded_state (2 ^ 128 - 1)) (update 0 (page 0xff) ∷ update 0 first_seed ∷ [])
    ++ answers (with_timer 1 (2 ^ 128 - 1) 5 0 false) (update 0 (page 0xff) ∷ update 0 first_seed ∷ [])
    ++ answers (with_first_pool fresh (whole_blocks 64)) (update 0 (page 0xff) ∷ update 0 first_seed ∷ [])
    ≡ 15 ∷ 36 ∷ 21 ∷ 36 ∷ 24 ∷ 36 ∷ 21 ∷ 36 ∷ 0 ∷ []

-- a write over such a page is one over any other: 23 where unseeded, accepted where seeded or where a reseed is due
abbrev pub BlankWriteRow : Type 0
BlankWriteRow =
    map (λ (s : Fortuna). (step s (write 0 (page 0xff))).number) (fresh ∷ seeded_state 1 ∷ with_first_pool fresh (whole_blocks 64) ∷ keyed_unseeded ∷ [])
    ≡ 23 ∷ 0 ∷ 0 ∷ 21 ∷ []

abbrev pub SeedRoomRow : Type 0
SeedRoomRow =
    map (λ (c : ℕ). (step (seeded_state c) (write 0 first_seed)).number) ((2 ^ 128 - 7) ∷ (2 ^ 128 - 6) ∷ [])
    ++ map (λ (c : ℕ). (step (reseeded_state c 1 0) (write 200 first_seed)).number) ((2 ^ 128 - 8) ∷ (2 ^ 128 - 7) ∷ [])
    ++ map (λ (c : ℕ). (step (seeded_state c) (update 0 first_seed)).number) ((2 ^ 128 - 8) ∷ (2 ^ 128 - 7) ∷ [])
    ++ map (λ (c : ℕ). (step (reseeded_state c 1 0) (update 200 first_seed)).number) ((2 ^ 128 - 9) ∷ (2 ^ 128 - 8) ∷ [])
    ≡ 0 ∷ 24 ∷ 0 ∷ 24 ∷ 0 ∷ 24 ∷ 0 ∷ 24 ∷ []

-- the numbers that refuse calls before they do anything
unfoldable pub refusals : Fortuna → List Call → List ℕ
refusals s calls = map (call_number s) calls

-- a draw: n from 1 to 2^32 (31), then 1 to 64 tries (32), both before 21; 23 as for a request; 3 blocks for each try, and one more with a
-- due reseed
abbrev pub DrawRow : Type 0
DrawRow =
    refusals keyed_unseeded
    (draw 0 0 0 ∷ draw 0 (2 ^ 32 + 1) 65 ∷ draw 0 1 0 ∷ draw 0 (2 ^ 32) 65 ∷ draw 0 1 1 ∷ draw 0 (2 ^ 32) 64 ∷ [])
    ++ refusals fresh (draw 0 1 1 ∷ []) ++ refusals (with_first_pool fresh (whole_blocks 64)) (draw 0 1 1 ∷ [])
    ++ map (λ (c : ℕ). call_number (seeded_state c) (draw 0 6 2)) ((2 ^ 128 - 7) ∷ (2 ^ 128 - 6) ∷ [])
    ++ map (λ (c : ℕ). call_number (reseeded_state c 1 0) (draw 200 6 2)) ((2 ^ 128 - 8) ∷ (2 ^ 128 - 7) ∷ [])
    ≡ 31 ∷ 31 ∷ 32 ∷ 32 ∷ 21 ∷ 21 ∷ 23 ∷ 0 ∷ 0 ∷ 24 ∷ 0 ∷ 24 ∷ []

-- each number that `call_numbers` lists for a call is one that its check gives, in that order; for 14 see `RequestSizeRow`
abbrev pub ListedRow : Type 0
ListedRow =
    let full = with_first_pool fresh (record { chain = replicate 8 0; tail = replicate 64 0; length = 2 ^ 61 - 65 }) in
    let spent = seeded_state (2 ^ 128 - 1) in
    let one : List ℕ = 1 ∷ [] in
    let two : List ℕ = 5 ∷ 6 ∷ [] in
    (refusals fresh (event 0 0 one ∷ event 65536 0 one ∷ event 0 32 one ∷ event 0 0 [] ∷ [])
    ++ refusals keyed_unseeded (event 0 0 one ∷ []) ++ refusals full (event 0 0 one ∷ []) ≡ call_numbers (event 0 0 []))
    × (map (λ (s : Fortuna). call_number s (request 0 [])) (seeded_state 1 ∷ keyed_unseeded ∷ fresh ∷ spent ∷ [])
    ≡ take 1 (call_numbers (request 0 [])) ++ drop 2 (call_numbers (request 0 [])))
    × (refusals fresh (update 0 first_seed ∷ update 0 [] ∷ update 0 (page 0) ∷ [])
    ++ map (λ (s : Fortuna). call_number s (update 0 first_seed)) (keyed_unseeded ∷ spent ∷ []) ≡ call_numbers (update 0 []))
    × (refusals (seeded_state 1) (write 0 first_seed ∷ write 0 [] ∷ [])
    ++ map (λ (s : Fortuna). call_number s (write 0 first_seed)) (keyed_unseeded ∷ fresh ∷ spent ∷ []) ≡ call_numbers (write 0 []))
    × (refusals (seeded_state 1) (draw 0 6 1 ∷ draw 0 0 1 ∷ draw 0 6 0 ∷ [])
    ++ map (λ (s : Fortuna). call_number s (draw 0 6 1)) (keyed_unseeded ∷ fresh ∷ spent ∷ []) ≡ call_numbers (draw 0 0 0))
    × (refusals (seeded_state 1) (shuffle 0 two ∷ shuffle 0 (5 ∷ two) ∷ [])
    ++ map (λ (s : Fortuna). call_number s (shuffle 0 two)) (keyed_unseeded ∷ fresh ∷ spent ∷ []) ≡ call_numbers (shuffle 0 []))

-- a shuffle: 31 for a repeat or more than 256 numbers, before 21; below 2 numbers neither 23 nor 24; 192 blocks for each number but one
abbrev pub ShuffleRow : Type 0
ShuffleRow =
    refusals keyed_unseeded
    (shuffle 0 (5 ∷ 6 ∷ 5 ∷ []) ∷ shuffle 0 (replicate 257 0) ∷ shuffle 0 [] ∷ shuffle 0 (5 ∷ []) ∷ shuffle 0 (5 ∷ 6 ∷ []) ∷ [])
    ++ refusals fresh (shuffle 0 [] ∷ shuffle 0 (5 ∷ []) ∷ shuffle 0 (5 ∷ 6 ∷ []) ∷ [])
    ++ refusals (with_first_pool fresh (whole_blocks 64)) (shuffle 0 (5 ∷ 6 ∷ []) ∷ [])
    ++ map (λ (c : ℕ). call_number (seeded_state c) (shuffle 0 (5 ∷ 6 ∷ 7 ∷ []))) ((2 ^ 128 - 385) ∷ (2 ^ 128 - 384) ∷ [])
    ++ map (λ (c : ℕ). call_number (reseeded_state c 1 0) (shuffle 200 (5 ∷ 6 ∷ 7 ∷ []))) ((2 ^ 128 - 386) ∷ (2 ^ 128 - 385) ∷ [])
    ++ refusals (seeded_state (2 ^ 128 - 1)) (shuffle 0 (5 ∷ []) ∷ [])
    ≡ 31 ∷ 31 ∷ 21 ∷ 21 ∷ 21 ∷ 0 ∷ 0 ∷ 23 ∷ 0 ∷ 0 ∷ 24 ∷ 0 ∷ 24 ∷ 0 ∷ []

-- a refused call: count 0, the buffer and the state as before
abbrev pub RefusedRow : Type 0
RefusedRow =
    ((step fresh (request 0 (1 ∷ 2 ∷ []))).effect.emptied ≡ 0)
    × ((step fresh (request 0 (1 ∷ 2 ∷ []))).effect.buffer ≡ 1 ∷ 2 ∷ [])
    × ((step keyed_unseeded (request 0 (1 ∷ 2 ∷ []))).effect.next ≡ keyed_unseeded)
    × ((step fresh (update 0 (3 ∷ []))).effect.buffer ≡ 3 ∷ [])
    × ((step fresh (update 0 (page 0xff))).effect.buffer ≡ page 0xff)
    × ((step fresh (write 0 (4 ∷ []))).effect.buffer ≡ 4 ∷ [])
    × ((step fresh (write 0 (4 ∷ []))).effect.next ≡ fresh)
    × ((step fresh (draw 0 6 1)).value ≡ 0)
    × ((step fresh (shuffle 0 (5 ∷ 6 ∷ []))).effect.buffer ≡ 5 ∷ 6 ∷ [])

-- 21, the clauses on a pool: too long; bytes after the tail; below 64 bytes with another running hash
abbrev pub PoolClausesRow : Type 0
PoolClausesRow =
    map (λ (p : Hasher). malformed (with_first_pool fresh p))
    (whole_blocks 64
    ∷ record { chain = replicate 8 0; tail = replicate 64 0; length = 2 ^ 61 - 65 }
    ∷ record { chain = replicate 8 0; tail = replicate 64 0; length = 2 ^ 61 - 64 }
    ∷ record { chain = replicate 8 0; tail = (1 ∷ 2 ∷ replicate 62 0); length = 66 }
    ∷ record { chain = replicate 8 0; tail = (1 ∷ 2 ∷ 3 ∷ replicate 61 0); length = 66 }
    ∷ record { chain = replicate 8 0; tail = (replicate 63 0 ++ (1 ∷ [])); length = 66 }
    ∷ record { chain = empty_pool.chain; tail = (7 ∷ replicate 63 0); length = 1 }
    ∷ record { chain = set empty_pool.chain 7 0; tail = (7 ∷ replicate 63 0); length = 1 }
    ∷ record { chain = replicate 8 0; tail = replicate 63 7 ++ (0 ∷ []); length = 63 }
    ∷ [])
    ≡ false ∷ false ∷ true ∷ false ∷ true ∷ true ∷ false ∷ true ∷ true ∷ []

-- a byte that is not zero at each place of a tail of 2 bytes
abbrev pub TailRow : Type 0
TailRow =
    tabulate
    (λ (i : ℕ). malformed (with_first_pool fresh (record { chain = replicate 8 0; tail = set (replicate 64 0) i 1; length = 66 }))) 64
    ≡ false ∷ false ∷ replicate 62 true

-- another word at each place of the running hash, below 64 bytes
abbrev pub ChainRow : Type 0
ChainRow =
    tabulate (λ (i : ℕ). malformed (with_first_pool fresh (record { chain = set empty_pool.chain i 0; tail = replicate 64 0; length = 0 }))) 8
    ≡ replicate 8 true

-- a pool that began with SHA-256's initial value, before 02 (v): below 64 bytes it is malformed, from there on nothing tells
abbrev pub OldPoolRow : Type 0
OldPoolRow =
    map (λ (n : ℕ). malformed (with_first_pool fresh (record { chain = H⁰; tail = replicate 64 0; length = n }))) (0 ∷ 1 ∷ 63 ∷ 64 ∷ [])
    ≡ true ∷ true ∷ true ∷ false ∷ []

-- in each of the pools
abbrev pub EachPoolRow : Type 0
EachPoolRow = tabulate (λ (i : ℕ). malformed (with_pools fresh (set fresh.pools i (whole_blocks (2 ^ 61 - 64))))) 32 ≡ replicate 32 true

-- 21: C = 0 with a byte of K not zero, at each place
abbrev pub KeyRow : Type 0
KeyRow = tabulate (λ (i : ℕ). malformed (with_key (set (replicate 32 0) i 1))) 32 ≡ replicate 32 true

-- 21, the others: C = 0 with K not all zero; C = 0 with the flag set; the flag clear with time or count not 0
abbrev pub TimerClausesRow : Type 0
TimerClausesRow =
    map malformed
    (fresh
    ∷ with_timer 1 1 0 0 false
    ∷ with_timer 1 0 0 0 false
    ∷ with_timer 0 0 0 1 true
    ∷ with_timer 0 1 0 0 true
    ∷ with_timer 0 1 5 0 false
    ∷ with_timer 0 1 0 5 false
    ∷ with_timer 0 1 5 5 true
    ∷ [])
    ≡ false ∷ false ∷ true ∷ true ∷ false ∷ true ∷ true ∷ false ∷ []

-- the pools of reseed 6, and the generator's reseed
abbrev pub UsedRow : Type 0
UsedRow = used_pools 6 ≡ 0 ∷ 1 ∷ []

abbrev pub ReseedRow : Type 0
ReseedRow = (w : GeneratorState) (s : List ℕ) → reseed w s ≡ record { key = D (w.key ++ s); count = w.count + 1 }

-- 14: whatever the state, 1,048,577 bytes; 1,048,576 are accepted
abbrev pub RequestSizeRow : Type 0
RequestSizeRow =
    ((s : Fortuna) (clock : ℕ) (out : List ℕ) → length out ≡ 1048577 → (step s (request clock out)).number ≡ 14)
    × ((out : List ℕ) → length out ≡ 1048576 → (step (seeded_state 1) (request 0 out)).number ≡ 0)

-- 31: 256 numbers are accepted, 257 are not
abbrev pub ListSizeRow : Type 0
ListSizeRow = refusals (seeded_state 1) (shuffle 0 (tabulate (λ (i : ℕ). i) 256) ∷ shuffle 0 (tabulate (λ (i : ℕ). i) 257) ∷ []) ≡ 0 ∷ 31 ∷ []

-- the rule of draws on given bytes: server i answers with the i-th string, and the first empties a pool
unfoldable pub strings4 : List (List ℕ)
strings4 =
    (0xff ∷ 0 ∷ 0 ∷ 0 ∷ []) ∷ (0x0b ∷ 0xff ∷ 0xff ∷ 0xff ∷ [])
    ∷ (4 ∷ 0 ∷ 0 ∷ 0 ∷ []) ∷ (1 ∷ 0 ∷ 0 ∷ 0 ∷ []) ∷ (0 ∷ 0 ∷ 0 ∷ 0 ∷ []) ∷ []

unfoldable pub given : ℕ → Effect ℕ
given i = record { emptied = cond (eqb i 0) 1 0; buffer = get_or strings4 i []; next = i + 1; trace = [] }

-- below 6 the low three bits of the strings are 7, 3, 4: with one try there is no value, with more the second try ends them
abbrev pub TriesRow : Type 0
TriesRow =
    map (λ (d : ℕ). let o : Drawn ℕ = tries given 6 d 0 in o.value ∷ o.effect.emptied ∷ o.effect.next ∷ []) (1 ∷ 2 ∷ 64 ∷ [])
    ≡ (0 ∷ 1 ∷ 1 ∷ []) ∷ (3 ∷ 1 ∷ 2 ∷ []) ∷ (3 ∷ 1 ∷ 2 ∷ []) ∷ []

abbrev pub FoundRow : Type 0
FoundRow = map (λ (d : ℕ). (tries given 6 d 0).found) (1 ∷ 2 ∷ []) ≡ false ∷ true ∷ []

-- four entries: place 3 below 4 draws 3 (string 0), place 2 below 3 draws 0 at its second try (strings 1, 2), place 1 below 2 draws 1 (string 3)
abbrev pub OrderRow : Type 0
OrderRow =
    ((shuffled given (10 ∷ 11 ∷ 12 ∷ 13 ∷ []) 0).effect.buffer ≡ 12 ∷ 11 ∷ 10 ∷ 13 ∷ [])
    × ((shuffled given (10 ∷ 11 ∷ 12 ∷ 13 ∷ []) 0).effect.next ≡ 4)

-- a server that answers with 0, then 64 times with 3, then with 0 for ever
unfoldable pub late : ℕ → Effect ℕ
late i =
    record { emptied = 0; buffer = cond (ltb 0 i && ltb i 65) 3 0 ∷ 0 ∷ 0 ∷ 0 ∷ []; next = i + 1; trace = [] }

-- place 2 below 3 takes no 3: from server 1 on its 64th try finds a value; from server 0 on none does, though place 3 was drawn, and
-- the list is as it was
abbrev pub LateRow : Type 0
LateRow =
    map (λ (i : ℕ). (shuffled late (10 ∷ 11 ∷ 12 ∷ 13 ∷ []) i).effect.buffer) (0 ∷ 1 ∷ [])
    ≡ (10 ∷ 11 ∷ 12 ∷ 13 ∷ []) ∷ (11 ∷ 12 ∷ 10 ∷ 13 ∷ []) ∷ []

abbrev pub LateFoundRow : Type 0
LateFoundRow =
    (map (λ (i : ℕ). (shuffled late (10 ∷ 11 ∷ 12 ∷ 13 ∷ []) i).found) (0 ∷ 1 ∷ []) ≡ false ∷ true ∷ [])
    × (map (λ (i : ℕ). (shuffled late (10 ∷ 11 ∷ 12 ∷ 13 ∷ []) i).effect.next) (0 ∷ 1 ∷ []) ≡ 65 ∷ 67 ∷ [])

-- the tries that these draws and shuffles make: as many as it takes, and none after a value; 64 of the second place where none finds one
abbrev pub DrawTriesRow : Type 0
DrawTriesRow = map (λ (d : ℕ). draw_tries given 6 d 0) (1 ∷ 2 ∷ 64 ∷ []) ≡ (0 ∷ []) ∷ (0 ∷ 1 ∷ []) ∷ (0 ∷ 1 ∷ []) ∷ []

abbrev pub ShuffleTriesRow : Type 0
ShuffleTriesRow =
    (shuffle_tries given 3 (10 ∷ 11 ∷ 12 ∷ 13 ∷ []) 0 ≡ 0 ∷ 1 ∷ 2 ∷ 3 ∷ [])
    × (map (λ (i : ℕ). length (shuffle_tries late 3 (10 ∷ 11 ∷ 12 ∷ 13 ∷ []) i)) (0 ∷ 1 ∷ []) ≡ 65 ∷ 66 ∷ [])

-- a try is a request for 4 bytes
abbrev pub TryRow : Type 0
TryRow = (s : Fortuna) (clock : ℕ) → try_at clock s ≡ random_data s clock 4

-- what a call comes to, from the number that refuses it: done and a value found; done and none found; refused
abbrev pub OutcomeRow : Type 0
OutcomeRow =
    (outcome 0 true 9 (7 ∷ []) 2 (given 0) ≡ record { number = 0; value = 9; effect = given 0 })
    × (outcome 0 false 9 (7 ∷ []) 2 (given 0) ≡ record { number = 33; value = 9; effect = given 0 })
    × (outcome 24 false 9 (7 ∷ []) 2 (given 0)
    ≡ record { number = 24; value = 0; effect = record { emptied = 0; buffer = 7 ∷ []; next = 2; trace = [] } })

-- the seed calls, from K and C: an update of a fresh state reseeds with the 64 bytes, and 64 bytes follow; a write is these alone
abbrev pub UpdateBytesRow : Type 0
UpdateBytesRow =
    let w : GeneratorState = record { key = D (replicate 32 0 ++ first_seed); count = 1 } in
    ((step fresh (update 0 first_seed)).effect.buffer ≡ (pseudo_random_data w 64).bytes)
    × ((step fresh (update 0 first_seed)).effect.next.generator ≡ encode (pseudo_random_data w 64).next)

abbrev pub WriteBytesRow : Type 0
WriteBytesRow =
    let w : GeneratorState = record { key = replicate 32 1; count = 1 } in
    ((step (seeded_state 1) (write 0 first_seed)).effect.buffer ≡ (pseudo_random_data w 64).bytes)
    × ((step (seeded_state 1) (write 0 first_seed)).effect.next.generator ≡ encode (pseudo_random_data w 64).next)

-- the reseed number is kept modulo 2^32
abbrev pub KeptNumberRow : Type 0
KeptNumberRow =
    map (λ (n : ℕ). (step (reseeded_state 1 n 0) (request 200 [])).effect.next.reseed_count) (5 ∷ (2 ^ 31 - 1) ∷ (2 ^ 32 - 1) ∷ [])
    ≡ 6 ∷ (2 ^ 31) ∷ 0 ∷ []

-- 21 before 24: the flag clear with a mark, and C at its end
abbrev pub SpentOrderRow : Type 0
SpentOrderRow =
    refusals (with_timer 1 (2 ^ 128 - 1) 5 0 false)
    (request 0 [] ∷ update 0 first_seed ∷ write 0 first_seed ∷ draw 0 1 1 ∷ shuffle 0 (5 ∷ 6 ∷ []) ∷ []) ≡ replicate 5 21

-- requests on one key, 21: C = 0 with a number above 0; not where C is 1, though no pool reseed was made (seeded by an update alone)
abbrev pub CountClauseRow : Type 0
CountClauseRow =
    (map (λ (n : ℕ). malformed (with_requests fresh n)) (0 ∷ 1 ∷ 65535 ∷ []) ≡ false ∷ true ∷ true ∷ [])
    × (map (λ (n : ℕ). malformed (with_requests (seeded_state 1) n)) (0 ∷ 1 ∷ 65535 ∷ []) ≡ false ∷ false ∷ false ∷ [])

-- such a state refuses every call, before 23
abbrev pub CountOrderRow : Type 0
CountOrderRow =
    answers (with_requests fresh 1)
    (event 7 0 (1 ∷ []) ∷ request 0 [] ∷ update 0 first_seed ∷ write 0 first_seed ∷ draw 0 6 1 ∷ shuffle 0 [] ∷ shuffle 0 (5 ∷ 6 ∷ []) ∷ [])
    ≡ replicate 7 21

-- the number on the key that a call leaves
unfoldable pub count_after : Fortuna → Call → ℕ
count_after s c = (step s c).effect.next.key_requests

-- fresh it is 0; each request and seed call is one more, up to 65,535, also an update of a fresh state
abbrev pub CountRow : Type 0
CountRow =
    (fresh.key_requests ≡ 0)
    × (map (λ (n : ℕ). count_after (with_requests (seeded_state 1) n) (request 0 [])) (0 ∷ 9 ∷ 65534 ∷ 65535 ∷ [])
    ≡ 1 ∷ 10 ∷ 65535 ∷ 65535 ∷ [])
    × (map (count_after (with_requests (seeded_state 1) 9)) (update 0 first_seed ∷ write 0 first_seed ∷ []) ≡ 10 ∷ 10 ∷ [])
    × (count_after fresh (update 0 first_seed) ≡ 1)

-- the one that makes a pool reseed leaves 1: reading 100 is not due, 101 is
abbrev pub CountAnewRow : Type 0
CountAnewRow =
    map (λ (clock : ℕ). map (count_after (with_requests (reseeded_state 1 1 0) 9))
    (request clock [] ∷ update clock first_seed ∷ write clock first_seed ∷ []))
    (100 ∷ 101 ∷ [])
    ≡ (10 ∷ 10 ∷ 10 ∷ []) ∷ (1 ∷ 1 ∷ 1 ∷ []) ∷ []

-- an event, a list of fewer than 2 numbers and a refused call of each kind leave it
abbrev pub CountKeptRow : Type 0
CountKeptRow =
    (map (count_after (with_requests (seeded_state 1) 9))
    (event 7 0 (1 ∷ []) ∷ shuffle 0 [] ∷ shuffle 0 (5 ∷ []) ∷ event 7 32 (1 ∷ [])
    ∷ update 0 [] ∷ write 0 [] ∷ draw 0 0 1 ∷ shuffle 0 (5 ∷ 5 ∷ []) ∷ [])
    ≡ replicate 8 9)
    × (map (count_after (with_requests (seeded_state (2 ^ 128 - 1)) 9))
    (request 0 [] ∷ update 0 first_seed ∷ write 0 first_seed ∷ draw 0 6 1 ∷ shuffle 0 (5 ∷ 6 ∷ []) ∷ [])
    ≡ replicate 5 9)

-- the rows together
pub record Boundaries : Type 0 where
  pub events : EventRow
  pub event_order : EventOrderRow
  pub headers : HeaderRow
  pub room : RoomRow
  pub requests : RequestRow
  pub request_sizes : RequestSizeRow
  pub spent_order : SpentOrderRow
  pub seeds : SeedRow
  pub seed_room : SeedRoomRow
  pub blank : BlankRow
  pub blank_places : BlankPlacesRow
  pub blank_order : BlankOrderRow
  pub blank_writes : BlankWriteRow
  pub draws : DrawRow
  pub shuffles : ShuffleRow
  pub listed : ListedRow
  pub list_sizes : ListSizeRow
  pub tries : TriesRow
  pub found : FoundRow
  pub order : OrderRow
  pub late : LateRow
  pub late_found : LateFoundRow
  pub draw_tries : DrawTriesRow
  pub shuffle_tries : ShuffleTriesRow
  pub try_bytes : TryRow
  pub outcomes : OutcomeRow
  pub update_bytes : UpdateBytesRow
  pub write_bytes : WriteBytesRow
  pub refused : RefusedRow
  pub pool_clauses : PoolClausesRow
  pub tails : TailRow
  pub chains : ChainRow
  pub old_pools : OldPoolRow
  pub each_pool : EachPoolRow
  pub keys : KeyRow
  pub timer_clauses : TimerClausesRow
  pub used_by_six : UsedRow
  pub kept_number : KeptNumberRow
  pub generator_reseed : ReseedRow
  pub count_clause : CountClauseRow
  pub count_order : CountOrderRow
  pub counts : CountRow
  pub counts_anew : CountAnewRow
  pub counts_kept : CountKeptRow
