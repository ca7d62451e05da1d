-- An accepted request can be served, and what the generator then leaves is the call's effect.
-- Assumes nothing.
use mathlib.Core.Path.{◌≡◌, refl, sym, ap, subst, subst₂, ◌∙◌}
use mathlib.Core.Bool.{false, and-true}
use mathlib.Core.List.{List}
use Prim.Native.Nat.{ℕ, ◌+◌, ◌≤◌}
use native.Mathlib.Omega.{arith}
use lib.Dec.{eqb, lit≤}
use lib.ListN.{length}
use borrow.Author.Tests.{le-ltb}
use Rattle.laws.specs.Blocks.{block_count}
use Rattle.generator.specs.Counter.{max_counter}
use Rattle.generator.specs.Steps.{decode, encode, reseed}
use Rattle.generator.specs.Refusals as Generator
use Rattle.generator.specs.Operations.{reseeded, requested, request_buffer}
use Rattle.generator.specs.declared.Generator.{Generator}
use Rattle.generator.proofs.Laws.{unseeded-is, spent-is, small-request, small-seed, seed-blocks, reseeded-done}
use Rattle.pools.specs.Schedule.{count_request}
use Rattle.pools.specs.Refusals.{seed_size, unseeded, request_number, write_number, update_number}
use Rattle.pools.specs.Effects.{Effect}
use Rattle.pools.proofs.Acceptance.{OutputPassed, not-spent, request-passed, request-short, write-size, write-passed, update-size, update-passed, update-room}
use Rattle.pools.proofs.Serving.{Ready, ready-reseeded, served-next, served-buffer}
use Rattle.pools.specs.declared.refusals.Standing.{Standing}
use Rattle.keyed.specs.State.{counter_of, malformed, standing}
use Rattle.keyed.specs.Effects.{served, random_data_from, random_data, reseed_with_seed, update_seed, write_seed}
use Rattle.keyed.specs.Calls.{request, update, write, call_number, call_effect}
use Rattle.keyed.specs.Promises.{Servable}
use Rattle.keyed.specs.declared.Keyed.{Keyed}
use Rattle.keyed.proofs.Events.{generator-formed}

-- ---- a generator that can serve

servable : (g : Generator) (n : ℕ) → n ≤ Generator.max_request → Ready g n → Servable g n
servable g n short able = record { formed = able.formed; keyed = able.keyed; room = able.room; short = short }

-- the state with another generator
abbrev pub with_generator : Keyed → Generator → Keyed
with_generator s g =
    record {
      generator = g;
      pools = s.pools;
      last_reseed = s.last_reseed;
      reseed_count = s.reseed_count;
      reseeded = s.reseeded;
      key_requests = s.key_requests;
      scheduler_key = s.scheduler_key;
      step = s.step;
    }

-- what it then leaves: m is the generator after the request, ys the lent bytes, count the requests on the key
pub serve_is :
    (s : Keyed) (out : List ℕ) → Servable s.generator (length out) → (m : Generator) (ys : List ℕ) (count : ℕ) →
    m ≡ requested s.generator out → ys ≡ request_buffer s.generator out → count ≡ count_request s.key_requests →
    (◌≡◌ {A = Keyed}
    (record {
      generator = m;
      pools = s.pools;
      last_reseed = s.last_reseed;
      reseed_count = s.reseed_count;
      reseeded = s.reseeded;
      key_requests = count;
      scheduler_key = s.scheduler_key;
      step = s.step;
    })
    (random_data s (length out)).next)
    × (ys ≡ (random_data s (length out)).buffer)
unfolding random_data random_data_from served
serve_is s out able m ys count made filled counted =
    let r : Ready s.generator (length out) = record { formed = able.formed; keyed = able.keyed; room = able.room } in
    (rw (made ∙ served-next s.generator out able.short r, counted), filled ∙ served-buffer s.generator out able.short r)

-- ---- accepted calls: no pool reseed is due

not-unseeded : (c : ℕ) → unseeded c false ≡ false → eqb c 0 ≡ false
unfolding unseeded
not-unseeded c e = sym (and-true (eqb c 0)) ∙ e

ready : (s : Keyed) (n : ℕ) → OutputPassed (malformed s) (counter_of s) false (block_count n + 2) → Ready s.generator n
unfolding counter_of
ready s n p =
    let c : ℕ = (decode s.generator).count in
    let room = not-spent c false (block_count n + 2) p.room in
    record {
      formed = generator-formed s p.formed;
      keyed = unseeded-is (decode s.generator) ∙ not-unseeded c p.keyed;
      room = spent-is (decode s.generator) (block_count n + 2) ∙ le-ltb max_counter (c + (block_count n + 2)) (omega arith);
    }

-- the size of a seed
seed-short : seed_size ≤ Generator.max_request
unfolding seed_size
seed-short = small-request 64 (lit≤ tt)

seed-few : seed_size ≤ 1024
unfolding seed_size
seed-few = lit≤ tt

seed-room : (c : ℕ) → c + 7 ≤ max_counter → c + 1 + (block_count seed_size + 2) ≤ max_counter
unfolding seed_size
seed-room c h = rw seed-blocks (omega arith)

-- next and ys are what an accepted call leaves
abbrev Leaves : Effect Keyed → Keyed → List ℕ → Type 0
Leaves e next ys = (0 ≡ e.emptied) × (next ≡ e.next) × (ys ≡ e.buffer)

leaves-from :
    (s : Keyed) (n : ℕ) (next : Keyed) (ys : List ℕ) → (next ≡ (random_data s n).next) × (ys ≡ (random_data s n).buffer) →
    Leaves (random_data s n) next ys
unfolding random_data random_data_from
leaves-from s n next ys h = (refl, h.0, h.1)

-- ---- a request

module _ (s : Keyed) (out : List ℕ) (ok : call_number s (request out) ≡ 0) where
  pub request-servable : Servable s.generator (length out)
  unfolding call_number
  request-servable =
      servable s.generator (length out) (request-short (malformed s) (counter_of s) false (length out) ok)
      (ready s (length out) (request-passed (malformed s) (counter_of s) false (length out) ok))

pub request-effect :
    (s : Keyed) (out : List ℕ) (next : Keyed) (ys : List ℕ) →
    (next ≡ (random_data s (length out)).next) × (ys ≡ (random_data s (length out)).buffer) → Leaves (call_effect s (request out)) next ys
unfolding call_effect
request-effect s out next ys h = leaves-from s (length out) next ys h

-- ---- a seed write

module _ (s : Keyed) (seed : List ℕ) (ok : call_number s (write seed) ≡ 0) where
  written-size : length seed ≡ seed_size
  unfolding call_number
  written-size = write-size (malformed s) (counter_of s) false seed ok

  pub write-servable : Servable s.generator (length seed)
  unfolding call_number
  write-servable =
      rw written-size (servable s.generator seed_size seed-short (ready s seed_size (write-passed (malformed s) (counter_of s) false seed ok)))

  pub write-effect :
      (next : Keyed) (ys : List ℕ) → (next ≡ (random_data s (length seed)).next) × (ys ≡ (random_data s (length seed)).buffer) →
      Leaves (call_effect s (write seed)) next ys
  unfolding call_effect write_seed
  write-effect next ys h =
      subst (λ (n : ℕ). Leaves (random_data s n) next ys) written-size (leaves-from s (length seed) next ys h)

-- ---- a seed update: the seed reseeded the generator to k

-- the request that it makes is one from K and C as the seed leaves them
pub update-is : (s : Keyed) (seed : List ℕ) → update_seed s seed ≡ random_data_from s (decode (encode (reseed (decode s.generator) seed))) seed_size
unfolding update_seed reseed_with_seed random_data random_data_from served
update-is s seed = refl

module _ (s : Keyed) (seed : List ℕ) (k : Generator) (mixed : k ≡ reseeded s.generator seed) (ok : call_number s (update seed) ≡ 0) where
  size : length seed ≡ seed_size
  unfolding call_number
  size = update-size (malformed s) (counter_of s) false seed ok

  room : (decode s.generator).count + 7 ≤ max_counter
  unfolding call_number counter_of
  room = let r = update-room (malformed s) (decode s.generator).count false seed ok in omega arith

  formed : malformed s ≡ false
  unfolding call_number
  formed = (update-passed (malformed s) (counter_of s) false seed ok).0

  mixed-is : k ≡ encode (reseed (decode s.generator) seed)
  mixed-is =
      let r = room in
      mixed ∙ reseeded-done s.generator seed (small-seed (length seed) (rw size seed-few)) (generator-formed s formed)
      (spent-is (decode s.generator) 1 ∙ le-ltb max_counter ((decode s.generator).count + 1) (omega arith))

  pub update-servable : Servable k (length seed)
  update-servable =
      rw (mixed-is, size)
      (servable (encode (reseed (decode s.generator) seed)) seed_size seed-short
      (ready-reseeded s.generator seed seed_size (seed-room (decode s.generator).count room)))

  -- the state that the request then finds
  mixed-state : with_generator s k ≡ reseed_with_seed s seed
  unfolding reseed_with_seed
  mixed-state = ap (with_generator s) mixed-is

  pub update-effect :
      (next : Keyed) (ys : List ℕ) →
      (next ≡ (random_data (with_generator s k) (length seed)).next) × (ys ≡ (random_data (with_generator s k) (length seed)).buffer) →
      Leaves (call_effect s (update seed)) next ys
  unfolding call_effect update_seed
  update-effect next ys h =
      subst₂ (λ (x : Keyed) (n : ℕ). Leaves (random_data x n) next ys) mixed-state size
      (leaves-from (with_generator s k) (length seed) next ys h)

-- ---- the number of each call, from how the state stands

module _ (s : Keyed) (r : Standing) (k : ℕ) (stands : r ≡ standing s) where
  pub request-number :
      (out : List ℕ) → k ≡ request_number r.malformed (decode r.generator).count r.due (length out) → k ≡ call_number s (request out)
  unfolding call_number counter_of standing
  request-number out e = rw stands at e

  pub write-number : (seed : List ℕ) → k ≡ write_number r.malformed (decode r.generator).count r.due seed → k ≡ call_number s (write seed)
  unfolding call_number counter_of standing
  write-number seed e = rw stands at e

  pub update-number : (seed : List ℕ) → k ≡ update_number r.malformed (decode r.generator).count r.due seed → k ≡ call_number s (update seed)
  unfolding call_number counter_of standing
  update-number seed e = rw stands at e
