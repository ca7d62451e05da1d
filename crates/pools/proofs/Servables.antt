-- An accepted call can be served.
-- Assumes nothing.
use Rattle.std.proofs.Common.{◌≡◌, ℕ, ◌+◌, ◌≤◌, Bool, true, false, cond, ◌||◌, List, length, refl, ◌∙◌, arith, lit≤, le-ltb, ne_eqb}
use Rattle.laws.specs.Blocks.{block_count}
use Rattle.laws.proofs.Cases.{neither}
use Rattle.generator.specs.Counter.{max_counter}
use Rattle.generator.specs.Steps.{decode, encode, reseed}
use Rattle.generator.specs.Refusals as Generator
use Rattle.generator.specs.Operations.{reseeded}
use Rattle.generator.specs.declared.Generator.{Generator}
use Rattle.generator.proofs.Laws.{spent-is, small-request, small-seed, seed-blocks, reseeded-done}
use Rattle.pools.specs.Pool.{malformed_pool}
use Rattle.pools.specs.State.{pool_at, counter_of, any_pool, unseeded_reseeded, stray_timer, unseeded_counted, malformed_fields, malformed, due}
use Rattle.pools.specs.Refusals.{seed_size, unseeded, spent, request_number, write_number, update_number}
use Rattle.pools.specs.Effects.{with_generator, random_data, reseed_with_seed}
use Rattle.pools.specs.Collected.{Servable}
use Rattle.pools.specs.declared.Fortuna.{Fortuna}
use Rattle.pools.proofs.Acceptance.{OutputPassed, not-spent, request-passed, request-short, write-size, write-passed, update-size, update-passed}
use Rattle.pools.proofs.Serving.{ready-reseeded, reseeded-count}

first : (a b c d : Bool) → (a || b || c || d) ≡ false → a ≡ false
first true b c d e = e
first false b c d e = refl

-- ---- a state that is not malformed

module _ (s : Fortuna) (fine : malformed s ≡ false) where
  -- the clauses of 21 that are not a pool's
  abbrev fields : Bool
  fields = malformed_fields (decode s.generator) s.reseeded s.last_reseed s.reseed_count s.key_requests

  pub pools-formed : any_pool malformed_pool s.pools ≡ false
  unfolding malformed
  pools-formed = (neither (any_pool malformed_pool s.pools) fields fine).0

  pub fields-formed : fields ≡ false
  unfolding malformed
  fields-formed = (neither (any_pool malformed_pool s.pools) fields fine).1

  pub generator-formed : Generator.malformed (decode s.generator) ≡ false
  unfolding malformed_fields
  generator-formed =
      let w = decode s.generator in
      first (Generator.malformed w) (unseeded_reseeded w.count s.reseeded)
      (stray_timer s.reseeded s.last_reseed s.reseed_count) (unseeded_counted w.count s.key_requests) fields-formed

-- what a served request of n bytes leaves
abbrev pub Serves : Fortuna → ℕ → ℕ → ℕ → Fortuna → List ℕ → Type 0
Serves s clock n emptied next bytes =
    (emptied ≡ (random_data s clock n).emptied) × (next ≡ (random_data s clock n).next) × (bytes ≡ (random_data s clock n).buffer)

-- ---- requests and writes

servable : (s : Fortuna) (clock n : ℕ) → n ≤ Generator.max_request
    → OutputPassed (malformed s) (counter_of s) (due s clock) (block_count n + 2) → Servable s clock n
servable s clock n short p =
    record {
      pools = pools-formed s p.formed;
      formed = generator-formed s p.formed;
      keyed = p.keyed;
      room = p.room;
      short = short;
    }

pub request-servable : (s : Fortuna) (clock n : ℕ) → request_number (malformed s) (counter_of s) (due s clock) n ≡ 0 → Servable s clock n
request-servable s clock n e =
    servable s clock n (request-short (malformed s) (counter_of s) (due s clock) n e) (request-passed (malformed s) (counter_of s) (due s clock) n e)

module _ (s : Fortuna) (clock : ℕ) (seed : List ℕ) (ok : write_number (malformed s) (counter_of s) (due s clock) seed ≡ 0) where
  write-sized : length seed ≡ seed_size
  write-sized = write-size (malformed s) (counter_of s) (due s clock) seed ok

  pub write-servable : Servable s clock (length seed)
  write-servable =
      rw write-sized
      (servable s clock seed_size (unfold seed_size in small-request 64 (lit≤ tt)) (write-passed (malformed s) (counter_of s) (due s clock) seed ok))

  pub write-serves : (emptied : ℕ) (next : Fortuna) (bytes : List ℕ) → Serves s clock (length seed) emptied next bytes
      → Serves s clock seed_size emptied next bytes
  write-serves emptied next bytes e = rw write-sized at e

-- ---- an update: the seed's reseed is accepted, and the request after it

module _ (s : Fortuna) (clock : ℕ) (seed : List ℕ) (ok : update_number (malformed s) (counter_of s) (due s clock) seed ≡ 0) where
  sized : length seed ≡ 64
  unfolding seed_size
  sized = update-size (malformed s) (counter_of s) (due s clock) seed ok

  formed : malformed s ≡ false
  formed = (update-passed (malformed s) (counter_of s) (due s clock) seed ok).0

  room : (decode s.generator).count + cond (due s clock) 1 0 + 7 ≤ max_counter
  unfolding counter_of
  room = not-spent (decode s.generator).count (due s clock) 7 (update-passed (malformed s) (decode s.generator).count (due s clock) seed ok).1

  pub update-reseeded : reseeded s.generator seed ≡ encode (reseed (decode s.generator) seed)
  update-reseeded =
      let r = room in
      reseeded-done s.generator seed (small-seed (length seed) (rw sized (lit≤ tt))) (generator-formed s formed)
      (spent-is (decode s.generator) 1 ∙ le-ltb max_counter ((decode s.generator).count + 1) (omega arith))

  -- C after the seed's reseed
  seeded : (decode (encode (reseed (decode s.generator) seed))).count ≡ (decode s.generator).count + 1
  seeded = let r = room in reseeded-count s.generator seed (omega arith)

  seeded-servable : Servable (reseed_with_seed s seed) clock 64
  unfolding reseed_with_seed with_generator due pool_at counter_of unseeded spent
  seeded-servable =
      let w = decode s.generator in
      let d : Bool = due s clock in
      let r = room in
      record {
        pools = pools-formed s formed;
        formed = (ready-reseeded s.generator seed 64 (rw seed-blocks (omega arith))).formed;
        keyed = rw (seeded, ne_eqb (w.count + 1) 0 (λ e. omega arith));
        room = rw (seeded, seed-blocks) (le-ltb max_counter (w.count + 1 + cond d 1 0 + (4 + 2)) (omega arith));
        short = small-request 64 (lit≤ tt);
      }

  -- g is what the generator's reseed left
  abbrev with_next : Generator → Fortuna
  with_next g =
      record {
        generator = g;
        pools = s.pools;
        last_reseed = s.last_reseed;
        reseed_count = s.reseed_count;
        reseeded = s.reseeded;
        key_requests = s.key_requests;
      }

  seeded-state : (g : Generator) → g ≡ reseeded s.generator seed → with_next g ≡ reseed_with_seed s seed
  unfolding reseed_with_seed with_generator
  seeded-state g e = rw (e, update-reseeded)

  pub update-servable : (d : Bool) (g : Generator) → d ≡ due s clock → g ≡ reseeded s.generator seed
      → (d ≡ due (with_next g) clock) × Servable (with_next g) clock (length seed)
  unfolding due pool_at
  update-servable d g e f = (e, rw (seeded-state g f, sized) seeded-servable)

  pub update-serves : (g : Generator) → g ≡ reseeded s.generator seed → (emptied : ℕ) (next : Fortuna) (bytes : List ℕ)
      → Serves (with_next g) clock (length seed) emptied next bytes → Serves (reseed_with_seed s seed) clock seed_size emptied next bytes
  unfolding seed_size
  update-serves g f emptied next bytes e = rw (seeded-state g f, sized) at e
