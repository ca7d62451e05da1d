-- A request that the pools accept is one that the generator accepts, with the pool reseed before it where it is due.
-- Assumes nothing.
use Rattle.std.proofs.Common.{◌≡◌, ℕ, ◌+◌, ◌≤◌, Bool, true, false, cond, eqb, List, length, refl, ap, ◌∙◌, add-zero, arith, ltb-false, le-ltb, ne_eqb}
use mathlib.Core.Bool.{and-true}
use Rattle.laws.specs.Blocks.{block_count}
use Rattle.generator.specs.Counter.{max_counter}
use Rattle.generator.specs.Steps.{GeneratorState, decode, encode, reseed, pseudo_random_data}
use Rattle.generator.specs.Refusals as Generator
use Rattle.generator.specs.Operations.{requested, request_buffer}
use Rattle.generator.specs.declared.Generator.{Generator}
use Rattle.generator.proofs.Laws.{unseeded-is, spent-is, reseed-count, decode-encode, keyed-formed, requested-done, request-buffer-done}
use Rattle.pools.specs.Refusals.{unseeded, spent}
use Rattle.pools.specs.State.{counter_of, due}
use Rattle.pools.specs.Schedule.{used_pools, count_request}
use Rattle.pools.specs.Effects.{with_request, digests, next_reseed, pool_reseed, reseed_if_due, emptied_by, random_data}
use Rattle.pools.specs.Collected.{Reseedable, Servable}
use Rattle.pools.specs.declared.Fortuna.{Fortuna}

-- ---- K and C that make a request of n bytes possible

pub record Ready (g : Generator) (n : ℕ) : Type 0 where
  pub formed : Generator.malformed (decode g) ≡ false
  pub keyed : Generator.unseeded (decode g) ≡ false
  pub room : Generator.spent (decode g) (block_count n + 2) ≡ false

-- C is above 0 and has room
ready_by : (g : Generator) (n c : ℕ) → (decode g).count ≡ c → (c ≡ 0 → ⊥) → c + (block_count n + 2) ≤ max_counter → Ready g n
ready_by g n c e some room =
    let k : Generator.unseeded (decode g) ≡ false = unseeded-is (decode g) ∙ rw e (ne_eqb c 0 some) in
    record {
      formed = keyed-formed (decode g) k;
      keyed = k;
      room = spent-is (decode g) (block_count n + 2) ∙ rw e (le-ltb max_counter (c + (block_count n + 2)) room);
    }

-- ---- where a reseed goes before it

pub reseeded-count : (g : Generator) (s : List ℕ) → (decode g).count + 1 ≤ max_counter → (decode (encode (reseed (decode g) s))).count ≡ (decode g).count + 1
reseeded-count g s room =
    let c = reseed-count (decode g) s in
    ap (λ (w : GeneratorState). w.count) (decode-encode (reseed (decode g) s) (rw c room)) ∙ c

pub ready-reseeded : (g : Generator) (s : List ℕ) (n : ℕ) → (decode g).count + 1 + (block_count n + 2) ≤ max_counter → Ready (encode (reseed (decode g) s)) n
ready-reseeded g s n room =
    ready_by (encode (reseed (decode g) s)) n ((decode g).count + 1) (reseeded-count g s (omega arith)) (λ e. omega arith) room

-- ---- an accepted request

module _ (s : Fortuna) (clock n : ℕ) (ok : Servable s clock n) where
  -- C has room for the reseed, if due, and for the blocks
  fits : (d : Bool) → due s clock ≡ d → (decode s.generator).count + cond d 1 0 + (block_count n + 2) ≤ max_counter
  unfolding spent counter_of
  fits d e = ltb-false max_counter _ (rw e at ok.room)

  pub reseedable : due s clock ≡ true → Reseedable s
  reseedable e =
      let room = fits true e in
      let c : ℕ = (decode s.generator).count in
      record {
        pools = ok.pools;
        formed = ok.formed;
        room = spent-is (decode s.generator) 1 ∙ le-ltb max_counter (c + 1) (omega arith);
      }

  pub ready-due : due s clock ≡ true → Ready (pool_reseed s clock).generator n
  unfolding pool_reseed
  ready-due e = ready-reseeded s.generator (digests s (next_reseed s)) n (fits true e)

  pub ready-not-due : due s clock ≡ false → Ready s.generator n
  unfolding unseeded counter_of
  ready-not-due e =
      let c : ℕ = (decode s.generator).count in
      let k : eqb c 0 ≡ false = rw (e, and-true) at ok.keyed in
      record {
        formed = ok.formed;
        keyed = unseeded-is (decode s.generator) ∙ k;
        room = spent-is (decode s.generator) (block_count n + 2) ∙ le-ltb max_counter _ (rw add-zero at (fits false e));
      }

-- what the generator then gives
pub served-next : (g : Generator) (out : List ℕ) → length out ≤ Generator.max_request → Ready g (length out)
    → requested g out ≡ encode (pseudo_random_data (decode g) (length out)).next
served-next g out short r = requested-done g out short r.formed r.keyed r.room

pub served-buffer : (g : Generator) (out : List ℕ) → length out ≤ Generator.max_request → Ready g (length out)
    → request_buffer g out ≡ (pseudo_random_data (decode g) (length out)).bytes
served-buffer g out short r = request-buffer-done g out short r.formed r.keyed r.room

-- ---- the whole request: q is the state after the reseed if due, g the generator after the request

module _ (s : Fortuna) (clock : ℕ) (out : List ℕ) (ok : Servable s clock (length out)) where
  ready : (d : Bool) → due s clock ≡ d → Ready (reseed_if_due s clock).generator (length out)
  unfolding reseed_if_due
  ready true e = rw e (ready-due s clock (length out) ok e)
  ready false e = rw e (ready-not-due s clock (length out) ok e)

  pub serve_is : (q : Fortuna) (emptied : ℕ) (g : Generator) (bytes : List ℕ) (count : ℕ) → count ≡ count_request q.key_requests
      → (q ≡ reseed_if_due s clock) × (emptied ≡ emptied_by s clock)
      → (g ≡ requested q.generator out) × (bytes ≡ request_buffer q.generator out)
      → (emptied ≡ (random_data s clock (length out)).emptied)
      × (record {
        generator = g;
        pools = q.pools;
        last_reseed = q.last_reseed;
        reseed_count = q.reseed_count;
        reseeded = q.reseeded;
        key_requests = count;
      }
      ≡ (random_data s clock (length out)).next)
      × (bytes ≡ (random_data s clock (length out)).buffer)
  unfolding random_data with_request
  serve_is q emptied g bytes count more (e, f) (a, b) =
      let r = ready (due s clock) refl in
      let x : g ≡ encode (pseudo_random_data (decode (reseed_if_due s clock).generator) (length out)).next =
      a ∙ rw e (served-next (reseed_if_due s clock).generator out ok.short r) in
      (f, rw (x, more, e), b ∙ rw e (served-buffer (reseed_if_due s clock).generator out ok.short r))

-- the two ways to the request
pub served-due : (s : Fortuna) (clock : ℕ) (q : Fortuna) (emptied : ℕ) → due s clock ≡ true
    → (emptied ≡ length (used_pools (next_reseed s))) × (q ≡ pool_reseed s clock)
    → (q ≡ reseed_if_due s clock) × (emptied ≡ emptied_by s clock)
unfolding reseed_if_due emptied_by
served-due s clock q emptied e (f, g) = (rw e g, rw e f)

pub served-not-due : (s : Fortuna) (clock : ℕ) (q : Fortuna) (emptied : ℕ) → due s clock ≡ false → (emptied ≡ 0) × (q ≡ s)
    → (q ≡ reseed_if_due s clock) × (emptied ≡ emptied_by s clock)
unfolding reseed_if_due emptied_by
served-not-due s clock q emptied e (f, g) = (rw e g, rw e f)
