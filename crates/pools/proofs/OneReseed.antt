-- A draw or a shuffle makes one pool reseed at most, at its first try: after it none is due at the same reading.
-- Assumes nothing.
use Rattle.std.proofs.Common.{◌≡◌, ℕ, suc, ◌%◌, ◌^◌, ◌<◌, Bool, true, false, cond, List, length, refl, ap, ◌∙◌, arith, lit<, eq-eqb}
use Rattle.laws.proofs.Tabulate.{get_d_tabulate}
use Rattle.hash.specs.ShaD.{empty_pool}
use Rattle.hash.proofs.Laws.{pool-empty-length}
use Rattle.pools.specs.Events.{pool_count}
use Rattle.pools.specs.Schedule.{used, is_due}
use Rattle.pools.specs.State.{pool_at, due}
use Rattle.pools.specs.Effects.{Effect, unchanged, with_request, next_reseed, emptied_pools, pool_reseed, reseed_if_due, emptied_by, random_data}
use Rattle.pools.specs.Draws.{after, leaving, tries, shuffle_from, shuffled, try_at}
use Rattle.pools.specs.declared.Fortuna.{Fortuna}
use Rattle.pools.proofs.EachTry.{Kept, Begun, begun-tries, begun-shuffle, begun-shuffled}

-- ---- after a request none is due

some-pool : 0 < pool_count
unfolding pool_count
some-pool = lit< tt

-- pool 0 is emptied by each reseed
used-first : (n : ℕ) → used n 0 ≡ true
unfolding used
used-first n = eq-eqb (n % 2 ^ 0) 0 (omega arith)

first-emptied : (s : Fortuna) (clock : ℕ) → pool_at (pool_reseed s clock) 0 ≡ empty_pool
unfolding pool_at pool_reseed emptied_pools
first-emptied s clock =
    get_d_tabulate (λ i. cond (used (next_reseed s) i) empty_pool (pool_at s i)) _ pool_count 0 some-pool
    ∙ ap (λ (t : Bool). cond t empty_pool (pool_at s 0)) (used-first (next_reseed s))

reseeded-quiet : (s : Fortuna) (clock : ℕ) → due (pool_reseed s clock) clock ≡ false
unfolding due is_due
reseeded-quiet s clock = rw (first-emptied s clock, pool-empty-length)

pub quiet-after : (s : Fortuna) (clock n : ℕ) → due (random_data s clock n).next clock ≡ false
unfolding random_data with_request due pool_at reseed_if_due
quiet-after s clock n = go (due s clock) refl
  where
    go : (d : Bool) → due s clock ≡ d → due (cond d (pool_reseed s clock) s) clock ≡ false
    go true e = reseeded-quiet s clock
    go false e = e

-- and where none is due, a request empties none
quiet-emptied : (s : Fortuna) (clock n : ℕ) → due s clock ≡ false → (random_data s clock n).emptied ≡ 0
unfolding random_data emptied_by
quiet-emptied s clock n e = rw e

-- ---- draws

module _ (clock : ℕ) where
  -- from a state in which none is due, no pool is emptied; and none is due afterwards
  Quiet : Fortuna → Effect Fortuna → Type 0
  Quiet s e = due s clock ≡ false → (e.emptied ≡ 0) × (due e.next clock ≡ false)

  -- whatever was due, the pools emptied are those of the reseed then due; and none is due afterwards
  First : Fortuna → Effect Fortuna → Type 0
  First s e = (e.emptied ≡ emptied_by s clock) × (due e.next clock ≡ false)

  quiet : Kept (try_at clock) Quiet
  unfolding Quiet try_at
  quiet = record {
    idle = λ s l h. unfold unchanged in (refl, h);
    other = λ s e l q. unfold leaving in q;
    served = λ s h. (quiet-emptied s clock _ h, quiet-after s clock _);
    next = λ s e f q r h. unfold after in let x = q h in let y = r x.1 in (rw (x.0, y.0), y.1);
  }

  first : Begun (try_at clock) First Quiet
  unfolding First Quiet try_at
  first = record {
    other = λ s e l q. unfold leaving in q;
    served = λ s. (unfold random_data in refl, quiet-after s clock _);
    next = λ s e f q r. unfold after in let y = r q.1 in (rw y.0 (omega (arith, q.0)), y.1);
  }

  pub first-try : (n d : ℕ) (s : Fortuna)
      → ((tries (try_at clock) n (suc d) s).effect.emptied ≡ emptied_by s clock)
      × (due (tries (try_at clock) n (suc d) s).effect.next clock ≡ false)
  unfolding First
  first-try n d s = begun-tries (try_at clock) Quiet quiet First first n d s

  pub first-shuffle : (p : ℕ) (list : List ℕ) (s : Fortuna)
      → ((shuffle_from (try_at clock) (suc p) list s).effect.emptied ≡ emptied_by s clock)
      × (due (shuffle_from (try_at clock) (suc p) list s).effect.next clock ≡ false)
  unfolding First
  first-shuffle p list s = begun-shuffle (try_at clock) Quiet quiet First first p list s

  pub first-shuffled : (list : List ℕ) (s : Fortuna) → 1 < length list
      → ((shuffled (try_at clock) list s).effect.emptied ≡ emptied_by s clock) × (due (shuffled (try_at clock) list s).effect.next clock ≡ false)
  unfolding First
  first-shuffled list s h = begun-shuffled (try_at clock) Quiet quiet First first list s h
