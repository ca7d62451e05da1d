-- The loop that takes the digests of the pools that a reseed uses, and empties these pools.
-- Assumes nothing.
use Rattle.std.proofs.Common.{◌≡◌, ℕ, ◌+◌, ◌*◌, ◌<◌, ◌≤◌, true, false, cond, ltb, ◌≢◌, List, [], ◌++◌, length, take, drop, set, sym, refl, ap, ◌∙◌, ⊎_elim, eq-or-lt_of_le, add-one, arith, length-append, length-drop, length-take, length-take-le, take_at, ext_get_or, ltb-false, ltb-true, le-ltb, lt-ltb}
use lib.ListN.{get_or-append}
use lib.Seq.{take-append-add}
use Rattle.laws.specs.Lists.{tabulate, joined}
use Rattle.laws.proofs.Cases.{by-test}
use Rattle.laws.proofs.Lists.{set-tabulate, joined-append, joined-one}
use Rattle.laws.proofs.Tabulate.{length-tabulate, get_d_tabulate, tabulate-ext}
use Rattle.std.specs.Prelude.{Result, Ok}
use Rattle.hash.specs.ShaD.{max_pool_length, empty_pool, pool_digest}
use Rattle.hash.specs.Answers.{within}
use Rattle.hash.specs.declared.answer.TooLong.{TooLong}
use Rattle.hash.specs.declared.hasher.Hasher.{Hasher}
use Rattle.hash.proofs.Laws.{length-pool-digest}
use Rattle.pools.specs.Events.{pool_count}
use Rattle.pools.specs.Schedule.{used, used_below, used_pools}
use Rattle.pools.specs.Pool.{malformed_pool}
use Rattle.pools.specs.State.{any_pool}
use Rattle.pools.specs.Collected.{nth, Collects}
use Rattle.pools.proofs.PoolTests.{digest-of-pool}
use Rattle.pools.proofs.Prefix.{all-used, rest-unused}

-- pool i once the first k are emptied
abbrev pub emptied : List Hasher → ℕ → ℕ → Hasher
emptied pools k i = cond (ltb i k) empty_pool (nth pools i)

-- the first k pools are taken: `rest` are the pools now, and the digests stand in front of `seed`
pub record Taken (pools : List Hasher) (n k : ℕ) (rest : List Hasher) (seed : List ℕ) : Type 0 where
  pub left : rest ≡ tabulate (emptied pools k) 32
  pub front : take (32 * k) seed ≡ joined (λ i. pool_digest (nth pools i)) (used_below n k)
  pub size : length seed ≡ 1024

-- before the loop no pool is emptied
none-emptied : (pools : List Hasher) → length pools ≡ 32 → pools ≡ tabulate (emptied pools 0) 32
unfolding nth
none-emptied pools e =
    let d : Hasher = record { chain = []; tail = []; length = 0 } in
    ext_get_or d pools (tabulate (emptied pools 0) 32) (e ∙ sym (length-tabulate (emptied pools 0) 32))
    (λ i h. sym (get_d_tabulate (emptied pools 0) d 32 i (rw e at h) ∙ rw (le-ltb i 0 (omega arith))))

-- before the loop no pool is taken
pub taken_none : (pools : List Hasher) (n : ℕ) (seed : List ℕ) → length pools ≡ 32 → length seed ≡ 1024 → Taken pools n 0 pools seed
unfolding used_below joined
taken_none pools n seed e size =
    record { left = none-emptied pools e; front = refl; size = size }

-- a pool among the first ones
pub nth-front : (front behind : List Hasher) (i : ℕ) → i < length front → nth (front ++ behind) i ≡ nth front i
unfolding nth
nth-front front behind i h = get_or-append front behind (record { chain = []; tail = []; length = 0 }) i h

-- pool k is still there, so its digest comes
pub next-digest : (pools : List Hasher) (n k : ℕ) (rest : List Hasher) (seed : List ℕ) (r : Result (List ℕ) TooLong)
    → Taken pools n k rest seed
    → k < 32
    → length pools ≡ 32
    → any_pool malformed_pool pools ≡ false
    → r ≡ within max_pool_length (nth rest k).length (pool_digest (nth rest k))
    → r ≡ Ok (pool_digest (nth pools k))
unfolding nth
next-digest pools n k rest seed r taken h full formed e =
    digest-of-pool pools k r formed (omega arith) (rw there at e)
  where
    there : nth rest k ≡ nth pools k
    there =
        let d : Hasher = record { chain = []; tail = []; length = 0 } in
        rw taken.left (get_d_tabulate (emptied pools k) d 32 k h ∙ rw (le-ltb k k (omega arith)))

-- a bound that grows by one lets in that number only
ltb-other : (m k : ℕ) → m ≢ k → ltb m k ≡ ltb m (k + 1)
ltb-other m k ne =
    by-test (ltb m k) (ltb m k ≡ ltb m (k + 1))
    (λ t. let l : m < k = ltb-true m k t in t ∙ sym (lt-ltb m (k + 1) (omega arith)))
    (λ f.
    ⊎_elim
    (λ (e : k ≡ m). absurd (ne (sym e)))
    (λ (l : k < m). f ∙ sym (le-ltb m (k + 1) (omega arith)))
    (eq-or-lt_of_le (ltb-false m k f)))

-- one pool more is emptied
one-emptied : (pools : List Hasher) (k : ℕ) → k < 32 → set (tabulate (emptied pools k) 32) k empty_pool ≡ tabulate (emptied pools (k + 1)) 32
one-emptied pools k h =
    let here : emptied pools (k + 1) k ≡ empty_pool = rw (lt-ltb k (k + 1) (omega arith)) in
    rw here at (set-tabulate (emptied pools k) (emptied pools (k + 1)) 32 k h (λ m ne. rw (ltb-other m k ne)))

-- 32 bytes behind the front
front-more : (s d : List ℕ) (a : ℕ) → a ≤ length s → length d ≡ 32 → take (a + 32) (take a s ++ (d ++ drop 32 (drop a s))) ≡ take a s ++ d
front-more s d a h full =
    let l : length (take a s) ≡ a = length-take-le a s h in
    (rw l at (take-append-add (take a s) (d ++ drop 32 (drop a s)) 32)) ∙ rw (take_at d (drop 32 (drop a s)) 32 full)

-- the next pool is used: its digest d goes over a part of the string, and the pool is replaced by an empty one
pub taken_more : (pools : List Hasher) (n k w : ℕ) (rest : List Hasher) (seed d : List ℕ) (empty : Hasher)
    → Taken pools n k rest seed
    → k < 32
    → used n k ≡ true
    → empty ≡ empty_pool
    → d ≡ pool_digest (nth pools k)
    → w ≡ 32
    → Taken pools n (k + 1) (set rest k empty) (take (32 * k) seed ++ (d ++ drop w (drop (32 * k) seed)))
unfolding used_below
taken_more pools n k w rest seed d empty taken h u v e wide =
    let full : length d ≡ 32 = ap length e ∙ length-pool-digest (nth pools k) in
    let size : length seed ≡ 1024 = taken.size in
    let next : 32 * (k + 1) ≡ 32 * k + 32 = omega arith in
    rw (wide, v)
    (record {
      left = ap (λ (l : List Hasher). set l k empty_pool) taken.left ∙ one-emptied pools k h;
      front = rw next (front-more seed d (32 * k) (omega arith) full ∙ rw (add-one k, u, joined-append, joined-one, e, taken.front));
      size = simp (length-append, length-take, length-drop) (omega arith);
    })

-- all pools that are used are the first ones, and they are taken
pub taken-all : (pools : List Hasher) (n k : ℕ) (rest : List Hasher) (seed : List ℕ)
    → k ≤ 32
    → ((i : ℕ) → i < 32 → used n i ≡ ltb i k)
    → Taken pools n k rest seed
    → Collects pools n rest seed k
unfolding used_pools pool_count
taken-all pools n k rest seed small first taken =
    let few : used_below n 32 ≡ used_below n k = rest-unused n k 32 small (λ i a b. first i b ∙ le-ltb i k a) in
    record {
      few = small;
      counted = sym (ap length few ∙ all-used n k (λ i h. first i (omega arith) ∙ lt-ltb i k h));
      emptied = taken.left ∙ tabulate-ext (emptied pools k) (λ i. cond (used n i) empty_pool (nth pools i)) 32 (λ i h. rw (first i h));
      front = rw few taken.front;
    }
