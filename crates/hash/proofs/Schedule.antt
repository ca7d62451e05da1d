-- The message schedule, one word after the other: what a store at place t adds.
-- Assumes nothing.
use Rattle.std.proofs.Common.{◌≡◌, ℕ, ◌+◌, ◌-◌, ◌*◌, ◌<◌, ◌≤◌, List, [], ◌∷◌, ◌++◌, length, take, get_or, set, ◌∙◌, add-one, arith, length-set, get_or-take, take-suc-set, le-ltb, lt-ltb}
use Rattle.std.specs.Simd.{first_chunks}
use Rattle.laws.proofs.Lists.{chunk-element}
use Rattle.hash.specs.Block.{block_word, next_word, schedule}

-- a store at t puts one word after the first t
take-store : (w : List ℕ) (t v : ℕ) → t < length w → take (t + 1) (set w t v) ≡ take t w ++ (v ∷ [])
take-store w t v h = rw (add-one, take-suc-set)

-- word t of block m, from the block in chunks of four bytes
pub chunk-word : (m : List ℕ) (t : ℕ) → t < 16
    → let bytes = get_or (first_chunks 4 16 m) t [] in
    get_or bytes 0 0 * 16777216 + get_or bytes 1 0 * 65536 + get_or bytes 2 0 * 256 + get_or bytes 3 0 ≡ block_word m t
chunk-word m t h =
    let first : t * 4 + 0 ≡ t * 4 = omega arith in
    let a = rw first at (chunk-element 16 4 t 0 m 0 h (omega arith)) in
    let b = chunk-element 16 4 t 1 m 0 h (omega arith) in
    let c = chunk-element 16 4 t 2 m 0 h (omega arith) in
    let d = chunk-element 16 4 t 3 m 0 h (omega arith) in
    omega (arith, a, b, c, d)

-- the next word is the same from a list that has more words after the first t
pub next-take : (w : List ℕ) (t : ℕ) → 16 ≤ t → next_word (take t w) t ≡ next_word w t
unfolding next_word
next-take w t h =
    let a : t - 2 < t = omega arith in
    let b : t - 7 < t = omega arith in
    let c : t - 15 < t = omega arith in
    let d : t - 16 < t = omega arith in
    simp get_or-take

module _ (m w : List ℕ) (t : ℕ) (fits : t < length w) (so_far : take t w ≡ schedule m t) where
  pub more-block : t < 16 → take (t + 1) (set w t (block_word m t)) ≡ schedule m (t + 1)
  unfolding schedule
  more-block h = take-store w t (block_word m t) fits ∙ rw (add-one t, lt-ltb t 16 h, so_far)

  pub more-next : 16 ≤ t → take (t + 1) (set w t (next_word w t)) ≡ schedule m (t + 1)
  unfolding schedule
  more-next h = take-store w t (next_word w t) fits ∙ rw (add-one t, le-ltb t 16 h, ← so_far, next-take w t h)

-- the first t of 64 words are the schedule's
abbrev pub Scheduled : List ℕ → List ℕ → ℕ → Type 0
Scheduled m w t = (length w ≡ 64) × (take t w ≡ schedule m t)

pub scheduled-more :
    (m w : List ℕ) (t n a : ℕ) → 16 ≤ t → t < 64 → n ≡ t + 1 → a ≡ next_word w t → Scheduled m w t → Scheduled m (set w t a) n
scheduled-more m w t n a h l e v (long, so_far) =
    let fits : t < length w = omega (arith, long, l) in
    (length-set w t a ∙ long, rw (e, v) (more-next m w t fits so_far h))
