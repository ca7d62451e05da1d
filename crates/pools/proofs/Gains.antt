-- The bytes of an event, as the code puts them together.
-- Assumes nothing.
use Rattle.std.proofs.Common.{◌≡◌, ℕ, ◌+◌, ◌/◌, ◌%◌, ◌≤◌, List, [], ◌∷◌, ◌++◌, length, take, drop, sym, refl, ap, ◌∙◌, append_assoc, append-nil, mod-eq_of_lt, arith, length-append, take_at}
use Rattle.laws.specs.Lists.{overwrite}
use Rattle.laws.proofs.Copy.{overwrite-fits}
use Rattle.hash.specs.Hasher.{absorb}
use Rattle.hash.specs.ShaD.{max_message, max_pool_length}
use Rattle.hash.specs.Answers.{absorbed}
use Rattle.hash.specs.declared.hasher.Hasher.{Hasher}
use Rattle.hash.proofs.Laws.{absorbed-within, pool-length-fits}
use Rattle.pools.specs.Events.{header, header_length, event_bytes, gain}

-- the header has its length
length-header : (source n : ℕ) → length (header source n) ≡ header_length
unfolding header header_length
length-header source n = refl

-- what a pool gains of n bytes of data is the length of the event's bytes
pub length-event : (source : ℕ) (d : List ℕ) → length (event_bytes source d) ≡ gain (length d)
unfolding event_bytes gain
length-event source d = length-append (header source (length d)) d ∙ ap (λ (n : ℕ). n + length d) (length-header source (length d))

-- h and ys are written over the front of a list: what stands there, and k of what comes behind
pub event-stored : (source : ℕ) (d h ys z : List ℕ) (k : ℕ)
    → source ≤ 65535
    → h ≡ source % 256 ∷ source / 256 % 256 ∷ length d ∷ []
    → ys ≡ d
    → take (3 + length d) (take 3 (h ++ z) ++ (ys ++ drop k (drop 3 (h ++ z)))) ≡ event_bytes source d
unfolding event_bytes header
event-stored source d h ys z k small first behind =
    let two : source / 256 % 256 ≡ source / 256 = mod-eq_of_lt (omega arith) in
    let head : take 3 (h ++ z) ≡ h = take_at h z 3 (rw first) in
    rw (head, behind, first, two)
    (take_at (source % 256 ∷ source / 256 ∷ length d ∷ d) (drop k z) (3 + length d) (omega arith))

-- the data fits into the bytes z behind the header, and ys is what was written there
module _ (source : ℕ) (d z ys : List ℕ) (fits : length d ≤ length z) (written : ys ≡ overwrite z d) where
  behind : ys ++ [] ≡ d ++ drop (length d) z
  behind = append-nil ys ∙ written ∙ overwrite-fits z d fits

  all : header source (length d) ++ (ys ++ []) ≡ event_bytes source d ++ drop (length d) z
  unfolding event_bytes
  all = ap (λ (r : List ℕ). header source (length d) ++ r) behind ∙ sym (append_assoc (header source (length d)) d (drop (length d) z))

  pub event-front : take (gain (length d)) (header source (length d) ++ (ys ++ [])) ≡ event_bytes source d
  event-front = rw all (take_at (event_bytes source d) (drop (length d) z) (gain (length d)) (length-event source d))

  -- and all of it has room
  pub event-room : gain (length d) ≤ length (header source (length d) ++ (ys ++ []))
  event-room = rw (all, length-append, length-event source d) (omega arith)

-- b is what the pool was given, and q what it then was
pub gained-is : (p q : Hasher) (b : List ℕ) (source : ℕ) (d : List ℕ) → b ≡ event_bytes source d → p.length + gain (length d) ≤ max_pool_length
    → q ≡ absorbed p b → q ≡ absorb p (event_bytes source d)
gained-is p q b source d e room f =
    let fits : p.length + length (event_bytes source d) ≤ max_message = rw (length-event source d) (pool-length-fits _ room) in
    f ∙ rw e (absorbed-within p (event_bytes source d) fits)
