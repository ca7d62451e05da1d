-- Buffers of which the first places are in use.
-- Assumes nothing.
use mathlib.Core.Path.{◌≡◌, refl, sym, ap, ◌∙◌}
use mathlib.Core.List.{List, [], ◌∷◌, ◌++◌, append_assoc, append-nil}
use Prim.Native.Nat.{ℕ, zero, suc, ◌+◌, ◌-◌, ◌≤◌, min}
use native.Mathlib.Omega.{arith}
use lib.Dec.{leb}
use lib.ListN.{length, take, drop, length-append, length-take, length-drop, length-replicate, drop_of_length-le}
use lib.Seq.{take_all, take-nil, drop-nil, drop-drop, take_at, drop_at, take-append-add, drop-append-add, take-append-le, length-take-le}
use borrow.Author.Tests.{leb-true, leb-false}
use Rattle.laws.specs.Lists.{overwrite}
use Rattle.laws.proofs.Cases.{by-test}
use Rattle.laws.proofs.Copy.{part_end}
use Rattle.bench.specs.Buffers.{zeros, appended, held_after}

pub length-zeros : (n : ℕ) → length (zeros n) ≡ n
unfolding zeros
length-zeros n = length-replicate n 0

take-zeros : (n m : ℕ) → n ≤ m → take n (zeros m) ≡ zeros n
unfolding zeros
take-zeros zero m h = refl
take-zeros (suc n) zero h = absurd (omega arith)
take-zeros (suc n) (suc m) h = ap (λ (r : List ℕ). 0 ∷ r) (take-zeros n m (omega arith))

pub length-overwrite : (d s : List ℕ) → length (overwrite d s) ≡ length d
unfolding overwrite
length-overwrite d s = simp (length-append, length-take, length-drop) (omega arith)

pub overwrite-nothing : (d : List ℕ) → overwrite d [] ≡ d
unfolding overwrite
overwrite-nothing d = rw take-nil

-- what was written, read back
pub take-overwrite : (d s : List ℕ) → length s ≤ length d → take (length s) (overwrite d s) ≡ s
unfolding overwrite
take-overwrite d s h = rw (take_all (length d) s h) (take_at s (drop (length s) d) (length s) refl)

module _ (buffer : List ℕ) (held : ℕ) (more : List ℕ) where
  pub length-appended : length (appended buffer held more) ≡ length buffer
  unfolding appended
  length-appended =
      simp (length-append, length-overwrite, length-take, length-drop) (omega arith)

  -- where the buffer is full, nothing changes
  pub appended-full : length buffer ≤ held → appended buffer held more ≡ buffer
  unfolding appended overwrite
  appended-full h = rw (take_all held buffer h, drop_of_length-le buffer h, drop-nil) (append-nil buffer)

  pub held-full : length buffer ≤ held → held_after buffer held more ≡ length buffer
  unfolding held_after
  held-full h = omega arith

-- the front of a joined list
take-append : (n : ℕ) (xs ys : List ℕ) → take n (xs ++ ys) ≡ take n xs ++ take (n - length xs) ys
take-append zero [] ys = refl
take-append zero (x ∷ xs) ys = let e : 0 - suc (length xs) ≡ 0 = omega arith in rw e
take-append (suc n) [] ys = let e : suc n - 0 ≡ suc n = omega arith in rw e
take-append (suc n) (x ∷ xs) ys =
    let e : suc n - suc (length xs) ≡ n - length xs = omega arith in
    rw e (ap (λ (l : List ℕ). x ∷ l) (take-append n xs ys))

-- as much of s as d has room for, and what is left of d
module _ (d s : List ℕ) where
  length_front : length (take (length d) s) ≡ min (length s) (length d)
  length_front = length-take (length d) s ∙ omega arith

  take-written : take (min (length s) (length d)) (overwrite d s) ≡ take (length d) s
  unfolding overwrite
  take-written = take_at (take (length d) s) (drop (length s) d) _ length_front

  drop-written : drop (min (length s) (length d)) (overwrite d s) ≡ drop (length s) d
  unfolding overwrite
  drop-written = drop_at (take (length d) s) (drop (length s) d) _ length_front

overwrite-append : (d s t : List ℕ) → overwrite d (s ++ t) ≡ take (length d) s ++ overwrite (drop (length s) d) t
unfolding overwrite
overwrite-append d s t =
    rw (take-append, length-append, length-drop, drop-drop) (append_assoc (take (length d) s) (take (length d - length s) t) (drop (length s + length t) d))

appended-is : (buffer : List ℕ) (held : ℕ) (more : List ℕ) → appended buffer held more ≡ take held buffer ++ overwrite (drop held buffer) more
unfolding appended
appended-is buffer held more = refl

-- more characters where some places are free
module _ (buffer : List ℕ) (held : ℕ) (more : List ℕ) (free : held ≤ length buffer) where
  held-is : held_after buffer held more ≡ length (take held buffer) + min (length more) (length (drop held buffer))
  unfolding held_after
  held-is = rw (length-take-le held buffer free, length-drop) (omega arith)

  take-held : take (held_after buffer held more) (appended buffer held more) ≡ take held buffer ++ take (length (drop held buffer)) more
  unfolding appended
  take-held = rw (held-is, take-append-add, take-written)

  drop-held : drop (held_after buffer held more) (appended buffer held more) ≡ drop (length more) (drop held buffer)
  unfolding appended
  drop-held = rw (held-is, drop-append-add, drop-written)

  room : length buffer ≡ length (take held buffer) + length (drop held buffer)
  room = rw (length-take-le held buffer free, length-drop) (omega arith)

  held-free : take (held_after buffer held more) (appended buffer held more) ≡ take (length buffer) (take held buffer ++ more)
  held-free = take-held ∙ rw room (sym (take-append-add (take held buffer) more (length (drop held buffer))))

  append-free : (rest : List ℕ) → appended buffer held (more ++ rest) ≡ appended (appended buffer held more) (held_after buffer held more) rest
  append-free rest =
      appended-is buffer held (more ++ rest)
      ∙ rw (overwrite-append (drop held buffer) more rest, ← append_assoc, ← take-held, ← drop-held) (sym (appended-is (appended buffer held more) (held_after buffer held more) rest))

-- the characters held after more came: as many of all of them as there is room for
pub held-appended : (buffer : List ℕ) (held : ℕ) (more : List ℕ)
    → take (held_after buffer held more) (appended buffer held more) ≡ take (length buffer) (take held buffer ++ more)
held-appended buffer held more =
    by-test (leb held (length buffer)) _
    (λ t. held-free buffer held more (leb-true held (length buffer) t))
    (λ t. full (omega (arith, leb-false held (length buffer) t)))
  where
    full : length buffer ≤ held → take (held_after buffer held more) (appended buffer held more) ≡ take (length buffer) (take held buffer ++ more)
    full h =
        rw (held-full buffer held more h, appended-full buffer held more h, take_all held buffer h, take-append-le (length buffer) buffer more (omega arith))

-- characters that come in two parts
module _ (buffer : List ℕ) (held : ℕ) (more rest : List ℕ) where
  pub held-append : held_after buffer held (more ++ rest) ≡ held_after (appended buffer held more) (held_after buffer held more) rest
  unfolding held_after
  held-append = rw (length-append, length-appended) (omega arith)

  pub appended-append : appended buffer held (more ++ rest) ≡ appended (appended buffer held more) (held_after buffer held more) rest
  appended-append =
      by-test (leb held (length buffer)) _
      (λ t. append-free buffer held more (leb-true held (length buffer) t) rest)
      (λ t. full (omega (arith, leb-false held (length buffer) t)))
    where
      full : length buffer ≤ held → appended buffer held (more ++ rest) ≡ appended (appended buffer held more) (held_after buffer held more) rest
      full h =
          rw (appended-full buffer held (more ++ rest) h, appended-full buffer held more h, held-full buffer held more h, appended-full buffer (length buffer) rest (omega arith))

-- ---- the code that appends

module _ (buffer : List ℕ) (held : ℕ) (more : List ℕ) where
  module _ (h : ℕ) (is : h ≡ min held (length buffer)) where
    appended-free : appended buffer h more ≡ appended buffer held more
    appended-free =
        by-test (leb held (length buffer)) _
        (λ t. let k : h ≡ held = omega (arith, leb-true held (length buffer) t) in rw k)
        (λ t.
        let full : length buffer ≤ held = omega (arith, leb-false held (length buffer) t) in
        appended-full buffer h more (omega arith) ∙ sym (appended-full buffer held more full))

    -- the part from h on, written over and put back
    pub appended-part : (part : List ℕ) → part ≡ overwrite (take (length buffer - h) (drop h buffer)) more
        → take h buffer ++ (part ++ drop (length buffer - h) (drop h buffer)) ≡ appended buffer held more
    appended-part part e =
        let none : drop (length buffer - h) (drop h buffer) ≡ [] = drop_of_length-le (drop h buffer) {i = length buffer - h} (rw length-drop (omega arith)) in
        rw (none, append-nil, e, part_end) (unfold appended in appended-free)

-- ---- the first n of a buffer of zeros, lent, and what came back in their place

module _ (n m : ℕ) (buffer : List ℕ) (h : n ≤ m) (blank : buffer ≡ zeros m) where
  pub front-zeros : take n buffer ≡ zeros n
  front-zeros = rw blank (take-zeros n m h)

  pub length-front-zeros : length (take n buffer) ≡ n
  length-front-zeros = rw front-zeros (length-zeros n)

  module _ (back : List ℕ) (kept : length back ≡ length (take n buffer)) where
    pub length_back : length back ≡ n
    length_back = kept ∙ length-front-zeros

    pub front-back : take n (back ++ drop n buffer) ≡ back
    front-back = take_at back (drop n buffer) n length_back

    pub length-front-back : length (take n (back ++ drop n buffer)) ≡ n
    length-front-back = rw front-back length_back
