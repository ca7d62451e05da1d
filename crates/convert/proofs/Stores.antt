-- A text stored in parts, and its end.
-- Assumes nothing.
use mathlib.Core.Path.{◌≡◌, refl, sym, ap, ◌∙◌}
use mathlib.Core.Bool.{Bool, true, false}
use mathlib.Core.List.{List, [], ◌++◌, append-nil, append_assoc}
use Prim.Native.Nat.{ℕ, ◌+◌, ◌-◌, ◌≤◌, ◌<◌}
use native.Mathlib.Nat.{zero-add, add-zero, le_of_eq}
use native.Mathlib.Numerals.{add-one}
use native.Mathlib.Omega.{arith}
use lib.Dec.{ltb}
use lib.ListN.{length, get_or, take, drop, set, length-append, length-drop, take-append-drop, drop_of_length-le}
use lib.Seq.{set_split, take_at, drop_at, drop-drop}
use Rattle.std.proofs.lemmas.List.Edits.{paste_more}
use borrow.Author.Tests.{lt-ltb, le-ltb}
use Rattle.laws.specs.Lists.{overwrite}
use Rattle.laws.proofs.Copy.{overwrite-fits, part_end}
use Rattle.bench.proofs.Buffers.{overwrite-nothing}
use Rattle.convert.specs.Logs.{end_of}
use Rattle.convert.specs.Promises.{StoresText, PartsStored, EndStored}
use Rattle.convert.specs.declared.refusal.Refusal.TheVariants.{NoRoom}
use Rattle.std.specs.Prelude.{Ok, Err}

-- one element more of s is copied to the front of out
pub copied-more : (out s d : List ℕ) (i : ℕ) → d ≡ take i s ++ drop i out → i < length s → i < length out
    → set d i (get_or s i 0) ≡ take (i + 1) s ++ drop (i + 1) out
copied-more out s d i e h h' =
    ap (λ (l : List ℕ). set l i (get_or s i 0)) e ∙ simp zero-add at (paste_more out 0 s i 0 (simp zero-add h') h)

-- how long an end is
pub end-one : (ended : Bool) → ended ≡ true → length (end_of ended) ≡ 1
unfolding end_of
end-one ended e = rw e

pub end_none : (ended : Bool) → ended ≡ false → length (end_of ended) ≡ 0
unfolding end_of
end_none ended e = rw e

module _ (out : List ℕ) (at : ℕ) (ended : Bool) where
  pub end-room : at + length (end_of ended) ≤ length out → ended ≡ true → at < length out
  end-room h e = omega (arith, end-one ended e)

  pub end-stored : at + length (end_of ended) ≤ length out → ended ≡ true → EndStored ended at out (set out at 10)
  unfolding end_of
  end-stored h e = rw (e, add-one at) (set_split out at 10 (end-room h e))

  pub no_end : ended ≡ false → EndStored ended at out out
  unfolding end_of
  no_end e = rw (e, add-zero at) (sym (take-append-drop at out))

pub end-small : (ended : Bool) → length (end_of ended) ≤ 1
unfolding end_of
end-small true = omega arith
end-small false = omega arith

pub parts-stored : (out front rest d ys : List ℕ) → length front + length rest ≤ length out → d ≡ overwrite out front
    → ys ≡ overwrite (take (length d - length front) (drop (length front) d)) rest
    → PartsStored front rest out (take (length front) d ++ (ys ++ drop (length d - length front) (drop (length front) d)))
parts-stored out front rest d ys h e q =
    let a : ℕ = length front in
    let f : d ≡ front ++ drop a out = e ∙ overwrite-fits out front (omega arith) in
    let g : take a d ≡ front = ap (take a) f ∙ take_at front (drop a out) a refl in
    let b : drop a d ≡ drop a out = ap (drop a) f ∙ drop_at front (drop a out) a refl in
    let r : ys ≡ rest ++ drop (a + length rest) out =
    q ∙ ap (λ (x : List ℕ). overwrite x rest) (part_end a d ∙ b) ∙ overwrite-fits (drop a out) rest (rw (length-drop a out) (omega arith))
    ∙ ap (λ (x : List ℕ). rest ++ x) (drop-drop (length rest) a out) in
    let z : drop (length d - a) (drop a d) ≡ [] = drop_of_length-le (drop a d) {i = length d - a} (le_of_eq (length-drop a d)) in
    rw (g, z, append-nil ys, r)

-- ---- a text and its end, if there is room

module _ (out front rest : List ℕ) (ended : Bool) where
  abbrev whole : List ℕ
  whole = (front ++ rest) ++ end_of ended

  -- how many characters stand before the end
  abbrev before : ℕ
  before = length front + length rest

  length_whole : length whole ≡ before + length (end_of ended)
  length_whole = rw (length-append, length-append)

  pub put-nothing : (size : ℕ) → size ≡ length (end_of ended) → length out < before + size
      → StoresText whole (Err NoRoom) out out
  put-nothing size e h =
      let t : ltb (length out) (length whole) ≡ true = lt-ltb (length out) (length whole) (omega (arith, length_whole)) in
      rw t (record { number_is = refl; written_is = refl; buffer-is = sym (overwrite-nothing out) })

  -- d is the buffer with the parts in it, and d' with the end too
  module _ (d d' : List ℕ) (p : PartsStored front rest out d) (q : EndStored ended before d d') where
    parts : d ≡ (front ++ rest) ++ drop before out
    parts = p ∙ sym (append_assoc front rest (drop before out))

    front-is : take before d ≡ front ++ rest
    front-is = ap (take before) parts ∙ take_at (front ++ rest) _ before (length-append front rest)

    behind-is : drop before d ≡ drop before out
    behind-is = ap (drop before) parts ∙ drop_at (front ++ rest) _ before (length-append front rest)

    back_is : drop (before + length (end_of ended)) d ≡ drop (before + length (end_of ended)) out
    back_is =
        sym (drop-drop (length (end_of ended)) before d) ∙ ap (drop (length (end_of ended))) behind-is
        ∙ drop-drop (length (end_of ended)) before out

    pub put_all : (size : ℕ) → size ≡ length (end_of ended) → before + size ≤ length out
        → StoresText whole (Ok (before + size)) out d'
    put_all size e h =
        let t : ltb (length out) (length whole) ≡ false = le-ltb (length out) (length whole) (omega (arith, length_whole)) in
        let stored : d' ≡ overwrite out whole =
        q ∙ rw (front-is, back_is)
        (sym (append_assoc (front ++ rest) (end_of ended) _) ∙ sym (overwrite-fits out whole (omega (arith, length_whole)) ∙ rw length_whole)) in
        rw t (record { number_is = refl; written_is = omega (arith, length_whole); buffer-is = stored })
