-- How an input is cut into lines.
-- Assumes nothing.
use mathlib.Core.Path.{◌≡◌, refl, sym, ap, ◌∙◌}
use mathlib.Core.Bool.{Bool, true, false, cond, ◌||◌, true≢false}
use mathlib.Core.List.{List, [], ◌∷◌, ◌++◌, append_assoc, append-nil}
use Prim.Native.Nat.{ℕ, suc, ◌+◌, ◌-◌, ◌≤◌, ◌<◌, min}
use native.Mathlib.Nat.{add-zero, suc-add}
use native.Mathlib.Omega.{arith}
use lib.Dec.{eqb, ltb}
use lib.ListN.{length, take, drop, length-append, get_or}
use lib.Pointwise.{pointwise}
use lib.Seq.{append_snoc, take_at, take_all, drop_at, drop-length, drop-cons}
use denote.Ref.{Bor}
use borrow.Author.Tests.{eqb-true, ltb-false, lt-ltb, le-ltb, ne_eqb}
use Rattle.std.specs.Prelude.{Option, Some, None, unwrap_or, MatchOption, nat_eq}
use Rattle.std.specs.List.{position_or_len, IsFirstMatchOrLen}
use Rattle.std.proofs.lemmas.List.Sums.{position_or_len_is}
use Rattle.std.proofs.lemmas.List.Recursion.{is_position_or_len}
use Rattle.laws.proofs.Cases.{split, by-test, neither}
use Rattle.bench.specs.Lines.{line_feed}
use Rattle.bench.specs.Input.{final_line, lines_following, lines, first_line, has_line_feed, used_by}
use Rattle.bench.specs.Statements.{LinesLaw}
use native.Mathlib.Numerals.{add-one}

-- if a text has no line feed, its first character is none, and the rest has none
pub feedless-more : (c : ℕ) (r : List ℕ) → has_line_feed (c ∷ r) ≡ false → (eqb c line_feed ≡ false) × (has_line_feed r ≡ false)
unfolding has_line_feed
feedless-more c r e = neither (eqb c line_feed) (has_line_feed r) e

-- it goes on into the first line of what follows
pub first-append : (text rest : List ℕ) → has_line_feed text ≡ false → first_line (text ++ rest) ≡ text ++ first_line rest
unfolding first_line
first-append [] rest e = refl
first-append (c ∷ text) rest e =
    let p = feedless-more c text e in
    rw p.0 (ap (λ (l : List ℕ). c ∷ l) (first-append text rest p.1))

-- the first line has no line feed
pub first-feedless : (r : List ℕ) → has_line_feed (first_line r) ≡ false
unfolding first_line has_line_feed
first-feedless [] = refl
first-feedless (c ∷ r) = split (λ (l : List ℕ). has_line_feed l ≡ false) (eqb c line_feed) (λ t. refl) (λ t. rw t (first-feedless r))

-- where a line feed ends it, what is not used comes after that
pub first_ended : (r : List ℕ) → has_line_feed r ≡ true → r ≡ first_line r ++ (line_feed ∷ drop (used_by r) r)
unfolding first_line has_line_feed used_by
first_ended [] e = absurd (true≢false (sym e))
first_ended (c ∷ r) e = go (eqb c line_feed) (eqb-true c line_feed) e (first_ended r)
  where
    go : (t : Bool) → (t ≡ true → c ≡ line_feed) → (t || has_line_feed r) ≡ true
        → (has_line_feed r ≡ true → r ≡ first_line r ++ (line_feed ∷ drop (length (first_line r) + cond (has_line_feed r) 1 0) r))
        → c ∷ r
        ≡ cond t [] (c ∷ first_line r) ++ (line_feed ∷ drop (length (cond t [] (c ∷ first_line r)) + cond (t || has_line_feed r) 1 0) (c ∷ r))
    go true q e f = ap (λ (x : ℕ). x ∷ r) (q refl)
    go false q e f = ap (λ (l : List ℕ). c ∷ l) (f e ∙ rw suc-add)

-- all of it, where there is no line feed
pub first-all : (r : List ℕ) → has_line_feed r ≡ false → first_line r ≡ r
unfolding first_line has_line_feed
first-all [] e = refl
first-all (c ∷ r) e = go (eqb c line_feed) e (first-all r)
  where
    go : (t : Bool) → (t || has_line_feed r) ≡ false → (has_line_feed r ≡ false → first_line r ≡ r) → cond t [] (c ∷ first_line r) ≡ c ∷ r
    go true e f = absurd (true≢false e)
    go false e f = ap (λ (l : List ℕ). c ∷ l) (f e)

-- the lines of an input whose first characters are r: the first is ended by the first line feed of r, if it has one
pub lines_after : (sofar r rest : List ℕ) → lines_following sofar (r ++ rest)
    ≡ cond (has_line_feed r) ((sofar ++ first_line r) ∷ lines_following [] (drop (used_by r) r ++ rest)) (lines_following (sofar ++ first_line r) rest)
unfolding lines_following first_line has_line_feed used_by
lines_after sofar [] rest = rw (append-nil sofar)
lines_after sofar (c ∷ r) rest = go (eqb c line_feed) (lines_after (sofar ++ (c ∷ [])) r rest)
  where
    go : (t : Bool) → lines_following (sofar ++ (c ∷ [])) (r ++ rest)
        ≡ cond (has_line_feed r)
        ((sofar ++ (c ∷ []) ++ first_line r) ∷ lines_following [] (drop (length (first_line r) + cond (has_line_feed r) 1 0) r ++ rest))
        (lines_following (sofar ++ (c ∷ []) ++ first_line r) rest)
        → cond t (sofar ∷ lines_following [] (r ++ rest)) (lines_following (sofar ++ (c ∷ [])) (r ++ rest))
        ≡ cond (t || has_line_feed r)
        ((sofar ++ cond t [] (c ∷ first_line r))
        ∷ lines_following [] (drop (length (cond t [] (c ∷ first_line r)) + cond (t || has_line_feed r) 1 0) (c ∷ r) ++ rest))
        (lines_following (sofar ++ cond t [] (c ∷ first_line r)) rest)
    go true h = rw (append-nil sofar)
    go false h = h ∙ rw (append_snoc sofar c (first_line r), suc-add)

-- all of it is used, where there is no line feed
pub used_all : (r : List ℕ) → has_line_feed r ≡ false → used_by r ≡ length r
unfolding used_by
used_all r e = rw (e, first-all r e) (add-zero (length r))

-- the first line and its line feed are used, where it has one
pub used-ended : (r : List ℕ) → has_line_feed r ≡ true → used_by r ≡ length (first_line r) + 1
unfolding used_by
used-ended r e = rw e

-- by whether it has one: the first line is its front, and all of it only where there is none
module _ (r : List ℕ) where
  longer : has_line_feed r ≡ true → length (first_line r) < length r
  longer e =
      let size : length r ≡ length (first_line r) + suc (length (drop (used_by r) r)) = ap length (first_ended r e) ∙ length-append (first_line r) _ in
      omega (arith, size)

  pub first_fits : length (first_line r) ≤ length r
  first_fits =
      by-test (has_line_feed r) (length (first_line r) ≤ length r) (λ e. omega (arith, longer e)) (λ e. omega (arith, ap length (first-all r e)))

  pub first-front : take (length (first_line r)) r ≡ first_line r
  first-front =
      by-test (has_line_feed r) (take (length (first_line r)) r ≡ first_line r)
      (λ e. ap (take (length (first_line r))) (first_ended r e) ∙ take_at (first_line r) _ (length (first_line r)) refl)
      (λ e. take_all (length (first_line r)) r (omega (arith, ap length (first-all r e))) ∙ sym (first-all r e))

  pub feed-test : ltb (length (first_line r)) (length r) ≡ has_line_feed r
  feed-test =
      by-test (has_line_feed r) (ltb (length (first_line r)) (length r) ≡ has_line_feed r)
      (λ e. lt-ltb (length (first_line r)) (length r) (longer e) ∙ sym e)
      (λ e. le-ltb (length (first_line r)) (length r) (omega (arith, ap length (first-all r e))) ∙ sym e)

  pub used-fits : used_by r ≤ length r
  used-fits =
      by-test (has_line_feed r) (used_by r ≤ length r) (λ e. omega (arith, used-ended r e, longer e)) (λ e. omega (arith, used_all r e))

-- of what is left something is used
pub used-more : (r : List ℕ) → 0 < length r → 0 < used_by r
unfolding used_by first_line has_line_feed
used-more [] h = h
used-more (c ∷ r) h = go (eqb c line_feed)
  where
    go : (t : Bool) → 0 < length (cond t [] (c ∷ first_line r)) + cond (t || has_line_feed r) 1 0
    go true = omega arith
    go false = omega arith

-- ---- where the end of a line is found

module _ (chunk : List ℕ) where
  first-place : length (first_line chunk) ≡ position_or_len (λ c. eqb c line_feed) chunk
  unfolding first_line
  first-place = is_position_or_len (λ r. length (first_line r)) (λ c. eqb c line_feed) refl step chunk
    where
      step : (c : ℕ) (r : List ℕ) → length (cond (eqb c line_feed) [] (c ∷ first_line r)) ≡ cond (eqb c line_feed) 0 (1 + length (first_line r))
      step c r = go (eqb c line_feed)
        where
          go : (t : Bool) → length (cond t [] (c ∷ first_line r)) ≡ cond t 0 (1 + length (first_line r))
          go true = refl
          go false = omega arith

  -- the first place of a line feed, or all
  pub first-position : (found : Option ℕ)
      → found ≡ cond (ltb (position_or_len (λ c. eqb c line_feed) chunk) (length chunk)) (Some (position_or_len (λ c. eqb c line_feed) chunk)) None
      → unwrap_or found (length chunk) ≡ length (first_line chunk)
  first-position found e =
      by-test (ltb (length (first_line chunk)) (length chunk)) _
      (λ t. rw (e, ← first-place, t))
      (λ t. rw (e, ← first-place, t) (omega (arith, first_fits chunk, ltb-false _ _ t)))

module _ (chunk : List ℕ) (i : ℕ) (h : i < length chunk) where
  pub first-at : get_or chunk i 0 ≡ line_feed → length (first_line (drop i chunk)) ≡ 0
  unfolding first_line
  first-at e = rw (drop-cons chunk i 0 h, e)

  pub first_past : (get_or chunk i 0 ≡ line_feed → ⊥) → length (first_line (drop i chunk)) ≡ suc (length (first_line (drop (i + 1) chunk)))
  unfolding first_line
  first_past n = rw (drop-cons chunk i 0 h, ne_eqb (get_or chunk i 0) line_feed n, add-one i)

pub first-end : (chunk : List ℕ) → length (first_line (drop (length chunk) chunk)) ≡ 0
unfolding first_line
first-end chunk = rw drop-length

-- ---- the first line of an input, cut off with its line feed

pub lines-none : lines [] ≡ []
unfolding lines lines_following final_line
lines-none = refl

-- a line that the end of the input ends
one_line : (l : List ℕ) → 0 < length l → lines_following l [] ≡ l ∷ []
unfolding lines_following final_line
one_line [] h = absurd (omega arith)
one_line (c ∷ l) h = refl

-- the first line comes first, and then those of what is not used
pub lines-first : (r : List ℕ) → 0 < length r → lines r ≡ first_line r ∷ lines (drop (used_by r) r)
unfolding lines
lines-first r some = ap (lines_following []) (sym (append-nil r)) ∙ lines_after [] r [] ∙ go (has_line_feed r) refl
  where
    go : (t : Bool) → has_line_feed r ≡ t
        → cond t (first_line r ∷ lines_following [] (drop (used_by r) r ++ [])) (lines_following (first_line r) [])
        ≡ first_line r ∷ lines_following [] (drop (used_by r) r)
    go true e = rw append-nil refl
    go false e =
        let all = first-all r e in
        rw (used_all r e, drop-length)
        (one_line (first_line r) (omega (arith, some, ap length all)) ∙ ap (λ (ls : List (List ℕ)). first_line r ∷ ls) (sym lines-none))

-- a text without a line feed does not end with one
feedless-last : (l : List ℕ) → has_line_feed l ≡ false → pointwise nat_eq (drop (length l - 1) l) (line_feed ∷ []) ≡ false
unfolding has_line_feed
feedless-last [] e = refl
feedless-last (c ∷ []) e = rw (feedless-more c [] e).0
feedless-last (c ∷ d ∷ l) e =
    let k : length (c ∷ d ∷ l) - 1 ≡ suc (length (d ∷ l) - 1) = omega arith in
    rw k (feedless-last (d ∷ l) (feedless-more c (d ∷ l) e).1)

module _ (r x rest : List ℕ) (i : ℕ) (cut : r ≡ x ++ rest) (size : length x ≡ min (i + 1) (length r))
    (first : IsFirstMatchOrLen (λ c. eqb c line_feed) r i) where
  place : length (first_line r) ≡ min i (length r)
  place =
      first-place r
      ∙ position_or_len_is (λ c. eqb c line_feed) r (min i (length r)) 0 (omega arith) (λ k h. first.0 k 0 (omega arith) (omega arith))
      (λ h. let e : min i (length r) ≡ i = omega arith in rw e (first.1 (omega arith) 0))

  pub part-used : length x ≡ used_by r
  part-used =
      by-test (has_line_feed r) (length x ≡ used_by r)
      (λ t. omega (arith, used-ended r t, longer r t, place, size))
      (λ t. omega (arith, used_all r t, ap length (first-all r t), place, size))

  -- the line itself, where it has a line feed and where it has none
  part-ended : has_line_feed r ≡ true → x ≡ first_line r ++ (line_feed ∷ [])
  part-ended t =
      sym (take_at x rest (length x) refl)
      ∙ ap (take (length x)) (sym cut ∙ first_ended r t ∙ sym (append_assoc (first_line r) (line_feed ∷ []) (drop (used_by r) r)))
      ∙ take_at (first_line r ++ (line_feed ∷ [])) (drop (used_by r) r) (length x)
      (length-append (first_line r) (line_feed ∷ []) ∙ sym (part-used ∙ used-ended r t))

  part-last : has_line_feed r ≡ false → x ≡ first_line r
  part-last t =
      sym (take_at x rest (length x) refl) ∙ ap (take (length x)) (sym cut)
      ∙ take_all (length x) r (omega (arith, part-used, used_all r t)) ∙ sym (first-all r t)

  pub cut-front : (found : Option (Bor (List ℕ))) (whole : Bor (List ℕ)) → whole.now ≡ x
      → MatchOption found (pointwise nat_eq (drop (length x - 1) x) (line_feed ∷ []) ≡ false)
      (λ y. (pointwise nat_eq (drop (length x - 1) x) (line_feed ∷ []) ≡ true) × (y.now ≡ take (length x - 1) x) × (length y.now + 1 ≡ length x))
      → (unwrap_or found whole).now ≡ first_line r
  cut-front None whole w m =
      by-test (has_line_feed r) (whole.now ≡ first_line r)
      (λ t.
      let n : length x - 1 ≡ length (first_line r) = omega (arith, part-used, used-ended r t) in
      let feed : drop (length x - 1) x ≡ line_feed ∷ [] =
      ap (λ (k : ℕ). drop k x) n ∙ ap (drop (length (first_line r))) (part-ended t) ∙ drop_at (first_line r) (line_feed ∷ []) (length (first_line r)) refl in
      absurd (true≢false (sym (ap (λ (l : List ℕ). pointwise nat_eq l (line_feed ∷ [])) feed) ∙ m)))
      (λ t. w ∙ part-last t)
  cut-front (Some y) whole w (p, front, l) =
      by-test (has_line_feed r) (y.now ≡ first_line r)
      (λ t.
      let n : length x - 1 ≡ length (first_line r) = omega (arith, part-used, used-ended r t) in
      front ∙ ap (λ (k : ℕ). take k x) n ∙ ap (take (length (first_line r))) (part-ended t)
      ∙ take_at (first_line r) (line_feed ∷ []) (length (first_line r)) refl)
      (λ t. absurd (true≢false (sym p ∙ feedless-last x (ap has_line_feed (part-last t) ∙ first-feedless r))))

-- ---- what `lines` is

-- characters that are no line feed go on with the line
no-feed : (sofar r rest : List ℕ) → has_line_feed r ≡ false → lines_following sofar (r ++ rest) ≡ lines_following (sofar ++ r) rest
no-feed sofar r rest e = lines_after sofar r rest ∙ rw (e, first-all r e)

line-ended : (line rest : List ℕ) → has_line_feed line ≡ false → lines (line ++ (line_feed ∷ rest)) ≡ line ∷ lines rest
unfolding lines lines_following
line-ended line rest e = no-feed [] line (line_feed ∷ rest) e

last_line : (line : List ℕ) → has_line_feed line ≡ false → 0 < length line → lines line ≡ line ∷ []
unfolding lines lines_following
last_line line e h = ap (lines_following []) (sym (append-nil line)) ∙ no-feed [] line [] e ∙ one line h
  where
    one : (line : List ℕ) → 0 < length line → final_line line ≡ line ∷ []
    one [] h = absurd (omega arith)
    one (c ∷ line) h = unfold final_line in refl

pub lines-law : LinesLaw
lines-law = record { nothing = unfold lines lines_following final_line in refl; ended = line-ended; last = last_line }
