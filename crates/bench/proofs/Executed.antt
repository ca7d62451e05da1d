-- From what a call gives and what is then printed to a line on a state.
-- Assumes nothing.
use mathlib.Core.Path.{◌≡◌, refl, sym, ap, ◌∙◌}
use mathlib.Core.Bool.{Bool, true, false, cond}
use mathlib.Core.List.{List, [], ◌∷◌, ◌++◌}
use Rattle.std.specs.Prelude.{Some, None}
use Prim.Native.Nat.{ℕ, ◌+◌, ◌*◌, ◌≤◌, ◌<◌}
use native.Mathlib.Omega.{arith}
use lib.Dec.{eqb}
use lib.ListN.{length, length-append}
use Rattle.laws.specs.Lists.{overwrite}
use Rattle.pools.specs.Calls.{Call, event, request, update, write, step}
use Rattle.pools.specs.Promises.{number, Gives, GivesBytes}
use Rattle.pools.specs.declared.Fortuna.{Fortuna}
use Rattle.pools.specs.declared.Outcome.{Outcome}
use Rattle.bench.specs.Hexadecimal.{decimal}
use Rattle.bench.specs.Lines.{space, line_feed, no_frame, number_line, spaced, output_line, answer_line, outcome_line, LineEffect, executed, Shown, Prints}
use Rattle.bench.proofs.Hexadecimal.{length-encode}
use Rattle.pools.proofs.Bounds.{step-emptied-few, pools-small}

-- a line was shown, and it is the effect's
prints : (o : LineEffect) (next : Fortuna) (line : List ℕ) (n : ℕ) (before after : List ℕ)
    → next ≡ o.next → line ≡ o.printed → length line ≤ length before → Shown line n before after
    → Prints o (record { next = next; written = n }) before after
prints o next line n before after e f h (w, s) =
    record { next = e; written = w ∙ ap length f; fits = rw (← f) h; shown = s ∙ ap (overwrite before) f }

length-number : (n : ℕ) → length (number_line n) ≡ 3
unfolding number_line decimal
length-number n = refl

length-spaced : (bytes : List ℕ) → length (spaced bytes) ≤ 1 + 2 * length bytes
unfolding spaced
length-spaced [] = omega arith
length-spaced (b ∷ bytes) = omega (arith, length-encode (b ∷ bytes))

-- the longest line of an answer with bytes
length-output : (n emptied : ℕ) (bytes : List ℕ) → length (output_line n emptied bytes) ≤ 7 + 2 * length bytes
unfolding output_line number_line decimal
length-output n emptied bytes = go (eqb n 0)
  where
    go : (t : Bool) → length (cond t (decimal n ++ (space ∷ []) ++ decimal emptied ++ spaced bytes ++ (line_feed ∷ [])) (number_line n)) ≤ 7 + 2 * length bytes
    go true = rw length-append (omega (arith, length-spaced bytes))
    go false = omega arith

pub invalid-prints : (s : Fortuna) (n : ℕ) (before after : List ℕ) → 3 ≤ length before → Shown (number_line no_frame) n before after
    → Prints (executed s None) (record { next = s; written = n }) before after
unfolding executed
invalid-prints s n before after h = prints (executed s None) s (number_line no_frame) n before after refl refl (rw length-number h)

pub event-prints : (s : Fortuna) (source pool : ℕ) (content : List ℕ) (o : Outcome Fortuna) (k n : ℕ) (before after : List ℕ)
    → Gives (step s (event source pool content)) o → k ≡ number o.answer → 3 ≤ length before → Shown (number_line k) n before after
    → Prints (executed s (Some (event source pool content))) (record { next = o.next; written = n }) before after
unfolding executed outcome_line answer_line
event-prints s source pool content o k n before after (e, f, g) i h =
    prints (executed s (Some (event source pool content))) o.next (number_line k) n before after g (ap number_line (i ∙ e)) (rw length-number h)

-- the calls that lend a buffer
abbrev pub Lends : Call → Type 0
Lends c = (n emptied : ℕ) (buffer : List ℕ) → answer_line c n emptied buffer ≡ output_line n emptied buffer

pub request-lends : (clock : ℕ) (buffer : List ℕ) → Lends (request clock buffer)
unfolding answer_line
request-lends clock buffer n emptied after = refl

pub update-lends : (clock : ℕ) (seed : List ℕ) → Lends (update clock seed)
unfolding answer_line
update-lends clock seed n emptied after = refl

pub write-lends : (clock : ℕ) (seed : List ℕ) → Lends (write clock seed)
unfolding answer_line
write-lends clock seed n emptied after = refl

module _ (s : Fortuna) (c : Call) (o : Outcome Fortuna) where
  -- two digits are enough for the pools emptied
  pub emptied-small : Gives (step s c) o → o.emptied < 100
  emptied-small (e, f, g) = rw f (omega (arith, step-emptied-few s c, pools-small))

  pub output-prints : (bytes : List ℕ) (n : ℕ) (before after : List ℕ)
      → Lends c → GivesBytes (step s c) o bytes → 7 + 2 * length bytes ≤ length before
      → Shown (output_line (number o.answer) o.emptied bytes) n before after
      → Prints (executed s (Some c)) (record { next = o.next; written = n }) before after
  unfolding executed outcome_line
  output-prints bytes n before after l ((e, f, g), b) h =
      prints (executed s (Some c)) o.next (output_line (number o.answer) o.emptied bytes) n before after g
      (sym (l (number o.answer) o.emptied bytes) ∙ rw (e, f, b)) (omega (arith, length-output (number o.answer) o.emptied bytes))
