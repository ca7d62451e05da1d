-- The tries of a draw, one turn of the loop at a time.
-- Assumes nothing.
use mathlib.Core.Path.{◌≡◌, refl, sym, ap, ◌∙◌, subst}
use mathlib.Core.Bool.{true, false, cond}
use mathlib.Core.List.{List, []}
use Prim.Native.Nat.{ℕ, suc, ◌+◌, ◌-◌, ◌%◌, ◌^◌, ◌≤◌, ◌<◌}
use native.Mathlib.Nat.{zero-add}
use native.Mathlib.Omega.{arith}
use lib.Dec.{ltb}
use lib.ListN.{length}
use borrow.Author.Tests.{lt-ltb, le-ltb}
use Rattle.generator.specs.Counter.{value}
use Rattle.slots.specs.Fair.{bits_for, try_value}
use Rattle.pools.specs.Events.{pool_count}
use Rattle.pools.specs.Effects.{Effect, unchanged}
use Rattle.pools.specs.Draws.{Drawn, try_size, after, leaving, tries, try_at}
use Rattle.pools.specs.Calls.{request, call_number, call_effect, step}
use Rattle.pools.specs.Promises.{GivesBytes}
use Rattle.pools.specs.Tries.{Passing}
use Rattle.pools.specs.declared.Fortuna.{Fortuna}
use Rattle.pools.specs.declared.Outcome.{Outcome}
use Rattle.pools.proofs.Outcomes.{done}
use Rattle.pools.proofs.Bounds.{step-emptied-few}
use Rattle.pools.proofs.Passing.{try-passes}
use Rattle.pools.proofs.Tries.{pools-next, passing-next}

-- ---- a try's request

request-effect : (s : Fortuna) (clock : ℕ) (buffer : List ℕ) → length buffer ≡ try_size → call_number s (request clock buffer) ≡ 0
    → (step s (request clock buffer)).effect ≡ try_at clock s
unfolding call_effect try_at
request-effect s clock buffer h k = sym (done s (request clock buffer) _ true refl (rw k) refl) ∙ rw h

-- what a request gave is what the try gives, and it empties at most 32 pools
pub record Served (s : Fortuna) (clock : ℕ) (q : Outcome Fortuna) (out : List ℕ) : Type 0 where
  pub few : q.emptied ≤ 32
  pub emptied : q.emptied ≡ (try_at clock s).emptied
  pub next : q.next ≡ (try_at clock s).next
  pub bytes : out ≡ (try_at clock s).buffer

pub served : (s : Fortuna) (clock k : ℕ) (buffer bytes : List ℕ) (q : Outcome Fortuna) → length buffer ≡ 4 → 0 < k → Passing s clock k
    → GivesBytes (step s (request clock buffer)) q bytes → Served s clock q bytes
unfolding try_size pool_count
served s clock k buffer bytes q h l pass ((number, emptied, next), out) =
    let m : k ≡ suc (k - 1) = omega arith in
    let is = request-effect s clock buffer h (try-passes s clock (k - 1) buffer (subst (Passing s clock) m pass) h) in
    record {
      few = rw emptied (step-emptied-few s (request clock buffer));
      emptied = emptied ∙ ap (λ (e : Effect Fortuna). e.emptied) is;
      next = next ∙ ap (λ (e : Effect Fortuna). e.next) is;
      bytes = out ∙ ap (λ (e : Effect Fortuna). e.buffer) is;
    }

-- ---- e pools were emptied before what is left of a draw

abbrev pub Left : Drawn Fortuna → ℕ → Drawn Fortuna → Type 0
Left whole e rest =
    (whole.found ≡ rest.found)
    × (whole.value ≡ rest.value)
    × (whole.effect.emptied ≡ e + rest.effect.emptied)
    × (whole.effect.next ≡ rest.effect.next)

pub left-all : (o : Drawn Fortuna) → Left o 0 o
left-all o = (refl, refl, sym (zero-add o.effect.emptied), refl)

-- t tries of d were made, and the state is now s
module _ (clock n d t e : ℕ) (whole : Drawn Fortuna) (s : Fortuna) (left : Left whole e (tries (try_at clock) n (d - t) s)) where
  module _ (q : Outcome Fortuna) (k v : ℕ) (bytes : List ℕ) (turn : t < d) (try : Served s clock q bytes)
      (bits : k ≡ bits_for n) (drawn : v ≡ value bytes % 2 ^ k) where
    is-value : v ≡ try_value n (try_at clock s).buffer
    unfolding try_value
    is-value = rw (← bits, ← try.bytes) drawn

    one_more : d - t ≡ suc (d - (t + 1))
    one_more = omega arith

    -- a value below n ends them
    pub try-hit : v < n → (◌≡◌ {A = ℕ} 0 (cond whole.found 0 33)) × (e + q.emptied ≡ whole.effect.emptied) × (v ≡ whole.value) × (q.next ≡ whole.effect.next)
    unfolding tries leaving
    try-hit h =
        let test : ltb (try_value n (try_at clock s).buffer) n ≡ true = rw (← is-value) (lt-ltb v n h) in
        let is : tries (try_at clock) n (d - t) s ≡ record { found = true; value = v; effect = leaving [] (try_at clock s) } = rw (one_more, test, is-value) in
        let (found, val, emptied, next) = subst (Left whole e) is left in
        (rw found, rw try.emptied (sym emptied), sym val, try.next ∙ sym next)

    pub try-miss : n ≤ v → Left whole (e + q.emptied) (tries (try_at clock) n (d - (t + 1)) q.next)
    unfolding tries after
    try-miss h =
        let test : ltb (try_value n (try_at clock s).buffer) n ≡ false = rw (← is-value) (le-ltb v n h) in
        let more = tries (try_at clock) n (d - (t + 1)) (try_at clock s).next in
        let is : tries (try_at clock) n (d - t) s ≡ record { found = more.found; value = more.value; effect = after (try_at clock s) more.effect } =
        rw (one_more, test) in
        let (found, val, emptied, next) = subst (Left whole e) is left in
        rw (try.next, try.emptied) (found, val, omega (arith, emptied), next)

  -- no try is left
  pub try-none : d ≤ t → (◌≡◌ {A = ℕ} 33 (cond whole.found 0 33)) × (e ≡ whole.effect.emptied) × (0 ≡ whole.value) × (s ≡ whole.effect.next)
  unfolding tries unchanged
  try-none h =
      let z : d - t ≡ 0 = omega arith in
      let (found, val, emptied, next) = subst (Left whole e) (ap (λ (k : ℕ). tries (try_at clock) n k s) z) left in
      (rw found, omega (arith, emptied), sym val, sym next)

-- the tries that are left pass, in a state with all its pools
abbrev pub Ready : Fortuna → ℕ → ℕ → Type 0
Ready s clock k = (length s.pools ≡ pool_count) × Passing s clock k

pub ready-next : (s : Fortuna) (clock d t : ℕ) (q : Outcome Fortuna) (bytes : List ℕ) → t < d → Served s clock q bytes → Ready s clock (d - t)
    → Ready q.next clock (d - (t + 1))
ready-next s clock d t q bytes h try (all, pass) =
    let m : d - t ≡ suc (d - (t + 1)) = omega arith in
    rw try.next (pools-next s clock all, passing-next s clock (d - (t + 1)) all (subst (Passing s clock) m pass))
