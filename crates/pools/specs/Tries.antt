-- The tries of a draw and of a shuffle, one by one: none is refused midway, and only the first can make a pool reseed (02 (i)).
-- Assumes nothing.
use Rattle.std.specs.Prelude.{◌≡◌, ℕ, zero, suc, ◌+◌, ◌-◌, ◌*◌, false, cond, List, [], ◌∷◌, ◌++◌, length, nat_lt}
use mathlib.Core.List.{Memᴰ}
use Rattle.laws.specs.Lists.{joined}
use Rattle.slots.specs.Fair.{try_value}
use Rattle.slots.specs.Shuffle.{exchange}
use Rattle.pools.specs.Events.{pool_count}
use Rattle.pools.specs.State.{counter_of, malformed, due}
use Rattle.pools.specs.Refusals.{unseeded, spent, max_tries}
use Rattle.pools.specs.Effects.{Effect, emptied_by}
use Rattle.pools.specs.Draws.{try_size, tries, try_at}
use Rattle.pools.specs.Calls.{Call, event, request, update, write, draw, shuffle, reading_of, call_number, call_effect}
use Rattle.pools.specs.declared.Fortuna.{Fortuna}

-- the states in which the tries of a draw are made, in order
unfoldable pub draw_tries : {S : Type 0} → (S → Effect S) → ℕ → ℕ → S → List S
draw_tries serve n zero s = []
draw_tries serve n (suc d) s =
    s ∷ cond (nat_lt (try_value n (serve s).buffer) n) [] (draw_tries serve n d (serve s).next)

-- those of a shuffle's draws, from place p down to 1
unfoldable pub shuffle_tries : {S : Type 0} → (S → Effect S) → ℕ → List ℕ → S → List S
shuffle_tries serve zero list s = []
shuffle_tries serve (suc p) list s =
    let d = tries serve (suc p + 1) max_tries s in
    draw_tries serve (suc p + 1) max_tries s
    ++ cond d.found (shuffle_tries serve p (exchange (suc p) d.value list) d.effect.next) []

-- the states in which a call's tries are made
unfoldable pub call_tries : Fortuna → Call → List Fortuna
call_tries s (event source pool content) = []
call_tries s (request clock buffer) = []
call_tries s (update clock seed) = []
call_tries s (write clock seed) = []
call_tries s (draw clock n d) = draw_tries (try_at clock) n d s
call_tries s (shuffle clock list) = shuffle_tries (try_at clock) (length list - 1) list s

-- the tries of a draw or a shuffle are made one after the other, the first in the state found; the last leaves the call's state, and what
-- the call enciphered is what they enciphered
unfoldable pub Follows : {S : Type 0} → (S → Effect S) → S → List S → S → Type 0
Follows serve s [] end = s ≡ end
Follows serve s (t ∷ ts) end = (t ≡ s) × Follows serve (serve t).next ts end

pub record TriesMade {S : Type 0} (serve : S → Effect S) (s : S) (made : List S) (e : Effect S) : Type 0 where
  pub follow : Follows serve s made e.next
  pub trace : e.trace ≡ joined (λ t. (serve t).trace) made

abbrev pub DrawTriesLaw : Type 0
DrawTriesLaw = (s : Fortuna) (clock n d : ℕ) → TriesMade (try_at clock) s (call_tries s (draw clock n d)) (call_effect s (draw clock n d))

abbrev pub ShuffleTriesLaw : Type 0
ShuffleTriesLaw =
    (s : Fortuna) (clock : ℕ) (list : List ℕ) →
    TriesMade (try_at clock) s (call_tries s (shuffle clock list)) (call_effect s (shuffle clock list))

-- a call that passes its one check lets every try pass: no 4-byte request is refused midway. As in code, the state has its 32 pools
abbrev pub EveryTryPasses : Type 0
EveryTryPasses =
    (s : Fortuna) (c : Call) → length s.pools ≡ pool_count → call_number s c ≡ 0 →
    (t : Fortuna) → Memᴰ t (call_tries s c) →
    (out : List ℕ) → length out ≡ try_size → call_number t (request (reading_of c) out) ≡ 0

-- the first try is made in the state found, and none of the later ones finds a pool reseed due: all pools that the call empties
-- are emptied by the first
pub record OneReseed (s : Fortuna) (c : Call) (first : Fortuna) (later : List Fortuna) : Type 0 where
  pub start : first ≡ s
  pub none : (t : Fortuna) → Memᴰ t later → due t (reading_of c) ≡ false
  pub emptied : (call_effect s c).emptied ≡ emptied_by s (reading_of c)

abbrev pub OneReseedLaw : Type 0
OneReseedLaw =
    (s : Fortuna) (c : Call) (first : Fortuna) (later : List Fortuna) → call_tries s c ≡ first ∷ later → OneReseed s c first later

-- a state in which k more tries at a reading pass
pub record Passing (s : Fortuna) (clock k : ℕ) : Type 0 where
  pub formed : malformed s ≡ false
  pub keyed : unseeded (counter_of s) (due s clock) ≡ false
  pub room : spent (counter_of s) (due s clock) (3 * k) ≡ false
