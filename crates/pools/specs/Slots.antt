-- What 02 (i) says of the answers of draws and shuffles, of every state.
-- Assumes nothing.
use Rattle.std.specs.Prelude.{◌≡◌, ℕ, zero, suc, ◌+◌, ◌-◌, ◌<◌, Bool, true, cond, ◌&&◌, List, [], ◌∷◌, length, ◌≢◌}
use Rattle.slots.specs.Shuffle.{shuffled_by, DrawsFor, Rearrangement}
use Rattle.pools.specs.Refusals.{max_tries}
use Rattle.pools.specs.Effects.{Effect}
use Rattle.pools.specs.Draws.{tries, try_at}
use Rattle.pools.specs.Calls.{draw, shuffle, call_number, step}
use Rattle.pools.specs.declared.Fortuna.{Fortuna}

-- a draw that is not refused answers 0 with the value of its own tries exactly if one of them is below n, and 33 where none is; a value
-- drawn is below n
pub record DrawLaw (s : Fortuna) (clock n d : ℕ) : Type 0 where
  pub answer : call_number s (draw clock n d) ≡ 0 → (step s (draw clock n d)).number ≡ cond (tries (try_at clock) n d s).found 0 33
  pub value : call_number s (draw clock n d) ≡ 0 → (step s (draw clock n d)).value ≡ (tries (try_at clock) n d s).value
  pub below : (step s (draw clock n d)).number ≡ 0 → (step s (draw clock n d)).value < n

-- the values that draws for the places p down to 1 give, each below its place + 1, each made in the state that the one before it left
unfoldable pub draws_of : {S : Type 0} → (S → Effect S) → ℕ → S → List ℕ
draws_of serve zero s = []
draws_of serve (suc p) s =
    let d = tries serve (suc p + 1) max_tries s in
    d.value ∷ draws_of serve p d.effect.next

-- whether each of them found a value; the first that finds none ends them
unfoldable pub draws_found : {S : Type 0} → (S → Effect S) → ℕ → S → Bool
draws_found serve zero s = true
draws_found serve (suc p) s =
    let d = tries serve (suc p + 1) max_tries s in
    d.found && draws_found serve p d.effect.next

-- a list left by a finished shuffle: by these draws, for the places from the last down to 1, each below its place + 1; a rearrangement
pub record Shuffled (draws list order : List ℕ) : Type 0 where
  pub in_range : DrawsFor (length list - 1) draws
  pub gives : order ≡ shuffled_by draws list
  pub rearranged : Rearrangement list order

-- a shuffle that is not refused is done exactly if its own draws all find a value; done, it leaves the list by these very draws; any
-- other, 33 included, leaves the list as it was
pub record ShuffleLaw (s : Fortuna) (clock : ℕ) (list : List ℕ) : Type 0 where
  pub answer :
      call_number s (shuffle clock list) ≡ 0 →
      (step s (shuffle clock list)).number ≡ cond (draws_found (try_at clock) (length list - 1) s) 0 33
  pub done :
      (step s (shuffle clock list)).number ≡ 0 →
      Shuffled (draws_of (try_at clock) (length list - 1) s) list (step s (shuffle clock list)).effect.buffer
  pub kept : ((step s (shuffle clock list)).number ≢ 0) → (step s (shuffle clock list)).effect.buffer ≡ list
