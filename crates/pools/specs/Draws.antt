-- Draws below n and shuffles of a list (02 (i)), over `serve`, which answers a try's request at the call's reading. The station and the
-- reference model share this rule; each serves its own way.
-- Assumes nothing.
use Rattle.std.specs.Prelude.{ℕ, zero, suc, ◌+◌, ◌-◌, Bool, true, false, cond, List, [], ◌++◌, length, nat_lt}
use Rattle.slots.specs.Fair.{try_value}
use Rattle.slots.specs.Shuffle.{exchange}
use Rattle.pools.specs.Refusals.{max_tries}
use Rattle.pools.specs.Effects.{Effect, unchanged, random_data}
use Rattle.pools.specs.declared.Fortuna.{Fortuna}

-- the bytes of a try
unfoldable pub try_size : ℕ
try_size = 4

-- what a draw or a shuffle comes to: whether every draw found a value, the value of a draw, and the effect
pub record Drawn (S : Type 0) : Type 0 where
  pub found : Bool
  pub value : ℕ
  pub effect : Effect S

-- two effects, one after the other
unfoldable pub after : {S : Type 0} → Effect S → Effect S → Effect S
after first second =
    record {
      emptied = first.emptied + second.emptied;
      buffer = second.buffer;
      next = second.next;
      trace = first.trace ++ second.trace;
    }

-- an effect with something else in the lent buffer
unfoldable pub leaving : {S : Type 0} → List ℕ → Effect S → Effect S
leaving buffer e = record { emptied = e.emptied; buffer = buffer; next = e.next; trace = e.trace }

-- a draw below n with d tries: the first value below n is the answer and ends the tries
unfoldable pub tries : {S : Type 0} → (S → Effect S) → ℕ → ℕ → S → Drawn S
tries serve n zero s = record { found = false; value = 0; effect = unchanged [] s }
tries serve n (suc d) s =
    let e = serve s in
    let v = try_value n e.buffer in
    let more = tries serve n d e.next in
    cond (nat_lt v n)
    (record { found = true; value = v; effect = leaving [] e })
    (record { found = more.found; value = more.value; effect = after e more.effect })

-- from place p down to 1, the entry there changes with that of the place drawn below p + 1; a draw without a value ends it
unfoldable pub shuffle_from : {S : Type 0} → (S → Effect S) → ℕ → List ℕ → S → Drawn S
shuffle_from serve zero list s = record { found = true; value = 0; effect = unchanged list s }
shuffle_from serve (suc p) list s =
    let d = tries serve (suc p + 1) max_tries s in
    let more = shuffle_from serve p (exchange (suc p) d.value list) d.effect.next in
    cond d.found
    (record { found = more.found; value = 0; effect = after d.effect more.effect })
    (record { found = false; value = 0; effect = leaving list d.effect })

-- a shuffle of the whole list, from its last place; where a draw found none, the list is as it was
unfoldable pub shuffled : {S : Type 0} → (S → Effect S) → List ℕ → S → Drawn S
shuffled serve list s =
    let o = shuffle_from serve (length list - 1) list s in
    cond o.found o (record { found = false; value = 0; effect = leaving list o.effect })

-- a try of the station at a reading: an ordinary request
unfoldable pub try_at : ℕ → Fortuna → Effect Fortuna
try_at clock s = random_data s clock try_size
