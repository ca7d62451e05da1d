-- The answer to an event by its own and its list's check, and by what its source is charged.
-- Assumes nothing.
use mathlib.Core.Path.{◌≡◌, refl, ◌∙◌}
use mathlib.Core.Bool.{Bool, true, false, cond, not}
use mathlib.Core.Logic.{◌≢◌}
use mathlib.Core.List.{List}
use Prim.Native.Nat.{ℕ, ◌+◌, ◌≤◌, ◌<◌}
use lib.Dec.{eqb, ltb}
use borrow.Author.Tests.{lt-ltb, le-ltb, ne_eqb}
use Rattle.std.proofs.Common.{Result, Ok, Err}
use Rattle.std.specs.Result.{result_and}
use Rattle.laws.specs.Refusals.{refuse}
use Rattle.laws.proofs.Cases.{split}
use Rattle.pools.specs.declared.refusal.Refusal.{Refusal}
use Rattle.pools.specs.Promises.{code, number}
use Rattle.quotas.specs.declared.Quota.{Quota}
use Rattle.quotas.specs.Records.{quota_of, is_listed}
use Rattle.quotas.specs.Charges.{comes_first, charge_number}
use Rattle.metered.specs.Metering.{known_of}
use Rattle.metered.proofs.Gating.{some-code}

-- an input number comes first
pub known-input : (own : Refusal) (fault : ℕ) → code own < 21 → code own ≡ known_of (code own) fault
unfolding known_of
known-input own fault h =
    rw (ne_eqb (code own) 0 (some-code own), lt-ltb (code own) 21 h)
    (split (λ (k : ℕ). code own ≡ k) (eqb fault 0) (λ t. refl) (λ t. refl))

-- then the fault of the list, and another number of the event's own
pub known-else :
    (own checked : Result Unit Refusal) → ((refusal : Refusal) → own ≡ Err refusal → 21 ≤ code refusal) →
    number (result_and checked own) ≡ known_of (number own) (number checked)
unfolding known_of
known-else own (Ok x) h = refl
known-else (Ok x) (Err fault) h = rw (ne_eqb (code fault) 0 (some-code fault))
known-else (Err own) (Err fault) h =
    rw (ne_eqb (code fault) 0 (some-code fault), ne_eqb (code own) 0 (some-code own), le-ltb (code own) 21 (h own refl))

-- a number that is neither 38 nor 39 is the one that was known
pub known-kept :
    (rs : List Quota) (x cost n m : ℕ) → m ≡ charge_number rs x cost n → m ≢ 38 → m ≢ 39 → n ≡ charge_number rs x cost n
unfolding charge_number
known-kept rs x cost n m e h k =
    go (comes_first n) (not (is_listed rs x)) (ltb (quota_of rs x).allowance ((quota_of rs x).spent + cost)) (λ z. h (e ∙ z)) (λ z. k (e ∙ z))
  where
    go :
        (a b d : Bool) → cond a n (refuse b 38 (refuse d 39 n)) ≢ 38 → cond a n (refuse b 38 (refuse d 39 n)) ≢ 39 →
        n ≡ cond a n (refuse b 38 (refuse d 39 n))
    go true b d h k = refl
    go false true d h k = absurd (h refl)
    go false false true h k = absurd (k refl)
    go false false false h k = refl
