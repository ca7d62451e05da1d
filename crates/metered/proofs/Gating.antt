-- What the gate of a list gives, and a call of either scheduler that is no event behind it: it has the input number i and the state number n.
-- Assumes nothing.
use mathlib.Core.Path.{◌≡◌, refl, sym, ap, ◌∙◌}
use mathlib.Core.Bool.{Bool, true, false, cond}
use mathlib.Core.Logic.{◌≢◌}
use mathlib.Core.List.{List}
use Prim.Native.Nat.{ℕ}
use native.Mathlib.Omega.{arith}
use lib.Dec.{eqb}
use borrow.Author.Tests.{eqb-true, eqb-false, ne_eqb}
use Rattle.std.proofs.Common.{Result, Ok, Err}
use Rattle.std.specs.Result.{is_ok, result_and}
use Rattle.laws.proofs.Cases.{by-test}
use Rattle.pools.specs.declared.refusal.Refusal.{Refusal}
use Rattle.pools.specs.Refusals.{and_then}
use Rattle.pools.specs.Effects.{Effect, unchanged}
use Rattle.pools.specs.Calls.{Outcome, outcome}
use Rattle.pools.specs.Promises.{code, code-above-0, number}
use Rattle.pools.proofs.Chains.{then-first, then-second, both-passed}
use Rattle.pools.proofs.Outcomes.{outcome-refused}
use Rattle.quotas.specs.declared.Quota.{Quota}
use Rattle.quotas.specs.Records.{malformed_quotas, quotas_number}
use Rattle.metered.specs.Metering.{gate_number}

-- ---- the gate's answer

-- the check gives 0 or 37
fault-is : (rs : List Quota) → quotas_number rs ≢ 0 → quotas_number rs ≡ 37
unfolding quotas_number
fault-is rs = go (malformed_quotas rs)
  where
    go : (t : Bool) → cond {A = ℕ} t 37 0 ≢ 0 → cond {A = ℕ} t 37 0 ≡ 37
    go true h = refl
    go false h = absurd (h refl)

-- a refusal's number is not 0
pub some-code : (refusal : Refusal) → code refusal ≢ 0
some-code refusal e = let h = code-above-0 refusal in omega (arith, h, e)

-- the number of an answer by the code's test for a call that is done
pub done-number : (answer : Result Unit Refusal) → true ≡ is_ok answer → number answer ≡ 0
done-number (Ok x) e = refl
done-number (Err refusal) e = cc

pub refused-number : (answer : Result Unit Refusal) → false ≡ is_ok answer → number answer ≢ 0
refused-number (Ok x) e = cc
refused-number (Err refusal) e = some-code refusal

-- by a list without a fault
pub gate-passed : (checked : Result Unit Refusal) (fault i : ℕ) → true ≡ is_ok checked → number checked ≡ fault → number checked ≡ gate_number fault i
unfolding gate_number
gate-passed (Ok x) fault i t e = rw (← e)
gate-passed (Err refusal) fault i t e = cc

-- and by one with a fault
by-input :
    (refusal : Refusal) (input : Result Unit Refusal) → code refusal ≡ 37 →
    number {T = Unit} (result_and input (Err refusal)) ≡ and_then (number input) 37
by-input refusal (Ok x) h = h ∙ sym (then-second 0 37 refl)
by-input refusal (Err own) h = sym (then-first (code own) 37 (some-code own))

pub gate-shut :
    (checked input : Result Unit Refusal) (rs : List Quota) → false ≡ is_ok checked → number checked ≡ quotas_number rs →
    number (result_and input checked) ≡ gate_number (quotas_number rs) (number input)
unfolding gate_number
gate-shut (Ok x) input rs t e = cc
gate-shut (Err refusal) input rs t e =
    let some : quotas_number rs ≢ 0 = λ z. some-code refusal (e ∙ z) in
    rw (ne_eqb (quotas_number rs) 0 some) (by-input refusal input (e ∙ fault-is rs some))

-- ---- the call with its list, behind the gate

module _ {S : Type 0} (rs : List Quota) (i n : ℕ) (found : Bool) (value : ℕ) (buffer : List ℕ) (s : S) (done : Effect S) where
  abbrev listed : Outcome S
  listed = outcome (and_then i (and_then (quotas_number rs) n)) found value buffer s done

  -- where the gate lets it pass, it is the call without a list
  pub passed-is : 0 ≡ gate_number (quotas_number rs) i → outcome (and_then i n) found value buffer s done ≡ listed
  unfolding gate_number
  passed-is h =
      by-test (eqb (quotas_number rs) 0) _
      (λ t. ap (λ (k : ℕ). outcome (and_then i k) found value buffer s done) (sym (then-second (quotas_number rs) n (eqb-true _ 0 t))))
      (λ t.
      let e : 0 ≡ and_then i 37 = rw t at h in
      let k : ◌≡◌ {A = ℕ} 37 0 = (both-passed i 37 (sym e)).1 in
      absurd (omega (arith, k)))

  -- where it does not, nothing is done
  pub refused-is : (k : ℕ) → k ≢ 0 → k ≡ gate_number (quotas_number rs) i → listed ≡ record { number = k; value = 0; effect = unchanged buffer s }
  unfolding gate_number
  refused-is k some h =
      by-test (eqb (quotas_number rs) 0) _
      (λ t. absurd (some (h ∙ rw t)))
      (λ t.
      let fault : quotas_number rs ≡ 37 = fault-is rs (eqb-false _ 0 t) in
      let number_is : and_then i (and_then (quotas_number rs) n) ≡ k =
      ap (and_then i) (then-first (quotas_number rs) n (eqb-false _ 0 t) ∙ fault) ∙ sym (h ∙ rw t) in
      rw number_is (outcome-refused k found value buffer s done some))
