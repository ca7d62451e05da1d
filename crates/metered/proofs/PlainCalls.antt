-- A call of the station that is no event, behind the gate of its list, with the list cleared after it: what the call with its list promises.
-- Assumes nothing.
use mathlib.Core.Path.{◌≡◌, refl, sym, ap, subst, ◌∙◌}
use mathlib.Core.Logic.{◌⊎◌, inl, inr}
use mathlib.Core.List.{List}
use Prim.Native.Nat.{ℕ}
use lib.Dec.{eqb, ltb}
use mathlib.Core.Bool.{cond}
use Rattle.std.proofs.Common.{Result, Err}
use Rattle.laws.proofs.Cases.{split}
use Rattle.pools.specs.declared.Fortuna.{Fortuna}
use Rattle.pools.specs.declared.Outcome as Method
use Rattle.pools.specs.declared.refusal.Refusal.{Refusal}
use Rattle.pools.specs.Effects.{unchanged}
use Rattle.pools.specs.Calls.{Call, request, update, write, draw, shuffle, Outcome, step}
use Rattle.pools.specs.Calls.{input_buffer, input_number, state_number, call_found, call_value, call_effect}
use Rattle.pools.specs.Promises.{code, number, GivesBytes, GivesValue}
use Rattle.pools.proofs.Chains.{call-chains}
use Rattle.draws.specs.declared.draw.Draw.{Draw}
use Rattle.quotas.specs.declared.Quota.{Quota}
use Rattle.quotas.specs.Records.{quotas_number}
use Rattle.quotas.specs.Charges.{cleared_after}
use Rattle.quotas.specs.Entries.{within, taking, list_number, entry_number, entry_step, charged_for, quotas_left}
use Rattle.quotas.specs.Left.{left_by}
use Rattle.metered.specs.Metering.{gate_number, MetersBytes, MetersValue}
use Rattle.metered.proofs.Gating.{some-code, passed-is, refused-is}

-- ---- calls that are no events: the list gives them 37 alone, and they charge nothing

pub record Plain (c : Call) : Type 0 where
  pub number : (rs : List Quota) → list_number (within rs) c ≡ quotas_number rs
  pub free : (rs : List Quota) → charged_for c rs ≡ rs

pub request-plain : (clock : ℕ) (buffer : List ℕ) → Plain (request clock buffer)
unfolding list_number charged_for
request-plain clock buffer = record { number = λ rs. refl; free = λ rs. refl }

pub update-plain : (clock : ℕ) (seed : List ℕ) → Plain (update clock seed)
unfolding list_number charged_for
update-plain clock seed = record { number = λ rs. refl; free = λ rs. refl }

pub write-plain : (clock : ℕ) (seed : List ℕ) → Plain (write clock seed)
unfolding list_number charged_for
write-plain clock seed = record { number = λ rs. refl; free = λ rs. refl }

pub shuffle-plain : (clock : ℕ) (list : List ℕ) → Plain (shuffle clock list)
unfolding list_number charged_for
shuffle-plain clock list = record { number = λ rs. refl; free = λ rs. refl }

pub draw-plain : (clock n d : ℕ) → Plain (draw clock n d)
unfolding list_number charged_for
draw-plain clock n d = record { number = λ rs. refl; free = λ rs. refl }

module _ (s : Fortuna) (rs : List Quota) (c : Call) (p : Plain c) where
  abbrev E : Outcome Fortuna
  E = entry_step s (taking (within rs) c)

  -- the gate open, and shut
  pub passed : 0 ≡ gate_number (quotas_number rs) (input_number c) → step s c ≡ E
  unfolding step entry_step entry_number
  passed h =
      rw (call-chains s c, p.number rs)
      (passed-is rs (input_number c) (state_number s c) (call_found s c) (call_value s c) (input_buffer c) s (call_effect s c) h)

  pub refused : (k : ℕ) → (k ≡ 0 → ⊥) → k ≡ gate_number (quotas_number rs) (input_number c)
      → E ≡ record { number = k; value = 0; effect = unchanged (input_buffer c) s }
  unfolding entry_step entry_number
  refused k some h =
      rw (p.number rs)
      (refused-is rs (input_number c) (state_number s c) (call_found s c) (call_value s c) (input_buffer c) s (call_effect s c) k some h)

  -- its list is cleared after a pool reseed
  left-plain : left_by s rs c ≡ cleared_after E.effect.emptied rs
  unfolding left_by quotas_left cleared_after
  left-plain =
      rw (p.free rs) (ap (λ (l : List Quota). cond (ltb 0 E.effect.emptied) (cleared_after 1 rs) l)
      (split (λ (l : List Quota). l ≡ rs) (eqb E.number 0) (λ _. refl) (λ _. refl)))

  pub left_is : (emptied : ℕ) (zs : List Quota) → emptied ≡ E.effect.emptied → zs ≡ cleared_after emptied rs → zs ≡ left_by s rs c
  left_is emptied zs k l = l ∙ ap (λ (m : ℕ). cleared_after m rs) k ∙ sym left-plain

  -- what a call behind the gate gives, i its input number: it passed, or it is refused
  abbrev pub Passed : ℕ → Method.Outcome Fortuna → List ℕ → Type 0
  Passed i r out = GivesBytes (step s c) r out × (0 ≡ gate_number (quotas_number rs) i)

  abbrev pub Refused : ℕ → Method.Outcome Fortuna → List ℕ → Type 0
  Refused i r out =
      (refusal : Refusal) × (code refusal ≡ gate_number (quotas_number rs) i)
      × ((r.answer ≡ Err refusal) × (r.emptied ≡ 0) × (r.next ≡ s)) × (out ≡ input_buffer c)

  gives-bytes : (r : Method.Outcome Fortuna) (out : List ℕ) → Passed (input_number c) r out ⊎ Refused (input_number c) r out → GivesBytes E r out
  unfolding unchanged
  gives-bytes r out (inl (g, h)) = subst (λ (o : Outcome Fortuna). GivesBytes o r out) (passed h) g
  gives-bytes r out (inr (refusal, h, g, same)) = rw (refused (code refusal) (some-code refusal) h) ((ap number g.0, g.1, g.2), same)

  -- with its list cleared it is what the call with its list promises
  pub meters-bytes :
      (r : Method.Outcome Fortuna) (zs : List Quota) (out : List ℕ) (i : ℕ) → i ≡ input_number c → Passed i r out ⊎ Refused i r out →
      zs ≡ cleared_after r.emptied rs → MetersBytes s rs c r zs out
  meters-bytes r zs out i is h l =
      let gives = gives-bytes r out (subst (λ (n : ℕ). Passed n r out ⊎ Refused n r out) is h) in
      (gives, left_is r.emptied zs gives.0.1 l)

  -- a draw that passed, and one that is refused
  pub value-passed :
      (answer : Result ℕ Refusal) (emptied : ℕ) (next : Fortuna) → GivesValue (step s c) answer emptied next →
      0 ≡ gate_number (quotas_number rs) (input_number c) → GivesValue E answer emptied next
  value-passed answer emptied next g h = subst (λ (o : Outcome Fortuna). GivesValue o answer emptied next) (passed h) g

  pub value-refused :
      (refusal : Refusal) → code refusal ≡ gate_number (quotas_number rs) (input_number c) → GivesValue E (Err refusal) 0 s
  unfolding unchanged
  value-refused refusal h = rw (refused (code refusal) (some-code refusal) h) (refl, refl, refl, refl)

  pub meters-value :
      (r : Draw) (zs : List Quota) → GivesValue E r.answer r.emptied r.next → zs ≡ cleared_after r.emptied rs → MetersValue s rs c r zs
  meters-value r zs gives l = (gives, left_is r.emptied zs gives.1 l)
