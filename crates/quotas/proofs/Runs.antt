-- Runs whose every call takes the list that the last one returned.
-- Assumes nothing.
use mathlib.Core.Path.{◌≡◌, refl, sym, ap, subst, ◌∙◌}
use mathlib.Core.Bool.{true, false, cond, true≢false}
use mathlib.Core.Logic.{◌⊎◌, inl, inr}
use mathlib.Core.List.{List, [], ◌∷◌, ◌++◌}
use Prim.Native.Nat.{ℕ, suc, ◌+◌, ◌≤◌}
use native.Mathlib.Omega.{arith}
use lib.Dec.{eqb, ltb}
use lib.ListN.{length}
use borrow.Author.Tests.{eqb-true, eq-eqb}
use Rattle.laws.proofs.Cases.{by-test, split}
use Rattle.pools.specs.declared.Fortuna.{Fortuna}
use Rattle.pools.specs.Events.{gain}
use Rattle.pools.specs.Calls.{Call, event, request, update, write, draw, shuffle, call_found, Outcome, outcome}
use Rattle.quotas.specs.declared.Quota.{Quota}
use Rattle.quotas.specs.Records.{quota_of, event_quotas_number, charged}
use Rattle.quotas.specs.Entries.{Entry, within, taking, list_number, entry_number, entry_step, charged_for, quotas_left}
use Rattle.quotas.specs.Runs.{Taken, taken_by, returned, handed_on, bytes_of, accepted_bytes, NoReseed, left_of, WithinAllowance}
use Rattle.pools.proofs.Chains.{both-passed}
use Rattle.quotas.proofs.Entries.{entry-passed}
use Rattle.quotas.proofs.Lists.{Passes, event-passes, charged-own, charged-other, charged-allowance, cleared-own}

-- an accepted event is one that the list lets pass
step-accepted : (s : Fortuna) (e : Entry) → (entry_step s e).number ≡ 0 → entry_number s e ≡ 0
unfolding entry_step outcome
step-accepted s e h = (both-passed (entry_number s e) (cond (call_found s e.call) 0 33) h).0

event-number : (rs : List Quota) (source pool : ℕ) (content : List ℕ)
    → list_number (within rs) (event source pool content) ≡ event_quotas_number rs source (gain (length content))
unfolding list_number
event-number rs source pool content = refl

pub event-allowed : (s : Fortuna) (rs : List Quota) (source pool : ℕ) (content : List ℕ)
    → (entry_step s (taking (within rs) (event source pool content))).number ≡ 0 → Passes rs source (gain (length content))
event-allowed s rs source pool content e =
    let number = entry-passed s (taking (within rs) (event source pool content)) (step-accepted s _ e) in
    event-passes rs source (gain (length content)) (sym (event-number rs source pool content) ∙ number.1.0)

-- ---- the list returned where no pool reseed was made

module _ (c : Call) (rs : List Quota) (o : Outcome Fortuna) (quiet : o.effect.emptied ≡ 0) where
  left-accepted : o.number ≡ 0 → quotas_left c rs o ≡ charged_for c rs
  unfolding quotas_left
  left-accepted e = rw (quiet, e)

  left-refused : eqb o.number 0 ≡ false → quotas_left c rs o ≡ rs
  unfolding quotas_left
  left-refused e = rw (quiet, e)

  left-unless : charged_for c rs ≡ rs → quotas_left c rs o ≡ rs
  unfolding quotas_left
  left-unless e = rw (quiet, e) (split (λ (l : List Quota). l ≡ rs) (eqb o.number 0) (λ _. refl) (λ _. refl))

module _ (s : Fortuna) (rs : List Quota) (c : Call) (quiet : (taken_by s rs c).outcome.effect.emptied ≡ 0) where
  pub returned-accepted : (taken_by s rs c).outcome.number ≡ 0 → returned (taken_by s rs c) ≡ charged_for c rs
  unfolding returned taken_by
  returned-accepted e = left-accepted c rs _ quiet e

  pub returned-refused : eqb (taken_by s rs c).outcome.number 0 ≡ false → returned (taken_by s rs c) ≡ rs
  unfolding returned taken_by
  returned-refused e = left-refused c rs _ quiet e

  pub returned-unless : charged_for c rs ≡ rs → returned (taken_by s rs c) ≡ rs
  unfolding returned taken_by
  returned-unless e = left-unless c rs _ quiet e

-- an event that is not charged leaves the list, and one that is was let pass
pub taken-allowed : (s : Fortuna) (rs : List Quota) (source pool : ℕ) (content : List ℕ)
    → (taken_by s rs (event source pool content)).outcome.number ≡ 0 → Passes rs source (gain (length content))
unfolding taken_by
taken-allowed s rs source pool content e = event-allowed s rs source pool content e

pub charged-event : (source pool : ℕ) (content : List ℕ) (rs : List Quota)
    → charged_for (event source pool content) rs ≡ charged rs source (gain (length content))
unfolding charged_for
charged-event source pool content rs = refl

-- ---- the run, call by call

nil-cons : (t : Taken) (ts : List Taken) → [] ≡ t ∷ ts → ⊥
nil-cons t ts e = let k : 0 ≡ suc (length ts) = ap length e in absurd (omega arith)

head_of : Taken → List Taken → Taken
head_of d [] = d
head_of d (t ∷ ts) = t

tail_of : List Taken → List Taken
tail_of [] = []
tail_of (t ∷ ts) = ts

cons_head : (t u : Taken) (ts us : List Taken) → t ∷ ts ≡ u ∷ us → t ≡ u
unfolding head_of
cons_head t u ts us e = ap (head_of t) e

cons_tail : (t u : Taken) (ts us : List Taken) → t ∷ ts ≡ u ∷ us → ts ≡ us
unfolding tail_of
cons_tail t u ts us e = ap tail_of e

pub handed-none : (s : Fortuna) (rs : List Quota) → handed_on s rs [] ≡ []
unfolding handed_on
handed-none s rs = refl

pub handed-more : (s : Fortuna) (rs : List Quota) (c : Call) (cs : List Call)
    → handed_on s rs (c ∷ cs) ≡ taken_by s rs c ∷ handed_on (taken_by s rs c).outcome.effect.next (returned (taken_by s rs c)) cs
unfolding handed_on
handed-more s rs c cs = refl

pub reseed-parts : (t : Taken) (ts : List Taken) → NoReseed (t ∷ ts) → (t.outcome.effect.emptied ≡ 0) × NoReseed ts
unfolding NoReseed
reseed-parts t ts q = q

-- ---- allowances stay

module _ (x : ℕ) where
  for-allowance : (c : Call) (rs : List Quota) → (quota_of (charged_for c rs) x).allowance ≡ (quota_of rs x).allowance
  unfolding charged_for
  for-allowance (event source pool content) rs = charged-allowance rs source (gain (length content)) x
  for-allowance (request clock buffer) rs = refl
  for-allowance (update clock seed) rs = refl
  for-allowance (write clock seed) rs = refl
  for-allowance (draw clock n d) rs = refl
  for-allowance (shuffle clock list) rs = refl

  left-allowance : (c : Call) (rs : List Quota) (o : Outcome Fortuna) → (quota_of (quotas_left c rs o) x).allowance ≡ (quota_of rs x).allowance
  unfolding quotas_left
  left-allowance c rs o =
      split (λ (l : List Quota). (quota_of l x).allowance ≡ (quota_of rs x).allowance) (ltb 0 o.effect.emptied)
      (λ _. ap (λ (q : Quota). q.allowance) (cleared-own rs x))
      (λ _. split (λ (l : List Quota). (quota_of l x).allowance ≡ (quota_of rs x).allowance) (eqb o.number 0) (λ _. for-allowance c rs) (λ _. refl))

  returned-allowance : (s : Fortuna) (rs : List Quota) (c : Call) → (quota_of (returned (taken_by s rs c)) x).allowance ≡ (quota_of rs x).allowance
  unfolding returned taken_by
  returned-allowance s rs c = left-allowance c rs _

  -- ---- a stretch without a pool reseed

  -- what the source has spent and the bytes that it still puts in are within its allowance, unless there are none
  Within : List Quota → ℕ → Type 0
  Within rs n = (n ≡ 0) ⊎ ((quota_of rs x).spent + n ≤ (quota_of rs x).allowance)

  within_same : (rs us : List Quota) (n m : ℕ) → us ≡ rs → m ≡ 0 → Within us n → Within rs (m + n)
  unfolding Within
  within_same rs us n m e z w = let k : m + n ≡ n = omega arith in rw (k, ← e) w

  within-record : (rs us : List Quota) (n m : ℕ) → quota_of us x ≡ quota_of rs x → m ≡ 0 → Within us n → Within rs (m + n)
  unfolding Within
  within-record rs us n m e z w = let k : m + n ≡ n = omega arith in rw (k, ← e) w

  within-charged : (rs : List Quota) (n cost : ℕ) → Passes rs x cost → Within (charged rs x cost) n → Within rs (cost + n)
  unfolding Within
  within-charged rs n cost p (inl z) = inr (let w = p.within in omega arith)
  within-charged rs n cost p (inr h) =
      let k : (quota_of rs x).spent + cost + n ≤ (quota_of rs x).allowance =
      subst (λ (q : Quota). q.spent + n ≤ q.allowance) (charged-own rs x cost p.listed) h in
      inr (omega arith)

  bytes-own : (source pool : ℕ) (content : List ℕ) → eqb source x ≡ true → bytes_of x (event source pool content) ≡ gain (length content)
  unfolding bytes_of
  bytes-own source pool content e = rw e

  bytes-other : (source pool : ℕ) (content : List ℕ) → eqb source x ≡ false → bytes_of x (event source pool content) ≡ 0
  unfolding bytes_of
  bytes-other source pool content e = rw e

  -- the bytes that a call puts in, where it is answered with a number
  abbrev puts : Call → ℕ → ℕ
  puts c n = cond (eqb n 0) (bytes_of x c) 0

  module _ (s : Fortuna) (rs : List Quota) where
    -- a call that is no event
    plain-within : (c : Call) (n : ℕ) → charged_for c rs ≡ rs → bytes_of x c ≡ 0 → (taken_by s rs c).outcome.effect.emptied ≡ 0
        → Within (returned (taken_by s rs c)) n → Within rs (puts c (taken_by s rs c).outcome.number + n)
    plain-within c n f z q w =
        within_same rs (returned (taken_by s rs c)) n (puts c (taken_by s rs c).outcome.number) (returned-unless s rs c q f)
        (rw z (split (λ (k : ℕ). k ≡ 0) (eqb (taken_by s rs c).outcome.number 0) (λ _. refl) (λ _. refl))) w

    -- an event: of another source, or of x, accepted or not
    event-within :
        (source pool : ℕ) (content : List ℕ) (n : ℕ) →
        let t = taken_by s rs (event source pool content) in
        t.outcome.effect.emptied ≡ 0 → Within (returned t) n → Within rs (puts (event source pool content) t.outcome.number + n)
    event-within source pool content n q w =
        let c = event source pool content in
        let t = taken_by s rs c in
        by-test (eqb t.outcome.number 0) _
        (λ a.
        let e = eqb-true t.outcome.number 0 a in
        let p = taken-allowed s rs source pool content e in
        let l : returned t ≡ charged rs source (gain (length content)) = returned-accepted s rs c q e ∙ charged-event source pool content rs in
        let v : Within (charged rs source (gain (length content))) n = subst (λ (us : List Quota). Within us n) l w in
        by-test (eqb source x) _
        (λ h.
        let y = eqb-true source x h in
        rw (a, bytes-own source pool content h)
        (within-charged rs n (gain (length content)) (subst (λ k. Passes rs k (gain (length content))) y p)
        (subst (λ k. Within (charged rs k (gain (length content))) n) y v)))
        (λ h.
        within-record rs (charged rs source (gain (length content))) n _
        (charged-other rs source (gain (length content)) x (λ y. true≢false (sym (eq-eqb source x y) ∙ h)))
        (rw (a, bytes-other source pool content h)) v))
        (λ a.
        within_same rs (returned t) n _ (returned-refused s rs c q a) (rw a) w)

    call-within : (c : Call) (n : ℕ) → (taken_by s rs c).outcome.effect.emptied ≡ 0 → Within (returned (taken_by s rs c)) n
        → Within rs (puts c (taken_by s rs c).outcome.number + n)
    call-within (event source pool content) n q w = event-within source pool content n q w
    call-within (request clock buffer) n q w = plain-within (request clock buffer) n (unfold charged_for in refl) (unfold bytes_of in refl) q w
    call-within (update clock seed) n q w = plain-within (update clock seed) n (unfold charged_for in refl) (unfold bytes_of in refl) q w
    call-within (write clock seed) n q w = plain-within (write clock seed) n (unfold charged_for in refl) (unfold bytes_of in refl) q w
    call-within (draw clock m d) n q w = plain-within (draw clock m d) n (unfold charged_for in refl) (unfold bytes_of in refl) q w
    call-within (shuffle clock list) n q w = plain-within (shuffle clock list) n (unfold charged_for in refl) (unfold bytes_of in refl) q w

  accepted-more : (t : Taken) (ts : List Taken) → accepted_bytes x (t ∷ ts) ≡ puts t.call t.outcome.number + accepted_bytes x ts
  unfolding accepted_bytes
  accepted-more t ts = refl

  taken-call : (s : Fortuna) (rs : List Quota) (c : Call) → (taken_by s rs c).call ≡ c
  unfolding taken_by
  taken-call s rs c = refl

  -- the state and the list after a call
  stretch-within :
      (stretch later : List Taken) (s : Fortuna) (rs : List Quota) (calls : List Call) →
      handed_on s rs calls ≡ stretch ++ later → NoReseed stretch → Within rs (accepted_bytes x stretch)
  stretch-within [] later s rs calls e q = unfold Within accepted_bytes in inl refl
  stretch-within (t ∷ ts) later s rs [] e q = absurd (nil-cons t (ts ++ later) (sym (handed-none s rs) ∙ e))
  stretch-within (t ∷ ts) later s rs (c ∷ calls) e q =
      let m = sym (handed-more s rs c calls) ∙ e in
      let h : taken_by s rs c ≡ t = cons_head (taken_by s rs c) t _ (ts ++ later) m in
      let k = reseed-parts t ts q in
      let ih = stretch-within ts later (taken_by s rs c).outcome.effect.next (returned (taken_by s rs c)) calls
      (cons_tail (taken_by s rs c) t _ (ts ++ later) m) k.1 in
      rw (accepted-more t ts)
      (subst (λ (u : Taken). Within rs (puts u.call u.outcome.number + accepted_bytes x ts)) h
      (rw (taken-call s rs c) (call-within s rs c (accepted_bytes x ts) (subst (λ (u : Taken). u.outcome.effect.emptied ≡ 0) (sym h) k.0) ih)))

  within-most : (rs : List Quota) (n : ℕ) → Within rs n → n ≤ (quota_of rs x).allowance
  unfolding Within
  within-most rs n (inl z) = omega arith
  within-most rs n (inr h) = omega arith

  within-left : (rs : List Quota) (n : ℕ) → Within rs n → n ≤ left_of rs x
  unfolding Within left_of
  within-left rs n (inl z) = omega arith
  within-left rs n (inr h) = omega arith

  -- any stretch of the run
  run-within :
      (before stretch later : List Taken) (s : Fortuna) (rs : List Quota) (calls : List Call) →
      handed_on s rs calls ≡ before ++ (stretch ++ later) → NoReseed stretch → accepted_bytes x stretch ≤ (quota_of rs x).allowance
  run-within [] stretch later s rs calls e q = within-most rs _ (stretch-within stretch later s rs calls e q)
  run-within (t ∷ ts) stretch later s rs [] e q = absurd (nil-cons t (ts ++ (stretch ++ later)) (sym (handed-none s rs) ∙ e))
  run-within (t ∷ ts) stretch later s rs (c ∷ calls) e q =
      let m = sym (handed-more s rs c calls) ∙ e in
      let ih = run-within ts stretch later (taken_by s rs c).outcome.effect.next (returned (taken_by s rs c)) calls
      (cons_tail (taken_by s rs c) t _ (ts ++ (stretch ++ later)) m) q in
      subst (λ k. accepted_bytes x stretch ≤ k) (returned-allowance s rs c) ih

  -- from its start
  run-first :
      (stretch later : List Taken) (s : Fortuna) (rs : List Quota) (calls : List Call) →
      handed_on s rs calls ≡ stretch ++ later → NoReseed stretch → accepted_bytes x stretch ≤ left_of rs x
  run-first stretch later s rs calls e q = within-left rs _ (stretch-within stretch later s rs calls e q)

pub within-allowance : (s : Fortuna) (rs : List Quota) (calls : List Call) (x : ℕ) → WithinAllowance s rs calls x
within-allowance s rs calls x =
    record {
      between = λ before stretch later e q. run-within x before stretch later s rs calls e q;
      first = λ stretch later e q. run-first x stretch later s rs calls e q;
    }
