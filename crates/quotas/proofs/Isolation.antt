-- Events of other sources never change which of a source's events are refused by allowance.
-- Assumes nothing.
use mathlib.Core.Path.{◌≡◌, refl, sym, ap, ap₂, subst, ◌∙◌}
use mathlib.Core.Bool.{Bool, true, false, true≢false}
use mathlib.Core.List.{List, ◌∷◌}
use Prim.Native.Nat.{ℕ, zero, suc}
use lib.Dec.{eqb, eqb-suc-zero}
use lib.ListN.{length}
use borrow.Author.Tests.{eqb-true, eq-eqb, ne_eqb}
use Rattle.laws.specs.Refusals.{refuse}
use Rattle.laws.proofs.Cases.{by-test}
use Rattle.pools.specs.declared.Fortuna.{Fortuna}
use Rattle.pools.specs.Events.{gain}
use Rattle.pools.specs.Pool.{full}
use Rattle.pools.specs.State.{pool_at, malformed}
use Rattle.pools.specs.Refusals.{and_then, event_input, event_state}
use Rattle.pools.specs.Calls.{Call, event, request, update, write, draw, shuffle, input_number, state_number, call_found, outcome}
use Rattle.quotas.specs.declared.Quota.{Quota}
use Rattle.quotas.specs.Records.{quota_of, is_listed, malformed_quotas, event_quotas_number, charged_by, charged}
use Rattle.quotas.specs.Entries.{list_number, entry_number, entry_step, charged_for}
use Rattle.quotas.specs.Runs.{Taken, taken_by, returned, handed_on, NoReseed, Added, same, kept, added, is_event_of, answers_of, NoneByState, Isolation}
use Rattle.pools.proofs.Chains.{then-nothing}
use Rattle.quotas.proofs.Lists.{Passes, charged-own, charged-other, charged-listed, charged-formed}
use Rattle.quotas.proofs.Runs.{returned-accepted, returned-refused, returned-unless, taken-allowed, charged-event, handed-none, handed-more, reseed-parts}

module _ (x : ℕ) where
  -- two lists that treat the events of x alike
  record Alike (rs us : List Quota) : Type 0 where
    formed : malformed_quotas rs ≡ malformed_quotas us
    listed : is_listed rs x ≡ is_listed us x
    quota : quota_of rs x ≡ quota_of us x

  alike_refl : (rs : List Quota) → Alike rs rs
  alike_refl rs = record { formed = refl; listed = refl; quota = refl }

  alike-sym : (rs us : List Quota) → Alike rs us → Alike us rs
  alike-sym rs us a = record { formed = sym a.formed; listed = sym a.listed; quota = sym a.quota }

  alike-trans : (rs us vs : List Quota) → Alike rs us → Alike us vs → Alike rs vs
  alike-trans rs us vs a b = record { formed = a.formed ∙ b.formed; listed = a.listed ∙ b.listed; quota = a.quota ∙ b.quota }

  alike_same : (rs us : List Quota) → us ≡ rs → Alike rs us
  alike_same rs us e = rw e (alike_refl rs)

  -- ---- a call that is no event of x

  other-charged : (rs : List Quota) (y cost : ℕ) → (y ≡ x → ⊥) → Passes rs y cost → Alike rs (charged rs y cost)
  other-charged rs y cost n p =
      record {
        formed = p.formed ∙ sym (charged-formed rs y cost p);
        listed = sym (charged-listed rs y cost x);
        quota = sym (charged-other rs y cost x n);
      }

  other-event :
      (s : Fortuna) (rs : List Quota) (y pool : ℕ) (content : List ℕ) → (y ≡ x → ⊥) →
      (taken_by s rs (event y pool content)).outcome.effect.emptied ≡ 0 → Alike rs (returned (taken_by s rs (event y pool content)))
  other-event s rs y pool content n q =
      by-test (eqb (taken_by s rs (event y pool content)).outcome.number 0) _
      (λ a.
      let e = eqb-true _ 0 a in
      subst (Alike rs) (sym (returned-accepted s rs (event y pool content) q e ∙ charged-event y pool content rs))
      (other-charged rs y (gain (length content)) n (taken-allowed s rs y pool content e)))
      (λ a. alike_same rs _ (returned-refused s rs (event y pool content) q a))

  not_own : (y pool : ℕ) (content : List ℕ) → is_event_of x (event y pool content) ≡ false → y ≡ x → ⊥
  unfolding is_event_of
  not_own y pool content h e = true≢false (sym (eq-eqb y x e) ∙ h)

  plain-call : (s : Fortuna) (rs : List Quota) (c : Call) → charged_for c rs ≡ rs → (taken_by s rs c).outcome.effect.emptied ≡ 0
      → Alike rs (returned (taken_by s rs c))
  plain-call s rs c f q = alike_same rs _ (returned-unless s rs c q f)

  other-call : (s : Fortuna) (rs : List Quota) (c : Call) → is_event_of x c ≡ false → (taken_by s rs c).outcome.effect.emptied ≡ 0
      → Alike rs (returned (taken_by s rs c))
  other-call s rs (event y pool content) h q = other-event s rs y pool content (not_own y pool content h) q
  other-call s rs (request clock buffer) h q = plain-call s rs (request clock buffer) (unfold charged_for in refl) q
  other-call s rs (update clock seed) h q = plain-call s rs (update clock seed) (unfold charged_for in refl) q
  other-call s rs (write clock seed) h q = plain-call s rs (write clock seed) (unfold charged_for in refl) q
  other-call s rs (draw clock n d) h q = plain-call s rs (draw clock n d) (unfold charged_for in refl) q
  other-call s rs (shuffle clock list) h q = plain-call s rs (shuffle clock list) (unfold charged_for in refl) q

  -- ---- an event of x

  -- the state's number of an event
  state-number : (t u : Bool) → (refuse t 21 (refuse u 22 0) ≡ 21 → ⊥) → (refuse t 21 (refuse u 22 0) ≡ 22 → ⊥) → refuse t 21 (refuse u 22 0) ≡ 0
  state-number true u h k = absurd (h refl)
  state-number false true h k = absurd (k refl)
  state-number false false h k = refl

  -- a number by input, by list and by state
  abbrev numbered : ℕ → ℕ → Bool → Bool → ℕ
  numbered i l t u = and_then i (and_then l (refuse t 21 (refuse u 22 0)))

  settled : (i l : ℕ) (t u t' u' : Bool) → (numbered i l t u ≡ 21 → ⊥) × (numbered i l t u ≡ 22 → ⊥)
      → (numbered i l t' u' ≡ 21 → ⊥) × (numbered i l t' u' ≡ 22 → ⊥) → numbered i l t u ≡ numbered i l t' u'
  unfolding and_then
  settled zero zero t u t' u' h k = state-number t u h.0 h.1 ∙ sym (state-number t' u' k.0 k.1)
  settled zero (suc l) t u t' u' h k = rw (eqb-suc-zero l)
  settled (suc i) l t u t' u' h k = rw (eqb-suc-zero i)

  module _ (pool : ℕ) (content : List ℕ) where
    abbrev own : Call
    own = event x pool content

    number_is :
        (s : Fortuna) (rs : List Quota) →
        (taken_by s rs own).outcome.number
        ≡ numbered (event_input x pool (length content)) (event_quotas_number rs x (gain (length content))) (malformed s)
        (full (pool_at s pool).length (gain (length content)))
    unfolding taken_by entry_step outcome entry_number input_number list_number state_number call_found event_state
    number_is s rs = then-nothing _

    list-alike : (rs us : List Quota) → Alike rs us → event_quotas_number rs x (gain (length content)) ≡ event_quotas_number us x (gain (length content))
    unfolding event_quotas_number
    list-alike rs us a = rw (a.formed, a.listed, a.quota)

    abbrev ByState : ℕ → Type 0
    ByState n = (n ≡ 21 → ⊥) × (n ≡ 22 → ⊥)

    same_number :
        (s t : Fortuna) (rs us : List Quota) → Alike rs us → ByState (taken_by s rs own).outcome.number → ByState (taken_by t us own).outcome.number →
        (taken_by s rs own).outcome.number ≡ (taken_by t us own).outcome.number
    same_number s t rs us a h k =
        number_is s rs
        ∙ settled (event_input x pool (length content)) (event_quotas_number rs x (gain (length content)))
        (malformed s) (full (pool_at s pool).length (gain (length content))) (malformed t) (full (pool_at t pool).length (gain (length content)))
        (subst ByState (number_is s rs) h) (subst ByState there k)
        ∙ sym there
      where
        there :
            (taken_by t us own).outcome.number
            ≡ numbered (event_input x pool (length content)) (event_quotas_number rs x (gain (length content))) (malformed t)
            (full (pool_at t pool).length (gain (length content)))
        there = number_is t us
            ∙ ap (λ (l : ℕ). numbered (event_input x pool (length content)) l (malformed t) (full (pool_at t pool).length (gain (length content))))
            (sym (list-alike rs us a))

    own-charged : (rs us : List Quota) (cost : ℕ) → Alike rs us → Passes rs x cost → Passes us x cost → Alike (charged rs x cost) (charged us x cost)
    own-charged rs us cost a p q =
        record {
          formed = charged-formed rs x cost p ∙ sym (charged-formed us x cost q);
          listed = charged-listed rs x cost x ∙ a.listed ∙ sym (charged-listed us x cost x);
          quota = charged-own rs x cost p.listed ∙ ap (λ (r : Quota). charged_by r cost) a.quota ∙ sym (charged-own us x cost q.listed);
        }

    own-event :
        (s t : Fortuna) (rs us : List Quota) → Alike rs us → (taken_by s rs own).outcome.number ≡ (taken_by t us own).outcome.number →
        (taken_by s rs own).outcome.effect.emptied ≡ 0 → (taken_by t us own).outcome.effect.emptied ≡ 0 →
        Alike (returned (taken_by s rs own)) (returned (taken_by t us own))
    own-event s t rs us a n q r =
        by-test (eqb (taken_by s rs own).outcome.number 0) _
        (λ z.
        let e = eqb-true _ 0 z in
        let f = sym n ∙ e in
        subst (λ (l : List Quota). Alike l (returned (taken_by t us own))) (sym (returned-accepted s rs own q e ∙ charged-event x pool content rs))
        (subst (Alike (charged rs x (gain (length content)))) (sym (returned-accepted t us own r f ∙ charged-event x pool content us))
        (own-charged rs us (gain (length content)) a (taken-allowed s rs x pool content e) (taken-allowed t us x pool content f))))
        (λ z.
        let y : eqb (taken_by t us own).outcome.number 0 ≡ false = sym (ap (λ (k : ℕ). eqb k 0) n) ∙ z in
        subst (λ (l : List Quota). Alike l (returned (taken_by t us own))) (sym (returned-refused s rs own q z))
        (subst (Alike rs) (sym (returned-refused t us own r y)) a))

  -- ---- runs

  taken-call : (s : Fortuna) (rs : List Quota) (c : Call) → (taken_by s rs c).call ≡ c
  unfolding taken_by
  taken-call s rs c = refl

  answers-skip : (t : Taken) (ts : List Taken) → is_event_of x t.call ≡ false → answers_of x (t ∷ ts) ≡ answers_of x ts
  unfolding answers_of
  answers-skip t ts e = rw e

  answers-take : (t : Taken) (ts : List Taken) → is_event_of x t.call ≡ true → answers_of x (t ∷ ts) ≡ t.outcome.number ∷ answers_of x ts
  unfolding answers_of
  answers-take t ts e = rw e

  none-parts : (n : ℕ) (ns : List ℕ) → NoneByState (n ∷ ns) → ((n ≡ 21 → ⊥) × (n ≡ 22 → ⊥)) × NoneByState ns
  unfolding NoneByState
  none-parts n ns h = h

  -- the rest of a run
  abbrev rest : Fortuna → List Quota → Call → List Call → List Taken
  rest s rs c cs = handed_on (taken_by s rs c).outcome.effect.next (returned (taken_by s rs c)) cs

  skips : (s : Fortuna) (rs : List Quota) (c : Call) (cs : List Call) → is_event_of x c ≡ false
      → answers_of x (handed_on s rs (c ∷ cs)) ≡ answers_of x (rest s rs c cs)
  skips s rs c cs e = ap (answers_of x) (handed-more s rs c cs) ∙ answers-skip (taken_by s rs c) (rest s rs c cs) (ap (is_event_of x) (taken-call s rs c) ∙ e)

  takes : (s : Fortuna) (rs : List Quota) (c : Call) (cs : List Call) → is_event_of x c ≡ true
      → answers_of x (handed_on s rs (c ∷ cs)) ≡ (taken_by s rs c).outcome.number ∷ answers_of x (rest s rs c cs)
  takes s rs c cs e = ap (answers_of x) (handed-more s rs c cs) ∙ answers-take (taken_by s rs c) (rest s rs c cs) (ap (is_event_of x) (taken-call s rs c) ∙ e)

  quiet : (s : Fortuna) (rs : List Quota) (c : Call) (cs : List Call) → NoReseed (handed_on s rs (c ∷ cs))
      → ((taken_by s rs c).outcome.effect.emptied ≡ 0) × NoReseed (rest s rs c cs)
  quiet s rs c cs q = reseed-parts (taken_by s rs c) (rest s rs c cs) (subst NoReseed (handed-more s rs c cs) q)

  other-one : (y pool : ℕ) (content : List ℕ) → (y ≡ x → ⊥) → is_event_of x (event y pool content) ≡ false
  unfolding is_event_of
  other-one y pool content n = ne_eqb y x n

  -- an event of x is one
  data IsOwn (c : Call) : Type 0 where
    is-own : (pool : ℕ) (content : List ℕ) → c ≡ event x pool content → IsOwn c

  own_is : (c : Call) → is_event_of x c ≡ true → IsOwn c
  unfolding is_event_of
  own_is (event y pool content) e = is-own pool content (ap (λ (k : ℕ). event k pool content) (eqb-true y x e))
  own_is (request clock buffer) e = absurd (true≢false (sym e))
  own_is (update clock seed) e = absurd (true≢false (sym e))
  own_is (write clock seed) e = absurd (true≢false (sym e))
  own_is (draw clock n d) e = absurd (true≢false (sym e))
  own_is (shuffle clock list) e = absurd (true≢false (sym e))

  own-step :
      (c : Call) → IsOwn c → (s t : Fortuna) (rs us : List Quota) → Alike rs us →
      (((taken_by s rs c).outcome.number ≡ 21 → ⊥) × ((taken_by s rs c).outcome.number ≡ 22 → ⊥))
      → (((taken_by t us c).outcome.number ≡ 21 → ⊥) × ((taken_by t us c).outcome.number ≡ 22 → ⊥)) →
      (taken_by s rs c).outcome.effect.emptied ≡ 0 → (taken_by t us c).outcome.effect.emptied ≡ 0 →
      ((taken_by s rs c).outcome.number ≡ (taken_by t us c).outcome.number) × Alike (returned (taken_by s rs c)) (returned (taken_by t us c))
  own-step c (is-own pool content e) =
      subst (λ (d : Call). (s t : Fortuna) (rs us : List Quota) → Alike rs us →
      (((taken_by s rs d).outcome.number ≡ 21 → ⊥) × ((taken_by s rs d).outcome.number ≡ 22 → ⊥))
      → (((taken_by t us d).outcome.number ≡ 21 → ⊥) × ((taken_by t us d).outcome.number ≡ 22 → ⊥)) →
      (taken_by s rs d).outcome.effect.emptied ≡ 0 → (taken_by t us d).outcome.effect.emptied ≡ 0 →
      ((taken_by s rs d).outcome.number ≡ (taken_by t us d).outcome.number) × Alike (returned (taken_by s rs d)) (returned (taken_by t us d))) (sym e)
      (λ s t rs us a h k q r. let n = same_number pool content s t rs us a h k in (n, own-event pool content s t rs us a n q r))

  abbrev Told : List Call → List Call → Type 0
  Told cs ds =
      (s t : Fortuna) (rs us : List Quota) → Alike rs us → NoReseed (handed_on s rs cs) → NoReseed (handed_on t us ds) →
      NoneByState (answers_of x (handed_on s rs cs)) → NoneByState (answers_of x (handed_on t us ds)) →
      answers_of x (handed_on s rs cs) ≡ answers_of x (handed_on t us ds)

  kept-own : (c : Call) (cs ds : List Call) → is_event_of x c ≡ true → Told cs ds → Told (c ∷ cs) (c ∷ ds)
  kept-own c cs ds e ih s t rs us a q r h k =
      let q' = quiet s rs c cs q in
      let r' = quiet t us c ds r in
      let h' = none-parts _ (answers_of x (rest s rs c cs)) (subst NoneByState (takes s rs c cs e) h) in
      let k' = none-parts _ (answers_of x (rest t us c ds)) (subst NoneByState (takes t us c ds e) k) in
      let o = own-step c (own_is c e) s t rs us a h'.0 k'.0 q'.0 r'.0 in
      takes s rs c cs e
      ∙ ap₂ (λ (n : ℕ) (ns : List ℕ). n ∷ ns) o.0 (ih _ _ _ _ o.1 q'.1 r'.1 h'.1 k'.1)
      ∙ sym (takes t us c ds e)

  kept-other : (c : Call) (cs ds : List Call) → is_event_of x c ≡ false → Told cs ds → Told (c ∷ cs) (c ∷ ds)
  kept-other c cs ds e ih s t rs us a q r h k =
      let q' = quiet s rs c cs q in
      let r' = quiet t us c ds r in
      skips s rs c cs e
      ∙ ih _ _ _ _
      (alike-trans _ rs _ (alike-sym rs _ (other-call s rs c e q'.0)) (alike-trans rs us _ a (other-call t us c e r'.0)))
      q'.1 r'.1 (subst NoneByState (skips s rs c cs e) h) (subst NoneByState (skips t us c ds e) k)
      ∙ sym (skips t us c ds e)

  added-other : (c : Call) (cs ds : List Call) → is_event_of x c ≡ false → Told cs ds → Told cs (c ∷ ds)
  added-other c cs ds e ih s t rs us a q r h k =
      let r' = quiet t us c ds r in
      ih _ _ _ _ (alike-trans rs us _ a (other-call t us c e r'.0)) q r'.1 h (subst NoneByState (skips t us c ds e) k)
      ∙ sym (skips t us c ds e)

  isolated : (cs ds : List Call) → Added x cs ds → Told cs ds
  isolated us vs same = λ s t rs ws a q r h k. ap (answers_of x) (handed-none s rs ∙ sym (handed-none t ws))
  isolated us vs (kept c {cs} {ds} p) =
      by-test (is_event_of x c) (Told (c ∷ cs) (c ∷ ds)) (λ e. kept-own c cs ds e (isolated cs ds p)) (λ e. kept-other c cs ds e (isolated cs ds p))
  isolated us vs (added y pool content n {cs} {ds} p) = added-other (event y pool content) cs ds (other-one y pool content n) (isolated cs ds p)

pub isolation : Isolation
isolation x s t rs cs ds p q r h k = isolated x cs ds p s t rs rs (alike_refl x rs) q r h k
