-- Laws of runs, over any types of state and call and any step: a run cut in two, what each step keeps, a run beside that of a model, and
-- the records that a model notes, each with the place of its call.
-- Assumes nothing.
use Rattle.std.proofs.Common.{◌≡◌, ℕ, zero, suc, ◌+◌, ◌<◌, ◌≤◌, Bool, true, false, cond, eqb, List, [], ◌∷◌, ◌++◌, map, length, sym, refl, ap, ◌∙◌, subst, ap₂, arith, eqb-true}
use mathlib.Core.List.Memᴰ
use mathlib.Core.List.{Memᴰ}
use lib.Dec.{eqb-suc-zero}
use Rattle.laws.specs.Refusals.{guarded}
use Rattle.laws.proofs.Cases.{cond-cong}
use Rattle.laws.proofs.Selections.{Every, every-none, every_append, Ordered, ordered-append}
use Rattle.pools.specs.Refusals.{and_then}
use Rattle.pools.specs.Effects.{Effect, unchanged}
use Rattle.pools.specs.Calls.{Outcome, effect_of, outcome, run_from, state_from}
use Rattle.pools.proofs.Chains.{then-cong}

-- ---- refused or not

module _ {S : Type 0} where
  -- the effect of an accepted call
  pub outcome-done : (n : ℕ) (buffer : List ℕ) (s : S) (done : Effect S) → n ≡ 0 → effect_of n buffer s done ≡ done
  unfolding effect_of
  outcome-done n buffer s done e = rw e

  -- what holds of the state found, and of the state left if accepted, holds of the state left
  pub outcome-keeps :
      (P : S → Type 0) (n : ℕ) (buffer : List ℕ) (s : S) (done : Effect S) → P s → (n ≡ 0 → P done.next) →
      P (effect_of n buffer s done).next
  unfolding effect_of unchanged
  outcome-keeps P zero buffer s done h k = k refl
  outcome-keeps P (suc n) buffer s done h k = rw (eqb-suc-zero n) h

  -- and of what is kept beside the state, as it was or as an accepted call makes it
  pub outcome-beside :
      {T : Type 0} (R : T → S → Type 0) (n : ℕ) (buffer : List ℕ) (s : S) (done : Effect S) (t m : T) → R t s → (n ≡ 0 → R m done.next) →
      R (cond (eqb n 0) m t) (effect_of n buffer s done).next
  unfolding effect_of unchanged
  outcome-beside R zero buffer s done t m h k = k refl
  outcome-beside R (suc n) buffer s done t m h k = rw (eqb-suc-zero n) h

-- ---- a run cut in two

module _ {C S : Type 0} (f : ℕ → S → C → Outcome S) where
  pub from-append :
      (xs ys : List C) (place : ℕ) (s : S) → state_from f place s (xs ++ ys) ≡ state_from f (place + length xs) (state_from f place s xs) ys
  unfolding state_from
  from-append [] ys place s = ap (λ (p : ℕ). state_from f p s ys) (omega arith)
  from-append (c ∷ xs) ys place s =
      from-append xs ys (suc place) (f place s c).effect.next
      ∙ ap (λ (p : ℕ). state_from f p (state_from f (suc place) (f place s c).effect.next xs) ys) (omega arith)

  -- one call more
  pub run_more :
      (calls : List C) (place : ℕ) (s : S) (c : C) →
      run_from f place s (calls ++ (c ∷ [])) ≡ run_from f place s calls ++ (f (place + length calls) (state_from f place s calls) c ∷ [])
  unfolding run_from state_from
  run_more [] place s c = ap {B = List (Outcome S)} (λ (p : ℕ). f p s c ∷ []) (omega arith)
  run_more (x ∷ calls) place s c =
      let next = (f place s x).effect.next in
      ap {B = List (Outcome S)} (λ l. f place s x ∷ l)
      (run_more calls (suc place) next c
      ∙ ap (λ (p : ℕ). run_from f (suc place) next calls ++ (f p (state_from f (suc place) next calls) c ∷ [])) (omega arith))

  pub state-more :
      (calls : List C) (place : ℕ) (s : S) (c : C) →
      state_from f place s (calls ++ (c ∷ [])) ≡ (f (place + length calls) (state_from f place s calls) c).effect.next
  state-more calls place s c = from-append calls (c ∷ []) place s ∙ (unfold state_from in refl)

  -- at one of its calls
  pub after-cut :
      (before : List C) (c : C) (later : List C) (s : S) →
      state_from f 0 s (before ++ (c ∷ later)) ≡ state_from f (suc (length before)) (f (length before) (state_from f 0 s before) c).effect.next later
  unfolding state_from
  after-cut before c later s =
      from-append before (c ∷ later) 0 s ∙ ap (λ (p : ℕ). state_from f p (state_from f 0 s before) (c ∷ later)) (omega arith)

  -- ---- what each step keeps

  pub state-keeps :
      (P : S → Type 0) → ((place : ℕ) (s : S) → P s → (c : C) → P (f place s c).effect.next) →
      (calls : List C) (place : ℕ) (s : S) → P s → P (state_from f place s calls)
  unfolding state_from
  state-keeps P k [] place s h = h
  state-keeps P k (c ∷ calls) place s h = state-keeps P k calls (suc place) (f place s c).effect.next (k place s h c)

-- ---- another recursion over the calls, beside a run

module _ {C T S : Type 0} (step : ℕ → T → C → T) (from : ℕ → T → List C → T) (none : (place : ℕ) (t : T) → from place t [] ≡ t)
    (more : (place : ℕ) (t : T) (c : C) (calls : List C) → from place t (c ∷ calls) ≡ from (suc place) (step place t c) calls)
    (f : ℕ → S → C → Outcome S) (R : T → S → Type 0)
    (keeps : (place : ℕ) (t : T) (s : S) → R t s → (c : C) → R (step place t c) (f place s c).effect.next) where
  pub from-beside : (calls : List C) (place : ℕ) (t : T) (s : S) → R t s → R (from place t calls) (state_from f place s calls)
  unfolding state_from
  from-beside [] place t s h = subst (λ x. R x s) (sym (none place t)) h
  from-beside (c ∷ calls) place t s h =
      subst (λ x. R x (state_from f (suc place) (f place s c).effect.next calls)) (sym (more place t c calls))
      (from-beside calls (suc place) (step place t c) (f place s c).effect.next (keeps place t s h c))

-- ---- a model beside a station: g gives the state that a model's state says

module _ {B S : Type 0} (g : B → S) where
  abbrev pub effect_to : Effect B → Effect S
  effect_to e = record { emptied = e.emptied; buffer = e.buffer; next = g e.next; trace = e.trace }

  abbrev pub outcome_to : Outcome B → Outcome S
  outcome_to o = record { number = o.number; value = o.value; effect = effect_to o.effect }

  -- a call that both refuse, or neither
  module _ (b : B) (buffer : List ℕ) (n m : ℕ) (e : n ≡ m) where
    effect-agrees : (x : Effect S) (y : Effect B) → (m ≡ 0 → x ≡ effect_to y) → effect_of n buffer (g b) x ≡ effect_to (effect_of m buffer b y)
    unfolding effect_of
    effect-agrees x y h = ap (λ (k : ℕ). guarded k x (unchanged buffer (g b))) e ∙ go (eqb m 0) (λ t. h (eqb-true m 0 t))
      where
        go : (t : Bool) → (t ≡ true → x ≡ effect_to y) → cond t x (unchanged buffer (g b)) ≡ effect_to (cond t y (unchanged buffer b))
        go true f = f refl
        go false f = unfold unchanged in refl

    -- what counts only where the call is not refused
    value-agrees : (v w : ℕ) → (m ≡ 0 → v ≡ w) → guarded n v 0 ≡ guarded m w 0
    value-agrees v w h = ap (λ (k : ℕ). guarded k v 0) e ∙ cond-cong (eqb m 0) (λ t. h (eqb-true m 0 t)) (λ t. refl)

    pub outcome-agrees :
        (f h : Bool) (v w : ℕ) (x : Effect S) (y : Effect B) → (m ≡ 0 → f ≡ h) → (m ≡ 0 → v ≡ w) → (m ≡ 0 → x ≡ effect_to y) →
        outcome n f v buffer (g b) x ≡ outcome_to (outcome m h w buffer b y)
    unfolding outcome
    outcome-agrees f h v w x y p q r = λ i. record {
      number = (ap (λ (k : ℕ). and_then k (cond f 0 33)) e ∙ then-cong m (cond f 0 33) (cond h 0 33) (λ z. ap (λ (t : Bool). cond t 0 33) (p z))) i;
      value = value-agrees v w q i;
      effect = effect-agrees x y r i;
    }

  -- where each step agrees, from the model's states that are sound, whole runs do
  module _ {C : Type 0} (f : ℕ → S → C → Outcome S) (model : ℕ → B → C → Outcome B) (Sound : B → Type 0)
      (keeps : (place : ℕ) (b : B) → Sound b → (c : C) → Sound (model place b c).effect.next)
      (agrees : (place : ℕ) (b : B) → Sound b → (c : C) → f place (g b) c ≡ outcome_to (model place b c)) where
    next-agrees : (place : ℕ) (b : B) → Sound b → (c : C) → (f place (g b) c).effect.next ≡ g (model place b c).effect.next
    next-agrees place b s c = ap (λ (o : Outcome S). o.effect.next) (agrees place b s c)

    pub run-agrees :
        (calls : List C) (place : ℕ) (b : B) → Sound b → run_from f place (g b) calls ≡ map outcome_to (run_from model place b calls)
    unfolding run_from
    run-agrees [] place b s = refl
    run-agrees (c ∷ calls) place b s =
        ap₂ {B = List (Outcome S)} (λ (o : Outcome S) l. o ∷ l) (agrees place b s c)
        (ap (λ (x : S). run_from f (suc place) x calls) (next-agrees place b s c)
        ∙ run-agrees calls (suc place) (model place b c).effect.next (keeps place b s c))

    pub state-agrees : (calls : List C) (place : ℕ) (b : B) → Sound b → state_from f place (g b) calls ≡ g (state_from model place b calls)
    unfolding state_from
    state-agrees [] place b s = refl
    state-agrees (c ∷ calls) place b s =
        ap (λ (x : S). state_from f (suc place) x calls) (next-agrees place b s c)
        ∙ state-agrees calls (suc place) (model place b c).effect.next (keeps place b s c)

-- ---- records noted, each with the place of its call

-- a list that stays, or gains one record of this place
pub data Grows {A : Type 0} (place_of : A → ℕ) (place : ℕ) (old new : List A) : Type 0 where
  stays : new ≡ old → Grows place_of place old new
  gains : (e : A) → place_of e ≡ place → new ≡ old ++ (e ∷ []) → Grows place_of place old new

module _ {C S A : Type 0} (f : ℕ → S → C → Outcome S) (noted : S → List A) (place_of : A → ℕ)
    (grows : (place : ℕ) (s : S) (c : C) → Grows place_of place (noted s) (noted (f place s c).effect.next)) where
  step_keeps :
      (P : List A → Type 0) (place : ℕ) (s : S) (c : C) → P (noted s) →
      ((e : A) → place_of e ≡ place → P (noted s ++ (e ∷ []))) → P (noted (f place s c).effect.next)
  step_keeps P place s c h k = go (grows place s c)
    where
      go : Grows place_of place (noted s) (noted (f place s c).effect.next) → P (noted (f place s c).effect.next)
      go (stays q) = subst P (sym q) h
      go (gains e o q) = subst P (sym q) (k e o)

  -- what holds of the records of later places goes on
  run-every :
      (P : A → Type 0) (calls : List C) (place : ℕ) (s : S) → Every P (noted s) → ((e : A) → place ≤ place_of e → P e) →
      Every P (noted (state_from f place s calls))
  unfolding state_from
  run-every P [] place s h k = h
  run-every P (c ∷ calls) place s h k =
      run-every P calls (suc place) (f place s c).effect.next
      (step_keeps (Every P) place s c h (λ e o. every_append P (noted s) e h (k e (omega arith))))
      (λ e l. k e (omega arith))

  -- a record stays
  run-member : (e : A) (calls : List C) (place : ℕ) (s : S) → Memᴰ e (noted s) → Memᴰ e (noted (state_from f place s calls))
  run-member e calls place s m =
      state-keeps f (λ (x : S). Memᴰ e (noted x))
      (λ p x h c. step_keeps (Memᴰ e) p x c h (λ _ _. Memᴰ.append_left _ h)) calls place s m

  -- the places are those of the calls so far
  run-below :
      (calls : List C) (place : ℕ) (s : S) → Every (λ e. place_of e < place) (noted s) →
      Every (λ e. place_of e < place + length calls) (noted (state_from f place s calls))
  unfolding state_from
  run-below [] place s h e m = omega (arith, h e m)
  run-below (c ∷ calls) place s h e m =
      let below : Every (λ x. place_of x < suc place) (noted s) = λ x n. omega (arith, h x n) in
      omega (
        arith,
        run-below calls (suc place) (f place s c).effect.next
            (step_keeps (Every (λ x. place_of x < suc place)) place s c below
            (λ x o. every_append (λ x. place_of x < suc place) (noted s) x below (omega arith))) e m,
      )

  -- the places rise along the list
  run-ordered :
      (calls : List C) (place : ℕ) (s : S) → Ordered place_of (noted s) → Every (λ e. place_of e < place) (noted s) →
      Ordered place_of (noted (state_from f place s calls))
  unfolding state_from
  run-ordered [] place s o h = o
  run-ordered (c ∷ calls) place s o h =
      let below : Every (λ x. place_of x < suc place) (noted s) = λ x n. omega (arith, h x n) in
      let both : Ordered place_of (noted (f place s c).effect.next) × Every (λ x. place_of x < suc place) (noted (f place s c).effect.next) =
      step_keeps (λ (l : List A). Ordered place_of l × Every (λ x. place_of x < suc place) l) place s c (o, below)
      (λ e q.
      (ordered-append place_of (noted s) e o (λ x n. omega (arith, h x n)), every_append (λ x. place_of x < suc place) (noted s) e below (omega arith))) in
      run-ordered calls (suc place) (f place s c).effect.next both.0 both.1

  -- from a state with none
  module _ (start : S) (none : noted start ≡ []) where
    abbrev after : List C → S
    after calls = state_from f 0 start calls

    pub after-below : (calls : List C) → Every (λ e. place_of e < length calls) (noted (after calls))
    after-below calls e m =
        omega (arith, run-below calls 0 start (subst (Every (λ e. place_of e < 0)) (sym none) (every-none (λ e. place_of e < 0))) e m)

    pub after-ordered : (calls : List C) → Ordered place_of (noted (after calls))
    after-ordered calls =
        run-ordered calls 0 start (subst (Ordered place_of) (sym none) tt) (subst (Every (λ e. place_of e < 0)) (sym none) (every-none (λ e. place_of e < 0)))

    module _ (before : List C) (c : C) (later : List C) where
      -- the state that the call c leaves
      abbrev left : S
      left = (f (length before) (after before) c).effect.next

      cut-every :
          (P : A → Type 0) → Every P (noted left) → ((e : A) → suc (length before) ≤ place_of e → P e) →
          Every P (noted (after (before ++ (c ∷ later))))
      cut-every P h k =
          subst (λ (s : S). Every P (noted s)) (sym (after-cut f before c later start)) (run-every P later (suc (length before)) left h k)

      -- no record has the place of a call that notes none
      pub none-at : noted left ≡ noted (after before) → Every (λ e. place_of e ≡ length before → ⊥) (noted (after (before ++ (c ∷ later))))
      none-at q =
          cut-every (λ e. place_of e ≡ length before → ⊥)
          (subst (Every (λ e. place_of e ≡ length before → ⊥)) (sym q) (λ e m o. omega (arith, after-below before e m)))
          (λ e l o. omega arith)

      module _ (e : A) (q : noted left ≡ noted (after before) ++ (e ∷ [])) where
        -- a record that the call notes is listed
        pub record-listed : Memᴰ e (noted (after (before ++ (c ∷ later))))
        record-listed =
            subst (λ (s : S). Memᴰ e (noted s)) (sym (after-cut f before c later start))
            (run-member e later (suc (length before)) left
            (subst (Memᴰ e) (sym q) (Memᴰ.append_right (noted (after before)) (Memᴰ.head refl))))

        -- and alone at its place
        pub record-alone : Every (λ x. place_of x ≡ length before → x ≡ e) (noted (after (before ++ (c ∷ later))))
        record-alone =
            cut-every (λ x. place_of x ≡ length before → x ≡ e)
            (subst (Every (λ x. place_of x ≡ length before → x ≡ e)) (sym q)
            (every_append (λ x. place_of x ≡ length before → x ≡ e) (noted (after before)) e
            (λ x m o. absurd (omega (arith, after-below before x m))) (λ o. refl)))
            (λ x l o. absurd (omega arith))
