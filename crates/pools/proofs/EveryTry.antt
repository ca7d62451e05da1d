-- No try of an accepted call is refused, and only the first one can make a pool reseed.
-- Assumes nothing.
use Rattle.std.proofs.Common.{◌≡◌, ℕ, zero, suc, ◌+◌, ◌-◌, ◌*◌, false, cond, ltb, List, [], ◌∷◌, ◌++◌, length, sym, refl, ap, ◌∙◌, subst, ⊎_elim, arith, ltb-false, ltb-true}
use mathlib.Core.List.Memᴰ
use mathlib.Core.List.{Memᴰ, nil≢cons, head-eq_of_cons-eq, tail-eq_of_cons-eq}
use Rattle.laws.proofs.Cases.{split, by-test}
use Rattle.slots.specs.Fair.{try_value}
use Rattle.slots.specs.Shuffle.{exchange}
use Rattle.pools.specs.Events.{pool_count}
use Rattle.pools.specs.State.{due}
use Rattle.pools.specs.Refusals.{max_tries}
use Rattle.pools.specs.Effects.{emptied_by}
use Rattle.pools.specs.Draws.{Drawn, try_size, leaving, tries, shuffle_from, shuffled, try_at}
use Rattle.pools.specs.Calls.{event, request, update, write, draw, shuffle, reading_of, call_number, call_effect}
use Rattle.pools.specs.Tries.{draw_tries, shuffle_tries, call_tries, OneReseedLaw, Passing, EveryTryPasses}
use Rattle.pools.specs.declared.Fortuna.{Fortuna}
use Rattle.pools.proofs.OneReseed.{quiet-after, first-try, first-shuffle}
use Rattle.pools.proofs.Passing.{draw-passing, shuffle-passing, passing-fewer, try-passes}
use Rattle.pools.proofs.Tries.{pools-next, passing-next, tries-pools, tries-passing}

-- ---- what holds of each state in a list

abbrev Every : (Fortuna → Type 0) → List Fortuna → Type 0
Every P l = (t : Fortuna) → Memᴰ t l → P t

module _ (P : Fortuna → Type 0) where
  every-none : Every P []
  every-none t m = absurd (Memᴰ.not-nil m)

  every-cons : (s : Fortuna) (l : List Fortuna) → P s → Every P l → Every P (s ∷ l)
  every-cons s l h k t m = ⊎_elim (λ e. subst P (sym e) h) (λ n. k t n) (Memᴰ.cases_cons m)

  every_append : (l r : List Fortuna) → Every P l → Every P r → Every P (l ++ r)
  every_append l r h k t m = ⊎_elim (λ n. h t n) (λ n. k t n) (Memᴰ.append_cases l m)

-- ---- each try passes

more-tries : (p : ℕ) → max_tries * suc p ≡ max_tries + max_tries * p
unfolding max_tries
more-tries p = omega arith

module _ (clock : ℕ) where
  abbrev Passes : Fortuna → Type 0
  Passes t = (out : List ℕ) → length out ≡ try_size → call_number t (request clock out) ≡ 0

  draw-passes : (n d : ℕ) (s : Fortuna) → length s.pools ≡ pool_count → Passing s clock d → Every Passes (draw_tries (try_at clock) n d s)
  unfolding draw_tries
  draw-passes n zero s all p = every-none Passes
  draw-passes n (suc d) s all p =
      every-cons Passes s _ (λ out e. try-passes s clock d out p e)
      (split (Every Passes) (ltb (try_value n (try_at clock s).buffer) n)
      (λ t. every-none Passes)
      (λ t. draw-passes n d (try_at clock s).next (pools-next s clock all) (passing-next s clock d all p)))

  shuffle-passes : (p : ℕ) (list : List ℕ) (s : Fortuna) → length s.pools ≡ pool_count → Passing s clock (max_tries * p)
      → Every Passes (shuffle_tries (try_at clock) p list s)
  unfolding shuffle_tries
  shuffle-passes zero list s all q = every-none Passes
  shuffle-passes (suc p) list s all q =
      let d = tries (try_at clock) (suc p + 1) max_tries s in
      let room : Passing s clock (max_tries + max_tries * p) = rw (more-tries p) at q in
      let first : Passing s clock max_tries = passing-fewer s clock max_tries (max_tries + max_tries * p) (omega arith) room in
      every_append Passes (draw_tries (try_at clock) (suc p + 1) max_tries s) _ (draw-passes (suc p + 1) max_tries s all first)
      (split (Every Passes) d.found
      (λ t.
      shuffle-passes p (exchange (suc p) d.value list) d.effect.next (tries-pools clock (suc p + 1) max_tries s all)
      (tries-passing clock (suc p + 1) max_tries (max_tries * p) s all room))
      (λ t. every-none Passes))

  -- a list of 0 or 1 numbers makes none
  list-passes : (list : List ℕ) (s : Fortuna) → length s.pools ≡ pool_count → call_number s (shuffle clock list) ≡ 0
      → Every Passes (shuffle_tries (try_at clock) (length list - 1) list s)
  list-passes list s all e =
      by-test (ltb (length list) 2) (Every Passes (shuffle_tries (try_at clock) (length list - 1) list s))
      (λ t. let few : length list - 1 ≡ 0 = omega (arith, ltb-true (length list) 2 t) in rw few (unfold shuffle_tries in every-none Passes))
      (λ t. shuffle-passes (length list - 1) list s all (shuffle-passing s clock list e (ltb-false (length list) 2 t)))

pub every-try-passes : EveryTryPasses
unfolding call_tries reading_of
every-try-passes s (event source pool content) all e = every-none (Passes 0)
every-try-passes s (request clock buffer) all e = every-none (Passes clock)
every-try-passes s (update clock seed) all e = every-none (Passes clock)
every-try-passes s (write clock seed) all e = every-none (Passes clock)
every-try-passes s (draw clock n d) all e = draw-passes clock n d s all (draw-passing s clock n d e)
every-try-passes s (shuffle clock list) all e = list-passes clock list s all e

-- ---- none but the first finds a reseed due

module _ (clock : ℕ) where
  abbrev Quiet : Fortuna → Type 0
  Quiet t = due t clock ≡ false

  -- the tries after the first one, of d + 1
  later : ℕ → ℕ → Fortuna → List Fortuna
  later n d s = cond (ltb (try_value n (try_at clock s).buffer) n) [] (draw_tries (try_at clock) n d (try_at clock s).next)

  later-is : (n d : ℕ) (s : Fortuna) → draw_tries (try_at clock) n (suc d) s ≡ s ∷ later n d s
  unfolding draw_tries later
  later-is n d s = refl

  quiet_next : (s : Fortuna) → Quiet (try_at clock s).next
  unfolding try_at
  quiet_next s = quiet-after s clock try_size

  quiet-drawn : (n : ℕ) (s : Fortuna) → Quiet (tries (try_at clock) n max_tries s).effect.next
  unfolding max_tries
  quiet-drawn n s = (first-try clock n 63 s).1

  quiet-draw : (n d : ℕ) (s : Fortuna) → Quiet s → Every Quiet (draw_tries (try_at clock) n d s)
  unfolding draw_tries
  quiet-draw n zero s e = every-none Quiet
  quiet-draw n (suc d) s e =
      every-cons Quiet s _ e
      (split (Every Quiet) (ltb (try_value n (try_at clock s).buffer) n) (λ t. every-none Quiet) (λ t. quiet-draw n d (try_at clock s).next (quiet_next s)))

  quiet-later : (n d : ℕ) (s : Fortuna) → Every Quiet (later n d s)
  unfolding later
  quiet-later n d s =
      split (Every Quiet) (ltb (try_value n (try_at clock s).buffer) n) (λ t. every-none Quiet) (λ t. quiet-draw n d (try_at clock s).next (quiet_next s))

  quiet-shuffle : (p : ℕ) (list : List ℕ) (s : Fortuna) → Quiet s → Every Quiet (shuffle_tries (try_at clock) p list s)
  unfolding shuffle_tries
  quiet-shuffle zero list s e = every-none Quiet
  quiet-shuffle (suc p) list s e =
      let d = tries (try_at clock) (suc p + 1) max_tries s in
      every_append Quiet (draw_tries (try_at clock) (suc p + 1) max_tries s) _ (quiet-draw (suc p + 1) max_tries s e)
      (split (Every Quiet) d.found
      (λ t. quiet-shuffle p (exchange (suc p) d.value list) d.effect.next (quiet-drawn (suc p + 1) s))
      (λ t. every-none Quiet))

  -- the first state of a list, those after it, and what the call empties
  abbrev Starts : Fortuna → ℕ → Fortuna → List Fortuna → Type 0
  Starts s emptied first others = (first ≡ s) × Every Quiet others × (emptied ≡ emptied_by s clock)

  starts : (s first : Fortuna) (rest others : List Fortuna) (emptied : ℕ) → Path (List Fortuna) (s ∷ rest) (first ∷ others) → Every Quiet rest
      → emptied ≡ emptied_by s clock → Starts s emptied first others
  starts s first rest others emptied e q h = (sym (head-eq_of_cons-eq e), subst (Every Quiet) (tail-eq_of_cons-eq e) q, h)

  draw-starts : (n d : ℕ) (s first : Fortuna) (others : List Fortuna) → draw_tries (try_at clock) n d s ≡ first ∷ others
      → Starts s (tries (try_at clock) n d s).effect.emptied first others
  draw-starts n zero s first others e = absurd (unfold draw_tries in nil≢cons e)
  draw-starts n (suc d) s first others e = starts s first (later n d s) others _ (sym (later-is n d s) ∙ e) (quiet-later n d s) (first-try clock n d s).0

  -- a shuffle's first draw has a first try
  first-is : (n : ℕ) (s : Fortuna) → draw_tries (try_at clock) n max_tries s ≡ s ∷ later n 63 s
  unfolding max_tries
  first-is n s = later-is n 63 s

  shuffle-starts : (p : ℕ) (list : List ℕ) (s first : Fortuna) (others : List Fortuna) → shuffle_tries (try_at clock) p list s ≡ first ∷ others
      → Starts s (shuffle_from (try_at clock) p list s).effect.emptied first others
  unfolding shuffle_tries
  shuffle-starts zero list s first others e = absurd (nil≢cons e)
  shuffle-starts (suc p) list s first others e =
      let d = tries (try_at clock) (suc p + 1) max_tries s in
      let more : List Fortuna = cond d.found (shuffle_tries (try_at clock) p (exchange (suc p) d.value list) d.effect.next) [] in
      let quiet = split (Every Quiet) d.found
      (λ t. quiet-shuffle p (exchange (suc p) d.value list) d.effect.next (quiet-drawn (suc p + 1) s)) (λ t. every-none Quiet) in
      starts s first (later (suc p + 1) 63 s ++ more) others _
      (ap (λ (l : List Fortuna). l ++ more) (sym (first-is (suc p + 1) s)) ∙ e)
      (every_append Quiet (later (suc p + 1) 63 s) more (quiet-later (suc p + 1) 63 s) quiet)
      (first-shuffle clock p list s).0

  shuffled-emptied : (list : List ℕ) (s : Fortuna)
      → (shuffled (try_at clock) list s).effect.emptied ≡ (shuffle_from (try_at clock) (length list - 1) list s).effect.emptied
  unfolding shuffled leaving
  shuffled-emptied list s =
      let o = shuffle_from (try_at clock) (length list - 1) list s in
      split (λ (r : Drawn Fortuna). r.effect.emptied ≡ o.effect.emptied) o.found (λ t. refl) (λ t. refl)

pub one-reseed : OneReseedLaw
unfolding call_tries reading_of call_effect
one-reseed s (event source pool content) first others e = absurd (nil≢cons e)
one-reseed s (request clock buffer) first others e = absurd (nil≢cons e)
one-reseed s (update clock seed) first others e = absurd (nil≢cons e)
one-reseed s (write clock seed) first others e = absurd (nil≢cons e)
one-reseed s (draw clock n d) first others e =
    let p = draw-starts clock n d s first others e in
    record { start = p.0; none = p.1; emptied = p.2 }
one-reseed s (shuffle clock list) first others e =
    let p = shuffle-starts clock (length list - 1) list s first others e in
    record { start = p.0; none = p.1; emptied = shuffled-emptied clock list s ∙ p.2 }
