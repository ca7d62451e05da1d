-- The statements of specs/Runs.antt hold: the reseed counter tells what the log of seedings has.
-- Assumes nothing.
use mathlib.Core.Path.{◌≡◌, refl, ap, ap₂, ◌∙◌}
use mathlib.Core.Logic.{◌≢◌}
use mathlib.Core.Bool.{Bool, true, false, not, cond}
use mathlib.Core.List.{List, [], ◌∷◌}
use Prim.Native.Nat.{ℕ, zero, suc, ◌+◌, ◌-◌, ◌^◌, ◌≤◌, ◌<◌}
use native.Mathlib.Nat.{le_trans}
use native.Mathlib.Decide.{dec_lt}
use native.Mathlib.Omega.{arith}
use lib.Dec.{eqb, ltb, leb}
use lib.ListN.{length, replicate}
use borrow.Author.Tests.{eqb-true, eqb-false, ne_eqb, le-ltb, lt-ltb, le-leb, lt-leb}
use Rattle.laws.specs.Refusals.{refuse}
use Rattle.laws.proofs.Cases.{by-test}
use Rattle.laws.proofs.Refusals.{passed}
use Rattle.ctr_drbg.specs.Algorithms.{seed_length, state_of, instantiate, reseed, generate}
use Rattle.ctr_drbg.specs.Refusals.{max_request, reseed_interval, never_seeded, reseed_required, instantiate_number, reseed_number, generate_number}
use Rattle.ctr_drbg.specs.Operations.{fresh, instantiate_answer, instantiated, reseed_answer, reseeded, generate_answer, generated, generate_buffer}
use Rattle.ctr_drbg.specs.Runs.{Call, instantiation, reseeding, request, call_number, call_next, numbers_from, Seedings, log_number, log_entry, logged, logged_numbers, no_seeding, RunNumbers, Unchanged, requests, Sized, served_before, AtMost, SoMany}
use Rattle.ctr_drbg.specs.declared.CtrDrbg.{CtrDrbg}
use Rattle.ctr_drbg.proofs.Accepted.{generate-fits}

-- ---- what the reseed counter tells

-- the reseed counter of a state whose calls left the log l
unfoldable counter_of : Seedings → ℕ
counter_of l = cond l.seeded (l.made + 1) 0

unfoldable Told : CtrDrbg → Seedings → Type 0
Told s l = s.reseed_counter ≡ counter_of l

late : (n : ℕ) → ltb (2 ^ 48) (n + 1) ≡ leb (2 ^ 48) n
late n =
    elim (dec_lt n (2 ^ 48)) [
      | yes h ↦ rw (le-ltb (2 ^ 48) (n + 1) (omega arith), lt-leb (2 ^ 48) n h)
      | no h ↦ rw (lt-ltb (2 ^ 48) (n + 1) (omega arith), le-leb (2 ^ 48) n (omega arith))
    ]

-- 42 of a reseed and of a request, by the counter and by the log
reseed-late : (t : Bool) (made : ℕ) → refuse (never_seeded (cond t (made + 1) 0)) 42 0 ≡ refuse (not t) 42 0
unfolding never_seeded
reseed-late true made = rw (ne_eqb (made + 1) 0 (λ e. omega arith))
reseed-late false made = refl

request-late : (t : Bool) (made : ℕ)
    → refuse (never_seeded (cond t (made + 1) 0)) 42 (refuse (reseed_required (cond t (made + 1) 0)) 42 0)
    ≡ refuse (not t) 42 (refuse (leb (2 ^ 48) made) 42 0)
unfolding never_seeded reseed_required reseed_interval
request-late true made = rw (ne_eqb (made + 1) 0 (λ e. omega arith), late made)
request-late false made = refl

number-told : (s : CtrDrbg) (l : Seedings) → Told s l → (c : Call) → call_number s c ≡ log_number l c
unfolding call_number log_number instantiate_answer instantiate_number reseed_answer reseed_number generate_answer generate_number seed_length max_request Told counter_of
number-told s l told (instantiation entropy personalization) = refl
number-told s l told (reseeding entropy additional) = rw (told, reseed-late l.seeded l.made)
number-told s l told (request buffer additional) = rw (told, request-late l.seeded l.made)

-- a request is accepted only where a seeding was
seeded-before : (t : Bool) (m n : Bool) (rest : ℕ) → refuse m 41 (refuse n 14 (refuse (not t) 42 rest)) ≡ 0 → t ≡ true
seeded-before true m n rest e = refl
seeded-before false m n rest e =
    let p = passed m 41 (refuse n 14 42) (omega arith) e in
    let q = passed n 14 42 (omega arith) p.1 in
    absurd (omega (arith, q.1))

request-seeded : (l : Seedings) (buffer additional : List ℕ) → log_number l (request buffer additional) ≡ 0 → l.seeded ≡ true
unfolding log_number
request-seeded l buffer additional e =
    seeded-before l.seeded (ltb 48 (length additional)) (ltb 65536 (length buffer)) (refuse (leb (2 ^ 48) l.made) 42 0) e

-- what an accepted call leaves
entry-told : (s : CtrDrbg) (l : Seedings) → Told s l → (c : Call) → log_number l c ≡ 0 → Told (call_next s c) (log_entry l c)
unfolding call_number call_next log_entry instantiated reseeded generated instantiate reseed generate state_of Told counter_of
entry-told s l told (instantiation entropy personalization) e =
    let n : instantiate_answer entropy personalization ≡ 0 = number-told s l told (instantiation entropy personalization) ∙ e in
    rw n
entry-told s l told (reseeding entropy additional) e =
    let n : reseed_answer s entropy additional ≡ 0 = number-told s l told (reseeding entropy additional) ∙ e in
    rw n
entry-told s l told (request buffer additional) e =
    let n : generate_answer s buffer additional ≡ 0 = number-told s l told (request buffer additional) ∙ e in
    let t : l.seeded ≡ true = request-seeded l buffer additional e in
    rw (n, told, t)

-- and a refused one
refused-same : (s : CtrDrbg) (c : Call) → eqb (call_number s c) 0 ≡ false → call_next s c ≡ s
unfolding call_number call_next instantiated reseeded generated
refused-same s (instantiation entropy personalization) e = rw e
refused-same s (reseeding entropy additional) e = rw e
refused-same s (request buffer additional) e = rw e

next-told : (s : CtrDrbg) (l : Seedings) → Told s l → (c : Call) → Told (call_next s c) (logged l c)
unfolding logged
next-told s l told c =
    by-test
    (eqb (log_number l c) 0)
    (Told (call_next s c) (logged l c))
    (λ t. rw t (entry-told s l told c (eqb-true (log_number l c) 0 t)))
    (λ t. rw (t, refused-same s c (rw (number-told s l told c) t)) told)

numbers-told : (s : CtrDrbg) (l : Seedings) → Told s l → (cs : List Call) → numbers_from s cs ≡ logged_numbers l cs
unfolding numbers_from logged_numbers
numbers-told s l told [] = refl
numbers-told s l told (c ∷ cs) =
    rw (number-told s l told c, numbers-told (call_next s c) (logged l c) (next-told s l told c) cs)

fresh-told : Told fresh no_seeding
unfolding Told counter_of fresh no_seeding state_of
fresh-told = refl

pub run-numbers : RunNumbers
run-numbers calls = numbers-told fresh no_seeding fresh-told calls

pub refused-unchanged : (s : CtrDrbg) → Unchanged s
unfolding generate_buffer
refused-unchanged s =
    record {
      state = λ c h. refused-same s c (ne_eqb (call_number s c) 0 h);
      buffer = λ out additional h. rw (ne_eqb (generate_answer s out additional) 0 h);
    }

-- ---- requests between two seedings

-- how many are left to a state
unfoldable left : ℕ → ℕ
left counter = cond (eqb counter 0) 0 (2 ^ 48 + 1 - counter)

-- what the reseed counter of an accepted request is
request-fits : (s : CtrDrbg) (out additional : List ℕ) → generate_answer s out additional ≡ 0
    → (0 < s.reseed_counter) × (s.reseed_counter ≤ 2 ^ 48)
unfolding generate_answer never_seeded reseed_interval
request-fits s out additional e =
    let c = s.reseed_counter in
    let fits = generate-fits c (length out) (length additional) e in
    (positive c (eqb-false c 0 fits.0), fits.1)
  where
    positive : (n : ℕ) → n ≢ 0 → 0 < n
    positive zero h = absurd (h refl)
    positive (suc n) h = omega arith

-- it leaves the next counter
request-counts : (s : CtrDrbg) (out additional : List ℕ) → generate_answer s out additional ≡ 0
    → (generated s out additional).reseed_counter ≡ s.reseed_counter + 1
unfolding generated generate state_of
request-counts s out additional e = rw e

left_one : (c : ℕ) → 0 < c → c ≤ 2 ^ 48 → left c ≡ 1 + left (c + 1)
unfolding left
left_one c h k = rw (ne_eqb c 0 (λ e. omega arith), ne_eqb (c + 1) 0 (λ e. omega arith)) (omega arith)

left-most : (c : ℕ) → left c ≤ 2 ^ 48
unfolding left
left-most zero = omega arith
left-most (suc c) = rw (ne_eqb (suc c) 0 (λ e. omega arith)) (omega arith)

-- one request more: it is accepted and one less is left, or it is refused
counted : (n m c : ℕ) → (n ≡ 0 → m ≤ left (c + 1)) → (n ≡ 0 → left c ≡ 1 + left (c + 1)) → (eqb n 0 ≡ false → m ≤ left c)
    → cond (eqb n 0) 1 0 + m ≤ left c
counted zero m c done less refused = let h = done refl in let e = less refl in omega arith
counted (suc n) m c done less refused = rw (ne_eqb (suc n) 0 (λ e. omega arith)) (omega (arith, refused (ne_eqb (suc n) 0 (λ e. omega arith))))

-- a seeding: it is accepted and ends the count, or it is refused
ended : (n m c : ℕ) → (eqb n 0 ≡ false → m ≤ left c) → cond (eqb n 0) 0 m ≤ left c
ended zero m c refused = omega arith
ended (suc n) m c refused = rw (ne_eqb (suc n) 0 (λ e. omega arith)) (refused (ne_eqb (suc n) 0 (λ e. omega arith)))

at_most : (s : CtrDrbg) (c : ℕ) → s.reseed_counter ≡ c → (cs : List Call) → served_before s cs ≤ left c
unfolding served_before call_number call_next
at_most s c e [] = omega arith
at_most s c e (instantiation entropy personalization ∷ cs) =
    ended (instantiate_answer entropy personalization) (served_before (instantiated s entropy personalization) cs) c
    (λ n. rw (refused-same s (instantiation entropy personalization) n) (at_most s c e cs))
at_most s c e (reseeding entropy additional ∷ cs) =
    ended (reseed_answer s entropy additional) (served_before (reseeded s entropy additional) cs) c
    (λ n. rw (refused-same s (reseeding entropy additional) n) (at_most s c e cs))
at_most s c e (request out additional ∷ cs) =
    let next = generated s out additional in
    counted (generate_answer s out additional) (served_before next cs) c
    (λ n. at_most next (c + 1) (request-counts s out additional n ∙ ap (λ (x : ℕ). x + 1) e) cs)
    (λ n. let fits = request-fits s out additional n in left_one c (omega (arith, e, fits.0)) (omega (arith, e, fits.1)))
    (λ n. rw (refused-same s (request out additional) n) (at_most s c e cs))

request-accepted : (s : CtrDrbg) (c : ℕ) → s.reseed_counter ≡ c → 0 < c → c ≤ 2 ^ 48 → (out additional : List ℕ)
    → length out ≤ 65536 → length additional ≤ 48
    → generate_answer s out additional ≡ 0
unfolding generate_answer generate_number seed_length max_request never_seeded reseed_required reseed_interval
request-accepted s c e some few out additional short given =
    rw (e, le-ltb 48 (length additional) given, le-ltb 65536 (length out) short, ne_eqb c 0 (λ z. omega arith), le-ltb (2 ^ 48) c few)

so-many : (s : CtrDrbg) (c : ℕ) → s.reseed_counter ≡ c → 0 < c → (rs : List (List ℕ × List ℕ)) → Sized rs → c + length rs ≤ 2 ^ 48 + 1
    → numbers_from s (requests rs) ≡ replicate (length rs) 0
unfolding numbers_from call_number call_next Sized
so-many s c e some [] sized room = refl
so-many s c e some ((out, additional) ∷ rs) sized room =
    let n : generate_answer s out additional ≡ 0 = request-accepted s c e some (omega arith) out additional sized.0 sized.1 in
    let counter = request-counts s out additional n ∙ ap (λ (x : ℕ). x + 1) e in
    ap₂ (λ (x : ℕ) (l : List ℕ). x ∷ l) n (so-many (generated s out additional) (c + 1) counter (omega arith) rs sized.2 (omega arith))

pub at-most-served : AtMost
at-most-served s calls = le_trans (at_most s s.reseed_counter refl calls) (left-most s.reseed_counter)

pub so-many-served : SoMany
unfolding instantiate reseed state_of
so-many-served s entropy other rs sized few = (
  so-many (instantiate entropy other) 1 refl (omega arith) rs sized (omega arith),
  so-many (reseed s entropy other) 1 refl (omega arith) rs sized (omega arith),
)
