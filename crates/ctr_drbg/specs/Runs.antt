-- Lists of calls, and what the number of each is by 02's words: worked out from the calls alone, with no state.
-- Assumes nothing.
use Rattle.std.specs.Prelude.{◌≡◌, ◌≢◌, Bool, true, false, not, cond, List, [], ◌∷◌, map, ℕ, ◌+◌, ◌^◌, ◌≤◌, eqb, ltb, leb, length, replicate}
use Rattle.laws.specs.Refusals.{refuse}
use Rattle.ctr_drbg.specs.Algorithms.{instantiate, reseed}
use Rattle.ctr_drbg.specs.Operations.{fresh, instantiate_answer, instantiated, reseed_answer, reseeded, generate_answer, generated, generate_buffer}
use Rattle.ctr_drbg.specs.declared.CtrDrbg.{CtrDrbg}

-- a call with its inputs, a request also with its lent buffer
pub data Call : Type 0 where
  instantiation : (entropy personalization : List ℕ) → Call
  reseeding : (entropy additional : List ℕ) → Call
  request : (buffer additional : List ℕ) → Call

-- the number of a call on a state, and the state that it leaves
unfoldable pub call_number : CtrDrbg → Call → ℕ
call_number s (instantiation entropy personalization) = instantiate_answer entropy personalization
call_number s (reseeding entropy additional) = reseed_answer s entropy additional
call_number s (request buffer additional) = generate_answer s buffer additional

unfoldable pub call_next : CtrDrbg → Call → CtrDrbg
call_next s (instantiation entropy personalization) = instantiated s entropy personalization
call_next s (reseeding entropy additional) = reseeded s entropy additional
call_next s (request buffer additional) = generated s buffer additional

-- the numbers of a list of calls, each on the state that the last one left
unfoldable pub numbers_from : CtrDrbg → List Call → List ℕ
numbers_from s [] = []
numbers_from s (c ∷ cs) = call_number s c ∷ numbers_from (call_next s c) cs

-- ---- the log of seedings: whether one was accepted, and the requests accepted since the last one

pub record Seedings : Type 0 where
  pub seeded : Bool
  pub made : ℕ

-- 40, 41, 14, 42 in 02's words
unfoldable pub log_number : Seedings → Call → ℕ
log_number l (instantiation entropy personalization) =
    refuse (not (eqb (length entropy) 48)) 40 (refuse (ltb 48 (length personalization)) 41 0)
log_number l (reseeding entropy additional) =
    refuse (not (eqb (length entropy) 48)) 40 (refuse (ltb 48 (length additional)) 41 (refuse (not l.seeded) 42 0))
log_number l (request buffer additional) =
    refuse (ltb 48 (length additional)) 41
    (refuse (ltb 65536 (length buffer)) 14 (refuse (not l.seeded) 42 (refuse (leb (2 ^ 48) l.made) 42 0)))

-- what an accepted call adds
unfoldable pub log_entry : Seedings → Call → Seedings
log_entry l (instantiation entropy personalization) = record { seeded = true; made = 0 }
log_entry l (reseeding entropy additional) = record { seeded = true; made = 0 }
log_entry l (request buffer additional) = record { seeded = l.seeded; made = l.made + 1 }

unfoldable pub logged : Seedings → Call → Seedings
logged l c = cond (eqb (log_number l c) 0) (log_entry l c) l

unfoldable pub logged_numbers : Seedings → List Call → List ℕ
logged_numbers l [] = []
logged_numbers l (c ∷ cs) = log_number l c ∷ logged_numbers (logged l c) cs

-- nothing was seeded yet
unfoldable pub no_seeding : Seedings
no_seeding = record { seeded = false; made = 0 }

-- ---- what is proved

-- from a fresh start every call's number is the log's
abbrev pub RunNumbers : Type 0
RunNumbers = (calls : List Call) → numbers_from fresh calls ≡ logged_numbers no_seeding calls

-- a refused call changes nothing: neither state nor buffer
pub record Unchanged (s : CtrDrbg) : Type 0 where
  pub state : (c : Call) → call_number s c ≢ 0 → call_next s c ≡ s
  pub buffer : (out additional : List ℕ) → generate_answer s out additional ≢ 0 → generate_buffer s out additional ≡ out

-- requests alone, each with its buffer and its additional input
abbrev pub requests : List (List ℕ × List ℕ) → List Call
requests rs = map (λ (r : List ℕ × List ℕ). request r.0 r.1) rs

-- no request among them is too long, nor is its additional input
unfoldable pub Sized : List (List ℕ × List ℕ) → Type 0
Sized [] = Unit {0}
Sized (r ∷ rs) = (length r.0 ≤ 65536) × (length r.1 ≤ 48) × Sized rs

-- how many requests of a list of calls are accepted before its first accepted seeding
unfoldable pub served_before : CtrDrbg → List Call → ℕ
served_before s [] = 0
served_before s (instantiation entropy personalization ∷ cs) =
    cond (eqb (instantiate_answer entropy personalization) 0) 0 (served_before (instantiated s entropy personalization) cs)
served_before s (reseeding entropy additional ∷ cs) = cond (eqb (reseed_answer s entropy additional) 0) 0 (served_before (reseeded s entropy additional) cs)
served_before s (request buffer additional ∷ cs) =
    cond (eqb (generate_answer s buffer additional) 0) 1 0 + served_before (generated s buffer additional) cs

-- from every state at most 2^48 requests are accepted before the next seeding, whatever calls are refused in between
abbrev pub AtMost : Type 0
AtMost = (s : CtrDrbg) (calls : List Call) → served_before s calls ≤ 2 ^ 48

-- and behind a seeding all are, up to that number
abbrev pub SoMany : Type 0
SoMany = (s : CtrDrbg) (entropy other : List ℕ) (rs : List (List ℕ × List ℕ)) → Sized rs → length rs ≤ 2 ^ 48
    → (numbers_from (instantiate entropy other) (requests rs) ≡ replicate (length rs) 0)
    × (numbers_from (reseed s entropy other) (requests rs) ≡ replicate (length rs) 0)
