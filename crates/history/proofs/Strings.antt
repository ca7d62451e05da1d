-- A pool's byte string comes from one list of events only.
-- Assumes nothing.
use mathlib.Core.Path.{◌≡◌, refl, sym, ap, ap₂, ◌∙◌}
use mathlib.Core.List.{List, [], ◌∷◌, ◌++◌}
use Prim.Native.Nat.{ℕ, ◌/◌, ◌%◌}
use native.Mathlib.Omega.{arith}
use lib.ListN.{length, get_or, take, drop}
use lib.Seq.{take_at, drop_at}
use Rattle.laws.specs.Lists.{joined}
use Rattle.pools.specs.Events.{header, header_length, event_bytes, gain}
use Rattle.history.specs.Strings.{Event, bytes_of, string_of}
use Rattle.history.specs.Statements.{UniqueEvents}

-- ---- one event's bytes

pub length-bytes : (e : Event) → length (bytes_of e) ≡ gain (length e.content)
unfolding bytes_of event_bytes header gain header_length
length-bytes e = omega arith

pub same-event : (e f : Event) → e.source ≡ f.source → e.content ≡ f.content → e ≡ f
same-event e f p q = λ i. record { source = p i; content = q i }

-- a string tells its first event, and what comes after
bytes-first : (e f : Event) (x y : List ℕ) → bytes_of e ++ x ≡ bytes_of f ++ y → (e ≡ f) × (x ≡ y)
unfolding bytes_of event_bytes header
bytes-first e f x y h =
    let low : e.source % 256 ≡ f.source % 256 = ap (λ (l : List ℕ). get_or l 0 0) h in
    let high : e.source / 256 ≡ f.source / 256 = ap (λ (l : List ℕ). get_or l 1 0) h in
    let size : length e.content ≡ length f.content = ap (λ (l : List ℕ). get_or l 2 0) h in
    let rest : e.content ++ x ≡ f.content ++ y = ap (drop 3) h in
    let n : ℕ = length f.content in
    let same : e.content ≡ f.content =
    sym (take_at e.content x n size) ∙ ap (take n) rest ∙ take_at f.content y n refl in
    let after : x ≡ y = sym (drop_at e.content x n size) ∙ ap (drop n) rest ∙ drop_at f.content y n refl in
    (same-event e f (omega arith) same, after)

none_first : (e : Event) (x : List ℕ) → [] ≡ bytes_of e ++ x → ⊥
unfolding bytes_of event_bytes header
none_first e x h = let n : ◌≡◌ {A = ℕ} 0 (length (bytes_of e ++ x)) = ap length h in omega arith

-- ---- the claim

pub unique-events : UniqueEvents
unfolding string_of joined
unique-events [] [] h = refl
unique-events [] (f ∷ fs) h = absurd (none_first f _ h)
unique-events (e ∷ es) [] h = absurd (none_first e _ (sym h))
unique-events (e ∷ es) (f ∷ fs) h =
    let p = bytes-first e f _ _ h in
    ap₂ (λ (x : Event) (l : List Event). x ∷ l) p.0 (unique-events es fs p.1)
