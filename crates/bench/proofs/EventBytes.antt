-- Which bytes are event frames of either kind.
-- Assumes nothing.
use mathlib.Core.Path.{◌≡◌, refl, sym, ap, ◌∙◌}
use mathlib.Core.Bool.{false, cond}
use mathlib.Core.List.{List, [], ◌∷◌}
use Rattle.std.specs.Prelude.{Option, Some, None}
use Prim.Native.Nat.{ℕ, ◌+◌, ◌*◌, ◌≤◌, ◌<◌}
use native.Mathlib.Omega.{arith}
use lib.Dec.{eqb, leb}
use lib.ListN.{length, get_or}
use borrow.Author.Tests.{leb-true, eqb-true}
use Rattle.laws.proofs.Cases.{by-test, split}
use Rattle.bench.specs.Frames.{big_endian16, event_frame, request_frame, update_frame, write_frame, wide_event_frame, frame_of}
use Rattle.bench.proofs.Frames.{frame-none}
use Rattle.bench.specs.declared.frame.Frame.{Frame}
use Rattle.bench.specs.declared.frame.Frame.TheVariants.{Event, Request, Update, Write, WideEvent}

-- 1 for frame 01, 5 for frame 05
abbrev pub event_kind : Option Frame → ℕ
event_kind (Some (Event source pool)) = 1
event_kind (Some (Request clock count)) = 0
event_kind (Some (Update clock)) = 0
event_kind (Some (Write clock)) = 0
event_kind (Some (WideEvent source pool)) = 5
event_kind None = 0

-- the bytes of frame 01
pub record EventBytes (bytes : List ℕ) (source pool : ℕ) : Type 0 where
  pub rest : List ℕ
  pub is : bytes ≡ 1 ∷ rest
  pub long : 2 ≤ length rest
  pub source_is : source ≡ get_or rest 0 0
  pub pool-is : pool ≡ get_or rest 1 0

-- the bytes of frame 05
pub record WideBytes (bytes : List ℕ) (source pool : ℕ) : Type 0 where
  pub rest : List ℕ
  pub is : bytes ≡ 5 ∷ rest
  pub long : 3 ≤ length rest
  pub source_is : source ≡ get_or rest 0 0 * 256 + get_or rest 1 0
  pub pool-is : pool ≡ get_or rest 2 0

-- a frame that is no event frame of kind k
abbrev Other : ℕ → Option Frame → Type 0
Other k f = event_kind f ≡ k → ⊥

request-other : (k : ℕ) (bytes : List ℕ) → 0 < k → Other k (request_frame bytes)
unfolding request_frame
request-other k bytes p = split (Other k) (eqb (length bytes) 7) (λ _ e. omega arith) (λ _ e. omega arith)

update_other : (k : ℕ) (bytes : List ℕ) → 0 < k → Other k (update_frame bytes)
unfolding update_frame
update_other k bytes p = split (Other k) (leb 5 (length bytes)) (λ _ e. omega arith) (λ _ e. omega arith)

write-other : (k : ℕ) (bytes : List ℕ) → 0 < k → Other k (write_frame bytes)
unfolding write_frame
write-other k bytes p = split (Other k) (eqb (length bytes) 5) (λ _ e. omega arith) (λ _ e. omega arith)

event-other : (bytes : List ℕ) → Other 5 (event_frame bytes)
unfolding event_frame
event-other bytes = split (Other 5) (leb 3 (length bytes)) (λ _ e. omega arith) (λ _ e. omega arith)

wide-other : (bytes : List ℕ) → Other 1 (wide_event_frame bytes)
unfolding wide_event_frame
wide-other bytes = split (Other 1) (leb 4 (length bytes)) (λ _ e. omega arith) (λ _ e. omega arith)

-- the first byte tells the kind of an event frame
not_narrow : (kind : ℕ) (fields : List ℕ) → eqb kind 1 ≡ false → Other 1 (frame_of (kind ∷ fields))
unfolding frame_of
not_narrow kind fields n =
    rw n
    (split (Other 1) (eqb kind 2) (λ _. request-other 1 (kind ∷ fields) (omega arith))
    (λ _. split (Other 1) (eqb kind 3) (λ _. update_other 1 (kind ∷ fields) (omega arith))
    (λ _. split (Other 1) (eqb kind 4) (λ _. write-other 1 (kind ∷ fields) (omega arith))
    (λ _. split (Other 1) (eqb kind 5) (λ _. wide-other (kind ∷ fields)) (λ _ e. omega arith)))))

not_wide : (kind : ℕ) (fields : List ℕ) → eqb kind 5 ≡ false → Other 5 (frame_of (kind ∷ fields))
unfolding frame_of
not_wide kind fields n =
    rw n
    (split (Other 5) (eqb kind 1) (λ _. event-other (kind ∷ fields))
    (λ _. split (Other 5) (eqb kind 2) (λ _. request-other 5 (kind ∷ fields) (omega arith))
    (λ _. split (Other 5) (eqb kind 3) (λ _. update_other 5 (kind ∷ fields) (omega arith))
    (λ _. split (Other 5) (eqb kind 4) (λ _. write-other 5 (kind ∷ fields) (omega arith)) (λ _ e. omega arith)))))

-- frame 01, and frame 05, by what comes after the first byte
pub frame-one : (fields : List ℕ) → frame_of (1 ∷ fields) ≡ cond (leb 3 (length (1 ∷ fields))) (Some (Event (get_or fields 0 0) (get_or fields 1 0))) None
unfolding frame_of event_frame
frame-one fields = refl

pub frame-five : (fields : List ℕ)
    → frame_of (5 ∷ fields) ≡ cond (leb 4 (length (5 ∷ fields))) (Some (WideEvent (get_or fields 0 0 * 256 + get_or fields 1 0) (get_or fields 2 0))) None
unfolding frame_of wide_event_frame big_endian16
frame-five fields = refl

event-parts : (s p s' p' : ℕ) → ◌≡◌ {A = Option Frame} (Some (Event s p)) (Some (Event s' p')) → (s ≡ s') × (p ≡ p')
event-parts s p s' p' h = (cc, cc)

wide-parts : (s p s' p' : ℕ) → ◌≡◌ {A = Option Frame} (Some (WideEvent s p)) (Some (WideEvent s' p')) → (s ≡ s') × (p ≡ p')
wide-parts s p s' p' h = (cc, cc)

-- bytes that make a frame of kind k: what follows the first makes it
record KindBytes (k m : ℕ) (made : List ℕ → Frame) (bytes : List ℕ) (frame : Frame) : Type 0 where
  fields : List ℕ
  is : bytes ≡ k ∷ fields
  long : m ≤ length (k ∷ fields)
  frame-is : ◌≡◌ {A = Option Frame} (Some frame) (Some (made fields))

-- where the kind takes at least m bytes, and no other first byte makes it
module _ (k m : ℕ) (made : List ℕ → Frame) (some : 0 < k)
    (by-kind : (fields : List ℕ) → frame_of (k ∷ fields) ≡ cond (leb m (length (k ∷ fields))) (Some (made fields)) None)
    (other : (kind : ℕ) (fields : List ℕ) → eqb kind k ≡ false → Other k (frame_of (kind ∷ fields))) where
  kind-bytes : (bytes : List ℕ) (frame : Frame) → event_kind (Some frame) ≡ k → frame_of bytes ≡ Some frame → KindBytes k m made bytes frame
  kind-bytes [] frame is e =
      let z : 0 ≡ event_kind (Some frame) = ap event_kind (frame-none [] refl ∙ e) in
      absurd (omega (arith, some, is, z))
  kind-bytes (kind ∷ fields) frame is e =
      by-test (eqb kind k) (KindBytes k m made (kind ∷ fields) frame)
      (λ t.
      let first : kind ≡ k = eqb-true kind k t in
      let f : frame_of (k ∷ fields) ≡ Some frame = ap (λ (x : ℕ). frame_of (x ∷ fields)) (sym first) ∙ e in
      by-test (leb m (length (k ∷ fields))) (KindBytes k m made (kind ∷ fields) frame)
      (λ l.
      record {
        fields = fields;
        is = ap (λ (x : ℕ). x ∷ fields) first;
        long = leb-true m (length (k ∷ fields)) l;
        frame-is = sym f ∙ by-kind fields ∙ rw l;
      })
      (λ l. let z : 0 ≡ event_kind (Some frame) = ap event_kind (rw l at (sym (by-kind fields) ∙ f)) in absurd (omega (arith, some, is, z))))
      (λ t. absurd (other kind fields t (ap event_kind e ∙ is)))

pub event-bytes : (bytes : List ℕ) (source pool : ℕ) → frame_of bytes ≡ Some (Event source pool) → EventBytes bytes source pool
event-bytes bytes source pool e =
    let b = kind-bytes 1 3 (λ f. Event (get_or f 0 0) (get_or f 1 0)) (omega arith) frame-one not_narrow bytes (Event source pool) refl e in
    let q = event-parts _ _ _ _ b.frame-is in
    record { rest = b.fields; is = b.is; long = omega (arith, b.long); source_is = q.0; pool-is = q.1 }

pub wide-bytes : (bytes : List ℕ) (source pool : ℕ) → frame_of bytes ≡ Some (WideEvent source pool) → WideBytes bytes source pool
wide-bytes bytes source pool e =
    let b =
    kind-bytes 5 4 (λ f. WideEvent (get_or f 0 0 * 256 + get_or f 1 0) (get_or f 2 0)) (omega arith) frame-five not_wide bytes (WideEvent source pool) refl e in
    let q = wide-parts _ _ _ _ b.frame-is in
    record { rest = b.fields; is = b.is; long = omega (arith, b.long); source_is = q.0; pool-is = q.1 }
