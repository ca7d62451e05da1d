-- Which frame bytes are.
-- Assumes nothing.
use mathlib.Core.Path.{◌≡◌, refl, sym}
use mathlib.Core.Bool.{cond}
use mathlib.Core.List.{List, [], ◌∷◌}
use Rattle.std.specs.Prelude.{Option, Some, None}
use Prim.Native.Nat.{ℕ, ◌-◌, ◌≤◌, zero-le}
use native.Mathlib.Nat.{le_of_eq}
use lib.Dec.{eqb, leb}
use lib.ListN.{length, get_or, take, drop}
use borrow.Author.Tests.{leb-true, eqb-true}
use Rattle.laws.proofs.Cases.{split}
use Rattle.laws.proofs.Copy.{part_end}
use Rattle.pools.specs.Calls.{Call, event, request, update, write}
use Rattle.pools.specs.Refusals.{seed_size}
use Rattle.bench.specs.Frames.{big_endian16, big_endian32, event_frame, request_frame, update_frame, write_frame, wide_event_frame, frame_of, header_length}
use Rattle.bench.specs.Buffers.{zeros}
use Rattle.bench.specs.Lines.{call_of}
use Rattle.bench.specs.declared.frame.Frame.{Frame}
use Rattle.bench.specs.declared.frame.Frame.TheVariants.{Event, Request, Update, Write, WideEvent}

-- what a frame's bytes say
unfoldable pub parsing : Unit {0}
unfolding frame_of event_frame request_frame update_frame write_frame wide_event_frame big_endian16 big_endian32
parsing = tt

-- no bytes
pub frame-none : (bytes : List ℕ) → length bytes ≡ 0 → None ≡ frame_of bytes
unfolding frame_of
frame-none [] e = refl
frame-none (kind ∷ fields) e = cc

-- ---- a frame's bytes hold its header

-- the header of a frame, if there is one
header : Option Frame → ℕ
header None = 0
header (Some f) = header_length f

-- a frame with data, and one without
header-and-data : (f : Frame) (bytes : List ℕ) → header (cond (leb (header_length f) (length bytes)) (Some f) None) ≤ length bytes
unfolding header
header-and-data f bytes =
    split (λ (g : Option Frame). header g ≤ length bytes) (leb (header_length f) (length bytes)) (leb-true (header_length f) (length bytes)) (λ t. zero-le)

header-alone : (f : Frame) (bytes : List ℕ) → header (cond (eqb (length bytes) (header_length f)) (Some f) None) ≤ length bytes
unfolding header
header-alone f bytes =
    split (λ (g : Option Frame). header g ≤ length bytes) (eqb (length bytes) (header_length f))
    (λ t. le_of_eq (sym (eqb-true (length bytes) (header_length f) t))) (λ t. zero-le)

header-fits : (bytes : List ℕ) → header (frame_of bytes) ≤ length bytes
unfolding frame_of event_frame request_frame update_frame write_frame wide_event_frame header_length header
header-fits [] = zero-le
header-fits (kind ∷ fields) =
    let bytes : List ℕ = kind ∷ fields in
    let holds : Option Frame → Type 0 = λ f. header f ≤ length bytes in
    split holds (eqb kind 1) (λ t. header-and-data (Event (get_or bytes 1 0) (get_or bytes 2 0)) bytes)
    (λ t. split holds (eqb kind 2) (λ t. header-alone (Request (big_endian32 bytes 1) (big_endian16 bytes 5)) bytes)
    (λ t. split holds (eqb kind 3) (λ t. header-and-data (Update (big_endian32 bytes 1)) bytes)
    (λ t. split holds (eqb kind 4) (λ t. header-alone (Write (big_endian32 bytes 1)) bytes)
    (λ t. split holds (eqb kind 5) (λ t. header-and-data (WideEvent (big_endian16 bytes 1) (get_or bytes 3 0)) bytes)
    (λ t. zero-le)))))

-- ---- the call of each frame, with the data as the code lends them

module _ (bytes : List ℕ) where
  -- a frame with data: there is room for its header, and its call takes what stands behind
  data-call : (f : Frame) (make : List ℕ → Call) → call_of (Some f) bytes ≡ Some (make (drop (header_length f) bytes)) → frame_of bytes ≡ Some f
      → (header_length f ≤ length bytes) × (call_of (frame_of bytes) bytes ≡ Some (make (take (length bytes - header_length f) (drop (header_length f) bytes))))
  unfolding header
  data-call f make is e = (rw e at (header-fits bytes), rw (e, part_end) is)

  pub event-call : {source pool : ℕ} → frame_of bytes ≡ Some (Event source pool)
      → (3 ≤ length bytes) × (call_of (frame_of bytes) bytes ≡ Some (event source pool (take (length bytes - 3) (drop 3 bytes))))
  unfolding call_of header_length
  event-call {source} {pool} e = data-call (Event source pool) (event source pool) refl e

  pub request-call : {clock count : ℕ} → frame_of bytes ≡ Some (Request clock count) → call_of (frame_of bytes) bytes ≡ Some (request clock (zeros count))
  unfolding call_of
  request-call e = rw e

  pub update-call : {clock : ℕ} → frame_of bytes ≡ Some (Update clock)
      → (5 ≤ length bytes) × (call_of (frame_of bytes) bytes ≡ Some (update clock (take (length bytes - 5) (drop 5 bytes))))
  unfolding call_of header_length
  update-call {clock} e = data-call (Update clock) (update clock) refl e

  pub write-call : {clock : ℕ} → frame_of bytes ≡ Some (Write clock) → call_of (frame_of bytes) bytes ≡ Some (write clock (zeros seed_size))
  unfolding call_of
  write-call e = rw e

  pub wide-event-call : {source pool : ℕ} → frame_of bytes ≡ Some (WideEvent source pool)
      → (4 ≤ length bytes) × (call_of (frame_of bytes) bytes ≡ Some (event source pool (take (length bytes - 4) (drop 4 bytes))))
  unfolding call_of header_length
  wide-event-call {source} {pool} e = data-call (WideEvent source pool) (event source pool) refl e

  pub no_frame-call : frame_of bytes ≡ None → call_of (frame_of bytes) bytes ≡ None
  unfolding call_of
  no_frame-call e = rw e
