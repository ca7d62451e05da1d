-- The traced station beside the reference model: its pieces are the events pending in each pool, and its uses of pools are the schedule's.
-- Assumes nothing.
use mathlib.Core.Path.{◌≡◌, refl, sym, ap, ap₂, subst, fun_ext, ◌∙◌}
use mathlib.Core.Bool.{Bool, true, false, cond, ◌&&◌}
use mathlib.Core.List.{List, [], ◌∷◌, ◌++◌, map, append-nil}
use Prim.Native.Nat.{ℕ, zero, suc, ◌+◌, ◌≤◌, ◌<◌}
use native.Mathlib.Numerals.{add-one}
use native.Mathlib.Omega.{arith}
use lib.Dec.{eqb}
use Rattle.laws.specs.Lists.{joined, select}
use Rattle.laws.proofs.Cases.{split}
use Rattle.laws.proofs.Lists.{joined-map}
use Rattle.hash.specs.ShaD.{D, pool_of, pool_digest}
use Rattle.hash.proofs.Laws.{pool-digest-is}
use Rattle.pools.specs.declared.Fortuna.{Fortuna}
use Rattle.pools.specs.Events.{pool_count, event_bytes}
use Rattle.pools.specs.Schedule.{used, used_pools}
use Rattle.pools.specs.State.{fresh, pool_at, due}
use Rattle.pools.specs.Effects.{next_reseed, digests}
use Rattle.pools.specs.Calls.{Call, event, reading_of, input_buffer, Outcome, outcome}
use Rattle.pools.proofs.Runs.{outcome-beside, from-beside}
use Rattle.quotas.specs.Entries.{Entry, entry_number, entry_step}
use Rattle.reference.specs.Runs.{state_after}
use Rattle.reference.specs.Reference.{Accepted, Reference, empty, pending, contents, pool_contents, append_event, reference_reseed, reference_effect, reference_step, reference_after, reference_entry_number}
use Rattle.reference.specs.Agreement.{concrete, concrete_outcome}
use Rattle.reference.specs.Timer.{requests}
use Rattle.reference.specs.Provenance.{Piece, PoolUse, erased, Traced, traced_fresh, due_for, puts_into, use_of, next_uses, traced_reseed, traced_accepted, traced_step, traced_from, traced, piece_of, scheduled_use, scheduled_uses}
use Rattle.reference.proofs.Schedule.{joined-used}
use Rattle.reference.proofs.Bookings.{pending-pieces, consumed-new, pending-consumed, pending-gone, pending-stays}
use Rattle.reference.proofs.Invariant.{Sound, sound_empty, events-noted}
use Rattle.reference.proofs.Concrete.{pool-concrete, due-concrete}
use Rattle.reference.proofs.Simulation.{used-concrete, used-pools-concrete}
use Rattle.reference.proofs.Moves.{Moved, reseed-moves}
use Rattle.reference.proofs.Advances.{Shape, appended, moved, due_call, effect-shape}
use Rattle.reference.proofs.Agreement.{entry-agrees, step-agrees, step-sound, fresh-concrete}

-- ---- pieces

-- the bytes of the pieces of any records, and of accepted events
pub erased-pieces : {A : Type 0} (piece : A → Piece) (l : List A) → erased (map piece l) ≡ joined (λ (x : A). (piece x).bytes) l
unfolding erased
erased-pieces piece l = joined-map (λ (p : Piece). p.bytes) piece l

pub erased-map : (es : List Accepted) → erased (map piece_of es) ≡ contents es
unfolding contents piece_of
erased-map es = erased-pieces piece_of es

joined-each :
    {A B C : Type 0} (f : B → List C) (g : A → B) (l : List A) → joined f (joined (λ a. g a ∷ []) l) ≡ joined (λ a. f (g a)) l
unfolding joined
joined-each f g [] = refl
joined-each {C} f g (x ∷ l) = ap (λ (m : List C). f (g x) ++ m) (joined-each f g l)

-- ---- what the model says of the pieces

pub record Tags (t : Traced) (b : Reference) : Type 0 where
  pub reseeds : t.reseeds ≡ b.reseeds
  pub pieces : (i : ℕ) → i < pool_count → t.pieces i ≡ map piece_of (select (pending b.reseeds i) b.events)
  pub uses : t.uses ≡ scheduled_uses b.events b.reseeds

pub record Tied (t : Traced) (b : Reference) : Type 0 where
  pub state : t.state ≡ concrete b
  pub tags : Tags t b

module _ (t : Traced) (b : Reference) (tied : Tied t b) where
  -- each pool is the running hash of its pieces' bytes
  pub tied-string : (i : ℕ) → i < pool_count → pool_at t.state i ≡ pool_of (erased (t.pieces i))
  tied-string i h =
      ap (λ (s : Fortuna). pool_at s i) tied.state ∙ pool-concrete b i h
      ∙ ap pool_of (unfold pool_contents in sym (ap erased (tied.tags.pieces i h) ∙ erased-map _))

  -- and the next pool reseed hashes those strings
  pub tied-digests : digests t.state (next_reseed t.state) ≡ joined (λ u. D (erased u.pieces)) (next_uses t)
  tied-digests =
      unfold digests next_uses use_of in
      (joined-used
      _
      (λ i. D (erased (t.pieces i)))
      (next_reseed t.state)
      (λ i h u. ap pool_digest (tied-string i h) ∙ pool-digest-is (erased (t.pieces i)))
      ∙ sym
      (joined-each
      (λ (u : PoolUse). D (erased u.pieces))
      (λ i. record { reseed_number = t.reseeds + 1; pool = i; pieces = t.pieces i })
      (used_pools (next_reseed t.state))))

-- ---- a pool reseed

module _ (t : Traced) (b : Reference) (clock : ℕ) (s : Sound b) (tied : Tied t b) where
  same-pools : used_pools (next_reseed t.state) ≡ used_pools (b.reseeds + 1)
  same-pools = ap (λ (x : Fortuna). used_pools (next_reseed x)) tied.state ∙ used-pools-concrete b

  left-pieces :
      (i : ℕ) → i < pool_count →
      cond (used (next_reseed t.state) i) [] (t.pieces i) ≡ map piece_of (select (pending (b.reseeds + 1) i) b.events)
  left-pieces i h =
      ap (λ (u : Bool). cond u [] (t.pieces i)) (ap (λ (x : Fortuna). used (next_reseed x) i) tied.state ∙ used-concrete b i h)
      ∙ split (λ (p : List Piece). p ≡ map piece_of (select (pending (b.reseeds + 1) i) b.events)) (used (b.reseeds + 1) i)
      (λ u. sym (ap (map piece_of) (pending-gone b.reseeds i b.events s.past u)))
      (λ u. tied.tags.pieces i h ∙ ap (map piece_of) (sym (pending-stays b.reseeds i b.events s.past u)))

  one-use : (i : ℕ) → i < pool_count → used (b.reseeds + 1) i ≡ true → use_of t i ≡ scheduled_use b.events (b.reseeds + 1) i
  unfolding use_of scheduled_use
  one-use i h u = λ k.
      record {
        reseed_number = tied.tags.reseeds k + 1;
        pool = i;
        pieces = (tied.tags.pieces i h ∙ ap (map piece_of) (pending-consumed b.reseeds i b.events s.past u)) k;
      } ∷ []

  new-uses : next_uses t ≡ joined (scheduled_use b.events (b.reseeds + 1)) (used_pools (b.reseeds + 1))
  unfolding next_uses
  new-uses =
      ap (joined (use_of t)) same-pools
      ∙ joined-used (use_of t) (scheduled_use b.events (b.reseeds + 1)) (b.reseeds + 1) one-use

  all-uses : t.uses ++ next_uses t ≡ scheduled_uses b.events (b.reseeds + 1)
  all-uses =
      ap₂ (λ (x y : List PoolUse). x ++ y) tied.tags.uses (rw add-one at new-uses) ∙ (unfold scheduled_uses in rw add-one refl)

  reseed-tags : Tags (traced_reseed t) (reference_reseed b clock)
  unfolding traced_reseed reference_reseed
  reseed-tags = record { reseeds = ap (λ (n : ℕ). n + 1) tied.tags.reseeds; pieces = left-pieces; uses = all-uses }

-- ---- an event

-- it belongs to no reseed made before
uses-event :
    (es : List Accepted) (e : Accepted) (n : ℕ) → n ≤ e.reseeds_before → scheduled_uses (es ++ (e ∷ [])) n ≡ scheduled_uses es n
unfolding scheduled_uses scheduled_use
uses-event es e zero h = refl
uses-event es e (suc n) h =
    ap₂ (λ (x y : List PoolUse). x ++ y) (uses-event es e n (omega arith))
    (joined-used _ _ (suc n)
    (λ i _ _ k. record { reseed_number = suc n; pool = i; pieces = map piece_of (consumed-new i es e (suc n) h k) } ∷ []))

event-tags :
    (place : ℕ) (t : Traced) (b : Reference) (source pool : ℕ) (content : List ℕ) → Tags t b →
    Tags (traced_accepted place t (event source pool content)) (append_event place b pool (event_bytes source content))
unfolding traced_accepted due_for requests puts_into
event-tags place t b source pool content g =
    record {
      reseeds = unfold append_event in g.reseeds;
      pieces = λ i h.
          rw (events-noted place b pool (event_bytes source content))
          (unfold append_event piece_of in
          ap (λ (l : List Piece). l ++ cond (eqb pool i) (piece_of e ∷ []) []) (g.pieces i h) ∙ sym (pending-pieces i b.events e));
      uses =
          rw (events-noted place b pool (event_bytes source content))
          (unfold append_event in g.uses ∙ sym (uses-event b.events e b.reseeds (omega arith)));
    }
  where
    e : Accepted
    e = record { place = place; pool = pool; bytes = event_bytes source content; reseeds_before = b.reseeds }

-- ---- a request or a seed call

-- the pieces after a call that puts nothing into a pool
quiet : Traced → Traced
quiet t = record { state = t.state; reseeds = t.reseeds; pieces = λ i. t.pieces i ++ []; uses = t.uses }

-- the model's states with the same R and events have the same pieces
quiet-tags : (t : Traced) (x y : Reference) → x.reseeds ≡ y.reseeds → x.events ≡ y.events → Tags t x → Tags (quiet t) y
unfolding quiet
quiet-tags t x y p q h =
    record {
      reseeds = h.reseeds ∙ p;
      pieces = λ i k.
          append-nil (t.pieces i) ∙ h.pieces i k
          ∙ ap₂ (λ (r : ℕ) (es : List Accepted). map piece_of (select (pending r i) es)) p q;
      uses = h.uses ∙ ap₂ (λ (r : ℕ) (es : List Accepted). scheduled_uses es r) p q;
    }

accepted-quiet :
    (place : ℕ) (t : Traced) (c : Call) (d : Bool) → due_for t.state c ≡ d → ((i : ℕ) → puts_into place c i ≡ []) →
    traced_accepted place t c ≡ quiet (cond d (traced_reseed t) t)
unfolding traced_accepted quiet
accepted-quiet place t c d e p =
    ap (λ (u : Bool). with-pieces (cond u (traced_reseed t) t) (puts_into place c)) e ∙ ap (with-pieces (cond d (traced_reseed t) t)) (fun_ext p)
  where
    with-pieces : Traced → (ℕ → List Piece) → Traced
    with-pieces m f = record { state = m.state; reseeds = m.reseeds; pieces = λ i. m.pieces i ++ f i; uses = m.uses }

module _ (t : Traced) (b : Reference) (clock : ℕ) (s : Sound b) (tied : Tied t b) where
  due-tags : (d : Bool) → Tags (cond d (traced_reseed t) t) (cond d (reference_reseed b clock) b)
  due-tags true = reseed-tags t b clock s tied
  due-tags false = tied.tags

  moved-tags : (d : Bool) (x : Reference) → Moved b d clock x → Tags (quiet (cond d (traced_reseed t) t)) x
  moved-tags d x m =
      let r = reseed-moves b clock d in
      quiet-tags _ (cond d (reference_reseed b clock) b) x (r.reseeds ∙ sym m.reseeds) (r.events ∙ sym m.events) (due-tags d)

-- ---- a call

same-due : (t : Traced) (b : Reference) → Tied t b → (c : Call) → due_for t.state c ≡ due_call b c
unfolding due_for due_call
same-due t b tied c =
    ap (λ (d : Bool). requests c && d) (ap (λ (y : Fortuna). due y (reading_of c)) tied.state ∙ due-concrete b (reading_of c))

shape-tags :
    (place : ℕ) (t : Traced) (b : Reference) → Sound b → Tied t b → (c : Call) (x : Reference) → Shape place b c x →
    Tags (traced_accepted place t c) x
shape-tags place t b s tied c x (appended source pool content q e) = rw (q, e) (event-tags place t b source pool content tied.tags)
shape-tags place t b s tied c x (moved p m) =
    subst (λ (r : Traced). Tags r x) (sym (accepted-quiet place t c (due_call b c) (same-due t b tied c) p))
    (moved-tags t b (reading_of c) s tied (due_call b c) x m)

step-tied :
    (place : ℕ) (t : Traced) (b : Reference) → Sound b → Tied t b → (c : Entry) →
    Tied (traced_step place t c) (reference_step place b c).effect.next
step-tied place t b s tied c =
    record {
      state =
          unfold traced_step concrete_outcome in
          ap (λ (o : Outcome Fortuna). o.effect.next) (ap (λ (x : Fortuna). entry_step x c) tied.state ∙ step-agrees place b s c);
      tags = unfold traced_step in record { reseeds = after.reseeds; pieces = after.pieces; uses = after.uses };
    }
  where
    same_number : entry_number t.state c ≡ reference_entry_number b c
    same_number = ap (λ (x : Fortuna). entry_number x c) tied.state ∙ entry-agrees b s c

    after : Tags (cond (eqb (entry_number t.state c) 0) (traced_accepted place t c.call) t) (reference_step place b c).effect.next
    after =
        subst
        (λ (n : ℕ). Tags (cond (eqb n 0) (traced_accepted place t c.call) t) (reference_step place b c).effect.next)
        (sym same_number)
        (unfold reference_step outcome in
        outcome-beside Tags (reference_entry_number b c) (input_buffer c.call) b (reference_effect place b c.call) t _ tied.tags
        (λ e. shape-tags place t b s tied c.call _ (effect-shape place b c.call)))

-- ---- every run

fresh-tied : Tied traced_fresh empty
unfolding traced_fresh
fresh-tied =
    record {
      state = fresh-concrete;
      tags = unfold empty select scheduled_uses in record { reseeds = refl; pieces = λ i h. refl; uses = refl };
    }

pub run-tied : (calls : List Entry) → Tied (traced calls) (reference_after calls)
unfolding traced traced_from reference_after
run-tied calls =
    (from-beside traced_step traced_from (λ place t. refl) (λ place t c later. refl) reference_step (λ (t : Traced) (b : Reference). Sound b × Tied t b)
    (λ place t b h c. (step-sound place b h.0 c, step-tied place t b h.0 h.1 c)) calls 0 traced_fresh empty (sound_empty, fresh-tied)).1

-- the traced station's state is the station's
pub run-state : (calls : List Entry) → (traced calls).state ≡ state_after calls
unfolding traced traced_from state_after
run-state calls =
    from-beside traced_step traced_from (λ place t. refl) (λ place t c later. refl) (λ place. entry_step) (λ (t : Traced) (s : Fortuna). t.state ≡ s)
    (λ place t s h c. unfold traced_step in ap (λ (x : Fortuna). (entry_step x c).effect.next) h) calls 0 traced_fresh fresh (unfold traced_fresh in refl)
