-- The events of the calls: the reference model's accepted events have their bytes, in the same order.
-- Assumes nothing.
use mathlib.Core.Path.{◌≡◌, refl, sym, ap, subst, ◌∙◌}
use mathlib.Core.Bool.{Bool, true, false, cond, ◌&&◌, true≢false}
use mathlib.Core.Logic.{⊎_elim}
use mathlib.Core.List.Memᴰ
use mathlib.Core.List.{List, [], ◌∷◌, ◌++◌, append_assoc, append-nil}
use Prim.Native.Nat.{ℕ, ◌+◌, ◌*◌, ◌/◌, ◌^◌}
use lib.Dec.{eqb}
use lib.ListN.{length}
use borrow.Author.Tests.{eqb-true, eqb-false}
use Rattle.laws.specs.Lists.{joined, select}
use Rattle.laws.proofs.Cases.{by-test, split}
use Rattle.laws.proofs.Lists.{joined-append}
use Rattle.laws.proofs.Selections.{select-append}
use Rattle.pools.specs.Calls.{Call, event, request, update, write, draw, shuffle}
use Rattle.quotas.specs.Entries.{Quotas, Entry, taking, entry_number}
use Rattle.reference.specs.Runs.{state_after}
use Rattle.reference.specs.Timer.{reseeds_after}
use Rattle.reference.specs.Reference.{Accepted, scheduled_reseed, scheduled, contents, reference_after, reference_entry_number}
use Rattle.reference.specs.Provenance as Provenance
use Rattle.reference.proofs.Places.{new_event, none-added, event-added}
use Rattle.reference.proofs.Provenance.{same-reseeds, same_number}
use Rattle.reference.proofs.Laws.{accepted-passed, no-events}
use Rattle.history.specs.Strings.{Event, bytes_of, string_of, Allowed, AllAllowed}
use Rattle.history.specs.Runs.{booked_event, accepted_event, accepted_from}
use Rattle.history.proofs.Histories.{none_allowed}

-- ---- strings of lists put together

pub string-append : (es fs : List Event) → string_of (es ++ fs) ≡ string_of es ++ string_of fs
unfolding string_of
string-append es fs = joined-append bytes_of es fs

contents-append : (es fs : List Accepted) → contents (es ++ fs) ≡ contents es ++ contents fs
unfolding contents
contents-append es fs = joined-append (λ e. e.bytes) es fs

-- ---- which calls are events

pub is_event : Call → Bool
is_event (event source pool content) = true
is_event (request clock buffer) = false
is_event (update clock seed) = false
is_event (write clock seed) = false
is_event (draw clock n d) = false
is_event (shuffle clock list) = false

pub no-event : (c : Call) → is_event c ≡ false → (source pool : ℕ) (content : List ℕ) → c ≡ event source pool content → ⊥
unfolding is_event
no-event c o source pool content h = true≢false (sym (ap is_event h) ∙ o)

-- a claim about calls, for events and for the others
pub by_kind :
    (P : Call → Type 0) → ((source pool : ℕ) (content : List ℕ) → P (event source pool content)) → ((c : Call) → is_event c ≡ false → P c) →
    (c : Call) → P c
unfolding is_event
by_kind P e o (event source pool content) = e source pool content
by_kind P e o (request clock buffer) = o (request clock buffer) refl
by_kind P e o (update clock seed) = o (update clock seed) refl
by_kind P e o (write clock seed) = o (write clock seed) refl
by_kind P e o (draw clock n d) = o (draw clock n d) refl
by_kind P e o (shuffle clock list) = o (shuffle clock list) refl

module _ (test : ℕ → Bool) (i : ℕ) where
  none-booked : (r : ℕ) (c : Call) → is_event c ≡ false → booked_event test i r c ≡ []
  unfolding is_event booked_event
  none-booked r (event source pool content) o = absurd (true≢false o)
  none-booked r (request clock buffer) o = refl
  none-booked r (update clock seed) o = refl
  none-booked r (write clock seed) o = refl
  none-booked r (draw clock n d) o = refl
  none-booked r (shuffle clock list) o = refl

  pub none-accepted : (before : List Entry) (c : Entry) → is_event c.call ≡ false → accepted_event test i before c ≡ []
  unfolding accepted_event
  none-accepted before c o =
      split (λ (l : List Event). l ≡ []) (eqb (entry_number (state_after before) c) 0)
      (λ _. none-booked (reseeds_after before) c.call o) (λ _. refl)

-- ---- accepted events are allowed

singleton-allowed : (e : Event) → Allowed e → AllAllowed (e ∷ [])
singleton-allowed e a x m = subst Allowed (sym (Memᴰ.eq_of_singleton m)) a

module _ (test : ℕ → Bool) (i : ℕ) where
  one-allowed :
      (before : List Entry) (q : Quotas) (source pool : ℕ) (content : List ℕ) →
      AllAllowed (accepted_event test i before (taking q (event source pool content)))
  unfolding accepted_event booked_event
  one-allowed before q source pool content =
      let this = taking q (event source pool content) in
      split AllAllowed (eqb (entry_number (state_after before) this) 0)
      (λ t.
      let p = accepted-passed (state_after before) q source pool content (eqb-true _ 0 t) in
      split AllAllowed (eqb pool i && test (2 ^ pool * (reseeds_after before / 2 ^ pool + 1)))
      (λ _. singleton-allowed (record { source = source; content = content }) (record { known = p.known; some = p.some; short = p.short }))
      (λ _. none_allowed))
      (λ _. none_allowed)

  event-allowed : (before : List Entry) (q : Quotas) (c : Call) → AllAllowed (accepted_event test i before (taking q c))
  event-allowed before q =
      by_kind (λ c. AllAllowed (accepted_event test i before (taking q c))) (one-allowed before q)
      (λ c o. subst AllAllowed (sym (none-accepted test i before (taking q c) o)) none_allowed)

  pub all-allowed : (calls before : List Entry) → AllAllowed (accepted_from test i before calls)
  unfolding accepted_from
  all-allowed [] before = none_allowed
  all-allowed (c ∷ calls) before =
      λ x m.
      ⊎_elim (λ k. event-allowed before c.quotas c.call x k) (λ k. all-allowed calls (before ++ (c ∷ [])) x k)
      (Memᴰ.append_cases (accepted_event test i before c) m)

  -- ---- the model's events of pool i whose reseed passes the test

  passes : Accepted → Bool
  passes e = eqb e.pool i && test (scheduled e)

  abbrev bytes_after : List Entry → List ℕ
  bytes_after calls = contents (select passes (reference_after calls).events)

  -- a call that adds none
  abbrev Adds : List Entry → Entry → Type 0
  Adds before c = bytes_after (before ++ (c ∷ [])) ≡ bytes_after before ++ string_of (accepted_event test i before c)

  adds_none : (before : List Entry) (c : Entry) → (reference_entry_number (reference_after before) c ≡ 0 → Provenance.NoEvent c)
      → accepted_event test i before c ≡ [] → Adds before c
  adds_none before c h e =
      rw (none-added before c h, e) (unfold string_of joined in sym (append-nil (bytes_after before)))

  refused-adds : (before : List Entry) (c : Entry) → eqb (entry_number (state_after before) c) 0 ≡ false → Adds before c
  unfolding accepted_event
  refused-adds before c t = adds_none before c (λ k. absurd (eqb-false _ 0 t (same_number before c ∙ k))) (rw t)

  other-adds : (before : List Entry) (c : Entry) → is_event c.call ≡ false → Adds before c
  other-adds before c o = adds_none before c (λ _. no-event c.call o) (none-accepted test i before c o)

  module _ (before : List Entry) (q : Quotas) (source pool : ℕ) (content : List ℕ)
      (t : eqb (entry_number (state_after before) (taking q (event source pool content))) 0 ≡ true) where
    abbrev noted : Accepted
    noted = new_event (length before) (reference_after before) source pool content

    -- its bytes, whether it passes or not
    own-bytes : (b : Bool) → contents (cond b (noted ∷ []) []) ≡ string_of (cond b (record { source = source; content = content } ∷ []) [])
    unfolding contents string_of bytes_of joined
    own-bytes true = refl
    own-bytes false = refl

    told : string_of (cond (passes noted) (record { source = source; content = content } ∷ []) [])
        ≡ string_of (accepted_event test i before (taking q (event source pool content)))
    unfolding passes accepted_event booked_event scheduled scheduled_reseed
    told = rw (t, same-reseeds before)

    event-adds : Adds before (taking q (event source pool content))
    event-adds =
        let c = taking q (event source pool content) in
        let accepted : reference_entry_number (reference_after before) c ≡ 0 = sym (same_number before c) ∙ eqb-true _ 0 t in
        ap (λ (es : List Accepted). contents (select passes es)) (event-added before q source pool content accepted)
        ∙ ap contents (select-append passes (reference_after before).events noted)
        ∙ contents-append (select passes (reference_after before).events) (cond (passes noted) (noted ∷ []) [])
        ∙ ap (λ (l : List ℕ). bytes_after before ++ l) (own-bytes (passes noted) ∙ told)

  call-adds : (before : List Entry) (q : Quotas) (c : Call) → Adds before (taking q c)
  call-adds before q =
      by_kind (λ c. Adds before (taking q c))
      (λ source pool content.
      let this = taking q (event source pool content) in
      by-test (eqb (entry_number (state_after before) this) 0) (Adds before this)
      (event-adds before q source pool content) (refused-adds before this))
      (λ c o. other-adds before (taking q c) o)

  from-calls : (calls before : List Entry) → bytes_after (before ++ calls) ≡ bytes_after before ++ string_of (accepted_from test i before calls)
  unfolding accepted_from
  from-calls [] before =
      ap bytes_after (append-nil before) ∙ (unfold string_of joined in sym (append-nil (bytes_after before)))
  from-calls (c ∷ calls) before =
      ap bytes_after (sym (append_assoc before (c ∷ []) calls))
      ∙ from-calls calls (before ++ (c ∷ []))
      ∙ ap (λ (l : List ℕ). l ++ string_of (accepted_from test i (before ++ (c ∷ [])) calls)) (call-adds before c.quotas c.call)
      ∙ append_assoc (bytes_after before) (string_of (accepted_event test i before c)) (string_of (accepted_from test i (before ++ (c ∷ [])) calls))
      ∙ ap (λ (l : List ℕ). bytes_after before ++ l)
      (sym (string-append (accepted_event test i before c) (accepted_from test i (before ++ (c ∷ [])) calls)))

  pub events-string :
      (calls : List Entry) →
      contents (select (λ e. eqb e.pool i && test (scheduled e)) (reference_after calls).events) ≡ string_of (accepted_from test i [] calls)
  unfolding passes
  events-string calls =
      from-calls calls []
      ∙ ap (λ (es : List Accepted). contents (select passes es) ++ string_of (accepted_from test i [] calls)) no-events
      ∙ (unfold select contents joined in refl)
