-- A fresh station's pool gains any list of allowed events, 22 aside. So the strings that a pool can hold are those that are read to their end.
-- Assumes nothing.
use mathlib.Core.Path.{◌≡◌, refl, sym, ap, ap₂, subst, ◌∙◌}
use mathlib.Core.Bool.{Bool}
use mathlib.Core.List.Memᴰ
use mathlib.Core.List.{List, [], ◌∷◌, ◌++◌, map, map-append, append_assoc, append-nil}
use Prim.Native.Nat.{ℕ, ◌+◌, ◌*◌, ◌/◌, ◌^◌, ◌≤◌, ◌<◌}
use native.Mathlib.Omega.{arith}
use lib.Dec.{ltb}
use lib.ListN.{length, length-append}
use borrow.Author.Tests.{lt-ltb, eq-eqb}
use Rattle.laws.proofs.Lists.{joined-one}
use Rattle.hash.specs.ShaD.{max_pool_length}
use Rattle.pools.specs.declared.Fortuna.{Fortuna}
use Rattle.pools.specs.Events.{pool_count, gain}
use Rattle.pools.proofs.Acceptance.{event-accepted}
use Rattle.pools.specs.Calls.{event, Outcome}
use Rattle.quotas.specs.Entries.{without, Entry, taking, entry_number, entry_step}
use Rattle.reference.specs.Runs.{run, state_after}
use Rattle.reference.specs.Reference.{scheduled_reseed}
use Rattle.reference.specs.Timer.{reseeds_after}
use Rattle.reference.proofs.Schedule.{scheduled-later}
use Rattle.reference.proofs.Correct.{run-correct}
use Rattle.reference.proofs.Laws.{bare-number, event-number, event-makes-none, reseeds-none, reseeds-more}
use Rattle.history.specs.Strings.{Event, bytes_of, string_of, Allowed, AllAllowed}
use Rattle.history.specs.Reader.{History, history}
use Rattle.history.specs.Runs.{booked_event, accepted_event, accepted_from, waiting_in, string_in}
use Rattle.history.specs.RunStatements.{events_into, GainedLaw, PoolStringLaw}
use Rattle.history.proofs.Strings.{length-bytes}
use Rattle.history.proofs.Histories.{history-laws}
use Rattle.history.proofs.Calls.{string-append}
use Rattle.history.proofs.Runs.{held, held-model}

-- ---- one call more

module _ (test : ℕ → Bool) (i : ℕ) where
  accepted-append :
      (calls before : List Entry) (c : Entry) →
      accepted_from test i before (calls ++ (c ∷ [])) ≡ accepted_from test i before calls ++ accepted_event test i (before ++ calls) c
  unfolding accepted_from
  accepted-append [] before c =
      append-nil (accepted_event test i before c) ∙ ap (λ (l : List Entry). accepted_event test i l c) (sym (append-nil before))
  accepted-append (d ∷ calls) before c =
      ap (λ (l : List Event). accepted_event test i before d ++ l)
      (accepted-append calls (before ++ (d ∷ [])) c
      ∙ ap (λ (l : List Entry). accepted_from test i (before ++ (d ∷ [])) calls ++ accepted_event test i l c) (append_assoc before (d ∷ []) calls))
      ∙ sym (append_assoc (accepted_event test i before d) (accepted_from test i (before ++ (d ∷ [])) calls)
      (accepted_event test i (before ++ (d ∷ calls)) c))

-- ---- lists that 22 leaves

abbrev Within : List Event → Type 0
Within es = length (string_of es) ≤ max_pool_length

shorter : (es fs : List Event) → Within (es ++ fs) → Within es
shorter es fs w =
    let whole = ap length (string-append es fs) ∙ length-append (string_of es) (string_of fs) in
    omega (arith, whole)

-- ---- an allowed event into pool i

module _ (i : ℕ) (h : i < pool_count) where
  abbrev into : Event → Entry
  into e = taking without (event e.source i e.content)

  -- ---- a list of them

  -- what has come of the first events of a list
  record Gaining (es : List Event) : Type 0 where
    numbers : map (λ (o : Outcome Fortuna). o.number) (run (events_into i es)) ≡ map (λ e. 0) es
    none : reseeds_after (events_into i es) ≡ 0
    waits : waiting_in (events_into i es) i ≡ es

  one_more : (es : List Event) (e : Event) → events_into i (es ++ (e ∷ [])) ≡ events_into i es ++ (into e ∷ [])
  unfolding events_into
  one_more es e = map-append into es (e ∷ [])

  module _ (es : List Event) (e : Event) (g : Gaining es) (a : Allowed e) (room : Within (es ++ (e ∷ []))) where
    abbrev calls : List Entry
    calls = events_into i es

    held-is : string_in calls i ≡ string_of es
    held-is = (held calls i h).string ∙ ap string_of g.waits

    grown : length (string_of (es ++ (e ∷ []))) ≡ length (string_of es) + gain (length e.content)
    grown =
        ap length (string-append es (e ∷ [])) ∙ length-append (string_of es) (string_of (e ∷ []))
        ∙ ap (λ (n : ℕ). length (string_of es) + n) (ap length last-bytes ∙ length-bytes e)
      where
        last-bytes : string_of (e ∷ []) ≡ bytes_of e
        last-bytes = unfold string_of in joined-one bytes_of e

    accepted : entry_number (state_after calls) (into e) ≡ 0
    accepted =
        bare-number calls e.source i e.content
        ∙ event-accepted _ e.source i (length e.content) (record { known = a.known; place = h; some = a.some; short = a.short })
        (subst (λ (n : ℕ). n + gain (length e.content) ≤ max_pool_length) (sym (ap length (sym (held-model calls i h) ∙ held-is)))
        (subst (λ (n : ℕ). n ≤ max_pool_length) grown room))

    number_is : (entry_step (state_after calls) (into e)).number ≡ 0
    number_is = event-number (state_after calls) without e.source i e.content ∙ accepted

    event-is : accepted_event (λ k. ltb 0 k) i calls (into e) ≡ e ∷ []
    unfolding accepted_event booked_event scheduled_reseed
    event-is =
        rw (accepted, eq-eqb i i refl, lt-ltb 0 (2 ^ i * (reseeds_after calls / 2 ^ i + 1)) (omega (arith, scheduled-later i (reseeds_after calls))))

    none_after : reseeds_after (calls ++ (into e ∷ [])) ≡ 0
    none_after =
        reseeds-more calls (into e)
        ∙ rw (event-makes-none (state_after calls) without e.source i e.content) (omega (arith, g.none))

    waits-after : waiting_in (calls ++ (into e ∷ [])) i ≡ es ++ (e ∷ [])
    unfolding waiting_in
    waits-after =
        ap (λ (n : ℕ). accepted_from (λ k. ltb n k) i [] (calls ++ (into e ∷ []))) none_after
        ∙ accepted-append (λ k. ltb 0 k) i calls [] (into e)
        ∙ ap₂ (λ (x y : List Event). x ++ y) (ap (λ (n : ℕ). accepted_from (λ k. ltb n k) i [] calls) (sym g.none) ∙ g.waits) event-is

    gains : Gaining (es ++ (e ∷ []))
    gains =
        record {
          numbers =
              ap (λ (l : List Entry). map (λ (o : Outcome Fortuna). o.number) (run l)) (one_more es e)
              ∙ ap (map (λ (o : Outcome Fortuna). o.number)) ((run-correct calls).steps.more calls (into e))
              ∙ map-append (λ (o : Outcome Fortuna). o.number) (run calls) (entry_step (state_after calls) (into e) ∷ [])
              ∙ ap₂ (λ (x : List ℕ) (y : ℕ). x ++ (y ∷ [])) g.numbers number_is
              ∙ sym (map-append (λ (x : Event). 0) es (e ∷ []));
          none = ap reseeds_after (one_more es e) ∙ none_after;
          waits = ap (λ (l : List Entry). waiting_in l i) (one_more es e) ∙ waits-after;
        }

  gaining-none : Gaining []
  unfolding events_into waiting_in accepted_from
  gaining-none =
      record { numbers = ap (map (λ (o : Outcome Fortuna). o.number)) (run-correct []).steps.none; none = reseeds-none; waits = refl }

  -- the events es after ds
  gaining : (es ds : List Event) → Gaining ds → AllAllowed es → Within (ds ++ es) → Gaining (ds ++ es)
  gaining [] ds g a room = subst Gaining (sym (append-nil ds)) g
  gaining (e ∷ es) ds g a room =
      let whole = append_assoc ds (e ∷ []) es in
      let within : Within ((ds ++ (e ∷ [])) ++ es) = subst Within (sym whole) room in
      let more = gains ds e g (a e (Memᴰ.head refl)) (shorter (ds ++ (e ∷ [])) es within) in
      subst Gaining whole
      (gaining es (ds ++ (e ∷ [])) more (λ x m. a x (Memᴰ.tail m)) within)

-- ---- the claims

pub gained : GainedLaw
gained i es h a room =
    let g = gaining i h es [] (gaining-none i h) a room in
    record { numbers = g.numbers; string = (held (events_into i es) i h).string ∙ ap string_of g.waits }

pub pool-strings : PoolStringLaw
pool-strings string bytes room =
    let law = history-laws string bytes in (
      λ r calls i h same.
          let read : (history (string_in calls i)).number ≡ 0 = ap (λ (x : History). x.number) (held calls i h).worked in
          let z : (history string).number ≡ 0 = subst (λ (s : List ℕ). (history s).number ≡ 0) same read in
          absurd (omega (arith, r)),
      λ none.
          law.refused.1
          (λ es a same.
          none (events_into 0 es) 0 (unfold pool_count in omega arith)
          ((gained 0 es (unfold pool_count in omega arith) a (subst (λ (s : List ℕ). length s ≤ max_pool_length) (sym same) room)).string ∙ same)),
    )
