-- A string read from 0: a list's string gives the list, and exactly the strings that no list gives come to 44.
-- Assumes nothing.
use mathlib.Core.Path.{◌≡◌, refl, sym, ap, subst, ◌∙◌}
use mathlib.Core.Logic.{◌⊎◌, inl, inr, ⊎_elim}
use mathlib.Core.List.Memᴰ
use mathlib.Core.List.{List, [], ◌∷◌, ◌++◌, append_assoc, append-nil}
use Prim.Native.Nat.{ℕ, zero, suc, ◌+◌, ◌≤◌, ◌<◌}
use native.Mathlib.Omega.{arith}
use lib.ListN.{length, drop, length-append}
use lib.Seq.{drop-length}
use Rattle.laws.specs.Lists.{joined}
use Rattle.pools.specs.Events.{header_length, gain}
use Rattle.history.specs.Strings.{Event, bytes_of, string_of, Allowed, AllAllowed}
use Rattle.history.specs.Reader.{entry, the_end, no_event, Answer, length_at, entry_at, found_event, History, then_read, history_from, history}
use Rattle.history.specs.Statements.{Bytes, Stands, ReadBack, HistoryLaws}
use Rattle.history.proofs.Strings.{length-bytes}
use Rattle.history.proofs.Entries.{event_here, Finding, at-end, at-event, at-nothing, finding, at_place}
use Rattle.history.proofs.Entries.{here-allowed, here-stands, tested, next-is, entry-end, entry-laws}

first-allowed : (e : Event) (es : List Event) → AllAllowed (e ∷ es) → Allowed e
first-allowed e es a = a e (Memᴰ.head refl)

others-allowed : (e : Event) (es : List Event) → AllAllowed (e ∷ es) → AllAllowed es
others-allowed e es a x m = a x (Memᴰ.tail m)

cons-allowed : (e : Event) (es : List Event) → Allowed e → AllAllowed es → AllAllowed (e ∷ es)
cons-allowed e es a b x m = ⊎_elim (λ q. subst Allowed (sym q) a) (λ n. b x n) (Memᴰ.cases_cons m)

-- one entry more in front
led : Event → History → History
led e h = record { events = e ∷ h.events; number = h.number; place = h.place }

found-led : (n : ℕ) (string : List ℕ) (place source from next : ℕ) → entry_at string place ≡ entry source from next
    → history_from (suc n) string place ≡ led (found_event string source from next) (history_from n string next)
unfolding history_from led
found-led n string place source from next h =
    ap (λ (x : Answer). then_read string x (history_from n string)) h ∙ (unfold then_read in refl)

-- a reading that came to the end of the string
complete : List Event → List ℕ → History
complete es string = record { events = es; number = 0; place = length string }

at-the-end : (n : ℕ) (string : List ℕ) (place : ℕ) → entry_at string place ≡ the_end
    → history_from (suc n) string place ≡ complete [] string
unfolding history_from complete
at-the-end n string place h = ap (λ (x : Answer). then_read string x (history_from n string)) h ∙ (unfold then_read in refl)

at-no-event : (n : ℕ) (string : List ℕ) (place p : ℕ) → entry_at string place ≡ no_event p
    → history_from (suc n) string place ≡ record { events = []; number = 44; place = p }
unfolding history_from
at-no-event n string place p h = ap (λ (x : Answer). then_read string x (history_from n string)) h ∙ (unfold then_read in refl)

-- ---- a list's string

led-by : {e f : Event} {h k : History} → e ≡ f → h ≡ k → led e h ≡ led f k
led-by p q = λ i. led (p i) (q i)

shorter : (e : Event) (es : List Event) (n : ℕ) → length (string_of (e ∷ es)) < suc n → length (string_of es) < n
unfolding string_of joined gain header_length
shorter e es n h =
    let l : length (bytes_of e ++ joined bytes_of es) ≡ gain (length e.content) + length (joined bytes_of es) = rw (length-append, length-bytes e) in
    omega arith

-- the string read on behind an event
onward : (e : Event) (es : List Event) (front : List ℕ) (n : ℕ)
    → history_from n ((front ++ bytes_of e) ++ string_of es) (length (front ++ bytes_of e)) ≡ complete es ((front ++ bytes_of e) ++ string_of es)
    → history_from n (front ++ string_of (e ∷ es)) (length front + length (bytes_of e)) ≡ complete es (front ++ string_of (e ∷ es))
unfolding string_of joined
onward e es front n h = rw (← append_assoc front (bytes_of e) (joined bytes_of es), ← length-append front (bytes_of e)) h

led-complete : (e : Event) (es : List Event) (string : List ℕ) → led e (complete es string) ≡ complete (e ∷ es) string
unfolding led complete
led-complete e es string = refl

read-from : (n : ℕ) (es : List Event) (front : List ℕ) → AllAllowed es → length (string_of es) < n
    → history_from n (front ++ string_of es) (length front) ≡ complete es (front ++ string_of es)
unfolding complete
read-from zero es front a h = absurd (omega arith)
read-from (suc n) [] front a h =
    at-the-end n (front ++ string_of []) (length front)
    (entry-end (front ++ string_of []) (length front) (unfold string_of joined in rw (append-nil front) refl))
read-from (suc n) (e ∷ es) front a h =
    let stands : Stands e (front ++ string_of (e ∷ es)) (length front) =
    record { front = front; rest = string_of es; whole = unfold string_of joined in refl; starts = refl } in
    let p = at_place e (front ++ string_of (e ∷ es)) (length front) (first-allowed e es a) stands in
    found-led n (front ++ string_of (e ∷ es)) (length front) _ _ _ p.0
    ∙ led-by p.1 (onward e es front n (read-from n es (front ++ bytes_of e) (others-allowed e es a) (shorter e es n h)))
    ∙ led-complete e es (front ++ string_of (e ∷ es))

pub read_back : ReadBack
unfolding history
read_back es a = read-from (length (string_of es) + 1) es [] a (omega arith) ∙ (unfold complete in refl)

-- ---- any string

-- a reading from a place on: its events are allowed and stand there, up to where it ended, at the end of the string or by 44
record Reads (string : List ℕ) (place : ℕ) (h : History) : Type 0 where
  allowed : AllAllowed h.events
  front : drop place string ≡ string_of h.events ++ drop h.place string
  reached : place + length (string_of h.events) ≡ h.place
  stops :
      ((h.number ≡ 0) × (entry_at string h.place ≡ the_end)) ⊎ ((h.number ≡ 44) × (entry_at string h.place ≡ no_event h.place))

pub none_allowed : AllAllowed []
none_allowed x m = absurd (Memᴰ.not-nil m)

ends-reads : (string : List ℕ) (place : ℕ) → place ≡ length string → entry_at string place ≡ the_end → Reads string place (complete [] string)
unfolding complete string_of joined
ends-reads string place p e =
    record {
      allowed = none_allowed;
      front = ap (λ (k : ℕ). drop k string) p;
      reached = omega (arith, p);
      stops = inl (refl, ap (entry_at string) (sym p) ∙ e);
    }

refused-reads :
    (string : List ℕ) (place : ℕ) → entry_at string place ≡ no_event place →
    Reads string place (record { events = []; number = 44; place = place })
unfolding string_of joined
refused-reads string place e = record { allowed = none_allowed; front = refl; reached = omega arith; stops = inr (refl, e) }

led-reads : (string : List ℕ) (place : ℕ) (e : Event) (h : History) → Allowed e
    → drop place string ≡ bytes_of e ++ drop (place + length (bytes_of e)) string → Reads string (place + length (bytes_of e)) h
    → Reads string place (led e h)
unfolding led string_of joined
led-reads string place e h a p r =
    record {
      allowed = cons-allowed e h.events a r.allowed;
      front = p ∙ ap (λ (l : List ℕ). bytes_of e ++ l) r.front ∙ sym (append_assoc (bytes_of e) (joined bytes_of h.events) (drop h.place string));
      reached = rw (length-append) (omega (arith, r.reached));
      stops = r.stops;
    }

-- a string has more steps than it needs
reads-from :
    (n : ℕ) (string : List ℕ) (place : ℕ) → Bytes string → place ≤ length string → length string < place + n →
    Reads string place (history_from n string place)
reads-from zero string place b h k = absurd (omega arith)
reads-from (suc n) string place b h k = go (finding string place) (reads-from n string)
  where
    go : Finding string place
        → ((p : ℕ) → Bytes string → p ≤ length string → length string < p + n → Reads string p (history_from n string p))
        → Reads string place (history_from (suc n) string place)
    go (at-end p e) ih = subst (Reads string place) (sym (at-the-end n string place e)) (ends-reads string place p e)
    go (at-nothing _ w e) ih = subst (Reads string place) (sym (at-no-event n string place place e)) (refused-reads string place e)
    go (at-event _ w e) ih =
        let there = event_here string place in
        let next : place + gain (length_at string place) ≡ place + length (bytes_of there) = next-is string place b w in
        let fits = tested string place w in
        let r = ih (place + gain (length_at string place)) b fits.fits (unfold gain header_length in omega arith) in
        subst (Reads string place) (sym (found-led n string place _ _ _ e))
        (led-reads string place there _ (here-allowed string place b w)
        (here-stands string place b w ∙ ap (λ (k : ℕ). bytes_of there ++ drop k string) next)
        (subst (λ (k : ℕ). Reads string k (history_from n string (place + gain (length_at string place)))) next r))

module _ (string : List ℕ) (bytes : Bytes string) where
  reads : Reads string 0 (history string)
  unfolding history
  reads = reads-from (length string + 1) string 0 bytes (omega arith) (omega arith)

  given : (es : List Event) → AllAllowed es → string_of es ≡ string → (history string).number ≡ 0
  given es a q = subst (λ (s : List ℕ). (history s).number ≡ 0) q (ap (λ (x : History). x.number) (read_back es a))

  gives : (history string).number ≡ 0 → string_of (history string).events ≡ string
  gives h = ⊎_elim (λ s. ended s.1) (λ s. absurd (omega (arith, s.0))) reads.stops
    where
      ended : entry_at string (history string).place ≡ the_end → string_of (history string).events ≡ string
      ended e =
          let there : (history string).place ≡ length string = (entry-laws string (history string).place bytes).end.0 e in
          sym
          (reads.front ∙ ap (λ (k : ℕ). string_of (history string).events ++ drop k string) there
          ∙ ap (λ (l : List ℕ). string_of (history string).events ++ l) (drop-length string) ∙ append-nil (string_of (history string).events))

pub history-laws : HistoryLaws
history-laws string bytes =
    let r = reads string bytes in
    record {
      refused = (
        λ h es a q. let z : (history string).number ≡ 0 = given string bytes es a q in omega arith,
        λ none.
            ⊎_elim (λ s. absurd (none (history string).events r.allowed (gives string bytes s.0))) (λ s. s.0) r.stops,
      );
      ended = (gives string bytes, given string bytes (history string).events r.allowed);
      stops = r.stops;
      allowed = r.allowed;
      front = r.front;
      reached = omega (arith, r.reached);
    }
