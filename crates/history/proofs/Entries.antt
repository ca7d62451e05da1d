-- An event's bytes in a string and the reader at their place: each gives the other.
-- Assumes nothing.
use mathlib.Core.Path.{◌≡◌, refl, sym, ap, subst₂, ◌∙◌}
use mathlib.Core.Bool.{true, false}
use mathlib.Core.List.{List, [], ◌∷◌, ◌++◌}
use Rattle.std.specs.Prelude.{Some, None, Ok, Err}
use Prim.Native.Nat.{ℕ, suc, ◌+◌, ◌-◌, ◌/◌, ◌%◌, ◌≤◌, ◌<◌}
use native.Mathlib.Numerals.{add-one, add-two, add-three}
use native.Mathlib.Omega.{arith}
use lib.Dec.{eqb}
use lib.ListN.{length, get_or, take, drop, length-append, length-drop, take-append-drop}
use lib.Seq.{drop-cons, drop-append-add, get_or-append-add, get_or-append_seam, take_at, drop-drop, length-take-le}
use borrow.Author.Tests.{lt-ltb, le-leb, ltb-true, leb-true, eqb-true, eqb-false, eq-eqb, ne_eqb}
use Rattle.laws.proofs.Cases.{by-test, both}
use Rattle.pools.specs.Events.{max_source, max_data, header, header_length, event_bytes, gain}
use Rattle.history.specs.Strings.{Event, bytes_of, Allowed}
use Rattle.history.specs.Reader.{entry, the_end, no_event, source_at, length_at, whole_at, size_at, data_at, entry_at, found_event}
use Rattle.history.specs.Statements.{Bytes, RefusalLaw, Stands, EntryLaw, EntryLaws}
use Rattle.history.specs.declared.found.Entry.{Entry}
use Rattle.history.specs.declared.found.NoEvent.{NoEvent}
use Rattle.history.proofs.Strings.{length-bytes, same-event}

-- ---- an event that stands in a string

module _ (front rest : List ℕ) (e : Event) where
  abbrev around : List ℕ
  around = front ++ (bytes_of e ++ rest)

  source-here : source_at around (length front) ≡ e.source
  unfolding source_at bytes_of event_bytes header
  source-here =
      rw (get_or-append_seam front, get_or-append-add front _ 1 0) (omega arith)

  length-here : length_at around (length front) ≡ length e.content
  unfolding length_at bytes_of event_bytes header
  length-here = get_or-append-add front _ 2 0

  length-around : length around ≡ length front + (gain (length e.content) + length rest)
  length-around = rw (length-append, length-append, length-bytes e)

  whole_here : Allowed e → whole_at around (length front) ≡ true
  unfolding whole_at
  whole_here a =
      let n = length e.content in
      rw (
        length-here,
        length-around,
        lt-ltb 0 n a.some,
        le-leb n max_data a.short,
        le-leb (length front + gain n) (length front + (gain n + length rest)) (omega arith),
      )

  content-here : take (length e.content) (drop (length front + header_length) around) ≡ e.content
  unfolding header_length bytes_of event_bytes header
  content-here = rw (drop-append-add front _ 3) (take_at e.content rest (length e.content) refl)

  not_end : (length front ≡ length around) → ⊥
  unfolding gain header_length
  not_end h = omega (arith, length-around)

  found_here : Allowed e → entry_at around (length front) ≡ entry e.source (length front + header_length) (length front + length (bytes_of e))
  unfolding entry_at
  found_here a = rw (ne_eqb (length front) (length around) not_end, whole_here a, source-here, length-here, length-bytes e)

  event-here : found_event around e.source (length front + header_length) (length front + length (bytes_of e)) ≡ e
  unfolding found_event
  event-here =
      let n : length front + length (bytes_of e) - (length front + header_length) ≡ length e.content = rw (length-bytes e) (unfold gain in omega arith) in
      same-event _ e refl (rw n content-here)

  data-here : Allowed e → data_at around (length front) ≡ e.content
  unfolding data_at size_at
  data-here a = rw (whole_here a, length-here) content-here

-- ---- a whole event by the reader's tests

pub record Tested (string : List ℕ) (place : ℕ) : Type 0 where
  pub some : 0 < length_at string place
  pub short : length_at string place ≤ max_data
  pub fits : place + gain (length_at string place) ≤ length string

pub tested : (string : List ℕ) (place : ℕ) → whole_at string place ≡ true → Tested string place
unfolding whole_at
tested string place w =
    let a = both _ _ w in
    let b = both _ _ a.0 in
    record {
      some = ltb-true 0 (length_at string place) b.0;
      short = leb-true (length_at string place) max_data b.1;
      fits = leb-true (place + gain (length_at string place)) (length string) a.1;
    }

-- the first three of a string's elements from a place on
three : (l : List ℕ) (p : ℕ) → p + 3 ≤ length l → drop p l ≡ get_or l p 0 ∷ get_or l (p + 1) 0 ∷ get_or l (p + 2) 0 ∷ drop (p + 3) l
three l p h =
    rw (add-one p, add-two p, add-three p)
    (drop-cons l p 0 (omega arith)
    ∙ ap (λ (x : List ℕ). get_or l p 0 ∷ x)
    (drop-cons l (suc p) 0 (omega arith) ∙ ap (λ (x : List ℕ). get_or l (suc p) 0 ∷ x) (drop-cons l (suc (suc p)) 0 (omega arith))))

-- an event's bytes by its parts
bytes-by : (e : Event) (z : List ℕ) (a b n : ℕ) (c d : List ℕ) → e.source % 256 ≡ a → e.source / 256 ≡ b → length e.content ≡ n
    → e.content ≡ c → c ++ z ≡ d → bytes_of e ++ z ≡ a ∷ b ∷ n ∷ d
unfolding bytes_of event_bytes header
bytes-by e z a b n c d p q r s t = rw (p, q, r, s, t)

-- the event that the reader finds
abbrev pub event_here : List ℕ → ℕ → Event
event_here string place = found_event string (source_at string place) (place + header_length) (place + gain (length_at string place))

module _ (string : List ℕ) (place : ℕ) (bytes : Bytes string) (w : whole_at string place ≡ true) where
  abbrev here : Event
  here = event_here string place

  content-is : here.content ≡ take (length_at string place) (drop (place + header_length) string)
  unfolding found_event
  content-is =
      let n : place + gain (length_at string place) - (place + header_length) ≡ length_at string place = unfold gain in omega arith in
      ap (λ (k : ℕ). take k (drop (place + header_length) string)) n

  length-is : length here.content ≡ length_at string place
  length-is =
      ap length content-is
      ∙ length-take-le (length_at string place) (drop (place + header_length) string)
      (rw length-drop (unfold gain in omega (arith, (tested string place w).fits)))

  pub here-allowed : Allowed here
  here-allowed = record {
    known = unfold found_event source_at max_source in omega (arith, bytes place, bytes (place + 1));
    some = rw length-is (tested string place w).some;
    short = rw length-is (tested string place w).short;
  }

  -- header, data and what comes after
  pub here-stands : drop place string ≡ bytes_of here ++ drop (place + gain (length_at string place)) string
  here-stands =
      let t = tested string place w in
      let room : place + 3 ≤ length string = unfold gain header_length in omega (arith, t.fits) in
      three string place room ∙ sym joins
    where
      low : source_at string place % 256 ≡ get_or string place 0
      low = unfold source_at in omega (arith, bytes place)

      high : source_at string place / 256 ≡ get_or string (place + 1) 0
      high = unfold source_at in omega (arith, bytes place)

      after :
          let content = drop (place + header_length) string in
          take (length_at string place) content ++ drop (place + gain (length_at string place)) string ≡ content
      after =
          let n : place + gain (length_at string place) ≡ place + header_length + length_at string place = unfold gain in omega arith in
          rw (n, ← drop-drop (length_at string place) (place + header_length) string)
          (take-append-drop (length_at string place) (drop (place + header_length) string))

      joins :
          bytes_of here ++ drop (place + gain (length_at string place)) string
          ≡ get_or string place 0 ∷ get_or string (place + 1) 0 ∷ get_or string (place + 2) 0 ∷ drop (place + 3) string
      joins =
          bytes-by here (drop (place + gain (length_at string place)) string) _ _ _ _ _
          (unfold found_event in low) (unfold found_event in high) (length-is ∙ (unfold length_at in refl)) content-is
          (after ∙ (unfold header_length in refl))

-- ---- what the reader finds

pub data Finding (string : List ℕ) (place : ℕ) : Type 0 where
  at-end : place ≡ length string → entry_at string place ≡ the_end → Finding string place
  at-event :
      (place ≡ length string → ⊥) → whole_at string place ≡ true →
      entry_at string place ≡ entry (source_at string place) (place + header_length) (place + gain (length_at string place)) → Finding string place
  at-nothing : (place ≡ length string → ⊥) → whole_at string place ≡ false → entry_at string place ≡ no_event place → Finding string place

pub finding : (string : List ℕ) (place : ℕ) → Finding string place
unfolding entry_at
finding string place =
    by-test (eqb place (length string)) (Finding string place)
    (λ t. at-end (eqb-true place (length string) t) (rw t))
    (λ t. by-test (whole_at string place) (Finding string place)
    (λ w. at-event (eqb-false place (length string) t) w (rw (t, w)))
    (λ w. at-nothing (eqb-false place (length string) t) w (rw (t, w))))

-- an allowed event that stands there is found
pub at_place : (e : Event) (string : List ℕ) (place : ℕ) → Allowed e → Stands e string place →
    (entry_at string place ≡ entry e.source (place + header_length) (place + length (bytes_of e)))
    × (found_event string e.source (place + header_length) (place + length (bytes_of e)) ≡ e) × (data_at string place ≡ e.content)
at_place e string place a s =
    subst₂
    (λ (l : List ℕ) (p : ℕ).
    (entry_at l p ≡ entry e.source (p + header_length) (p + length (bytes_of e)))
    × (found_event l e.source (p + header_length) (p + length (bytes_of e)) ≡ e) × (data_at l p ≡ e.content))
    (sym s.whole) s.starts
    (found_here s.front s.rest e a, event-here s.front s.rest e, data-here s.front s.rest e a)

pub entry-end : (string : List ℕ) (place : ℕ) → place ≡ length string → entry_at string place ≡ the_end
unfolding entry_at
entry-end string place h = rw (eq-eqb place (length string) h)

-- ---- the answers differ

found-end : (s f n : ℕ) → entry s f n ≡ the_end → ⊥
found-end s f n h = cc

found_nothing : (s f n p : ℕ) → entry s f n ≡ no_event p → ⊥
found_nothing s f n p h = cc

end-nothing : (p : ℕ) → the_end ≡ no_event p → ⊥
end-nothing p h = cc

same_entry : (s f n t g m : ℕ) → entry s f n ≡ entry t g m → (s ≡ t) × (f ≡ g) × (n ≡ m)
same_entry s f n t g m h =
    let e : ◌≡◌ {A = Entry} (record { source = s; from = f; next = n }) (record { source = t; from = g; next = m }) = cc in
    (ap (λ (x : Entry). x.source) e, ap (λ (x : Entry). x.from) e, ap (λ (x : Entry). x.next) e)

same_place : (p q : ℕ) → no_event p ≡ no_event q → p ≡ q
same_place p q h = let e : ◌≡◌ {A = NoEvent} (record { place = p }) (record { place = q }) = cc in ap (λ (x : NoEvent). x.place) e

pub refusals : RefusalLaw
refusals (Ok (Some e)) = (λ h. absurd (omega arith), λ h. cc)
refusals (Ok None) = (λ h. absurd (omega arith), λ h. cc)
refusals (Err refusal) = (λ h. (refusal.place, refl), λ h. refl)

-- ---- the law at a place

module _ (string : List ℕ) (place : ℕ) (bytes : Bytes string) where
  stands_here : whole_at string place ≡ true → Stands (event_here string place) string place
  stands_here w = record {
    front = take place string;
    rest = drop (place + gain (length_at string place)) string;
    whole = sym (take-append-drop place string) ∙ ap (λ (l : List ℕ). take place string ++ l) (here-stands string place bytes w);
    starts = length-take-le place string (omega (arith, (tested string place w).fits));
  }

  pub next-is : whole_at string place ≡ true → place + gain (length_at string place) ≡ place + length (bytes_of (event_here string place))
  next-is w = rw (length-bytes (event_here string place), length-is string place bytes w)

  -- what is found
  found-stands : (source from next : ℕ) → entry_at string place ≡ entry source from next → Finding string place →
      let e = found_event string source from next in
      Allowed e × Stands e string place × (from ≡ place + header_length) × (next ≡ place + length (bytes_of e))
  found-stands source from next h (at-end _ e) = absurd (found-end source from next (sym h ∙ e))
  found-stands source from next h (at-nothing _ w e) = absurd (found_nothing source from next place (sym h ∙ e))
  found-stands source from next h (at-event _ w e) =
      let p = same_entry _ _ _ source from next (sym e ∙ h) in
      rw (← p.0, ← p.1, ← p.2) (here-allowed string place bytes w, stands_here w, refl, next-is w)

  ends : entry_at string place ≡ the_end → Finding string place → place ≡ length string
  ends h (at-end p _) = p
  ends h (at-event _ w e) = absurd (found-end _ _ _ (sym e ∙ h))
  ends h (at-nothing _ w e) = absurd (end-nothing place (sym h ∙ e))

  refuses : (p : ℕ) → entry_at string place ≡ no_event p → Finding string place → (p ≡ place) × (place ≡ length string → ⊥)
  refuses p h (at-end _ e) = absurd (end-nothing p (sym e ∙ h))
  refuses p h (at-event _ w e) = absurd (found_nothing _ _ _ p (sym e ∙ h))
  refuses p h (at-nothing n w e) = (same_place p place (sym h ∙ e), n)

  nothing-there : (place ≡ length string → ⊥) → ((e : Event) → Allowed e → Stands e string place → ⊥) → Finding string place
      → entry_at string place ≡ no_event place
  nothing-there n none (at-end p _) = absurd (n p)
  nothing-there n none (at-event _ w e) = absurd (none (event_here string place) (here-allowed string place bytes w) (stands_here w))
  nothing-there n none (at-nothing _ w e) = e

  no-data : ((e : Event) → Allowed e → Stands e string place → ⊥) → data_at string place ≡ []
  unfolding data_at size_at
  no-data none =
      by-test (whole_at string place) (data_at string place ≡ [])
      (λ w. absurd (none (event_here string place) (here-allowed string place bytes w) (stands_here w)))
      (λ w. rw w)

  entry-law : EntryLaw string place
  entry-law = record {
    found = λ e a s. at_place e string place a s;
    stands = λ source from next h. found-stands source from next h (finding string place);
    end = (λ h. ends h (finding string place), entry-end string place);
    refused = λ p. (
      λ h.
          let r = refuses p h (finding string place) in
          (r.0, r.1, λ e a s. found_nothing _ _ _ p (sym (at_place e string place a s).0 ∙ h)),
      λ h. nothing-there h.1 h.2 (finding string place) ∙ ap no_event (sym h.0),
    );
    nothing = no-data;
  }

pub entry-laws : EntryLaws
entry-laws string place bytes = entry-law string place bytes
