-- What a session still prints, and that steps over chunks print it.
-- Assumes nothing.
use mathlib.Core.Path.{◌≡◌, refl, sym, ap, ap₂, ◌∙◌}
use mathlib.Core.Bool.{Bool, true, false, cond}
use mathlib.Core.List.{List, [], ◌∷◌, ◌++◌, append_assoc}
use Prim.Native.Nat.{ℕ, zero, suc, ◌<◌, ◌≤◌}
use native.Mathlib.Omega.{arith}
use lib.Dec.{eqb, leb}
use lib.ListN.{length, take, drop, length-drop}
use lib.Seq.{take_all, take-nil, take-append-le, length-take-le, drop-length}
use borrow.Author.Tests.{leb-true, leb-false, eqb-true, eqb-false}
use Rattle.laws.specs.Lists.{joined}
use Rattle.laws.proofs.Cases.{by-test}
use Rattle.pools.specs.declared.Fortuna.{Fortuna}
use Rattle.pools.specs.State.{fresh}
use Rattle.bench.specs.Frames.{max_wide_line}
use Rattle.bench.specs.Lines.{LineEffect, line_feed, line_of}
use Rattle.bench.specs.Input.{final_line, lines_following, lines, printed_from, transcript, first_line, has_line_feed, used_by, held_line, extended, ended, step_session, step_printed, finish_printed, chunk_session, chunk_printed, chunks_printed, start}
use Rattle.bench.specs.Statements.{ChunksLaw}
use Rattle.bench.specs.declared.input.Session.{Session}
use Rattle.bench.proofs.Texts.{cut_line}
use Rattle.bench.proofs.Buffers.{length-zeros, length-appended, held-appended}
use Rattle.bench.proofs.Lines.{lines_after, used_all, used-more}

-- ---- a line so far that is too long may be cut

cut-last : (s : Fortuna) (c : ℕ) (sofar : List ℕ) → max_wide_line < c → printed_from s (final_line (take c sofar)) ≡ printed_from s (final_line sofar)
unfolding printed_from final_line
cut-last s c [] h = rw (take-nil c)
cut-last s zero (x ∷ sofar) h = absurd (omega arith)
cut-last s (suc c) (x ∷ sofar) h = ap (λ (o : LineEffect). o.printed ++ []) (cut_line s (suc c) (x ∷ sofar) h)

-- a character more, before the cut or after it
cut-more : (c : ℕ) (sofar : List ℕ) (x : ℕ) → take c (take c sofar ++ (x ∷ [])) ≡ take c (sofar ++ (x ∷ []))
cut-more c sofar x =
    by-test (leb c (length sofar)) _
    (λ t. let h : c ≤ length sofar = leb-true c (length sofar) t in
    let l : length (take c sofar) ≡ c = length-take-le c sofar h in
    take-append-le c (take c sofar) (x ∷ []) (omega arith) ∙ take_all c (take c sofar) (omega arith) ∙ sym (take-append-le c sofar (x ∷ []) h))
    (λ t. rw (take_all c sofar (omega (arith, leb-false c (length sofar) t))))

cut-lines : (input : List ℕ) (s : Fortuna) (c : ℕ) (sofar : List ℕ) → max_wide_line < c
    → printed_from s (lines_following (take c sofar) input) ≡ printed_from s (lines_following sofar input)
unfolding lines_following printed_from
cut-lines [] s c sofar h = cut-last s c sofar h
cut-lines (x ∷ input) s c sofar h =
    go (eqb x line_feed)
    (sym (cut-lines input s c (take c sofar ++ (x ∷ [])) h)
    ∙ ap (λ (l : List ℕ). printed_from s (lines_following l input)) (cut-more c sofar x)
    ∙ cut-lines input s c (sofar ++ (x ∷ [])) h)
  where
    go : (t : Bool) → printed_from s (lines_following (take c sofar ++ (x ∷ [])) input) ≡ printed_from s (lines_following (sofar ++ (x ∷ [])) input)
        → printed_from s (cond t (take c sofar ∷ lines_following [] input) (lines_following (take c sofar ++ (x ∷ [])) input))
        ≡ printed_from s (cond t (sofar ∷ lines_following [] input) (lines_following (sofar ++ (x ∷ [])) input))
    go true e = ap (λ (o : LineEffect). o.printed ++ printed_from o.next (lines_following [] input)) (cut_line s c sofar h)
    go false e = e

-- ---- a step

-- what is still printed in a session, of this input
abbrev pub remaining : Session → List ℕ → List ℕ
remaining x input = printed_from x.state (lines_following (held_line x) input)

-- the line so far with more characters, cut to the buffer
held-extended : (x : Session) (more : List ℕ) → held_line (extended x more) ≡ take (length x.text) (held_line x ++ more)
unfolding held_line extended
held-extended x more = held-appended x.text x.held more

pub length-step : (x : Session) (r : List ℕ) → length (step_session x r).text ≡ length x.text
unfolding step_session extended ended
length-step x r = go (has_line_feed r)
  where
    go : (t : Bool) → length (cond t (ended (extended x (first_line r))) (extended x (first_line r))).text ≡ length x.text
    go true = length-appended x.text x.held (first_line r)
    go false = length-appended x.text x.held (first_line r)

-- the line is carried out, and none is begun
remaining-ended : (y : Session) (input : List ℕ) → remaining (ended y) input ≡ printed_from (line_of y.state (held_line y)).next (lines_following [] input)
unfolding ended held_line
remaining-ended y input = refl

state-extended : (x : Session) (more : List ℕ) → (extended x more).state ≡ x.state
unfolding extended
state-extended x more = refl

module _ (x : Session) (more : List ℕ) (room : max_wide_line < length x.text) where
  same_line : line_of x.state (held_line x ++ more) ≡ line_of (extended x more).state (held_line (extended x more))
  same_line = sym (ap₂ line_of (state-extended x more) (held-extended x more) ∙ cut_line x.state (length x.text) (held_line x ++ more) room)

  with-feed : (input : List ℕ) → printed_from x.state ((held_line x ++ more) ∷ lines_following [] input)
      ≡ (line_of (extended x more).state (held_line (extended x more))).printed ++ remaining (ended (extended x more)) input
  unfolding printed_from
  with-feed input =
      ap (λ (o : LineEffect). o.printed ++ printed_from o.next (lines_following [] input)) same_line
      ∙ ap (λ (l : List ℕ). (line_of (extended x more).state (held_line (extended x more))).printed ++ l) (sym (remaining-ended (extended x more) input))

  without-feed : (input : List ℕ) → printed_from x.state (lines_following (held_line x ++ more) input) ≡ remaining (extended x more) input
  without-feed input =
      sym (ap₂ (λ (s : Fortuna) (l : List ℕ). printed_from s (lines_following l input)) (state-extended x more) (held-extended x more)
      ∙ cut-lines input x.state (length x.text) (held_line x ++ more) room)

pub step-remaining : (x : Session) (r rest : List ℕ) → max_wide_line < length x.text
    → remaining x (r ++ rest) ≡ step_printed x r ++ remaining (step_session x r) (drop (used_by r) r ++ rest)
unfolding step_session step_printed
step-remaining x r rest room = ap (printed_from x.state) (lines_after (held_line x) r rest) ∙ go (has_line_feed r) refl
  where
    y : Session
    y = extended x (first_line r)

    go : (t : Bool) → has_line_feed r ≡ t
        → printed_from x.state
        (cond t ((held_line x ++ first_line r) ∷ lines_following [] (drop (used_by r) r ++ rest)) (lines_following (held_line x ++ first_line r) rest))
        ≡ cond t (line_of y.state (held_line y)).printed [] ++ remaining (cond t (ended y) y) (drop (used_by r) r ++ rest)
    go true e = with-feed x (first_line r) room (drop (used_by r) r ++ rest)
    go false e = rw (used_all r e, drop-length) (without-feed x (first_line r) room rest)

-- ---- chunks

length-chunk : (n : ℕ) (x : Session) (r : List ℕ) → length (chunk_session n x r).text ≡ length x.text
unfolding chunk_session
length-chunk zero x r = refl
length-chunk (suc n) x r = go (eqb (length r) 0) (length-chunk n (step_session x r) (drop (used_by r) r) ∙ length-step x r)
  where
    go : (t : Bool) → length (chunk_session n (step_session x r) (drop (used_by r) r)).text ≡ length x.text
        → length (cond t x (chunk_session n (step_session x r) (drop (used_by r) r))).text ≡ length x.text
    go true e = refl
    go false e = e

nothing : (r : List ℕ) → length r ≡ 0 → r ≡ []
nothing [] e = refl
nothing (c ∷ r) e = absurd (omega arith)

chunk-remaining : (n : ℕ) (x : Session) (r rest : List ℕ) → length r ≤ n → max_wide_line < length x.text
    → remaining x (r ++ rest) ≡ chunk_printed n x r ++ remaining (chunk_session n x r) rest
unfolding chunk_session chunk_printed
chunk-remaining zero x [] rest h room = refl
chunk-remaining zero x (c ∷ r) rest h room = absurd (omega arith)
chunk-remaining (suc n) x r rest h room =
    go (eqb (length r) 0) (eqb-true (length r) 0) (λ e. eqb-false (length r) 0 e) (chunk-remaining n (step_session x r) (drop (used_by r) r) rest)
  where
    x' : Session
    x' = step_session x r

    r' : List ℕ
    r' = drop (used_by r) r

    go : (t : Bool) → (t ≡ true → length r ≡ 0) → (t ≡ false → length r ≡ 0 → ⊥)
        → (length r' ≤ n → max_wide_line < length x'.text → remaining x' (r' ++ rest) ≡ chunk_printed n x' r' ++ remaining (chunk_session n x' r') rest)
        → remaining x (r ++ rest) ≡ cond t [] (step_printed x r ++ chunk_printed n x' r') ++ remaining (cond t x (chunk_session n x' r')) rest
    go true e f more = ap (λ (l : List ℕ). remaining x (l ++ rest)) (nothing r (e refl))
    go false e f more =
        let none : length r ≡ 0 → ⊥ = f refl in
        let some : 0 < length r = omega arith in
        let used : 0 < used_by r = used-more r some in
        step-remaining x r rest room
        ∙ ap (λ (l : List ℕ). step_printed x r ++ l) (more (rw length-drop (omega arith)) (rw (length-step x r) room))
        ∙ sym (append_assoc (step_printed x r) (chunk_printed n x' r') (remaining (chunk_session n x' r') rest))

chunks-remaining : (chunks : List (List ℕ)) (x : Session) → max_wide_line < length x.text
    → chunks_printed x chunks ≡ remaining x (joined (λ chunk. chunk) chunks)
unfolding chunks_printed
chunks-remaining [] x room = unfold finish_printed joined lines_following in refl
chunks-remaining (chunk ∷ chunks) x room =
    let y = chunk_session (length chunk) x chunk in
    ap (λ (l : List ℕ). chunk_printed (length chunk) x chunk ++ l) (chunks-remaining chunks y (rw (length-chunk (length chunk) x chunk) room))
    ∙ sym (unfold joined in chunk-remaining (length chunk) x chunk (joined (λ chunk. chunk) chunks) (omega arith) room)

pub chunks-law : ChunksLaw
unfolding start transcript lines held_line
chunks-law chunks = chunks-remaining chunks start (rw length-zeros (omega arith))

-- before the first line, what is to be printed is the transcript
remaining-fresh : (text input : List ℕ) → remaining (record { state = fresh; text = text; held = 0 }) input ≡ transcript input
unfolding held_line transcript lines
remaining-fresh text input = refl
