-- What one line comes to, by what is to be done with it.
-- Assumes nothing.
use mathlib.Core.Path.{◌≡◌, refl, sym, ap, ap₂, subst₂, ◌∙◌}
use mathlib.Core.Bool.{Bool, true, false, cond}
use mathlib.Core.List.{List, [], ◌++◌}
use Prim.Native.Nat.{ℕ, suc, ◌-◌, ◌<◌, ◌+◌, ◌≤◌}
use native.Mathlib.Omega.{arith}
use lib.Dec.{eqb, ltb}
use lib.ListN.{length, take}
use borrow.Author.Tests.{lt-ltb, le-ltb, ne_eqb}
use Rattle.std.specs.Prelude.{Result, Err}
use Rattle.laws.specs.Refusals.{refuse}
use Rattle.laws.proofs.Cases.{by-test}
use Rattle.bench.specs.Frames.{frame_of_text}
use Rattle.bench.specs.Input.{first_line, has_line_feed, used_by}
use Rattle.bench.proofs.Buffers.{overwrite-nothing}
use Rattle.bench.proofs.Lines.{first-all, used_all, used-ended, first-front, first_fits, feed-test}
use Rattle.convert.specs.Texts.{action_of, carried_out, action_number, text_number, converted}
use Rattle.convert.specs.Logs.{Line, line_with, end_of, whole_line, converted_line, written_of, refusal_of}
use Rattle.convert.specs.Promises.{code, code-above-0, line_writes, GivesLine, ConvertsLine, FirstPart, StoresText, first_of}
use Rattle.convert.specs.declared.action.Action.{Action}
use Rattle.convert.specs.declared.refusal.Refusal.{Refusal}
use Rattle.convert.specs.declared.refusal.Refusal.TheVariants.{NoFrame, LargeSource, NoRoom}
use Rattle.convert.proofs.Conversions.{refusal-room, refusal-text}
use Rattle.convert.proofs.Stores.{end-one, end_none}

module _ (wide : Bool) (room : ℕ) (text : List ℕ) (ended : Bool) (action : Result Action Refusal) (is : action_of wide (frame_of_text text) ≡ action) where
  abbrev here : Line
  here = line_with text ended

  -- what the action makes of it
  abbrev new-text : List ℕ
  new-text = carried_out action text ++ end_of ended

  number_is : text_number wide text ≡ action_number action
  unfolding text_number
  number_is = ap action_number is

  written_is : written_of wide here ≡ new-text
  unfolding written_of whole_line converted_line converted
  written_is = ap (λ (a : Result Action Refusal). carried_out a text ++ end_of ended) is

  taken-number : action_number action ≡ 0 → refusal_of wide room here ≡ refuse (ltb room (length new-text)) 46 0
  taken-number n = refusal-room wide room here (number_is ∙ n) ∙ ap (λ (x : List ℕ). refuse (ltb room (length x)) 46 0) written_is

  taken-bytes : action_number action ≡ 0 → line_writes wide room here ≡ cond (ltb room (length new-text)) [] new-text
  unfolding line_writes
  taken-bytes n = rw (taken-number n, written_is) (go (ltb room (length new-text)))
    where
      go : (t : Bool) → cond (eqb (cond t 46 0) 0) new-text [] ≡ cond t [] new-text
      go true = refl
      go false = refl

  left-number : (n : ℕ) → action_number action ≡ suc n → refusal_of wide room here ≡ suc n
  left-number n e = refusal-text wide room here (λ z. omega (arith, number_is, e, z)) ∙ number_is ∙ e

  left-bytes : (n : ℕ) → action_number action ≡ suc n → line_writes wide room here ≡ []
  unfolding line_writes
  left-bytes n e = rw (left-number n e, ne_eqb (suc n) 0 (λ q. omega arith))

-- a line that is taken, by the text that was stored
pub line_taken : (wide ended : Bool) (text new out out' : List ℕ) (r : Result ℕ Refusal) (action : Result Action Refusal)
    → action_of wide (frame_of_text text) ≡ action
    → action_number action ≡ 0 → new ≡ carried_out action text → StoresText (new ++ end_of ended) r out out'
    → ConvertsLine wide (line_with text ended) r out out'
line_taken wide ended text new out out' r action is n e g =
    let whole : new ++ end_of ended ≡ carried_out action text ++ end_of ended = ap (λ (x : List ℕ). x ++ end_of ended) e in
    subst₂ (λ (k : ℕ) (bytes : List ℕ). GivesLine k bytes r out out')
    (ap (λ (x : List ℕ). refuse (ltb (length out) (length x)) 46 0) whole ∙ sym (taken-number wide (length out) text ended action is n))
    (ap (λ (x : List ℕ). cond (ltb (length out) (length x)) [] x) whole ∙ sym (taken-bytes wide (length out) text ended action is n))
    g

-- a refusal of a text has the text's number, which is above 0
text-code : (refusal : Refusal) → action_number (Err refusal) ≡ code refusal
unfolding action_number
text-code NoFrame = refl
text-code LargeSource = refl
text-code NoRoom = refl

-- and one that is refused
pub line-left : (wide ended : Bool) (text out : List ℕ) (refusal : Refusal) → action_of wide (frame_of_text text) ≡ Err refusal
    → ConvertsLine wide (line_with text ended) (Err refusal) out out
line-left wide ended text out refusal is =
    let n : ℕ = code refusal - 1 in
    let e : code refusal ≡ suc n = omega (arith, code-above-0 refusal) in
    let k = text-code refusal ∙ e in
    rw (left-number wide (length out) text ended (Err refusal) is n k, left-bytes wide (length out) text ended (Err refusal) is n k)
    (record { number_is = e; written_is = refl; buffer-is = sym (overwrite-nothing out) })

-- ---- the line at the front of what is left

-- by its length
module _ (rest : List ℕ) (n : ℕ) (n-is : n ≡ length (first_line rest)) where
  ended_is : ltb n (length rest) ≡ has_line_feed rest
  ended_is = ap (λ (k : ℕ). ltb k (length rest)) n-is ∙ feed-test rest

  pub first-within : n ≤ length rest
  first-within = omega (arith, n-is, first_fits rest)

  line-is : line_with (take n rest) (ltb n (length rest)) ≡ first_of rest
  line-is = ap₂ line_with (ap (λ (k : ℕ). take k rest) n-is ∙ first-front rest) ended_is

  module _ (size : ℕ) (size_is : size ≡ length (end_of (ltb n (length rest)))) where
    pub first-used : n + size ≡ used_by rest
    first-used =
        by-test (has_line_feed rest) (n + size ≡ used_by rest)
        (λ t. omega (arith, n-is, size_is, end-one _ (ended_is ∙ t), used-ended rest t))
        (λ t. omega (arith, n-is, size_is, end_none _ (ended_is ∙ t), used_all rest t, ap length (first-all rest t)))

-- by a part that takes it and its end
pub first-part : (rest part text behind : List ℕ) → text ≡ first_line rest → length part ≡ used_by rest → rest ≡ part ++ behind → 0 < length rest
    → FirstPart rest part text (ltb (length text) (length part)) behind
first-part rest part text behind front used cut some = record {
  line-is = ap₂ line_with front ended_is;
  used-is = used;
  cut = cut;
  some = some;
}
  where
    ended_is : ltb (length text) (length part) ≡ has_line_feed rest
    ended_is =
        by-test (has_line_feed rest) (ltb (length text) (length part) ≡ has_line_feed rest)
        (λ t. lt-ltb (length text) (length part) (omega (arith, ap length front, used, used-ended rest t)) ∙ sym t)
        (λ t. le-ltb (length text) (length part) (omega (arith, ap length front, used, used_all rest t, ap length (first-all rest t))) ∙ sym t)
