-- The stores of the printing functions leave the line at the front of the output.
-- Assumes nothing.
use mathlib.Core.Path.{◌≡◌, refl, sym, ap, ◌∙◌}
use mathlib.Core.List.{List, [], ◌∷◌, ◌++◌, append_assoc, append-nil}
use Prim.Native.Nat.{ℕ, suc, ◌+◌, ◌-◌, ◌*◌, ◌/◌, ◌%◌, ◌≤◌, ◌<◌}
use native.Mathlib.Numerals.{add-one}
use native.Mathlib.Omega.{arith}
use lib.ListN.{length, take, drop, get_or, set, length-append, length-drop, drop_of_length-le}
use lib.Seq.{drop-cons, set_at, append_snoc, drop-drop, sets, sets-eq}
use borrow.Author.Tests.{ne_eqb}
use Rattle.std.specs.Prelude.{Result, Ok, Err}
use Rattle.laws.specs.Lists.{overwrite}
use Rattle.laws.proofs.Copy.{overwrite-fits, part_end}
use Rattle.pools.specs.Promises.{code, code-above-0, number}
use Rattle.pools.specs.declared.refusal.Refusal.{Refusal}
use Rattle.bench.specs.Hexadecimal.{encode_hex, decimal}
use Rattle.bench.specs.Lines.{space, line_feed, number_line, spaced, output_line, Shown}
use Rattle.bench.proofs.Hexadecimal.{length-encode}
use native.Mathlib.Nat.{zero-add}

-- a refusal is its number alone
output-refused : (number emptied : ℕ) (bytes : List ℕ) → (number ≡ 0 → ⊥) → number_line number ≡ output_line number emptied bytes
unfolding output_line
output-refused number emptied bytes h = rw (ne_eqb number 0 h)

-- the line of an answer, where it refuses and where it does not
module _ (answer : Result Unit Refusal) (emptied : ℕ) (bytes : List ℕ) (n : ℕ) (before after : List ℕ) where
  pub refused-shown : (refusal : Refusal) → answer ≡ Err refusal → Shown (number_line (code refusal)) n before after
      → Shown (output_line (number answer) emptied bytes) n before after
  refused-shown refusal is (w, s) =
      let e : number_line (code refusal) ≡ output_line (number answer) emptied bytes =
      output-refused (code refusal) emptied bytes (λ z. omega (arith, code-above-0 refusal, z))
      ∙ ap (λ (a : Result Unit Refusal). output_line (number a) emptied bytes) (sym is) in
      (w ∙ ap length e, s ∙ ap (overwrite before) e)

  pub done-shown : answer ≡ Ok tt → Shown (output_line 0 emptied bytes) n before after → Shown (output_line (number answer) emptied bytes) n before after
  done-shown is s = rw is s

-- ---- after 00

output-done : (emptied : ℕ) (bytes : List ℕ)
    → output_line 0 emptied bytes ≡ decimal 0 ++ (space ∷ []) ++ decimal emptied ++ spaced bytes ++ (line_feed ∷ [])
unfolding output_line
output-done emptied bytes = refl

-- 00, a space, and the pools emptied
abbrev pub front : ℕ → List ℕ → List ℕ
front emptied rest = 48 ∷ 48 ∷ space ∷ (48 + emptied / 10) ∷ (48 + emptied % 10) ∷ rest

-- no bytes
pub output-none : (emptied : ℕ) (bytes : List ℕ) → length bytes ≡ 0 → output_line 0 emptied bytes ≡ front emptied (line_feed ∷ [])
output-none emptied [] z = output-done emptied [] ∙ (unfold decimal spaced in refl)
output-none emptied (b ∷ bytes) z = absurd (omega arith)

-- a line feed stored behind what is written
put-more : (p d : List ℕ) (n v : ℕ) → length p ≡ n → n < length d → set (p ++ drop n d) n v ≡ p ++ (v ∷ []) ++ drop (n + 1) d
put-more p d n v e h = rw (drop-cons d n 0 h, set_at p (get_or d n 0) (drop (suc n) d) v n e, add-one, append_snoc)

-- with bytes
module _ (emptied b : ℕ) (bytes out : List ℕ) (room : 7 + 2 * length (b ∷ bytes) ≤ length out) where
  abbrev six : List ℕ
  six = front emptied (space ∷ [])

  abbrev text : List ℕ
  text = encode_hex (b ∷ bytes)

  abbrev size : ℕ
  size = 2 * length (b ∷ bytes)

  -- the text behind what was written first
  stored : (first part : List ℕ) → first ≡ overwrite out six → part ≡ text ++ drop size (take (length first - 6) (drop 6 first))
      → take 6 first ++ (part ++ drop (length first - 6) (drop 6 first)) ≡ (six ++ text) ++ drop (6 + size) out
  stored first part e f =
      let is : first ≡ six ++ drop 6 out = e ∙ overwrite-fits out six (omega arith) in
      let behind : drop 6 first ≡ drop 6 out = ap (drop 6) is in
      let end : drop (length first - 6) (drop 6 first) ≡ [] = drop_of_length-le (drop 6 first) {i = length first - 6} (rw length-drop (omega arith)) in
      let rest : part ≡ text ++ drop (6 + size) out =
      f ∙ ap (λ (r : List ℕ). text ++ drop size r) (part_end 6 first ∙ behind) ∙ ap (λ (r : List ℕ). text ++ r) (drop-drop size 6 out) in
      rw (end, append-nil, rest) (ap (λ (l : List ℕ). take 6 l ++ (text ++ drop (6 + size) out)) is ∙ sym (append_assoc six text (drop (6 + size) out)))

  length-text : length (six ++ text) ≡ 6 + size
  length-text = length-append six text ∙ rw length-encode

  length-line : 7 + size ≡ length (six ++ text ++ (line_feed ∷ []))
  length-line = omega (arith, length-append (six ++ text) (line_feed ∷ []), length-text)

  pub some-shown : (first part : List ℕ) → first ≡ overwrite out six → part ≡ text ++ drop size (take (length first - 6) (drop 6 first))
      → Shown (six ++ text ++ (line_feed ∷ [])) (6 + size + 1) out (set (take 6 first ++ (part ++ drop (length first - 6) (drop 6 first))) (6 + size) line_feed)
  some-shown first part e f =
      let l : 6 + size + 1 ≡ length (six ++ text ++ (line_feed ∷ [])) = omega (arith, length-line) in (
        l,
        ap (λ (x : List ℕ). set x (6 + size) line_feed) (stored first part e f)
            ∙ put-more (six ++ text) out (6 + size) line_feed length-text (omega arith)
            ∙ ap (λ (n : ℕ). six ++ text ++ (line_feed ∷ []) ++ drop n out) l
            ∙ sym (overwrite-fits out (six ++ text ++ (line_feed ∷ [])) (omega (arith, l))),
      )

-- the text is stored in the part of k characters from the seventh on
pub output-some : (emptied : ℕ) (bytes out first part : List ℕ) (k : ℕ) → (length bytes ≡ 0 → ⊥) → 7 + 2 * length bytes ≤ length out
    → k ≡ length first - 6
    → first ≡ overwrite out (front emptied (space ∷ []))
    → part ≡ encode_hex bytes ++ drop (2 * length bytes) (take k (drop 6 first))
    → Shown (output_line 0 emptied bytes) (6 + 2 * length bytes + 1) out
    (set (take 6 first ++ (part ++ drop k (drop 6 first))) (6 + 2 * length bytes) line_feed)
output-some emptied [] out first part k z h l e f = absurd (z refl)
output-some emptied (b ∷ bytes) out first part k z h l e f =
    rw (output-done emptied (b ∷ bytes), l) (unfold decimal spaced in some-shown emptied b bytes out h first part e (rw l at f))

-- stores one after the other from place 0 on
shown-sets : (line out : List ℕ) → length line ≤ length out → Shown line (length line) out (sets out 0 line)
shown-sets line out h = (refl, simp zero-add at (sets-eq line out 0 (omega arith)) ∙ sym (overwrite-fits out line h))

pub number-shown : (n : ℕ) (out : List ℕ) → 3 ≤ length out → Shown (number_line n) 3 out (sets out 0 ((48 + n / 10) ∷ (48 + n % 10) ∷ line_feed ∷ []))
unfolding number_line decimal
number-shown n out h = shown-sets ((48 + n / 10) ∷ (48 + n % 10) ∷ line_feed ∷ []) out h
