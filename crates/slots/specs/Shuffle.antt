-- A shuffle by given draws, and rearrangements (02 (i)).
-- Assumes nothing.
use Rattle.std.specs.Prelude.{◌≡◌, Bool, false, ◌||◌, ◌↔◌, List, [], ◌∷◌, ℕ, zero, suc, ◌-◌, ◌≤◌, eqb, length, get_or, set}
use Rattle.laws.specs.Lists.{count_of}

-- the entries at i and j change places
unfoldable pub exchange : ℕ → ℕ → List ℕ → List ℕ
exchange i j list = set (set list i (get_or list j 0)) j (get_or list i 0)

-- from place p down to 1, the entry there changes with that of the place drawn; the first draw is for p
unfoldable pub shuffled_from : ℕ → List ℕ → List ℕ → List ℕ
shuffled_from zero draws list = list
shuffled_from (suc p) [] list = list
shuffled_from (suc p) (d ∷ draws) list = shuffled_from p draws (exchange (suc p) d list)

-- from the last place
unfoldable pub shuffled_by : List ℕ → List ℕ → List ℕ
shuffled_by draws list = shuffled_from (length list - 1) draws list

-- the draws for the places p down to 1: one for each, each below its place + 1
unfoldable pub DrawsFor : ℕ → List ℕ → Type 0
DrawsFor zero [] = Unit {0}
DrawsFor zero (d ∷ draws) = ⊥
DrawsFor (suc p) [] = ⊥
DrawsFor (suc p) (d ∷ draws) = (d ≤ suc p) × DrawsFor p draws

-- equally long, and each number stands in both equally often
pub record Rearrangement (xs ys : List ℕ) : Type 0 where
  pub lengths : length xs ≡ length ys
  pub counts : (x : ℕ) → count_of x xs ≡ count_of x ys

-- no number stands twice in a list
abbrev pub Distinct : List ℕ → Type 0
Distinct xs = (x : ℕ) → count_of x xs ≤ 1

-- x stands in a list; a number stands twice in it
unfoldable pub is_in : ℕ → List ℕ → Bool
is_in x [] = false
is_in x (y ∷ ys) = eqb x y || is_in x ys

unfoldable pub has_repeat : List ℕ → Bool
has_repeat [] = false
has_repeat (x ∷ xs) = is_in x xs || has_repeat xs

abbrev pub RepeatLaw : Type 0
RepeatLaw = (list : List ℕ) → (has_repeat list ≡ false) ↔ Distinct list

-- draws in range rearrange the list
abbrev pub Rearranges : Type 0
Rearranges = (draws list : List ℕ) → DrawsFor (length list - 1) draws → Rearrangement list (shuffled_by draws list)

-- and each rearrangement of a list without a repeat comes from exactly one list of draws in range
pub record OnlyDraws (list order : List ℕ) : Type 0 where
  pub draws : List ℕ
  pub in_range : DrawsFor (length list - 1) draws
  pub gives : shuffled_by draws list ≡ order
  pub only : (others : List ℕ) → DrawsFor (length list - 1) others → shuffled_by others list ≡ order → others ≡ draws

abbrev pub EveryOrder : Type 0
EveryOrder = (list order : List ℕ) → Distinct list → Rearrangement list order → OnlyDraws list order
