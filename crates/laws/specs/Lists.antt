-- Lists that several crates speak of. Past its end a list reads as 0 (`get_or s i 0`), and `take` and `drop` stop there.
-- Assumes nothing.
use Rattle.std.specs.Prelude.{Bool, true, false, cond, ◌&&◌, List, [], ◌∷◌, ◌++◌, ℕ, zero, suc, ◌+◌, eqb, length, take, drop}

-- f 0, f 1, .., f (n - 1)
unfoldable pub tabulate : {A : Type 0} → (ℕ → A) → ℕ → List A
tabulate f zero = []
tabulate f (suc n) = tabulate f n ++ (f n ∷ [])

-- d with its first bytes replaced by those of s, as many as there is room for
unfoldable pub overwrite : {A : Type 0} → List A → List A → List A
overwrite d s = take (length d) s ++ drop (length s) d

-- every element is 0
unfoldable pub all_zero : List ℕ → Bool
all_zero [] = true
all_zero (x ∷ xs) = eqb x 0 && all_zero xs

-- the same elements in the same order
unfoldable pub same_list : List ℕ → List ℕ → Bool
same_list [] [] = true
same_list [] (y ∷ ys) = false
same_list (x ∷ xs) [] = false
same_list (x ∷ xs) (y ∷ ys) = eqb x y && same_list xs ys

-- how often x stands in a list
unfoldable pub count_of : ℕ → List ℕ → ℕ
count_of x [] = 0
count_of x (y ∷ ys) = cond (eqb x y) 1 0 + count_of x ys

-- what f gives at each element, joined
unfoldable pub joined : {A B : Type 0} → (A → List B) → List A → List B
joined f [] = []
joined f (x ∷ xs) = f x ++ joined f xs

-- the elements that pass a test, in order
unfoldable pub select : {A : Type 0} → (A → Bool) → List A → List A
select t [] = []
select t (x ∷ xs) = cond (t x) (x ∷ select t xs) (select t xs)
