-- How long a struct's array of structs is.
-- Assumes nothing.
use Rattle.std.proofs.Common.{◌≡◌, ℕ, List, map, length, sym, ◌∙◌}
use lib.ListN.{length-map}

-- a list is as long as what each of its elements is written out to: of a struct's array of structs a need is handed the latter
pub mapped-long : (A B : Type 0) (f : A → B) (l : List A) (n : ℕ) → length (map f l) ≡ n → length l ≡ n
mapped-long A B f l n e = sym (length-map l f) ∙ e
