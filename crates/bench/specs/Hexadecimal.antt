-- Capital hexadecimal, two digits a byte, and two decimal digits. A character is its ASCII number.
-- Assumes nothing.
use Rattle.std.specs.Prelude.{Bool, true, cond, ◌&&◌, ◌||◌, List, [], ◌∷◌, ℕ, ◌+◌, ◌-◌, ◌*◌, ◌/◌, ◌%◌, eqb, leb, ltb, length}

-- 0 to 9
unfoldable pub is_decimal : ℕ → Bool
is_decimal c = leb 48 c && leb c 57

-- A to F
unfoldable pub is_capital : ℕ → Bool
is_capital c = leb 65 c && leb c 70

-- a hexadecimal digit
unfoldable pub is_digit : ℕ → Bool
is_digit c = is_decimal c || is_capital c

-- what a digit stands for; 0 for any other character
unfoldable pub digit_value : ℕ → ℕ
digit_value c = cond (is_decimal c) (c - 48) (cond (is_capital c) (c - 55) 0)

-- the digit that stands for a number below 16
unfoldable pub digit_character : ℕ → ℕ
digit_character n = cond (ltb n 10) (48 + n) (55 + n)

-- the bytes that a text stands for; a last character without a partner stands for nothing
unfoldable pub decode_hex : List ℕ → List ℕ
decode_hex [] = []
decode_hex (c ∷ []) = []
decode_hex (c ∷ d ∷ text) = (16 * digit_value c + digit_value d) ∷ decode_hex text

-- the text of bytes
unfoldable pub encode_hex : List ℕ → List ℕ
encode_hex [] = []
encode_hex (b ∷ bytes) = digit_character (b / 16) ∷ digit_character (b % 16) ∷ encode_hex bytes

-- every character is a digit
unfoldable pub all_digits : List ℕ → Bool
all_digits [] = true
all_digits (c ∷ text) = is_digit c && all_digits text

-- digits alone, and an even number of them
unfoldable pub is_hex : List ℕ → Bool
is_hex text = eqb (length text % 2) 0 && all_digits text

-- a number below 100 in two decimal digits
unfoldable pub decimal : ℕ → List ℕ
decimal n = (48 + n / 10) ∷ (48 + n % 10) ∷ []
