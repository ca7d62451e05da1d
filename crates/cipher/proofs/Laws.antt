-- What crates above cite instead of the definitions' text.
-- Assumes nothing.
use Prim.Native.Nat.{ℕ, ◌*◌, ◌%◌, ◌^◌, ◌<◌}
use mathlib.Core.Path.{◌≡◌, refl}
use mathlib.Core.List.{List}
use native.Mathlib.Omega.{arith}
use lib.Dec.{T}
use lib.ListN.{length}
use Rattle.laws.proofs.Tabulate.{length-tabulate}
use Rattle.laws.proofs.Tables.{agree, agree_at}
use Rattle.cipher.specs.Aes.{add_round_key, cipher_with, x_power, key_expansion, cipher}
pub use Rattle.cipher.proofs.Bytes.{bytes-key-expansion}
use Rattle.cipher.proofs.ScheduleLaws.{length-expand}

-- A block is 16 bytes.
pub length-cipher : (key block : List ℕ) → length (cipher key block) ≡ 16
unfolding cipher cipher_with add_round_key
length-cipher key block = length-tabulate _ 16

-- A schedule is 240 bytes.
pub length-key-expansion : (key : List ℕ) → length key ≡ 32 → length (key_expansion key) ≡ 240
unfolding key_expansion
length-key-expansion key k = let e = length-expand key 52 in omega arith

-- From the schedule to the key.
pub cipher-with-key : (key block : List ℕ) → cipher_with (key_expansion key) block ≡ cipher key block
unfolding cipher
cipher-with-key key block = refl

-- The first byte of Rcon in the code's form: a number of w bits, shifted.
abbrev pub shifted : ℕ → ℕ → ℕ → ℕ
shifted w first m = first * 2 ^ m % 2 ^ w

pub each-constant : (w first : ℕ) → T (agree (shifted w first) x_power 7) → (m : ℕ) → m < 7 → shifted w first m ≡ x_power m
each-constant w first = agree_at (shifted w first) x_power 7
