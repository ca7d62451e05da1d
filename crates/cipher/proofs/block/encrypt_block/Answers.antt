use Prim.Native.Nat.{ℕ, suc, ◌+◌, ◌-◌, ◌≤◌}
use mathlib.Core.Path.{◌≡◌, refl}
use mathlib.Core.List.{List}
use native.Mathlib.Omega.{arith}
use Rattle.cipher.specs.Aes.{round, rounds, cipher_with}
use Rattle.cipher.proofs.block.encrypt_block.Goals as goal

-- one round more
rounds-more : (w s₀ s next : List ℕ) (n : ℕ) → 1 ≤ n → s ≡ rounds w (n - 1) s₀ → next ≡ round w n s → next ≡ rounds w (n + 1 - 1) s₀
unfolding rounds
rounds-more w s₀ s next n h e f =
    let k : n + 1 - 1 ≡ suc (n - 1) = omega arith in
    let k' : suc (n - 1) ≡ n = omega arith in
    rw (k, k', ← e) f

pub loop-n-init : goal.loop-n-init
unfolding rounds
loop-n-init c = refl

pub loop-n-preserved : goal.loop-n-preserved
loop-n-preserved c =
    let l = c.loop-n in
    rounds-more _ _ _ _ l.n (omega arith) l.invariant c.round-next.ensures

pub returns : goal.returns
unfolding cipher_with
returns c =
    let l = c.loop-n in
    let n : l.n ≡ 14 = omega arith in
    let e = rw n at l.invariant in
    cc
