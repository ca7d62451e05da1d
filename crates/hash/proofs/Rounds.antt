-- Rounds with prepared words, in two parts. A round is opened too, so that its name and what it stands for prove alike.
-- Assumes nothing.
use Rattle.std.proofs.Common.{◌≡◌, ℕ, zero, suc, ◌+◌, List, get_or, ap, ◌∙◌, ap₂, add-zero, add_assoc, add-suc}
use Rattle.hash.specs.Prepared.{prepared_round, prepared_rounds}
use Rattle.hash.specs.declared.block.Working.{Working}

pub rounds-add : (p : List ℕ) (t m n : ℕ) (s : Working) → prepared_rounds p t (m + n) s ≡ prepared_rounds p (t + m) n (prepared_rounds p t m s)
unfolding prepared_rounds prepared_round
rounds-add p t m zero s = rw add-zero
rounds-add p t m (suc n) s =
    rw (add-suc m n, ← add_assoc t m n) (ap (λ (x : Working). prepared_round x (get_or p (t + m + n) 0)) (rounds-add p t m n s))

-- one round more, at the place that is due, and the first
module _ (p : List ℕ) (t : ℕ) (s : Working) where
  pub rounds-next :
      (n i : ℕ) (r q : Working) → i ≡ t + n → r ≡ prepared_rounds p t n s → q ≡ prepared_round r (get_or p i 0) → q ≡ prepared_rounds p t (suc n) s
  unfolding prepared_rounds prepared_round
  rounds-next n i r q at e f = f ∙ ap₂ (λ (x : Working) (j : ℕ). prepared_round x (get_or p j 0)) e at

  pub rounds-one : (q : Working) → q ≡ prepared_round s (get_or p t 0) → q ≡ prepared_rounds p t 1 s
  unfolding prepared_rounds prepared_round
  rounds-one q f = rw add-zero f
