-- The tries of a draw and of a shuffle are made one after the other, and are all that it enciphers.
-- Assumes nothing.
use Rattle.std.proofs.Common.{ℕ, zero, suc, ◌+◌, ◌-◌, ltb, List, [], ◌∷◌, ◌++◌, length, sym, refl, ap, ◌∙◌, ap₂, append-nil}
use Rattle.laws.specs.Lists.{joined}
use Rattle.laws.proofs.Cases.{by-test, split}
use Rattle.laws.proofs.Lists.{joined-append}
use Rattle.slots.specs.Fair.{try_value}
use Rattle.slots.specs.Shuffle.{exchange}
use Rattle.pools.specs.Refusals.{max_tries}
use Rattle.pools.specs.Effects.{Effect, unchanged}
use Rattle.pools.specs.Draws.{Drawn, after, leaving, tries, shuffle_from, shuffled, try_at}
use Rattle.pools.specs.Calls.{call_effect}
use Rattle.pools.specs.Tries.{draw_tries, shuffle_tries, call_tries, Follows, TriesMade, DrawTriesLaw, ShuffleTriesLaw}

module _ {S : Type 0} (serve : S → Effect S) where
  -- tries after tries
  follows-append : (s : S) (ts us : List S) (mid end : S) → Follows serve s ts mid → Follows serve mid us end → Follows serve s (ts ++ us) end
  unfolding Follows
  follows-append s [] us mid end e f = rw e f
  follows-append s (t ∷ ts) us mid end (e, f) g = (e, follows-append (serve t).next ts us mid end f g)

  draw-made : (n d : ℕ) (s : S) → TriesMade serve s (draw_tries serve n d s) (tries serve n d s).effect
  unfolding unchanged leaving after joined Follows tries draw_tries
  draw-made n zero s = record { follow = refl; trace = refl }
  draw-made n (suc d) s =
      let more = draw-made n d (serve s).next in
      by-test (ltb (try_value n (serve s).buffer) n) _
      (λ t. rw t (record { follow = (refl, refl); trace = sym (append-nil (serve s).trace) }))
      (λ t. rw t (record { follow = (refl, more.follow); trace = ap (λ (l : List (List ℕ)). (serve s).trace ++ l) more.trace }))

  places-made : (p : ℕ) (list : List ℕ) (s : S) → TriesMade serve s (shuffle_tries serve p list s) (shuffle_from serve p list s).effect
  unfolding unchanged leaving after joined Follows shuffle_from shuffle_tries
  places-made zero list s = record { follow = refl; trace = refl }
  places-made (suc p) list s =
      let d = tries serve (suc p + 1) max_tries s in
      let first = draw_tries serve (suc p + 1) max_tries s in
      let drawn = draw-made (suc p + 1) max_tries s in
      let rest = shuffle_tries serve p (exchange (suc p) d.value list) d.effect.next in
      let more = places-made p (exchange (suc p) d.value list) d.effect.next in
      by-test d.found _
      (λ t. rw t (record {
        follow = follows-append s first rest _ _ drawn.follow more.follow;
        trace =
            ap₂ (λ (x y : List (List ℕ)). x ++ y) drawn.trace more.trace
            ∙ sym (joined-append (λ (u : S). (serve u).trace) first rest);
      }))
      (λ t. rw (t, append-nil first) (record { follow = drawn.follow; trace = drawn.trace }))

  shuffle-made :
      (list : List ℕ) (s : S) → TriesMade serve s (shuffle_tries serve (length list - 1) list s) (shuffled serve list s).effect
  unfolding shuffled leaving
  shuffle-made list s =
      let all = places-made (length list - 1) list s in
      split (λ (o : Drawn S). TriesMade serve s (shuffle_tries serve (length list - 1) list s) o.effect)
      (shuffle_from serve (length list - 1) list s).found
      (λ t. all)
      (λ t. record { follow = all.follow; trace = all.trace })

pub draw-tries-law : DrawTriesLaw
unfolding call_tries call_effect
draw-tries-law s clock n d = draw-made (try_at clock) n d s

pub shuffle-tries-law : ShuffleTriesLaw
unfolding call_tries call_effect
shuffle-tries-law s clock list = shuffle-made (try_at clock) list s
