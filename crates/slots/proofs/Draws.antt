-- Each rearrangement of a list without a repeat comes from exactly one list of draws in range.
-- Assumes nothing.
use mathlib.Core.Path.{◌≡◌, refl, ap, sym, ◌∙◌, subst}
use mathlib.Core.Logic.{⊎_elim}
use mathlib.Core.List.{List, [], ◌∷◌}
use Prim.Native.Nat.{ℕ, zero, suc, ◌-◌, ◌<◌, ◌≤◌}
use native.Mathlib.Nat.{le_of_suc-le-suc, zero-lt-suc, eq-or-lt_of_le}
use native.Mathlib.Omega.{arith}
use lib.ListN.{length, get_or, take, get_or-eq_default}
use lib.Seq.{ext_get_or}
use Rattle.laws.specs.Lists.{count_of}
use Rattle.slots.specs.Shuffle.{exchange, shuffled_from, shuffled_by, DrawsFor, Rearrangement, Distinct, OnlyDraws, EveryOrder}
use Rattle.slots.proofs.Counts.{count-front, found, front-counts, distinct-places}
use Rattle.slots.proofs.Rearrange.{length-exchange, exchange-first, exchange-other, exchange-rearranges, rearrange-sym, rearrange-trans}

-- the places above p stay
shuffle-keeps : (p : ℕ) (draws xs : List ℕ) (k : ℕ) → DrawsFor p draws → p < k → get_or (shuffled_from p draws xs) k 0 ≡ get_or xs k 0
unfolding shuffled_from DrawsFor
shuffle-keeps zero draws xs k r h = refl
shuffle-keeps (suc p) [] xs k r h = absurd r
shuffle-keeps (suc p) (d ∷ draws) xs k r h =
    shuffle-keeps p draws (exchange (suc p) d xs) k r.1 (omega arith)
    ∙ exchange-other (suc p) d k xs (λ e. omega arith) (λ e. omega arith)

-- place p gets the entry of the place drawn
shuffle-places : (p d : ℕ) (draws xs : List ℕ) → suc p < length xs → DrawsFor p draws
    → get_or (shuffled_from p draws (exchange (suc p) d xs)) (suc p) 0 ≡ get_or xs d 0
shuffle-places p d draws xs h r = shuffle-keeps p draws (exchange (suc p) d xs) (suc p) r (omega arith) ∙ exchange-first (suc p) d xs h

-- at most one list of draws gives an order
draws-unique : (p : ℕ) (ds es xs : List ℕ) → p < length xs → Distinct xs → DrawsFor p ds → DrawsFor p es
    → shuffled_from p ds xs ≡ shuffled_from p es xs → ds ≡ es
unfolding shuffled_from DrawsFor
draws-unique zero [] [] xs h u r s e = refl
draws-unique zero [] (x ∷ es) xs h u r s e = absurd s
draws-unique zero (x ∷ ds) es xs h u r s e = absurd r
draws-unique (suc p) [] es xs h u r s e = absurd r
draws-unique (suc p) (d ∷ ds) [] xs h u r s e = absurd s
draws-unique (suc p) (d ∷ ds) (f ∷ es) xs h u r s e =
    let at : get_or xs d 0 ≡ get_or xs f 0 =
    sym (shuffle-places p d ds xs h r.1) ∙ ap (λ (l : List ℕ). get_or l (suc p) 0) e ∙ shuffle-places p f es xs h s.1 in
    let same : d ≡ f = distinct-places xs d f u (omega arith) (omega arith) at in
    let rest : ds ≡ es =
    draws-unique p ds es (exchange (suc p) d xs) (rw (length-exchange (suc p) d xs) (omega arith))
    (λ x. subst (λ (n : ℕ). n ≤ 1) ((exchange-rearranges (suc p) d xs h (omega arith)).counts x) (u x))
    r.1 s.1 (e ∙ ap (λ (k : ℕ). shuffled_from p es (exchange (suc p) k xs)) (sym same)) in
    cc

-- lists that rearrange each other and agree from place 1 on agree at place 0
first-too : (xs ys : List ℕ) (i : ℕ) → 0 < length xs → Rearrangement xs ys → ((k : ℕ) → 0 < k → get_or xs k 0 ≡ get_or ys k 0)
    → get_or xs i 0 ≡ get_or ys i 0
first-too xs ys (suc i) h r same = same (suc i) (zero-lt-suc i)
first-too xs ys zero h r same =
    let counted : 0 < count_of (get_or ys 0 0) (take 1 xs) =
    rw (front-counts 1 xs ys r same (get_or ys 0 0)) (count-front 0 ys (omega (arith, r.lengths))) in
    let place = found (get_or ys 0 0) 1 xs counted in
    let z : place.0 ≡ 0 = omega (arith, place.1) in
    subst (λ (k : ℕ). get_or xs k 0 ≡ get_or ys 0 0) z place.3

agree-more : (p d : ℕ) (xs ys : List ℕ) → suc p < length xs → d ≤ suc p → get_or xs d 0 ≡ get_or ys (suc p) 0
    → ((i : ℕ) → suc p < i → get_or xs i 0 ≡ get_or ys i 0) → (i : ℕ) → p < i → get_or (exchange (suc p) d xs) i 0 ≡ get_or ys i 0
agree-more p d xs ys h b e same i m =
    ⊎_elim
    (λ q. subst (λ (k : ℕ). get_or (exchange (suc p) d xs) k 0 ≡ get_or ys k 0) q (exchange-first (suc p) d xs h ∙ e))
    (λ q. exchange-other (suc p) d i xs (λ z. omega arith) (λ z. omega arith) ∙ same i q)
    (eq-or-lt_of_le m)

-- some list of draws gives every order that differs at the places 0 to p only
draws-exist : (p : ℕ) (xs ys : List ℕ) → p < length xs → Rearrangement xs ys → ((i : ℕ) → p < i → get_or xs i 0 ≡ get_or ys i 0)
    → (ds : List ℕ) × DrawsFor p ds × (shuffled_from p ds xs ≡ ys)
unfolding shuffled_from DrawsFor
draws-exist zero xs ys h r same = ([], tt, ext_get_or 0 xs ys r.lengths (λ i l. first-too xs ys i h r same))
draws-exist (suc p) xs ys h r same =
    let counted : 0 < count_of (get_or ys (suc p) 0) (take (suc (suc p)) xs) =
    rw (front-counts (suc (suc p)) xs ys r (λ i l. same i l) (get_or ys (suc p) 0)) (count-front (suc p) ys (omega (arith, r.lengths))) in
    let place = found (get_or ys (suc p) 0) (suc (suc p)) xs counted in
    let d : ℕ = place.0 in
    let b : d ≤ suc p = le_of_suc-le-suc place.1 in
    let swapped = exchange-rearranges (suc p) d xs h place.2 in
    let rest = draws-exist p (exchange (suc p) d xs) ys (rw (length-exchange (suc p) d xs) (omega arith)) (rearrange-trans (rearrange-sym swapped) r)
    (agree-more p d xs ys h b place.3 same) in
    (d ∷ rest.0, (b, rest.1), rest.2)

-- a list that is not empty
some-entries : (list order : List ℕ) → 0 < length list → Distinct list → Rearrangement list order → OnlyDraws list order
unfolding shuffled_by
some-entries list order h u r =
    let some = draws-exist (length list - 1) list order (omega arith) r
    (λ i l. get_or-eq_default list 0 (omega arith) ∙ sym (get_or-eq_default order 0 (omega (arith, r.lengths)))) in
    record {
      draws = some.0;
      in_range = some.1;
      gives = some.2;
      only = λ others d e. draws-unique (length list - 1) others some.0 list (omega arith) u d some.1 (e ∙ sym some.2);
    }

-- the empty list: no order but itself, and no draws
empty-order : (order : List ℕ) → Rearrangement [] order → [] ≡ order
empty-order [] r = refl
empty-order (x ∷ order) r = absurd (omega (arith, r.lengths))

no-draws : (draws : List ℕ) → DrawsFor 0 draws → draws ≡ []
unfolding DrawsFor
no-draws [] r = refl
no-draws (d ∷ draws) r = absurd r

pub every-order : EveryOrder
unfolding shuffled_by shuffled_from DrawsFor
every-order [] order u r = record { draws = []; in_range = tt; gives = empty-order order r; only = λ others d e. no-draws others d }
every-order (x ∷ list) order u r = some-entries (x ∷ list) order (omega arith) u r
