-- What the thin functions over a lent list give.
-- Assumes nothing.
use Rattle.std.specs.Prelude.{Bool, cond, not, ◌&&◌, ◌||◌, List, ℕ, ◌+◌, eqb, leb, ltb, max, Result, Ok, Err}
use Rattle.laws.specs.Refusals.{refuse}
use Rattle.pools.specs.declared.refusal.Refusal.{Refusal}
use Rattle.pools.specs.declared.refusal.Refusal.TheVariants.{QuotasMalformed}
use Rattle.quotas.specs.declared.Quota.{Quota}
use Rattle.quotas.specs.Records.{max_quotas, is_listed, quota_of, charged_by, charged, cleared}

-- a number that comes before 38 and 39: an event's input numbers, and 37
unfoldable pub comes_first : ℕ → Bool
comes_first number = eqb number 37 || not (eqb number 0) && ltb number 21

-- the number of an event of a source that costs so many bytes; `number` is its own without 38 and 39
unfoldable pub charge_number : List Quota → ℕ → ℕ → ℕ → ℕ
charge_number rs x cost number =
    cond (comes_first number) number
    (refuse (not (is_listed rs x)) 38 (refuse (ltb (quota_of rs x).allowance ((quota_of rs x).spent + cost)) 39 number))

-- the list after it: charged where the event is accepted
unfoldable pub charge_list : List Quota → ℕ → ℕ → ℕ → List Quota
charge_list rs x cost number = cond (eqb (charge_number rs x cost number) 0) (charged rs x cost) rs

-- the list after a call that emptied so many pools
unfoldable pub cleared_after : ℕ → List Quota → List Quota
cleared_after emptied rs = cond (ltb 0 emptied) (cleared rs) rs

-- ---- the parts by value

-- an event whose source has the record: the record charged, or the number that refuses the event
unfoldable pub judged : Quota → ℕ → ℕ → Result Quota ℕ
judged r cost number =
    cond (comes_first number) (Err number)
    (cond (ltb r.allowance (r.spent + cost)) (Err 39) (cond (eqb number 0) (Ok (charged_by r cost)) (Err number)))

-- the number where it has none
unfoldable pub unlisted_of : ℕ → ℕ
unlisted_of number = cond (comes_first number) number 38

-- ---- a check of the list: its bound is 1 more than the largest source so far, and 0 before the first

-- before the first record: a list of more than 64 has no bound
unfoldable pub first_bound : ℕ → Result ℕ Refusal
first_bound n = cond (ltb max_quotas n) (Err QuotasMalformed) (Ok 0)

-- where the search for the source of the record at i starts: at i where the source is above all before it, else at the front
unfoldable pub start_at : ℕ → ℕ → ℕ → ℕ
start_at bound x i = cond (leb bound x) i 0

-- after the record at i: none where its source was found at another place, or where spent is above its allowance
unfoldable pub bound_after : ℕ → Quota → ℕ → ℕ → Result ℕ Refusal
bound_after bound r place i =
    cond (eqb place i) (cond (ltb r.allowance r.spent) (Err QuotasMalformed) (Ok (max bound (r.source + 1)))) (Err QuotasMalformed)
