-- A list of quotas (02 (x)): records of a source, its allowance in bytes and the bytes spent.
-- Assumes nothing.
use Rattle.std.specs.Prelude.{Bool, false, cond, not, ◌||◌, List, [], ◌∷◌, map, ℕ, suc, ◌+◌, eqb, ltb, length, get_or, drop}
use Rattle.laws.specs.Refusals.{refuse}
use Rattle.quotas.specs.declared.Quota.{Quota}

-- what a list reads as past its end
abbrev pub no_record : Quota
no_record = record { source = 0; allowance = 0; spent = 0 }

-- the most records of a list
unfoldable pub max_quotas : ℕ
max_quotas = 64

-- the place of a source's first record, or the number of records where it has none
unfoldable pub place_of : List Quota → ℕ → ℕ
place_of [] x = 0
place_of (r ∷ rs) x = cond (eqb r.source x) 0 (suc (place_of rs x))

-- the same, searched for from a place on: that place itself where it is past the end
unfoldable pub place_from : List Quota → ℕ → ℕ → ℕ
place_from rs x start = start + place_of (drop start rs) x

-- whether a source has a record, and that record
unfoldable pub is_listed : List Quota → ℕ → Bool
is_listed [] x = false
is_listed (r ∷ rs) x = eqb r.source x || is_listed rs x

unfoldable pub quota_of : List Quota → ℕ → Quota
quota_of rs x = get_or rs (place_of rs x) no_record

-- whether a source has two records
unfoldable pub repeats : List Quota → Bool
repeats [] = false
repeats (r ∷ rs) = is_listed rs r.source || repeats rs

-- whether a record has spent above its allowance
unfoldable pub overspent : List Quota → Bool
overspent [] = false
overspent (r ∷ rs) = ltb r.allowance r.spent || overspent rs

-- 37: more than 64 records, a repeated source, or spent above allowance
unfoldable pub malformed_quotas : List Quota → Bool
malformed_quotas rs = ltb max_quotas (length rs) || repeats rs || overspent rs

unfoldable pub quotas_number : List Quota → ℕ
quotas_number rs = refuse (malformed_quotas rs) 37 0

-- of an event of a source that costs so many bytes: 37; 38, the source is not listed; 39, spent + cost above the allowance
unfoldable pub event_quotas_number : List Quota → ℕ → ℕ → ℕ
event_quotas_number rs x cost =
    refuse (malformed_quotas rs) 37
    (refuse (not (is_listed rs x)) 38 (refuse (ltb (quota_of rs x).allowance ((quota_of rs x).spent + cost)) 39 0))

-- a record with a cost more spent, with nothing spent
abbrev pub charged_by : Quota → ℕ → Quota
charged_by r cost = record { source = r.source; allowance = r.allowance; spent = r.spent + cost }

abbrev pub unspent : Quota → Quota
unspent r = record { source = r.source; allowance = r.allowance; spent = 0 }

-- the list once a source's record is charged a cost
unfoldable pub charged : List Quota → ℕ → ℕ → List Quota
charged [] x cost = []
charged (r ∷ rs) x cost = cond (eqb r.source x) (charged_by r cost ∷ rs) (r ∷ charged rs x cost)

-- the list with nothing spent
unfoldable pub cleared : List Quota → List Quota
cleared rs = map unspent rs
