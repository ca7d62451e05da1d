-- Boundary rows of 02 (x): 37, 38 and 39 with their accepted neighbours and their order among the others, the lists that calls return, and
-- a run that hands its list on.
-- Assumes nothing.
use Rattle.std.specs.Prelude.{◌≡◌, false, List, [], ◌∷◌, ◌++◌, map, ℕ, ◌-◌, ◌^◌, length, replicate, take, drop}
use Rattle.laws.specs.Lists.{tabulate}
use Rattle.pools.specs.declared.Fortuna.{Fortuna}
use Rattle.pools.specs.State.{fresh}
use Rattle.pools.specs.Calls.{Call, event, request, update, write, draw, shuffle, Outcome, outcome}
use Rattle.quotas.specs.declared.Quota.{Quota}
use Rattle.quotas.specs.Entries.{within, taking, entry_number, quotas_left}
use Rattle.quotas.specs.Left.{entry_numbers, left_by}
use Rattle.quotas.specs.Runs.{Taken, handed_on, left_of, accepted_bytes, NoReseed, Added, answers_of, NoneByState}
use Rattle.reference.specs.Readings.{whole_blocks, seeded_state, reseeded_state}
use Rattle.reference.specs.Boundaries.{keyed_unseeded, with_first_pool, first_seed, page}

-- a record of a source
abbrev pub quota : ℕ → ℕ → ℕ → Quota
quota source allowance spent = record { source = source; allowance = allowance; spent = spent }

-- a list that 37 refuses
abbrev pub overspent_list : List Quota
overspent_list = quota 7 3 9 ∷ []

-- n records of the sources 0, 1, ..
unfoldable pub many : ℕ → List Quota
many n = tabulate (λ i. quota i 9 0) n

-- the numbers that refuse calls that take a list
unfoldable pub refused_with : Fortuna → List Quota → List Call → List ℕ
refused_with s rs calls = map (λ (c : Call). entry_number s (taking (within rs) c)) calls

-- ---- numbers

-- 39: spent + 3 + data length up to the allowance; allowance 0; spent = allowance; 32 bits full; 38: source 65,535 listed, and not
abbrev pub AllowanceRow : Type 0
AllowanceRow =
    let one : List ℕ = 1 ∷ [] in
    let top = 2 ^ 32 - 1 in
    refused_with fresh (quota 7 10 4 ∷ quota 9 0 0 ∷ quota 8 4 4 ∷ [])
    (event 7 0 (1 ∷ 2 ∷ 3 ∷ []) ∷ event 7 0 (1 ∷ 2 ∷ 3 ∷ 4 ∷ []) ∷ event 9 0 one ∷ event 8 31 one ∷ event 6 5 (replicate 32 1) ∷ [])
    ++ refused_with fresh (quota 65535 4 0 ∷ []) (event 65535 0 one ∷ event 65534 0 one ∷ [])
    ++ refused_with fresh (quota 7 top (top - 4) ∷ []) (event 7 0 one ∷ event 7 0 (1 ∷ one) ∷ [])
    ++ refused_with fresh [] (event 0 0 one ∷ [])
    ≡ 0 ∷ 39 ∷ 39 ∷ 39 ∷ 38 ∷ 0 ∷ 38 ∷ 0 ∷ 39 ∷ 38 ∷ []

-- 37, for every call: a repeat at any two places, also of a source with nothing allowed; spent above allowance at the first and at the
-- last place; 64 and 65 records. Sources that differ by 65,536 are two
abbrev pub MalformedRow : Type 0
MalformedRow =
    let one : List ℕ = 1 ∷ [] in
    let calls : List Call =
    event 8 0 one ∷ request 0 [] ∷ update 0 first_seed ∷ write 0 first_seed ∷ draw 0 6 1 ∷ shuffle 0 (5 ∷ 6 ∷ []) ∷ [] in
    map (λ (rs : List Quota). refused_with (seeded_state 1) rs calls)
    ((quota 8 9 0 ∷ quota 7 9 0 ∷ quota 7 9 0 ∷ [])
    ∷ (quota 7 0 0 ∷ quota 7 0 0 ∷ quota 8 9 0 ∷ [])
    ∷ (quota 8 9 0 ∷ quota 7 9 0 ∷ quota 8 9 0 ∷ [])
    ∷ (quota 7 9 10 ∷ quota 8 9 0 ∷ [])
    ∷ (quota 8 9 0 ∷ quota 7 9 10 ∷ [])
    ∷ (quota 7 9 9 ∷ quota 8 9 0 ∷ quota 65544 9 0 ∷ [])
    ∷ many 64 ∷ many 65 ∷ [])
    ≡ map (replicate 6) (37 ∷ 37 ∷ 37 ∷ 37 ∷ 37 ∷ 0 ∷ 0 ∷ 37 ∷ [])

-- an event: 11, 12, 13 before 37, 37 before 38, 38 and 39 before 21 and 22
abbrev pub EventOrderRow : Type 0
EventOrderRow =
    let one : List ℕ = 1 ∷ [] in
    let full = with_first_pool fresh (record { chain = replicate 8 0; tail = replicate 64 0; length = 2 ^ 61 - 65 }) in
    refused_with keyed_unseeded overspent_list (event 65536 32 [] ∷ event 8 32 [] ∷ event 8 0 [] ∷ event 8 0 (replicate 33 1) ∷ event 8 0 one ∷ [])
    ++ refused_with keyed_unseeded (quota 7 3 0 ∷ [])
    (event 65536 0 one ∷ event 8 32 one ∷ event 7 0 (replicate 33 1) ∷ event 8 0 one ∷ event 7 0 one ∷ [])
    ++ refused_with keyed_unseeded (quota 7 4 0 ∷ []) (event 7 0 one ∷ [])
    ++ refused_with full (quota 7 4 0 ∷ []) (event 8 0 one ∷ event 7 0 (1 ∷ one) ∷ event 7 0 one ∷ [])
    ++ refused_with full overspent_list (event 7 0 one ∷ [])
    ≡ 11 ∷ 12 ∷ 13 ∷ 13 ∷ 37 ∷ 11 ∷ 12 ∷ 13 ∷ 38 ∷ 39 ∷ 21 ∷ 38 ∷ 39 ∷ 22 ∷ 37 ∷ []

-- the other calls: 15, 36, 31 and 32 before 37, and 37 before 21, 23 and 24, in a shuffle of no number and of one too
abbrev pub OtherOrderRow : Type 0
OtherOrderRow =
    let spent = seeded_state (2 ^ 128 - 1) in
    let asking : List Call = request 0 [] ∷ update 0 first_seed ∷ write 0 first_seed ∷ draw 0 6 1 ∷ shuffle 0 (5 ∷ 6 ∷ []) ∷ [] in
    refused_with keyed_unseeded overspent_list
    (update 0 [] ∷ update 0 (page 0) ∷ write 0 [] ∷ draw 0 0 0 ∷ draw 0 1 0 ∷ shuffle 0 (5 ∷ 5 ∷ []) ∷ shuffle 0 [] ∷ shuffle 0 (5 ∷ []) ∷ [])
    ++ refused_with keyed_unseeded overspent_list asking ++ refused_with fresh overspent_list asking ++ refused_with spent overspent_list asking
    ++ refused_with keyed_unseeded [] asking ++ refused_with fresh [] asking ++ refused_with spent [] asking
    ≡ 15 ∷ 36 ∷ 15 ∷ 31 ∷ 32 ∷ 31 ∷ 37 ∷ 37 ∷ [] ++ replicate 15 37 ++ replicate 5 21 ++ (23 ∷ 0 ∷ 23 ∷ 23 ∷ 23 ∷ []) ++ replicate 5 24

-- 14 before 37, whatever the state and the list; 37 at 1,048,576 bytes
abbrev pub LongOrderRow : Type 0
LongOrderRow =
    ((s : Fortuna) (rs : List Quota) (clock : ℕ) (out : List ℕ) → length out ≡ 1048577 → entry_number s (taking (within rs) (request clock out)) ≡ 14)
    × ((s : Fortuna) (clock : ℕ) (out : List ℕ) → length out ≡ 1048576 → entry_number s (taking (within overspent_list) (request clock out)) ≡ 37)

-- each number that `entry_numbers` lists for a call with a list is one that its check gives; for 14 see `LongOrderRow`
abbrev pub NumbersRow : Type 0
NumbersRow =
    let one : List ℕ = 1 ∷ [] in
    let two : List ℕ = 5 ∷ 6 ∷ [] in
    let good : List Quota = quota 7 4 0 ∷ [] in
    let full = with_first_pool fresh (record { chain = replicate 8 0; tail = replicate 64 0; length = 2 ^ 61 - 65 }) in
    let spent = seeded_state (2 ^ 128 - 1) in
    (refused_with fresh good (event 7 0 one ∷ event 65536 0 one ∷ event 7 32 one ∷ event 7 0 [] ∷ [])
    ++ refused_with fresh overspent_list (event 7 0 one ∷ []) ++ refused_with fresh good (event 8 0 one ∷ event 7 0 (1 ∷ one) ∷ [])
    ++ refused_with keyed_unseeded good (event 7 0 one ∷ []) ++ refused_with full good (event 7 0 one ∷ [])
    ≡ entry_numbers (within []) (event 0 0 []))
    × (refused_with (seeded_state 1) good (request 0 [] ∷ []) ++ refused_with fresh overspent_list (request 0 [] ∷ [])
    ++ map (λ (s : Fortuna). entry_number s (taking (within good) (request 0 []))) (keyed_unseeded ∷ fresh ∷ spent ∷ [])
    ≡ take 1 (entry_numbers (within []) (request 0 [])) ++ drop 2 (entry_numbers (within []) (request 0 [])))
    × (refused_with fresh good (update 0 first_seed ∷ update 0 [] ∷ update 0 (page 0) ∷ []) ++ refused_with fresh overspent_list (update 0 first_seed ∷ [])
    ++ refused_with keyed_unseeded good (update 0 first_seed ∷ []) ++ refused_with spent good (update 0 first_seed ∷ [])
    ≡ entry_numbers (within []) (update 0 []))
    × (refused_with (seeded_state 1) good (write 0 first_seed ∷ write 0 [] ∷ []) ++ refused_with fresh overspent_list (write 0 first_seed ∷ [])
    ++ map (λ (s : Fortuna). entry_number s (taking (within good) (write 0 first_seed))) (keyed_unseeded ∷ fresh ∷ spent ∷ [])
    ≡ entry_numbers (within []) (write 0 []))
    × (refused_with (seeded_state 1) good (draw 0 6 1 ∷ draw 0 0 1 ∷ draw 0 6 0 ∷ []) ++ refused_with fresh overspent_list (draw 0 6 1 ∷ [])
    ++ map (λ (s : Fortuna). entry_number s (taking (within good) (draw 0 6 1))) (keyed_unseeded ∷ fresh ∷ spent ∷ [])
    ≡ entry_numbers (within []) (draw 0 0 0))
    × (refused_with (seeded_state 1) good (shuffle 0 two ∷ shuffle 0 (5 ∷ two) ∷ []) ++ refused_with fresh overspent_list (shuffle 0 two ∷ [])
    ++ map (λ (s : Fortuna). entry_number s (taking (within good) (shuffle 0 two))) (keyed_unseeded ∷ fresh ∷ spent ∷ [])
    ≡ entry_numbers (within []) (shuffle 0 []))

-- ---- the list that a call returns

-- an accepted event charges its own record, by 3 and its data; an event refused by the list, by the input or by the state (21, 22) charges
-- none; a request, an update or a write without a pool reseed neither
abbrev pub ChargedRow : Type 0
ChargedRow =
    let rs : List Quota = quota 9 5 5 ∷ quota 7 10 4 ∷ quota 8 9 0 ∷ [] in
    (left_by fresh rs (event 7 0 (1 ∷ 2 ∷ [])) ≡ quota 9 5 5 ∷ quota 7 10 9 ∷ quota 8 9 0 ∷ [])
    × (left_by fresh rs (event 8 31 (1 ∷ [])) ≡ quota 9 5 5 ∷ quota 7 10 4 ∷ quota 8 9 4 ∷ [])
    × (left_by fresh rs (event 9 0 (1 ∷ [])) ≡ rs)
    × (left_by fresh rs (event 7 32 (1 ∷ [])) ≡ rs)
    × (left_by keyed_unseeded rs (event 7 0 (1 ∷ 2 ∷ [])) ≡ rs)
    × (left_by fresh rs (request 0 []) ≡ rs)
    × (map (left_by (seeded_state 1) rs) (request 0 [] ∷ update 0 first_seed ∷ write 0 first_seed ∷ []) ≡ replicate 3 rs)
    × (left_by (with_first_pool fresh (whole_blocks (2 ^ 61 - 65))) rs (event 7 0 (1 ∷ [])) ≡ rs)

-- a pool reseed by a request, an update or a write leaves nothing spent (`LeftLaw` has every call); sources and allowances stay. A list
-- that 37 refuses stops the reseed. A later reseed clears too
abbrev pub ClearedRow : Type 0
ClearedRow =
    let due = with_first_pool fresh (whole_blocks 64) in
    let rs : List Quota = quota 9 5 5 ∷ quota 7 10 4 ∷ quota 8 9 0 ∷ [] in
    let after : List Quota = quota 9 5 0 ∷ quota 7 10 0 ∷ quota 8 9 0 ∷ [] in
    (map (left_by due rs) (request 0 [] ∷ request 0 (1 ∷ []) ∷ update 0 first_seed ∷ write 0 first_seed ∷ []) ≡ after ∷ after ∷ after ∷ after ∷ [])
    × (left_by due overspent_list (request 0 []) ≡ overspent_list)
    × (left_by (reseeded_state 1 1 0) rs (request 200 []) ≡ after)

-- a draw that found no value, and made a pool reseed, or none
abbrev pub NoneDrawnRow : Type 0
NoneDrawnRow =
    let rs : List Quota = quota 9 5 5 ∷ quota 7 10 4 ∷ [] in
    let drawn : ℕ → Outcome Fortuna =
    λ emptied. outcome 0 false 0 [] fresh (record { emptied = emptied; buffer = []; next = fresh; trace = [] }) in
    (map (λ (emptied : ℕ). (drawn emptied).number) (0 ∷ 1 ∷ []) ≡ 33 ∷ 33 ∷ [])
    × (map (λ (emptied : ℕ). quotas_left (draw 0 6 1) rs (drawn emptied)) (0 ∷ 1 ∷ 2 ∷ 32 ∷ [])
    ≡ rs ∷ replicate 3 (quota 9 5 0 ∷ quota 7 10 0 ∷ []))

-- ---- a run that hands its list on

-- two events of source 7 reach its allowance and pool 0 its 64 bytes; the third is refused, source 9 goes on; the request makes the pool
-- reseed, and source 7 goes on
unfoldable pub flood : List Taken
flood =
    handed_on fresh (quota 7 75 5 ∷ quota 9 40 0 ∷ [])
    (event 7 0 (replicate 32 1) ∷ event 7 0 (replicate 32 2) ∷ event 7 0 (1 ∷ []) ∷ event 9 1 (1 ∷ []) ∷ request 0 [] ∷ event 7 0 (1 ∷ []) ∷ [])

abbrev pub FloodRow : Type 0
FloodRow =
    (map (λ (t : Taken). t.outcome.number) flood ≡ 0 ∷ 0 ∷ 39 ∷ 0 ∷ 0 ∷ 0 ∷ [])
    × (map (λ (t : Taken). t.outcome.effect.emptied) flood ≡ 0 ∷ 0 ∷ 0 ∷ 0 ∷ 1 ∷ 0 ∷ [])
    × (map (λ (t : Taken). map (λ (r : Quota). r.spent) t.quotas) flood
    ≡ (5 ∷ 0 ∷ []) ∷ (40 ∷ 0 ∷ []) ∷ (75 ∷ 0 ∷ []) ∷ (75 ∷ 0 ∷ []) ∷ (75 ∷ 4 ∷ []) ∷ (0 ∷ 0 ∷ []) ∷ [])
    × (map (λ (x : ℕ). accepted_bytes x flood) (7 ∷ 9 ∷ 8 ∷ []) ≡ 74 ∷ 4 ∷ 0 ∷ [])
    × (map (left_of (quota 7 75 5 ∷ quota 9 40 0 ∷ [])) (7 ∷ 9 ∷ 8 ∷ []) ≡ 70 ∷ 40 ∷ 0 ∷ [])
    × (answers_of 7 flood ≡ 0 ∷ 0 ∷ 39 ∷ 0 ∷ [])
    × (answers_of 9 flood ≡ 0 ∷ [])

-- what `Isolation` asks for is met by runs with events of other sources added, refused ones too; source 7 has 0, 39 and 12 in both
unfoldable pub alone : List Call
alone = event 7 3 (1 ∷ []) ∷ request 0 [] ∷ event 7 0 (1 ∷ 2 ∷ []) ∷ event 7 32 (1 ∷ []) ∷ []

unfoldable pub joined_by : List Call
joined_by =
    event 9 1 (1 ∷ []) ∷ event 7 3 (1 ∷ []) ∷ request 0 [] ∷ event 9 0 (1 ∷ []) ∷ event 7 0 (1 ∷ 2 ∷ []) ∷ event 7 32 (1 ∷ [])
    ∷ event 6 2 (1 ∷ []) ∷ []

abbrev pub IsolationRow : Type 0
IsolationRow =
    let rs : List Quota = quota 7 8 0 ∷ quota 9 4 0 ∷ [] in
    Added 7 alone joined_by × NoReseed (handed_on fresh rs alone) × NoReseed (handed_on fresh rs joined_by)
    × NoneByState (answers_of 7 (handed_on fresh rs joined_by))
    × (answers_of 7 (handed_on fresh rs alone) ≡ 0 ∷ 39 ∷ 12 ∷ [])
    × (map (λ (t : Taken). t.outcome.number) (handed_on fresh rs joined_by) ≡ 0 ∷ 0 ∷ 23 ∷ 39 ∷ 39 ∷ 12 ∷ 38 ∷ [])

-- the rows together
pub record QuotaRows : Type 0 where
  pub allowances : AllowanceRow
  pub malformed : MalformedRow
  pub event_order : EventOrderRow
  pub other_order : OtherOrderRow
  pub long_order : LongOrderRow
  pub numbers : NumbersRow
  pub charged : ChargedRow
  pub cleared : ClearedRow
  pub none_drawn : NoneDrawnRow
  pub handed_on : FloodRow
  pub isolation : IsolationRow
