-- Runs whose every call takes the list that the last one returned (02 (x)): no source passes its allowance between pool reseeds, and
-- events of other sources never change which of a source's events are refused by allowance.
-- Assumes nothing.
use Rattle.std.specs.Prelude.{◌≡◌, Bool, false, cond, List, [], ◌∷◌, ◌++◌, ℕ, ◌+◌, ◌-◌, ◌≤◌, eqb, length}
use Rattle.pools.specs.declared.Fortuna.{Fortuna}
use Rattle.pools.specs.Events.{gain}
use Rattle.pools.specs.Calls.{Call, event, request, update, write, draw, shuffle, Outcome}
use Rattle.quotas.specs.declared.Quota.{Quota}
use Rattle.quotas.specs.Records.{quota_of}
use Rattle.quotas.specs.Entries.{within, taking, entry_step, quotas_left}

-- a call of such a run, the list that it took, and what it gave
pub record Taken : Type 0 where
  pub call : Call
  pub quotas : List Quota
  pub outcome : Outcome Fortuna

-- from a state and a list
unfoldable pub taken_by : Fortuna → List Quota → Call → Taken
taken_by s rs c = record { call = c; quotas = rs; outcome = entry_step s (taking (within rs) c) }

unfoldable pub returned : Taken → List Quota
returned t = quotas_left t.call t.quotas t.outcome

-- each call gets the state and the list that the last one returned
unfoldable pub handed_on : Fortuna → List Quota → List Call → List Taken
handed_on s rs [] = []
handed_on s rs (c ∷ cs) = taken_by s rs c ∷ handed_on (taken_by s rs c).outcome.effect.next (returned (taken_by s rs c)) cs

-- ---- no source passes its allowance between pool reseeds

-- what an event of a source x puts into its pool; a call that is no event of x puts nothing there
unfoldable pub bytes_of : ℕ → Call → ℕ
bytes_of x (event source pool content) = cond (eqb source x) (gain (length content)) 0
bytes_of x (request clock buffer) = 0
bytes_of x (update clock seed) = 0
bytes_of x (write clock seed) = 0
bytes_of x (draw clock n d) = 0
bytes_of x (shuffle clock list) = 0

-- the bytes of its accepted events
unfoldable pub accepted_bytes : ℕ → List Taken → ℕ
accepted_bytes x [] = 0
accepted_bytes x (t ∷ ts) = cond (eqb t.outcome.number 0) (bytes_of x t.call) 0 + accepted_bytes x ts

-- no call of a stretch makes a pool reseed
unfoldable pub NoReseed : List Taken → Type 0
NoReseed [] = Unit {0}
NoReseed (t ∷ ts) = (t.outcome.effect.emptied ≡ 0) × NoReseed ts

-- what a source may still bring by a list: its allowance, less what is spent; 0 where it is not listed
unfoldable pub left_of : List Quota → ℕ → ℕ
left_of rs x = (quota_of rs x).allowance - (quota_of rs x).spent

-- whatever the state and the list at the start, well formed or not
pub record WithinAllowance (s : Fortuna) (rs : List Quota) (calls : List Call) (x : ℕ) : Type 0 where
  -- in every stretch of the run without a pool reseed the accepted events of a source have no more bytes than its allowance says, and
  -- none where it is not listed: its allowance then reads as 0
  pub between :
      (before stretch later : List Taken) → handed_on s rs calls ≡ before ++ (stretch ++ later) → NoReseed stretch →
      accepted_bytes x stretch ≤ (quota_of rs x).allowance
  -- up to the first pool reseed they have no more than the first list leaves of it
  pub first :
      (stretch later : List Taken) → handed_on s rs calls ≡ stretch ++ later → NoReseed stretch → accepted_bytes x stretch ≤ left_of rs x

-- ---- events of other sources

-- the second list is the first with events of sources other than x added, anywhere
pub data Added (x : ℕ) : List Call → List Call → Type 0 where
  same : Added x [] []
  kept : (c : Call) {cs ds : List Call} → Added x cs ds → Added x (c ∷ cs) (c ∷ ds)
  added :
      (source pool : ℕ) (content : List ℕ) → (source ≡ x → ⊥) → {cs ds : List Call} → Added x cs ds →
      Added x cs (event source pool content ∷ ds)

-- whether a call is an event of x
unfoldable pub is_event_of : ℕ → Call → Bool
is_event_of x (event source pool content) = eqb source x
is_event_of x (request clock buffer) = false
is_event_of x (update clock seed) = false
is_event_of x (write clock seed) = false
is_event_of x (draw clock n d) = false
is_event_of x (shuffle clock list) = false

-- the numbers that the events of x are answered with, in order
unfoldable pub answers_of : ℕ → List Taken → List ℕ
answers_of x [] = []
answers_of x (t ∷ ts) = cond (is_event_of x t.call) (t.outcome.number ∷ answers_of x ts) (answers_of x ts)

-- none of the answers is by the state (21, 22)
unfoldable pub NoneByState : List ℕ → Type 0
NoneByState [] = Unit {0}
NoneByState (n ∷ ns) = ((n ≡ 21 → ⊥) × (n ≡ 22 → ⊥)) × NoneByState ns

-- with no pool reseed in either run, and no event of x turned back by the state in either, each event of x gets the same answer in both:
-- 39 in both or in neither. The runs start with the same list; their states may differ
abbrev pub Isolation : Type 0
Isolation =
    (x : ℕ) (s t : Fortuna) (rs : List Quota) (cs ds : List Call) → Added x cs ds →
    NoReseed (handed_on s rs cs) → NoReseed (handed_on t rs ds) →
    NoneByState (answers_of x (handed_on s rs cs)) → NoneByState (answers_of x (handed_on t rs ds)) →
    answers_of x (handed_on s rs cs) ≡ answers_of x (handed_on t rs ds)
