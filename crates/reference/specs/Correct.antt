-- Demand 3, whole: one claim about a list of events, requests with a reading, seed updates, seed writes, draws and shuffles, each with a
-- list of quotas or without one, in any order, with any arguments, from a fresh start. It has no hypothesis.
-- Assumes nothing.
use Rattle.std.specs.Prelude.{◌≡◌, List, ◌∷◌, ◌++◌}
use Rattle.generator.specs.Statements.{NoRepeat}
use Rattle.quotas.specs.Entries.{Entry}
use Rattle.reference.specs.Agreement.{RunIsSteps, Agrees}
use Rattle.reference.specs.Provenance.{Provenance}
use Rattle.reference.specs.Timer.{ElapsedLaw, TimerStep}
use Rattle.reference.specs.Counters.{counter_blocks, Counted}
use Rattle.reference.specs.KeyRequests.{OnOneKey}
use Rattle.reference.specs.BlankPages.{BlankPages}

pub record RunCorrect (calls : List Entry) : Type 0 where
  -- the run is its calls' steps, one after the other
  pub steps : RunIsSteps
  -- every number, count, buffer, list and state is the reference model's
  pub agreement : Agrees calls
  -- an accepted event enters the key at the reseed that it is booked for and at no other, in arrival order
  pub provenance : Provenance calls
  -- only a pool reseed moves the timer, and each call of the list makes one exactly when due
  pub clock : ElapsedLaw
  pub timer : (before : List Entry) (c : Entry) (later : List Entry) → before ++ (c ∷ later) ≡ calls → TimerStep before c
  -- no counter block is enciphered twice, and none is left out
  pub counters : NoRepeat (counter_blocks calls)
  pub counted : Counted calls
  -- the number in the state is how many requests were made on the key, up to 65,535
  pub key-requests : OnOneKey calls
  -- 36 refuses the updates of 64 equal bytes and no other call, whatever came before; writes go by a page's size alone
  pub blank : BlankPages
