-- What holds of every list of calls of the keyed scheduler, each with a list of quotas or without one, in any order, with any arguments, from a
-- fresh start under any scheduler key. It has no hypothesis.
-- Assumes nothing.
use Rattle.std.specs.Prelude.{List, ℕ}
use Rattle.generator.specs.Statements.{NoRepeat}
use Rattle.quotas.specs.Entries.{Quotas}
use Rattle.keyed.specs.declared.Keyed.{Keyed}
use Rattle.keyed.specs.Calls.{Call}
use Rattle.keyed.specs.Entries.{Entry}
use Rattle.keyed_reference.specs.Agreement.{RunIsSteps, Agrees}
use Rattle.keyed_reference.specs.Schedule.{InputLaw, OutputLaw, ScheduleLaw, EmptiedLaw, StepsMade}
use Rattle.keyed_reference.specs.Provenance.{Provenance}
use Rattle.keyed_reference.specs.Counters.{counter_blocks, Counted, OnOneKey}
use Rattle.keyed_reference.specs.Served.{ServedLaw, RefusedLaw, ListTold, TimerLaw, NoClauseLaw}

pub record KeyedRunCorrect (key : List ℕ) (calls : List Entry) : Type 0 where
  -- the run is its calls' steps, one after the other
  pub steps : RunIsSteps key
  -- every number, count, buffer, list and state is the reference model's
  pub agreement : Agrees key calls
  -- the pool that a step picks, the pool that it empties, and the step at which a pool is next emptied
  pub input : InputLaw
  pub output : OutputLaw
  pub schedule : ScheduleLaw
  pub emptied : EmptiedLaw
  -- t counts the accepted events
  pub made : StepsMade key calls
  -- an accepted event enters the key at the step that it is booked for and at no other, in arrival order
  pub provenance : Provenance key calls
  -- demand 3's last sentence: no counter block is enciphered twice; and none is left out
  pub counters : NoRepeat (counter_blocks key calls)
  pub counted : Counted key calls
  -- a request and a seed call are served from K and C alone, a refused call leaves state and lent buffer, and the lists compared are those left
  pub served : (s : Keyed) (q : Quotas) → ServedLaw s q
  pub refused : (s : Keyed) (q : Quotas) → RefusedLaw s q
  pub told : (s : Keyed) (c : Call) → ListTold s c
  -- mark, flag and reseed number not at 0: 21; step and scheduler key have no clause
  pub timer : TimerLaw
  pub clauses : NoClauseLaw
  -- the number in the state is how many requests were made on the key, up to 65,535
  pub key-requests : OnOneKey key calls
