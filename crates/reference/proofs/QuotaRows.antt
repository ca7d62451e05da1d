-- The boundary rows of a list of quotas, by computation.
-- Assumes nothing.
use mathlib.Core.Path.{refl}
use native.Mathlib.Omega.{arith}
use Rattle.generator.specs.Steps.{generate_blocks, block_data, pseudo_random_data}
use Rattle.pools.specs.Effects.{emptied_pools}
use Rattle.pools.specs.Calls.{input_number, state_number}
use Rattle.pools.specs.Promises.{call_numbers}
use Rattle.quotas.specs.Records.{max_quotas, place_of, is_listed, quota_of, repeats, overspent, malformed_quotas, quotas_number, event_quotas_number, charged, cleared}
use Rattle.quotas.specs.Entries.{list_number, entry_number, entry_step, charged_for, quotas_left}
use Rattle.quotas.specs.Left.{entry_numbers, left_by}
use Rattle.quotas.specs.Runs.{taken_by, returned, handed_on, left_of, bytes_of, accepted_bytes, NoReseed, Added, same, kept, added, is_event_of, answers_of, NoneByState}
use Rattle.reference.specs.Boundaries.{with_pools, with_first_pool, with_timer, keyed_unseeded, first_seed, page}
use Rattle.reference.specs.QuotaRows.{many, refused_with, flood, alone, joined_by, QuotaRows}
use Rattle.reference.proofs.Computing.{answering, adding, emptying, seeding, starting}

-- a list's numbers
listing : Unit {0}
unfolding max_quotas place_of is_listed quota_of repeats overspent malformed_quotas quotas_number event_quotas_number list_number input_number state_number
listing = tt

-- a call with a list, and the list that it returns
metering : Unit {0}
unfolding listing entry_number entry_step charged cleared charged_for quotas_left left_by
metering = tt

-- a run that hands its list on
handing : Unit {0}
unfolding taken_by returned handed_on left_of bytes_of accepted_bytes NoReseed is_event_of answers_of NoneByState flood alone joined_by emptied_pools
    pseudo_random_data generate_blocks block_data
handing = tt

-- events of sources 9 and 6 were added
apart : Added 7 alone joined_by
unfolding alone joined_by
apart =
    added 9 1 _ (λ e. omega (arith, e))
    (kept _ (kept _ (added 9 0 _ (λ e. omega (arith, e)) (kept _ (kept _ (added 6 2 _ (λ e. omega (arith, e)) same))))))

pub quota-rows : QuotaRows
unfolding answering adding emptying seeding starting metering handing entry_numbers call_numbers many refused_with with_pools with_first_pool with_timer
    keyed_unseeded first_seed page
quota-rows =
    record {
      allowances = refl;
      malformed = refl;
      event_order = refl;
      other_order = refl;
      long_order = ((λ s rs clock out e. rw e refl), (λ s clock out e. rw e refl));
      numbers = (refl, refl, refl, refl, refl, refl);
      charged = (refl, refl, refl, refl, refl, refl, refl, refl);
      cleared = (refl, refl, refl);
      none_drawn = (refl, refl);
      handed_on = (refl, refl, refl, refl, refl, refl, refl);
      isolation = (
        apart,
        (refl, (refl, (refl, (refl, tt)))),
        (refl, (refl, (refl, (refl, (refl, (refl, (refl, tt))))))),
        (
          ((λ e. omega (arith, e)), (λ e. omega (arith, e))),
          (((λ e. omega (arith, e)), (λ e. omega (arith, e))), (((λ e. omega (arith, e)), (λ e. omega (arith, e))), tt)),
        ),
        refl,
        refl,
      );
    }
