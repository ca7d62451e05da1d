-- The boundary rows, by computation.
-- Assumes nothing.
use mathlib.Core.Path.{refl}
use Rattle.hash.specs.Constants.{H⁰}
use Rattle.pools.specs.Promises.{call_numbers}
use Rattle.reference.specs.Boundaries.{answers, refusals, with_pools, with_first_pool, with_key, with_timer, with_requests, keyed_unseeded, strings4, given, late, first_seed, page, count_after, Boundaries}
use Rattle.reference.proofs.Computing.{answering, adding, emptying, seeding, drawing, starting}

-- what these rows alone compute with
own : Unit {0}
unfolding H⁰ call_numbers answers refusals with_pools with_first_pool with_key with_timer with_requests keyed_unseeded
    strings4 given late first_seed page count_after
own = tt

pub boundaries : Boundaries
unfolding answering adding emptying seeding drawing starting own
boundaries =
    record {
      events = refl;
      event_order = refl;
      headers = refl;
      room = refl;
      requests = refl;
      request_sizes = ((λ s clock out e. rw e refl), (λ out e. rw e refl));
      spent_order = refl;
      seeds = refl;
      seed_room = refl;
      blank = (refl, refl, refl);
      blank_places = (refl, refl);
      blank_order = refl;
      blank_writes = refl;
      draws = refl;
      shuffles = refl;
      listed = (refl, refl, refl, refl, refl, refl);
      list_sizes = refl;
      tries = refl;
      found = refl;
      order = (refl, refl);
      late = refl;
      late_found = (refl, refl);
      draw_tries = refl;
      shuffle_tries = (refl, refl);
      try_bytes = λ s clock. refl;
      outcomes = (refl, refl, refl);
      update_bytes = (refl, refl);
      write_bytes = (refl, refl);
      refused = (refl, refl, refl, refl, refl, refl, refl, refl, refl);
      pool_clauses = refl;
      tails = refl;
      chains = refl;
      old_pools = refl;
      each_pool = refl;
      keys = refl;
      timer_clauses = refl;
      used_by_six = refl;
      kept_number = refl;
      generator_reseed = λ w s. refl;
      count_clause = (refl, refl);
      count_order = refl;
      counts = (refl, refl, refl, refl);
      counts_anew = refl;
      counts_kept = (refl, refl);
    }
