use Rattle.std.proofs.Common.{◌≡◌, ℕ, ◌+◌, ◌<◌, length, sym, ap, ◌∙◌, arith, rules, Fits, w64}
use Rattle.pools.specs.Events.{event_bytes}
use Rattle.pools.specs.Collected.{nth}
use Rattle.pools.proofs.Checks.{mapped-long}
use Rattle.keyed.specs.State.{pool_at}
use Rattle.keyed.specs.Effects.{add_event}
use Rattle.keyed.specs.declared.Keyed.{Keyed}
use Rattle.keyed.proofs.Events.{place-small, step_fits, emptiable-now, at_step, taken_is, kept-is, emptied-count, emptied-step}
use Rattle.keyed.proofs.Keyed.take.Goals as goal
use Rattle.keyed.proofs.Keyed.take.Goals.{then-reseeds, else-reseeds}

pub offset_bounds-self-place : goal.offset_bounds-self-place
offset_bounds-self-place c = let small : c.args.place < 32 = place-small _ _ c.requires.0 in search (rules, small)

pub bounds-self-place : goal.bounds-self-place
bounds-self-place c = place-small _ _ c.requires.0

pub offset_bounds-self-place-2 : goal.offset_bounds-self-place-2
offset_bounds-self-place-2 c = let small : c.args.place < 32 = place-small _ _ c.requires.0 in search (rules, small)

pub bounds-self-place-2 : goal.bounds-self-place-2
bounds-self-place-2 c = place-small _ _ c.requires.0

pub empty_into-requires : goal.empty_into-requires
unfolding pool_at nth
empty_into-requires c =
    let a = c.args in
    let full : length a.self.now.pools ≡ 32 = search (rules, mapped-long) in
    emptiable-now a.self.now a.source a.«data».now c.requires.1 a.place _ c.requires.0 c.gained_pool.ensures full _
    c.output_pool.ensures (sym c.empties-reseeds.ensures ∙ c.if-reseeds.true)

pub overflow_add-self : goal.overflow_add-self
overflow_add-self c =
    let a = c.args in
    let narrow : Fits w64 a.self.now.step = search rules in
    let room = step_fits a.self.now a.source a.«data».now c.requires.1 narrow.fits in
    elim c.if-reseeds.branch [
      | then-reseeds w ↦
          let same : c.if-reseeds.self.step ≡ a.self.now.step =
          ap (λ (x : Keyed). x.step) (w.self-is ∙ w.empty_into.ensures) ∙ emptied-step _ w.output_pool.result in
          omega arith
      | else-reseeds w ↦
          let same : c.if-reseeds.self.step ≡ a.self.now.step = ap (λ (x : Keyed). x.step) w.self-is in
          omega arith
    ]

pub returns : goal.returns
unfolding pool_at nth
returns c =
    let a = c.args in
    let s = a.self.now in
    let d = a.«data».now in
    let ok = c.requires.1 in
    let placed = c.requires.0 in
    let j = c.if-reseeds in
    let g = c.gained_pool in
    let t = c.empties-reseeds.ensures in
    let next : at_step j.self (j.self.step + 1) ≡ (add_event s (event_bytes a.source d)).next =
    elim j.branch [
      | then-reseeds w ↦
          let is = w.self-is ∙ w.empty_into.ensures in
          ap (λ (k : ℕ). at_step j.self (k + 1)) (ap (λ (x : Keyed). x.step) is ∙ emptied-step _ w.output_pool.result)
          ∙ taken_is s a.source d ok a.place g.result placed g.ensures w.output_pool.result j.self w.output_pool.ensures is (sym t ∙ w.if-reseeds.true)
      | else-reseeds w ↦
          ap (λ (x : Keyed). at_step j.self (x.step + 1)) w.self-is
          ∙ kept-is s a.source d ok a.place g.result placed g.ensures j.self w.self-is (sym t ∙ w.if-reseeds.false)
    ] in
    (c.from.ensures ∙ emptied-count s (event_bytes a.source d) _ t, next)
