use Rattle.std.proofs.Common.{◌≡◌, length, sym, ◌∙◌, rules}
use Rattle.pools.specs.Effects.{reseed_if_due, emptied_by}
use Rattle.pools.proofs.Serving.{reseedable, serve_is, served-due, served-not-due}
use Rattle.pools.proofs.Fortuna.serve.Goals as goal
use Rattle.pools.proofs.Fortuna.serve.Goals.{then-reseeds, else-reseeds}

pub reseed-emptied-requires : goal.reseed-emptied-requires
reseed-emptied-requires c =
    let a = c.args in
    reseedable a.self.now a.clock (length a.out.now) c.requires.1 (sym c.requires.0 ∙ c.if-reseeds.true)

pub returns : goal.returns
returns c =
    let a = c.args in
    let p = c.requires in
    let j = c.if-reseeds in
    let g = c.pseudo_random_data in
    let before : (j.self ≡ reseed_if_due a.self.now a.clock) × (j.emptied ≡ emptied_by a.self.now a.clock) =
    elim j.branch [
      | then-reseeds w ↦ served-due a.self.now a.clock j.self j.emptied (sym p.0 ∙ w.if-reseeds.true) (search rules, search rules)
      | else-reseeds w ↦ served-not-due a.self.now a.clock j.self j.emptied (sym p.0 ∙ w.if-reseeds.false) (search rules, search rules)
    ] in
    serve_is a.self.now a.clock a.out.now p.1 j.self j.emptied g.result.next g.new.out
    c.counted-self.result c.counted-self.ensures before (g.ensures.1, g.ensures.2)
