use Rattle.keyed.proofs.Requests.{serve_is}
use Rattle.keyed.proofs.Keyed.serve.Goals as goal

pub returns : goal.returns
returns c =
    let a = c.args in
    let made = c.pseudo_random_data in
    serve_is a.self.now a.out.now c.requires _ _ _ made.ensures.1 made.ensures.2 c.counted-self.ensures
