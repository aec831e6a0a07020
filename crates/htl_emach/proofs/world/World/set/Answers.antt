use Rattle.std.proofs.Common.{◌≡◌, List, ℤ, set, ap, ◌∙◌, rules}
use Rattle.htl_emach.specs.Contents.{Content}
use Rattle.htl_emach.proofs.Keeping.{sensor_set}
use Rattle.htl_emach.proofs.world.World.set.Goals as goal

pub returns-clause-shaped : goal.returns-clause-shaped
returns-clause-shaped c = λ t shaped.
    let inside = c.self.inside in
    let with_values : List ℤ → Content = λ vs. record { values = vs; inputs = inside.inputs; outputs = inside.outputs; index = inside.index } in
    let put : c.set.new.self ≡ set inside.values c.args.comm c.args.x = search rules in
    sensor_set t c.args.self.now c.args.comm c.args.x c.requires.sensor shaped (with_values c.set.new.self)
    (ap with_values put ∙ ap (λ (w : Content). record w { values = set w.values c.args.comm c.args.x }) c.self.view_is)
