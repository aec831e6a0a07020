use Rattle.std.proofs.Common.{rules}
use Rattle.htl_edge.specs.Fakes.{Finds}
use Rattle.htl_edge.proofs.Fetches.{IsDrawerFetch-copy}
use Rattle.htl_edge.proofs.drawer.DrawerShelf.fetch.Goals as goal

pub returns-in-Some-clause-fetch : goal.returns-in-Some-clause-fetch
returns-in-Some-clause-fetch c =
    let found : Finds c.args.self.now c.args.name.now c.in-Some.bytes.now = search rules in
    IsDrawerFetch-copy c.args.self.now c.args.name.now c.in-Some.bytes.now c.args.limit c.copy.result found c.copy.ensures
