use Rattle.std.proofs.Common.{◌≡◌, drop}
use Rattle.htl_model.proofs.Words.{first_from, inv_in_mode}
use Rattle.htl_model.proofs.search.first_inv.Given as goal

abbrev pub invariant-loop-k : goal.invariant-loop-k
invariant-loop-k g l =
    first_from (inv_in_mode (g.C.Tries.tests l.t l.rule) (g.C.Tries.number l.rule) l.site.«module» l.site.mode) l.k (drop l.k l.t.invs)
    ≡ first_from (inv_in_mode (g.C.Tries.tests l.t l.rule) (g.C.Tries.number l.rule) l.site.«module» l.site.mode) 0 l.t.invs
