use Rattle.std.proofs.Common.{◌≡◌, ◌+◌, ℕ, sym, ◌∙◌, subst, arith}
use Rattle.htl_model.proofs.{Words.slice_get_within, Words.get_or_from_slice_get, Words.inv_in_mode, Words.IsStartOf, FirstLaws.first_hit, FirstLaws.first_miss, StartLaws.found_from_start, StartLaws.nothing_later}
use Rattle.htl_model.proofs.search.first_inv.Goals as goal

pub loop-k-init : goal.loop-k-init
loop-k-init g c = found_from_start c.args.t.now (g.C.Tries.tests c.args.t.now c.args.rule) (g.C.Tries.number c.args.rule) c.args.site.«module» c.args.site.mode c.args.site.start c.requires.start

pub returns-in-Some : goal.returns-in-Some
returns-in-Some g c =
    first_hit (inv_in_mode (g.C.Tries.tests c.args.t.now c.args.rule) (g.C.Tries.number c.args.rule) c.args.site.«module» c.args.site.mode) c.args.t.now.invs c.loop-k.k c.inv_at.result.now c.in-Some.fault
    c.loop-k.invariant (slice_get_within c.args.t.now.invs c.loop-k.k c.inv_at.result.now c.inv_at.ensures)
    (sym (get_or_from_slice_get c.args.t.now.invs c.loop-k.k c.inv_at.result.now c.inv_at.result.now c.inv_at.ensures)) (sym c.inv_in_mode.ensures ∙ c.in-Some.is)

pub loop-k-preserved : goal.loop-k-preserved
loop-k-preserved g c =
    first_miss (inv_in_mode (g.C.Tries.tests c.args.t.now c.args.rule) (g.C.Tries.number c.args.rule) c.args.site.«module» c.args.site.mode) c.args.t.now.invs c.loop-k.k c.inv_at.result.now
    c.loop-k.invariant (slice_get_within c.args.t.now.invs c.loop-k.k c.inv_at.result.now c.inv_at.ensures)
    (sym (get_or_from_slice_get c.args.t.now.invs c.loop-k.k c.inv_at.result.now c.inv_at.result.now c.inv_at.ensures)) (sym c.inv_in_mode.ensures ∙ c.in_default.is)

pub returns : goal.returns
returns g c =
    let end : c.args.site.end ≡ c.loop-k.k = omega (arith, c.loop-k-test.false) in
    sym (nothing_later c.args.t.now (g.C.Tries.tests c.args.t.now c.args.rule) (g.C.Tries.number c.args.rule) c.args.site.«module» c.args.site.mode c.loop-k.k
    (subst (λ (k : ℕ). IsStartOf c.args.t.now (c.args.site.mode + 1) k) end c.requires.end))
    ∙ c.loop-k.invariant
