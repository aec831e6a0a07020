use Rattle.std.proofs.Common.{◌+◌, ℕ, eqb, [], length, map, ap, sym, ◌∙◌, subst, ◌<◌}
use Rattle.htl_patch.proofs.{Words.Tables, Words.Mode, Words.replacement, Words.donor_mode, Words.Replacement, Words.mode_of_module, Words.mode_at, Words.combined, NewItems.here, NewItems.there}
use Rattle.htl_patch.proofs.replacement.is_mode_of.Goals as goal

pub returns-then-m-modes : goal.returns-then-m-modes
returns-then-m-modes c =
    let g = replacement c.g.inside.host.now c.g.inside.donor.now c.g.inside.patched_mode c.g.inside.replacing_mode in
    let none : Mode = record { name = []; «module» = 0; period = 0 } in
    let front = c.as_slice-modes.ensures ∙ sym (ap (λ (t : Tables). t.modes) c.parts.ensures.value) in
    let at = here g.host.modes (map (donor_mode g) g.donor.modes) c.as_slice-modes.result.now c.args.m c.index-modes-m.result none front c.if-m-modes.true c.index-modes-m.is in
    ap (λ (x : Mode). eqb x.«module» c.args.u) (sym c.index-modes-m.is ∙ sym at.1) ∙ ap (λ (z : Replacement). mode_of_module c.args.u (mode_at (combined z) c.args.m)) c.g.view_is

pub returns : goal.returns
returns c =
    let g = replacement c.g.inside.host.now c.g.inside.donor.now c.g.inside.patched_mode c.g.inside.replacing_mode in
    let none : Mode = record { name = []; «module» = 0; period = 0 } in
    let front = c.as_slice-modes.ensures ∙ sym (ap (λ (t : Tables). t.modes) c.parts.ensures.value) in
    let back = c.as_slice-behind.ensures ∙ sym (ap (λ (t : Tables). t.modes) c.parts-2.ensures.value) in
    let count = ap length (c.as_slice.ensures ∙ sym (ap (λ (t : Tables). t.modules) c.parts-3.ensures.value)) in
    let at = there (donor_mode g) g.host.modes c.as_slice-modes.result.now g.donor.modes c.as_slice-behind.result.now c.args.m c.index-behind-m.result none front back c.if-m-modes.false (subst (λ (z : Replacement). c.args.m < length (combined z).modes) (sym c.g.view_is) c.requires) c.index-behind-m.is in
    ap (λ (x : Mode). eqb (length c.as_slice.result.now + x.«module») c.args.u) (sym c.index-behind-m.is)
    ∙ ap (λ (n : ℕ). eqb (n + c.index-behind-m.result.«module») c.args.u) count
    ∙ ap (λ (x : Mode). eqb x.«module» c.args.u) (sym at.1) ∙ ap (λ (z : Replacement). mode_of_module c.args.u (mode_at (combined z) c.args.m)) c.g.view_is
