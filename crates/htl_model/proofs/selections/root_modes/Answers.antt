use Rattle.std.proofs.Common.{◌≡◌, ◌<◌, ◌-◌, ◌+◌, ◌/◌, suc, List, Some, slice_get, length, drop, sym, ◌∙◌, ap, subst, arith, refl}
use Rattle.htl_model.proofs.{Words.Module, Words.modes_below, Words.choices_from, Words.Tables, Words.div-one, Words.slice_get-get_or, Words.length-set, SelectionLaws.modes_some}
use Rattle.htl_model.proofs.RootModeLaws.{choices_none, digits_before, modes_all, modes_between, entry_found, entries_none, entries_more, AreRootModesFrom}
use Rattle.htl_model.proofs.selections.root_modes.Goals as goal

pub loop-k-init : goal.loop-k-init
loop-k-init c =
    let modules : c.as_slice-modules.result.now ≡ c.args.t.now.modules = c.as_slice-modules.ensures ∙ sym (ap (λ (t : Tables). t.modules) c.lists.ensures) in
    let modes : c.as_slice-modes.result.now ≡ c.args.t.now.modes = c.as_slice-modes.ensures ∙ sym (ap (λ (t : Tables). t.modes) c.lists-2.ensures) in
    record {
      within = omega arith;
      end = ap length modes ∙ modes_all c.args.t.now (length c.as_slice-modules.result.now) c.keeps_ranges.ensures.ranges (ap length modules);
      few = omega (arith, ap length modes);
      digits = sym (ap (λ n. c.args.selection / n) (choices_none c.args.t.now c.as_slice-modules.result.now (length c.as_slice-modules.result.now)) ∙ div-one c.args.selection);
      entries = entries_none c.args.t.now c.args.selection (length c.as_slice-modules.result.now) 64 (omega (arith, ap length modules));
      size = refl;
    }

pub first_mode-first-requires : goal.first_mode-first-requires
first_mode-first-requires c = c.loop-k.invariant.end ∙ ap (modes_below c.args.t.now.modes) (let next : c.loop-k.k ≡ c.loop-k.k - 1 + 1 = omega (arith, c.loop-k-test.true) in next)

pub digit-mode-requires-clause-some : goal.digit-mode-requires-clause-some
digit-mode-requires-clause-some c =
    let modules : c.as_slice-modules.result.now ≡ c.args.t.now.modules = c.as_slice-modules.ensures ∙ sym (ap (λ (t : Tables). t.modules) c.lists.ensures) in
    let k = c.loop-k.k - 1 in
    let next : c.loop-k.k ≡ k + 1 = omega (arith, c.loop-k-test.true) in
    let i = c.loop-k.invariant in
    let end : c.loop-k.end ≡ modes_below c.args.t.now.modes (k + 1) = i.end ∙ ap (modes_below c.args.t.now.modes) next in
    let count = modes_between c.args.t.now k c.first_mode-first.result c.loop-k.end c.first_mode-first.ensures.first end in
    let below : k < length c.as_slice-modules.result.now = omega (arith, i.within, c.loop-k-test.true) in
    omega (arith, count, modes_some c.args.t.now k c.keeps_ranges.ensures.ranges (omega (arith, below, ap length modules)))

pub loop-k-preserved : goal.loop-k-preserved
loop-k-preserved c =
    let modules : c.as_slice-modules.result.now ≡ c.args.t.now.modules = c.as_slice-modules.ensures ∙ sym (ap (λ (t : Tables). t.modules) c.lists.ensures) in
    let k = c.loop-k.k - 1 in
    let next : c.loop-k.k ≡ k + 1 = omega (arith, c.loop-k-test.true) in
    let i = c.loop-k.invariant in
    let end : c.loop-k.end ≡ modes_below c.args.t.now.modes (k + 1) = i.end ∙ ap (modes_below c.args.t.now.modes) next in
    let count = modes_between c.args.t.now k c.first_mode-first.result c.loop-k.end c.first_mode-first.ensures.first end in
    let below : k < length c.as_slice-modules.result.now = omega (arith, i.within, c.loop-k-test.true) in
    let x = c.index-modules-k.result in
    let digits : c.loop-k.digits ≡ c.args.selection / choices_from c.args.t.now (k + 1) (drop (k + 1) c.as_slice-modules.result.now) =
    i.digits ∙ ap (λ n. c.args.selection / choices_from c.args.t.now n (drop n c.as_slice-modules.result.now)) next in
    let at : slice_get c.args.t.now.modules k ≡ Some x =
    sym (ap (λ (ms : List Module). slice_get ms k) modules) ∙ slice_get-get_or c.as_slice-modules.result.now k x below ∙ ap (λ (m : Module). Some m) (sym c.index-modules-k.is) in
    let entry = entry_found c.args.t.now c.args.selection k c.loop-k.digits c.first_mode-first.result c.loop-k.end x c.digit-mode.result.0 c.keeps_ranges.ensures.ranges at c.first_mode-first.ensures.first end
    (digits ∙ ap (λ (ms : List Module). c.args.selection / choices_from c.args.t.now (k + 1) (drop (k + 1) ms)) modules) c.digit-mode.ensures.mode in
    record {
      within = omega (arith, i.within);
      end = c.first_mode-first.ensures.first;
      few = omega (arith, i.few, c.first_mode-first.ensures.front);
      digits = digits_before c.args.t.now c.as_slice-modules.result.now c.args.selection k c.loop-k.digits c.digit-mode.result.1 (c.loop-k.end - c.first_mode-first.result) x below c.index-modules-k.is
          (sym count) digits c.digit-mode.ensures.before;
      entries = entries_more c.args.t.now c.args.selection k c.loop-k.entries c.digit-mode.result.0 (omega (arith, i.size, below, c.keeps_ranges.ensures.ranges.few_modules, ap length modules)) entry
          (subst (λ n. AreRootModesFrom c.args.t.now c.args.selection n c.loop-k.entries) (let e : c.loop-k.k ≡ suc k = omega (arith, c.loop-k-test.true) in e) i.entries);
      size = length-set c.loop-k.entries k c.digit-mode.result.0 ∙ i.size;
    }
