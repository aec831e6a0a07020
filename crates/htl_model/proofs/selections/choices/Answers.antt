use Rattle.std.proofs.Common.{◌≡◌, ◌<◌, ◌-◌, ◌+◌, ◌^◌, List, length, min, drop, sym, ◌∙◌, ap, arith}
use Rattle.htl_model.proofs.{Words.Module, Words.modes_below, Words.choices_from, Words.Tables, RootModeLaws.choices_none, RootModeLaws.choices_before, RootModeLaws.modes_all, RootModeLaws.modes_between}
use Rattle.htl_model.proofs.selections.choices.Goals as goal

pub loop-k-init : goal.loop-k-init
loop-k-init c =
    let modules : c.as_slice-modules.result.now ≡ c.args.t.now.modules = c.as_slice-modules.ensures ∙ sym (ap (λ (t : Tables). t.modules) c.lists.ensures) in
    let modes : c.as_slice-modes.result.now ≡ c.args.t.now.modes = c.as_slice-modes.ensures ∙ sym (ap (λ (t : Tables). t.modes) c.lists-2.ensures) in
    record {
      from = omega (arith, c.requires.within, ap length modules);
      within = omega arith;
      end = ap length modes ∙ modes_all c.args.t.now (length c.as_slice-modules.result.now) c.keeps_ranges.ensures.ranges (ap length modules);
      choices = omega (arith, choices_none c.args.t.now c.as_slice-modules.result.now (length c.as_slice-modules.result.now));
    }

pub first_mode-first-requires : goal.first_mode-first-requires
first_mode-first-requires c = c.loop-k.invariant.end ∙ ap (modes_below c.args.t.now.modes) (let next : c.loop-k.k ≡ c.loop-k.k - 1 + 1 = omega (arith, c.loop-k-test.true) in next)

pub loop-k-preserved : goal.loop-k-preserved
loop-k-preserved c =
    let k = c.loop-k.k - 1 in
    let next : c.loop-k.k ≡ k + 1 = omega (arith, c.loop-k-test.true) in
    let i = c.loop-k.invariant in
    let end : c.loop-k.end ≡ modes_below c.args.t.now.modes (k + 1) = i.end ∙ ap (modes_below c.args.t.now.modes) next in
    let count = modes_between c.args.t.now k c.first_mode-first.result c.loop-k.end c.first_mode-first.ensures.first end in
    let below : k < length c.as_slice-modules.result.now = omega (arith, i.within, c.loop-k-test.true) in
    record {
      from = omega (arith, c.loop-k-test.true);
      within = omega (arith, i.within);
      end = c.first_mode-first.ensures.first;
      choices = choices_before (2 ^ 64 - 1) c.args.t.now c.as_slice-modules.result.now k c.loop-k.n c.more_choices-n.result (c.loop-k.end - c.first_mode-first.result) c.index-modules-k.result below c.index-modules-k.is
          (sym count) c.more_choices-n.ensures (i.choices ∙ ap (λ n. min (choices_from c.args.t.now n (drop n c.as_slice-modules.result.now)) (2 ^ 64 - 1)) next);
    }

pub returns : goal.returns
returns c =
    let modules : c.as_slice-modules.result.now ≡ c.args.t.now.modules = c.as_slice-modules.ensures ∙ sym (ap (λ (t : Tables). t.modules) c.lists.ensures) in
    let done : c.loop-k.k ≡ c.args.from = omega (arith, c.loop-k-test.false, c.loop-k.invariant.from) in
    c.loop-k.invariant.choices ∙ ap (λ n. min (choices_from c.args.t.now n (drop n c.as_slice-modules.result.now)) (2 ^ 64 - 1)) done
    ∙ ap (λ (ms : List Module). min (choices_from c.args.t.now c.args.from (drop c.args.from ms)) (2 ^ 64 - 1)) modules
