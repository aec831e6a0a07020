use Rattle.std.proofs.Common.{◌≡◌, ◌∙◌, ◌-◌, ℕ, List, length, suc, get_or, ap, subst, sym, refl, arith}
use Rattle.htl_patch.proofs.{Words.length-set, Words.nat_tests, ListLaws.get_push, ListLaws.place_end, ListLaws.told_here, ListLaws.told_past}
use Rattle.htl_patch.proofs.places.places.Goals as goal

pub loop-init : goal.loop-init
loop-init c =
    let none = ap length c.new-found.ensures.items in
    (none, omega arith, λ k less. absurd (omega (arith, less, none)))

pub loop-preserved : goal.loop-preserved
loop-preserved c =
    let items = c.in_ok-push.ensures.items in (
      omega (arith, c.in_ok-push.ensures.len, c.loop.invariant.0),
      grind (arith, nat_tests, c.loop-test.true, c.loop.invariant.1),
      λ k less.
          subst (λ (xs : List ℕ). get_or xs k 0 ≡ length c.args.keys.now) (sym {A = List ℕ} items)
          (get_push c.loop.found.items (length c.args.keys.now) k (length c.args.keys.now) c.loop.invariant.2 refl (omega (arith, less, c.in_ok-push.ensures.len))),
    )

pub loop-place-init : goal.loop-place-init
loop-place-init c =
    let size : length c.loop.found.items ≡ c.args.count = grind (arith, nat_tests, c.loop-test.false, c.loop.invariant.0, c.loop.invariant.1) in
    (omega arith, size, λ k less. (let e = place_end k c.args.keys.now in let v = c.loop.invariant.2 k (omega (arith, less, size)) in omega (arith, e, v)))

pub loop-place-preserved-then-key-count : goal.loop-place-preserved-then-key-count
loop-place-preserved-then-key-count c =
    let known = c.loop-place.invariant in
    let place = c.loop-place.place - 1 in (
      omega (arith, known.0),
      length-set c.loop-place.found.items (get_or c.args.keys.now place 0) place ∙ known.1,
      told_here c.args.keys.now c.loop-place.found.items c.loop-place.place place c.args.count (omega (arith, c.loop-place-test.true)) known.0 known.1 c.if-key-count.true known.2,
    )

pub loop-place-preserved : goal.loop-place-preserved
loop-place-preserved c =
    let known = c.loop-place.invariant in
    let next : suc (c.loop-place.place - 1) ≡ c.loop-place.place = omega (arith, c.loop-place-test.true) in
    (omega (arith, known.0), known.1, told_past c.args.keys.now c.loop-place.found.items c.loop-place.place _ c.args.count next known.0 c.if-key-count.false known.2)
