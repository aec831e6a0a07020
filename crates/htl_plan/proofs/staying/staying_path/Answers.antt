use Rattle.std.proofs.Common.{◌≤◌, ◌<◌, ◌+◌, ◌*◌, suc, length, get_or, add-one, ap, ◌∙◌, sym, refl, subst, arith}
use Rattle.htl_plan.proofs.{Words.starts, Words.Tables, Words.choice_of, Words.path_of, Words.choice_few, Words.start_read, StayingPath.path_from, StayingPath.path_last, StayingPath.path_next, StayingPath.path_small, StayingPath.radix_read}
use Rattle.htl_plan.proofs.staying.staying_path.Goals as goal

pub begun_choice-requires : goal.begun_choice-requires
begun_choice-requires c =
    let t : Tables = c.args.t.now in
    let modes = c.args.s.now.modes in
    let j = c.loop-j.j in
    let there : j < length (starts t) = omega (arith, c.loop-j-test.true, c.requires.frame.count) in
    record {
      few = subst (λ a. choice_of t modes a < 1024) (sym (start_read t c.args.f.now j c.requires.frame there)) (choice_few t c.keeps_ranges.ensures.ranges c.requires.limits j there modes c.requires.selection);
    }

pub overflow_mul-path : goal.overflow_mul-path
overflow_mul-path c =
    let t : Tables = c.args.t.now in
    let modes = c.args.s.now.modes in
    let j = c.loop-j.j in
    let path = c.loop-j.path in
    let radix = get_or c.args.f.now.radices j 0 in
    let there : j < length (starts t) = omega (arith, c.loop-j-test.true, c.requires.frame.count) in
    let choice = choice_of t modes (get_or (starts t) j 0) in
    let going = path_next t modes j there path radix choice (path_of t (λ a. modes)) (radix_read t c.args.f.now j c.requires.frame there) refl c.loop-j.invariant in
    omega (arith, path_small t modes c.keeps_ranges.ensures.ranges c.requires.limits c.requires.selection (path * radix + choice) (suc j) going)

pub overflow_add-path : goal.overflow_add-path
overflow_add-path c =
    let t : Tables = c.args.t.now in
    let modes = c.args.s.now.modes in
    let j = c.loop-j.j in
    let path = c.loop-j.path in
    let radix = get_or c.args.f.now.radices j 0 in
    let there : j < length (starts t) = omega (arith, c.loop-j-test.true, c.requires.frame.count) in
    let chosen = c.begun_choice.ensures ∙ ap (choice_of t modes) (start_read t c.args.f.now j c.requires.frame there) in
    let going = path_next t modes j there path radix c.begun_choice.result (path_of t (λ a. modes)) (radix_read t c.args.f.now j c.requires.frame there) chosen c.loop-j.invariant in
    omega (arith, path_small t modes c.keeps_ranges.ensures.ranges c.requires.limits c.requires.selection (path * radix + c.begun_choice.result) (suc j) going)

pub loop-j-preserved : goal.loop-j-preserved
loop-j-preserved c =
    let t : Tables = c.args.t.now in
    let modes = c.args.s.now.modes in
    let j = c.loop-j.j in
    let there : j < length (starts t) = omega (arith, c.loop-j-test.true, c.requires.frame.count) in
    let chosen = c.begun_choice.ensures ∙ ap (choice_of t modes) (start_read t c.args.f.now j c.requires.frame there) in
    ap (path_from t modes (c.loop-j.path * get_or c.args.f.now.radices j 0 + c.begun_choice.result)) (add-one j)
    ∙ path_next t modes j there c.loop-j.path (get_or c.args.f.now.radices j 0) c.begun_choice.result (path_of t (λ a. modes)) (radix_read t c.args.f.now j c.requires.frame there) chosen c.loop-j.invariant

pub returns : goal.returns
returns c =
    let t : Tables = c.args.t.now in
    let past : length (starts t) ≤ c.loop-j.j = omega (arith, c.loop-j-test.false, c.requires.frame.count) in
    sym (path_last t c.args.s.now.modes c.loop-j.path c.loop-j.j past) ∙ c.loop-j.invariant
