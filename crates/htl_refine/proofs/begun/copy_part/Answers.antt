use Rattle.std.proofs.Common.{◌≡◌, ◌-◌, length, drop, ap, arith}
use Rattle.htl_refine.proofs.Words.{length-drop, length-take-le, drop-put_mid}
use Rattle.htl_refine.proofs.begun.copy_part.Goals as goal

pub returns-clause-rest : goal.returns-clause-rest
returns-clause-rest c =
    let n = c.args.n in
    let end = c.args.end in
    let many : length c.copy_from_slice.new.self ≡ end - n = omega (arith, ap (λ xs. length xs) c.copy_from_slice.ensures.after, length-take-le (end - n) (drop n c.args.jobs.now), length-drop n c.args.jobs.now, c.requires.order, c.requires.room) in
    drop-put_mid n (end - n) c.args.out.now c.copy_from_slice.new.self end (omega (arith, c.requires.order)) (omega (arith, c.requires.order, c.requires.room)) many
