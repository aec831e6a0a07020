use Rattle.std.proofs.Common.{◌<◌, length, get_or, take, arith, ◌∙◌}
use Rattle.htl_refine.proofs.{Words.starts, Words.start_read, Words.begun_places, Words.modes_of_all, BegunPlaces.begun_step, BegunPlaces.begun_room, BegunPlaces.modes_read, BegunPlaces.as_many}
use Rattle.htl_refine.proofs.derived_path.fill_begun.Goals as goal

pub put_start-n-requires-clause-room : goal.put_start-n-requires-clause-room
put_start-n-requires-clause-room c =
    let t = c.args.t.now in
    let sels = c.args.sels.now in
    let j = c.loop-j.j in
    let l : j < length sels = omega arith in
    let k : j < length (starts t) = omega (arith, l, c.requires.few) in
    let room = begun_room t (modes_of_all sels) (starts t) j c.loop-j.n c.as_slice-modes.result.now (get_or c.args.f.now.starts j 0) (take c.fill_roots-modules.result c.fill_roots-modules.new.out) (length (begun_places t (modes_of_all sels) (starts t)))
    (omega (arith, l, as_many sels)) k (c.as_slice-modes.ensures ∙ modes_read sels j _ l) (start_read t c.args.f.now j c.requires.frame k) c.fill_roots-modules.ensures.roots c.loop-j.invariant.count in
    omega (arith, room, c.requires.room, c.loop-j.invariant.len)

pub loop-j-preserved : goal.loop-j-preserved
loop-j-preserved c =
    let t = c.args.t.now in
    let sels = c.args.sels.now in
    let j = c.loop-j.j in
    let l : j < length sels = omega arith in
    let k : j < length (starts t) = omega (arith, l, c.requires.few) in
    let s = begun_step t (modes_of_all sels) (starts t) j c.loop-j.n c.put_start-n.result c.loop-j.out c.put_start-n.new.out c.as_slice-modes.result.now (get_or c.args.f.now.starts j 0) (take c.fill_roots-modules.result c.fill_roots-modules.new.out) (begun_places t (modes_of_all sels) (starts t))
    (omega (arith, l, as_many sels)) k (c.as_slice-modes.ensures ∙ modes_read sels j _ l) (start_read t c.args.f.now j c.requires.frame k) c.fill_roots-modules.ensures.roots c.put_start-n.ensures.front c.put_start-n.ensures.count c.loop-j.invariant.front c.loop-j.invariant.count in
    record { front = s.0; count = s.1; len = c.put_start-n.ensures.len ∙ c.loop-j.invariant.len }
