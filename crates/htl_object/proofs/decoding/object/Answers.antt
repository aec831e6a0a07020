use Rattle.htl_object.proofs.FileLaws.{front-in-range}
use Rattle.htl_object.proofs.decoding.object.Goals as goal

pub assemble-requires : goal.assemble-requires
assemble-requires c = front-in-range c.args.cursor.now c.in_ok-lists.lists c.front.new.cursor c.requires c.in_ok-lists.ensures
