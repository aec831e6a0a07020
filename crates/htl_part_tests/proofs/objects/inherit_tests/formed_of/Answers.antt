use Rattle.std.proofs.Common.{sym, subst}
use Rattle.htl_load.specs.Loading.{HasBytes}
use Rattle.htl_part_tests.proofs.objects.inherit_tests.formed_of.Goals as goal

pub returns-in-Ok-formed : goal.returns-in-Ok-formed
returns-in-Ok-formed c =
    let found = c.in-Ok.ensures.found in
    subst (HasBytes c.args.bytes.now) (sym c.in-Ok-formed.ensures.formed.0) (record { object = found.0; spelled = found.1 })
