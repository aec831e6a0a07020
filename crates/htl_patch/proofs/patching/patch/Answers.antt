use Rattle.htl_patch.proofs.{Words.subst, Words.IsAccepted, Answering.only, Answering.refused}
use Rattle.htl_patch.proofs.patching.patch.Goals as goal

pub returns-clause-only : goal.returns-clause-only
returns-clause-only c =
    let accepted : IsAccepted c.args.o.now = subst IsAccepted c.object-host.ensures.value c.object-host.ensures.accepted in
    only c.args.o.now c.args.donor.now c.args.unit.now c.args.mode.now accepted c.requires c.replaced.result c.replaced.ensures.patched c.replaced.ensures.fault

pub returns-clause-refused : goal.returns-clause-refused
returns-clause-refused c =
    let accepted : IsAccepted c.args.o.now = subst IsAccepted c.object-host.ensures.value c.object-host.ensures.accepted in
    refused c.args.o.now c.args.donor.now c.args.unit.now c.args.mode.now accepted c.requires c.replaced.result c.replaced.ensures.patched c.replaced.ensures.fault
