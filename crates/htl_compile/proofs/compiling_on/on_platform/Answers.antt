use Rattle.htl_compile.proofs.{Words.refl, Words.sym, Words.subst, Words.KeepsLimits, Words.FitPlaces, OnPlatform.refused_on, PlatformTables.fit_with, PlatformTables.limits_with}
use Rattle.htl_compile.proofs.compiling_on.on_platform.Goals as goal

pub returns-in-Ok-clause-on : goal.returns-in-Ok-clause-on
returns-in-Ok-clause-on c = record { platform = c.in-Ok.read; says = c.in-Ok.ensures.exact; applied = c.apply.ensures.value; named = refl }

pub returns-in-Ok-clause-functions : goal.returns-in-Ok-clause-functions
returns-in-Ok-clause-functions c = subst FitPlaces (sym c.apply.ensures.value) (fit_with c.args.t c.in-Ok.read.worst c.requires.functions)

pub returns-in-Ok-clause-limits : goal.returns-in-Ok-clause-limits
returns-in-Ok-clause-limits c = subst KeepsLimits (sym c.apply.ensures.value) (limits_with c.args.t c.in-Ok.read.worst c.requires.limits)

pub returns-in-Err-clause-refused : goal.returns-in-Err-clause-refused
returns-in-Err-clause-refused c = refused_on c.args.t c.args.platform.now c.in-Err.stop c.in-Err.ensures.exact
