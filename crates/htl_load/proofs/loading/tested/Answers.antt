use Rattle.std.proofs.Common.{◌∙◌, subst}
use Rattle.htl_load.proofs.{StateLaws.form_refused, StateLaws.spelling_refused, StateLaws.schedule_refused, Words.IsSpellingFault, Words.IsScheduleFault, Words.IsSpelled, Words.IsAccepted, Words.Object}
use Rattle.htl_load.proofs.loading.tested.Goals as goal

pub returns-in-Err-clause-refused : goal.returns-in-Err-clause-refused
returns-in-Err-clause-refused c = form_refused c.args.o c.in-Err.fault c.in-Err.ensures.fault.1

pub returns-in-Err-spelled-clause-refused : goal.returns-in-Err-spelled-clause-refused
returns-in-Err-spelled-clause-refused c =
    spelling_refused c.args.o c.in-Err-spelled.fault c.in-Ok.ensures.formed.1
    (subst (λ (x : Object). IsSpellingFault x c.in-Err-spelled.fault) c.in-Ok.ensures.formed.0 c.in-Err-spelled.ensures.fault.1)

pub returns-in-Err-scheduled-clause-refused : goal.returns-in-Err-scheduled-clause-refused
returns-in-Err-scheduled-clause-refused c =
    let same = c.in-Ok-spelled.ensures.spelled.0 ∙ c.in-Ok.ensures.formed.0 in
    schedule_refused c.args.o c.in-Err-scheduled.fault (subst IsSpelled c.in-Ok.ensures.formed.0 c.in-Ok-spelled.ensures.spelled.1)
    (subst (λ (x : Object). IsScheduleFault x c.in-Err-scheduled.fault) same c.in-Err-scheduled.ensures.fault.1)

pub returns-in-Ok-scheduled-clause-accepted : goal.returns-in-Ok-scheduled-clause-accepted
returns-in-Ok-scheduled-clause-accepted c =
    let same = c.in-Ok-spelled.ensures.spelled.0 ∙ c.in-Ok.ensures.formed.0 in
    (c.in-Ok-scheduled.ensures.loaded.0 ∙ same, subst IsAccepted same c.in-Ok-scheduled.ensures.loaded.1)
