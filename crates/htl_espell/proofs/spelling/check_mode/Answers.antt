use Rattle.std.proofs.Common.{◌≡◌, ◌∙◌, Err, List, ap, rules, refl}
use Rattle.htl_espell.proofs.Words.{EInstr, fault_of, begin_read, phase_departure, decide_read}
use Rattle.htl_espell.proofs.ModeFaults.{enter_departs, begin_departs, writes_depart, reads_depart, decided_last}
use Rattle.htl_espell.proofs.spelling.check_mode.Goals as goal

pub returns-in_err-check_enter-clause-fault : goal.returns-in_err-check_enter-clause-fault
returns-in_err-check_enter-clause-fault c =
    let departs : c.from_residual.result ≡ Err c.in_err-check_enter.field-0.0 = search rules in
    ap fault_of departs
    ∙ enter_departs c.args.t.now c.args.code.now c.args.run.mode c.args.at.enter c.args.at.begin c.args.at.decide c.args.instrs.now c.args.code.now.enter c.requires.instrs refl c.requires.enter c.requires.begin c.requires.decide
    c.in_err-check_enter.field-0.0 c.in_err-check_enter.ensures.fault

pub returns-in_err-writes-clause-fault : goal.returns-in_err-writes-clause-fault
returns-in_err-writes-clause-fault c =
    let departs : c.from_residual-in_err-writes.result ≡ Err c.in_err-writes.field-0.0 = search rules in
    ap fault_of departs
    ∙ begin_departs c.args.t.now c.args.code.now c.args.run.mode c.args.at.enter c.args.at.begin c.args.at.decide c.args.instrs.now c.args.code.now.enter c.requires.instrs refl c.requires.enter c.requires.begin c.requires.decide
    c.in_ok-check_enter.ensures.fault c.in_err-writes.field-0.0 (c.in_err-writes.ensures.targets ∙ ap (λ (z : List EInstr). begin_read z c.args.t.now c.args.at.decide c.args.run.mode c.args.at.begin) c.in_ok-check_enter.ensures.same)

pub returns-in_err-check_phase-clause-fault : goal.returns-in_err-check_phase-clause-fault
returns-in_err-check_phase-clause-fault c =
    let departs : c.from_residual-in_err-check_phase.result ≡ Err c.in_err-check_phase.field-0.0 = search rules in
    ap fault_of departs
    ∙ writes_depart c.args.t.now c.args.code.now c.args.run.mode c.args.at.enter c.args.at.begin c.args.at.decide c.args.instrs.now c.args.code.now.enter c.requires.instrs refl c.requires.enter c.requires.begin c.requires.decide
    c.in_ok-check_enter.ensures.fault (c.in_ok-writes.writes, c.in_ok-writes.reads) (c.in_ok-writes.ensures.targets ∙ ap (λ (z : List EInstr). begin_read z c.args.t.now c.args.at.decide c.args.run.mode c.args.at.begin) c.in_ok-check_enter.ensures.same)
    c.in_err-check_phase.field-0.0 (c.in_err-check_phase.ensures.fault ∙ ap (λ (z : List EInstr). phase_departure c.args.t.now z c.args.run.mode 1 c.in_ok-writes.writes) (c.in_ok-writes.ensures.same ∙ c.in_ok-check_enter.ensures.same))

pub returns-in_err-check_phase-2-clause-fault : goal.returns-in_err-check_phase-2-clause-fault
returns-in_err-check_phase-2-clause-fault c =
    let departs : c.from_residual-in_err-check_phase-2.result ≡ Err c.in_err-check_phase-2.field-0.0 = search rules in
    ap fault_of departs
    ∙ reads_depart c.args.t.now c.args.code.now c.args.run.mode c.args.at.enter c.args.at.begin c.args.at.decide c.args.instrs.now c.args.code.now.enter c.requires.instrs refl c.requires.enter c.requires.begin c.requires.decide
    c.in_ok-check_enter.ensures.fault (c.in_ok-writes.writes, c.in_ok-writes.reads) (c.in_ok-writes.ensures.targets ∙ ap (λ (z : List EInstr). begin_read z c.args.t.now c.args.at.decide c.args.run.mode c.args.at.begin) c.in_ok-check_enter.ensures.same)
    (c.in_ok-check_phase.ensures.fault ∙ ap (λ (z : List EInstr). phase_departure c.args.t.now z c.args.run.mode 1 c.in_ok-writes.writes) (c.in_ok-writes.ensures.same ∙ c.in_ok-check_enter.ensures.same))
    c.in_err-check_phase-2.field-0.0 (c.in_err-check_phase-2.ensures.fault ∙ ap (λ (z : List EInstr). phase_departure c.args.t.now z c.args.run.mode 3 c.in_ok-writes.reads) (c.in_ok-check_phase.ensures.same ∙ (c.in_ok-writes.ensures.same ∙ c.in_ok-check_enter.ensures.same)))

pub returns-clause-fault : goal.returns-clause-fault
returns-clause-fault c =
    decided_last c.args.t.now c.args.code.now c.args.run.mode c.args.at.enter c.args.at.begin c.args.at.decide c.args.instrs.now c.as_slice.result.now c.requires.instrs c.as_slice.ensures
    c.requires.enter c.requires.begin c.requires.decide c.in_ok-check_enter.ensures.fault (c.in_ok-writes.writes, c.in_ok-writes.reads) (c.in_ok-writes.ensures.targets ∙ ap (λ (z : List EInstr). begin_read z c.args.t.now c.args.at.decide c.args.run.mode c.args.at.begin) c.in_ok-check_enter.ensures.same)
    (c.in_ok-check_phase.ensures.fault ∙ ap (λ (z : List EInstr). phase_departure c.args.t.now z c.args.run.mode 1 c.in_ok-writes.writes) (c.in_ok-writes.ensures.same ∙ c.in_ok-check_enter.ensures.same))
    (c.in_ok-check_phase-2.ensures.fault ∙ ap (λ (z : List EInstr). phase_departure c.args.t.now z c.args.run.mode 3 c.in_ok-writes.reads) (c.in_ok-check_phase.ensures.same ∙ (c.in_ok-writes.ensures.same ∙ c.in_ok-check_enter.ensures.same)))
    _ (c.check_decide.ensures.fault ∙ ap (λ (z : List EInstr). fault_of (decide_read z c.args.t.now c.args.at.begin c.as_slice.result.now c.args.run.mode c.args.at.decide)) (c.in_ok-check_phase-2.ensures.same ∙ (c.in_ok-check_phase.ensures.same ∙ (c.in_ok-writes.ensures.same ∙ c.in_ok-check_enter.ensures.same))))
