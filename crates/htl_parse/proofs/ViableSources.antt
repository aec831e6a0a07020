-- Reading modules, programs and sources stops where no token fits, where reading their parts does.
use Rattle.std.proofs.Common.{pos, List, [], ◌∷◌}
use Rattle.htl_parse.proofs.Words.{Placed, SpellsEach, no_other, SpellsClause, absent, SpellsComm, SpellsTask, SpellsPort, SpellsInvoke, SpellsSwitch, SpellsMode, mode, SpellsModule, a_module, SpellsProgram, program, SpellsSource, source, Token, clause_at, repeated_at}
use Rattle.htl_text.specs.declared.token.Token.TheVariants as token
use Rattle.htl_text.specs.declared.token.Sign.TheVariants as sign
use Rattle.htl_text.specs.declared.token.Word.TheVariants as word
use Rattle.htl_parse.specs.ReadingStatements.{begins_comm, comm_at, begins_task, task_at, begins_port, port_at, begins_invoke, invoke_at, begins_switch, switch_at, begins_mode, mode_at, begins_module, module_at, begins_program, program_at, source_at}
use Rattle.htl_parse.proofs.{ViableLists.repeated-tells, ViableParts.clause-tells, ViableParts.port-tells, ViableParts.invoke-tells, ViableStatements.comm-tells, ViableStatements.task-tells, ViableStatements.switch-tells}
use Rattle.htl_parse.proofs.Fronts.{fronts-none, Tells, part, a-sign, a-word, a-name, a-number}

pub mode-tells : (ts : List Placed) → Tells SpellsMode ts (mode_at ts)
unfolding mode_at
mode-tells ts =
    let mw : Token = token.Word word.Mode in
    let nm : Token = token.Ident (80 ∷ []) in
    let pe : Token = token.Word word.Period in
    let nu : Token = token.Number (pos 0) in
    let ob : Token = token.Sign sign.OpenBrace in
    let cb : Token = token.Sign sign.CloseBrace in
    a-word SpellsMode _ _ _ (fronts-none ts) (mw ∷ nm ∷ pe ∷ nu ∷ ob ∷ cb ∷ []) (λ n rest. (_, mode absent no_other no_other no_other)) word.Mode _ (λ k us at1.
    a-name SpellsMode _ _ _ at1 (nm ∷ pe ∷ nu ∷ ob ∷ cb ∷ []) (λ n rest. (_, mode absent no_other no_other no_other)) _ (λ n m vs at2.
    a-word SpellsMode _ _ _ at2 (pe ∷ nu ∷ ob ∷ cb ∷ []) (λ n rest. (_, mode absent no_other no_other no_other)) word.Period _ (λ i ws at3.
    a-number SpellsMode _ _ _ at3 (nu ∷ ob ∷ cb ∷ []) (λ n rest. (_, mode absent no_other no_other no_other)) _ (λ x q xs at4.
    part (SpellsClause word.Program) SpellsMode _ _ _ at4 (ob ∷ cb ∷ []) (λ other a n rest s. (_, mode s no_other no_other no_other)) _ (clause_at word.Program xs) (clause-tells word.Program xs) (λ r ys g at5 sr.
    a-sign SpellsMode _ _ _ at5 (ob ∷ cb ∷ []) (λ n rest. (_, mode (sr _) no_other no_other no_other)) sign.OpenBrace _ (λ j zs at6.
    part (SpellsEach SpellsPort) SpellsMode _ _ _ at6 (cb ∷ []) (λ other a n rest s. (_, mode (sr _) s no_other no_other)) _ (repeated_at begins_port port_at zs) (repeated-tells SpellsPort port_at port-tells begins_port zs) (λ ports p1 h at7 sp.
    part (SpellsEach SpellsInvoke) SpellsMode _ _ _ at7 (cb ∷ []) (λ other a n rest s. (_, mode (sr _) (sp _) s no_other)) _ (repeated_at begins_invoke invoke_at p1) (repeated-tells SpellsInvoke invoke_at invoke-tells begins_invoke p1) (λ invokes p2 l at8 si.
    part (SpellsEach SpellsSwitch) SpellsMode _ _ _ at8 (cb ∷ []) (λ other a n rest s. (_, mode (sr _) (sp _) (si _) s)) _ (repeated_at begins_switch switch_at p2) (repeated-tells SpellsSwitch switch_at switch-tells begins_switch p2) (λ switches p3 e at9 ss.
    a-sign SpellsMode _ _ _ at9 (cb ∷ []) (λ n rest. (_, mode (sr _) (sp _) (si _) (ss _))) sign.CloseBrace _ (λ c rest last. record { f = _; fronts = last; spells = λ o. mode (sr _) (sp _) (si _) (ss _) }))))))))))

pub module-tells : (ts : List Placed) → Tells SpellsModule ts (module_at ts)
unfolding module_at
module-tells ts =
    let mw : Token = token.Word word.Module in
    let nm : Token = token.Ident (80 ∷ []) in
    let st : Token = token.Word word.Start in
    let ob : Token = token.Sign sign.OpenBrace in
    let cb : Token = token.Sign sign.CloseBrace in
    a-word SpellsModule _ _ _ (fronts-none ts) (mw ∷ nm ∷ st ∷ nm ∷ ob ∷ cb ∷ []) (λ n rest. (_, a_module no_other no_other)) word.Module _ (λ k us at1.
    a-name SpellsModule _ _ _ at1 (nm ∷ st ∷ nm ∷ ob ∷ cb ∷ []) (λ n rest. (_, a_module no_other no_other)) _ (λ n m vs at2.
    a-word SpellsModule _ _ _ at2 (st ∷ nm ∷ ob ∷ cb ∷ []) (λ n rest. (_, a_module no_other no_other)) word.Start _ (λ i ws at3.
    a-name SpellsModule _ _ _ at3 (nm ∷ ob ∷ cb ∷ []) (λ n rest. (_, a_module no_other no_other)) _ (λ d q xs at4.
    a-sign SpellsModule _ _ _ at4 (ob ∷ cb ∷ []) (λ n rest. (_, a_module no_other no_other)) sign.OpenBrace _ (λ j ys at5.
    part (SpellsEach SpellsTask) SpellsModule _ _ _ at5 (cb ∷ []) (λ other a n rest s. (_, a_module s no_other)) _ (repeated_at begins_task task_at ys) (repeated-tells SpellsTask task_at task-tells begins_task ys) (λ tasks p1 h at6 sts.
    part (SpellsEach SpellsMode) SpellsModule _ _ _ at6 (cb ∷ []) (λ other a n rest s. (_, a_module (sts _) s)) _ (repeated_at begins_mode mode_at p1) (repeated-tells SpellsMode mode_at mode-tells begins_mode p1) (λ modes p2 l at7 sms.
    a-sign SpellsModule _ _ _ at7 (cb ∷ []) (λ n rest. (_, a_module (sts _) (sms _))) sign.CloseBrace _ (λ c rest last. record { f = _; fronts = last; spells = λ o. a_module (sts _) (sms _) }))))))))

pub program-tells : (ts : List Placed) → Tells SpellsProgram ts (program_at ts)
unfolding program_at
program-tells ts =
    let pw : Token = token.Word word.Program in
    let nm : Token = token.Ident (80 ∷ []) in
    let ob : Token = token.Sign sign.OpenBrace in
    let cb : Token = token.Sign sign.CloseBrace in
    a-word SpellsProgram _ _ _ (fronts-none ts) (pw ∷ nm ∷ ob ∷ cb ∷ []) (λ n rest. (_, program no_other no_other)) word.Program _ (λ k us at1.
    a-name SpellsProgram _ _ _ at1 (nm ∷ ob ∷ cb ∷ []) (λ n rest. (_, program no_other no_other)) _ (λ n m vs at2.
    a-sign SpellsProgram _ _ _ at2 (ob ∷ cb ∷ []) (λ n rest. (_, program no_other no_other)) sign.OpenBrace _ (λ j ys at3.
    part (SpellsEach SpellsComm) SpellsProgram _ _ _ at3 (cb ∷ []) (λ other a n rest s. (_, program s no_other)) _ (repeated_at begins_comm comm_at ys) (repeated-tells SpellsComm comm_at comm-tells begins_comm ys) (λ comms p1 h at4 sc.
    part (SpellsEach SpellsModule) SpellsProgram _ _ _ at4 (cb ∷ []) (λ other a n rest s. (_, program (sc _) s)) _ (repeated_at begins_module module_at p1) (repeated-tells SpellsModule module_at module-tells begins_module p1) (λ modules p2 l at5 sm.
    a-sign SpellsProgram _ _ _ at5 (cb ∷ []) (λ n rest. (_, program (sc _) (sm _))) sign.CloseBrace _ (λ c rest last. record { f = _; fronts = last; spells = λ o. program (sc _) (sm _) }))))))

pub source-tells : (ts : List Placed) → Tells SpellsSource ts (source_at ts)
unfolding source_at
source-tells ts =
    part SpellsProgram SpellsSource _ _ _ (fronts-none ts) [] (λ other a n rest s. (_, source s no_other)) _ (program_at ts) (program-tells ts) (λ p us g at sp.
    part (SpellsEach SpellsProgram) SpellsSource _ _ _ at [] (λ other a n rest s. (_, source (sp _) s)) _ (repeated_at begins_program program_at us) (repeated-tells SpellsProgram program_at program-tells begins_program us) (λ ps rest h end sps.
    record { f = _; fronts = end; spells = λ o. source (sp _) (sps o) }))
