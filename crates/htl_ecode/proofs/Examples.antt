-- Worked examples: layouts, addresses that are done, and departures.
use Rattle.std.specs.Prelude.{◌≡◌, ℕ, List, [], ◌∷◌, ◌++◌, Some, None, pos, refl, length, set, map}
use Rattle.htl_ecode.proofs.Words.{Event, At, Sense, Ends, doubling, preempted, ports, refined, reentered, alternating, tanks, ECode, EInstr, Target, Action, Delay, Endless, Branch, fault, departure, run_done, Done, layout}
use Rattle.htl_ecode.specs.declared.instr.EInstr.TheVariants as I

-- ---- layouts

abbrev doubling_code : List EInstr
doubling_code =
    I.Enter 0 ∷ I.Future 10 1 5 ∷ I.Future 0 3 7 ∷ I.Future 20 2 10 ∷ I.Return ∷ I.CallWrite 0 0
    ∷ I.Return ∷ I.CallRead 0 0 ∷ I.Release 0 ∷ I.Return ∷ I.Jump 1 ∷ []

doubling_layout : layout doubling ≡ record { enter = 0 ∷ []; begin = 1 ∷ []; decide = 10 ∷ []; instrs = doubling_code }
doubling_layout = refl

doubling_spells : departure doubling (layout doubling) ≡ None
doubling_spells = refl

abbrev preempted_code : List EInstr
preempted_code =
    I.Enter 0 ∷ I.Future 6 1 5 ∷ I.Future 0 3 10 ∷ I.Future 10 2 17 ∷ I.Return ∷ I.CallWrite 1 0
    ∷ I.Future 4 1 8 ∷ I.Return ∷ I.CallWrite 0 0 ∷ I.Return ∷ I.CallRead 0 0 ∷ I.Release 0
    ∷ I.Future 2 3 14 ∷ I.Return ∷ I.CallRead 1 0 ∷ I.Release 1 ∷ I.Return ∷ I.Jump 1 ∷ []

preempted_layout : layout preempted ≡ record { enter = 0 ∷ []; begin = 1 ∷ []; decide = 17 ∷ []; instrs = preempted_code }
preempted_layout = refl

preempted_spells : departure preempted (layout preempted) ≡ None
preempted_spells = refl

abbrev ports_code : List EInstr
ports_code =
    I.Enter 0 ∷ I.Future 10 1 5 ∷ I.Future 0 3 7 ∷ I.Future 10 2 11 ∷ I.Return ∷ I.CallWrite 0 0
    ∷ I.Return ∷ I.CallRead 1 0 ∷ I.Release 0 ∷ I.Release 1 ∷ I.Return ∷ I.Jump 1 ∷ []

ports_layout : layout ports ≡ record { enter = 0 ∷ []; begin = 1 ∷ []; decide = 11 ∷ []; instrs = ports_code }
ports_layout = refl

ports_spells : departure ports (layout ports) ≡ None
ports_spells = refl

abbrev refined_code : List EInstr
refined_code =
    I.Enter 0 ∷ I.Fork 1 ∷ I.Future 10 1 6 ∷ I.Future 0 3 8 ∷ I.Future 10 2 11 ∷ I.Return
    ∷ I.CallWrite 1 0 ∷ I.Return ∷ I.CallRead 1 0 ∷ I.Release 1 ∷ I.Return ∷ I.Jump 2
    ∷ I.Enter 1 ∷ I.Future 10 2 15 ∷ I.Return ∷ I.IfMode 0 18 ∷ I.Leave ∷ I.Return
    ∷ I.JumpIf 0 20 ∷ I.Jump 13 ∷ I.Enter 2 ∷ I.Future 10 1 25 ∷ I.Future 0 3 27 ∷ I.Future 10 2 30
    ∷ I.Return ∷ I.CallWrite 2 0 ∷ I.Return ∷ I.CallRead 2 0 ∷ I.Release 2 ∷ I.Return
    ∷ I.IfMode 0 33 ∷ I.Leave ∷ I.Return ∷ I.JumpIf 1 12 ∷ I.Jump 21 ∷ []

refined_layout : layout refined ≡ record { enter = 0 ∷ 12 ∷ 20 ∷ []; begin = 2 ∷ 13 ∷ 21 ∷ []; decide = 11 ∷ 15 ∷ 30 ∷ []; instrs = refined_code }
refined_layout = refl

refined_spells : departure refined (layout refined) ≡ None
refined_spells = refl

abbrev reentered_code : List EInstr
reentered_code =
    I.Enter 0 ∷ I.Fork 1 ∷ I.Future 10 2 4 ∷ I.Return ∷ I.JumpIf 0 6 ∷ I.Jump 2
    ∷ I.Enter 1 ∷ I.Future 10 2 9 ∷ I.Return ∷ I.JumpIf 1 0 ∷ I.Jump 7 ∷ I.Enter 2
    ∷ I.Future 10 1 16 ∷ I.Future 0 3 18 ∷ I.Future 10 2 21 ∷ I.Return ∷ I.CallWrite 1 0 ∷ I.Return
    ∷ I.CallRead 1 0 ∷ I.Release 1 ∷ I.Return ∷ I.IfMode 0 24 ∷ I.Leave ∷ I.Return
    ∷ I.JumpIf 2 26 ∷ I.Jump 12 ∷ I.Enter 3 ∷ I.Future 10 1 31 ∷ I.Future 0 3 33 ∷ I.Future 10 2 36
    ∷ I.Return ∷ I.CallWrite 2 0 ∷ I.Return ∷ I.CallRead 2 0 ∷ I.Release 2 ∷ I.Return
    ∷ I.IfMode 0 39 ∷ I.Leave ∷ I.Return ∷ I.Jump 27 ∷ []

reentered_layout : layout (reentered 1) ≡ record { enter = 0 ∷ 6 ∷ 11 ∷ 26 ∷ []; begin = 2 ∷ 7 ∷ 12 ∷ 27 ∷ []; decide = 4 ∷ 9 ∷ 21 ∷ 36 ∷ []; instrs = reentered_code }
reentered_layout = refl

reentered_spells : departure (reentered 1) (layout (reentered 1)) ≡ None
reentered_spells = refl

abbrev tanks_code : List EInstr
tanks_code =
    I.Enter 0 ∷ I.Fork 1 ∷ I.Future 500 2 4 ∷ I.Return ∷ I.Jump 2 ∷ I.Enter 1
    ∷ I.Future 400 1 10 ∷ I.Future 100 3 12 ∷ I.Future 500 2 15 ∷ I.Return ∷ I.CallWrite 1 0 ∷ I.Return
    ∷ I.CallRead 1 0 ∷ I.Release 1 ∷ I.Return ∷ I.IfMode 0 18 ∷ I.Leave ∷ I.Return
    ∷ I.JumpIf 0 20 ∷ I.Jump 6 ∷ I.Enter 2 ∷ I.Future 400 1 25 ∷ I.Future 100 3 27 ∷ I.Future 500 2 30
    ∷ I.Return ∷ I.CallWrite 2 0 ∷ I.Return ∷ I.CallRead 2 0 ∷ I.Release 2 ∷ I.Return
    ∷ I.IfMode 0 33 ∷ I.Leave ∷ I.Return ∷ I.Jump 21 ∷ I.Enter 3 ∷ I.Future 400 1 39
    ∷ I.Future 100 3 41 ∷ I.Future 500 2 44 ∷ I.Return ∷ I.CallWrite 3 0 ∷ I.Return ∷ I.CallRead 3 0
    ∷ I.Release 3 ∷ I.Return ∷ I.Jump 35 ∷ []

tanks_layout : layout tanks ≡ record { enter = 0 ∷ 5 ∷ 20 ∷ 34 ∷ []; begin = 2 ∷ 6 ∷ 21 ∷ 35 ∷ []; decide = 4 ∷ 15 ∷ 30 ∷ 44 ∷ []; instrs = tanks_code }
tanks_layout = refl

tanks_spells : departure tanks (layout tanks) ≡ None
tanks_spells = refl

alternating_spells : departure alternating (layout alternating) ≡ None
alternating_spells = refl

-- ---- what is done: the instant, the module and the address

two_readings : List Event
two_readings = At 0 ∷ Sense 0 (pos 3) ∷ At 10 ∷ Sense 0 (pos 5) ∷ Ends 10 ∷ []

abbrev places : List (ℕ × Done) → List (ℕ × ℕ × ℕ)
places ds = map (λ d. (d.0, d.1.«module», d.1.address)) ds

doubling_done : places (run_done doubling (layout doubling) two_readings 10)
    ≡ (0, 0, 0) ∷ (0, 0, 1) ∷ (0, 0, 2) ∷ (0, 0, 3) ∷ (0, 0, 4) ∷ (0, 0, 7) ∷ (0, 0, 8) ∷ (0, 0, 9) ∷ (10, 0, 5) ∷ (10, 0, 6) ∷ []
unfolding two_readings
doubling_done = refl

preempted_done : places (run_done preempted (layout preempted) [] 10)
    ≡ (0, 0, 0) ∷ (0, 0, 1) ∷ (0, 0, 2) ∷ (0, 0, 3) ∷ (0, 0, 4) ∷ (0, 0, 10) ∷ (0, 0, 11) ∷ (0, 0, 12) ∷ (0, 0, 13) ∷ (2, 0, 14)
    ∷ (2, 0, 15) ∷ (2, 0, 16) ∷ (6, 0, 5) ∷ (6, 0, 6) ∷ (6, 0, 7) ∷ (10, 0, 8) ∷ (10, 0, 9) ∷ (10, 0, 17) ∷ (10, 0, 1) ∷ (10, 0, 2)
    ∷ (10, 0, 3) ∷ (10, 0, 4) ∷ (10, 0, 10) ∷ (10, 0, 11) ∷ (10, 0, 12) ∷ (10, 0, 13) ∷ []
preempted_done = refl

ports_done : places (run_done ports (layout ports) [] 10)
    ≡ (0, 0, 0) ∷ (0, 0, 1) ∷ (0, 0, 2) ∷ (0, 0, 3) ∷ (0, 0, 4) ∷ (0, 0, 7) ∷ (0, 0, 8) ∷ (0, 0, 9) ∷ (0, 0, 10) ∷ (10, 0, 5)
    ∷ (10, 0, 6) ∷ (10, 0, 11) ∷ (10, 0, 1) ∷ (10, 0, 2) ∷ (10, 0, 3) ∷ (10, 0, 4) ∷ (10, 0, 7) ∷ (10, 0, 8) ∷ (10, 0, 9) ∷ (10, 0, 10) ∷ []
ports_done = refl

-- at 10 the refinement switches to its second mode, at 20 it stays there
refined_done : places (run_done refined (layout refined) (At 10 ∷ Sense 2 (pos 1) ∷ Ends 20 ∷ []) 20)
    ≡ (0, 0, 0) ∷ (0, 0, 1) ∷ (0, 0, 2) ∷ (0, 0, 3) ∷ (0, 0, 4) ∷ (0, 0, 5) ∷ (0, 1, 12) ∷ (0, 1, 13) ∷ (0, 1, 14) ∷ (0, 0, 8)
    ∷ (0, 0, 9) ∷ (0, 0, 10) ∷ (10, 0, 6) ∷ (10, 0, 7) ∷ (10, 0, 11) ∷ (10, 0, 2) ∷ (10, 0, 3) ∷ (10, 0, 4) ∷ (10, 0, 5) ∷ (10, 1, 15)
    ∷ (10, 1, 18) ∷ (10, 1, 20) ∷ (10, 1, 21) ∷ (10, 1, 22) ∷ (10, 1, 23) ∷ (10, 1, 24) ∷ (10, 0, 8) ∷ (10, 0, 9) ∷ (10, 0, 10) ∷ (10, 1, 27)
    ∷ (10, 1, 28) ∷ (10, 1, 29) ∷ (20, 0, 6) ∷ (20, 0, 7) ∷ (20, 1, 25) ∷ (20, 1, 26) ∷ (20, 0, 11) ∷ (20, 0, 2) ∷ (20, 0, 3) ∷ (20, 0, 4)
    ∷ (20, 0, 5) ∷ (20, 1, 30) ∷ (20, 1, 33) ∷ (20, 1, 34) ∷ (20, 1, 21) ∷ (20, 1, 22) ∷ (20, 1, 23) ∷ (20, 1, 24) ∷ (20, 0, 8) ∷ (20, 0, 9)
    ∷ (20, 0, 10) ∷ (20, 1, 27) ∷ (20, 1, 28) ∷ (20, 1, 29) ∷ []
refined_done = refl

-- the refined mode is left at 10, and its refinement with it; at 20 both are entered anew
reentered_done : places (run_done (reentered 1) (layout (reentered 1)) (At 10 ∷ Sense 0 (pos 1) ∷ At 20 ∷ Sense 0 (pos 0) ∷ Ends 30 ∷ []) 30)
    ≡ (0, 0, 0) ∷ (0, 0, 1) ∷ (0, 0, 2) ∷ (0, 0, 3) ∷ (0, 1, 11) ∷ (0, 1, 12) ∷ (0, 1, 13) ∷ (0, 1, 14) ∷ (0, 1, 15) ∷ (0, 1, 18)
    ∷ (0, 1, 19) ∷ (0, 1, 20) ∷ (10, 1, 16) ∷ (10, 1, 17) ∷ (10, 0, 4) ∷ (10, 0, 6) ∷ (10, 0, 7) ∷ (10, 0, 8) ∷ (10, 1, 21) ∷ (10, 1, 22)
    ∷ (10, 1, 23) ∷ (20, 0, 9) ∷ (20, 0, 0) ∷ (20, 0, 1) ∷ (20, 0, 2) ∷ (20, 0, 3) ∷ (20, 1, 11) ∷ (20, 1, 12) ∷ (20, 1, 13) ∷ (20, 1, 14)
    ∷ (20, 1, 15) ∷ (20, 1, 18) ∷ (20, 1, 19) ∷ (20, 1, 20) ∷ (30, 1, 16) ∷ (30, 1, 17) ∷ (30, 0, 4) ∷ (30, 0, 5) ∷ (30, 0, 2) ∷ (30, 0, 3)
    ∷ (30, 1, 21) ∷ (30, 1, 24) ∷ (30, 1, 26) ∷ (30, 1, 27) ∷ (30, 1, 28) ∷ (30, 1, 29) ∷ (30, 1, 30) ∷ (30, 1, 33) ∷ (30, 1, 34) ∷ (30, 1, 35) ∷ []
reentered_done = refl

tanks_done : places (run_done tanks (layout tanks) (At 0 ∷ Sense 0 (pos 250) ∷ Sense 1 (pos 300) ∷ Ends 500 ∷ []) 500)
    ≡ (0, 0, 0) ∷ (0, 0, 1) ∷ (0, 0, 2) ∷ (0, 0, 3) ∷ (0, 1, 5) ∷ (0, 1, 6) ∷ (0, 1, 7) ∷ (0, 1, 8) ∷ (0, 1, 9) ∷ (0, 2, 34)
    ∷ (0, 2, 35) ∷ (0, 2, 36) ∷ (0, 2, 37) ∷ (0, 2, 38) ∷ (100, 1, 12) ∷ (100, 1, 13) ∷ (100, 1, 14) ∷ (100, 2, 41) ∷ (100, 2, 42) ∷ (100, 2, 43)
    ∷ (400, 1, 10) ∷ (400, 1, 11) ∷ (400, 2, 39) ∷ (400, 2, 40) ∷ (500, 0, 4) ∷ (500, 0, 2) ∷ (500, 0, 3) ∷ (500, 1, 15) ∷ (500, 1, 18) ∷ (500, 1, 19)
    ∷ (500, 1, 6) ∷ (500, 1, 7) ∷ (500, 1, 8) ∷ (500, 1, 9) ∷ (500, 2, 44) ∷ (500, 2, 35) ∷ (500, 2, 36) ∷ (500, 2, 37) ∷ (500, 2, 38) ∷ []
tanks_done = refl

-- a switch to the mode that runs enters nothing
kept_count : length (run_done (reentered 0) (layout (reentered 0)) (At 10 ∷ Sense 0 (pos 1) ∷ Ends 20 ∷ []) 20) ≡ 41
kept_count = refl

alternating_count : length (run_done alternating (layout alternating) (At 10 ∷ Sense 0 (pos 1) ∷ Ends 20 ∷ []) 20) ≡ 30
alternating_count = refl

-- ---- departures

abbrev code_of : List EInstr → ECode
code_of js = record { enter = 0 ∷ []; begin = 1 ∷ []; decide = 10 ∷ []; instrs = js }

abbrev changed : ℕ → EInstr → ECode
changed a i = code_of (set doubling_code a i)

another_delay : departure doubling (changed 1 (I.Future 11 1 5)) ≡ Some (fault Delay 1)
another_delay = refl

another_anchor : departure doubling (changed 3 (I.Future 20 2 9)) ≡ Some (fault Branch 3)
another_anchor = refl

round_and_round : departure doubling (changed 10 (I.Jump 10)) ≡ Some (fault Endless 10)
round_and_round = refl

another_instruction : departure doubling (changed 6 I.Leave) ≡ Some (fault Action 6)
another_instruction = refl

another_phase : departure doubling (changed 1 (I.Future 10 2 5)) ≡ Some (fault Action 1)
another_phase = refl

past_the_end : departure doubling (changed 2 (I.Future 0 3 11)) ≡ Some (fault Target 11)
past_the_end = refl

-- a plain jump may stand before any required instruction, and is done
jumping : ECode
jumping = code_of (set doubling_code 2 (I.Future 0 3 11) ++ I.Jump 7 ∷ [])

jumping_spells : departure doubling jumping ≡ None
unfolding jumping
jumping_spells = refl

jumping_count : length (run_done doubling jumping two_readings 10) ≡ 11
unfolding jumping two_readings
jumping_count = refl

-- the jumps from the target of a round's end to the decide list are done at the end of the round
abbrev turning : ECode
turning = code_of (set doubling_code 3 (I.Future 20 2 11) ++ I.Jump 10 ∷ [])

turning_spells : departure doubling turning ≡ None
turning_spells = refl

turning_done : places (run_done doubling turning [] 20)
    ≡ (0, 0, 0) ∷ (0, 0, 1) ∷ (0, 0, 2) ∷ (0, 0, 3) ∷ (0, 0, 4) ∷ (0, 0, 7) ∷ (0, 0, 8) ∷ (0, 0, 9) ∷ (10, 0, 5) ∷ (10, 0, 6)
    ∷ (20, 0, 11) ∷ (20, 0, 10) ∷ (20, 0, 1) ∷ (20, 0, 2) ∷ (20, 0, 3) ∷ (20, 0, 4) ∷ (20, 0, 7) ∷ (20, 0, 8) ∷ (20, 0, 9) ∷ []
turning_done = refl

-- where the round's end leads nowhere and the list lacks its `Return`, the first is the answer
anchor_before_return : departure doubling (code_of (set (set doubling_code 3 (I.Future 20 2 9)) 4 I.Leave)) ≡ Some (fault Branch 3)
anchor_before_return = refl

-- `Leave` and `Return` behind `IfMode` come before the rest at its target
abbrev refined_with : ℕ → EInstr → ℕ → EInstr → ECode
refined_with a i b j = record { enter = 0 ∷ 12 ∷ 20 ∷ []; begin = 2 ∷ 13 ∷ 21 ∷ []; decide = 11 ∷ 15 ∷ 30 ∷ []; instrs = set (set refined_code a i) b j }

leaving_before_the_rest : departure refined (refined_with 17 I.Leave 18 I.Leave) ≡ Some (fault Action 17)
leaving_before_the_rest = refl

switch_elsewhere : departure refined (refined_with 18 (I.JumpIf 0 12) 33 (I.JumpIf 1 20)) ≡ Some (fault Branch 18)
switch_elsewhere = refl
