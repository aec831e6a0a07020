-- Whole runs of worked examples, computed.
use Rattle.std.specs.Prelude.{◌≡◌, List, [], ◌∷◌, pos, refl, codes}
use Rattle.std.specs.Fmt.{digits}
use Rattle.htl_runs.proofs.Words.{Event, At, Sense, Took, Ends, plain, empty_mode, alternating, ports, preempted, doubling, refined, reentered, Tables, SInstr, layout, run_text, Jobs, Code}
use Rattle.htl_walk.specs.declared.schedule.SInstr.TheVariants.{Dispatch, End}

abbrev one : List (List SInstr)
one = (Dispatch 0 3 ∷ End ∷ []) ∷ (Dispatch 0 4 ∷ End ∷ []) ∷ []

switched : run_text alternating (layout alternating) one (At 10 ∷ Sense 0 (pos 1) ∷ Ends 20 ∷ []) Jobs 20
    ≡ codes "v 0 g 0\nv 0 u 0\nm 0 M one\nj 0 3 M.one.f\nd 3 M.one.f\nv 10 g 1\nv 10 u 1\nm 10 M two\nj 10 14 M.two.h\nd 14 M.two.h\nv 20 u 101\nend 20 jobs 2 e 30 s 4\n"
unfolding digits
switched = refl

abbrev readings : List Event
readings = At 0 ∷ Sense 0 (pos 3) ∷ At 10 ∷ Sense 0 (pos 5) ∷ Ends 10 ∷ []

doubled : run_text doubling (layout doubling) ((Dispatch 0 4 ∷ End ∷ []) ∷ []) readings Jobs 10
    ≡ codes "v 0 s 3\nv 0 u 7\nm 0 M m\nj 0 4 M.m.dbl\nd 4 M.m.dbl\nv 10 s 5\nv 10 u 6\nend 10 jobs 1 e 10 s 2\n"
unfolding digits
doubled = refl

-- the E and S instructions too
listed : run_text doubling (layout doubling) ((Dispatch 0 4 ∷ End ∷ []) ∷ []) readings Code 10
    ≡ codes "e 0 0 enter M.m\ne 0 1 future 10 write 5\ne 0 2 future 0 read 7\ne 0 3 future 20 switch 10\ne 0 4 return\ne 0 7 call read M.m.dbl 0\ne 0 8 release M.m.dbl\ne 0 9 return\nv 0 s 3\nv 0 u 7\nm 0 M m\nj 0 4 M.m.dbl\nd 4 M.m.dbl\ns 4 0:0 dispatch 0 until 4\ns 4 0:1 end\ne 10 5 call write M.m.dbl 0\ne 10 6 return\nv 10 s 5\nv 10 u 6\nend 10 jobs 1 e 10 s 2\n"
unfolding digits
listed = refl

abbrev twice : List (List SInstr)
twice = (Dispatch 0 2 ∷ Dispatch 1 5 ∷ Dispatch 0 10 ∷ End ∷ []) ∷ []

preempts : run_text preempted (layout preempted) twice (Ends 10 ∷ []) Jobs 10
    ≡ codes "v 0 x 1\nv 0 y 0\nv 0 z 0\nm 0 M m\nj 0 2 M.m.a\nj 2 5 M.m.b\nd 5 M.m.b\nv 6 y 5\nj 5 10 M.m.a\nd 10 M.m.a\nv 10 z 2\nend 10 jobs 2 e 26 s 4\n"
unfolding digits
preempts = refl

-- a job that is done early: the other waits for its release
early : run_text preempted (layout preempted) twice (At 0 ∷ Took 0 1 ∷ Ends 10 ∷ []) Jobs 10
    ≡ codes "v 0 x 1\nv 0 y 0\nv 0 z 0\nm 0 M m\nj 0 1 M.m.a\nd 1 M.m.a\nj 2 5 M.m.b\nd 5 M.m.b\nv 6 y 5\nv 10 z 2\nend 10 jobs 2 e 26 s 4\n"
unfolding digits
early = refl

through_port : run_text ports (layout ports) ((Dispatch 1 3 ∷ Dispatch 0 7 ∷ End ∷ []) ∷ []) (At 0 ∷ Took 1 1 ∷ Ends 10 ∷ []) Jobs 10
    ≡ codes "v 0 x 2\nv 0 u 0\nm 0 M m\nj 0 1 M.m.p\nd 1 M.m.p\nj 1 5 M.m.q\nd 5 M.m.q\nv 10 u 14\nend 10 jobs 2 e 20 s 3\n"
unfolding digits
through_port = refl

-- an abstract invocation for which nobody stands in the first round
stands_in : run_text refined (layout refined) ((Dispatch 0 4 ∷ Dispatch 1 6 ∷ End ∷ []) ∷ []) (At 10 ∷ Sense 2 (pos 1) ∷ Ends 20 ∷ []) Jobs 20
    ≡ codes "v 0 u 3\nv 0 w 0\nv 0 g 0\nm 0 M m\nm 0 N off\nj 0 2 M.m.fix\nd 2 M.m.fix\nv 10 w 1\nv 10 g 1\nm 10 N on\nj 10 13 N.on.fast\nd 13 N.on.fast\nj 13 15 M.m.fix\nd 15 M.m.fix\nv 20 u 10\nv 20 w 2\nend 20 jobs 3 e 54 s 6\n"
unfolding digits
stands_in = refl

-- a refined mode that is left and entered again
returns : run_text (reentered 1) (layout (reentered 1)) ((Dispatch 0 4 ∷ End ∷ []) ∷ (End ∷ []) ∷ []) (At 10 ∷ Sense 0 (pos 1) ∷ At 20 ∷ Sense 0 (pos 0) ∷ Ends 30 ∷ []) Jobs 30
    ≡ codes "v 0 g 0\nv 0 u 0\nm 0 M m\nm 0 N one\nj 0 3 N.one.f\nd 3 N.one.f\nv 10 g 1\nv 10 u 1\nm 10 M rest\nm 10 N -\nv 20 g 0\nm 20 M m\nm 20 N one\nj 20 23 N.one.f\nd 23 N.one.f\nv 30 u 2\nm 30 N two\nend 30 jobs 2 e 50 s 5\n"
unfolding digits
returns = refl

stays : run_text (reentered 0) (layout (reentered 0)) ((Dispatch 0 4 ∷ End ∷ []) ∷ (End ∷ []) ∷ []) (At 10 ∷ Sense 0 (pos 1) ∷ Ends 20 ∷ []) Jobs 20
    ≡ codes "v 0 g 0\nv 0 u 0\nm 0 M m\nm 0 N one\nj 0 3 N.one.f\nd 3 N.one.f\nv 10 g 1\nv 10 u 1\nm 10 N two\nj 10 14 N.two.h\nd 14 N.two.h\nv 20 u 101\nend 20 jobs 2 e 41 s 4\n"
unfolding digits
stays = refl

-- without modules there are no rounds
abbrev bare : Tables
bare = record { comms = plain (codes "x") 10 (pos 5) ∷ []; modes = []; modules = []; ports = []; tasks = []; invs = []; switches = []; functions = [] }

still : run_text bare (layout bare) [] (At 5 ∷ Ends 10 ∷ []) Code 10 ≡ codes "v 0 x 5\nend 10 jobs 0 e 0 s 0\n"
unfolding digits
still = refl

-- a round with no job: the last instruction of a schedule is left as it begins
idle : run_text empty_mode (layout empty_mode) ((End ∷ []) ∷ []) (Ends 10 ∷ []) Code 10
    ≡ codes "e 0 0 enter M.m\ne 0 1 future 20 switch 3\ne 0 2 return\nv 0 s 0\nv 0 u 7\nm 0 M m\ns 0 0:0 end\nend 10 jobs 0 e 3 s 1\n"
unfolding digits
idle = refl
