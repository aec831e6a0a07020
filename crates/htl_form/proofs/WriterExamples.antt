-- The rules on writers and cycles on small tables.
use Rattle.std.specs.Prelude.{◌≡◌, ℕ, Bool, true, false, List, [], ◌∷◌, Some, None, codes, refl}
use Rattle.htl_form.proofs.Words.{module_named, Inv, Module, Tables, unwritten_fault, rewritten_fault}
use Rattle.htl_model.specs.declared.parts.End.TheVariants as E
use Rattle.htl_form.proofs.WriterSamples.{call, mode, concrete, one_mode, more_modes}
use Rattle.htl_form.specs.{Cycles.cycle_fault, Cycles.precedes_itself, WriterFaults.writer_fault, WriterFaults.stand_together}

-- ---- writers of ports

abbrev reader : Inv
reader = call 0 0 (E.Port 0 ∷ []) []

abbrev writer : ℕ → Inv
writer k = call 0 k [] (E.Port 0 ∷ [])

read_alone : unwritten_fault (one_mode (reader ∷ [])) (E.Port 0) ≡ Some (0, 1)
read_alone = refl

read_and_written : unwritten_fault (one_mode (reader ∷ writer 1 ∷ [])) (E.Port 0) ≡ None
read_and_written = refl

written_once : rewritten_fault (one_mode (reader ∷ writer 1 ∷ [])) 1 (writer 1) 0 (E.Port 0) ≡ None
written_once = refl

first_of_two : rewritten_fault (one_mode (writer 0 ∷ writer 1 ∷ [])) 0 (writer 0) 0 (E.Port 0) ≡ None
first_of_two = refl

second_of_two : rewritten_fault (one_mode (writer 0 ∷ writer 1 ∷ [])) 1 (writer 1) 0 (E.Port 0) ≡ Some (2, 1)
second_of_two = refl

second_of_three : rewritten_fault (one_mode (writer 0 ∷ writer 1 ∷ writer 2 ∷ [])) 1 (writer 1) 0 (E.Port 0) ≡ Some (3, 1)
second_of_three = refl

abbrev twice : Inv
twice = call 0 0 [] (E.Port 0 ∷ E.Port 0 ∷ [])

written_twice_by_itself : rewritten_fault (one_mode (twice ∷ [])) 0 twice 1 (E.Port 0) ≡ Some (2, 1)
written_twice_by_itself = refl

-- one invocation reads a port that nobody writes and is the second writer of another
abbrev both_ways : Inv
both_ways = call 0 1 (E.Port 1 ∷ []) (E.Port 0 ∷ [])

its_input : unwritten_fault (one_mode (writer 0 ∷ both_ways ∷ [])) (E.Port 1) ≡ Some (0, 1)
its_input = refl

its_output : rewritten_fault (one_mode (writer 0 ∷ both_ways ∷ [])) 1 both_ways 0 (E.Port 0) ≡ Some (2, 1)
its_output = refl

-- ---- cycles

-- an invocation that reads one port and writes another
abbrev pass : ℕ → ℕ → ℕ → Inv
pass k from to = call 0 k (E.Port from ∷ []) (E.Port to ∷ [])

cycle_of_one : cycle_fault (one_mode (pass 0 0 0 ∷ [])) 0 (pass 0 0 0) ≡ Some (1, 0)
unfolding precedes_itself
cycle_of_one = refl

cycle_of_two : cycle_fault (one_mode (pass 0 0 1 ∷ pass 1 1 0 ∷ [])) 0 (pass 0 0 1) ≡ Some (2, 0)
unfolding precedes_itself
cycle_of_two = refl

cycle_of_three : cycle_fault (one_mode (pass 0 0 1 ∷ pass 1 1 2 ∷ pass 2 2 0 ∷ [])) 0 (pass 0 0 1) ≡ Some (3, 0)
unfolding precedes_itself
cycle_of_three = refl

chain_of_three : cycle_fault (one_mode (writer 0 ∷ pass 1 0 1 ∷ pass 2 1 2 ∷ [])) 1 (pass 1 0 1) ≡ None
unfolding precedes_itself
chain_of_three = refl

-- what follows a cycle is on none
behind_a_cycle : cycle_fault (one_mode (pass 0 0 0 ∷ pass 1 0 1 ∷ [])) 1 (pass 1 0 1) ≡ None
unfolding precedes_itself
behind_a_cycle = refl

-- two cycles of one count together
two_cycles : cycle_fault (one_mode (pass 0 0 0 ∷ pass 1 1 1 ∷ pass 2 1 2 ∷ [])) 0 (pass 0 0 0) ≡ Some (2, 0)
unfolding precedes_itself
two_cycles = refl

-- ---- concrete writers

-- an invocation in mode m of task k that writes an instance
abbrev puts : ℕ → ℕ → ℕ → Inv
puts m k n = call m k [] (E.Comm 0 n ∷ [])

abbrev root : List Module
root = module_named (codes "M") None 0 ∷ []

abbrev in_one : List (ℕ × Bool) → List Inv → Tables
in_one kinds invs = more_modes root (mode (codes "m") 0 ∷ []) kinds invs

same_instance : writer_fault (in_one concrete (puts 0 0 1 ∷ puts 0 1 1 ∷ [])) 1 (puts 0 1 1) 0 (E.Comm 0 1) ≡ Some (0, 0)
unfolding stand_together
same_instance = refl

other_instance : writer_fault (in_one concrete (puts 0 0 1 ∷ puts 0 1 2 ∷ [])) 1 (puts 0 1 2) 0 (E.Comm 0 2) ≡ None
unfolding stand_together
other_instance = refl

least_of_two : writer_fault (in_one concrete (puts 0 0 1 ∷ puts 0 1 1 ∷ puts 0 2 1 ∷ [])) 2 (puts 0 2 1) 0 (E.Comm 0 1) ≡ Some (0, 0)
unfolding stand_together
least_of_two = refl

abbrev puts_twice : Inv
puts_twice = call 0 0 [] (E.Comm 0 1 ∷ E.Comm 0 1 ∷ [])

by_itself : writer_fault (in_one concrete (puts_twice ∷ [])) 0 puts_twice 1 (E.Comm 0 1) ≡ Some (0, 0)
unfolding stand_together
by_itself = refl

its_first_output : writer_fault (in_one concrete (puts_twice ∷ [])) 0 puts_twice 0 (E.Comm 0 1) ≡ None
unfolding stand_together
its_first_output = refl

after_an_abstract_one : writer_fault (in_one ((0, true) ∷ (0, false) ∷ []) (puts 0 0 1 ∷ puts 0 1 1 ∷ [])) 1 (puts 0 1 1) 0 (E.Comm 0 1) ≡ None
unfolding stand_together
after_an_abstract_one = refl

an_abstract_one : writer_fault (in_one ((0, false) ∷ (0, true) ∷ []) (puts 0 0 1 ∷ puts 0 1 1 ∷ [])) 1 (puts 0 1 1) 0 (E.Comm 0 1) ≡ None
unfolding stand_together
an_abstract_one = refl

-- two modes of one module never stand together
abbrev two_modes : Tables
two_modes = more_modes root (mode (codes "m") 0 ∷ mode (codes "n") 0 ∷ []) concrete (puts 0 0 1 ∷ puts 1 1 1 ∷ [])

modes_of_one_module : writer_fault two_modes 1 (puts 1 1 1) 0 (E.Comm 0 1) ≡ None
unfolding stand_together
modes_of_one_module = refl

-- modes of two root modules do, whatever the instances
abbrev two_modules : Tables
two_modules =
    more_modes (module_named (codes "M") None 0 ∷ module_named (codes "N") None 1 ∷ []) (mode (codes "m") 0 ∷ mode (codes "n") 1 ∷ []) ((0, false) ∷ (1, false) ∷ [])
    (puts 0 0 1 ∷ puts 1 1 2 ∷ [])

modes_of_two_modules : writer_fault two_modules 1 (puts 1 1 2) 0 (E.Comm 0 2) ≡ Some (0, 0)
unfolding stand_together
modes_of_two_modules = refl

-- a module of two modes, of which the first is refined
abbrev refined : List Inv → Tables
refined invs =
    more_modes (module_named (codes "M") None 0 ∷ module_named (codes "N") (Some 0) 2 ∷ []) (mode (codes "m") 0 ∷ mode (codes "n") 0 ∷ mode (codes "c") 1 ∷ [])
    ((0, false) ∷ (1, false) ∷ []) invs

with_the_refined_mode : writer_fault (refined (puts 0 0 1 ∷ puts 2 1 2 ∷ [])) 1 (puts 2 1 2) 0 (E.Comm 0 2) ≡ Some (0, 0)
unfolding stand_together
with_the_refined_mode = refl

with_the_other_mode : writer_fault (refined (puts 1 0 1 ∷ puts 2 1 2 ∷ [])) 1 (puts 2 1 2) 0 (E.Comm 0 2) ≡ None
unfolding stand_together
with_the_other_mode = refl
