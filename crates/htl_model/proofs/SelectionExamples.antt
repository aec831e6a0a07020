-- Selections and positions of two root modules with two modes each, and a refinement between them.
use Rattle.std.specs.Prelude.{◌≡◌, [], ◌∷◌, Some, None, refl, codes, map, true, false, pos}
use Rattle.htl_model.specs.declared.parts.End.TheVariants as E
use Rattle.htl_model.proofs.Words.{Tables, release, window_end, output_function, switch_function, chosen, is_selection, selection_count, root_mode, positions, root_period}
use Rattle.htl_model.proofs.Sources.{plain, mode, module_named, task, call, switch, int_one, refined, reentered}

abbrev two_by_two : Tables
two_by_two =
    record {
      comms = plain (codes "x") 2 (pos 0) ∷ plain (codes "y") 5 (pos 0) ∷ [];
      modes = mode (codes "a") 0 10 ∷ mode (codes "b") 0 10 ∷ mode (codes "c") 1 10 ∷ mode (codes "d") 2 10 ∷ mode (codes "e") 2 10 ∷ [];
      modules = module_named (codes "M") None 0 ∷ module_named (codes "R") (Some 0) 2 ∷ module_named (codes "N") None 3 ∷ [];
      ports = [];
      tasks = task (codes "p") 0 true 1 int_one ∷ task (codes "q") 0 false 1 int_one ∷ task (codes "r") 1 false 1 int_one ∷ task (codes "s") 2 false 1 int_one ∷ [];
      invs = call 0 0 None (E.Comm 0 0 ∷ []) (E.Comm 0 5 ∷ [])
          ∷ call 0 1 None (E.Comm 0 2 ∷ E.Comm 1 1 ∷ E.Comm 0 1 ∷ []) (E.Comm 1 2 ∷ E.Comm 0 4 ∷ [])
          ∷ call 1 1 None [] []
          ∷ call 2 2 (Some 0) (E.Comm 0 0 ∷ []) (E.Comm 0 5 ∷ [])
          ∷ call 4 3 None (E.Comm 0 0 ∷ []) (E.Comm 0 3 ∷ []) ∷ [];
      switches = switch 0 1 0 ∷ switch 3 4 0 ∷ [];
      functions = [];
    }

number_of_selections : selection_count two_by_two ≡ 4
number_of_selections = refl

-- the first root module is the most significant place
modes_of_the_first : map (λ sel. root_mode two_by_two sel 0) (0 ∷ 1 ∷ 2 ∷ 3 ∷ []) ≡ 0 ∷ 0 ∷ 1 ∷ 1 ∷ []
modes_of_the_first = refl

modes_of_the_last : map (λ sel. root_mode two_by_two sel 2) (0 ∷ 1 ∷ 2 ∷ 3 ∷ []) ≡ 3 ∷ 4 ∷ 3 ∷ 4 ∷ []
modes_of_the_last = refl

-- root invocations alone, by module and then in the order of the source
all_positions : map (positions two_by_two) (0 ∷ 1 ∷ 2 ∷ 3 ∷ []) ≡ (0 ∷ 1 ∷ []) ∷ (0 ∷ 1 ∷ 4 ∷ []) ∷ (2 ∷ []) ∷ (2 ∷ 4 ∷ []) ∷ []
all_positions = refl

period : root_period two_by_two ≡ Some 10
period = refl

-- the latest read and the earliest write; 0 and the period without one
releases : map (release two_by_two) two_by_two.invs ≡ 0 ∷ 5 ∷ 0 ∷ 0 ∷ 0 ∷ []
releases = refl

window_ends : map (window_end two_by_two) two_by_two.invs ≡ 10 ∷ 8 ∷ 10 ∷ 10 ∷ 6 ∷ []
window_ends = refl

-- an abstract task has no functions; switches come behind all tasks
function_numbers : output_function two_by_two 1 0 ∷ output_function two_by_two 3 0 ∷ switch_function two_by_two 1 ∷ [] ≡ 0 ∷ 2 ∷ 4 ∷ []
function_numbers = refl

-- ---- what stands for the root invocations of a refined mode

-- the mode `off` leaves the abstract invocation out, and the mode `on` has a child of it; the concrete one stands for itself
left_out : map (chosen refined (Some 0 ∷ Some 1 ∷ [])) (0 ∷ 1 ∷ []) ≡ None ∷ Some 1 ∷ []
left_out = refl

stood_for : map (chosen refined (Some 0 ∷ Some 2 ∷ [])) (0 ∷ 1 ∷ []) ≡ Some 2 ∷ Some 1 ∷ []
stood_for = refl

-- each mode of the refinement has a child: that of the mode that runs stands for the parent
running_child : map (λ m. chosen (reentered 1) (Some 0 ∷ Some m ∷ []) 0) (2 ∷ 3 ∷ []) ≡ Some 1 ∷ Some 2 ∷ []
running_child = refl

-- two refinements down, and none where the lower one is inactive
abbrev deep : Tables
deep =
    record refined {
      modes = mode (codes "m") 0 10 ∷ mode (codes "n") 1 10 ∷ mode (codes "o") 2 10 ∷ [];
      modules = module_named (codes "M") None 0 ∷ module_named (codes "N") (Some 0) 1 ∷ module_named (codes "O") (Some 1) 2 ∷ [];
      tasks = task (codes "plan") 0 true 4 int_one ∷ task (codes "part") 1 true 4 int_one ∷ task (codes "step") 2 false 4 int_one ∷ [];
      invs = call 0 0 None [] (E.Comm 0 1 ∷ []) ∷ call 1 1 (Some 0) [] (E.Comm 0 1 ∷ []) ∷ call 2 2 (Some 1) [] (E.Comm 0 1 ∷ []) ∷ [];
    }

two_levels : map (λ modes. chosen deep modes 0) ((Some 0 ∷ Some 1 ∷ Some 2 ∷ []) ∷ (Some 0 ∷ Some 1 ∷ None ∷ []) ∷ []) ≡ Some 2 ∷ None ∷ []
two_levels = refl

-- the refined mode runs where its module is in it, and its refinement is active just then
selections_of_modes : map (is_selection (reentered 1)) ((Some 0 ∷ Some 2 ∷ []) ∷ (Some 1 ∷ None ∷ []) ∷ (Some 1 ∷ Some 2 ∷ []) ∷ (None ∷ None ∷ []) ∷ []) ≡ true ∷ true ∷ false ∷ false ∷ []
selections_of_modes = refl
