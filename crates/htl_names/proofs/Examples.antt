-- Small sources and the name rules that they break, worked out by the definitions.
use Rattle.std.proofs.Common.{◌≡◌, ◌+◌, ◌∷◌, ◌<◌, ℕ, zero, suc, inl, inr, Bool, eqb, true, false, length, replicate, sym, ◌∙◌, List, [], Option, Some, None, pos, refl, arith, map}
use Rattle.htl_names.proofs.Words.{first_some, Variable, Infix, Expr, PlainProgram, PlainModule, PlainMode, PlainTask, PlainOut, Concrete, Id, InvokeNode, ParamNode, CommNode, Key, ModeAt, entry, symbols_of, module_key, NameBroken, RepeatedName, UnknownName, WrongKind, ProgramTree, ParentName, Limits, Span, unknown_token, uses, input_use, Num, NameFault, IsFirstOf, map_at, list_to, layout, comms_in, names_of, distinct_count, bytes_eq, Graph, Reached, root, beneath, edges, edges_from, refined_count, levels, order, get_list_to, list_any, program_modules, nth_module, IsMisplaced}
use Rattle.std.proofs.lemmas.List.{get_or-replicate}
use Rattle.htl_names.proofs.TreeLevels.{IsTree}
use Rattle.htl_base.specs.declared.Ty.TheVariants as ty
use Rattle.htl_base.specs.declared.operator.BinOp.TheVariants as op
use Rattle.htl_text.specs.declared.tree.ConstNode.TheVariants as const
use Rattle.htl_names.specs.declared.fault.NameFault.TheVariants as fault

-- names of one letter, by their codes
abbrev a_name : List ℕ
a_name = 97 ∷ []

abbrev b_name : List ℕ
b_name = 98 ∷ []

abbrev id : List ℕ → ℕ → Id
id n t = record { name = n; token = t }

abbrev number : ℕ → ℕ → Num
number n t = record { x = pos n; token = t }

abbrev program : List ℕ → ℕ → List PlainModule → PlainProgram
program n t modules = record { name = id n t; comms = []; modules = modules }

abbrev module_with : ℕ → List PlainTask → List PlainMode → PlainModule
module_with t tasks modes = record { name = id a_name t; start = id a_name (t + 2); tasks = tasks; modes = modes }

abbrev mode : ℕ → ℕ → List InvokeNode → PlainMode
mode t period invokes = record { name = id a_name t; period = number period (t + 2); program = None; ports = []; invokes = invokes; switches = [] }

-- ---- a module's name repeats one of another program

abbrev twice : List PlainProgram
twice = program a_name 1 (module_with 4 [] [] ∷ []) ∷ program b_name 9 (module_with 12 [] [] ∷ []) ∷ []

module_name_repeats : NameBroken twice RepeatedName 3 (fault.Twice 12)
module_name_repeats =
    (entry (module_key a_name) 0 (id a_name 12), refl, (1, entry (module_key a_name) 0 (id a_name 4), omega arith, refl, refl), refl)

-- ---- an output's expression uses an output

abbrev param : List ℕ → ℕ → ParamNode
param n t = record { ty = ty.Int; name = id n t }

abbrev output : PlainOut
output = record { param = param b_name 17; first = 19; value = Variable (id b_name 19) }

-- task a input (int a) output (int b = b) worst 1
abbrev loose : PlainTask
loose = record { name = id a_name 8; inputs = param a_name 12 ∷ []; outputs = Concrete (output ∷ []); worst = number 1 22 }

abbrev output_used : List PlainProgram
output_used = program a_name 1 (module_with 4 (loose ∷ []) (mode 25 1 [] ∷ []) ∷ []) ∷ []

output_is_no_input : NameBroken output_used UnknownName 1 (fault.Unknown 19)
output_is_no_input = (input_use 0 0 0 1 (id b_name 19), refl, omega arith, refl)

output_is_found : first_some (unknown_token (symbols_of output_used)) (uses output_used) ≡ Some 19
output_is_found = refl

-- ---- `parent` in the root program

abbrev refining : InvokeNode
refining = record { task = id a_name 30; reads = []; writes = []; parent = Some (id a_name 38) }

abbrev root_parent : List PlainProgram
root_parent = program a_name 1 (module_with 4 [] (mode 25 1 (refining ∷ []) ∷ []) ∷ []) ∷ []

parent_in_root : NameBroken root_parent ParentName 0 (fault.Unknown 38)
parent_in_root = (record { program = 0; id = id a_name 38 }, refl, tt, refl)

-- ---- a period of 0

abbrev still : List PlainProgram
still = program a_name 1 (module_with 4 [] (mode 25 0 [] ∷ []) ∷ []) ∷ []

no_period : NameBroken still WrongKind 0 (fault.Kind 27)
no_period = (Span (number 0 27), refl, refl, refl)

-- ---- trees of programs

-- a, b ..
abbrev letter : ℕ → Id
letter k = id ((97 + k) ∷ []) 0

-- the module of program p, if it has one
abbrev own_modules : ℕ → List ℕ → List PlainModule
own_modules p [] = []
own_modules p qs =
    record (module_with 0 [] (map_at (λ m q. record (mode 0 1 []) { name = letter m; program = Some (letter q) }) 0 qs)) { name = letter p } ∷ []

-- Programs a, b .. with a module each, whose modes are refined by the programs of these numbers; one without numbers is empty.
abbrev source : List (List ℕ) → List PlainProgram
source rows = map_at (λ p qs. record (program [] 0 (own_modules p qs)) { name = letter p }) 0 rows

abbrev symbols : List (List ℕ) → List (Key × ℕ)
symbols rows = symbols_of (source rows)

-- of each program those that refine its modes, and how many modes it refines
abbrev graph : List (List ℕ) → Graph × List ℕ
graph rows = (edges (symbols rows) (source rows), list_to (refined_count (symbols rows) (source rows)) (length rows))

abbrev at : ℕ → ℕ → Option ModeAt
at p m = Some (record { program = p; «module» = 0; mode = m })

-- where no mode of the root is refined, the root alone is reached
root_alone : (g : Graph) → edges_from g 0 ≡ [] → (p : ℕ) → Reached g p → p ≡ 0
root_alone g none _ root = refl
root_alone g none _ (beneath q p r e) = let same = root_alone g none q r in grind arith

-- a program that refines one mode, and that is reached, is in place
in_place : (rows : List (List ℕ)) (p : ℕ) → refined_count (symbols rows) (source rows) (suc p) ≡ 1 → Reached (edges (symbols rows) (source rows)) (suc p)
    → IsMisplaced (symbols rows) (source rows) (suc p) → ⊥
in_place rows p one reached (inl other) = other one
in_place rows p one reached (inr not) = not reached

-- modes a and b of program a are refined by b and c, mode a of b by d
abbrev tree : List (List ℕ)
tree = (1 ∷ 2 ∷ []) ∷ (3 ∷ []) ∷ [] ∷ [] ∷ []

tree_row : (graph tree ≡ (tree, 0 ∷ 1 ∷ 1 ∷ 1 ∷ [])) × (levels (symbols tree) (source tree) ≡ 3)
    × (order (symbols tree) (source tree) ≡ nth_module 0 None 0 ∷ nth_module 1 (at 0 0) 0 ∷ [])
tree_row = (refl, refl, refl)

tree_in_place : IsTree (symbols tree) (source tree)
tree_in_place zero lt wrong = omega (arith, wrong)
tree_in_place (suc zero) lt wrong = in_place tree 0 refl (beneath 0 1 root refl) wrong
tree_in_place (suc (suc zero)) lt wrong = in_place tree 1 refl (beneath 0 2 root refl) wrong
tree_in_place (suc (suc (suc zero))) lt wrong = in_place tree 2 refl (beneath 1 3 (beneath 0 1 root refl) refl) wrong
tree_in_place (suc (suc (suc (suc p)))) lt wrong = omega (arith, lt)

-- nine programs, of which each but the last has a mode that the next refines
abbrev chain : List (List ℕ)
chain = (1 ∷ []) ∷ (2 ∷ []) ∷ (3 ∷ []) ∷ (4 ∷ []) ∷ (5 ∷ []) ∷ (6 ∷ []) ∷ (7 ∷ []) ∷ (8 ∷ []) ∷ [] ∷ []

chain_row : (graph chain ≡ (chain, 0 ∷ replicate 8 1)) × (order (symbols chain) (source chain) ≡ nth_module 0 None 0 ∷ list_to (λ p. nth_module (suc p) (at p 0) 0) 7)
    × NameBroken (source chain) Limits 8 (fault.Limit 9 9)
chain_row = (refl, refl, (9, 8, refl, refl, omega arith, refl))

chain_in_place : IsTree (symbols chain) (source chain)
chain_in_place zero lt wrong = omega (arith, wrong)
chain_in_place (suc p) lt wrong = in_place chain p (sym (get_list_to count 9 (suc p) 0 lt) ∙ get_or-replicate 8 p 1 0 (omega (arith, lt))) (reached (suc p) lt) wrong
  where
    count : ℕ → ℕ
    count = refined_count (symbols chain) (source chain)

    names_next : ℕ → Bool
    names_next p = list_any (eqb (suc p)) (edges_from (edges (symbols chain) (source chain)) p)

    reached : (p : ℕ) → p < 9 → Reached (edges (symbols chain) (source chain)) p
    reached zero lt = root
    reached (suc p) lt =
        beneath p (suc p) (reached p (omega (arith, lt)))
        (sym (get_list_to names_next 8 p false (omega (arith, lt))) ∙ get_or-replicate 8 p true false (omega (arith, lt)))

-- a source with this graph, whose first program out of place is this one
abbrev IsRow : List (List ℕ) → List ℕ → ℕ → Type 0
IsRow rows counts p = (graph rows ≡ (rows, counts)) × IsFirstOf (source rows) ProgramTree (fault.NotATree p)

-- a root that refines no mode is in place
root_in_place : (rows : List (List ℕ)) → refined_count (symbols rows) (source rows) 0 ≡ 0 → (k : ℕ) (f : NameFault) → k < 1
    → NameBroken (source rows) ProgramTree k f → ⊥
root_in_place rows none zero f lt broken = let wrong = broken.1 in omega (arith, none, wrong)
root_in_place rows none (suc k) f lt broken = omega (arith, lt)

-- b refines both modes of a
refines_both : IsRow ((1 ∷ 1 ∷ []) ∷ [] ∷ []) (0 ∷ 2 ∷ []) 1
refines_both = (refl, (1, (omega arith, inl (λ e. omega (arith, e)), refl), root_in_place ((1 ∷ 1 ∷ []) ∷ [] ∷ []) refl))

-- b refines its own mode
refines_itself : IsRow ([] ∷ (1 ∷ []) ∷ []) (0 ∷ 1 ∷ []) 1
refines_itself = (refl, (1, (omega arith, inr (λ r. omega (arith, root_alone _ refl 1 r)), refl), root_in_place ([] ∷ (1 ∷ []) ∷ []) refl))

-- b and c refine each other's mode
ring_beside_root : IsRow ([] ∷ (2 ∷ []) ∷ (1 ∷ []) ∷ []) (0 ∷ 1 ∷ 1 ∷ []) 1
ring_beside_root = (refl, (1, (omega arith, inr (λ r. omega (arith, root_alone _ refl 1 r)), refl), root_in_place ([] ∷ (2 ∷ []) ∷ (1 ∷ []) ∷ []) refl))

-- the root refines b's mode
root_refines : IsRow ((1 ∷ []) ∷ (0 ∷ []) ∷ []) (1 ∷ 1 ∷ []) 0
root_refines = (refl, (0, (omega arith, omega arith, refl), λ k f lt broken. omega (arith, lt)))

-- b refines no mode
refines_no_mode : IsRow ([] ∷ [] ∷ []) (0 ∷ 0 ∷ []) 1
refines_no_mode = (refl, (1, (omega arith, inl (λ e. omega (arith, e)), refl), root_in_place ([] ∷ [] ∷ []) refl))

-- of no program there are no modules
no_modules : (ps : List PlainProgram) (parent : Option ModeAt) → program_modules ps parent None ≡ []
no_modules ps parent = refl

-- ---- a && (a || b), where communicator b is declared before a

abbrev condition : Expr
condition = Infix 0 op.And (Variable (letter 0)) (Infix 0 op.Or (Variable (letter 0)) (Variable (letter 1)))

abbrev comm : Id → CommNode
comm name = record { sensor = true; ty = ty.Bool; name = name; period = number 1 0; init = const.Bool 0 false }

comms_once : comms_in (layout (record { name = letter 0; comms = comm (letter 1) ∷ comm (letter 0) ∷ []; modules = [] } ∷ [])) condition ≡ 1 ∷ 0 ∷ []
comms_once = refl

two_names : distinct_count bytes_eq (map (λ (n : Id). n.name) (names_of condition)) ≡ 2
two_names = refl
