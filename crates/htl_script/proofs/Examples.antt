-- Worked scripts.
use Rattle.std.proofs.Common.{◌≡◌, ◌+◌, ◌<◌, ◌≤◌, ℕ, Bool, true, false, List, [], ◌∷◌, ◌++◌, length, length-append, Some, None, pos, negsuc, codes, replicate, refl, ap, subst, arith}
use Rattle.htl_script.proofs.Words.{IntTy, BoolTy, plain, sensor, mode, module_named, call, Task, Tables, is_past_limit, Whole, Bad, script_of, StopsAtLine, feeds_of, same_Some}
use Rattle.htl_script.proofs.Feeds.{feeds_both}
use Rattle.htl_model.specs.declared.event.Event.TheVariants as event
use Rattle.htl_script.specs.declared.fault.ScriptKind.TheVariants as kind

abbrev task_named : List ℕ → Bool → Task
task_named name is_abstract = record { name = name; «module» = 0; is_abstract = is_abstract; worst = 4; inputs = []; outputs = [] }

-- an int sensor s, a communicator u, a bool sensor g, and a module M with a mode m that invokes a task dbl with worst case 4
-- and an abstract task hold
abbrev pub sample : Tables
sample =
    record {
      comms = sensor (codes "s") IntTy 10 ∷ plain (codes "u") 10 (pos 0) ∷ sensor (codes "g") BoolTy 10 ∷ [];
      modes = mode (codes "m") 0 20 ∷ [];
      modules = module_named (codes "M") None 0 ∷ [];
      ports = [];
      tasks = task_named (codes "dbl") false ∷ task_named (codes "hold") true ∷ [];
      invs = call 0 0 None [] [] ∷ call 0 1 None [] [] ∷ [];
      switches = [];
      functions = [];
    }

same_reading : script_of sample (codes "at 5\nat 5\n") ≡ Bad 2 kind.Order (event.At 5 ∷ [])
same_reading = refl

no_reading : script_of sample (codes "sense s 1\n") ≡ Bad 1 kind.Order []
no_reading = refl

no_sensor : script_of sample (codes "at 0\nsense u 1\n") ≡ Bad 2 kind.Unknown (event.At 0 ∷ [])
no_sensor = refl

leading_zero : script_of sample (codes "at 01\n") ≡ Bad 1 kind.Form []
leading_zero = refl

too_late : script_of sample (codes "at 1000000001\n") ≡ Bad 1 kind.Range []
too_late = refl

behind_the_end : script_of sample (codes "end 5\nat 6\n") ≡ Bad 2 kind.After (event.End 5 ∷ [])
behind_the_end = refl

no_length : script_of sample (codes "at 0\ntook M.m.dbl 0\n") ≡ Bad 2 kind.Range (event.At 0 ∷ [])
no_length = refl

too_long : script_of sample (codes "at 0\ntook M.m.dbl 5\n") ≡ Bad 2 (kind.Overrun 5 4) (event.At 0 ∷ [])
too_long = refl

of_an_abstract_task : script_of sample (codes "at 0\ntook M.m.hold 1\n") ≡ Bad 2 kind.Unknown (event.At 0 ∷ [])
of_an_abstract_task = refl

empty : script_of sample [] ≡ Bad 1 kind.NoEnd []
empty = refl

no_line_feed : script_of sample (codes "at 0") ≡ Bad 2 kind.NoEnd (event.At 0 ∷ [])
no_line_feed = refl

passed_over : script_of sample (codes "\n# a\nat 0\n") ≡ Bad 4 kind.NoEnd (event.At 0 ∷ [])
passed_over = refl

other_behind_the_end : script_of sample (codes "end 5\nx y\n") ≡ Bad 2 kind.After (event.End 5 ∷ [])
other_behind_the_end = refl

end_below : script_of sample (codes "at 7\nend 6\n") ≡ Bad 2 kind.Order (event.At 7 ∷ [])
end_below = refl

no_bool : script_of sample (codes "at 0\nsense g 2\n") ≡ Bad 2 kind.Range (event.At 0 ∷ [])
no_bool = refl

negative_bool : script_of sample (codes "at 0\nsense g -1\n") ≡ Bad 2 kind.Range (event.At 0 ∷ [])
negative_bool = refl

above_64_bits : script_of sample (codes "at 0\nsense s 9223372036854775808\n") ≡ Bad 2 kind.Range (event.At 0 ∷ [])
above_64_bits = refl

below_64_bits : script_of sample (codes "at 0\nsense s -9223372036854775809\n") ≡ Bad 2 kind.Range (event.At 0 ∷ [])
below_64_bits = refl

minus_zero : script_of sample (codes "at 0\nsense s -0\n") ≡ Bad 2 kind.Form (event.At 0 ∷ [])
minus_zero = refl

far_too_late : script_of sample (codes "at 99999999999999999999999999\n") ≡ Bad 1 kind.Range []
far_too_late = refl

negative_instant : script_of sample (codes "at -1\n") ≡ Bad 1 kind.Form []
negative_instant = refl

pub space_behind : script_of sample (codes "at 1 \n") ≡ Bad 1 kind.Form []
space_behind = refl

tab : script_of sample (codes "at\t1\n") ≡ Bad 1 kind.Form []
tab = refl

carriage_return : script_of sample (codes "at 1\r\n") ≡ Bad 1 kind.Form []
carriage_return = refl

empty_name : script_of sample (codes "sense  1\n") ≡ Bad 1 kind.Form []
empty_name = refl

unknown_before_range : script_of sample (codes "took x 0\n") ≡ Bad 1 kind.Unknown []
unknown_before_range = refl

length_above_63_bits : script_of sample (codes "took M.m.dbl 9223372036854775808\n") ≡ Bad 1 kind.Range []
length_above_63_bits = refl

order_before_overrun : script_of sample (codes "took M.m.dbl 5\n") ≡ Bad 1 kind.Order []
order_before_overrun = refl

-- a line of 256 bytes, and one of 255, which is a comment
long : script_of sample (replicate 256 35) ≡ Bad 1 kind.Long []
long = refl

not_long : script_of sample (replicate 255 35) ≡ Bad 2 kind.NoEnd []
not_long = refl

-- a comment, an empty line and a last line without a line feed
whole : script_of sample (codes "# a\n\nat 0\nsense s -3\nsense g 1\ntook M.m.dbl 4\nend 20")
    ≡ Whole (event.At 0 ∷ event.Sense 0 (negsuc 2) ∷ event.Sense 2 (pos 1) ∷ event.Took 0 4 ∷ event.End 20 ∷ []) 20
whole = refl

-- the byte past the limit is a line feed, or the last that is counted is
past_limit : is_past_limit 1073741824 (record { text = []; fed = true }) ≡ true
past_limit = refl

at_limit : is_past_limit 1073741823 (record { text = []; fed = true }) ≡ false
at_limit = refl

-- ---- how far a script is read

-- the second line is the one that decides: of a script whose second line is faulty a piece is read that begins with its line feed
read_to_second : StopsAtLine 2 (Some (codes "at 5\nat 5\nat 6\n")) (Some (codes "6\n"))
read_to_second = let feeds : feeds_of (codes "at 5\nat 5") ≡ 1 = refl in record { lines = codes "at 5\nat 5"; piece = codes "\nat "; lost = refl; within = omega (arith, feeds); few = omega arith }

-- the first line is empty: behind its line feed 255 bytes may be read, and no more
read_piece : StopsAtLine 1 (Some (10 ∷ replicate 255 35)) (Some [])
read_piece = record { lines = []; piece = 10 ∷ replicate 255 35; lost = refl; within = omega arith; few = omega arith }

read_too_far : StopsAtLine 1 (Some (10 ∷ replicate 256 35)) (Some []) → ⊥
read_too_far s = by s.lines s.piece (same_Some _ _ s.lost) s.within s.few
  where
    by : (lines piece : List ℕ) → (lines ++ piece) ++ [] ≡ 10 ∷ replicate 256 35 → feeds_of lines < 1 → length piece ≤ 256 → ⊥
    by [] piece lost within few = let long : length (piece ++ []) ≡ 257 = ap length lost in omega (arith, few, long, length-append piece [])
    by (b ∷ bs) piece lost within few =
        let feed : b ≡ 10 = cc in
        let more : feeds_of (10 ∷ bs) ≡ 1 + feeds_of bs = feeds_both (10 ∷ []) bs in
        let less = subst (λ (x : ℕ). feeds_of (x ∷ bs) < 1) feed within in
        omega (arith, more, less)
