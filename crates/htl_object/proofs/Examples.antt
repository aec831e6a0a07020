-- The definitions compute: the first bad fields of some bytes, and what bytes say.
use Rattle.std.proofs.Common.{◌≡◌, ◌+◌, ℕ, false, true, pos, List, [], ◌∷◌, ◌++◌, Some, None, Ok, Err, take, drop, replicate, refl}
use Rattle.htl_object.proofs.Words.{codes, Int, Inv, Mode, first_bad, is_node_count, is_inv_mode, mode_at, object_bytes, object_in, short, Magic, Version, Short, Index, Tag, Spelling, Trailing, Object}

-- ---- bytes

nothing : first_bad [] ≡ Some (record { offset = 0; kind = Short })
nothing = refl

other_text : first_bad (codes "HTLP") ≡ Some (record { offset = 0; kind = Magic })
other_text = refl

too_many : first_bad (codes "HTLO" ++ (0 ∷ 1 ∷ 4 ∷ 1 ∷ [])) ≡ Some (record { offset = 6; kind = Index })
too_many = refl

abbrev empty : List ℕ
empty = codes "HTLO" ++ (0 ∷ 1 ∷ (replicate 14 0 ++ replicate 6 0))

no_items : first_bad empty ≡ None
no_items = refl

-- ---- one communicator `u` of period 10 and value 7

abbrev front : List ℕ
front = codes "HTLO" ++ (0 ∷ 1 ∷ 0 ∷ 1 ∷ replicate 12 0)

abbrev one_comm : List ℕ
one_comm = front ++ (1 ∷ 117 ∷ 0 ∷ 0 ∷ 0 ∷ 0 ∷ 0 ∷ 10 ∷ (replicate 7 0 ++ (7 ∷ replicate 6 0)))

abbrev with_byte : ℕ → ℕ → List ℕ
with_byte at byte = take at one_comm ++ byte ∷ drop (at + 1) one_comm

abbrev of_one_comm : Object
of_one_comm =
    record {
      tables = record {
        comms = record { name = codes "u"; ty = Int; sensor = false; period = 10; init = pos 7 } ∷ [];
        modes = [];
        modules = [];
        ports = [];
        tasks = [];
        invs = [];
        switches = [];
        functions = [];
      };
      ecode = record { enter = []; begin = []; decide = []; instrs = [] };
      schedules = [];
      platform = None;
    }

spelled : object_bytes of_one_comm ≡ one_comm
spelled = refl

said : object_in one_comm ≡ Ok of_one_comm
said = refl

cut : first_bad (take 41 one_comm) ≡ Some (record { offset = 41; kind = Short })
cut = refl

one_more : first_bad (one_comm ++ 0 ∷ []) ≡ Some (record { offset = 42; kind = Trailing })
one_more = refl

wrong_text : first_bad (with_byte 0 73) ≡ Some (record { offset = 0; kind = Magic })
wrong_text = refl

-- the counts' first byte is no platform's name
no_platform : first_bad (with_byte 5 2) ≡ Some (record { offset = 6; kind = Spelling })
no_platform = refl

later_version : first_bad (with_byte 5 3) ≡ Some (record { offset = 4; kind = Version })
later_version = refl

no_name : first_bad (with_byte 21 49) ≡ Some (record { offset = 20; kind = Spelling })
no_name = refl

no_type : first_bad (with_byte 22 2) ≡ Some (record { offset = 22; kind = Tag })
no_type = refl

no_period : first_bad (with_byte 27 0) ≡ Some (record { offset = 24; kind = Index })
no_period = refl

-- ---- the same for a platform

abbrev of_platform : Object
of_platform = record of_one_comm { platform = Some (codes "fast") }

abbrev with_platform : List ℕ
with_platform = codes "HTLO" ++ (0 ∷ 2 ∷ 4 ∷ (codes "fast" ++ drop 6 one_comm))

platform_spelled : object_bytes of_platform ≡ with_platform
platform_spelled = refl

platform_said : object_in with_platform ≡ Ok of_platform
platform_said = refl

-- ---- a repeated name waits for its owner; what is no name doesn't

abbrev of_module_1 : List Mode
of_module_1 = record { name = codes "m"; «module» = 1; period = 5 } ∷ []

repeated : mode_at 2 of_module_1 (1 ∷ 109 ∷ 0 ∷ 1 ∷ []) ≡ Err (record { kind = Spelling; left = 4 })
repeated = refl

owner_cut_off : mode_at 2 of_module_1 (1 ∷ 109 ∷ 0 ∷ []) ≡ Err short
owner_cut_off = refl

owner_out_of_range : mode_at 2 of_module_1 (1 ∷ 109 ∷ 0 ∷ 2 ∷ []) ≡ Err (record { kind = Index; left = 2 })
owner_out_of_range = refl

owner_falls : mode_at 2 of_module_1 (1 ∷ 109 ∷ 0 ∷ 0 ∷ []) ≡ Err (record { kind = Index; left = 2 })
owner_falls = refl

no_name_before_its_owner : mode_at 2 of_module_1 (1 ∷ 46 ∷ []) ≡ Err (record { kind = Spelling; left = 2 })
no_name_before_its_owner = refl

name_cut_off : mode_at 2 of_module_1 (60 ∷ 109 ∷ []) ≡ Err short
name_cut_off = refl

empty_name : mode_at 2 of_module_1 (0 ∷ 109 ∷ []) ≡ Err (record { kind = Spelling; left = 2 })
empty_name = refl

-- ---- the limits

abbrev invocation : Inv
invocation = record { mode = 0; task = 0; parent = None; reads = []; writes = [] }

the_128th : is_inv_mode 1 (replicate 127 invocation) 0 ≡ true
the_128th = refl

the_129th : is_inv_mode 1 (replicate 128 invocation) 0 ≡ false
the_129th = refl

no_modules : is_node_count of_one_comm.tables 0 ≡ true
no_modules = refl
