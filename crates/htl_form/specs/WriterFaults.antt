-- What the test for concrete writers of the same finds.
use Rattle.std.specs.Prelude.{ℕ, zero, suc, Bool, false, cond, not, ◌&&◌, ◌||◌, eqb, ltb, List, [], ◌∷◌, take, Option, Some, None}
use Rattle.std.specs.List.{list_any}
use Rattle.htl_model.specs.{declared.parts.Inv.Inv, declared.parts.End.End, SecondWriters.parent_mode, Tables.Tables, Tables.mode_module, Tables.is_concrete, First.first_from, Found.Found}
use Rattle.htl_model.specs.declared.parts.End.TheVariants as E

-- the mode, and the modes above it, at most so many
abbrev pub path : ℕ → Tables → ℕ → List ℕ
path zero t m = []
path (suc n) t m = m ∷ elim (parent_mode t m) [ Some p ↦ path n t p | None ↦ [] ]

-- two different modes of one module
abbrev pub are_rivals : Tables → ℕ → ℕ → Bool
are_rivals t a b = eqb (mode_module t a) (mode_module t b) && not (eqb a b)

abbrev pub has_rival : Tables → List ℕ → ℕ → Bool
has_rival t bs a = list_any (are_rivals t a) bs

-- whether no module is in two modes on the paths of two modes; a path has at most 8 modes
unfoldable pub stand_together : Tables → ℕ → ℕ → Bool
stand_together t a b = not (list_any (has_rival t (path 8 t b)) (path 8 t a))

-- the end is an instance of the communicator, in the same mode the same instance
abbrev pub hits : Bool → ℕ → ℕ → End → Bool
hits same c n (E.Comm d o) = eqb d c && (not same || eqb o n)
hits same c n (E.Port p) = false

-- the outputs of invocation l, which is x, before output j of invocation k
abbrev pub outputs_before : ℕ → ℕ → ℕ → Inv → List End
outputs_before k j l x = cond (ltb l k) x.writes (cond (eqb l k) (take j x.writes) [])

-- whether x is concrete and some of the ends writes what instance n of communicator c in the mode of i is
abbrev pub rivals : Tables → Inv → ℕ → ℕ → Inv → List End → Bool
rivals t i c n x ends = is_concrete t x && (eqb x.mode i.mode || stand_together t x.mode i.mode) && list_any (hits (eqb x.mode i.mode) c n) ends

abbrev pub writer_before : Tables → ℕ → Inv → ℕ → ℕ → ℕ → ℕ → Inv → Option ℕ
writer_before t k i j c n l x = cond (rivals t i c n x (outputs_before k j l x)) (Some l) None

-- the first invocation that writes the same before
abbrev pub first_writer : Tables → ℕ → Inv → ℕ → ℕ → ℕ → Option ℕ
first_writer t k i j c n = first_from (writer_before t k i j c n) 0 t.invs

abbrev pub told_writer : ℕ → Option ℕ → Found
told_writer c (Some l) = Some (l, c)
told_writer c None = None

abbrev pub writer_fault : Tables → ℕ → Inv → ℕ → End → Found
writer_fault t k i j (E.Comm c n) = cond (is_concrete t i) (told_writer c (first_writer t k i j c n)) None
writer_fault t k i j (E.Port p) = None
