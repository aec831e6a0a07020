-- Who writes a port: it is read only where some output writes it, and no two outputs write it.
use Rattle.std.specs.Prelude.{◌≡◌, ◌<◌, ◌⊎◌, ℕ, Bool, false, eqb, List, slice_get, Some}
use Rattle.std.specs.List.{count_by, sum_by}
use Rattle.htl_model.specs.{declared.parts.Inv.Inv, declared.parts.End.End, Tables.Tables}
use Rattle.htl_model.specs.declared.parts.End.TheVariants as E

-- the end is the port
abbrev pub is_port : ℕ → End → Bool
is_port p (E.Comm c n) = false
is_port p (E.Port q) = eqb q p

-- how many of the ends are the port
abbrev pub port_uses : ℕ → List End → ℕ
port_uses p ends = count_by (is_port p) ends

-- how many outputs of the invocations write the port
abbrev pub writers_in : ℕ → List Inv → ℕ
writers_in p invs = sum_by (λ (i : Inv). port_uses p i.writes) invs

-- how many writers a port has: a writer is one output of an invocation
abbrev pub port_writers : Tables → ℕ → ℕ
port_writers t p = writers_in p t.invs

-- output `place` of invocation l writes the port
abbrev pub WritesPort : Tables → ℕ → ℕ → ℕ → Type 0
WritesPort t p l place = (x : Inv) × (slice_get t.invs l ≡ Some x) × (slice_get x.writes place ≡ Some (E.Port p))

-- output `place` of invocation l comes before output j of invocation k
abbrev pub OutputBefore : ℕ → ℕ → ℕ → ℕ → Type 0
OutputBefore l place k j = (l < k) ⊎ ((l ≡ k) × (place < j))

-- the input reads a port that no output writes
abbrev pub Unwritten : Tables → End → ℕ → ℕ → Type 0
Unwritten t (E.Comm c n) have need = ⊥
Unwritten t (E.Port p) have need = (have ≡ 0) × (need ≡ 1) × ((l place : ℕ) → WritesPort t p l place → ⊥)

-- output j of invocation k, which is i, writes a port that an earlier output writes; have is the number of the port's writers
abbrev pub Rewritten : Tables → ℕ → Inv → ℕ → End → ℕ → ℕ → Type 0
Rewritten t k i j (E.Comm c n) have need = ⊥
Rewritten t k i j (E.Port p) have need =
    (have ≡ port_writers t p) × (need ≡ 1) × (l place : ℕ) × OutputBefore l place k j × WritesPort t p l place
