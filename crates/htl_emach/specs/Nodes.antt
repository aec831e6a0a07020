-- The number that holds what a node of a tournament does.
use Rattle.std.specs.Prelude.{◌≡◌, ℕ, ◌+◌, ◌*◌, ◌/◌, ◌%◌, ◌≤◌, Bool, true, false, cond, eqb, Option, Some, None}
use Rattle.std.proofs.{Common.refl, Common.ap, Common.arith, lemmas.Bool.Decides.nat_tests}
use Rattle.htl_emach.specs.{declared.contender.Contender.Contender, declared.contender.Node.TheInside.Inside}

-- the number of a node without an entry
abbrev pub greatest : ℕ
greatest = 18446744073709551615

abbrev pub entry_by : ℕ → Option Contender
entry_by key = cond (eqb key greatest) None (Some (record { at = key / 64; place = key % 64 }))

abbrev pub key_of : Option Contender → ℕ
key_of None = greatest
key_of (Some x) = x.at * 64 + x.place

abbrev pub held : Inside → Option Contender
held n = entry_by n.key

abbrev pub holding : Option Contender → Inside
holding o = record { key = key_of o }

abbrev pub IsKey : Inside → Type 0
IsKey n = n.key ≤ greatest

pub key_of-entry_by : (key : ℕ) → key_of (entry_by key) ≡ key
key_of-entry_by key = by_test (eqb key greatest) refl
  where
    by_test : (b : Bool) → eqb key greatest ≡ b → key_of (cond b None (Some (record { at = key / 64; place = key % 64 }))) ≡ key
    by_test true e = grind (arith, nat_tests)
    by_test false e = omega arith

pub holding-held : (n : Inside) → IsKey n → holding (held n) ≡ n
holding-held n h = ap (λ (key : ℕ). record { key = key }) (key_of-entry_by n.key)
