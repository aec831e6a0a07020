-- The tests of the generated program, size by size: each finds nothing wrong.
use Rattle.std.proofs.Common.{refl, arith, ◌≡◌, ◌≤◌, ◌<◌, ◌+◌, ℕ, zero, suc, List, [], ◌∷◌, subst, inl, inr}
use Rattle.htl_bulk.proofs.{Words.cases_lt, Findings.TokensRow, Findings.NamesRow, Findings.TablesRow}
use Rattle.htl_edf.specs.Tight.{tight}
use Rattle.htl_form.specs.WriterFaults.{stand_together}

-- so many rows from a size on
abbrev From : (ℕ → Type 0) → ℕ → ℕ → Type 0
From P n zero = Unit {0}
From P n (suc k) = P n × From P (suc n) k

row_at : (P : ℕ → Type 0) (n k m : ℕ) → From P n k → n ≤ m → m < n + k → P m
row_at P n zero m f low high = absurd (omega (arith, low, high))
row_at P n (suc k) m f low high = elim (cases_lt n m) [
  | inl less ↦ row_at P (suc n) k m f.1 less (omega (arith, high))
  | inr same ↦ subst P (let e : n ≡ m = omega (arith, low, same) in e) f.0
]

-- the same in parts, each of so many sizes: a part is what the checker computes at once
abbrev Parts : (ℕ → Type 0) → ℕ → List ℕ → Type 0
Parts P n [] = Unit {0}
Parts P n (k ∷ ks) = From P n k × Parts P (n + k) ks

abbrev total : List ℕ → ℕ
total [] = 0
total (k ∷ ks) = k + total ks

part_at : (P : ℕ → Type 0) (n : ℕ) (ks : List ℕ) (m : ℕ) → Parts P n ks → n ≤ m → m < n + total ks → P m
part_at P n [] m f low high = absurd (omega (arith, low, high))
part_at P n (k ∷ ks) m f low high = elim (cases_lt m (n + k)) [
  | inl less ↦ row_at P n k m f.0 low less
  | inr more ↦ part_at P (n + k) ks m f.1 more (omega (arith, high))
]

tokens_1 : From TokensRow 1 40
tokens_1 = (refl, (refl, (refl, (refl, (refl, (refl, (refl, (refl, (refl, (refl, (refl, (refl, (refl, (refl, (refl, (refl, (refl, (refl, (refl, (refl, (refl, (refl, (refl, (refl, (refl, (refl, (refl, (refl, (refl, (refl, (refl, (refl, (refl, (refl, (refl, (refl, (refl, (refl, (refl, (refl, tt))))))))))))))))))))))))))))))))))))))))

tokens_41 : From TokensRow 41 11
tokens_41 = (refl, (refl, (refl, (refl, (refl, (refl, (refl, (refl, (refl, (refl, (refl, tt)))))))))))

tokens_52 : From TokensRow 52 7
tokens_52 = (refl, (refl, (refl, (refl, (refl, (refl, (refl, tt)))))))

tokens_59 : From TokensRow 59 6
tokens_59 = (refl, (refl, (refl, (refl, (refl, (refl, tt))))))

names_1 : From NamesRow 1 28
names_1 = (λ x. refl, (λ x. refl, (λ x. refl, (λ x. refl, (λ x. refl, (λ x. refl, (λ x. refl, (λ x. refl, (λ x. refl, (λ x. refl, (λ x. refl, (λ x. refl, (λ x. refl, (λ x. refl, (λ x. refl, (λ x. refl, (λ x. refl, (λ x. refl, (λ x. refl, (λ x. refl, (λ x. refl, (λ x. refl, (λ x. refl, (λ x. refl, (λ x. refl, (λ x. refl, (λ x. refl, (λ x. refl, tt))))))))))))))))))))))))))))

names_29 : From NamesRow 29 7
names_29 = (λ x. refl, (λ x. refl, (λ x. refl, (λ x. refl, (λ x. refl, (λ x. refl, (λ x. refl, tt)))))))

names_36 : From NamesRow 36 5
names_36 = (λ x. refl, (λ x. refl, (λ x. refl, (λ x. refl, (λ x. refl, tt)))))

names_41 : From NamesRow 41 4
names_41 = (λ x. refl, (λ x. refl, (λ x. refl, (λ x. refl, tt))))

names_45 : From NamesRow 45 3
names_45 = (λ x. refl, (λ x. refl, (λ x. refl, tt)))

names_48 : From NamesRow 48 3
names_48 = (λ x. refl, (λ x. refl, (λ x. refl, tt)))

names_51 : From NamesRow 51 2
names_51 = (λ x. refl, (λ x. refl, tt))

names_53 : From NamesRow 53 2
names_53 = (λ x. refl, (λ x. refl, tt))

names_55 : From NamesRow 55 2
names_55 = (λ x. refl, (λ x. refl, tt))

names_57 : From NamesRow 57 2
names_57 = (λ x. refl, (λ x. refl, tt))

names_59 : From NamesRow 59 2
names_59 = (λ x. refl, (λ x. refl, tt))

names_61 : From NamesRow 61 2
names_61 = (λ x. refl, (λ x. refl, tt))

names_63 : From NamesRow 63 1
names_63 = (λ x. refl, tt)

names_64 : From NamesRow 64 1
names_64 = (λ x. refl, tt)

tables_1 : From TablesRow 1 22
unfolding tight stand_together
tables_1 = (λ x. refl, (λ x. refl, (λ x. refl, (λ x. refl, (λ x. refl, (λ x. refl, (λ x. refl, (λ x. refl, (λ x. refl, (λ x. refl, (λ x. refl, (λ x. refl, (λ x. refl, (λ x. refl, (λ x. refl, (λ x. refl, (λ x. refl, (λ x. refl, (λ x. refl, (λ x. refl, (λ x. refl, (λ x. refl, tt))))))))))))))))))))))

tables_23 : From TablesRow 23 6
unfolding tight stand_together
tables_23 = (λ x. refl, (λ x. refl, (λ x. refl, (λ x. refl, (λ x. refl, (λ x. refl, tt))))))

tables_29 : From TablesRow 29 4
unfolding tight stand_together
tables_29 = (λ x. refl, (λ x. refl, (λ x. refl, (λ x. refl, tt))))

tables_33 : From TablesRow 33 3
unfolding tight stand_together
tables_33 = (λ x. refl, (λ x. refl, (λ x. refl, tt)))

tables_36 : From TablesRow 36 2
unfolding tight stand_together
tables_36 = (λ x. refl, (λ x. refl, tt))

tables_38 : From TablesRow 38 2
unfolding tight stand_together
tables_38 = (λ x. refl, (λ x. refl, tt))

tables_40 : From TablesRow 40 2
unfolding tight stand_together
tables_40 = (λ x. refl, (λ x. refl, tt))

tables_42 : From TablesRow 42 2
unfolding tight stand_together
tables_42 = (λ x. refl, (λ x. refl, tt))

tables_44 : From TablesRow 44 2
unfolding tight stand_together
tables_44 = (λ x. refl, (λ x. refl, tt))

tables_46 : From TablesRow 46 1
unfolding tight stand_together
tables_46 = (λ x. refl, tt)

tables_47 : From TablesRow 47 1
unfolding tight stand_together
tables_47 = (λ x. refl, tt)

tables_48 : From TablesRow 48 1
unfolding tight stand_together
tables_48 = (λ x. refl, tt)

tables_49 : From TablesRow 49 1
unfolding tight stand_together
tables_49 = (λ x. refl, tt)

tables_50 : From TablesRow 50 1
unfolding tight stand_together
tables_50 = (λ x. refl, tt)

tables_51 : From TablesRow 51 1
unfolding tight stand_together
tables_51 = (λ x. refl, tt)

tables_52 : From TablesRow 52 1
unfolding tight stand_together
tables_52 = (λ x. refl, tt)

tables_53 : From TablesRow 53 1
unfolding tight stand_together
tables_53 = (λ x. refl, tt)

tables_54 : From TablesRow 54 1
unfolding tight stand_together
tables_54 = (λ x. refl, tt)

tables_55 : From TablesRow 55 1
unfolding tight stand_together
tables_55 = (λ x. refl, tt)

tables_56 : From TablesRow 56 1
unfolding tight stand_together
tables_56 = (λ x. refl, tt)

tables_57 : From TablesRow 57 1
unfolding tight stand_together
tables_57 = (λ x. refl, tt)

tables_58 : From TablesRow 58 1
unfolding tight stand_together
tables_58 = (λ x. refl, tt)

tables_59 : From TablesRow 59 1
unfolding tight stand_together
tables_59 = (λ x. refl, tt)

tables_60 : From TablesRow 60 1
unfolding tight stand_together
tables_60 = (λ x. refl, tt)

tables_61 : From TablesRow 61 1
unfolding tight stand_together
tables_61 = (λ x. refl, tt)

tables_62 : From TablesRow 62 1
unfolding tight stand_together
tables_62 = (λ x. refl, tt)

tables_63 : From TablesRow 63 1
unfolding tight stand_together
tables_63 = (λ x. refl, tt)

tables_64 : From TablesRow 64 1
unfolding tight stand_together
tables_64 = (λ x. refl, tt)

pub tokens_row : (n : ℕ) → 1 ≤ n → n ≤ 64 → TokensRow n
tokens_row n some few = part_at TokensRow 1 (40 ∷ 11 ∷ 7 ∷ 6 ∷ []) n (tokens_1, (tokens_41, (tokens_52, (tokens_59, tt)))) some (omega (arith, few))

pub names_row : (n : ℕ) → 1 ≤ n → n ≤ 64 → NamesRow n
names_row n some few = part_at NamesRow 1 (28 ∷ 7 ∷ 5 ∷ 4 ∷ 3 ∷ 3 ∷ 2 ∷ 2 ∷ 2 ∷ 2 ∷ 2 ∷ 2 ∷ 1 ∷ 1 ∷ []) n (names_1, (names_29, (names_36, (names_41, (names_45, (names_48, (names_51, (names_53, (names_55, (names_57, (names_59, (names_61, (names_63, (names_64, tt)))))))))))))) some (omega (arith, few))

pub tables_row : (n : ℕ) → 1 ≤ n → n ≤ 64 → TablesRow n
tables_row n some few = part_at TablesRow 1 (22 ∷ 6 ∷ 4 ∷ 3 ∷ 2 ∷ 2 ∷ 2 ∷ 2 ∷ 2 ∷ 1 ∷ 1 ∷ 1 ∷ 1 ∷ 1 ∷ 1 ∷ 1 ∷ 1 ∷ 1 ∷ 1 ∷ 1 ∷ 1 ∷ 1 ∷ 1 ∷ 1 ∷ 1 ∷ 1 ∷ 1 ∷ 1 ∷ []) n (tables_1, (tables_23, (tables_29, (tables_33, (tables_36, (tables_38, (tables_40, (tables_42, (tables_44, (tables_46, (tables_47, (tables_48, (tables_49, (tables_50, (tables_51, (tables_52, (tables_53, (tables_54, (tables_55, (tables_56, (tables_57, (tables_58, (tables_59, (tables_60, (tables_61, (tables_62, (tables_63, (tables_64, tt)))))))))))))))))))))))))))) some (omega (arith, few))
