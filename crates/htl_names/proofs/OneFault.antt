-- A source has one first name fault at most.
use Rattle.std.proofs.Common.{arith, ◌≡◌, ℕ, ◌⊎◌, inl, inr, List, sym, ◌∙◌, subst}
use Rattle.htl_names.proofs.Words.{PlainProgram, NameRule, ProgramTree, NameBroken, TriedBefore, IsFirstNameFault, NameFault}

-- a place is tried before another, or it is the other, or tried after it
tried : (r s : NameRule) (j k : ℕ) → TriedBefore r j s k ⊎ ((r ≡ s) × (j ≡ k)) ⊎ TriedBefore s k r j
tried r s j k = grind arith

-- at one place one fault is told
one_at : (ps : List PlainProgram) (r : NameRule) (k : ℕ) (f g : NameFault) → NameBroken ps r k f → NameBroken ps r k g → f ≡ g
one_at ps ProgramTree k f g p q = p.2 ∙ sym q.2
one_at ps _ k f g p q = cc

pub one_name_fault : (ps : List PlainProgram) (f g : NameFault) → IsFirstNameFault ps f → IsFirstNameFault ps g → f ≡ g
one_name_fault ps f g p q = by (tried p.rule q.rule p.place q.place)
  where
    by : TriedBefore p.rule p.place q.rule q.place ⊎ ((p.rule ≡ q.rule) × (p.place ≡ q.place)) ⊎ TriedBefore q.rule q.place p.rule p.place → f ≡ g
    by (inl before) = absurd (q.first p.rule p.place f before p.broken)
    by (inr (inl same)) =
        one_at ps q.rule q.place f g
        (subst (λ (k : ℕ). NameBroken ps q.rule k f) same.1 (subst (λ (r : NameRule). NameBroken ps r p.place f) same.0 p.broken)) q.broken
    by (inr (inr after)) = absurd (p.first q.rule q.place g after q.broken)
