-- A write or read block leaves the trigger of the next one.
use Rattle.std.proofs.Common.{◌≡◌, ℕ, suc, ◌+◌, ◌-◌, ◌≤◌, Bool, true, false, cond, ◌&&◌, eqb, List, [], ◌∷◌, ◌++◌, length, map, drop, Option, Some, None, Result, Ok, refl, sym, ap, ◌∙◌, arith, length-append, length-drop}
use Rattle.htl_emach.proofs.Words.{eq-eqb, joined, numbered, Tables, release, ECode, EInstr, EFault, counts, ends_in, places_at, next_offset, Requirement, Exactly, all_do, waits_for, call_of, calls_of, release_of, releases, calls, block_chain, Step, read, target_of, read_is, instrs_of, Calendar, with_trigger, trigger_at}
use Rattle.htl_ecode.specs.declared.instr.EInstr.TheVariants as I
use Rattle.htl_emach.proofs.Effects.{calendar_after}

pub length_read : (code : List EInstr) (ws : List Requirement) (a : ℕ) (ss : List Step) → read code a ws ≡ Ok ss → length ss ≡ length ws
length_read code [] a ss e = let none : [] ≡ ss = (let h : ◌≡◌ {A = Result (List Step) EFault} (Ok []) (Ok ss) = e in cc) in ap length (sym none)
length_read code (w ∷ ws) a ss e = let r = read_is code a w ws ss e in ap length r.is ∙ ap suc (length_read code ws r.first.next r.rest r.then)

-- instructions that set nothing
abbrev pub IsQuiet : Requirement → Type 0
IsQuiet (Exactly (I.CallWrite a b)) = Unit {0}
IsQuiet (Exactly (I.CallRead a b)) = Unit {0}
IsQuiet (Exactly (I.Release a)) = Unit {0}
IsQuiet _ = ⊥

abbrev pub AreQuiet : List Requirement → Type 0
AreQuiet [] = Unit {0}
AreQuiet (w ∷ ws) = IsQuiet w × AreQuiet ws

-- what a chain sets, and its target
record Sets (t : Tables) (ec : ECode) (at k p : ℕ) (ws : List Requirement) (ss : List Step) (c d : Calendar) (x : Option ℕ) : Type 0 where
  sets : calendar_after t ec at k (instrs_of ws ss) c ≡ d
  leads : target_of p ws ss ≡ x

quiet_front : (t : Tables) (ec : ECode) (at k p : ℕ) (xs ys : List Requirement) (ss : List Step) (c d : Calendar) (x : Option ℕ) → AreQuiet xs → length xs ≤ length ss → Sets t ec at k p ys (drop (length xs) ss) c d x → Sets t ec at k p (xs ++ ys) ss c d x
quiet_front t ec at k p [] ys ss c d x q l h = h
quiet_front t ec at k p (Exactly (I.CallWrite a b) ∷ xs) ys [] c d x q l h = absurd (omega arith)
quiet_front t ec at k p (Exactly (I.CallWrite a b) ∷ xs) ys (s ∷ ss) c d x q l h = let r = quiet_front t ec at k p xs ys ss c d x q.1 (omega arith) h in record { sets = r.sets; leads = r.leads }
quiet_front t ec at k p (Exactly (I.CallRead a b) ∷ xs) ys [] c d x q l h = absurd (omega arith)
quiet_front t ec at k p (Exactly (I.CallRead a b) ∷ xs) ys (s ∷ ss) c d x q l h = let r = quiet_front t ec at k p xs ys ss c d x q.1 (omega arith) h in record { sets = r.sets; leads = r.leads }
quiet_front t ec at k p (Exactly (I.Release a) ∷ xs) ys [] c d x q l h = absurd (omega arith)
quiet_front t ec at k p (Exactly (I.Release a) ∷ xs) ys (s ∷ ss) c d x q l h = let r = quiet_front t ec at k p xs ys ss c d x q.1 (omega arith) h in record { sets = r.sets; leads = r.leads }
quiet_front t ec at k p (Exactly (I.Future a b e) ∷ xs) ys ss c d x q l h = absurd q.0
quiet_front t ec at k p _ ys ss c d x q l h = absurd q.0

-- the trigger that the end of a block sets
abbrev pub set_next : ℕ → ℕ → ℕ → ℕ → Option ℕ → Option ℕ → Calendar → Calendar
set_next at k p o n x c = elim n [ None ↦ c | Some o1 ↦ with_trigger p k (trigger_at (at + (o1 - o)) x) c ]

end_sets : (t : Tables) (ec : ECode) (at k p o : ℕ) (n : Option ℕ) (ss : List Step) (c : Calendar) → length ss ≡ length (waits_for o p n ++ Exactly I.Return ∷ []) →
    calendar_after t ec at k (instrs_of (waits_for o p n ++ Exactly I.Return ∷ []) ss) c ≡ set_next at k p o n (target_of p (waits_for o p n ++ Exactly I.Return ∷ []) ss) c
end_sets t ec at k p o None [] c l = absurd (omega arith)
end_sets t ec at k p o None (s ∷ []) c l = refl
end_sets t ec at k p o None (s ∷ u ∷ ss) c l = absurd (omega arith)
end_sets t ec at k p o (Some o1) (s ∷ u ∷ []) c l =
    ap (λ (b : Bool). with_trigger p k (trigger_at (at + (o1 - o)) (elim b as (λ _. Option ℕ) [ true ↦ Some s.target | false ↦ None ])) c) (sym (eq-eqb p p refl))
end_sets t ec at k p o (Some o1) _ c l = absurd (omega arith)

-- a block of quiet instructions, a trigger and a return
pub block_sets : (t : Tables) (ec : ECode) (code : List EInstr) (at k p o a : ℕ) (xs : List Requirement) (n : Option ℕ) (ss : List Step) (c : Calendar) → AreQuiet xs → read code a (xs ++ (waits_for o p n ++ Exactly I.Return ∷ [])) ≡ Ok ss →
    calendar_after t ec at k (instrs_of (xs ++ (waits_for o p n ++ Exactly I.Return ∷ [])) ss) c ≡ set_next at k p o n (target_of p (xs ++ (waits_for o p n ++ Exactly I.Return ∷ [])) ss) c
block_sets t ec code at k p o a xs n ss c quiet e =
    let ys : List Requirement = waits_for o p n ++ Exactly I.Return ∷ [] in
    let l : length ss ≡ length (xs ++ ys) = length_read code (xs ++ ys) a ss e in
    let zs : List Step = drop (length xs) ss in
    let m : length zs ≡ length ys = omega (arith, l, length-append xs ys, length-drop (length xs) ss) in
    let h = quiet_front t ec at k p xs ys ss c (set_next at k p o n (target_of p ys zs) c) (target_of p ys zs) quiet (omega (arith, l, length-append xs ys))
    (record { sets = end_sets t ec at k p o n zs c m; leads = refl }) in
    h.sets ∙ ap (λ x. set_next at k p o n x c) (sym h.leads)

-- ---- the calls of a block

quiet_more : (xs ys : List EInstr) → AreQuiet (all_do xs) → AreQuiet (all_do ys) → AreQuiet (all_do (xs ++ ys))
quiet_more [] ys p q = q
quiet_more (x ∷ xs) ys p q = (p.0, quiet_more xs ys p.1 q)

quiet_joined : {A : Type 0} (f : A → List EInstr) (ns : List A) → ((n : A) → AreQuiet (all_do (f n))) → AreQuiet (all_do (joined f ns))
quiet_joined f [] h = tt
quiet_joined f (n ∷ ns) h = quiet_more (f n) (joined f ns) (h n) (quiet_joined f ns h)

quiet_calls : (p i : ℕ) (js : List ℕ) → AreQuiet (all_do (map (call_of p i) js))
quiet_calls p i [] = tt
quiet_calls p i (j ∷ js) = (by_phase (eqb p 1), quiet_calls p i js)
  where
    by_phase : (b : Bool) → IsQuiet (Exactly (cond b (I.CallWrite i j) (I.CallRead i j)))
    by_phase true = tt
    by_phase false = tt

quiet_cond : (b : Bool) (xs ys : List EInstr) → AreQuiet (all_do xs) → AreQuiet (all_do ys) → AreQuiet (all_do (cond b xs ys))
quiet_cond true xs ys p q = p
quiet_cond false xs ys p q = q

pub calls_quiet : (t : Tables) (m p o : ℕ) → AreQuiet (all_do (calls t m p o))
calls_quiet t m p o =
    quiet_more (joined (calls_of t m p o) (numbered 0 t.invs)) (cond (eqb p 1) [] (releases t m o))
    (quiet_joined (calls_of t m p o) (numbered 0 t.invs)
    (λ n. quiet_cond (counts t m n.1) (map (call_of p n.0) (places_at t o 0 (ends_in p n.1))) [] (quiet_calls p n.0 (places_at t o 0 (ends_in p n.1))) tt))
    (quiet_cond (eqb p 1) [] (releases t m o) tt
    (quiet_joined (release_of t m o) (numbered 0 t.invs) (λ n. quiet_cond (counts t m n.1 && eqb (release t n.1) o) (I.Release n.0 ∷ []) [] (tt, tt) tt)))

-- what a block sets
pub chain_sets : (t : Tables) (ec : ECode) (code : List EInstr) (at k m p o a : ℕ) (ss : List Step) (c : Calendar) → read code a (block_chain t m p o) ≡ Ok ss →
    calendar_after t ec at k (instrs_of (block_chain t m p o) ss) c ≡ set_next at k p o (next_offset t m p (suc o)) (target_of p (block_chain t m p o) ss) c
chain_sets t ec code at k m p o a ss c e = block_sets t ec code at k p o a (all_do (calls t m p o)) (next_offset t m p (suc o)) ss c (calls_quiet t m p o) e
