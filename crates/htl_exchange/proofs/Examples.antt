-- A refinement that counts in tens is replaced by one that counts in twenties, worked.
use Rattle.std.specs.Prelude.{◌≡◌, ℕ, zero, suc, Bool, true, false, List, [], ◌∷◌, Option, Some, None, refl, map, ℤ, pos}
use Rattle.std.proofs.Common.{sym, ◌∙◌, ap, slice_get}
use Rattle.htl_exchange.proofs.Words.{Event, End, Inv, Module, Switch, val}
use Rattle.htl_model.specs.declared.event.Event.TheVariants as V
use Rattle.htl_model.specs.declared.parts.End.TheVariants as E
use Rattle.htl_model.proofs.Words.{is_concrete}
use Rattle.htl_patch.proofs.Words.{Mul, Add, Not, Arg, Unary, Number, Binary, Tables, is_transferred, mode_module, formula, refined, Replacement, patched, replacement}
use Rattle.htl_exchange.specs.Reached.{IsReached, IsUnreached, Quantity, module_mode, inv_output, comm_value, follows, reads, refines, replaces, runs, switches, takes, writes}
use Rattle.htl_exchange.specs.Texts.{value_text}

donor : Tables
donor =
    record refined {
      functions = formula (Binary 0 Add (Arg 0 0) (Number 0 (pos 1)))
          ∷ formula (Binary 0 Mul (Arg 0 0) (Number 0 (pos 20)))
          ∷ formula (Arg 0 0) ∷ formula (Unary 0 Not (Arg 0 0)) ∷ [];
    }

exchange : Replacement
exchange = replacement refined donor 0 0

-- the sensor shows true from the first instant, so that the refinement's task runs from the second round on
events : List Event
events = V.At 0 ∷ V.Sense 2 (pos 1) ∷ V.End 30 ∷ []

abbrev values : Tables → ℕ → List ℤ
values t c = map (val t events c) (0 ∷ 10 ∷ 20 ∷ 30 ∷ [])

-- what the refinement writes is another from the third round on
ex-written : values refined 0 ≡ pos 3 ∷ pos 3 ∷ pos 10 ∷ pos 20 ∷ []
unfolding events
ex-written = refl

ex-written-patched : values (patched exchange) 0 ≡ pos 3 ∷ pos 3 ∷ pos 20 ∷ pos 40 ∷ []
unfolding events exchange donor
ex-written-patched = refl

-- what the root module counts is the same
ex-kept : values (patched exchange) 1 ≡ values refined 1
unfolding events exchange donor
ex-kept = refl

ex-texts : map (λ (at : ℕ). value_text (patched exchange) events at 1) (0 ∷ 10 ∷ 20 ∷ []) ≡ map (λ (at : ℕ). value_text refined events at 1) (0 ∷ 10 ∷ 20 ∷ [])
unfolding events exchange donor
ex-texts = refl

-- ---- what is reached

ex-mode-reached : IsReached exchange (module_mode 1)
unfolding exchange
ex-mode-reached = refines 1 _ refl refl

ex-value-reached : IsReached exchange (comm_value 0)
unfolding exchange donor
ex-value-reached = replaces 2 0 0 1 _ refl refl refl refl

-- the modes of modules behind the root module, what the refinement's invocation puts out, and the communicator that it writes
away : Quantity → Bool
away (module_mode zero) = false
away (module_mode (suc x)) = true
away (comm_value zero) = true
away (comm_value (suc c)) = false
away (inv_output zero) = false
away (inv_output (suc zero)) = false
away (inv_output (suc (suc k))) = true

never : {P : Type 0} → false ≡ true → P
never e = absurd cc

abbrev parent_in : Option Module → Option ℕ
parent_in o = elim o [ Some m ↦ m.parent | None ↦ None ]

abbrev switches_mode : Option Switch → ℕ
switches_mode o = elim o [ Some w ↦ w.mode | None ↦ 0 ]

abbrev inv_mode : Option Inv → ℕ
inv_mode o = elim o [ Some x ↦ x.mode | None ↦ 0 ]

abbrev reads_at : ℕ → Option Inv → Option End
reads_at j o = elim o [ Some x ↦ slice_get x.reads j | None ↦ None ]

abbrev writes_at : ℕ → Option Inv → Option End
writes_at j o = elim o [ Some x ↦ slice_get x.writes j | None ↦ None ]

-- an end of one that there is
one_end : (d m j c n : ℕ) → slice_get (E.Comm d m ∷ []) j ≡ Some (E.Comm c n) → d ≡ c
one_end d m zero c n e = cc
one_end d m (suc j) c n e = absurd (let z : ⊥ = cc in z)

no_port : {P : Type 0} (d m j p : ℕ) → slice_get (E.Comm d m ∷ []) j ≡ Some (E.Port p) → P
no_port d m zero p e = absurd (let z : ⊥ = cc in z)
no_port d m (suc j) p e = absurd (let z : ⊥ = cc in z)

-- nothing else is
is_away : (q : Quantity) → IsReached exchange q → away q ≡ true
unfolding exchange donor away
is_away _ (refines zero m at up) = let z : ◌≡◌ {A = Option ℕ} None (Some 0) = ap parent_in at ∙ up in cc
is_away _ (refines (suc x) m at up) = refl
is_away _ (follows zero p m at up r) = let z : ◌≡◌ {A = Option ℕ} None (Some p) = ap parent_in at ∙ up in cc
is_away _ (follows (suc x) p m at up r) = refl
is_away _ (switches zero j c w at read r) = ap (λ (o : Option Switch). away (module_mode (mode_module refined (switches_mode o)))) (sym at)
is_away _ (switches (suc zero) j c w at read r) = ap (λ (o : Option Switch). away (module_mode (mode_module refined (switches_mode o)))) (sym at)
is_away _ (switches (suc (suc k)) j c w at read r) = absurd (let z : ⊥ = cc in z)
is_away _ (runs zero x at r) = ap (λ (o : Option Inv). away (module_mode (mode_module refined (inv_mode o)))) at ∙ is_away _ r
is_away _ (runs (suc zero) x at r) = ap (λ (o : Option Inv). away (module_mode (mode_module refined (inv_mode o)))) at ∙ is_away _ r
is_away _ (runs (suc (suc k)) x at r) = refl
is_away _ (reads zero j c n x at e r) = ap (λ (d : ℕ). away (comm_value d)) (one_end 1 0 j c n (ap (reads_at j) at ∙ e)) ∙ is_away _ r
is_away _ (reads (suc zero) j c n x at e r) = ap (λ (d : ℕ). away (comm_value d)) (one_end 1 0 j c n (ap (reads_at j) at ∙ e)) ∙ is_away _ r
is_away _ (reads (suc (suc k)) j c n x at e r) = refl
is_away _ (takes zero j p l place x at e w r) = no_port 1 0 j p (ap (reads_at j) at ∙ e)
is_away _ (takes (suc zero) j p l place x at e w r) = no_port 1 0 j p (ap (reads_at j) at ∙ e)
is_away _ (takes (suc (suc k)) j p l place x at e w r) = refl
is_away _ (writes zero j c n x at concrete e r) = never (is_away _ r)
is_away _ (writes (suc zero) j c n x at concrete e r) = never (is_away _ r)
is_away _ (writes (suc (suc zero)) j c n x at concrete e r) = ap (λ (d : ℕ). away (comm_value d)) (sym (one_end 0 1 j c n (ap (writes_at j) at ∙ e)))
is_away _ (writes (suc (suc (suc k))) j c n x at concrete e r) = absurd (let z : ⊥ = cc in z)
is_away _ (replaces zero j c n x at concrete taken e) = never (ap (λ (o : Option Inv). elim o [ Some y ↦ is_concrete refined y | None ↦ false ]) at ∙ concrete)
is_away _ (replaces (suc zero) j c n x at concrete taken e) =
    never (ap (λ (o : Option Inv). elim o [ Some y ↦ is_transferred exchange (mode_module refined y.mode) | None ↦ false ]) at ∙ taken)
is_away _ (replaces (suc (suc zero)) j c n x at concrete taken e) = ap (λ (d : ℕ). away (comm_value d)) (sym (one_end 0 1 j c n (ap (writes_at j) at ∙ e)))
is_away _ (replaces (suc (suc (suc k))) j c n x at concrete taken e) = absurd (let z : ⊥ = cc in z)

-- the root module's mode and what it counts
ex-mode : IsUnreached exchange (module_mode 0)
unfolding away
ex-mode r = never (is_away (module_mode 0) r)

ex-value : IsUnreached exchange (comm_value 1)
unfolding away
ex-value r = never (is_away (comm_value 1) r)
