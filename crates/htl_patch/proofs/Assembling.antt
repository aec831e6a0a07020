-- From the parts of the patched tables to the answer.
use Rattle.std.proofs.Common.{◌≡◌, ℕ, List, Some, None, ◌∙◌, ap}
use Rattle.htl_patch.proofs.Words.{Tables, Fun, Comm, Inv, Mode, Module, Port, Switch, Task, first_limit, Joins, patched, AreMatched, IsEarlyFault, Replacement}
use Rattle.htl_patch.specs.declared.fault.PatchFault.TheVariants as fault

abbrev pub made : List Comm → List Mode → List Module → List Port → List Task → List Inv → List Switch → List Fun → Tables
made comms modes units ports tasks invs switches functions =
    record { comms = comms; modes = modes; modules = units; ports = ports; tasks = tasks; invs = invs; switches = switches; functions = functions }

pub same_tables : {a a' : List Comm} {b b' : List Mode} {c c' : List Module} {d d' : List Port} {e e' : List Task} {f f' : List Inv} {s s' : List Switch} {k k' : List Fun}
    → a ≡ a' → b ≡ b' → c ≡ c' → d ≡ d' → e ≡ e' → f ≡ f' → s ≡ s' → k ≡ k' → made a b c d e f s k ≡ made a' b' c' d' e' f' s' k'
same_tables {a} {a'} {b} {b'} {c} {c'} {d} {d'} {e} {e'} {f} {f'} {s} {s'} {k} {k'} p q r t u v w x =
    ap (λ (z : List Comm). made z b c d e f s k) p
    ∙ ap (λ (z : List Mode). made a' z c d e f s k) q
    ∙ ap (λ (z : List Module). made a' b' z d e f s k) r
    ∙ ap (λ (z : List Port). made a' b' c' z e f s k) t
    ∙ ap (λ (z : List Task). made a' b' c' d' z f s k) u
    ∙ ap (λ (z : List Inv). made a' b' c' d' e' z s k) v
    ∙ ap (λ (z : List Switch). made a' b' c' d' e' f' z k) w
    ∙ ap (λ (z : List Fun). made a' b' c' d' e' f' s' z) x

pub joined : (g : Replacement) → AreMatched g → first_limit (patched g) ≡ None → Joins g
joined g m e = record { comms = m.comms; parents = m.parents; names = m.names; limits = e }

pub limited : (g : Replacement) (which count : ℕ) → AreMatched g → first_limit (patched g) ≡ Some (which, count) → IsEarlyFault g (fault.Limit which count)
limited g which count m e = (m.comms, m.parents, m.names, e)
