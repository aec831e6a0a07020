-- Reading statements looks no further than to the token at which it stops.
use Rattle.std.proofs.Common.{arith, ◌≡◌, ℕ, Bool, true, false, cond, List, [], ◌∷◌, None, Some, Ok, Err, refl, subst, inl, inr}
use Rattle.std.specs.Prelude.{◌==◌}
use Rattle.htl_parse.proofs.Words.{Placed, Put, Concrete, Abstract, SpellsComm, SpellsTask, SpellsPort, SpellsInvoke, SpellsSwitch, SpellsMode, SpellsModule, SpellsProgram, Word, word_code, expr_at, read_expr, list_at, repeated_at}
use Rattle.htl_text.specs.declared.token.Token.TheVariants as token
use Rattle.htl_text.specs.declared.token.Sign.TheVariants as sign
use Rattle.htl_text.specs.declared.token.Word.TheVariants as word
use Rattle.htl_parse.specs.Reading.{Read, Reader, ◌>>=◌, after_sign, after_word, place_at, name_at, number_at, type_at, negative_at, const_at, clause_by, clause_at}
use Rattle.htl_parse.specs.ReadingStatements.{param_at, out_at, kind_at, begins_comm, comm_at, outputs_at, task_by, task_at, begins_task, port_at, begins_port, instance_at, port_end_at, end_at, invoke_at, begins_invoke, switch_at, begins_switch, begins_mode, mode_at, begins_module, module_at, begins_program, program_at, source_at}
use Rattle.htl_parse.proofs.{Fixed.read_expr-at, Fronts.less-of, Items.param-less, Items.out-less, Items.end-less, Parts.comm-part, Parts.task-part, Parts.port-part, Parts.invoke-part, Parts.switch-part, LocalExpressions.expr-local}
use Rattle.htl_parse.proofs.{Sources.mode-part, Sources.module-part, Sources.program-part, ViableParts.port-tells, ViableParts.invoke-tells, ViableStatements.comm-tells, ViableStatements.task-tells, ViableStatements.switch-tells}
use Rattle.htl_parse.proofs.{ViableSources.mode-tells, ViableSources.module-tells, ViableSources.program-tells, LocalLists.list-local, LocalLists.repeated-local}
use Rattle.htl_parse.proofs.Locality.{Alike, here, later, Both, Local, Begun, local-ok, local-err, local-by, local-bound, local-then, local-sign}

local-word : {B : Type 0} (wanted : Word) (next : List Placed → Read B) → Local next → Local (λ (ts : List Placed). after_word wanted ts >>= next)
local-word wanted next l = local-by (λ (ts : List Placed). after_word wanted ts >>= next) (omega arith) each
  where
    each : (p : Placed) → Begun p (λ (us : List Placed). after_word wanted (p ∷ us) >>= next)
    each (Put j (token.Word w)) = elim (word_code w == word_code wanted)
        as (λ (b : Bool). Begun (Put j (token.Word w)) (λ (us : List Placed). cond b (Ok us) (Err (Put j (token.Word w) ∷ us)) >>= next))
        [ true ↦ inl l | false ↦ inr (λ us. Err us, local-err, λ us. refl) ]
    each p = inr (λ us. Err us, local-err, λ us. refl)

name-local : Local name_at
name-local = local-by name_at (omega arith) each
  where
    each : (p : Placed) → Begun p (λ (us : List Placed). name_at (p ∷ us))
    each (Put j (token.Ident n)) = inl (local-ok _)
    each p = inr (λ us. Err us, local-err, λ us. refl)

number-local : Local number_at
number-local = local-by number_at (omega arith) each
  where
    each : (p : Placed) → Begun p (λ (us : List Placed). number_at (p ∷ us))
    each (Put j (token.Number x)) = inl (local-ok _)
    each p = inr (λ us. Err us, local-err, λ us. refl)

type-local : Local type_at
type-local = local-by type_at (omega arith) each
  where
    each : (p : Placed) → Begun p (λ (us : List Placed). type_at (p ∷ us))
    each (Put j (token.Word word.Int)) = inl (local-ok _)
    each (Put j (token.Word word.Bool)) = inl (local-ok _)
    each p = inr (λ us. Err us, local-err, λ us. refl)

kind-local : Local kind_at
kind-local = local-by kind_at (omega arith) each
  where
    each : (p : Placed) → Begun p (λ (us : List Placed). kind_at (p ∷ us))
    each (Put j (token.Word word.Communicator)) = inl (local-ok _)
    each (Put j (token.Word word.Sensor)) = inl (local-ok _)
    each p = inr (λ us. Err us, local-err, λ us. refl)

negative-local : (j : ℕ) → Local (negative_at j)
negative-local j = local-then number_at _ number-local (λ n. local-ok _)

const-local : Local const_at
const-local = local-by const_at (omega arith) each
  where
    each : (p : Placed) → Begun p (λ (us : List Placed). const_at (p ∷ us))
    each (Put j (token.Number x)) = inl (local-ok _)
    each (Put j (token.Sign sign.Minus)) = inl (negative-local j)
    each (Put j (token.Word word.True)) = inl (local-ok _)
    each (Put j (token.Word word.False)) = inl (local-ok _)
    each p = inr (λ us. Err us, local-err, λ us. refl)

named-local : Local (λ (ts : List Placed). name_at ts >>= λ n. Ok (Some n.0, n.1))
named-local = local-then name_at _ name-local (λ n. local-ok (Some n))

clause-local : (wanted : Word) → Local (clause_at wanted)
clause-local wanted = local-by (clause_at wanted) (omega arith) each
  where
    each : (p : Placed) → Begun p (λ (us : List Placed). clause_at wanted (p ∷ us))
    each (Put j (token.Word w)) = elim (word_code w == word_code wanted)
        as (λ (b : Bool). Begun (Put j (token.Word w)) (λ (us : List Placed). clause_by (Put j (token.Word w) ∷ us) us b))
        [ true ↦ inl named-local | false ↦ inr (λ us. Ok (None, us), local-ok None, λ us. refl) ]
    each p = inr (λ us. Ok (None, us), local-ok None, λ us. refl)

read_expr-local : Local read_expr
read_expr-local = local-bound expr_at read_expr read_expr-at expr-local

places : (m k us vs : List Placed) → Alike m k us vs → place_at us ≡ place_at vs
places m k _ _ (here (Put j t)) = refl
places m k _ _ (later (Put j t) us vs al) = refl

-- the number of the next token is kept
local-placed : {A B : Type 0} (r : Reader A) (next : ℕ → A × List Placed → Read B) → Local r → ((j : ℕ) (a : A) → Local (λ (us : List Placed). next j (a, us))) → Local (λ (ts : List Placed). r ts >>= next (place_at ts))
local-placed {A} {B} r next lr each = record {
  less = λ us. (local-then r (next (place_at us)) lr (each (place_at us))).less us;
  same = λ m k us vs al. subst (λ (j : ℕ). Both m k (r us >>= next (place_at us)) (r vs >>= next j)) (places m k us vs al) ((local-then r (next (place_at us)) lr (each (place_at us))).same m k us vs al);
}

param-local : Local param_at
unfolding param_at
param-local = local-then type_at _ type-local (λ t. local-then name_at _ name-local (λ n. local-ok _))

out-local : Local out_at
unfolding out_at
out-local = local-then param_at _ param-local (λ p. local-sign sign.Assign _ (local-placed read_expr (λ j e. Ok (record { param = p; first = j; value = e.0 }, e.1)) read_expr-local (λ j e. local-ok _)))

comm-local : Local comm_at
unfolding comm_at
comm-local =
    local-then kind_at _ kind-local (λ b. local-then type_at _ type-local (λ t. local-then name_at _ name-local (λ n. local-word word.Period _ (local-then number_at _ number-local (λ p.
    local-word word.Init _ (local-then const_at _ const-local (λ c. local-sign sign.Semicolon _ (local-ok _))))))))

outputs-local : (b : Bool) → Local (outputs_at b)
outputs-local false = local-then (list_at out_at) _ (list-local out_at out-local out-less) (λ xs. local-ok (Concrete xs))
outputs-local true = local-then (list_at param_at) _ (list-local param_at param-local param-less) (λ xs. local-ok (Abstract xs))

task_by-local : (b : Bool) → Local (task_by b)
unfolding task_by
task_by-local b =
    local-word word.Task _ (local-then name_at _ name-local (λ n. local-word word.Input _ (local-then (list_at param_at) _ (list-local param_at param-local param-less) (λ ins. local-word word.Output _
    (local-then (outputs_at b) _ (outputs-local b) (λ os. local-word word.Worst _ (local-then number_at _ number-local (λ w. local-sign sign.Semicolon _ (local-ok _)))))))))

task-local : Local task_at
task-local = local-by task_at ((task_by-local false).less []) each
  where
    each : (p : Placed) → Begun p (λ (us : List Placed). task_at (p ∷ us))
    each (Put j (token.Word word.Abstract)) = inl (task_by-local true)
    each p = inr (task_by false, task_by-local false, λ us. refl)

port-local : Local port_at
unfolding port_at
port-local = local-word word.Port _ (local-then param_at _ param-local (λ p. local-sign sign.Semicolon _ (local-ok p)))

instance-local : Local instance_at
unfolding instance_at
instance-local = local-then name_at _ name-local (λ n. local-sign sign.Comma _ (local-then number_at _ number-local (λ i. local-sign sign.CloseParen _ (local-ok _))))

port_end-local : Local port_end_at
unfolding port_end_at
port_end-local = local-then name_at _ name-local (λ n. local-ok _)

end-local : Local end_at
end-local = local-by end_at (port_end-local.less []) each
  where
    each : (p : Placed) → Begun p (λ (us : List Placed). end_at (p ∷ us))
    each (Put j (token.Sign sign.OpenParen)) = inl instance-local
    each p = inr (port_end_at, port_end-local, λ us. refl)

invoke-local : Local invoke_at
unfolding invoke_at
invoke-local =
    local-word word.Invoke _ (local-then name_at _ name-local (λ n. local-word word.Input _ (local-then (list_at end_at) _ (list-local end_at end-local end-less) (λ rs. local-word word.Output _
    (local-then (list_at end_at) _ (list-local end_at end-local end-less) (λ ws. local-then (clause_at word.Parent) _ (clause-local word.Parent) (λ p. local-sign sign.Semicolon _ (local-ok _))))))))

switch-local : Local switch_at
unfolding switch_at
switch-local =
    local-word word.Switch _ (local-sign sign.OpenParen _ (local-placed read_expr (λ j e. after_sign sign.Comma e.1 >>= λ ws. name_at ws >>= λ n. after_sign sign.CloseParen n.1
    >>= λ xs. after_sign sign.Semicolon xs >>= λ rest. Ok (record { first = j; cond = e.0; target = n.0 }, rest)) read_expr-local
    (λ j e. local-sign sign.Comma _ (local-then name_at _ name-local (λ n. local-sign sign.CloseParen _ (local-sign sign.Semicolon _ (local-ok _)))))))

-- the first token tells whether a part begins
heads : (p : Placed) (us vs : List Placed)
    → (begins_comm (p ∷ us) ≡ begins_comm (p ∷ vs)) × (begins_task (p ∷ us) ≡ begins_task (p ∷ vs)) × (begins_port (p ∷ us) ≡ begins_port (p ∷ vs)) ×
    (begins_invoke (p ∷ us) ≡ begins_invoke (p ∷ vs))
    × (begins_switch (p ∷ us) ≡ begins_switch (p ∷ vs)) × (begins_mode (p ∷ us) ≡ begins_mode (p ∷ vs)) × (begins_module (p ∷ us) ≡ begins_module (p ∷ vs)) ×
    (begins_program (p ∷ us) ≡ begins_program (p ∷ vs))
heads (Put j (token.Word word.Communicator)) us vs = (refl, refl, refl, refl, refl, refl, refl, refl)
heads _ us vs = (refl, refl, refl, refl, refl, refl, refl, refl)

ports-local : Local (repeated_at begins_port port_at)
ports-local = repeated-local port_at port-local (less-of SpellsPort port_at port-part.shorter port-tells) begins_port refl (λ p us vs. (heads p us vs).2)

invokes-local : Local (repeated_at begins_invoke invoke_at)
invokes-local = repeated-local invoke_at invoke-local (less-of SpellsInvoke invoke_at invoke-part.shorter invoke-tells) begins_invoke refl (λ p us vs. (heads p us vs).3)

switches-local : Local (repeated_at begins_switch switch_at)
switches-local = repeated-local switch_at switch-local (less-of SpellsSwitch switch_at switch-part.shorter switch-tells) begins_switch refl (λ p us vs. (heads p us vs).4)

mode-local : Local mode_at
unfolding mode_at
mode-local =
    local-word word.Mode _ (local-then name_at _ name-local (λ n. local-word word.Period _ (local-then number_at _ number-local (λ p. local-then (clause_at word.Program) _ (clause-local word.Program) (λ r.
    local-sign sign.OpenBrace _ (local-then (repeated_at begins_port port_at) _ ports-local (λ ps. local-then (repeated_at begins_invoke invoke_at) _ invokes-local (λ is.
    local-then (repeated_at begins_switch switch_at) _ switches-local (λ ss. local-sign sign.CloseBrace _ (local-ok _))))))))))

module-local : Local module_at
unfolding module_at
module-local =
    local-word word.Module _ (local-then name_at _ name-local (λ n. local-word word.Start _ (local-then name_at _ name-local (λ d. local-sign sign.OpenBrace _
    (local-then (repeated_at begins_task task_at) _ (repeated-local task_at task-local (less-of SpellsTask task_at task-part.shorter task-tells) begins_task refl (λ p us vs. (heads p us vs).1)) (λ tasks.
    local-then (repeated_at begins_mode mode_at) _ (repeated-local mode_at mode-local (less-of SpellsMode mode_at mode-part.shorter mode-tells) begins_mode refl (λ p us vs. (heads p us vs).5)) (λ modes.
    local-sign sign.CloseBrace _ (local-ok _))))))))

program-local : Local program_at
unfolding program_at
program-local =
    local-word word.Program _ (local-then name_at _ name-local (λ n. local-sign sign.OpenBrace _
    (local-then (repeated_at begins_comm comm_at) _ (repeated-local comm_at comm-local (less-of SpellsComm comm_at comm-part.shorter comm-tells) begins_comm refl (λ p us vs. (heads p us vs).0)) (λ comms.
    local-then (repeated_at begins_module module_at) _ (repeated-local module_at module-local (less-of SpellsModule module_at module-part.shorter module-tells) begins_module refl (λ p us vs. (heads p us vs).6)) (λ modules.
    local-sign sign.CloseBrace _ (local-ok _))))))

pub source-local : Local source_at
unfolding source_at
source-local =
    local-then program_at _ program-local (λ p.
    local-then (repeated_at begins_program program_at) _ (repeated-local program_at program-local (less-of SpellsProgram program_at program-part.shorter program-tells) begins_program refl (λ p us vs. (heads p us vs).7)) (λ ps. local-ok _))
