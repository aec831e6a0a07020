use Rattle.std.proofs.Common.{◌≡◌, ◌∷◌, ◌++◌, ◌∙◌, [], false, ap, sym, arith, rules, to_z, of_z, w64}
use Rattle.htl_bulk.proofs.{Words.CommNode, Words.Id, Words.bulk_comm, Words.bulk_sensor, Words.comm_named, Words.list_to, Words.number, TreeParts.list_further}
use Rattle.std.proofs.Common.{ℤ, pos}
use Rattle.htl_base.specs.declared.Ty.TheVariants as ty
use Rattle.htl_text.specs.declared.tree.ConstNode.TheVariants as const
use Rattle.htl_bulk.proofs.source.comms.Goals as goal

pub loop-k-preserved : goal.loop-k-preserved
loop-k-preserved c =
    let k = c.loop-k.k in
    let of : Id → ℤ → CommNode = λ name x. record { sensor = false; ty = ty.Int; name = name; period = number (pos 100); init = const.Int 0 false x } in
    let is : to_z w64 (of_z w64 c.value_of.result) ≡ c.value_of.result = search rules in
    record {
      comms = c.in_ok-push.ensures.items ∙ ap (λ xs. xs ++ c.int_comm-in-loop-k.result ∷ []) c.loop-k.invariant.comms
          ∙ ap (λ x. bulk_sensor ∷ (list_to bulk_comm k ++ x ∷ [])) (c.int_comm-in-loop-k.ensures ∙ ap (of c.comm_named.result) is ∙ ap (λ name. of name c.value_of.result) c.comm_named.ensures ∙ ap (of (comm_named k)) c.value_of.ensures)
          ∙ ap (λ xs. bulk_sensor ∷ xs) (sym (list_further bulk_comm k));
    }

pub returns : goal.returns
returns c =
    let end : c.loop-k.k ≡ c.args.n = omega (arith, c.loop-k.auto.k-end, c.loop-k-test.false) in
    c.new.ensures ∙ c.loop-k.invariant.comms ∙ ap (λ k. bulk_sensor ∷ list_to bulk_comm k) end
