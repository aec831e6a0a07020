use Rattle.std.proofs.Common.{◌≡◌, List, ℕ, true, [], ◌++◌, ◌∷◌, append_assoc, subst, sym, ap, ◌∙◌}
use Rattle.htl_platform.proofs.{Words.IsUtf8, Words.is_name, NameTexts.IsUtf8-dotted}
use Rattle.htl_platform.proofs.keys.dotted.Goals as goal

pub returns-clause-text : goal.returns-clause-text
returns-clause-text c =
    let module_name : is_name c.args.module.now ≡ true = ap is_name (sym c.as_bytes.ensures.value) ∙ c.as_bytes.ensures.name in
    let task_name : is_name c.args.task.now ≡ true = ap is_name (sym c.as_bytes-2.ensures.value) ∙ c.as_bytes-2.ensures.name in
    let front : c.extend_from_slice.new.self.items ≡ c.args.module.now =
    c.in_ok-extend_from_slice.ensures.items ∙ ap (λ (l : List ℕ). l ++ c.as_bytes.result.now) c.new-key.ensures.items ∙ c.as_bytes.ensures.value in
    let dot : c.push.new.self.items ≡ c.args.module.now ++ 46 ∷ [] = c.in_ok-push.ensures.items ∙ ap (λ (l : List ℕ). l ++ 46 ∷ []) front in
    let whole : c.extend_from_slice-2.new.self.items ≡ c.args.module.now ++ 46 ∷ c.args.task.now =
    c.in_ok-extend_from_slice-2.ensures.items ∙ ap (λ (l : List ℕ). l ++ c.as_bytes-2.result.now) dot
    ∙ ap (λ (l : List ℕ). (c.args.module.now ++ 46 ∷ []) ++ l) c.as_bytes-2.ensures.value ∙ append_assoc c.args.module.now (46 ∷ []) c.args.task.now in
    subst (λ (bytes : List ℕ). IsUtf8 bytes) (sym whole) (IsUtf8-dotted c.args.module.now c.args.task.now module_name task_name)
