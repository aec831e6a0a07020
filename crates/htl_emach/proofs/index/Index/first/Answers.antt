use Rattle.std.proofs.Common.{◌≡◌, ◌<◌, length, get_or, sym, ap, ◌∙◌, subst, arith}
use Rattle.htl_emach.proofs.{Words.count_before, Words.Indices, Words.first_functions, Words.length-list_to, Words.get_list_to, IndexedPorts.count_few}
use Rattle.htl_emach.proofs.index.Index.first.Goals as goal

pub bounds-as_slice-task : goal.bounds-as_slice-task
bounds-as_slice-task c =
    let same : c.as_slice.result.now ≡ first_functions c.args.t.now = c.as_slice.ensures ∙ ap (λ (i : Indices). i.firsts) (c.self.view_is ∙ c.requires.index) in
    subst (λ xs. c.args.task < length xs) (sym same) (subst (λ n. c.args.task < n) (sym (length-list_to (λ k. count_before k c.args.t.now.tasks) (length c.args.t.now.tasks))) c.requires.known)

pub returns-clause-value : goal.returns-clause-value
returns-clause-value c =
    let same : c.as_slice.result.now ≡ first_functions c.args.t.now = c.as_slice.ensures ∙ ap (λ (i : Indices). i.firsts) (c.self.view_is ∙ c.requires.index) in
    ap (λ xs. get_or xs c.args.task 0) same ∙ get_list_to (λ k. count_before k c.args.t.now.tasks) (length c.args.t.now.tasks) c.args.task 0 c.requires.known

pub returns-clause-few : goal.returns-clause-few
returns-clause-few c =
    let same : c.as_slice.result.now ≡ first_functions c.args.t.now = c.as_slice.ensures ∙ ap (λ (i : Indices). i.firsts) (c.self.view_is ∙ c.requires.index) in
    let value = ap (λ xs. get_or xs c.args.task 0) same ∙ get_list_to (λ k. count_before k c.args.t.now.tasks) (length c.args.t.now.tasks) c.args.task 0 c.requires.known in
    let few = count_few c.args.t.now c.keeps_ranges.ensures.ranges c.args.task in
    omega (arith, value, few, c.requires.known, c.keeps_ranges.ensures.ranges.few_tasks)
