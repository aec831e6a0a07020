use Rattle.std.proofs.Common.{◌≡◌, List, ℕ, [], Option, Some, None, ap, sym, ◌∙◌}
use Rattle.std.specs.Prelude.{slice_get}
use Rattle.htl_model.specs.{Tables.Tables, declared.parts.Inv.Inv, declared.parts.Task.Task}
use Rattle.htl_open.proofs.Found.{found_at, none_at}
use Rattle.htl_open.proofs.lookups.task_name.Goals as goal

abbrev name_of : Option Task → List ℕ
name_of (Some x) = x.name
name_of None = []

abbrev name_in : Tables → Option Inv → List ℕ
name_in t (Some x) = name_of (slice_get t.tasks x.task)
name_in t None = []

pub returns-in-Some-get-clause-name : goal.returns-in-Some-get-clause-name
returns-in-Some-get-clause-name c =
    let t : Tables = c.args.t.now in
    let invs : c.as_slice.result.now ≡ t.invs = c.as_slice.ensures ∙ ap (λ (t : Tables). t.invs) (sym c.parts.ensures.value) in
    let tasks : c.as_slice-2.result.now ≡ t.tasks = c.as_slice-2.ensures ∙ ap (λ (t : Tables). t.tasks) (sym c.parts-2.ensures.value) in
    let inv = found_at Inv c.as_slice.result.now t.invs c.args.inv c.in-Some.inv.now invs c.in-Some.ensures.lookup.0 c.in-Some.ensures.lookup.1 in
    let task = found_at Task c.as_slice-2.result.now t.tasks c.in-Some.inv.now.task c.in-Some-get.task.now tasks c.in-Some-get.ensures.lookup.0 c.in-Some-get.ensures.lookup.1 in
    c.as_bytes.ensures.value ∙ sym (ap (name_in t) inv ∙ ap name_of task)

pub returns-in_default-clause-name : goal.returns-in_default-clause-name
returns-in_default-clause-name c =
    let t : Tables = c.args.t.now in
    let invs : c.as_slice.result.now ≡ t.invs = c.as_slice.ensures ∙ ap (λ (t : Tables). t.invs) (sym c.parts.ensures.value) in
    sym (ap (name_in t) (none_at Inv c.as_slice.result.now t.invs c.args.inv invs c.in_default.ensures.lookup.3))

pub returns-in-None-clause-name : goal.returns-in-None-clause-name
returns-in-None-clause-name c =
    let t : Tables = c.args.t.now in
    let invs : c.as_slice.result.now ≡ t.invs = c.as_slice.ensures ∙ ap (λ (t : Tables). t.invs) (sym c.parts.ensures.value) in
    let tasks : c.as_slice-2.result.now ≡ t.tasks = c.as_slice-2.ensures ∙ ap (λ (t : Tables). t.tasks) (sym c.parts-2.ensures.value) in
    let inv = found_at Inv c.as_slice.result.now t.invs c.args.inv c.in-Some.inv.now invs c.in-Some.ensures.lookup.0 c.in-Some.ensures.lookup.1 in
    sym (ap (name_in t) inv ∙ ap name_of (none_at Task c.as_slice-2.result.now t.tasks c.in-Some.inv.now.task tasks c.in-None.ensures.lookup.3))
