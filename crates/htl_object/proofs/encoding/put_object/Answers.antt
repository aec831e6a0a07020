use Rattle.std.proofs.Common.{◌≡◌, ◌++◌, map, length, sym, ap, subst, ◌∙◌}
use Rattle.htl_object.proofs.Words.{flat_map, All-map, on_ok_weaker, list_to, Tables, fun_of, tables_of, Puts, comm_bytes, counts_bytes, anchors_bytes, e_code_bytes, code_bytes, inv_bytes, switch_bytes, anchors_of, codes_of, counts_in, mode_bytes, module_bytes, KeepsFunction, KeepsTypes, object_bytes, port_bytes, task_bytes, head_bytes, tail_bytes}
use Rattle.htl_object.proofs.{Appends.appends, Appends.puts_same, Spelled.functions_spelled, Spelled.enter_kept, Spelled.begin_kept, Spelled.decide_kept}
use Rattle.htl_object.proofs.encoding.put_object.Goals as goal

pub returns-clause-spelled : goal.returns-clause-spelled
returns-clause-spelled c =
    on_ok_weaker c.put_tail.result (λ tail.
    let o = c.args.o.now in
    let p = c.parts-parts.result.now in
    let t = tables_of p in
    let ms = length p.modes in
    let t14 = tail_bytes o.platform o.schedules in
    let t13 = e_code_bytes o.ecode.instrs in
    let t12 = flat_map anchors_bytes (list_to (anchors_of o.ecode) ms) ++ t13 in
    let t11 = flat_map code_bytes (codes_of (map fun_of p.functions)) ++ t12 in
    let t10 = flat_map switch_bytes p.switches ++ t11 in
    let t9 = flat_map inv_bytes p.invs ++ t10 in
    let t8 = flat_map task_bytes p.tasks ++ t9 in
    let t7 = flat_map port_bytes p.ports ++ t8 in
    let t6 = flat_map module_bytes p.modules ++ t7 in
    let t5 = flat_map mode_bytes p.modes ++ t6 in
    let t4 = flat_map comm_bytes p.comms ++ t5 in
    let t3 = counts_bytes (counts_in t) ++ t4 in
    let functions : Puts (flat_map code_bytes (codes_of (map fun_of p.functions))) c.put_all-7.new.out c.put_all-8.new.out =
    puts_same _ _ _ _ (functions_spelled p.functions) (rw c.as_slice-8.ensures at c.put_all-8.ensures.spelled) in
    let e13 : Puts t13 c.put_anchors.new.out c.put_long_list.new.out = rw c.as_slice-10.ensures at c.put_long_list.ensures.spelled in
    let e12 = appends (flat_map anchors_bytes (list_to (anchors_of o.ecode) ms)) t13 c.put_all-8.new.out c.put_anchors.new.out c.put_long_list.new.out (rw c.as_slice-9.ensures at c.put_anchors.ensures.spelled) e13 in
    let e11 = appends (flat_map code_bytes (codes_of (map fun_of p.functions))) t12 c.put_all-7.new.out c.put_all-8.new.out c.put_long_list.new.out functions e12 in
    let e10 = appends (flat_map switch_bytes p.switches) t11 c.put_all-6.new.out c.put_all-7.new.out c.put_long_list.new.out (rw c.as_slice-7.ensures at c.put_all-7.ensures.spelled) e11 in
    let e9 = appends (flat_map inv_bytes p.invs) t10 c.put_all-5.new.out c.put_all-6.new.out c.put_long_list.new.out (rw c.as_slice-6.ensures at c.put_all-6.ensures.spelled) e10 in
    let e8 = appends (flat_map task_bytes p.tasks) t9 c.put_all-4.new.out c.put_all-5.new.out c.put_long_list.new.out (rw c.as_slice-5.ensures at c.put_all-5.ensures.spelled) e9 in
    let e7 = appends (flat_map port_bytes p.ports) t8 c.put_all-3.new.out c.put_all-4.new.out c.put_long_list.new.out (rw c.as_slice-4.ensures at c.put_all-4.ensures.spelled) e8 in
    let e6 = appends (flat_map module_bytes p.modules) t7 c.put_all-2.new.out c.put_all-3.new.out c.put_long_list.new.out (rw c.as_slice-3.ensures at c.put_all-3.ensures.spelled) e7 in
    let e5 = appends (flat_map mode_bytes p.modes) t6 c.put_all.new.out c.put_all-2.new.out c.put_long_list.new.out (rw c.as_slice-2.ensures at c.put_all-2.ensures.spelled) e6 in
    let e4 = appends (flat_map comm_bytes p.comms) t5 c.put_counts.new.out c.put_all.new.out c.put_long_list.new.out (rw c.as_slice.ensures at c.put_all.ensures.spelled) e5 in
    let e3 = appends (counts_bytes (counts_in t)) t4 c.put_head.new.out c.put_counts.new.out c.put_long_list.new.out c.put_counts.ensures e4 in
    let front = appends (head_bytes o.platform) t3 c.args.out.now c.put_head.new.out c.put_long_list.new.out c.put_head.ensures.spelled e3 in
    puts_same _ _ c.args.out.now c.put_tail.new.out
    (ap (λ (x : Tables). object_bytes (record { tables = x; ecode = o.ecode; schedules = o.schedules; platform = o.platform })) (sym c.parts-parts.ensures.value))
    (appends (head_bytes o.platform ++ t3) t14 c.args.out.now c.put_long_list.new.out c.put_tail.new.out front (rw c.as_slice-11.ensures at tail)))
    c.put_tail.ensures.spelled

pub returns-clause-types : goal.returns-clause-types
returns-clause-types c =
    on_ok_weaker c.put_tail.result (λ schedules.
    let o = c.args.o.now in
    let p = c.parts-parts.result.now in
    let typed : KeepsTypes (record { tables = tables_of p; ecode = o.ecode; schedules = o.schedules; platform = o.platform }) = (
    let n = length p.modes in
    let anchors = rw c.as_slice-9.ensures at c.put_anchors.ensures.types in
    let same : length o.tables.modes ≡ n = ap (λ (x : Tables). length x.modes) c.parts-parts.ensures.value in
    record {
      comms = rw c.as_slice.ensures at c.put_all.ensures.types;
      modes = rw c.as_slice-2.ensures at c.put_all-2.ensures.types;
      modules = rw c.as_slice-3.ensures at c.put_all-3.ensures.types;
      ports = rw c.as_slice-4.ensures at c.put_all-4.ensures.types;
      tasks = rw c.as_slice-5.ensures at c.put_all-5.ensures.types;
      functions = All-map KeepsFunction fun_of p.functions (rw c.as_slice-8.ensures at c.put_all-8.ensures.types);
      enter = enter_kept o.ecode n (c.requires.range.enter ∙ same) anchors;
      begin = begin_kept o.ecode n (c.requires.range.begin ∙ same) anchors;
      decide = decide_kept o.ecode n (c.requires.range.decide ∙ same) anchors;
      instrs = rw c.as_slice-10.ensures at c.put_long_list.ensures.types;
      schedules = rw c.as_slice-11.ensures at schedules;
      platform = c.put_head.ensures.types;
    }
    ) in
    subst (λ (x : Tables). KeepsTypes (record { tables = x; ecode = o.ecode; schedules = o.schedules; platform = o.platform })) (sym c.parts-parts.ensures.value) typed)
    c.put_tail.ensures.types
