use Rattle.std.proofs.Common.{◌≡◌, [], Ok, refl, arith}
use Rattle.htl_object.proofs.{Words.items_at, Words.task_at, Loops.onward, Sizes.items-length, Sizes.tasks-few}
use Rattle.htl_object.proofs.decoding.front.Goals as goal

pub function_count-count-requires : goal.function_count-count-requires
function_count-count-requires c =
    let n = c.in_ok-n.n in
    let e : items_at (task_at n.modules) n.tasks [] c.named_items-4.new.cursor ≡ Ok (c.in_ok-tasks.tasks.items, c.named_items-5.new.cursor) = c.in_ok-tasks.ensures in
    let few = tasks-few n.modules n.tasks [] c.named_items-4.new.cursor c.in_ok-tasks.tasks.items c.named_items-5.new.cursor e in
    rw c.deref-6.ensures.value (omega (arith, few, c.in_ok-n.ensures.few))

pub invariant_of-around : goal.invariant_of-around
invariant_of-around c =
    let n = c.in_ok-n.n in
    let e : items_at (task_at n.modules) n.tasks [] c.named_items-4.new.cursor ≡ Ok (c.in_ok-tasks.tasks.items, c.named_items-5.new.cursor) = c.in_ok-tasks.ensures in
    let size = items-length (task_at n.modules) n.tasks [] c.named_items-4.new.cursor c.in_ok-tasks.tasks.items c.named_items-5.new.cursor e in
    rw c.deref-3.ensures.value (omega (arith, size, c.in_ok-n.ensures.few))

pub returns : goal.returns
returns c =
    onward _ c.in_ok-platform.ensures (onward _ c.in_ok-n.ensures.reads (onward _ c.in_ok-comms.ensures (onward _ c.in_ok-modes.ensures (onward _ (rw c.deref.ensures.value at c.in_ok-modules.ensures)
    (onward _ c.in_ok-ports.ensures (onward _ c.in_ok-tasks.ensures (onward _ (rw (c.deref-2.ensures.value, c.deref-3.ensures.value, c.deref-4.ensures.value) at c.in_ok-invs.ensures.gives)
    (onward _ (rw c.deref-5.ensures.value at c.in_ok-switches.ensures) (onward _ (rw (c.function_count-count.ensures, c.deref-6.ensures.value) at c.in_ok-functions.ensures)
    (onward _ c.in_ok-anchors.ensures (onward _ c.in_ok-instrs.ensures
    (rw (c.new.ensures, c.new-2.ensures, c.new-3.ensures, c.new-4.ensures, c.new-5.ensures, c.new-6.ensures, c.new-7.ensures, c.new-8.ensures, c.new-9.ensures, c.new-10.ensures, c.new-12.ensures, c.new-11.ensures.items) refl))))))))))))
